-- How a text is cut, one byte after another, and what is left of it without the elements in front.
--
-- A list is cut at its commas, and a piece without the blanks round it is an element. What was read of the first piece
-- goes on by a byte or a stretch (`cut_more`, `cut_on`), outside of quoted strings and within (`cut_plain`,
-- `cut_within`). Blanks and commas in front are skipped (`elements_skip_blank`). Blanks at the end go one by one
-- (`trim_end_less`). At last `first_element` joins these: the first element, and those of the text behind its comma.
use Rattle.std.{proofs.{Common.{◌≡◌, ◌≢◌, ℕ, ◌+◌, ◌-◌, ◌<◌, ◌≤◌, Bool, true, false, cond, eqb, not, List, [], ◌∷◌, ◌++◌, length, get_or, take, drop, refl, sym, ap, ◌∙◌, subst, inl, inr, arith}, Math.Seq.{take-add}, lemmas.{Bool.{cases_lt, cond-false, cond-true, ne_eqb, true≢false, false≢true, Decides.{nat_tests}}, List.{append_assoc, append-nil, at_drop_more, at_drop_all, drop-drop, reverse-append, reverse-reverse, Edits.{between_none, between_more, length-between, get_or-between}}}}, specs.Prelude.{slice_range, reverse, min}}
use Rattle.hc_text.specs.Elements.{comma, is_blank, Place, Outside, Within, Taken, after, separates, begin_with, cut_pieces, skip_blanks, trim_end, trimmed_text, elements_of, elements}

pub begin_with-begin_with : (xs ys : List ℕ) (pieces : List (List ℕ)) → begin_with xs (begin_with ys pieces) ≡ begin_with (xs ++ ys) pieces
begin_with-begin_with xs ys [] = refl
begin_with-begin_with xs ys (piece ∷ pieces) = ap (λ (p : List ℕ). p ∷ pieces) (sym (append_assoc xs ys piece))

-- a cut gives one piece at least
begin_with-cut_cond : (b : Bool) (bytes : List ℕ) (xs : List (List ℕ)) (ys : List (List ℕ)) →
    begin_with [] (cond b ([] ∷ xs) (begin_with bytes ys)) ≡ cond b ([] ∷ xs) (begin_with bytes ys)
begin_with-cut_cond b bytes xs ys = grind (arith, nat_tests)

pub begin_with-cut : (place : Place) (text : List ℕ) → begin_with [] (cut_pieces place text) ≡ cut_pieces place text
begin_with-cut place [] = refl
begin_with-cut place (b ∷ text) = begin_with-cut_cond (separates place b) (b ∷ []) (cut_pieces Outside text) (cut_pieces (after place b) text)

-- nothing is read yet
pub cut_start : (text : List ℕ) (start : ℕ) (place : Place) →
    cut_pieces place (drop start text) ≡ begin_with (slice_range text start start) (cut_pieces place (drop start text))
cut_start text start place = rw between_none (sym (begin_with-cut place (drop start text)))

cut_byte : (text : List ℕ) (at : ℕ) (place : Place) → at < length text → separates place (get_or text at 0) ≡ false
    → cut_pieces place (drop at text) ≡ begin_with (get_or text at 0 ∷ []) (cut_pieces (after place (get_or text at 0)) (drop (at + 1) text))
cut_byte text at place inside joins = at_drop_more (cut_pieces place) text at 0 inside ∙
    cond-false (separates place (get_or text at 0)) ([] ∷ cut_pieces Outside (drop (at + 1) text))
    (begin_with (get_or text at 0 ∷ []) (cut_pieces (after place (get_or text at 0)) (drop (at + 1) text))) joins

-- one byte more is read
pub cut_more : (text : List ℕ) (start at : ℕ) (first place : Place) → start ≤ at → at < length text → separates place (get_or text at 0) ≡ false
    → cut_pieces first (drop start text) ≡ begin_with (slice_range text start at) (cut_pieces place (drop at text))
    → cut_pieces first (drop start text) ≡ begin_with (slice_range text start (at + 1)) (cut_pieces (after place (get_or text at 0)) (drop (at + 1) text))
cut_more text start at first place from inside joins so_far =
    let b = get_or text at 0 in
    let rest = cut_pieces (after place b) (drop (at + 1) text) in
    so_far ∙ ap (begin_with (slice_range text start at)) (cut_byte text at place inside joins)
    ∙ begin_with-begin_with (slice_range text start at) (b ∷ []) rest
    ∙ ap (λ (p : List ℕ). begin_with p rest) (sym (between_more text start at 0 from inside))

slices_join : (text : List ℕ) (i j k : ℕ) → i ≤ j → j ≤ k → slice_range text i j ++ slice_range text j k ≡ slice_range text i k
slices_join text i j k ij jk =
    let place : i + (j - i) ≡ j = omega arith in
    ap (λ (xs : List ℕ). take (j - i) (drop i text) ++ take (k - j) xs) (ap (λ (n : ℕ). drop n text) (sym place) ∙ sym (drop-drop (j - i) i text))
    ∙ sym (take-add (j - i) (k - j) (drop i text)) ∙ ap (λ (n : ℕ). take n (drop i text)) (omega arith)

-- a whole stretch more is read
pub cut_on : (text : List ℕ) (start at to : ℕ) (first place next : Place) → start ≤ at → at ≤ to
    → cut_pieces first (drop start text) ≡ begin_with (slice_range text start at) (cut_pieces place (drop at text))
    → cut_pieces place (drop at text) ≡ begin_with (slice_range text at to) (cut_pieces next (drop to text))
    → cut_pieces first (drop start text) ≡ begin_with (slice_range text start to) (cut_pieces next (drop to text))
cut_on text start at to first place next from on so_far more = search (arith, begin_with-begin_with, slices_join)

abbrev keeps : List ℕ → Bool
keeps piece = not (eqb (length piece) 0)

elements_of-begin_blank : (b : ℕ) → is_blank b ≡ true → (pieces : List (List ℕ)) → elements_of (begin_with (b ∷ []) pieces) ≡ elements_of pieces
elements_of-begin_blank b blank pieces = grind (arith, nat_tests)

cut-blank : (b : ℕ) (text : List ℕ) → is_blank b ≡ true → cut_pieces Outside (b ∷ text) ≡ begin_with (b ∷ []) (cut_pieces Outside text)
cut-blank b text blank = grind (arith, nat_tests)

elements-blank : (b : ℕ) (text : List ℕ) → is_blank b ≡ true → elements (b ∷ text) ≡ elements text
unfolding elements
elements-blank b text blank = ap elements_of (cut-blank b text blank) ∙ elements_of-begin_blank b blank (cut_pieces Outside text)

elements-comma : (b : ℕ) (text : List ℕ) → b ≡ comma → elements (b ∷ text) ≡ elements text
unfolding elements
elements-comma b text is_comma = let P : ℕ → Type 0 = λ c. elements (c ∷ text) ≡ elements text in subst P (sym is_comma) refl

pub elements-nil : elements [] ≡ []
unfolding elements
elements-nil = refl

pub elements_past : (text : List ℕ) (at : ℕ) → length text ≤ at → elements (drop at text) ≡ []
elements_past text at past = at_drop_all elements text at past ∙ elements-nil

pub elements_skip_blank : (text : List ℕ) (at : ℕ) → at < length text → is_blank (get_or text at 0) ≡ true →
    elements (drop at text) ≡ elements (drop (at + 1) text)
elements_skip_blank text at inside blank = at_drop_more elements text at 0 inside ∙ elements-blank (get_or text at 0) (drop (at + 1) text) blank

pub elements_skip_comma : (text : List ℕ) (at : ℕ) → at < length text → get_or text at 0 ≡ comma → elements (drop at text) ≡ elements (drop (at + 1) text)
elements_skip_comma text at inside is_comma = at_drop_more elements text at 0 inside ∙ elements-comma (get_or text at 0) (drop (at + 1) text) is_comma

-- the blanks at an end
reverse-push : (xs : List ℕ) (b : ℕ) → reverse (xs ++ b ∷ []) ≡ b ∷ reverse xs
reverse-push xs b = reverse-append xs (b ∷ [])

pub trim_end-blank : (xs : List ℕ) (b : ℕ) → is_blank b ≡ true → trim_end (xs ++ b ∷ []) ≡ trim_end xs
trim_end-blank xs b blank = ap (λ (ys : List ℕ). reverse (skip_blanks ys)) (reverse-push xs b) ∙
    ap reverse (cond-true (is_blank b) (skip_blanks (reverse xs)) (b ∷ reverse xs) blank)

pub trim_end-kept : (xs : List ℕ) (b : ℕ) → is_blank b ≡ false → trim_end (xs ++ b ∷ []) ≡ xs ++ b ∷ []
trim_end-kept xs b kept = ap (λ (ys : List ℕ). reverse (skip_blanks ys)) (reverse-push xs b) ∙
    ap reverse (cond-false (is_blank b) (skip_blanks (reverse xs)) (b ∷ reverse xs) kept) ∙ ap reverse (sym (reverse-push xs b)) ∙
    reverse-reverse (xs ++ b ∷ [])

pub trim_end_less : (text : List ℕ) (start stop : ℕ) → start ≤ stop → stop < length text → is_blank (get_or text stop 0) ≡ true →
    trim_end (slice_range text start (stop + 1)) ≡ trim_end (slice_range text start stop)
trim_end_less text start stop from inside blank = ap trim_end (between_more text start stop 0 from inside) ∙
    trim_end-blank (slice_range text start stop) (get_or text stop 0) blank

pub trim_end_here : (text : List ℕ) (start stop : ℕ) → start ≤ stop → stop < length text → is_blank (get_or text stop 0) ≡ false →
    trim_end (slice_range text start (stop + 1)) ≡ slice_range text start (stop + 1)
trim_end_here text start stop from inside kept = let more = between_more text start stop 0 from inside in ap trim_end more ∙
    trim_end-kept (slice_range text start stop) (get_or text stop 0) kept ∙ sym more

-- an element in front
skip_blanks-kept : (bytes : List ℕ) → is_blank (get_or bytes 0 0) ≡ false → skip_blanks bytes ≡ bytes
skip_blanks-kept [] kept = refl
skip_blanks-kept (b ∷ bytes) kept = cond-false (is_blank b) (skip_blanks bytes) (b ∷ bytes) kept

pub trimmed-kept : (bytes : List ℕ) → is_blank (get_or bytes 0 0) ≡ false → trimmed_text bytes ≡ trim_end bytes
trimmed-kept bytes kept = ap trim_end (skip_blanks-kept bytes kept)

pub elements_of-element : (piece element : List ℕ) (pieces : List (List ℕ)) → trimmed_text piece ≡ element → 0 < length element →
    elements_of (piece ∷ pieces) ≡ element ∷ elements_of pieces
elements_of-element piece element pieces is_element some = grind (arith, nat_tests)

-- the first piece, from start up to stop, is the element that ends at end and blanks after it
piece_element : (text : List ℕ) (start end stop : ℕ) (rest : List (List ℕ)) → start < end → end ≤ stop → stop ≤ length text
    → is_blank (get_or text start 0) ≡ false → trim_end (slice_range text start stop) ≡ slice_range text start end
    → elements_of (begin_with (slice_range text start stop) ([] ∷ rest)) ≡ slice_range text start end ∷ elements_of rest
piece_element text start end stop rest from on inside kept trims =
    let piece = slice_range text start stop in
    let element = slice_range text start end in
    let some : 0 < length element = omega (arith, length-between text start end (omega arith)) in
    let start_is : start + 0 ≡ start = omega arith in
    let first : is_blank (get_or piece 0 0) ≡ false =
    ap is_blank (get_or-between text start stop 0 0 (omega arith) ∙ ap (λ (n : ℕ). get_or text n 0) start_is) ∙ kept in
    let is_element : trimmed_text (piece ++ []) ≡ element = ap trimmed_text (append-nil piece) ∙ trimmed-kept piece first ∙ trims in
    elements_of-element (piece ++ []) element rest is_element some

pub first_element : (text : List ℕ) (start end stop next : ℕ) → start < end → end ≤ stop → stop ≤ length text → next ≡ min (length text) (stop + 1)
    → is_blank (get_or text start 0) ≡ false
    → cut_pieces Outside (drop start text) ≡ begin_with (slice_range text start stop) (cut_pieces Outside (drop stop text))
    → (stop < length text → get_or text stop 0 ≡ comma)
    → trim_end (slice_range text start stop) ≡ slice_range text start end
    → elements (drop start text) ≡ slice_range text start end ∷ elements (drop next text)
unfolding elements
first_element text start end stop next from on inside next_is kept piece ends trims =
    let front = begin_with (slice_range text start stop) in
    let element = slice_range text start end in
    elim (cases_lt stop (length text)) [
      | inl more ↦
          let rest = cut_pieces Outside (drop (stop + 1) text) in
          let parted : cut_pieces Outside (drop stop text) ≡ [] ∷ rest = at_drop_more (cut_pieces Outside) text stop 0 more ∙
          ap (λ (c : ℕ). cut_pieces Outside (c ∷ drop (stop + 1) text)) (ends more) in
          ap elements_of (piece ∙ ap front parted) ∙ piece_element text start end stop rest from on inside kept trims
          ∙ ap (λ (n : ℕ). element ∷ elements (drop n text)) (omega arith)
      | inr past ↦
          let parted : cut_pieces Outside (drop stop text) ≡ [] ∷ [] = at_drop_all (cut_pieces Outside) text stop past in
          ap elements_of (piece ∙ ap front parted) ∙ piece_element text start end stop [] from on inside kept trims
          ∙ ap (λ (es : List (List ℕ)). element ∷ es) (sym (elements_past text next (omega arith)))
    ]

-- a byte that is neither comma nor quote outside quoted strings, and a quote that opens one
pub cut_plain : (text : List ℕ) (start at : ℕ) → start ≤ at → at < length text → get_or text at 0 ≢ 44 → get_or text at 0 ≢ 34
    → cut_pieces Outside (drop start text) ≡ begin_with (slice_range text start at) (cut_pieces Outside (drop at text))
    → cut_pieces Outside (drop start text) ≡ begin_with (slice_range text start (at + 1)) (cut_pieces Outside (drop (at + 1) text))
cut_plain text start at from inside no_comma no_quote so_far =
    let b = get_or text at 0 in
    let place : after Outside b ≡ Outside = cond-false (eqb b 34) Within Outside (ne_eqb b 34 no_quote) in
    cut_more text start at Outside Outside from inside (ne_eqb b 44 no_comma) so_far ∙
    ap (λ (p : Place). begin_with (slice_range text start (at + 1)) (cut_pieces p (drop (at + 1) text))) place

pub cut_quote : (text : List ℕ) (start at : ℕ) → start ≤ at → at < length text → get_or text at 0 ≡ 34
    → cut_pieces Outside (drop start text) ≡ begin_with (slice_range text start at) (cut_pieces Outside (drop at text))
    → cut_pieces Outside (drop start text) ≡ begin_with (slice_range text start (at + 1)) (cut_pieces Within (drop (at + 1) text))
cut_quote text start at from inside is_quote so_far =
    let b = get_or text at 0 in
    let place : after Outside b ≡ Within = ap (after Outside) is_quote in
    let joins : separates Outside b ≡ false = ap (separates Outside) is_quote in
    cut_more text start at Outside Outside from inside joins so_far ∙
    ap (λ (p : Place). begin_with (slice_range text start (at + 1)) (cut_pieces p (drop (at + 1) text))) place

-- within a quoted string: its closing quote, and a byte of it
abbrev pub within : Bool → Place
within taken = cond taken Taken Within

pub cut_close : (text : List ℕ) (start at : ℕ) (taken : Bool) → start ≤ at → at < length text → taken ≡ false → get_or text at 0 ≡ 34
    → cut_pieces Within (drop start text) ≡ begin_with (slice_range text start at) (cut_pieces (within taken) (drop at text))
    → cut_pieces Within (drop start text) ≡ begin_with (slice_range text start (at + 1)) (cut_pieces Outside (drop (at + 1) text))
cut_close text start at true from inside free is_quote so_far = absurd (true≢false free)
cut_close text start at false from inside free is_quote so_far =
    cut_more text start at Within Within from inside refl so_far ∙
    ap (λ (c : ℕ). begin_with (slice_range text start (at + 1)) (cut_pieces (after Within c) (drop (at + 1) text))) is_quote

pub cut_taken : (text : List ℕ) (start at : ℕ) (taken next : Bool) → start ≤ at → at < length text → taken ≡ true → next ≡ false
    → cut_pieces Within (drop start text) ≡ begin_with (slice_range text start at) (cut_pieces (within taken) (drop at text))
    → cut_pieces Within (drop start text) ≡ begin_with (slice_range text start (at + 1)) (cut_pieces (within next) (drop (at + 1) text))
cut_taken text start at false next from inside is_taken next_is so_far = absurd (false≢true is_taken)
cut_taken text start at true next from inside is_taken next_is so_far =
    cut_more text start at Within Taken from inside refl so_far ∙
    ap (λ (t : Bool). begin_with (slice_range text start (at + 1)) (cut_pieces (within t) (drop (at + 1) text))) (sym next_is)

pub cut_within : (text : List ℕ) (start at : ℕ) (taken next : Bool) → start ≤ at → at < length text → taken ≡ false → get_or text at 0 ≢ 34 →
    next ≡ eqb (get_or text at 0) 92
    → cut_pieces Within (drop start text) ≡ begin_with (slice_range text start at) (cut_pieces (within taken) (drop at text))
    → cut_pieces Within (drop start text) ≡ begin_with (slice_range text start (at + 1)) (cut_pieces (within next) (drop (at + 1) text))
cut_within text start at true next from inside free no_quote next_is so_far = absurd (true≢false free)
cut_within text start at false next from inside free no_quote next_is so_far =
    let b = get_or text at 0 in
    let place : after Within b ≡ within next = cond-false (eqb b 34) Outside (within (eqb b 92)) (ne_eqb b 34 no_quote) ∙ ap within (sym next_is) in
    cut_more text start at Within Within from inside refl so_far ∙
    ap (λ (p : Place). begin_with (slice_range text start (at + 1)) (cut_pieces p (drop (at + 1) text))) place

-- the blanks before an end stop after the first byte that is none
pub before_blank : (text : List ℕ) (start end : ℕ) → start < end → is_blank (get_or text start 0) ≡ false → is_blank (get_or text (end - 1) 0) ≡ true →
    start < end - 1
before_blank text start end from kept blank = grind (arith, nat_tests)

-- one byte more before the end is a blank
pub blanks_more : (text : List ℕ) (last stop : ℕ) → is_blank (get_or text last 0) ≡ true
    → ((k : ℕ) → last < k → k < stop → is_blank (get_or text k 0) ≡ true)
    → (k : ℕ) → last ≤ k → k < stop → is_blank (get_or text k 0) ≡ true
blanks_more text last stop blank behind k from below = grind (arith, nat_tests)
