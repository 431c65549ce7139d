-- Bytes that are kept in segments.
--
-- All segments but the last have 16,384 bytes (`whole-length`). So a place is one in a segment, by quotient and
-- remainder, or one in the last bytes (`last-place`). What stands from there on begins with the rest of that segment
-- (`begin-whole`) or of the last bytes (`begin-last`). So a part of a segment is a part of all bytes (`part-whole`).
-- `filled` is for bytes that are put: the last segment is completed, whole ones follow, and the rest is the last one.
use Rattle.std.{proofs.{lemmas.{Bool.{cases_Bool, Decides.{nat_tests}}, List.{drop-append-le, take-append-drop, drop-drop, take_all, take-take, Folds.{concat-append}}}, Common.{◌≡◌, inl, inr, ℕ, zero, suc, ◌+◌, ◌-◌, ◌*◌, ◌/◌, ◌%◌, ◌<◌, ◌≤◌, List, [], ◌∷◌, ◌++◌, length, true, refl, sym, ap, ◌∙◌, arith, get_or, take, drop, append_assoc, append-nil, length-append, length-drop}, Math.Seq.{drop-append-add, take-append_seam, take-add}}, specs.{Prelude.{nat_eq, slice_range, Result, IfOk}, List.{concat}}}
use Rattle.hc_sparse.specs.Growing.{are_whole, Begin}

-- The first of whole segments is whole, and so are the others.
pub whole-cons : (s : List ℕ) (ss : List (List ℕ)) → are_whole (s ∷ ss) ≡ true → (length s ≡ 16384) × (are_whole ss ≡ true)
whole-cons s ss all = grind (arith, nat_tests)

-- How many bytes whole segments have.
pub whole-length : (ss : List (List ℕ)) → are_whole ss ≡ true → length (concat ss) ≡ length ss * 16384
whole-length [] all = refl
whole-length (s ∷ ss) all =
    let parts = whole-cons s ss all in
    let is = length-append s (concat ss) in
    omega (arith, parts.0, whole-length ss parts.1, is)

-- Whole segments and others behind them are whole.
pub whole-append : (ss ts : List (List ℕ)) → are_whole ss ≡ true → are_whole ts ≡ true → are_whole (ss ++ ts) ≡ true
whole-append [] ts all more = more
whole-append (s ∷ ss) ts all more = elim (cases_Bool (nat_eq (length s) 16384)) [
  | inl on ↦ rw on (whole-append ss ts (whole-cons s ss all).1 more)
  | inr off ↦ absurd (let never = rw off at all in cc)
]

-- How many bytes a segment has.
pub whole-at : (ss : List (List ℕ)) (i : ℕ) → are_whole ss ≡ true → i < length ss → length (get_or ss i []) ≡ 16384
whole-at [] i all lt = absurd (omega arith)
whole-at (s ∷ ss) zero all lt = (whole-cons s ss all).0
whole-at (s ∷ ss) (suc i) all lt = whole-at ss i (whole-cons s ss all).1 (omega arith)

-- What stands from a place in a segment on begins with the rest of the segment.
pub rest-whole : (ss : List (List ℕ)) (last : List ℕ) (i o : ℕ) → are_whole ss ≡ true → i < length ss → o ≤ 16384 → (more : List ℕ) ×
    (drop (i * 16384 + o) (concat ss ++ last) ≡ drop o (get_or ss i []) ++ more)
rest-whole [] last i o all lt le = absurd (omega arith)
rest-whole (s ∷ ss) last zero o all lt le =
    let len = (whole-cons s ss all).0 in
    let place : zero * 16384 + o ≡ o = omega arith in
    (concat ss ++ last, rw (append_assoc s (concat ss) last, place) (drop-append-le o s (concat ss ++ last) (omega (arith, len))))
rest-whole (s ∷ ss) last (suc i) o all lt le =
    let parts = whole-cons s ss all in
    let rest = rest-whole ss last i o parts.1 (omega arith) le in
    let place : suc i * 16384 + o ≡ length s + (i * 16384 + o) = omega arith in
    (rest.0, rw (append_assoc s (concat ss) last, place) (drop-append-add s (concat ss ++ last) (i * 16384 + o) ∙ rest.1))

-- What stands from a place behind all segments on.
pub rest-last : (ss : List (List ℕ)) (last : List ℕ) (o : ℕ) → are_whole ss ≡ true → drop (length ss * 16384 + o) (concat ss ++ last) ≡ drop o last
rest-last ss last o all = let len = whole-length ss all in rw (← len) (drop-append-add (concat ss) last o)

-- What begins bytes that begin others.
pub begin-append : (bytes all more : List ℕ) → all ≡ bytes ++ more → Begin bytes all
begin-append bytes all more is = rw is (take-append_seam bytes more)

-- The rest of the segment in which a place is begins what stands from there on.
pub begin-whole : (ss : List (List ℕ)) (last : List ℕ) (from : ℕ) → are_whole ss ≡ true → from / 16384 < length ss → Begin
    (drop (from % 16384) (get_or ss (from / 16384) [])) (drop from (concat ss ++ last))
begin-whole ss last from all lt =
    let rest = rest-whole ss last (from / 16384) (from % 16384) all lt (omega arith) in
    let place : from / 16384 * 16384 + from % 16384 ≡ from = omega arith in
    begin-append (drop (from % 16384) (get_or ss (from / 16384) [])) (drop from (concat ss ++ last)) rest.0 (rw place at rest.1)

-- A place that is in no segment is among the last bytes.
pub last-place : (ss : List (List ℕ)) (last : List ℕ) (from : ℕ) → are_whole ss ≡ true → length ss ≤ from / 16384 → length last < 16384 →
    from < length (concat ss ++ last) → (from / 16384 ≡ length ss) × (from % 16384 < length last)
last-place ss last from all ge few within = search (arith, whole-length, length-append)

pub begin-last : (ss : List (List ℕ)) (last : List ℕ) (from : ℕ) → are_whole ss ≡ true → length ss ≤ from / 16384 → length last < 16384 →
    from < length (concat ss ++ last) → Begin (drop (from % 16384) last) (drop from (concat ss ++ last))
begin-last ss last from all ge few within =
    let there = last-place ss last from all ge few within in
    let place : length ss * 16384 + from % 16384 ≡ from = let n = there.0 in omega (arith, n) in
    let rest = rest-last ss last (from % 16384) all in
    rw (rw place at rest) (take_all (length (drop (from % 16384) last)) (drop (from % 16384) last) (omega arith))

-- Bytes that go on are the first of the others.
pub begin-more : (bytes more all : List ℕ) (n from : ℕ) → bytes ≡ take n (drop from all) → Begin more (drop (from + n) all) → bytes ++
    more ≡ take (n + length more) (drop from all)
begin-more bytes more all n from is begins =
    rw is (ap (λ xs. take n (drop from all) ++ xs) (sym begins ∙ ap (take (length more)) (sym (drop-drop n from all))) ∙
    sym (take-add n (length more) (drop from all)))

-- One more segment.
pub segment-more : (ss : List (List ℕ)) (bytes s : List ℕ) (n : ℕ) → are_whole ss ≡ true → concat ss ≡ take (n * 16384) bytes →
    s ≡ take 16384 (drop (n * 16384) bytes) → length s ≡ 16384
    → (are_whole (ss ++ s ∷ []) ≡ true) × (concat (ss ++ s ∷ []) ≡ take ((n + 1) * 16384) bytes)
segment-more ss bytes s n all is more len =
    let place : (n + 1) * 16384 ≡ n * 16384 + 16384 = omega arith in
    let one : are_whole (s ∷ []) ≡ true = rw len refl in (
      whole-append ss (s ∷ []) all one,
      concat-append ss (s ∷ []) ∙ rw (place, is, append-nil s, take-add (n * 16384) 16384 bytes, more) refl,
    )

-- Bytes of a segment are bytes of all.
pub part-whole : (ss : List (List ℕ)) (last : List ℕ) (from len : ℕ) → are_whole ss ≡ true → from / 16384 < length ss → from % 16384 + len ≤ 16384
    → slice_range (get_or ss (from / 16384) []) (from % 16384) (from % 16384 + len) ≡ take len (drop from (concat ss ++ last))
part-whole ss last from len all lt fits =
    let segment : List ℕ = get_or ss (from / 16384) [] in
    let whole = whole-at ss (from / 16384) all lt in
    let rest = length-drop (from % 16384) segment in
    let count : from % 16384 + len - from % 16384 ≡ len = omega arith in
    rw count (ap (take len) (sym (begin-whole ss last from all lt)) ∙
    take-take len (length (drop (from % 16384) segment)) (drop from (concat ss ++ last)) (omega (arith, whole, rest)))

-- What an answer says, in other words.
pub ok-says : {T E : Type 0} (r : Result T E) (P Q : T → Type 0) → ((x : T) → P x → Q x) → IfOk r P → IfOk r Q
ok-says r P Q f is = grind (arith, nat_tests)

-- Whole segments and one more behind them, and others.
pub filled-whole : (ss ts : List (List ℕ)) (full : List ℕ) → are_whole ss ≡ true → are_whole ts ≡ true → length full ≡ 16384 →
    are_whole ((ss ++ full ∷ []) ++ ts) ≡ true
filled-whole ss ts full all more len = search (arith, whole-append)

-- All bytes, where a segment was completed and others stand behind it.
pub filled : (ss ts : List (List ℕ)) (last first more full rest : List ℕ) (n : ℕ) → full ≡ last ++ first → concat ts ≡ take n more → rest ≡ drop n more →
    concat ((ss ++ full ∷ []) ++ ts) ++ rest ≡ (concat ss ++ last) ++ (first ++ more)
filled ss ts last first more full rest n is parts behind =
    rw (concat-append (ss ++ full ∷ []) ts, concat-append ss (full ∷ []), append-nil full, is, parts, behind)
    (append_assoc (concat ss ++ (last ++ first)) (take n more) (drop n more) ∙
    rw (take-append-drop n more, ← append_assoc (concat ss) last first) (append_assoc (concat ss ++ last) first more))
