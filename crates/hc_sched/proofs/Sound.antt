-- A text that is read is spelled: what the first line of an item says.
--
-- Each form is taken apart: the tests that it passed say that its words are numbers, a method, a target or a piece, and
-- that they make the line again. `start_of-parts` is the longest, since a start has most words. Which form it was is
-- found by the keyword: behind its own keyword a form was read, else the forms after it are tried (`says_form`,
-- `says_number`). `first_of-says` joins them all; the proof of what the reading represents uses it.
use Rattle.std.{proofs.{lemmas.{Bool.{cases_Bool, and_parts, Decides.{nat_tests}}, Slice.Eq.{bytes_eq-Decides}}, Common.{arith, ◌≡◌, ◌⊎◌, ℕ, ◌≤◌, ◌&&◌, Bool, true, List, [], ◌∷◌, ◌++◌, Option, Some, None, refl, sym, ap, subst, ◌∙◌, inl, inr}}, specs.{Prelude.{codes, nat_le, bytes_eq, option_map, if◌then◌else◌}, Fmt.{decimal}}}
use Rattle.hc_text.proofs.{Basics.{mapped_from as option_map-parts}, Cutting.{append-cut, append-behind}}
use Rattle.hc_text.specs.Texts.{IsSmall, cut, behind}
use Rattle.hc_event.specs.declared.event.Event.TheVariants as event
use Rattle.hc_event.specs.declared.event.Load.{Load}
use Rattle.hc_event.specs.declared.event.Load.TheVariants as load
use Rattle.hc_sched.specs.{Words.{◌>>=◌, or_else, plain_of, plain_within, number_and_rest}, Pieces.{piece_text, bytes_of, is_piece_text}, FirstLines.{First, Sets, Starts, Heads, Brings, Dooms, Reports, is_method, is_word, load_of, how_of, start_of, poll_of, head_of, piece_of, doom_of, first_of}, Schedule.{load_word, event_line, fields_in, IsEvent}}
use Rattle.hc_sched.proofs.{Steps.{bind-Some}, Plain.{IsPlain-plain_of}, Hex.{IsPiece, IsPiece-text}}

-- What a first line that says so is.
abbrev pub Says : List ℕ → First → Type 0
Says line (Sets now) = (codes "at " ++ decimal now ≡ line) × IsSmall now
Says line (Starts c method kind target count) =
    (codes "start " ++ (decimal c ++ 32 ∷ (method ++ 32 ∷ (load_word kind ++ 32 ∷ (target ++ 32 ∷ decimal count)))) ≡ line)
    × IsSmall c × (is_method method ≡ true) × (count ≤ 64)
Says line (Heads x status count) =
    (codes "head " ++ (decimal x ++ 32 ∷ (decimal status ++ 32 ∷ decimal count)) ≡ line)
    × IsSmall x × (200 ≤ status) × (status ≤ 599) × (count ≤ 64)
Says line (Brings x text) =
    (codes "piece " ++ (decimal x ++ 32 ∷ piece_text (bytes_of text)) ≡ line) × IsSmall x × IsPiece (bytes_of text)
Says line (Dooms target) = codes "doom " ++ target ≡ line
Says line (Reports event) = (event_line event ≡ line) × IsEvent event × (fields_in event ≡ [])

-- the number that words begin with
record BeginsWith (words : List ℕ) (parts : ℕ × List ℕ) : Type 0 where
  small : IsSmall parts.0
  text : decimal parts.0 ++ 32 ∷ parts.1 ≡ words

numbered-parts : (words : List ℕ) (parts : ℕ × List ℕ) → number_and_rest words ≡ Some parts → BeginsWith words parts
unfolding number_and_rest
numbered-parts words parts h =
    let first = bind-Some (cut 32 words) (λ p. plain_of p.0 >>= (λ n. Some (n, p.1))) parts h in
    let second = bind-Some (plain_of first.0.0) (λ n. Some (n, first.0.1)) parts first.2 in
    let is : (second.0, first.0.1) ≡ parts = cc second.2 in
    let plain = IsPlain-plain_of first.0.0 second.0 second.1 in
    rw (← is) (record { small = plain.0; text = rw (← plain.1) (append-cut 32 words first.0 first.1) })

-- a test that gives a value passes
pub test_passes : {A : Type 0} (test : Bool) (x y : A) → (if test then Some x else None) ≡ Some y → (test ≡ true) × (x ≡ y)
test_passes test x y h = grind (arith, nat_tests)

record IsWithin (low high : ℕ) (text : List ℕ) (n : ℕ) : Type 0 where
  small : IsSmall n
  above : low ≤ n
  below : n ≤ high
  text_is : decimal n ≡ text

plain_within-parts : (low high : ℕ) (text : List ℕ) (n : ℕ) → plain_within low high text ≡ Some n → IsWithin low high text n
unfolding plain_within
plain_within-parts low high text n h =
    let first = bind-Some (plain_of text) (λ m. if nat_le low m && nat_le m high then Some m else None) n h in
    let passes = test_passes (nat_le low first.0 && nat_le first.0 high) first.0 n first.2 in
    let bounds = and_parts (nat_le low first.0) (nat_le first.0 high) passes.0 in
    let plain = IsPlain-plain_of text first.0 first.1 in
    grind (arith, nat_tests)

word_is : (word text : List ℕ) → bytes_eq word text ≡ true → text ≡ word
word_is word text h = sym ((bytes_eq-Decides word text).0 h)

-- a word is the first that fits, or is told by those behind it
load_or : (word text : List ℕ) (read kind : Load) (other : Option Load) → load_word read ≡ text → (if bytes_eq word text then Some read else other) ≡ Some kind
    → (other ≡ Some kind → load_word kind ≡ word) → load_word kind ≡ word
load_or word text read kind other reported h rest =
    elim (cases_Bool (bytes_eq word text)) [
      | inl same ↦ let is : read ≡ kind = cc (rw same at h) in ap load_word (sym is) ∙ (reported ∙ word_is word text same)
      | inr off ↦ rest (rw off at h)
    ]

load_of-parts : (word : List ℕ) (kind : Load) → load_of word ≡ Some kind → load_word kind ≡ word
unfolding load_of
load_of-parts word kind h =
    load_or word (codes "normal") load.Normal kind _ refl h (λ h1.
    load_or word (codes "validate") load.Validate kind _ refl h1 (λ h2.
    load_or word (codes "bypass") load.Bypass kind _ refl h2 (λ h3.
    load_or word (codes "skip") load.Skip kind _ refl h3 (λ h4.
    load_or word (codes "only") load.Only kind _ refl h4 (λ h5.
    load_or word (codes "disable") load.Disable kind _ refl h5 (λ none. cc none))))))

start_of-parts : (line words : List ℕ) (f : First) → codes "start " ++ words ≡ line → start_of words ≡ Some f → Says line f
unfolding start_of how_of
start_of-parts line words f is h =
    let first = bind-Some (number_and_rest words) _ f h in
    let begins = numbered-parts words first.0 first.1 in
    let second = bind-Some (cut 32 first.0.1) _ f first.2 in
    let named = append-cut 32 first.0.1 second.0 second.1 in
    let how = bind-Some (how_of second.0.1) _ f second.2 in
    let passes = test_passes (is_method second.0.0) (Starts first.0.0 second.0.0 how.0.0 how.0.1 how.0.2) f how.2 in
    let h1 = bind-Some (cut 32 second.0.1) _ how.0 how.1 in
    let kind_named = append-cut 32 second.0.1 h1.0 h1.1 in
    let h2 = bind-Some (load_of h1.0.0) _ how.0 h1.2 in
    let h3 = bind-Some (cut 32 h1.0.1) _ how.0 h2.2 in
    let target_named = append-cut 32 h1.0.1 h3.0 h3.1 in
    let h4 = bind-Some (plain_within 0 64 h3.0.1) _ how.0 h3.2 in
    let count = plain_within-parts 0 64 h3.0.1 h4.0 h4.1 in
    let last = test_passes (is_word h3.0.0) (h2.0, h3.0.0, h4.0) how.0 h4.2 in
    let kind_is = load_of-parts h1.0.0 h2.0 h2.1 in
    rw (← passes.1, ← last.1)
    (rw (count.text_is, target_named, kind_is, kind_named, named, begins.text) is, begins.small, passes.0, count.below)

poll_of-parts : (line words : List ℕ) (f : First) → codes "poll " ++ words ≡ line → poll_of words ≡ Some f → Says line f
unfolding poll_of
poll_of-parts line words f is h =
    let first = bind-Some (number_and_rest words) _ f h in
    let begins = numbered-parts words first.0 first.1 in
    let second = bind-Some (plain_within 0 65536 first.0.1) _ f first.2 in
    let want = plain_within-parts 0 65536 first.0.1 second.0 second.1 in
    let same : Reports (event.Poll first.0.0 second.0) ≡ f = cc second.2 in
    rw (← same) (rw (want.text_is, begins.text) is, (begins.small, want.below), refl)

head_of-parts : (line words : List ℕ) (f : First) → codes "head " ++ words ≡ line → head_of words ≡ Some f → Says line f
unfolding head_of
head_of-parts line words f is h =
    let first = bind-Some (number_and_rest words) _ f h in
    let begins = numbered-parts words first.0 first.1 in
    let second = bind-Some (cut 32 first.0.1) _ f first.2 in
    let named = append-cut 32 first.0.1 second.0 second.1 in
    let third = bind-Some (plain_within 200 599 second.0.0) _ f second.2 in
    let status = plain_within-parts 200 599 second.0.0 third.0 third.1 in
    let fourth = bind-Some (plain_within 0 64 second.0.1) _ f third.2 in
    let count = plain_within-parts 0 64 second.0.1 fourth.0 fourth.1 in
    let same : Heads first.0.0 third.0 fourth.0 ≡ f = cc fourth.2 in
    rw (← same)
    (rw (count.text_is, status.text_is, named, begins.text) is, begins.small, status.above, status.below, count.below)

piece_of-parts : (line words : List ℕ) (f : First) → codes "piece " ++ words ≡ line → piece_of words ≡ Some f → Says line f
unfolding piece_of
piece_of-parts line words f is h =
    let first = bind-Some (number_and_rest words) _ f h in
    let begins = numbered-parts words first.0 first.1 in
    let passes = test_passes (is_piece_text first.0.1) (Brings first.0.0 first.0.1) f first.2 in
    let piece = IsPiece-text first.0.1 passes.0 in
    rw (← passes.1) (rw (piece.1, begins.text) is, begins.small, piece.0)

doom_of-parts : (line words : List ℕ) (f : First) → codes "doom " ++ words ≡ line → doom_of words ≡ Some f → Says line f
unfolding doom_of
doom_of-parts line words f is h = let passes = test_passes (is_word words) (Dooms words) f h in rw (← passes.1) is

or_else-parts : {A B : Type 0} (o : Option A) (f : A → Option B) (other : Option B) (y : B) → or_else o f other ≡ Some y
    → ((x : A) × (o ≡ Some x) × (f x ≡ Some y)) ⊎ (other ≡ Some y)
or_else-parts None f other y h = inr h
or_else-parts (Some x) f other y h = inl (x, refl, h)

-- a line of a keyword and a number
number_line : (keyword line words : List ℕ) (g : ℕ → First) (f : First) → keyword ++ words ≡ line → option_map g (plain_of words) ≡ Some f
    → ((n : ℕ) → IsSmall n → keyword ++ decimal n ≡ line → Says line (g n)) → Says line f
number_line keyword line words g f is h says =
    let read = option_map-parts g (plain_of words) f h in
    let plain = IsPlain-plain_of words read.0 read.1 in
    subst (λ k. Says line k) read.2 (says read.0 plain.0 (ap (λ (l : List ℕ). keyword ++ l) (sym plain.1) ∙ is))

-- a line that is read says what is read
-- the forms, from the last on
says_doom : (line : List ℕ) (f : First) → or_else (behind (codes "doom ") line) doom_of None ≡ Some f → Says line f
says_doom line f h =
    elim (or_else-parts (behind (codes "doom ") line) doom_of None f h) [
      | inl is ↦ doom_of-parts line is.0 f (append-behind (codes "doom ") line is.0 is.1) is.2
      | inr none ↦ cc none
    ]

-- the forms of a keyword and a number, before others
says_number : (keyword line : List ℕ) (g : ℕ → First) (f : First) (other : Option First) → or_else
    (behind keyword line) (λ words. option_map g (plain_of words)) other ≡ Some f
    → ((n : ℕ) → IsSmall n → keyword ++ decimal n ≡ line → Says line (g n)) → (other ≡ Some f → Says line f) → Says line f
says_number keyword line g f other h says rest =
    elim (or_else-parts (behind keyword line) (λ words. option_map g (plain_of words)) other f h) [
      | inl is ↦ number_line keyword line is.0 g f (append-behind keyword line is.0 is.1) is.2 says
      | inr more ↦ rest more
    ]

-- any other form, before others
says_form : (keyword line : List ℕ) (g : List ℕ → Option First) (f : First) (other : Option First) → or_else (behind keyword line) g other ≡ Some f
    → ((words : List ℕ) → keyword ++ words ≡ line → g words ≡ Some f → Says line f) → (other ≡ Some f → Says line f) → Says line f
says_form keyword line g f other h says rest =
    elim (or_else-parts (behind keyword line) g other f h) [
      | inl is ↦ says is.0 (append-behind keyword line is.0 is.1) is.2
      | inr more ↦ rest more
    ]

-- a line that is read says what is read
pub first_of-says : (line : List ℕ) (f : First) → first_of line ≡ Some f → Says line f
unfolding first_of
first_of-says line f h =
    says_form (codes "poll ") line poll_of f _ h (λ words is read. poll_of-parts line words f is read) (λ h1.
    says_form (codes "piece ") line piece_of f _ h1 (λ words is read. piece_of-parts line words f is read) (λ h2.
    says_number (codes "at ") line Sets f _ h2 (λ n small text. (text, small)) (λ h3.
    says_form (codes "start ") line start_of f _ h3 (λ words is read. start_of-parts line words f is read) (λ h4.
    says_form (codes "head ") line head_of f _ h4 (λ words is read. head_of-parts line words f is read) (λ h5.
    says_number (codes "end ") line (λ x. Reports (event.End x)) f _ h5 (λ n small text. (text, small, refl)) (λ h6.
    says_number (codes "fault ") line (λ x. Reports (event.Fault x)) f _ h6 (λ n small text. (text, small, refl)) (λ h7.
    says_number (codes "cancel ") line (λ c. Reports (event.Cancel c)) f _ h7 (λ n small text. (text, small, refl)) (λ h8.
    says_doom line f h8))))))))
