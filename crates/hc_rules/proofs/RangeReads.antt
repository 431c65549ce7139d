-- What is read of Range and Content-Range is what their grammar spells.
--
-- Both ways, for each part of the grammar. A text is cut at the first byte of a kind (`split_at-cut`), and is two parts
-- with that byte between (`split_at-some`). Numbers have no hyphen and positions no slash. So what is spelled is cut
-- where it was joined, and read (`spec_in-spelled`, `content_range_in-spelled`). What is read passed the tests, so it
-- is spelled (`spec_in-some`). What a reader by the grammar gives is thus what is defined (`asked_in-read`).
use Rattle.std.{proofs.{Common.{◌≡◌, ℕ, ◌≤◌, Bool, true, false, eqb, leb, ltb, not, List, [], ◌∷◌, ◌++◌, take, drop, map, Option, Some, None, refl, sym, ap, ◌∙◌, subst, inl, inr, arith, lit≤, lt-ltb}, lemmas.{Bool.{cases_Bool, and_parts, eqb-true, not_from_true, both_ways}, List.{append_assoc, take-append-drop}, Slice.Eq.{bytes_eq-Decides}}}, specs.{Prelude.{bytes_eq, option_map, IfSome, if◌then◌else◌}, Char.{to_ascii_lowercase}, List.{list_all}}}
use Rattle.hc_text.proofs.{Basics.{eqb-same, le-leb, leb-le, ltb-lt, mapped_from}, Cutting.{none_or_some as seen}}
use Rattle.hc_text.specs.Numbers.{IsNumber}
use Rattle.hc_range.specs.{Bytes.{LacksByte}, declared.range.{RangeSpec.{RangeSpec, TheVariants.{From, FromTo, Last}}, ContentRange.{ContentRange, TheVariants.{Part, Unsatisfied}}}, Ranges.{SpellsSpec, SpellsRange, SpellsTotal, SpellsResponse, SpellsContentRange}}
use Rattle.hc_range.proofs.ReadLemmas.{range_at, content_range_at, number_some, LacksByte-number, lacks_slash}
use Rattle.hc_rules.specs.RangeTexts.{number_of, with_byte, split_at, from_to, positions_by, positions_from, spec_in, asked_in, with_total, without_part, content_range_from, response_from, response_in, content_range_in}
use Rattle.hc_rules.proofs.Numbers.{number_of-number, IsNumber-reported}

-- what a test lets through passed it
pub if_passes : {A : Type 0} (test : Bool) (o : Option A) (y : A) → (if test then o else None) ≡ Some y → (test ≡ true) × (o ≡ Some y)
if_passes true o y h = (refl, h)
if_passes false o y h = absurd (cc)

pub same_bytes : (a b : List ℕ) → bytes_eq a b ≡ true → a ≡ b
same_bytes a b h = (bytes_eq-Decides a b).0 h

pub bytes_eq-same : (a b : List ℕ) → a ≡ b → bytes_eq a b ≡ true
bytes_eq-same a b h = (bytes_eq-Decides a b).1 h

abbrev other : ℕ → ℕ → Bool
other c b = not (eqb b c)

differs : (c b : ℕ) → other c b ≡ true → eqb b c ≡ false
differs c b h = elim (cases_Bool (eqb b c)) [ inl same ↦ absurd (both_ways (other c b) (not_from_true (eqb b c) same) h) | inr isnt ↦ isnt ]

-- a text is cut at the first such byte
split_at-cut : (c : ℕ) (a b : List ℕ) → LacksByte c a → split_at c (a ++ c ∷ b) ≡ Some (a, b)
split_at-cut c [] b lacks = rw (eqb-same c) refl
split_at-cut c (d ∷ a) b lacks =
    let p = and_parts (other c d) (list_all (other c) a) lacks in
    rw (differs c d p.0, split_at-cut c a b p.1) refl

same_pair : (p q : List ℕ × List ℕ) → Some p ≡ Some q → (p.0 ≡ q.0) × (p.1 ≡ q.1)
same_pair p q h = let e : p ≡ q = cc in (ap (λ (r : List ℕ × List ℕ). r.0) e, ap (λ (r : List ℕ × List ℕ). r.1) e)

with_byte-some : (d : ℕ) (o : Option (List ℕ × List ℕ)) (a b : List ℕ) → with_byte d o ≡ Some (a, b) → (x : List ℕ) × ((o ≡ Some (x, b)) × (a ≡ d ∷ x))
with_byte-some d None a b h = absurd (cc)
with_byte-some d (Some (x, y)) a b h =
    let (front, rest) = same_pair (d ∷ x, y) (a, b) h in
    (x, (ap (λ (r : List ℕ). Some (x, r)) rest, sym front))

found_here : (c d : ℕ) (text a b : List ℕ) → d ≡ c → [] ≡ a → text ≡ b → d ∷ text ≡ a ++ c ∷ b
found_here c d text a b byte front rest = cc

-- and is the two parts with that byte between
split_at-some : (c : ℕ) (text a b : List ℕ) → split_at c text ≡ Some (a, b) → text ≡ a ++ c ∷ b
split_at-some c [] a b h = absurd (cc)
split_at-some c (d ∷ text) a b h = elim (cases_Bool (eqb d c)) [
  | inl same ↦
      let (front, rest) = same_pair ([], text) (a, b) (rw same at h) in
      found_here c d text a b (eqb-true d c same) front rest
  | inr isnt ↦
      let (x, (is, front)) = with_byte-some d (split_at c text) a b (rw isnt at h) in
      ap (λ (t : List ℕ). d ∷ t) (split_at-some c text x b is) ∙ sym (ap (λ (t : List ℕ). t ++ c ∷ b) front)
]

-- positions of which a number stands before the hyphen, and one or none behind it
from-number : (a : List ℕ) (n : ℕ) → IsNumber a n → positions_by a [] ≡ Some (From n)
from-number [] n h = absurd (number_some [] n h refl)
from-number (d ∷ a) n h = rw (number_of-number (d ∷ a) n h) refl

from_to-numbers : (a b : List ℕ) (m n : ℕ) → IsNumber a m → IsNumber b n → m ≤ n → positions_by a b ≡ Some (FromTo m n)
from_to-numbers [] b m n ha hb up = absurd (number_some [] m ha refl)
from_to-numbers (d ∷ a) [] m n ha hb up = absurd (number_some [] n hb refl)
from_to-numbers (d ∷ a) (e ∷ b) m n ha hb up = rw (number_of-number (d ∷ a) m ha, number_of-number (e ∷ b) n hb, le-leb m n up) refl

spec_in-cut : (a b : List ℕ) (asked : RangeSpec) → LacksByte 45 a → positions_by a b ≡ Some asked → spec_in (a ++ 45 ∷ b) ≡ Some asked
spec_in-cut a b asked lacks h = ap positions_from (split_at-cut 45 a b lacks) ∙ h

-- what is spelled is read
pub spec_in-spelled : (text : List ℕ) (asked : RangeSpec) → SpellsSpec text asked → spec_in text ≡ Some asked
spec_in-spelled text (From first) h =
    let (a, number, is) = h in
    ap spec_in is ∙ spec_in-cut a [] (From first) (LacksByte-number 45 a first (lit≤ tt) number) (from-number a first number)
spec_in-spelled text (FromTo first last) h =
    let (a, b, na, nb, up, is) = h in
    ap spec_in (is ∙ append_assoc a (45 ∷ []) b) ∙
    spec_in-cut a b (FromTo first last) (LacksByte-number 45 a first (lit≤ tt) na) (from_to-numbers a b first last na nb up)
spec_in-spelled text (Last n) h =
    let (b, number, is) = h in
    ap spec_in is ∙ spec_in-cut [] b (Last n) refl (rw (number_of-number b n number) refl)

from_to-some : (m n : Option ℕ) (asked : RangeSpec) → from_to m n ≡ Some asked → (a : ℕ) ×
    ((b : ℕ) × ((m ≡ Some a) × ((n ≡ Some b) × ((a ≤ b) × (FromTo a b ≡ asked)))))
from_to-some None n asked h = absurd (cc)
from_to-some (Some a) None asked h = absurd (cc)
from_to-some (Some a) (Some b) asked h =
    let up = if_passes (leb a b) (Some (FromTo a b)) asked h in (a, (b, (refl, (refl, (leb-le a b up.0, cc up.1)))))

spells-positions : (text a b : List ℕ) (asked : RangeSpec) → text ≡ a ++ 45 ∷ b → positions_by a b ≡ Some asked → SpellsSpec text asked
spells-positions text [] b asked is h =
    let (n, reported, same) = mapped_from Last (number_of b) asked h in
    subst (SpellsSpec text) same (b, IsNumber-reported b n reported, is)
spells-positions text (d ∷ a) [] asked is h =
    let (n, reported, same) = mapped_from From (number_of (d ∷ a)) asked h in
    subst (SpellsSpec text) same (d ∷ a, IsNumber-reported (d ∷ a) n reported, is)
spells-positions text (d ∷ a) (e ∷ b) asked is h =
    let (m, (n, (first, (last, (up, same))))) = from_to-some (number_of (d ∷ a)) (number_of (e ∷ b)) asked h in
    subst (SpellsSpec text) same
    (d ∷ a, e ∷ b, IsNumber-reported (d ∷ a) m first, IsNumber-reported (e ∷ b) n last, up, is ∙ sym (append_assoc (d ∷ a) (45 ∷ []) (e ∷ b)))

-- what is read is spelled
pub spec_in-some : (text : List ℕ) (asked : RangeSpec) → spec_in text ≡ Some asked → SpellsSpec text asked
spec_in-some text asked h = elim (seen (split_at 45 text)) [
  | inl none ↦ let e : None ≡ Some asked = sym (ap positions_from none) ∙ h in absurd (cc)
  | inr (parts, is) ↦ spells-positions text parts.0 parts.1 asked (split_at-some 45 text parts.0 parts.1 is) (sym (ap positions_from is) ∙ h)
]

pub asked_in-spelled : (text : List ℕ) (asked : RangeSpec) → SpellsRange text asked → asked_in text ≡ Some asked
unfolding asked_in
asked_in-spelled text asked h =
    let (unit, spec) = range_at text (take 6 text) (drop 6 text) refl refl asked h in
    rw (bytes_eq-same (map to_ascii_lowercase (take 6 text)) (98 ∷ 121 ∷ 116 ∷ 101 ∷ 115 ∷ 61 ∷ []) unit) (spec_in-spelled (drop 6 text) asked spec)

pub asked_in-some : (text : List ℕ) (asked : RangeSpec) → asked_in text ≡ Some asked → SpellsRange text asked
unfolding asked_in
asked_in-some text asked h =
    let unit = if_passes _ (spec_in (drop 6 text)) asked h in
    (take 6 text, drop 6 text, same_bytes _ _ unit.0, spec_in-some (drop 6 text) asked unit.1, sym (take-append-drop 6 text))

-- what is read by the grammar is what is defined
pub asked_in-read : (text : List ℕ) (r : Option RangeSpec) → IfSome r (SpellsRange text) →
    ((asked : RangeSpec) → SpellsRange text asked → r ≡ Some asked) → r ≡ asked_in text
asked_in-read text (Some asked) found spelled = sym (asked_in-spelled text asked found)
asked_in-read text None found spelled = elim (seen (asked_in text)) [
  | inl none ↦ sym none
  | inr (asked, is) ↦ let e = spelled asked (asked_in-some text asked is) in absurd (cc)
]

with_total-spelled : (text : List ℕ) (first last : ℕ) (total : Option ℕ) → SpellsTotal text last total →
    with_total first last (number_of text) text ≡ Some (Part first last total)
with_total-spelled text first last total h = search (arith, number_of-number, lt-ltb)

response_in-cut : (positions text : List ℕ) (range : ContentRange) → LacksByte 47 positions →
    content_range_from positions text (spec_in positions) ≡ Some range → response_in (positions ++ 47 ∷ text) ≡ Some range
response_in-cut positions text range lacks h = ap response_from (split_at-cut 47 positions text lacks) ∙ h

response_in-spelled : (text : List ℕ) (range : ContentRange) → SpellsResponse text range → response_in text ≡ Some range
response_in-spelled text (Part first last total) h =
    let (positions, whole, spelled, reported, is) = h in
    let spec = spec_in-spelled positions (FromTo first last) spelled in
    ap response_in (is ∙ append_assoc positions (47 ∷ []) whole)
    ∙ response_in-cut positions whole (Part first last total) (lacks_slash positions first last spelled)
    (ap (content_range_from positions whole) spec ∙ with_total-spelled whole first last total reported)
response_in-spelled text (Unsatisfied total) h =
    let (whole, number, is) = h in
    ap response_in is ∙ response_in-cut (42 ∷ []) whole (Unsatisfied total) refl (rw (number_of-number whole total number) refl)

with_total-some : (first last : ℕ) (n : Option ℕ) (text : List ℕ) (range : ContentRange) → n ≡ number_of text → with_total first last n text ≡ Some range
    → (total : Option ℕ) × ((Part first last total ≡ range) × SpellsTotal text last total)
with_total-some first last None text range is h =
    let star = if_passes (bytes_eq text (42 ∷ [])) (Some (Part first last None)) range h in
    (None, (cc star.1, same_bytes text (42 ∷ []) star.0))
with_total-some first last (Some total) text range is h =
    let below = if_passes (ltb last total) (Some (Part first last (Some total))) range h in
    (Some total, (cc below.1, (IsNumber-reported text total (sym is), ltb-lt last total below.0)))

without_part-some : (positions text : List ℕ) (range : ContentRange) → without_part positions text ≡ Some range
    → (total : ℕ) × ((positions ≡ 42 ∷ []) × ((number_of text ≡ Some total) × (Unsatisfied total ≡ range)))
without_part-some positions text range h =
    let star = if_passes (bytes_eq positions (42 ∷ [])) (option_map Unsatisfied (number_of text)) range h in
    let (total, reported, same) = mapped_from Unsatisfied (number_of text) range star.1 in
    (total, (same_bytes positions (42 ∷ []) star.0, (reported, same)))

spells-response : (text positions whole : List ℕ) (o : Option RangeSpec) (range : ContentRange) → text ≡ positions ++ 47 ∷ whole → o ≡ spec_in positions →
    content_range_from positions whole o ≡ Some range → SpellsResponse text range
spells-response text positions whole None range is spec h =
    let (total, (star, (reported, same))) = without_part-some positions whole range h in
    subst (SpellsResponse text) same (whole, IsNumber-reported whole total reported, is ∙ ap (λ (p : List ℕ). p ++ 47 ∷ whole) star)
spells-response text positions whole (Some (FromTo first last)) range is spec h =
    let (total, (same, reported)) = with_total-some first last (number_of whole) whole range refl h in
    subst (SpellsResponse text) same
    (positions, whole, spec_in-some positions (FromTo first last) (sym spec), reported, is ∙ sym (append_assoc positions (47 ∷ []) whole))
spells-response text positions whole _ range is spec h = absurd (cc)

response_in-some : (text : List ℕ) (range : ContentRange) → response_in text ≡ Some range → SpellsResponse text range
response_in-some text range h = elim (seen (split_at 47 text)) [
  | inl none ↦ let e : None ≡ Some range = sym (ap response_from none) ∙ h in absurd (cc)
  | inr (parts, is) ↦ spells-response text parts.0 parts.1 (spec_in parts.0) range (split_at-some 47 text parts.0 parts.1 is) refl
      (sym (ap response_from is) ∙ h)
]

pub content_range_in-spelled : (text : List ℕ) (range : ContentRange) → SpellsContentRange text range → content_range_in text ≡ Some range
unfolding content_range_in
content_range_in-spelled text range h =
    let (unit, response) = content_range_at text (take 6 text) (drop 6 text) refl refl range h in
    rw (bytes_eq-same (map to_ascii_lowercase (take 6 text)) (98 ∷ 121 ∷ 116 ∷ 101 ∷ 115 ∷ 32 ∷ []) unit) (response_in-spelled (drop 6 text) range response)

pub content_range_in-some : (text : List ℕ) (range : ContentRange) → content_range_in text ≡ Some range → SpellsContentRange text range
unfolding content_range_in
content_range_in-some text range h =
    let unit = if_passes _ (response_in (drop 6 text)) range h in
    (take 6 text, drop 6 text, same_bytes _ _ unit.0, response_in-some (drop 6 text) range unit.1, sym (take-append-drop 6 text))

pub content_range_in-read : (text : List ℕ) (r : Option ContentRange) → IfSome r (SpellsContentRange text) →
    ((range : ContentRange) → SpellsContentRange text range → r ≡ Some range) → r ≡ content_range_in text
content_range_in-read text (Some range) found spelled = sym (content_range_in-spelled text range found)
content_range_in-read text None found spelled = elim (seen (content_range_in text)) [
  | inl none ↦ sym none
  | inr (range, is) ↦ let e = spelled range (content_range_in-some text range is) in absurd (cc)
]
