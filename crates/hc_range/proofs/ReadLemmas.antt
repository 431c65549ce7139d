-- A text spells one range at most.
--
-- A text is cut in one way at the first byte of a kind (`split_unique`), and digits are no hyphen and no slash. So what
-- spells a range is cut where the reader cuts it: at the unit, at the hyphen, or at the slash (`range_at`, `spec_at`,
-- `response_at`). Which form it is shows by what is empty there (`asks_last`, `asks_from`), or by an asterisk, which is
-- no positions (`star_positions`). Numbers have one reading, so the answers agree.
use Rattle.std.{proofs.{lemmas.{Bool.{cases_Bool, and_parts, and_from, eqb-true, eq-eqb, both_ways, not_from_false, not_from_true, Decides.{nat_tests}}, List.{append_assoc, length-append, length-map, take_at, drop_at}}, Common.{◌≡◌, ◌≢◌, ℕ, ◌+◌, ◌<◌, ◌≤◌, Bool, true, false, eqb, not, List, [], ◌∷◌, ◌++◌, length, take, drop, map, Option, Some, refl, sym, ap, ◌∙◌, subst, inl, inr, arith, lit≤}}, specs.{Char.{digit_value, to_ascii_lowercase}, List.{list_all}, Str.Parse.{AllDigits}}}
use Rattle.hc_text.specs.Numbers.{IsNumber}
use Rattle.hc_range.specs.{Bytes.{LacksByte}, declared.range.{RangeSpec.{RangeSpec, TheVariants.{From, FromTo, Last}}, ContentRange.{ContentRange, TheVariants.{Part, Unsatisfied}}}, Ranges.{SpellsPositions, SpellsSpec, SpellsRange, SpellsTotal, SpellsResponse, SpellsContentRange}}

abbrev other : ℕ → ℕ → Bool
other c b = not (eqb b c)

-- the byte itself is none of the others
not_other : (c : ℕ) → other c c ≡ false
not_other c = not_from_true (eqb c c) (eq-eqb c c refl)

parts : (c b : ℕ) (text : List ℕ) → LacksByte c (b ∷ text) → (other c b ≡ true) × LacksByte c text
parts c b text h = let p = and_parts (other c b) (list_all (other c) text) h in (p.0, p.1)

-- a text is cut in one way at the first such byte
pub split_unique : (c : ℕ) (a b x y : List ℕ) → LacksByte c a → LacksByte c x → a ++ c ∷ b ≡ x ++ c ∷ y → (a ≡ x) × (b ≡ y)
split_unique c [] b [] y ha hx e = (refl, cc)
split_unique c [] b (d ∷ x) y ha hx e = let same : c ≡ d = cc in absurd (both_ways (other c c) (not_other c) (ap (other c) same ∙ (parts c d x hx).0))
split_unique c (d ∷ a) b [] y ha hx e = let same : c ≡ d = cc in absurd (both_ways (other c c) (not_other c) (ap (other c) same ∙ (parts c d a ha).0))
split_unique c (d ∷ a) b (f ∷ x) y ha hx e =
    let later : a ++ c ∷ b ≡ x ++ c ∷ y = cc in
    let one = split_unique c a b x y (parts c d a ha).1 (parts c f x hx).1 later in
    (cc, one.1)

LacksByte-append : (c : ℕ) (a b : List ℕ) → LacksByte c a → LacksByte c b → LacksByte c (a ++ b)
LacksByte-append c [] b ha hb = hb
LacksByte-append c (d ∷ a) b ha hb = let p = parts c d a ha in and_from (other c d) (list_all (other c) (a ++ b)) p.0 (LacksByte-append c a b p.1 hb)

LacksByte-digits : (c : ℕ) (text : List ℕ) → 10 ≤ digit_value c → AllDigits 10 text → LacksByte c text
LacksByte-digits c [] past h = refl
LacksByte-digits c (b ∷ text) past h =
    let is_other : other c b ≡ true =
    elim (cases_Bool (eqb b c)) [
      | inl same ↦ let e : digit_value b ≡ digit_value c = ap digit_value (eqb-true b c same) in let low : digit_value b < 10 = h.0 in
          absurd (omega (arith, past, e, low))
      | inr differs ↦ not_from_false (eqb b c) differs
    ] in
    and_from (other c b) (list_all (other c) text) is_other (LacksByte-digits c text past h.1)

pub LacksByte-number : (c : ℕ) (text : List ℕ) (n : ℕ) → 10 ≤ digit_value c → IsNumber text n → LacksByte c text
LacksByte-number c text n past h = LacksByte-digits c text past h.1.1

pub number_unique : (text : List ℕ) (m n : ℕ) → IsNumber text m → IsNumber text n → m ≡ n
number_unique text m n hm hn = sym hm.3 ∙ hn.3

pub number_some : (text : List ℕ) (n : ℕ) → IsNumber text n → length text ≡ 0 → ⊥
number_some text n h none = let some : 0 < length text = h.1.0 in omega (arith, some, none)

-- the two numbers of a text that is cut at its first hyphen
pub positions_at : (text a b : List ℕ) → text ≡ a ++ 45 ∷ b → LacksByte 45 a → (first last : ℕ) → SpellsPositions text first last
    → IsNumber a first × IsNumber b last × (first ≤ last)
positions_at text a b e lacks first last h =
    let x = h.0 in
    let y = h.1 in
    let one = split_unique 45 x y a b (LacksByte-number 45 x first (lit≤ tt) h.2) lacks (sym (append_assoc x (45 ∷ []) y) ∙ sym h.5 ∙ e) in
    (subst (λ (t : List ℕ). IsNumber t first) one.0 h.2, subst (λ (t : List ℕ). IsNumber t last) one.1 h.3, h.4)

-- what such a text asks for
abbrev pub AsksBy : List ℕ → List ℕ → RangeSpec → Type 0
AsksBy a b (From first) = IsNumber a first × (b ≡ [])
AsksBy a b (FromTo first last) = IsNumber a first × IsNumber b last × (first ≤ last)
AsksBy a b (Last n) = (a ≡ []) × IsNumber b n

pub spec_at : (text a b : List ℕ) → text ≡ a ++ 45 ∷ b → LacksByte 45 a → (asked : RangeSpec) → SpellsSpec text asked → AsksBy a b asked
spec_at text a b e lacks (From first) h =
    let x = h.0 in
    let one = split_unique 45 x [] a b (LacksByte-number 45 x first (lit≤ tt) h.1) lacks (sym h.2 ∙ e) in
    (subst (λ (t : List ℕ). IsNumber t first) one.0 h.1, sym one.1)
spec_at text a b e lacks (FromTo first last) h = positions_at text a b e lacks first last h
spec_at text a b e lacks (Last n) h =
    let one = split_unique 45 [] h.0 a b refl lacks (sym h.2 ∙ e) in
    (sym one.0, rw (← one.1) h.1)

pub asks_last : (a b : List ℕ) (asked : RangeSpec) → length a ≡ 0 → AsksBy a b asked → (n : ℕ) × (asked ≡ Last n) × IsNumber b n
asks_last a b (From first) none h = absurd (number_some a first h.0 none)
asks_last a b (FromTo first last) none h = absurd (number_some a first h.0 none)
asks_last a b (Last n) none h = (n, refl, h.1)

pub asks_from : (a b : List ℕ) (asked : RangeSpec) → length a ≢ 0 → length b ≡ 0 → AsksBy a b asked → (first : ℕ) × (asked ≡ From first) × IsNumber a first
asks_from a b (From first) some none h = (first, refl, h.0)
asks_from a b (FromTo first last) some none h = absurd (number_some b last h.1 none)
asks_from a b (Last n) some none h = absurd (some (ap length h.0))

pub asks_positions : (text a b : List ℕ) → text ≡ a ++ 45 ∷ b → LacksByte 45 a → length a ≢ 0 → length b ≢ 0 → (asked : RangeSpec) → SpellsSpec text asked
    → (first : ℕ) × (last : ℕ) × (asked ≡ FromTo first last) × SpellsPositions text first last
asks_positions text a b e lacks some more (From first) h = absurd (more (ap length (spec_at text a b e lacks (From first) h).1))
asks_positions text a b e lacks some more (FromTo first last) h = (first, last, refl, h)
asks_positions text a b e lacks some more (Last n) h = absurd (some (ap length (spec_at text a b e lacks (Last n) h).0))

-- the unit and what follows it
unit_at : (word text unit rest x y : List ℕ) → length word ≡ 6 → unit ≡ take 6 text → rest ≡ drop 6 text → map to_ascii_lowercase x ≡ word → text ≡ x ++ y
    → (unit ≡ x) × (rest ≡ y)
unit_at word text unit rest x y six eu er lower e =
    let long : length x ≡ 6 = sym (length-map x to_ascii_lowercase) ∙ ap length lower ∙ six in
    (eu ∙ ap (take 6) e ∙ take_at x y 6 long, er ∙ ap (drop 6) e ∙ drop_at x y 6 long)

pub range_at : (text unit spec : List ℕ) → unit ≡ take 6 text → spec ≡ drop 6 text → (asked : RangeSpec) → SpellsRange text asked
    → (map to_ascii_lowercase unit ≡ 98 ∷ 121 ∷ 116 ∷ 101 ∷ 115 ∷ 61 ∷ []) × SpellsSpec spec asked
range_at text unit spec eu es asked h =
    let same = unit_at (98 ∷ 121 ∷ 116 ∷ 101 ∷ 115 ∷ 61 ∷ []) text unit spec h.0 h.1 refl eu es h.2 h.4 in
    (ap (map to_ascii_lowercase) same.0 ∙ h.2, subst (λ (t : List ℕ). SpellsSpec t asked) (sym same.1) h.3)

pub content_range_at : (text unit response : List ℕ) → unit ≡ take 6 text → response ≡ drop 6 text → (range : ContentRange) → SpellsContentRange text range
    → (map to_ascii_lowercase unit ≡ 98 ∷ 121 ∷ 116 ∷ 101 ∷ 115 ∷ 32 ∷ []) × SpellsResponse response range
content_range_at text unit response eu er range h =
    let same = unit_at (98 ∷ 121 ∷ 116 ∷ 101 ∷ 115 ∷ 32 ∷ []) text unit response h.0 h.1 refl eu er h.2 h.4 in
    (ap (map to_ascii_lowercase) same.0 ∙ h.2, subst (λ (t : List ℕ). SpellsResponse t range) (sym same.1) h.3)

-- positions have no slash, and are no asterisk
pub lacks_slash : (text : List ℕ) (first last : ℕ) → SpellsPositions text first last → LacksByte 47 text
lacks_slash text first last h =
    let a = h.0 in
    let b = h.1 in
    subst (LacksByte 47) (sym h.5)
    (LacksByte-append 47 (a ++ 45 ∷ []) b (LacksByte-append 47 a (45 ∷ []) (LacksByte-number 47 a first (lit≤ tt) h.2) refl)
    (LacksByte-number 47 b last (lit≤ tt) h.3))

pub star_positions : (text : List ℕ) (first last : ℕ) → text ≡ 42 ∷ [] → SpellsPositions text first last → ⊥
star_positions text first last star h =
    let a = h.0 in
    let b = h.1 in
    let long : length text ≡ length a + 1 + length b = ap length h.5 ∙ length-append (a ++ 45 ∷ []) b ∙
    ap (λ (n : ℕ). n + length b) (length-append a (45 ∷ [])) in
    omega (arith, h.2.1.0, h.3.1.0, long, ap length star)

-- what a text tells that is cut at its first slash
abbrev pub SpellsParts : List ℕ → List ℕ → ContentRange → Type 0
SpellsParts p t (Part first last total) = SpellsPositions p first last × SpellsTotal t last total
SpellsParts p t (Unsatisfied total) = (p ≡ 42 ∷ []) × IsNumber t total

pub response_at : (text p t : List ℕ) → text ≡ p ++ 47 ∷ t → LacksByte 47 p → (range : ContentRange) → SpellsResponse text range → SpellsParts p t range
response_at text p t e lacks (Part first last total) h =
    let x = h.0 in
    let y = h.1 in
    let one = split_unique 47 x y p t (lacks_slash x first last h.2) lacks (sym (append_assoc x (47 ∷ []) y) ∙ sym h.4 ∙ e) in
    (subst (λ (s : List ℕ). SpellsPositions s first last) one.0 h.2, subst (λ (s : List ℕ). SpellsTotal s last total) one.1 h.3)
response_at text p t e lacks (Unsatisfied total) h =
    let one = split_unique 47 (42 ∷ []) h.0 p t refl lacks (sym h.2 ∙ e) in
    (sym one.0, rw (← one.1) h.1)

pub reports_unsatisfied : (p t : List ℕ) (range : ContentRange) → p ≡ 42 ∷ [] → SpellsParts p t range → (total : ℕ) × (range ≡ Unsatisfied total) ×
    IsNumber t total
reports_unsatisfied p t (Part first last total) star h = absurd (star_positions p first last star h.0)
reports_unsatisfied p t (Unsatisfied total) star h = (total, refl, h.1)

pub gives_part : (p t : List ℕ) (range : ContentRange) → p ≢ 42 ∷ [] → SpellsParts p t range
    → (first : ℕ) × (last : ℕ) × (total : Option ℕ) × (range ≡ Part first last total) × SpellsPositions p first last × SpellsTotal t last total
gives_part p t (Part first last total) differs h = (first, last, total, refl, h.0, h.1)
gives_part p t (Unsatisfied total) differs h = absurd (differs h.0)

-- two answers of a reader of positions
pub same_last : (r : Option (ℕ × ℕ)) (x y first last : ℕ) → r ≡ Some (x, y) → r ≡ Some (first, last) → y ≡ last
same_last r x y first last read spelled = let pair : ◌≡◌ {A = ℕ × ℕ} (x, y) (first, last) = cc in ap (λ (p : ℕ × ℕ). p.1) pair

pub same_positions : (r : Option (ℕ × ℕ)) (x y first last : ℕ) (asked : RangeSpec) → r ≡ Some (x, y) → r ≡ Some (first, last) →
    asked ≡ FromTo first last → Some (FromTo x y) ≡ Some asked
same_positions r x y first last asked read spelled is = grind (arith, nat_tests)

pub same_part : (r : Option (ℕ × ℕ)) (x y first last : ℕ) (s : Option (Option ℕ)) (z total : Option ℕ) (range : ContentRange)
    → r ≡ Some (x, y) → r ≡ Some (first, last) → s ≡ Some z → s ≡ Some total → range ≡ Part first last total → Some (Part x y z) ≡ Some range
same_part r x y first last s z total range read spelled reported wants is = grind (arith, nat_tests)

-- the asterisk in the place of positions
pub same_total : (x total : ℕ) (range : ContentRange) → range ≡ Unsatisfied total → x ≡ total → Some (Unsatisfied x) ≡ Some range
same_total x total range is same = cc
