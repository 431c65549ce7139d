-- Numbers stay in order.
use Rattle.std.{proofs.{Common.{◌≡◌, ℕ, ◌+◌, ◌≤◌, List, [], ◌∷◌, Bool, true, false, eqb, refl, ap, ◌∙◌, sym, inl, inr, arith}, lemmas.Bool.{cases_Bool, eqb-true, eq-eqb, or_right}}, specs.Prelude.{filter, Some, is_some}}
use Rattle.hc_text.proofs.{Basics.{or_cases as or_parts}, SortedLemmas.{has-with, has-without, has-found}}
use Rattle.hc_text.specs.Sorted.{has, is_at, item_with, with_item, without, itself}
use Rattle.hc_generate.specs.{declared.exchange.Exchange.{Exchange}, Sending.{number_of}}

-- those that are live are at most `last`
abbrev pub AreStarted : ℕ → List ℕ → Type 0
AreStarted last live = (c : ℕ) → has itself c live ≡ true → c ≤ last

pub AreStarted-with : (last : ℕ) (live : List ℕ) → AreStarted last live → AreStarted (last + 1) (with_item itself (last + 1) live)
AreStarted-with last live before c is = elim (or_parts (is_at itself c (last + 1)) (has itself c live) (sym (has-with itself c (last + 1) live) ∙ is)) [
  | inl same ↦ omega (arith, eqb-true (last + 1) c same)
  | inr other ↦ omega (arith, before c other)
]

has-filter : (p : ℕ → Bool) (c : ℕ) (live : List ℕ) → has itself c (filter p live) ≡ true → has itself c live ≡ true
has-filter p c [] is = is
has-filter p c (d ∷ live) is = elim (cases_Bool (p d)) [
  | inl kept ↦ elim (or_parts (eqb d c) (has itself c (filter p live)) (rw kept at is)) [
    | inl same ↦ rw same refl
    | inr other ↦ or_right (eqb d c) (has itself c live) (has-filter p c live other)
  ]
  | inr gone ↦ or_right (eqb d c) (has itself c live) (has-filter p c live (rw gone at is))
]

pub AreStarted-filter : (p : ℕ → Bool) (last : ℕ) (live : List ℕ) → AreStarted last live → AreStarted last (filter p live)
AreStarted-filter p last live before c is = before c (has-filter p c live is)

-- what was left out isn't there
pub has-left_out : (x : ℕ) (exchanges : List Exchange) → has number_of x (without number_of x exchanges) ≡ false
has-left_out x exchanges = has-without number_of x x exchanges ∙ rw (eq-eqb x x refl) refl

-- what is found is there
pub has-is_found : (x : ℕ) (e : Exchange) (exchanges : List Exchange) → item_with number_of x exchanges ≡ Some e → has number_of x exchanges ≡ true
has-is_found x e exchanges is = has-found number_of x exchanges ∙ ap is_some is
