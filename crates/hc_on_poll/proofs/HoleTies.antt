-- The first hole in what is stored is that of the tables, where nothing is stored from a position on.
--
-- The code looks for the first absent byte of a span, and then for the next that is there. The tables look no further
-- than the stored bytes reach. Behind that nothing is there, so both find the same begin (`absent_is`), and where it
-- isn't the end of the span the same end (`end_is`). `holes_same` joins the cases: the span is empty, is covered, or
-- has a hole. That lies inside (`hole_inside`). `hole_as` is for `CandidateTies`.
use Rattle.std.{proofs.{Common.{◌≡◌, inl, inr, ℕ, ◌+◌, ◌-◌, ◌<◌, ◌≤◌, true, false, min, Option, Some, None, refl, ap, sym, ◌∙◌, subst, arith}, lemmas.Bool.Decides.{nat_tests}}, specs.Prelude.{is_some, is_none}}
use Rattle.hc_text.proofs.Basics.{le_or, lt_cases as lt_or}
use Rattle.hc_range.specs.declared.range.Span.{Span}
use Rattle.hc_sparse.specs.Cells.{Cells, Cell, EndsBy, Covers}
use Rattle.hc_effects.proofs.Vocabulary.{Wanted, first_place, absent_from, covers, hole_at, first_hole, hole_of, Representation, wanted}
use Rattle.hc_partial.specs.Holes as partial
use Rattle.hc_partial.proofs.HoleLemmas.{absent_from_is, present_from_is, first_hole-none, first_hole-some, first_hole-empty}
use Rattle.hc_effects.proofs.{Basics.{same_functions}, HoleLemmas.{first_from, first_to, first_before, first_passes, some_of, not_none, hole_absent, hole_some}, HolesOpened.{first_hole_is}, Tests.{none_some}}
use Rattle.hc_txn.specs.Plans.{hole_in}

none_is : (o : Option Cell) → o ≡ None → is_some o ≡ true → ⊥
none_is o none some = let never : false ≡ true = rw none at some in cc

module _ (f : Cells) (reach : ℕ) (span : Span) (ends : EndsBy reach f) where
  abbrev lo : ℕ
  lo = span.lo

  abbrev hi : ℕ
  hi = span.hi

  abbrev n : ℕ
  n = min hi reach - lo

  abbrev a : ℕ
  a = absent_from f reach lo hi

  from : lo ≤ a
  from = first_from is_none f lo n

  to : a ≤ lo + n
  to = first_to is_none f lo n

  before : Covers f lo a
  before p le lt = some_of (f p) (first_before is_none f lo n p le lt)

  -- nothing is there, where that isn't the end
  absent_there : a < hi → f a ≡ None
  absent_there lt = elim (lt_or a (lo + n)) [
    | inl within ↦ not_none (f a) (first_passes is_none f lo n within.1)
    | inr behind ↦ (let low = from in let past = behind.1 in let high = to in ends a (omega arith))
  ]

  up : lo ≤ hi → a ≤ hi
  up le = (let high = to in omega arith)

  absent_is : lo ≤ hi → a ≡ partial.absent_from f lo hi
  absent_is le = absent_from_is f lo hi a from (up le) before (λ lt there. none_is (f a) (absent_there lt) there)

  -- the end of the hole
  abbrev b : ℕ
  b = (hole_at f reach a hi).hi

  abbrev next : ℕ
  next = first_place is_some f a (reach - a)

  end_there : b < hi → is_some (f b) ≡ true
  end_there lt = elim (lt_or next reach) [
    | inl near ↦ (
        let is : b ≡ min hi next = rw near.0 refl in
        let passes : is_some (f next) ≡ true =
        first_passes is_some f a (reach - a) (let low = first_from is_some f a (reach - a) in let inside = near.1 in omega arith) in
        subst (λ (p : ℕ). is_some (f p) ≡ true) (sym (let less = lt in omega arith)) passes)
    | inr far ↦ absurd (let is : b ≡ hi = rw far.0 refl in omega arith)
  ]

  end_up : b ≤ hi
  end_up = elim (lt_or next reach) [
    | inl near ↦ (let is : b ≡ min hi next = rw near.0 refl in omega arith)
    | inr far ↦ (let is : b ≡ hi = rw far.0 refl in omega arith)
  ]

  end_is : a < hi → b ≡ partial.present_from f a hi
  end_is lt =
      let more : a < b = hole_some f reach a hi (absent_there lt) lt in
      present_from_is f a hi b (omega arith) end_up (λ p le less. hole_absent f reach a hi p ends le less) end_there

  holes_same : partial.first_hole f span ≡ first_hole f reach span
  holes_same = elim (lt_or lo hi) [
    | inr empty ↦ (
        let past : hi ≤ a = (let low = from in let e = empty.1 in omega arith) in
        let on : covers f reach lo hi ≡ true = grind (arith, nat_tests, past) in
        sym (first_hole-empty f span empty.1) ∙ rw on refl)
    | inl some ↦ elim (le_or hi a) [
      | inl past ↦ (
          let on : covers f reach lo hi ≡ true = past.0 in
          sym (first_hole-none f span a (absent_is (let lt = some.1 in omega arith)) past.1) ∙ rw on refl)
      | inr inside ↦ (
          let off : covers f reach lo hi ≡ false = inside.0 in
          sym (first_hole-some f span a b (absent_is (let lt = some.1 in omega arith)) inside.1 (end_is inside.1)) ∙ rw off refl)
    ]
  ]

  -- the hole isn't empty, and inside of the span
  pub hole_inside : (hole : Span) → first_hole f reach span ≡ Some hole → (hole.lo < hole.hi) × (hole.hi ≤ hi)
  hole_inside hole is = elim (le_or hi a) [
    | inl past ↦ (let on : covers f reach lo hi ≡ true = past.0 in none_some hole (rw on at is))
    | inr inside ↦ (
        let same = first_hole_is f reach span hole is in
        let first : hole.lo ≡ a = ap (λ (z : Span). z.lo) same in
        let last : hole.hi ≡ b = ap (λ (z : Span). z.hi) same in
        let more : a < b = hole_some f reach a hi (absent_there inside.1) inside.1 in
        let up : b ≤ hi = end_up in
        (omega (arith, first, last, more), omega (arith, last, up)))
  ]

-- of what is wanted
pub hole_as : (v : Representation) (cells : Cells) → EndsBy v.reach v.stored → ((p : ℕ) → cells p ≡ v.stored p) → (w : Wanted) → hole_in cells w ≡ hole_of v w
hole_as v cells ends same (wanted.Interval span) = ap (λ (f : Cells). partial.first_hole f span) (same_functions cells v.stored same) ∙
    holes_same v.stored v.reach span ends
hole_as v cells ends same _ = refl
