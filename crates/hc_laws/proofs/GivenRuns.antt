-- What a reader was given stands in the body, and not past its end, in every run.
use Rattle.std.{proofs.{Common.{◌≡◌, ◌≤◌, ◌<◌, ◌⊎◌, inl, inr, ℕ, ◌+◌, ◌-◌, List, length, Bool, true, false, Option, Some, refl, ap, sym, ◌∙◌, subst, arith}, lemmas.Bool.Decides.{nat_tests}}, specs.{Prelude.{is_some, nat_lt}, Option.{option_or}}}
use Rattle.hc_text.proofs.Basics.{bool_cases, some_inj}
use Rattle.hc_sparse.specs.Cells.{Cell, Covers}
use Rattle.hc_effects.proofs.Vocabulary.{place, BoundBy, total_in, given_of, OfRuns, IsRun, may_begin, History, Contents, Limits, Measures, lo_of, reads, Holds, Tables, Representation, Consumer, Sound, tables}
use Rattle.hc_model.specs.Given.{Given, IsWithin}
use Rattle.hc_effects.proofs.{Basics.{false_true, some_row}, Bounded.{IsBounded}, GivenNext.{read_of}}
use Rattle.hc_laws.proofs.{ReadAs.{IsRead}, ReadEnds.{bounded}, ReadJoined.{joined_in_runs, is_reported}, ReadNext.{shown_one}, SoundRuns.{carried}}

-- what was given of the body that was shown
pub record AreCovered (t : Tables) : Type 0 where
  pub covered : (c r lo : ℕ) (hi : Option ℕ) (how : BoundBy) (k : Consumer) (v : Representation) → t.consumer c ≡ Some k →
      k.place ≡ place.Bound r lo hi how → t.representation r ≡ Some v → Covers v.body lo (lo + k.given)

held_there : (t : Tables) (r lo : ℕ) (bytes : List ℕ) (v : Representation) → t.representation r ≡ Some v → Holds t r lo bytes →
    Covers v.body lo (lo + length bytes)
held_there t r lo bytes v there holds p from to =
    let got = holds (p - lo) (omega arith) in
    grind (arith, nat_tests)

module _ (limits : Limits) (contents : Contents) (h : History) (may : may_begin limits contents ≡ true) (run : IsRun limits contents h) where
  abbrev after_h : Tables
  after_h = tables contents h

  by_shown : (c r lo : ℕ) (hi : Option ℕ) (how : BoundBy) (k : Consumer) (v : Representation) → after_h.consumer c ≡ Some k →
      k.place ≡ place.Bound r lo hi how → after_h.representation r ≡ Some v → (b : Bool) → k.shown ≡ b → Covers v.body lo (lo + k.given)
  by_shown c r lo hi how k v row at there false off = grind (arith, nat_tests, bounded)
  by_shown c r lo hi how k v row at there true on =
      let z = shown_one limits contents h run c k row on in
      let joined = joined_in_runs limits contents h may run in
      let read : IsRead after_h k z.0 = joined.read c k z.0 row z.1 (ap reads at) in
      let of_r : z.0.r ≡ r = some_inj z.0.r r (sym read.number ∙ ap read_of at) in
      let from : z.0.lo ≡ lo = sym read.from ∙ ap (lo_of after_h) at in
      let count = (is_reported limits contents h run).count c k row in
      let holds = joined.held c z.0 z.1 in
      subst (λ n. Covers v.body lo (lo + n)) (sym count)
      (held_there after_h r lo (given_of c h) v there
      (subst (λ n. Holds after_h r n (given_of c h)) from (subst (λ n. Holds after_h n z.0.lo (given_of c h)) of_r holds)))

covered_in_runs : OfRuns AreCovered
covered_in_runs limits contents h may run =
    record { covered = λ c r lo hi how k v row at there. by_shown limits contents h may run c r lo hi how k v row at there k.shown refl }

module _ (t : Tables) (s : Sound t) (m : Measures t) (b : IsBounded t) (a : AreCovered t) where
  reaches_by : (c r lo : ℕ) (hi : Option ℕ) (how : BoundBy) (k : Consumer) (v : Representation) → t.consumer c ≡ Some k →
      k.place ≡ place.Bound r lo hi how → t.representation r ≡ Some v → (k.given ≡ 0) ⊎ (lo + k.given ≤ v.reach)
  reaches_by c r lo hi how k v row at there = elim (bool_cases (nat_lt 0 k.given)) [
    | inr none ↦ let zero : k.given ≤ 0 = grind (arith, nat_tests) in inl (omega arith)
    | inl some ↦
        let more : 0 < k.given = grind (arith, nat_tests) in
        let last = a.covered c r lo hi how k v row at there (lo + k.given - 1) (omega arith) (omega arith) in
        elim (bool_cases (nat_lt (lo + k.given - 1) v.reach)) [
          | inl under ↦ let lt : lo + k.given - 1 < v.reach = grind (arith, nat_tests) in inr (omega arith)
          | inr past ↦ let over : v.reach ≤ lo + k.given - 1 = grind (arith, nat_tests) in
              absurd (false_true (sym (ap (λ (q : Option Cell). is_some q) ((s.rows r v there).store.ends _ over)) ∙ last))
        ]
  ]

  -- who reads up to an end that isn't known reads from the first position on
  within_by : (c r lo n : ℕ) (hi : Option ℕ) (how : BoundBy) (k : Consumer) (v : Representation) → t.consumer c ≡ Some k →
      k.place ≡ place.Bound r lo hi how → t.representation r ≡ Some v → option_or hi (total_in (t.representation r)) ≡ Some n → IsWithin lo k.given n
  within_by c r lo n hi how k v row at there is = grind (arith, nat_tests)

  given_by : Given t
  given_by = grind (arith, nat_tests, reaches_by, some_row, within_by)

pub given_in_runs : OfRuns Given
given_in_runs limits contents h may run =
    let c = carried limits contents h may run in
    given_by (tables contents h) c.is_sound c.is_measured (bounded limits contents h may run) (covered_in_runs limits contents h may run)
