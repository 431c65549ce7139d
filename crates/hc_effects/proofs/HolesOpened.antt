-- The holes for which exchanges are opened are absent.
use Rattle.std.proofs.{lemmas.Bool.Decides.{nat_tests}, Common.{◌≡◌, inl, inr, ℕ, ◌<◌, ◌≤◌, true, false, Some, None, sym, ◌∙◌, arith}}
use Rattle.hc_text.proofs.Basics.{bool_cases, lt_or as split}
use Rattle.hc_range.specs.declared.range.Span.{Span}
use Rattle.hc_sparse.specs.Cells.{Cells, EndsBy}
use Rattle.hc_effects.proofs.Vocabulary.{front, first_hole, hole_at, absent_from, offset, Tables, Representation, Consumer, Sound, IsSoundRepresentation, IsExclusiveWriter}
use Rattle.hc_model.specs.Sound as sound
use Rattle.hc_effects.proofs.{HoleLemmas.{hole_absent}, ExclusiveWriters.{IsAtHole, has_exclusive_writer}}

-- what is stored ends where the body ends
pub stored_ends : (t : Tables) (r : ℕ) (v : Representation) → IsSoundRepresentation t r v → EndsBy v.reach v.stored
stored_ends t r v row p le = grind (arith, nat_tests)

-- a later hole: what isn't stored of it hasn't come either
pub later_absent : (t : Tables) (r c hi : ℕ) (v : Representation) (k : Consumer) → Sound t → IsAtHole t r c hi v k → v.body (offset t k) ≡ None →
    (p : ℕ) → offset t k ≤ p → p < (hole_at v.stored v.reach (offset t k) hi).hi → v.body p ≡ None
later_absent t r c hi v k s at none p le lt =
    let row = s.rows r v at.row in
    let missing : v.stored p ≡ None = hole_absent v.stored v.reach (offset t k) hi p (stored_ends t r v row) le lt in
    by_exclusive_writer (has_exclusive_writer t r c hi v k s at) row missing
  where
    by_exclusive_writer : IsExclusiveWriter t r v c → IsSoundRepresentation t r v → v.stored p ≡ None → v.body p ≡ None
    by_exclusive_writer (sound.first kept came) row missing = sym (row.store.all_stored kept p) ∙ missing
    by_exclusive_writer (sound.alone lost is) row missing =
        let a = s.alone r c v k at.row is at.is_reader at.none_due in
        elim (split (offset t k) (front a.w)) [
          | inl before ↦ absurd (let there = a.covered (offset t k) (omega arith) before in let never : false ≡ true = rw none at there in cc)
          | inr past ↦ sym (a.ahead p (omega arith) le) ∙ missing
        ]

-- the first hole of a span
pub first_hole_is : (f : Cells) (reach : ℕ) (span hole : Span) → first_hole f reach span ≡ Some hole →
    hole ≡ hole_at f reach (absent_from f reach span.lo span.hi) span.hi
first_hole_is f reach span hole is = grind (arith, nat_tests)

-- a first hole: what is current isn't lost, so what isn't stored hasn't come
pub first_absent : (t : Tables) (r : ℕ) (v : Representation) (span hole : Span) → Sound t → t.representation r ≡ Some v → v.is_gone ≡ false →
    first_hole v.stored v.reach span ≡ Some hole → (p : ℕ) → hole.lo ≤ p → p < hole.hi → v.body p ≡ None
first_absent t r v span hole s is not_gone found p le lt =
    let row = s.rows r v is in
    let same = first_hole_is v.stored v.reach span hole found in
    let lo : (hole_at v.stored v.reach (absent_from v.stored v.reach span.lo span.hi) span.hi).lo ≤ p = rw same at le in
    let hi : p < (hole_at v.stored v.reach (absent_from v.stored v.reach span.lo span.hi) span.hi).hi = rw same at lt in
    let missing : v.stored p ≡ None = hole_absent v.stored v.reach (absent_from v.stored v.reach span.lo span.hi) span.hi p (stored_ends t r v row) lo hi in
    elim (bool_cases v.is_lost) [
      | inl lost ↦ absurd (let never : false ≡ true = sym not_gone ∙ row.store.lost_is_gone lost in cc)
      | inr kept ↦ sym (row.store.all_stored kept p) ∙ missing
    ]
