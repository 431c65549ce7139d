-- Of what is in use as many bytes are stored as is said, in each run for which the rows of a cache stand. A count of bytes looks at
-- positions below 2^62 alone. In a run that began with this cache no more came than it counted, so nothing is stored from
-- there on. Any other run for which its rows stand has the same bytes stored of what is kept, and all that is in use is kept. So nothing
-- is stored from there on in that run either, however many bytes came in it.
use Rattle.std.{proofs.{Common.{◌≡◌, ℕ, ◌<◌, ◌≤◌, ◌^◌, true, Option, Some, None, refl, sym, ◌∙◌, subst, arith}, lemmas.Bool.Decides.{nat_tests}}, specs.Prelude.{is_some, nat_eq}}
use Rattle.hc_store.specs.declared.backend.Backend.{Ghosts}
use Rattle.hc_sparse.specs.Cells.{Cell, Cells, EndsBy, size, size_below}
use Rattle.hc_effects.proofs.Vocabulary.{Limits, Lawful, AreSized, Numbers, Tables, Representation, Sizes}
use Rattle.hc_stored.specs.{Entries.{shelf_of}, Kept.{Kept}}
use Rattle.hc_laws.proofs.Positions.{below_past}
use Rattle.hc_state.specs.{declared.rows.Rows.{Rows}, Stands.{RowsStand}, Stored.{KeepsEntry}}
use Rattle.hc_state.proofs.Maps.{merely_true}
use Rattle.hc_on_leave.proofs.StoreHandler.{none_by}

pub merely_same : {P : Type 0} (n m : ℕ) → ∥ P ∥₁ → (P → n ≡ m) → n ≡ m
merely_same n m some same =
    let test : nat_eq n m ≡ true = merely_true (nat_eq n m) some (λ p. let is = same p in grind (arith, nat_tests, is)) in
    grind (arith, nat_tests, test)

-- two positions past which nothing is
pub below_either : (f : Cells) (n m : ℕ) → EndsBy n f → EndsBy m f → size_below f n ≡ size_below f m
below_either f n m ends also = grind (arith, nat_tests, below_past)

-- IN A RUN THAT BEGAN WITH THIS CACHE

module _ (t : Tables) (law : Lawful t) where
  -- nothing is stored from where nothing came
  stored_ends : (q : ℕ) (v : Representation) → t.representation q ≡ Some v → EndsBy v.reach v.stored
  stored_ends q v row p past = let store = (law.sound.rows q v row).store in none_by (v.stored p) (v.body p) (store.some_stored p) (store.ends p past)

  few_ends : (q : ℕ) (v : Representation) → t.representation q ≡ Some v → Numbers t → t.received < 2 ^ 62 → EndsBy (2 ^ 62) v.stored
  few_ends q v row numbers few p past =
      let reach : v.reach ≤ 2 ^ 62 = grind (arith, nat_tests, numbers.reaches q v row, few) in
      stored_ends q v row p (omega (arith, reach, past))

  sized_by : (limits : Limits) → Sizes limits t → (q : ℕ) (v : Representation) → t.representation q ≡ Some v → EndsBy (2 ^ 62) v.stored → v.size ≡ size v.stored
  unfolding size
  sized_by limits sizes q v row ends = sizes.counted q v row ∙ below_either v.stored v.reach (2 ^ 62) (stored_ends q v row) ends

pub sized_here : (limits : Limits) (t : Tables) → Lawful t → Sizes limits t → Numbers t → t.received < 2 ^ 62 → AreSized t
sized_here limits t law sizes numbers few q v row used = sized_by t law limits sizes q v row (few_ends t law q v row numbers few)

-- IN ANY OTHER

module _ {B : Type 0} {g : Ghosts B} (r : Rows B g) (t s : Tables) (law : Lawful t) (sizes : Sizes (shelf_of r.entries).limits t)
    (stands : RowsStand (shelf_of r.entries).limits r t)
    (its_law : Lawful s) (numbers : Numbers s) (few : s.received < 2 ^ 62) (stands_too : RowsStand (shelf_of r.entries).limits r s) where
  abbrev kept : ℕ → Option Kept
  kept = (shelf_of r.entries).kept

  -- what is kept is stored in either
  kept_ends : (q : ℕ) (k : Kept) → kept q ≡ Some k → EndsBy (2 ^ 62) k.cells
  kept_ends q k at = by_row (s.representation q) refl (subst (λ o. KeepsEntry s q o (s.representation q)) at (stands_too.entries.each q))
    where
      by_row : (o : Option Representation) → s.representation q ≡ o → KeepsEntry s q (Some k) o → EndsBy (2 ^ 62) k.cells
      by_row None row keeps = absurd keeps
      by_row (Some v) row is = λ p past. is.cells p ∙ few_ends s its_law q v row numbers few p past

  pub sized_alike : AreSized t
  sized_alike q v row used = by_kept (kept q) refl (subst (KeepsEntry t q (kept q)) row (stands.entries.each q))
    where
      by_kept : (o : Option Kept) → kept q ≡ o → KeepsEntry t q o (Some v) → v.size ≡ size v.stored
      by_kept None at dropped = absurd (used dropped.gone dropped.unused)
      by_kept (Some k) at is = sized_by t law (shelf_of r.entries).limits sizes q v row (λ p past. sym (is.cells p) ∙ kept_ends q k at p past)
