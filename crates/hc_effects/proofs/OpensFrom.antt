-- An exchange for a hole is opened for a consumer that is bound to nothing only where nobody is bound to what is
-- current.
use Rattle.std.proofs.{lemmas.Bool.Decides.{nat_tests}, Common.{arith, ◌≡◌, ℕ, [], Some, None}}
use Rattle.hc_effects.proofs.Vocabulary.{Opening, Need, route_of, current, Move, move_of, bound, bound_to, Tables, Consumer, Sound, need, route}
use Rattle.hc_effects.proofs.{PollTree.{OpensHole, FineMove, fine_polled}, Said.{IsOpening}}
use Rattle.hc_effects.proofs.PollTree as tree
use Rattle.hc_effects.proofs.Said as said

pub record IsHole (n : Need) : Type 0 where
  pub from : ℕ
  pub to : ℕ
  pub is : n ≡ need.Hole from to

pub hole_is : (n : Need) → route_of n ≡ route.Hole → IsHole n
hole_is n is = grind (arith, nat_tests)

module _ (t : Tables) (c : ℕ) (k : Consumer) (o : Opening) where
  why : (m : Move) → FineMove t c k m → IsOpening o m → (from to : ℕ) → o.need ≡ need.Hole from to → OpensHole t c k from to
  why _ (tree.opens x n request is_next because) said.opens from to is = because from to is
  why _ _ opening from to is = elim opening [ ]

  pub opens_hole : (now want : ℕ) → Sound t → t.consumer c ≡ Some k → IsOpening o (move_of t now want c k) → (from to : ℕ) → o.need ≡ need.Hole from to →
      OpensHole t c k from to
  opens_hole now want s row opening from to is = why (move_of t now want c k) (fine_polled t c k s row now want) opening from to is

  nobody_by : (from to r : ℕ) → t.consumer c ≡ Some k → OpensHole t c k from to → bound_to k.place ≡ None → current t k.request.key ≡ Some r → bound t r ≡ []
  nobody_by from to r row it4 free current_is = grind (arith, nat_tests)

  -- nobody is bound to that of which a first hole is filled
  pub nobody_bound : (now want r : ℕ) → Sound t → t.consumer c ≡ Some k → IsOpening o (move_of t now want c k) → route_of o.need ≡ route.Hole →
      bound_to k.place ≡ None → current t k.request.key ≡ Some r → bound t r ≡ []
  nobody_bound now want r s row opening way free current_is =
      let h = hole_is o.need way in
      nobody_by h.from h.to r row (opens_hole now want s row opening h.from h.to h.is) free current_is
