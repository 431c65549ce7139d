-- A map by number, changed at one.
use Rattle.std.{proofs.{Common.{◌≡◌, ℕ, ◌<◌, [], ◌∷◌, false, eqb, ltb, Option, None, refl, inl, inr}, lemmas.Bool.{cases_Bool}}, specs.{Ordering.{nat_cmp}, BTreeMap.{BTreeMap, Updates, btree_map_len, get}}}
use Rattle.hc_text.proofs.Basics.{no_entries}
use Rattle.hc_origin.proofs.Takers.{apart_sym}

module _ {X : Type 0} (m n : BTreeMap ℕ X) (k : ℕ) (w : Option X) (updates : Updates nat_cmp m n k w) where
  pub map-own : get nat_cmp n k ≡ w
  map-own = updates.1

  pub map-other : (j : ℕ) → eqb j k ≡ false → get nat_cmp n j ≡ get nat_cmp m j
  map-other j off = updates.2 j (elim (cases_Bool (ltb k j)) [
    | inl less ↦ rw less refl
    | inr more ↦ rw (more, apart_sym j k off) refl
  ])

pub map-empty : {X : Type 0} (m : BTreeMap ℕ X) → (0 < btree_map_len m → ⊥) → (k : ℕ) → get nat_cmp m k ≡ None
map-empty m none k = no_entries m.entries k none
