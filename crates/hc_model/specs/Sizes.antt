-- How much is stored of a representation: as many bytes as positions, and no more than an entry may have.
use Rattle.std.specs.Prelude.{◌≡◌, ◌≤◌, ℕ, Some}
use Rattle.hc_sparse.specs.Cells.{size_below}
use Rattle.hc_rules.specs.declared.room.Limits.{Limits}
use Rattle.hc_model.specs.Rows.{Tables, Representation}

pub record Sizes (limits : Limits) (t : Tables) : Type 0 where
  pub counted : (r : ℕ) (v : Representation) → t.representation r ≡ Some v →
      v.size ≡ size_below v.stored v.reach
  pub small : (r : ℕ) (v : Representation) → t.representation r ≡ Some v →
      v.size ≤ limits.max_entry
