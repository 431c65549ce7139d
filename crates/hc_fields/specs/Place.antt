-- Where the fields of a name stand in a list.
use Rattle.std.specs.Prelude.{◌≡◌, ℕ, ◌+◌, ◌≤◌, List, length}
use Rattle.hc_fields.specs.declared.search.Place.{Place}
use Rattle.hc_fields.specs.FieldList.{start_of, end_of, without, size_of}

-- the place of the fields of this name, with what all others are
pub record IsPlace (name : List ℕ) (fs : List (List ℕ × List ℕ)) (p : Place) : Type 0 where
  pub start_is : p.start ≡ start_of name fs
  pub end_is : p.start + p.count ≡ end_of name fs
  pub within : p.start + p.count ≤ length fs
  pub others : length (without name fs) + p.count ≡ length fs
  pub other_bytes : size_of (without name fs) + p.size ≡ size_of fs
