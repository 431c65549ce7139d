-- What a cache has, told as contents.
use Rattle.std.specs.Prelude.{◌≡◌, ℕ, List, [], ◌∷◌, Some, option_map}
use Rattle.hc_sparse.specs.Cells.{EndsBy}
use Rattle.hc_stored.specs.Shelf.{Shelf, head_at, cells_at}
use Rattle.hc_stored.specs.Views.{key_in}
use Rattle.hc_model.specs.Contents.{runs_from}
use Rattle.hc_model.specs.Entries.{Content}

-- one representation: its head as it is kept, and its bytes as the longest runs
pub record IsContentOf (s : Shelf) (r : ℕ) (item : Content) : Type 0 where
  pub number : item.r ≡ r
  pub key : option_map key_in (s.kept r) ≡ Some item.key
  pub head : head_at s r ≡ Some item.head
  pub runs : (n : ℕ) → EndsBy n (cells_at s r) → item.runs ≡ runs_from (cells_at s r) 0 n

-- these, in this order
abbrev pub AreContentsOf : Shelf → List ℕ → List Content → Type 0
AreContentsOf s [] [] = Unit {0}
AreContentsOf s (r ∷ rs) (item ∷ items) = IsContentOf s r item × AreContentsOf s rs items
AreContentsOf s _ _ = ⊥
