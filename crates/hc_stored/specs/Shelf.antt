-- What is kept of all representations, and how it changes.
use Rattle.std.specs.Prelude.{◌≡◌, ℕ, ◌==◌, List, [], ◌∷◌, filter, reverse, Bool, true, false, Option, Some, None, is_some, option_map, nat_eq, if◌then◌else◌}
use Rattle.std.specs.List.{IsDistinct}
use Rattle.hc_text.specs.Sorted.{has, without, itself}
use Rattle.hc_sparse.specs.Cells.{Cells, size}
use Rattle.hc_record.specs.Head.{Head}
use Rattle.hc_rules.specs.declared.room.Limits.{Limits}
use Rattle.hc_rules.specs.Rooms.{weight_of}
use Rattle.hc_stored.specs.Kept.{Kept, is_nobody}

pub record Shelf : Type 0 where
  pub kept : ℕ → Option Kept  -- by number
  pub order : List ℕ  -- those that aren't gone, first the one to which a consumer became bound last
  pub used : ℕ  -- what all weigh
  pub limits : Limits
  pub faults : ℕ  -- how often the store has failed

-- WHAT CHANGES

-- What is kept of one changes so, and the order so. All else stays but for the count of faults.
pub record Becomes (f : Option Kept → Option Kept) (move : List ℕ → List ℕ) (r : ℕ) (old new : Shelf) : Type 0 where
  pub kept : (q : ℕ) → new.kept q ≡ (if r == q then f (old.kept r) else old.kept q)
  pub order : new.order ≡ move old.order
  pub limits : new.limits ≡ old.limits

-- All that is kept stays.
pub record Stays (old new : Shelf) : Type 0 where
  pub kept : (q : ℕ) → new.kept q ≡ old.kept q
  pub order : new.order ≡ old.order
  pub used : new.used ≡ old.used
  pub limits : new.limits ≡ old.limits

abbrev pub same_order : List ℕ → List ℕ
same_order order = order

abbrev pub first_in : ℕ → List ℕ → List ℕ
first_in r order = r ∷ order

abbrev pub moved_first : ℕ → List ℕ → List ℕ
moved_first r order = r ∷ without itself r order

abbrev pub taken_out : ℕ → List ℕ → List ℕ
taken_out r order = without itself r order

-- OF ONE

abbrev pub is_kept : Shelf → ℕ → Bool
is_kept s r = is_some (s.kept r)

abbrev pub head_at : Shelf → ℕ → Option Head
head_at s r = option_map (λ (k : Kept). k.head) (s.kept r)

abbrev pub cells_in : Option Kept → Cells
cells_in None p = None
cells_in (Some k) p = k.cells p

abbrev pub cells_at : Shelf → ℕ → Cells
cells_at s r p = cells_in (s.kept r) p

abbrev pub size_at : Shelf → ℕ → ℕ
size_at s r = size (cells_at s r)

-- WEIGHTS

abbrev pub weigh_kept : Option Kept → ℕ
weigh_kept None = 0
weigh_kept (Some k) = weight_of (size k.cells)

abbrev pub weight_at : Shelf → ℕ → ℕ
weight_at s r = weigh_kept (s.kept r)

-- Each number stands there once, and that of each one that is kept does.
pub record ListsKept (s : Shelf) (rs : List ℕ) : Type 0 where
  pub distinct : IsDistinct nat_eq rs
  pub all : (r : ℕ) → is_kept s r ≡ true → has itself r rs ≡ true

-- WHO IS IDLE

abbrev pub is_unused : Option Kept → Bool
is_unused None = false
is_unused (Some k) = is_nobody k.bound

-- the current ones to which nobody is bound, first the one to which none was bound for longest
abbrev pub idle : Shelf → List ℕ
idle s = filter (λ r. is_unused (s.kept r)) (reverse s.order)

abbrev pub first_of : List ℕ → Option ℕ
first_of [] = None
first_of (r ∷ rs) = Some r
