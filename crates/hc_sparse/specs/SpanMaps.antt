-- Spans by where they end.
use Rattle.std.specs.Prelude.{◌≡◌, ℕ, ◌≤◌, Some}
use Rattle.std.specs.Ordering.{nat_cmp}
use Rattle.std.specs.BTreeMap.{BTreeMap, get}
use Rattle.hc_sparse.specs.Extents.{Marks, HaveAll}

-- A span begins at a position, and ends at another.
abbrev pub IsSpan : BTreeMap ℕ ℕ → ℕ → ℕ → Type 0
IsSpan m begin end = get nat_cmp m end ≡ Some begin

-- No span begins past where it ends.
abbrev pub Rise : BTreeMap ℕ ℕ → Type 0
Rise m = (begin end : ℕ) → IsSpan m begin end → begin ≤ end

-- Somebody has each position of each span.
abbrev pub AllHad : BTreeMap ℕ ℕ → Marks → Type 0
AllHad m f = (begin end : ℕ) → IsSpan m begin end → HaveAll f begin end
