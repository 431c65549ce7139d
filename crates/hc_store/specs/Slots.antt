-- What each live slot holds.
use Rattle.std.specs.Prelude.{◌≡◌, ℕ, zero, suc, ◌+◌, ◌^◌, List, Bool, Option, Some, None, is_some, option_map, if◌then◌else◌, ◌==◌}
use Rattle.hc_record.specs.declared.kind.Kind.{Kind}
use Rattle.hc_rules.specs.Rooms.{weight_of}
use Rattle.hc_sparse.specs.Cells.{Cells, cells_with, nothing, size}
use Rattle.hc_record.specs.Head.{Head, sealed_head}
use Rattle.hc_store.specs.Heads.{with_kind}

-- A head, and the bytes at their positions.
pub record Held : Type 0 where
  pub head : Head
  pub cells : Cells

-- What the live slots hold, by their numbers.
abbrev pub Slots : Type 0
Slots = ℕ → Option Held

-- No slot is live.
abbrev pub no_slots : Slots
no_slots n = None

-- One slot is so, and every other is as it was.
abbrev pub with_slot : ℕ → Option Held → Slots → Slots
with_slot n held slots m = if n == m then held else slots m

-- What one slot holds changes, and every other is as it was.
abbrev pub slots_after : (Held → Held) → ℕ → Slots → Slots
slots_after f n slots = with_slot n (option_map f (slots n)) slots

-- A head, and no bytes.
abbrev pub bare : Head → Held
bare head = record { head = head; cells = nothing }

-- A slot more, with a head and no bytes.
abbrev pub with_bare : ℕ → Head → Slots → Slots
with_bare n head slots = with_slot n (Some (bare head)) slots

-- What one slot holds changes, and every other is as it was, slot by slot.
abbrev pub Changes : (Held → Held) → ℕ → Slots → Slots → Type 0
Changes f n slots after = (m : ℕ) → after m ≡ slots_after f n slots m

-- Another head, and the same bytes.
abbrev pub rewrites : Head → Held → Held
rewrites head h = record h { head = head }

-- Bytes of x more, and where there is one another kind.
abbrev pub puts : ℕ → ℕ → List ℕ → Option Kind → Held → Held
puts from x bytes last h = record { head = with_kind last h.head; cells = cells_with from x bytes h.cells }

-- Another kind and total, and the same bytes.
abbrev pub seals : Kind → Option ℕ → Held → Held
seals kind total h = record h { head = sealed_head kind total h.head }

abbrev pub is_live : Slots → ℕ → Bool
is_live slots n = is_some (slots n)

-- The head in a slot.
abbrev pub head_in : Slots → ℕ → Option Head
head_in slots n = option_map (λ h. h.head) (slots n)

-- The kind of that head.
abbrev pub kind_in : Slots → ℕ → Option Kind
kind_in slots n = option_map (λ h. h.head.kind) (slots n)

abbrev pub cells_held : Option Held → Cells
cells_held None p = None
cells_held (Some h) p = h.cells p

-- The bytes in a slot.
abbrev pub cells_in : Slots → ℕ → Cells
cells_in slots n p = cells_held (slots n) p

-- How many bytes are in a slot.
abbrev pub size_in : Slots → ℕ → ℕ
size_in slots n = size (cells_in slots n)

abbrev pub weigh : Option Held → ℕ
weigh None = 0
weigh (Some h) = weight_of (size h.cells)

unfoldable pub weight_below : Slots → ℕ → ℕ
weight_below slots zero = 0
weight_below slots (suc n) = weigh (slots n) + weight_below slots n

-- What the live slots weigh in all.
unfoldable pub weight : Slots → ℕ
weight slots = weight_below slots (2 ^ 64)
