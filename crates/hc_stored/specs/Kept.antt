-- What is kept of a representation, and how it changes.
use Rattle.std.specs.Prelude.{ℕ, ◌+◌, ◌&&◌, max, length, List, [], ◌∷◌, Bool, true, false, Option, Some, None, if◌then◌else◌}
use Rattle.hc_text.specs.Sorted.{with_item, without, itself}
use Rattle.hc_sparse.specs.Cells.{Cells, nothing, cells_with}
use Rattle.hc_record.specs.declared.kind.Kind.{Kind}
use Rattle.hc_record.specs.Head.{Head, sealed_head}
use Rattle.hc_store.specs.Heads.{with_kind}
use Rattle.hc_entry.specs.Used.{unless_it}

pub record Kept : Type 0 where
  pub key : List ℕ
  pub head : Head
  pub cells : Cells
  pub reach : ℕ  -- where the last of its bytes ends
  pub bound : List ℕ  -- the consumers that are bound to it, by number
  pub first : Option ℕ  -- who of them came alone
  pub writer : Option ℕ  -- the exchange of its writer group, the last one
  pub is_lost : Bool
  pub alone : Option ℕ  -- who goes on with it after it was lost
  pub is_gone : Bool

-- FOUNDED

-- the first one, where it came alone
abbrev pub alone_if : Bool → ℕ → Option ℕ
alone_if is_first c = if is_first then Some c else None

-- no byte is there, and one consumer is bound
abbrev pub founded_kept : List ℕ → Head → ℕ → Bool → Option ℕ → Kept
founded_kept key head c is_first writer = record {
  key = key;
  head = head;
  cells = nothing;
  reach = 0;
  bound = c ∷ [];
  first = alone_if is_first c;
  writer = writer;
  is_lost = false;
  alone = None;
  is_gone = false;
}

-- HEAD AND BYTES

abbrev pub with_head : Head → Kept → Kept
with_head head k = record k { head = head }

-- bytes of x from a position on, and with the last of them another kind
abbrev pub kept_with_bytes : ℕ → ℕ → List ℕ → Option Kind → Kept → Kept
kept_with_bytes at x bytes last k = record k {
  head = with_kind last k.head;
  cells = cells_with at x bytes k.cells;
  reach = max k.reach (at + length bytes);
}

-- another kind and total
abbrev pub sealed_kept : Kind → Option ℕ → Kept → Kept
sealed_kept kind total k = record k { head = sealed_head kind total k.head }

-- CONSUMERS

abbrev pub with_user : ℕ → Kept → Kept
with_user c k = record k { bound = with_item itself c k.bound }

-- one that comes alone
abbrev pub with_first : ℕ → Kept → Kept
with_first c k = record k { bound = with_item itself c k.bound; first = Some c }

abbrev pub without_user : ℕ → Kept → Kept
without_user c k = record k { bound = without itself c k.bound; first = unless_it c k.first }

-- WHAT BECOMES OF IT

abbrev pub is_nobody : List ℕ → Bool
is_nobody [] = true
is_nobody (c ∷ cs) = false

-- one that is gone is kept as long as somebody is bound to it
abbrev pub while_used : Kept → Option Kept
while_used k = if k.is_gone && is_nobody k.bound then None else Some k

abbrev pub left_by : ℕ → Kept → Option Kept
left_by c k = while_used (without_user c k)

abbrev pub kept_as_gone : Kept → Option Kept
kept_as_gone k = while_used (record k { is_gone = true })

abbrev pub kept_as_lost : Option ℕ → Kept → Kept
kept_as_lost alone k = record k { is_lost = true; alone = alone }

abbrev pub written_by : ℕ → Kept → Kept
written_by x k = record k { writer = Some x }
