-- Calls that are counted, and which of them are listed.
use Rattle.std.specs.Prelude.{ℕ, ◌+◌, ◌^◌, ◌-◌, ◌==◌, ◌&&◌, min, Bool, List, position, Option, Some, None}
use Rattle.std.specs.List.{remove}
use Rattle.hc_store.specs.declared.failing.Op.{Op}
use Rattle.hc_store.specs.declared.failing.Op.TheVariants.{Create, WriteRecord, ReadRecord, Put, RunAt, Seal}
use Rattle.hc_store.specs.declared.failing.Calls.{Calls}

-- How many calls of a kind there were.
abbrev pub calls_of : Calls → Op → ℕ
calls_of c Create = c.create
calls_of c WriteRecord = c.write_record
calls_of c ReadRecord = c.read_record
calls_of c Put = c.put
calls_of c RunAt = c.run_at
calls_of c Seal = c.seal

-- The number of the next call of a kind, from 1. The greatest number stays.
abbrev pub next_of : Calls → Op → ℕ
next_of c op = min (calls_of c op + 1) (2 ^ 64 - 1)

-- One call more of a kind.
abbrev pub calls_with : Op → Calls → Calls
calls_with Create c = record c { create = next_of c Create }
calls_with WriteRecord c = record c { write_record = next_of c WriteRecord }
calls_with ReadRecord c = record c { read_record = next_of c ReadRecord }
calls_with Put c = record c { put = next_of c Put }
calls_with RunAt c = record c { run_at = next_of c RunAt }
calls_with Seal c = record c { seal = next_of c Seal }

abbrev pub no_calls : Calls
no_calls = record { create = 0; write_record = 0; read_record = 0; put = 0; run_at = 0; seal = 0 }

-- The place of a kind among the kinds.
abbrev pub rank : Op → ℕ
rank Create = 0
rank WriteRecord = 1
rank ReadRecord = 2
rank Put = 3
rank RunAt = 4
rank Seal = 5

-- The entry lists this call.
abbrev pub is_entry_of : Op → ℕ → Op × ℕ → Bool
is_entry_of op number entry = rank entry.0 == rank op && entry.1 == number

-- Where the next call of a kind is listed.
abbrev pub place_in : Op → Calls → List (Op × ℕ) → Option ℕ
place_in op calls fails = position (is_entry_of op (next_of calls op)) fails

-- The list without the entry at a place, if there is one.
abbrev pub list_without : Option ℕ → List (Op × ℕ) → List (Op × ℕ)
list_without None fails = fails
list_without (Some i) fails = remove fails i
