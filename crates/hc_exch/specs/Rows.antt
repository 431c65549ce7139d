-- What the rows say of each exchange.
use Rattle.std.specs.Prelude.{ℕ, List, [], length, Option, Some, None, is_some, nat_eq, nat_lt, Bool, true, ◌||◌}
use Rattle.std.specs.declared.hash.FoldHasher.{FoldHasher}
use Rattle.std.specs.declared.hash.BuildHasherDefault.{BuildHasherDefault}
use Rattle.std.specs.HashMap.{get, HashMap}
use Rattle.hc_exch.specs.declared.row.Open.{Open}
use Rattle.hc_exch.specs.declared.row.Row.{Row}
use Rattle.hc_exch.specs.Known.{Known, Table, unknown}

abbrev pub Rows : Type 0
Rows = HashMap ℕ Row (BuildHasherDefault FoldHasher)

abbrev pub known_by : Option Row → Known
known_by None = unknown
known_by (Some row) = record { running = row.running; held = row.held }

abbrev pub rows_of : Rows → Table
rows_of rows x = known_by (get nat_eq rows x)

abbrev pub running_in : Rows → ℕ → Option Open
running_in rows x = (rows_of rows x).running

abbrev pub held_in : Rows → ℕ → List ℕ
held_in rows x = (rows_of rows x).held

abbrev pub begins : Open → Known → Known
begins o k = record { running = Some o; held = [] }

-- it is open, or bytes are held for it
abbrev pub keeps : Option Row → Bool
keeps None = true
keeps (Some row) = is_some row.running || nat_lt 0 (length row.held)
