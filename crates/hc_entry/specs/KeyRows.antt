-- What the rows say of each key.
use Rattle.std.specs.Prelude.{◌≡◌, ℕ, List, Vec, bytes_eq, true, false, Option, Some, None}
use Rattle.std.specs.Global.{Global}
use Rattle.std.specs.declared.hash.FoldHasher.{FoldHasher}
use Rattle.std.specs.declared.hash.BuildHasherDefault.{BuildHasherDefault}
use Rattle.std.specs.HashMap.{get_by, HashMap}
use Rattle.hc_entry.specs.declared.rows.KeyRow.{KeyRow}
use Rattle.hc_entry.specs.Lines.{consumer_at, IsOrderly}
use Rattle.hc_entry.specs.Kept.{Kept, Table, nothing, kept_in, line_in, is_nothing, Changes}

abbrev pub Rows : Type 0
Rows = HashMap (Vec ℕ Global) KeyRow (BuildHasherDefault FoldHasher)

abbrev pub row_at : Rows → List ℕ → Option KeyRow
row_at rows key = get_by (λ stored. bytes_eq key stored.items) rows

abbrev pub kept_by : Option KeyRow → Kept
kept_by None = nothing
kept_by (Some row) = kept_in row.line row.current

abbrev pub rows_of : Rows → Table
rows_of rows key = kept_by (row_at rows key)

abbrev pub seated_by : Option KeyRow → ℕ → Option ℕ
seated_by None i = None
seated_by (Some row) i = consumer_at row.line i

-- What the row of one key says changes, and every other row stays.
pub record RowChanges (f : Kept → Kept) (key : List ℕ) (before after : Rows) : Type 0 where
  pub changes : Changes f key (rows_of before) (rows_of after)
  pub others : (k : List ℕ) → bytes_eq key k ≡ false → row_at after k ≡ row_at before k

abbrev pub RowsStay : Rows → Rows → Type 0
RowsStay before after = (k : List ℕ) → row_at after k ≡ row_at before k

-- a key of which nothing is kept has no row
abbrev pub IsTidyAt : Rows → List ℕ → Type 0
IsTidyAt rows key = is_nothing (rows_of rows key) ≡ true → row_at rows key ≡ None

abbrev pub IsTidy : Rows → Type 0
IsTidy rows = (key : List ℕ) → IsTidyAt rows key

abbrev pub AreOrderly : Rows → Type 0
AreOrderly rows = (key : List ℕ) → IsOrderly (line_in (rows_of rows key))
