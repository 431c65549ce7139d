-- The exchange table: what is known of each exchange, which are wanted, and the number of the next one.
use Rattle.std.specs.Prelude.{◌≡◌, ℕ, if◌then◌else◌, ◌==◌}
use Rattle.hc_exch.specs.declared.exchanges.Exchanges.{Exchanges}
use Rattle.hc_exch.specs.Known.{Known, Table}
use Rattle.hc_exch.specs.Rows.{rows_of}

abbrev pub table_of : Exchanges → Table
table_of e = rows_of e.rows

abbrev pub next_of : Exchanges → ℕ
next_of e = e.next

-- What is known of one changes, and of every other it stays, as the next number does.
pub record Becomes (f : Known → Known) (x : ℕ) (before after : Exchanges) : Type 0 where
  pub table : (y : ℕ) → table_of after y ≡ (if x == y then f (table_of before x) else table_of before y)
  pub next : next_of after ≡ next_of before

-- All that is known stays.
pub record Stays (before after : Exchanges) : Type 0 where
  pub table : (y : ℕ) → table_of after y ≡ table_of before y
  pub next : next_of after ≡ next_of before
