-- The lists of wanted exchanges agree with what is known.
use Rattle.std.specs.Prelude.{◌≡◌, ◌≢◌, ℕ, ◌≤◌, true, false, is_some, nat_eq}
use Rattle.std.specs.HashMap.{get}
use Rattle.hc_exch.specs.Wishes.{Wished}
use Rattle.hc_text.specs.Sorted.{is_among}
use Rattle.hc_exch.specs.Known.{Table, unknown, is_wanted, is_idle, fits}
use Rattle.hc_exch.specs.Rows.{Rows, rows_of, keeps}

pub record Agrees (w : Wished) (t : Table) : Type 0 where
  pub wanted : (y : ℕ) → is_among y w.wanted ≡ is_wanted (t y).running
  pub idle : (y : ℕ) → is_among y w.idle ≡ is_idle (t y).running

-- for all but one, which stands in one of the lists where it is open
pub record AgreesBut (x : ℕ) (w : Wished) (t : Table) : Type 0 where
  pub wanted : (y : ℕ) → y ≢ x → is_among y w.wanted ≡ is_wanted (t y).running
  pub idle : (y : ℕ) → y ≢ x → is_among y w.idle ≡ is_idle (t y).running
  pub once : is_among x w.wanted ≡ true → is_among x w.idle ≡ false
  pub there : is_some (t x).running ≡ true → is_among x w.wanted ≡ false → is_among x w.idle ≡ true

-- Each row says something, none has a number that is still to come, and not more is held than came.
pub record IsTidy (next : ℕ) (rows : Rows) : Type 0 where
  pub keeps : (y : ℕ) → keeps (get nat_eq rows y) ≡ true
  pub new : (y : ℕ) → next ≤ y → rows_of rows y ≡ unknown
  pub counted : (y : ℕ) → fits (rows_of rows y) ≡ true
