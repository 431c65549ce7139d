-- What the handlers of a step look at, and what they do.
use Rattle.std.specs.Prelude.{◌≡◌, ℕ, ◌+◌, ◌-◌, List, [], ◌∷◌, length, nat_lt, nat_eq, Bool, true, false, Option, Some, None, is_some, unwrap_or, IsSomeAnd, if◌then◌else◌, ◌==◌, ◌&&◌, not}
use Rattle.std.specs.HashMap.{get}
use Rattle.hc_store.specs.declared.backend.Backend.{Ghosts}
use Rattle.hc_event.specs.declared.act.Act.{Act}
use Rattle.hc_event.specs.declared.act.Act.TheVariants as act
use Rattle.hc_event.specs.declared.act.Cause.{Cause}
use Rattle.hc_event.specs.declared.act.Cause.TheVariants as cause
use Rattle.hc_event.specs.declared.act.Wait.TheVariants as wait
use Rattle.hc_rules.specs.declared.reading.ReadView.{ReadView}
use Rattle.hc_rules.specs.Readings.{cut_at}
use Rattle.hc_entry.specs.declared.keys.KeyTable.{KeyTable}
use Rattle.hc_entry.specs.Keys as keys
use Rattle.hc_entry.specs.Keys.{line_of}
use Rattle.hc_entry.specs.Kept.{on_line}
use Rattle.hc_entry.specs.Lines.{is_in, line_with, left_by, turn_with}
use Rattle.hc_exch.specs.Exchanges.{table_of, next_of}
use Rattle.hc_exch.specs.Known.{Known, unknown}
use Rattle.hc_exch.specs.declared.row.Open.{Open}
use Rattle.hc_event.specs.declared.place.Place.{Place}
use Rattle.hc_event.specs.declared.place.Place.TheVariants as place
use Rattle.hc_model.specs.Moves as moves
use Rattle.hc_model.specs.Moves.{Move}
use Rattle.hc_txn.specs.declared.transaction.Transaction.{Transaction as Consumer}
use Rattle.hc_txn.specs.Transactions.{queues, put_down}
use Rattle.hc_state.specs.declared.rows.Rows.{Rows}
use Rattle.hc_state.specs.Changes.{ChangesAt, BecomesAt}

-- WHERE A CONSUMER STANDS

abbrev pub HasTurn : ℕ → Consumer → Type 0
HasTurn x k = k.place ≡ place.Turn x

abbrev pub IsUnshown : ℕ → Consumer → Type 0
IsUnshown x k = (k.place ≡ place.Direct x) × (k.shown ≡ false)

abbrev pub IsShown : ℕ → Consumer → Type 0
IsShown x k = (k.place ≡ place.Direct x) × (k.shown ≡ true)

abbrev pub IsDown : Cause → Consumer → Type 0
IsDown why k = k.place ≡ place.Down why

-- THE LINE

-- where it waits with others, it is kept that it does
abbrev pub IsQueued : KeyTable → ℕ → Consumer → Type 0
IsQueued keys c k = queues k ≡ true → is_in c (line_of keys k.request.key) ≡ true

-- it is kept that it waits for its key
abbrev pub IsInKey : KeyTable → ℕ → Consumer → Type 0
IsInKey keys c k = is_in c (line_of keys k.request.key) ≡ true

-- it leaves the line, if it waits with others
abbrev pub LeftIf : Bool → ℕ → List ℕ → KeyTable → KeyTable → Type 0
LeftIf false c key before after = keys.Stays before after
LeftIf true c key before after = keys.Becomes (on_line (left_by c)) key before after

-- it is in line, if it waits with others
abbrev pub IsEntered : Bool → ℕ → List ℕ → KeyTable → KeyTable → Type 0
IsEntered false c key before after = keys.Stays before after
IsEntered true c key before after = keys.Becomes (on_line (line_with c)) key before after

-- all but what is kept by key stays
pub record KeepsRows {B : Type 0} {g : Ghosts B} (r u : Rows B g) : Type 0 where
  pub last_start : u.last_start ≡ r.last_start
  pub consumers : u.consumers ≡ r.consumers
  pub exchanges : u.exchanges ≡ r.exchanges
  pub entries : u.entries ≡ r.entries

abbrev pub IsLeft : KeyTable → KeyTable → ℕ → Consumer → Type 0
IsLeft before after c k = LeftIf (queues k) c k.request.key before after

-- A consumer is in no line any more.
pub record LeavesLine {B : Type 0} {g : Ghosts B} (r u : Rows B g) (c : ℕ) : Type 0 where
  pub last_start : u.last_start ≡ r.last_start
  pub consumers : u.consumers ≡ r.consumers
  pub exchanges : u.exchanges ≡ r.exchanges
  pub entries : u.entries ≡ r.entries
  pub line : IsSomeAnd (get nat_eq r.consumers c) (IsLeft r.keys u.keys c)

-- READING PAST THE STORE

abbrev pub source_in : Known → ℕ → Option ℕ
source_in known x = if is_some known.running then Some x else None

-- what the reading of a consumer looks at that stands at this offset
abbrev pub past_view : Known → ℕ → ℕ → Consumer → ReadView
past_view known x offset k = record {
  offset = offset;
  hi = k.hi;
  stored = None;
  held = nat_lt 0 (length known.held);
  due = k.due;
  source = source_in known x;
  next_stored = None;
}

-- as many bytes as are wanted, and not past the end
abbrev pub most : Option ℕ → ℕ → ℕ → ℕ
most hi offset want = cut_at hi (offset + want) - offset

-- THE HANDLERS OF A POLL

abbrev pub given_acts : ℕ → ℕ → ℕ → List ℕ → List Act
given_acts c x at bytes = act.Given c x at bytes ∷ []

-- the next bytes are asked for, or were
abbrev pub asks_or_waits : Bool → ℕ → Move
asks_or_waits asked x = if asked then moves.Waits (wait.Body x) else moves.Asks x

abbrev pub asked_in : Option Open → Bool
asked_in None = false
asked_in (Some o) = o.asked

abbrev pub closes_open : ℕ → Known → List ℕ
closes_open x known = if is_some known.running then x ∷ [] else []

-- A consumer is gone, and nothing is known of its exchange any more.
pub record Leaves {B : Type 0} {g : Ghosts B} (r u : Rows B g) (c x : ℕ) : Type 0 where
  pub last_start : u.last_start ≡ r.last_start
  pub keys : u.keys ≡ r.keys
  pub entries : u.entries ≡ r.entries
  pub consumers : BecomesAt r.consumers u.consumers c None
  pub known : (y : ℕ) →
      table_of u.exchanges y ≡ (if x == y then unknown else table_of r.exchanges y)
  pub next : next_of u.exchanges ≡ next_of r.exchanges
