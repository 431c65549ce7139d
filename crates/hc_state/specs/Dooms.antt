-- What a doom changes: whoever waits for the key starts over, what heads they waited for are closed, and what is current is let go.
use Rattle.std.specs.Prelude.{◌≡◌, ℕ, ◌+◌, ◌<◌, ◌≤◌, ◌⊎◌, List, ◌++◌, length, map, true, false, Option, Some, None, option_and_then, nat_eq, nat_le, if◌then◌else◌}
use Rattle.std.specs.HashMap.{get}
use Rattle.hc_rules.specs.declared.room.Limits.{Limits}
use Rattle.hc_store.specs.declared.backend.Backend.{Ghosts}
use Rattle.hc_event.specs.declared.act.Act.{Act}
use Rattle.hc_event.specs.declared.act.Act.TheVariants as act
use Rattle.hc_rules.specs.declared.need.Route.TheVariants as route
use Rattle.hc_rules.specs.Admissions.{lesser}
use Rattle.hc_rules.specs.Needs.{route_of}
use Rattle.hc_text.specs.Sorted.{is_sorted, is_among, itself}
use Rattle.hc_stored.specs.Entries.{shelf_of}
use Rattle.hc_stored.specs.Shelf.{Shelf}
use Rattle.hc_entry.specs.Keys.{line_of, kept_of}
use Rattle.hc_entry.specs.Lines.{is_in}
use Rattle.hc_exch.specs.declared.exchanges.Exchanges.{Exchanges}
use Rattle.hc_exch.specs.declared.row.Open.{Open}
use Rattle.hc_exch.specs.Exchanges.{table_of, next_of}
use Rattle.hc_exch.specs.Known.{Table, without_exchange}
use Rattle.hc_model.specs.Currents.{current}
use Rattle.hc_model.specs.Effects.{let_some_go, all_closed, woken, awaited_and}
use Rattle.hc_model.specs.Lawful.{Lawful}
use Rattle.hc_model.specs.Rows.{Tables}
use Rattle.hc_model.specs.StartingOver.{awaited_exchange}
use Rattle.hc_txn.specs.declared.transaction.Transaction.{Transaction as Consumer}
use Rattle.hc_state.specs.declared.rows.Rows.{Rows}
use Rattle.hc_state.specs.Kept.{KeepsConsumer}
use Rattle.hc_state.specs.Leaving.{IsUserAt, UnbindsAt}
use Rattle.hc_state.specs.Lines.{KeepsKey}
use Rattle.hc_state.specs.Stands.{RowsStand}
use Rattle.hc_state.specs.Stored.{KeepsEntries}

-- THE CLOSED ONES

-- for whose head the consumer waits, to found or to join by it
abbrev pub awaited_by : {B : Type 0} {g : Ghosts B} → Rows B g → ℕ → Option ℕ
awaited_by r c = option_and_then (λ (k : Consumer). awaited_exchange k.place) (get nat_eq r.consumers c)

-- who waits for the key waits for the head of x
pub record IsAwaited {B : Type 0} {g : Ghosts B} (r : Rows B g) (key : List ℕ) (x : ℕ) : Type 0 where
  pub c : ℕ
  pub waits : is_in c (line_of r.keys key) ≡ true
  pub for_it : awaited_by r c ≡ Some x

-- x is the refused one, or somebody who waits for the key waits for its head
abbrev pub IsToClose : {B : Type 0} {g : Ghosts B} → Rows B g → List ℕ → Option ℕ → ℕ → Type 0
IsToClose r key refused x = (refused ≡ Some x) ⊎ IsAwaited r key x

-- the first number behind the last one, if there was one
abbrev pub behind : Option ℕ → ℕ
behind None = 0
behind (Some x) = x + 1

-- the least of them from this number on, or there is none
abbrev pub IsNext : (ℕ → Type 0) → ℕ → Option ℕ → Type 0
IsNext P from None = (y : ℕ) → P y → y < from
IsNext P from (Some x) = (from ≤ x) × P x × ((y : ℕ) → P y → from ≤ y → x ≤ y)

-- the lesser of both, where there is a second one that isn't below this number
abbrev pub nearer : ℕ → Option ℕ → Option ℕ → Option ℕ
nearer from next None = next
nearer from next (Some x) = if nat_le from x then lesser next x else next

-- there are so many of them at most
abbrev pub AreAtMost : ℕ → (ℕ → Type 0) → Type 0
AreAtMost n P =
    (xs : List ℕ) → is_sorted itself xs ≡ true → ((x : ℕ) → is_among x xs ≡ true → P x) →
    length xs ≤ n

-- The ones to close are closed, in ascending order of their numbers.
pub record Closes {B : Type 0} {g : Ghosts B} (r : Rows B g) (after : Exchanges) (key : List ℕ) (refused : Option ℕ) (before out : List Act) : Type 0 where
  pub xs : List ℕ
  pub ascending : is_sorted itself xs ≡ true
  pub each : (x : ℕ) → is_among x xs ≡ true → IsToClose r key refused x
  pub all : (x : ℕ) → IsToClose r key refused x → is_among x xs ≡ true
  pub acts : out ≡ before ++ map act.Close xs
  pub known : (x : ℕ) →
      table_of after x
      ≡ (if is_among x xs then without_exchange (table_of r.exchanges x) else table_of r.exchanges x)
  pub next : next_of after ≡ next_of r.exchanges

-- it is open past the store, has no head yet, and is of the key
pub record IsUnheard (table : Table) (key : List ℕ) (x : ℕ) : Type 0 where
  pub o : Open
  pub running : (table x).running ≡ Some o
  pub headless : o.headed ≡ false
  pub of_key : o.request.key ≡ key
  pub past : route_of o.need ≡ route.Direct

-- WHO STARTS OVER

-- what is kept of consumers, of who waits for the key and of representations is what the tables say
pub record KeepsLine {B : Type 0} {g : Ghosts B} (r : Rows B g) (t : Tables) (key : List ℕ) : Type 0 where
  pub consumers : (c : ℕ) → KeepsConsumer t (get nat_eq r.consumers c) (t.consumer c)
  pub line : KeepsKey t key (kept_of r.keys key)
  pub entries : KeepsEntries t (shelf_of r.entries)

-- some tables of a run say that
pub record KeepsSomeLine {B : Type 0} {g : Ghosts B} (r : Rows B g) (key : List ℕ) : Type 0 where
  pub t : Tables
  pub law : Lawful t
  pub keeps : KeepsLine r t key

-- where the consumer stands, if it is there, it is bound
abbrev pub IsUser : Option Consumer → ℕ → Shelf → Type 0
IsUser None c s = Unit {0}
IsUser (Some k) c s = IsUserAt k.place c s

-- and isn't any more
abbrev pub Unbinds : Option Consumer → ℕ → Shelf → Shelf → Type 0
Unbinds None c before after = after ≡ before
Unbinds (Some k) c before after = UnbindsAt k.place c before after

-- ALL OF IT

-- The key is doomed: the acts, and the tables for which the rows stand.
pub record IsDoomed {B : Type 0} {g : Ghosts B} (limits : Limits) (u : Rows B g) (t : Tables) (before out : List Act) (now : ℕ) (key : List ℕ) (refused : Option ℕ) : Type 0 where
  pub acts : out ≡ before ++ map act.Close (awaited_and t key refused)
  pub rows : RowsStand limits u
      (let_some_go now (current t key)
      (all_closed (awaited_and t key refused) (woken now key t)))
