-- The rows, over a store that may hold so much, represent what the tables say.
use Rattle.std.specs.Prelude.{◌≡◌, ℕ, ◌+◌, ◌<◌, ◌≤◌, ◌^◌, List, ◌++◌, Bool, true, false, Option, Some, None, is_some, option_map, nat_eq}
use Rattle.std.specs.Option.{option_and_then}
use Rattle.std.specs.HashMap.{get, hash_map_len}
use Rattle.hc_store.specs.declared.backend.Backend.{Ghosts}
use Rattle.hc_event.specs.declared.event.Event.{Event}
use Rattle.hc_event.specs.declared.event.Event.TheVariants as event
use Rattle.hc_event.specs.declared.event.Response.{Response}
use Rattle.hc_event.specs.declared.act.Act.{Act}
use Rattle.hc_rules.specs.declared.heads.HeadCase.{HeadCase}
use Rattle.hc_rules.specs.declared.heads.HeadCase.TheVariants as heads
use Rattle.hc_rules.specs.declared.refusal.Gate.{Gate}
use Rattle.hc_rules.specs.declared.refusal.OpenExchange.{OpenExchange}
use Rattle.hc_rules.specs.declared.room.Limits.{Limits}
use Rattle.hc_rules.specs.HeadCases.{head_case}
use Rattle.hc_stored.specs.Entries.{shelf_of}
use Rattle.hc_entry.specs.Keys as keys
use Rattle.hc_entry.specs.Keys.{kept_of}
use Rattle.hc_exch.specs.Exchanges as exch
use Rattle.hc_exch.specs.Exchanges.{table_of, next_of}
use Rattle.hc_exch.specs.Known.{open_view}
use Rattle.hc_model.specs.Cases.{head_view}
use Rattle.hc_model.specs.Dooms.{doomed_by_case, changes}
use Rattle.hc_model.specs.Entries.{Contents, History}
use Rattle.hc_model.specs.Moves.{Move}
use Rattle.hc_model.specs.Polls.{move_of}
use Rattle.hc_model.specs.Rows.{Tables, Exchange, Consumer}
use Rattle.hc_model.specs.Beginnings.{may_begin}
use Rattle.hc_model.specs.Tables.{tables, after_accepted}
use Rattle.hc_model.specs.Exchanges.{exchange_in}
use Rattle.hc_model.specs.Flaws.{Flaw, flaw_in, is_fault}
use Rattle.hc_model.specs.Denials.{live, denial}
use Rattle.hc_model.specs.Answers.{accepted_acts}
use Rattle.hc_model.specs.Runs.{IsRun, may_be}
use Rattle.hc_model.specs.Keys.{entry_of}
use Rattle.hc_model.specs.WithinLimits.{FieldsAreWithinLimits, RequestsAreWithinLimits, StartsHaveTargets}
use Rattle.hc_model.specs.Numbers.{AreShort, Numbers}
use Rattle.hc_state.specs.declared.rows.Rows.{Rows}
use Rattle.hc_state.specs.Changes.{StaysAll}
use Rattle.hc_state.specs.Facts.{Facts}
use Rattle.hc_state.specs.Heads.{goes_with}
use Rattle.hc_state.specs.Kept.{KeepsConsumer, KeepsExchange}
use Rattle.hc_state.specs.Lines.{KeepsKey}
use Rattle.hc_state.specs.Stored.{KeepsEntries}

pub record RowsStand {B : Type 0} {g : Ghosts B} (within : Limits) (r : Rows B g) (t : Tables) : Type 0 where
  pub limits : (shelf_of r.entries).limits ≡ within
  pub last_start : r.last_start ≡ t.last_start
  pub next : next_of r.exchanges ≡ t.opened + 1
  pub count : hash_map_len r.consumers ≡ live t
  pub consumers : (c : ℕ) → KeepsConsumer t (get nat_eq r.consumers c) (t.consumer c)
  pub exchanges : (x : ℕ) → KeepsExchange t x (table_of r.exchanges x)
  pub keys : (key : List ℕ) → KeepsKey t key (kept_of r.keys key)
  pub entries : KeepsEntries t (shelf_of r.entries)

-- the rows represent the tables of some run in which what comes is within limits, and of which so many bytes came at most
pub record StandsForSome {B : Type 0} {g : Ghosts B} (r : Rows B g) (bytes : ℕ) : Type 0 where
  pub contents : Contents
  pub h : History
  pub begins : may_begin (shelf_of r.entries).limits contents ≡ true
  pub short : AreShort contents
  pub within_limits : FieldsAreWithinLimits h
  pub starts : StartsHaveTargets h
  pub run : IsRun (shelf_of r.entries).limits contents h
  pub received : (tables contents h).received ≤ bytes
  pub rows : RowsStand (shelf_of r.entries).limits r (tables contents h)

-- the rows represent tables that have what those of every run have, and of which few bytes came
pub record Stands {B : Type 0} {g : Ghosts B} (r : Rows B g) : Type 0 where
  pub limits : Limits
  pub t : Tables
  pub facts : Facts limits t
  pub numbers : Numbers t
  pub within_limits : RequestsAreWithinLimits t
  pub received : t.received < 2 ^ 61
  pub rows : RowsStand limits r t

-- WHAT THE REFUSALS LOOK AT

abbrev pub names_kept : {B : Type 0} {g : Ghosts B} → Rows B g → Event → Bool
names_kept r (event.Poll c want) = is_some (get nat_eq r.consumers c)
names_kept r (event.Cancel c) = is_some (get nat_eq r.consumers c)
names_kept r _ = false

abbrev pub open_at : {B : Type 0} {g : Ghosts B} → Rows B g → ℕ → Option OpenExchange
open_at r x = option_map open_view (table_of r.exchanges x).running

abbrev pub gate_of : {B : Type 0} {g : Ghosts B} → Rows B g → Event → Gate
gate_of r event = record {
  last_start = r.last_start;
  live = hash_map_len r.consumers;
  is_live = names_kept r event;
  exchange = option_and_then (open_at r) (exchange_in event);
}

-- WHAT AN EVENT DOES

-- The rows hold what they held.
pub record Stays {B : Type 0} {g : Ghosts B} (r u : Rows B g) : Type 0 where
  pub last_start : u.last_start ≡ r.last_start
  pub consumers : StaysAll r.consumers u.consumers
  pub exchanges : exch.Stays r.exchanges u.exchanges
  pub keys : keys.Stays r.keys u.keys
  pub entries : u.entries ≡ r.entries

-- but for consumers and exchanges
pub record KeepsRest {B : Type 0} {g : Ghosts B} (r u : Rows B g) : Type 0 where
  pub last_start : u.last_start ≡ r.last_start
  pub keys : u.keys ≡ r.keys
  pub entries : u.entries ≡ r.entries

-- An accepted event is answered, with a flaw that may stand there and has its cause, and the rows represent the tables
-- after it.
pub record Answered {B : Type 0} {g : Ghosts B} (limits : Limits) (faults : ℕ) (u : Rows B g) (t : Tables) (before out : List Act) (now : ℕ) (event : Event) : Type 0 where
  pub flaw : Flaw
  pub acts : out ≡ before ++ accepted_acts limits t now event flaw
  pub shown : flaw_in (accepted_acts limits t now event flaw) ≡ flaw
  pub may : may_be limits t (entry_of limits t now event flaw) flaw ≡ true
  pub caused : is_fault flaw ≡ true → faults < (shelf_of u.entries).faults
  pub rows : RowsStand limits u (after_accepted t (entry_of limits t now event flaw))

-- whatever tables the rows represent that have what those of every run have
abbrev pub Answers : {B : Type 0} {g : Ghosts B} → Rows B g → Rows B g → List Act → List Act → ℕ → Event → Type 0
Answers r u before out now event =
    (limits : Limits) (t : Tables) → Facts limits t → RowsStand limits r t → denial t event ≡ None →
    Answered limits (shelf_of r.entries).faults u t before out now event

-- and at which the poll of c makes this move
abbrev pub AnswersMove : {B : Type 0} {g : Ghosts B} → Rows B g → Rows B g → List Act → List Act → ℕ → ℕ → ℕ → Move → Type 0
AnswersMove r u before out now c want move =
    (limits : Limits) (t : Tables) (k : Consumer) → Facts limits t → RowsStand limits r t → t.consumer c ≡ Some k →
    move_of t now want c k ≡ move →
    Answered limits (shelf_of r.entries).faults u t before out now (event.Poll c want)

-- The head of an exchange is answered, where its case is this, it dooms nothing, and this isn't used any more.
abbrev pub AnswersCase : {B : Type 0} {g : Ghosts B} → Rows B g → Rows B g → List Act → List Act → ℕ → ℕ → Response → HeadCase → Option ℕ → Type 0
AnswersCase r u before out now x response case goes =
    (limits : Limits) (t : Tables) (w : Exchange) → Facts limits t → RowsStand limits r t →
    denial t (event.Head x response) ≡ None → t.exchange x ≡ Some w →
    head_case (head_view t false w response) ≡ case → doomed_by_case (Some case) w response ≡ None →
    goes ≡ goes_with t w response case →
    Answered limits (shelf_of r.entries).faults u t before out now (event.Head x response)

-- the same, where it dooms its key
abbrev pub AnswersDooming : {B : Type 0} {g : Ghosts B} → Rows B g → Rows B g → List Act → List Act → ℕ → ℕ → Response → HeadCase → Type 0
AnswersDooming r u before out now x response case =
    (limits : Limits) (t : Tables) (w : Exchange) → Facts limits t → RowsStand limits r t →
    denial t (event.Head x response) ≡ None → t.exchange x ≡ Some w →
    head_case (head_view t false w response) ≡ case → changes w response ≡ true →
    Answered limits (shelf_of r.entries).faults u t before out now (event.Head x response)

-- the same, where it is a 304 to a conditional request that was made about this, and may select that
abbrev pub AnswersUnselected : {B : Type 0} {g : Ghosts B} → Rows B g → Rows B g → List Act → List Act → ℕ → ℕ → Response → Option ℕ → Type 0
AnswersUnselected r u before out now x response aim =
    (limits : Limits) (t : Tables) (w : Exchange) → Facts limits t → RowsStand limits r t →
    denial t (event.Head x response) ≡ None → t.exchange x ≡ Some w → aim ≡ w.aim →
    head_case (record (head_view t false w response) { selects = false }) ≡ heads.NotValidated →
    Answered limits (shelf_of r.entries).faults u t before out now (event.Head x response)
