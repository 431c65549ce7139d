-- How a turn goes on from what is kept.
use Rattle.std.specs.Prelude.{◌≡◌, ◌≢◌, ◌≤◌, ℕ, ◌+◌, ◌==◌, Bool, true, false, List, [], ◌++◌, length, Option, Some, None, IfSome, find, Result, Ok, Err}
use Rattle.std.specs.Ordering.{nat_cmp}
use Rattle.std.specs.BTreeMap.{get}
use Rattle.hc_text.specs.declared.memory.NoMemory.{NoMemory}
use Rattle.hc_event.specs.declared.event.Request.{Request}
use Rattle.hc_wire.specs.declared.event.WireEvent.{WireEvent}
use Rattle.hc_wire.specs.declared.event.WireEvent.TheVariants as event
use Rattle.hc_wire.specs.Events.{Stage}
use Rattle.hc_wire.specs.Logs.{Log, Taker, fresh, is_numbered}
use Rattle.hc_wire.specs.Following.{is_live}
use Rattle.hc_head.specs.declared.message.MsgError.{MsgError}
use Rattle.hc_head.specs.declared.message.MsgError.TheVariants as error
use Rattle.hc_head.specs.declared.message.WireRequest.{WireRequest}
use Rattle.hc_msg.specs.declared.message.Taken.{Taken}
use Rattle.hc_msg.specs.Inputs.{TakesNextRequest}
use Rattle.hc_msg.specs.Reading.{Reading}
use Rattle.hc_origin.specs.declared.origin.Origin.{Origin}
use Rattle.hc_origin.specs.declared.stop.Stop.{Stop}
use Rattle.hc_origin.specs.Coming.{Came, came_of, request_in}
use Rattle.hc_origin.specs.Turns.{AllFit, Closes}
use Rattle.hc_origin.specs.Endings.{IsLog, IsAnswered, IsFinished}
use Rattle.hc_origin.specs.Replies.{Unsent, StandOnce, unsent_in}
use Rattle.hc_origin.specs.Keeping.{Follows, AreApart, AreLacking, Keeps, PlaceIn, PlaceOf, Rests, nothing}

abbrev pub asking_in : Origin → ℕ → Option Reading
asking_in origin k = get nat_cmp origin.asking k

-- BEHIND A CALL OF NEXT

-- What is kept of the others.
pub record KeepsOthers (k : ℕ) (log : Log) (asking : ℕ → Option Reading) (owed : List Unsent) : Type 0 where
  pub others : (j : ℕ) → (j == k) ≡ false → PlaceIn log asking owed j
  pub apart : AreApart log.takers
  pub fit : AllFit log.takers [] log.calls
  pub dialled : log.dialled ≡ []
  pub once : StandOnce owed

-- A connection was accepted, and nothing is kept of it.
pub record Welcomes (k : ℕ) (log : Log) (asking : ℕ → Option Reading) (owed : List Unsent) : Type 0 where
  pub others : KeepsOthers k log asking owed
  pub taker : find (is_numbered k) log.takers ≡ Some (fresh k)
  pub came : came_of k log.calls ≡ nothing
  pub unowed : unsent_in owed k ≡ None

-- An open one is kept as it was before something came of it.
pub record Hears (k : ℕ) (before now : Came) (log : Log) (asking : ℕ → Option Reading) (owed : List Unsent) : Type 0 where
  pub others : KeepsOthers k log asking owed
  pub accepted : Bool
  pub place : PlaceOf accepted before (find (is_numbered k) log.takers) (asking k) (unsent_in owed k)
  pub live : is_live log.takers k ≡ true
  pub came : came_of k log.calls ≡ now

-- more bytes came, or it ended or broke
abbrev pub with_bytes : List ℕ → Came → Came
with_bytes bytes came = record came { bytes = came.bytes ++ bytes }

abbrev pub with_stop : Came → Came
with_stop came = record came { stopped = true }

abbrev pub HearsOf : ℕ → (Came → Came) → Log → (ℕ → Option Reading) → List Unsent → Type 0
HearsOf k change log asking owed = (before : Came) × Hears k before (change before) log asking owed

abbrev pub Heard : WireEvent → List ℕ → Log → (ℕ → Option Reading) → List Unsent → Type 0
Heard (event.Accepted k) bytes log asking owed = Welcomes k log asking owed
Heard (event.Got k n) bytes log asking owed = HearsOf k (with_bytes bytes) log asking owed
Heard (event.Ended k) bytes log asking owed = HearsOf k with_stop log asking owed
Heard (event.Broke k) bytes log asking owed = HearsOf k with_stop log asking owed
Heard (event.Room k) bytes log asking owed = Keeps log asking owed
Heard event.Quiet bytes log asking owed = Keeps log asking owed

-- ONE OF THOSE WHOSE REQUEST ISN'T WHOLE

-- It is open, and nothing was sent and nothing is kept for it to be sent.
pub record IsUnanswered (k : ℕ) (log : Log) (owed : List Unsent) (c : Taker) : Type 0 where
  pub taker : find (is_numbered k) log.takers ≡ Some c
  pub live : c.live ≡ true
  pub reads : c.reads ≡ true
  pub unsent : c.sent ≡ []
  pub unowed : unsent_in owed k ≡ None

-- Its request is whole now.
pub record Asks (k : ℕ) (request : Request) (log : Log) (asking : ℕ → Option Reading) (owed : List Unsent) : Type 0 where
  pub others : KeepsOthers k log asking owed
  pub c : Taker
  pub is : IsUnanswered k log owed c
  pub asked : request_in (came_of k log.calls) ≡ Some request

-- It is to be closed now.
pub record Leaves (k : ℕ) (log : Log) (asking : ℕ → Option Reading) (owed : List Unsent) : Type 0 where
  pub others : KeepsOthers k log asking owed
  pub c : Taker
  pub is : IsUnanswered k log owed c
  pub cause : Closes (came_of k log.calls) []

-- what its reader makes of bytes, where there is one
abbrev pub ReadsOn : Option Reading → Option Reading → List ℕ → Option (Result (Taken WireRequest) MsgError) → Type 0
ReadsOn None new bytes None = new ≡ None
ReadsOn (Some s) (Some t) bytes (Some taken) = TakesNextRequest 1 s bytes taken t
ReadsOn _ _ bytes _ = ⊥

-- what the bytes of its request come to, behind the reader: it goes on, is whole, or is refused
abbrev pub IsGot : ℕ → Option WireRequest → Log → (ℕ → Option Reading) → List Unsent → Type 0
IsGot k None log asking owed = Keeps log asking owed
IsGot k (Some request) log asking owed = Asks k request.request log asking owed

abbrev pub IsTaken : ℕ → Result (Taken WireRequest) MsgError → Log → (ℕ → Option Reading) → List Unsent → Type 0
IsTaken k (Ok taken) log asking owed = IsGot k taken.got log asking owed
IsTaken k (Err e) log asking owed = e ≢ error.NoMemory → Leaves k log asking owed

-- WHAT A STEP LEADS TO

-- The log went on by no call, and this holds of it.
pub record GoesTo (reports : Bool) (log : Log) (reported : Option Log) (stages : ℕ → Stage) (Holds : Log → Type 0) : Type 0 where
  pub next : Log
  pub follows : Follows reports reported stages next
  pub calls : next.calls ≡ log.calls
  pub bound : next.bound ≡ log.bound
  pub holds : Holds next

abbrev pub AreKept : Origin → Log → Type 0
AreKept origin log = Keeps log (asking_in origin) origin.answering.items

-- what an event brought was taken, or memory was refused before the wire was called
abbrev pub HandlesTo : Bool → Origin → Log → Option Log → (ℕ → Stage) → Result (Unit {0}) NoMemory → Type 0
HandlesTo reports origin log reported stages (Ok done) = GoesTo reports log reported stages (AreKept origin)
HandlesTo reports origin log reported stages (Err e) = Follows reports reported stages log

-- of those that were offered theirs in this turn each lacks some
abbrev pub AreOffered : (ℕ → Option Reading) → List Unsent → List Unsent → Log → Type 0
AreOffered asking left offered log = Keeps log asking (left ++ offered) × AreLacking log offered

-- one more was offered what it lacked
abbrev pub OffersTo : Bool → Origin → Log → Option Log → (ℕ → Stage) → Result (Unit {0}) Stop → Type 0
OffersTo reports origin log reported stages (Ok done) =
    GoesTo reports log reported stages (AreOffered (asking_in origin) origin.answering.items origin.offered.items)
OffersTo reports origin log reported stages (Err e) = GoesTo reports log reported stages IsLog

-- all were
abbrev pub SendsTo : Bool → Origin → Log → Option Log → (ℕ → Stage) → Result (Unit {0}) Stop → Type 0
SendsTo reports origin log reported stages (Ok done) =
    GoesTo reports log reported stages (λ next. Rests next (asking_in origin) origin.answering.items)
SendsTo reports origin log reported stages (Err e) = GoesTo reports log reported stages IsLog

-- behind a turn: its call of `next` was made, or it is stopped
abbrev pub IsBehind : Origin → Log → Result (Unit {0}) Stop → Log → Type 0
IsBehind origin log (Ok done) next =
    Rests next (asking_in origin) origin.answering.items × (length next.calls ≡ length log.calls + 1) × (next.bound ≡ log.bound)
IsBehind origin log (Err e) next =
    IsLog next × (length next.calls ≤ length log.calls + 1) × (next.bound ≡ log.bound)

abbrev pub TurnsTo : Bool → Origin → Log → Option Log → (ℕ → Stage) → Result (Unit {0}) Stop → Type 0
TurnsTo reports origin log reported stages result =
    (next : Log) × Follows reports reported stages next × IsBehind origin log result next

-- THE END

-- Behind the last turn just those are open of which something is kept.
pub record IsEnding (log : Log) (asking : ℕ → Option Reading) (owed : List Unsent) : Type 0 where
  pub is_log : IsLog log
  pub answered : (k : ℕ) → IfSome (find (is_numbered k) log.takers) (IsAnswered log.calls (came_of k log.calls))
  pub kept : (k : ℕ) → asking k ≡ None → unsent_in owed k ≡ None → is_live log.takers k ≡ false

-- nobody asks
abbrev pub nobody : ℕ → Option Reading
nobody k = None

abbrev pub IsOver : Log → Type 0
IsOver log = IsLog log × IsFinished log
