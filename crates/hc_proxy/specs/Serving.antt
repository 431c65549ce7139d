-- What comes of a turn and of the whole loop: how what is kept stands for the log, and what was written.
use Rattle.std.specs.Prelude.{◌≡◌, ◌⊎◌, ◌≤◌, ℕ, ◌+◌, List, [], ◌++◌, length, map, Bool, true, Option, Some, None, Result, IsErrOf}
use Rattle.std.specs.List.{list_all}
use Rattle.hc_core.specs.Steps.{faults_in}
use Rattle.hc_io.specs.Faults as sink
use Rattle.hc_io.specs.Sink.{Takes, TakesPrefix}
use Rattle.hc_rules.specs.declared.room.Limits.{Limits}
use Rattle.hc_sched.specs.declared.schedule.Ended.{Ended}
use Rattle.hc_store.specs.declared.backend.Backend.{Ghosts}
use Rattle.hc_wire.specs.Events.{Stage}
use Rattle.hc_wire.specs.Logs.{Log, shut}
use Rattle.hc_wire.specs.Wires.{HasRisen}
use Rattle.hc_proxy.specs.declared.proxy.Proxy as loop
use Rattle.hc_proxy.specs.declared.stop.Stop.{Stop}
use Rattle.hc_proxy.specs.declared.stop.Stop.TheVariants as stop
use Rattle.hc_proxy.specs.Endings.{IsFresh, IsLog, Serves, SentOn, was_sent}
use Rattle.hc_proxy.specs.Carrying.{carried}
use Rattle.hc_proxy.specs.Connections.{dials_from, dials_in}
use Rattle.hc_proxy.specs.Keeping.{Frame, Turn}
use Rattle.hc_proxy.specs.Logging.{Follows}
use Rattle.hc_proxy.specs.Loops.{AllFit}
use Rattle.hc_proxy.specs.Recorded.{HasSchedule, IsRecorded}
use Rattle.hc_proxy.specs.Records.{text_of}
use Rattle.hc_proxy.specs.Resting.{Rests, IsWithin}
use Rattle.hc_proxy.specs.Rows.{Proxy, Setting, unused}
use Rattle.hc_proxy.specs.Turns.{behind_all, behind_calls, record_of}
use Rattle.hc_proxy.specs.Waiting.{waits}

-- THE LOG

-- Between turns: its calls fit, the tables are those behind them, and each connection has taken a first part of what it is owed.
pub record IsOfLoop (limits : Limits) (setting : Setting) (log : Log) (p : Proxy) : Type 0 where
  pub fit : AllFit limits (dials_from setting log.dialled) (unused setting) log.calls
  pub tables : p ≡ behind_all limits setting log
  pub sent : list_all (was_sent (dials_from setting log.dialled) p) log.takers ≡ true

-- The last turn was cut short: what was written before it is the record of the turns before, and some first part of the
-- rest was written since.
pub record IsCutShort (limits : Limits) (setting : Setting) (log : Log) (written : List ℕ) (out out' : Option (List ℕ)) : Type 0 where
  pub is_log : IsLog limits setting log
  pub turns : ℕ
  pub all_but_one : length log.calls ≤ turns + 1
  pub written_is : written ≡ record_of (behind_calls limits setting log turns)
  pub schedule : HasSchedule (behind_calls limits setting log turns)
  pub text : List ℕ
  pub takes : TakesPrefix out out' text
  pub record_is : record_of (behind_all limits setting log) ≡ written ++ text

-- all its connections are closed, if the wire tells it
abbrev pub all_closed : Log → Log
all_closed log = record log { takers = map shut log.takers }

abbrev pub IsClosed : Log → Option Log → Type 0
IsClosed log reported = (reported ≡ None) ⊎ (reported ≡ Some (all_closed log))

-- WHY IT STOPS

-- The wire and the sink failed only where they counted that, and nothing was counted where they didn't.
pub record HasCauses {T : Type 0} (wire wire' log log' : ℕ) (result : Result T Stop) : Type 0 where
  pub wire_failed : IsErrOf result stop.WireFailed → HasRisen wire wire'
  pub wire_calm : (IsErrOf result stop.WireFailed → ⊥) → wire' ≡ wire
  pub sink_failed : IsErrOf result stop.SinkFailed → sink.HasRisen log log'
  pub sink_calm : (IsErrOf result stop.SinkFailed → ⊥) → log' ≡ log

module _ {B : Type 0} {g : Ghosts B} where
  -- BETWEEN TURNS

  -- so many events were handed out, and the record is written
  pub record IsStill (n : ℕ) (f : Frame) (x : loop.Proxy B g) (p : Proxy) (log : Log) (reported : Option Log) (stages : ℕ → Stage) : Type 0 where
    pub rests : Rests f x p log
    pub follows : Follows reported stages log
    pub within : IsWithin n f x
    pub written : text_of x.record ≡ []

  -- for some tables and some log, where the next call waits so
  abbrev pub IsReady : ℕ → Option Log → (ℕ → Stage) → Bool → loop.Proxy B g → Type 0
  IsReady n reported stages wait x =
      (f : Frame) × (p : Proxy) × (log : Log) × IsStill n f x p log reported stages × (wait ≡ waits f.limits p)

  -- before the first
  pub record Begins (n : ℕ) (f : Frame) (x : loop.Proxy B g) (log : Log) (reported : Option Log) (stages : ℕ → Stage) : Type 0 where
    pub still : IsStill n f x (unused f.setting) log reported stages
    pub fresh : IsFresh log
    pub unwritten : f.written ≡ []

  abbrev pub IsBeginning : ℕ → Option Log → (ℕ → Stage) → loop.Proxy B g → Type 0
  IsBeginning n reported stages x = (f : Frame) × (log : Log) × Begins n f x log reported stages

  -- WHAT HAPPENED IS CARRIED OUT

  -- All of it, and the record is written.
  pub record FinishesTurn (t : Turn) (p : Proxy) (log : Log) (x x' : loop.Proxy B g) (reported : Option Log) (stages : ℕ → Stage)
      (out out' : Option (List ℕ)) (again : Bool) : Type 0 where
    pub log' : Log
    pub more : List ℕ
    pub rests : Rests (record t.frame { written = t.frame.written ++ text_of x.record }) x' (carried p) log'
    pub follows : Follows reported stages log'
    pub takes : Takes out out' (text_of x.record)
    pub written : text_of x'.record ≡ []
    pub again_is : again ≡ waits t.frame.limits (carried p)
    pub calls : log'.calls ≡ log.calls
    pub bound : log'.bound ≡ log.bound
    pub dialled : log'.dialled ≡ log.dialled ++ more
    pub sent : SentOn (carried p) log log'

  -- Some of it.
  pub record CutsTurn (p : Proxy) (log : Log) (x : loop.Proxy B g) (reported : Option Log) (out out' : Option (List ℕ)) : Type 0 where
    pub log' : Log
    pub more : List ℕ
    pub reported_is : (reported ≡ None) ⊎ (reported ≡ Some log')
    pub takes : TakesPrefix out out' (text_of x.record)
    pub calls : log'.calls ≡ log.calls
    pub bound : log'.bound ≡ log.bound
    pub dialled : log'.dialled ≡ log.dialled ++ more
    pub few : length (dials_in p log') ≤ p.tables.opened
    pub sent : SentOn (carried p) log log'

  -- A TURN

  -- It was made. What is said of the log holds where no failure of the store was counted in it.
  pub record TurnsTo (n : ℕ) (f : Frame) (p : Proxy) (log : Log) (x x' : loop.Proxy B g) (reported : Option Log) (stages : ℕ → Stage)
      (out out' : Option (List ℕ)) (again : Bool) : Type 0 where
    pub f' : Frame
    pub p' : Proxy
    pub log' : Log
    pub still : IsStill n f' x' p' log' reported stages
    pub limits : f'.limits ≡ f.limits
    pub setting : f'.setting ≡ f.setting
    pub text : List ℕ
    pub takes : Takes out out' text
    pub written : f'.written ≡ f.written ++ text
    pub again_is : again ≡ waits f.limits p'
    pub bound : log'.bound ≡ log.bound
    pub calls : length log'.calls ≡ length log.calls + 1
    pub goes : faults_in x'.cache ≡ faults_in x.cache → IsOfLoop f.limits f.setting log p → IsOfLoop f.limits f.setting log' p'

  -- It was cut short. What was written since it began goes on with the record as a schedule.
  pub record TurnStops (f : Frame) (p : Proxy) (log : Log) (x x' : loop.Proxy B g) (reported : Option Log) (out out' : Option (List ℕ)) : Type 0 where
    pub log' : Log
    pub reported_is : (reported ≡ None) ⊎ (reported ≡ Some log')
    pub bound : log'.bound ≡ log.bound
    pub calls : length log'.calls ≤ length log.calls + 1
    pub text : List ℕ
    pub takes : TakesPrefix out out' text
    pub recorded : IsRecorded f.limits f.setting.contents (f.written ++ text)
    pub goes : faults_in x'.cache ≡ faults_in x.cache → IsOfLoop f.limits f.setting log p → IsCutShort f.limits f.setting log' f.written out out'

-- ALL OF IT

-- how it ends, for some log that the wire tells if it tells one
pub record EndsBy (limits : Limits) (setting : Setting) (turns : ℕ) (log : Log) (reported : Option Log) (out out' : Option (List ℕ))
    (end : Ended) : Type 0 where
  pub log' : Log
  pub reported_is : (reported ≡ None) ⊎ (reported ≡ Some log')
  pub bound : log'.bound ≡ log.bound
  pub serves : Serves limits setting turns log' out out' end
