-- What comes of the steps of a turn that call the wire, and of a whole turn.
use Rattle.std.specs.Prelude.{◌≡◌, ◌⊎◌, ◌≤◌, ℕ, List, ◌++◌, length, map, Option, Some, None, Result, OnOk, IsErrOf}
use Rattle.hc_store.specs.declared.backend.Backend.{Ghosts}
use Rattle.hc_wire.specs.Events.{Stage}
use Rattle.hc_wire.specs.Logs.{Log}
use Rattle.hc_wire.specs.Wires.{HasRisen}
use Rattle.hc_proxy.specs.declared.proxy.Proxy as loop
use Rattle.hc_proxy.specs.declared.stop.Stop.{Stop}
use Rattle.hc_proxy.specs.declared.stop.Stop.TheVariants as stop
use Rattle.hc_proxy.specs.Carrying.{carried}
use Rattle.hc_proxy.specs.Endings.{SentOn}
use Rattle.hc_proxy.specs.Keeping.{Turn}
use Rattle.hc_proxy.specs.Logging.{Follows, Dials}
use Rattle.hc_proxy.specs.Resting.{KeepsCarried, Rests}
use Rattle.hc_proxy.specs.Rows.{Proxy}
use Rattle.hc_proxy.specs.Underway.{OnWire}

-- the wire failed only where it counted that, and nothing was counted where it didn't
pub record HasStopCause {T : Type 0} (before now : ℕ) (result : Result T Stop) : Type 0 where
  pub later : before ≤ now
  pub failed : IsErrOf result stop.WireFailed → HasRisen before now
  pub calm : OnOk result (now ≡ before)
  pub no_fault : IsErrOf result stop.NoMemory → now ≡ before
  pub no_sink : IsErrOf result stop.SinkFailed → ⊥

-- CARRY OUT

module _ {B : Type 0} {g : Ghosts B} where
  -- All acts are carried out: as many connections were dialled as exchanges were opened.
  pub record CarriedOut (t : Turn) (p : Proxy) (log : Log) (x : loop.Proxy B g) (reported : Option Log) (stages : ℕ → Stage) : Type 0 where
    pub log' : Log
    pub more : List ℕ
    pub dials : Dials more log log'
    pub on_wire : OnWire (record t { dialled = t.dialled ++ map Some more; stages = stages }) log' reported stages
    pub opened : length t.dialled ≤ p.tables.opened → length (t.dialled ++ map Some more) ≡ p.tables.opened
    pub keeps : KeepsCarried (record t { dialled = t.dialled ++ map Some more; stages = stages }) x (carried p)

-- Some are.
pub record CarriedSome (t : Turn) (p : Proxy) (log : Log) (reported : Option Log) (stages : ℕ → Stage) : Type 0 where
  pub log' : Log
  pub more : List ℕ
  pub follows : Follows reported stages log'
  pub dials : Dials more log log'
  pub opened : length (t.dialled ++ map Some more) ≤ p.tables.opened

-- SEND

module _ {B : Type 0} {g : Ghosts B} where
  -- All that was unsent was offered.
  pub record SentAll (t : Turn) (p : Proxy) (log : Log) (x : loop.Proxy B g) (reported : Option Log) (stages : ℕ → Stage) : Type 0 where
    pub log' : Log
    pub follows : Follows reported stages log'
    pub calls : log'.calls ≡ log.calls
    pub bound : log'.bound ≡ log.bound
    pub dialled : log'.dialled ≡ log.dialled
    pub sent : SentOn p log log'
    pub rests : Rests t.frame x p log'

-- Some of it was. Who had a first part of what it is owed has one still.
pub record SentSome (p : Proxy) (log : Log) (reported : Option Log) : Type 0 where
  pub log' : Log
  pub reported_is : (reported ≡ None) ⊎ (reported ≡ Some log')
  pub calls : log'.calls ≡ log.calls
  pub bound : log'.bound ≡ log.bound
  pub dialled : log'.dialled ≡ log.dialled
  pub sent : SentOn p log log'
