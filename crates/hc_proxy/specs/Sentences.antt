-- What a log of the loop says, one sentence after another: at each call of `next`, of the whole log, and behind the
-- last turn.
use Rattle.std.specs.Prelude.{◌≡◌, ◌≤◌, ◌<◌, ◌+◌, ◌++◌, ℕ, zero, suc, List, [], ◌∷◌, length, find, true, false, Some, Contains}
use Rattle.hc_event.specs.declared.act.Act.{Act}
use Rattle.hc_event.specs.declared.act.Act.TheVariants as act
use Rattle.hc_rules.specs.declared.room.Limits.{Limits}
use Rattle.hc_model.specs.Beginnings.{may_begin}
use Rattle.hc_model.specs.Entries.{History}
use Rattle.hc_model.specs.Exchanges.{is_open}
use Rattle.hc_sched.specs.declared.schedule.Timed.{Timed}
use Rattle.hc_wire.specs.declared.connection.Standing.{Standing}
use Rattle.hc_wire.specs.Logs.{Called, Log, Taker, is_numbered}
use Rattle.hc_proxy.specs.Connections.{connection_of, dials_from, dials_in, has_unsent, stands}
use Rattle.hc_proxy.specs.Endings.{IsFinished, IsLog}
use Rattle.hc_proxy.specs.Listening.{is_read}
use Rattle.hc_proxy.specs.Network.{open_exchanges}
use Rattle.hc_proxy.specs.Rows.{Client, Proxy, Setting, unused}
use Rattle.hc_proxy.specs.Sending.{owed_by, owed_to}
use Rattle.hc_proxy.specs.Standings.{Whose, OfClient, OfExchange, OfNobody, whose}
use Rattle.hc_proxy.specs.Turns.{so_far, turned_by, behind_all, due_events, record_of, text_behind}
use Rattle.hc_proxy.specs.Waiting.{waits}

-- A CALL of `next`, and the tables behind the turns before it

pub record IsCall (limits : Limits) (setting : Setting) (log : Log) (call : Called) (p : Proxy) : Type 0 where
  pub before : List Called
  pub after : List Called
  pub calls : log.calls ≡ before ++ call ∷ after
  pub tables : p ≡ turned_by limits (dials_from setting log.dialled) before (unused setting)

-- whose a connection is then
abbrev pub whose_at : Log → Proxy → ℕ → Whose
whose_at log p k = whose (so_far p (dials_in p log)) p k

-- a client that isn't gone, and still lacks bytes if it is to be closed; or an open exchange
abbrev pub MayStand : Called → Proxy → ℕ → Whose → Type 0
MayStand call p k (OfClient client) =
    (client.gone ≡ false) × (client.closing ≡ true → has_unsent call k client ≡ true)
MayStand call p k (OfExchange x) = is_open (p.tables.exchange x) ≡ true
MayStand call p k OfNobody = ⊥

pub record IsCallAsSaid (limits : Limits) (log : Log) (call : Called) (p : Proxy) : Type 0 where
  -- It waits where the turn before made no event but polls whose consumers wait, and nothing would be
  -- handed to the cache now.
  pub waits_so : call.wait ≡ waits limits p
  -- Reading is on for a client that waits for nothing and lacks nothing, and for an exchange that the
  -- cache wants, and for nobody else.
  pub reads : (s : Standing) → Contains call.standings s →
      s.reads ≡ is_read call p s.k (whose_at log p s.k)
  -- A connection lacks bytes only where it took less than it was offered since the call before.
  pub sends : (s : Standing) → Contains call.standings s →
      s.taken < owed_to p (whose_at log p s.k) → s.short ≡ true
  -- Each open exchange has the connection that was dialled for it, which stands.
  pub dials : (x : ℕ) → Contains (open_exchanges p.tables) x →
      (k : ℕ) × (connection_of (so_far p (dials_in p log)) x ≡ Some k)
      × (stands call k ≡ true)
  -- Each client stands that isn't gone and isn't to be closed.
  pub stays : (k : ℕ) (client : Client) → Contains p.accepted k → p.client k ≡ Some client →
      client.gone ≡ false → client.closing ≡ false → stands call k ≡ true
  -- All others are closed.
  pub closes : (s : Standing) → Contains call.standings s → MayStand call p s.k (whose_at log p s.k)

-- THE LOG

-- the events of the first n turns, those of one turn behind those of another
abbrev pub events_till : Limits → Setting → Log → ℕ → List Timed
events_till limits setting log zero = []
events_till limits setting log (suc n) =
    events_till limits setting log n ++ due_events limits setting log (suc n)

-- how many exchanges acts open, and a history
abbrev pub opened_in : List Act → ℕ
opened_in [] = 0
opened_in (act.Opened x c need request ∷ acts) = opened_in acts + 1
opened_in (_ ∷ acts) = opened_in acts

abbrev pub opened_by : History → ℕ
opened_by [] = 0
opened_by (e ∷ h) = opened_by h + opened_in e.acts

pub record IsLogAsSaid (limits : Limits) (setting : Setting) (log : Log) : Type 0 where
  pub calls : (call : Called) (p : Proxy) → IsCall limits setting log call p →
      IsCallAsSaid limits log call p
  -- The record is the text of the events of all turns, from the moment of the contents on.
  pub text : record_of (behind_all limits setting log)
      ≡ text_behind setting.contents.now (events_till limits setting log (length log.calls))
  -- No more connections are dialled than exchanges are opened.
  pub dials : length log.dialled ≤ opened_by (behind_all limits setting log).history

-- So it is of each log of the loop.
abbrev pub LogsAreAsSaid : Type 0
LogsAreAsSaid =
    (limits : Limits) (setting : Setting) (log : Log) → may_begin limits setting.contents ≡ true →
    IsLog limits setting log → IsLogAsSaid limits setting log

-- BEHIND THE LAST TURN

pub record IsEndAsSaid (log : Log) (p : Proxy) : Type 0 where
  -- One connection was dialled for each exchange that was opened.
  pub dials : length log.dialled ≡ opened_by p.history
  -- All connections are closed.
  pub closed : (taker : Taker) → Contains log.takers taker → taker.live ≡ false
  -- A client lacks bytes only where it took less than it was offered in the last turn.
  pub clients : (k : ℕ) (client : Client) (taker : Taker) → Contains p.accepted k →
      p.client k ≡ Some client → client.gone ≡ false →
      find (is_numbered k) log.takers ≡ Some taker →
      length taker.sent < length client.owed → taker.short ≡ Some (length log.calls)
  -- And so does the connection of an open exchange.
  pub exchanges : (x k : ℕ) (taker : Taker) → Contains (open_exchanges p.tables) x →
      connection_of (dials_in p log) x ≡ Some k → find (is_numbered k) log.takers ≡ Some taker →
      length taker.sent < owed_by (p.upstream x) → taker.short ≡ Some (length log.calls)

-- So it is of each log behind which nothing is lacking.
abbrev pub EndsAreAsSaid : Type 0
EndsAreAsSaid =
    (limits : Limits) (setting : Setting) (log : Log) → may_begin limits setting.contents ≡ true →
    IsLog limits setting log → IsFinished log (behind_all limits setting log) →
    IsEndAsSaid log (behind_all limits setting log)
