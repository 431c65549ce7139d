-- What came of the serving loop, by how it ended.
use Rattle.std.specs.Prelude.{◌≡◌, ◌≤◌, ◌+◌, ◌++◌, ◌&&◌, ◌||◌, ◌==◌, nat_le, not, ℕ, List, [], length, take, bytes_eq, Bool, true, Option, Some, None}
use Rattle.std.specs.List.{list_all}
use Rattle.hc_io.specs.Sink.{Takes, TakesPrefix}
use Rattle.hc_rules.specs.declared.room.Limits.{Limits}
use Rattle.hc_sched.specs.declared.schedule.Ended.{Ended}
use Rattle.hc_sched.specs.declared.schedule.Ended.TheVariants as ended
use Rattle.hc_wire.specs.Logs.{Log, Taker}
use Rattle.hc_proxy.specs.Connections.{exchange_of, dials_from, dials_in}
use Rattle.hc_proxy.specs.Loops.{AllFit}
use Rattle.hc_proxy.specs.Recorded.{HasSchedule}
use Rattle.hc_proxy.specs.Rows.{Client, Upstream, Proxy, Setting, unused}
use Rattle.hc_proxy.specs.Sending.{all_is_sent}
use Rattle.hc_proxy.specs.Turns.{behind_all, behind_calls, record_of}

-- WHAT WAS SENT

-- the bytes are the first of those that are owed
abbrev pub is_prefix : List ℕ → List ℕ → Bool
is_prefix sent owed = bytes_eq (take (length sent) owed) sent

-- a client lacks at most the last act or error answer, and nothing where it was let go
abbrev pub client_was_sent : List ℕ → Option Client → Bool
client_was_sent sent None = length sent == 0
client_was_sent sent (Some client) =
    is_prefix sent client.owed && nat_le client.before (length sent)
    && (not client.let_go || length sent == length client.owed)

abbrev pub upstream_was_sent : List ℕ → Option Upstream → Bool
upstream_was_sent sent None = length sent == 0
upstream_was_sent sent (Some upstream) = is_prefix sent upstream.owed

abbrev pub sent_by : Proxy → Taker → Option ℕ → Bool
sent_by p taker None = client_was_sent taker.sent (p.client taker.k)
sent_by p taker (Some x) = upstream_was_sent taker.sent (p.upstream x)

-- a connection has taken a first part of what it is owed, and nobody else anything
abbrev pub was_sent : List (Option ℕ) → Proxy → Taker → Bool
was_sent dialled p taker = sent_by p taker (exchange_of dialled taker.k)

-- each had taken such a part by these tables, and so it has now
abbrev pub SentOn : Proxy → Log → Log → Type 0
SentOn p log log' =
    list_all (was_sent (dials_in p log) p) log.takers ≡ true
    → list_all (was_sent (dials_in p log') p) log'.takers ≡ true

-- A LOG OF THE LOOP

-- Each call fits those before it, and each connection has taken a first part of what it is owed. At most as
-- many were dialled as exchanges were opened. The last turn may have been cut short.
pub record IsLog (limits : Limits) (setting : Setting) (log : Log) : Type 0 where
  pub fit : AllFit limits (dials_from setting log.dialled) (unused setting) log.calls
  pub sent : list_all (was_sent (dials_from setting log.dialled) (behind_all limits setting log))
      log.takers ≡ true
  pub dialled : length (dials_from setting log.dialled)
      ≤ (behind_all limits setting log).tables.opened

-- Behind the last turn nothing is lacking but where less was taken than was offered, and all connections are closed.
pub record IsFinished (log : Log) (p : Proxy) : Type 0 where
  pub sent : all_is_sent log p ≡ true
  pub dialled : length (dials_in p log) ≡ p.tables.opened
  pub closed : list_all (λ (taker : Taker). not taker.live) log.takers ≡ true

-- HOW IT ENDS

-- The record of all turns but the last was taken whole, which is a schedule, and then some first part of that of the last.
pub record TakesTurns (limits : Limits) (setting : Setting) (log : Log) (out out' : Option (List ℕ)) : Type 0 where
  pub turns : ℕ
  pub all_but_one : length log.calls ≤ turns + 1
  pub between : Option (List ℕ)
  pub earlier : Takes out between (record_of (behind_calls limits setting log turns))
  pub schedule : HasSchedule (behind_calls limits setting log turns)
  pub last : List ℕ
  pub part : TakesPrefix between out' last
  pub record_is : record_of (behind_all limits setting log)
      ≡ record_of (behind_calls limits setting log turns) ++ last

pub data Serves (limits : Limits) (setting : Setting) (turns : ℕ) (log : Log) (out out' : Option (List ℕ))
    : Ended → Type 0 where
  -- so many turns were made, and their record was taken, which is a schedule
  done : IsLog limits setting log → length log.calls ≡ turns → IsFinished log (behind_all limits setting log) →
      Takes out out' (record_of (behind_all limits setting log)) →
      HasSchedule (behind_all limits setting log) →
      Serves limits setting turns log out out' ended.Done
  -- no more than so many were, and the last may be cut short: of its record alone something may be lacking
  unwired : IsLog limits setting log → length log.calls ≤ turns → TakesTurns limits setting log out out' →
      Serves limits setting turns log out out' ended.WireFailed
  unwritten : IsLog limits setting log → length log.calls ≤ turns → TakesTurns limits setting log out out' →
      Serves limits setting turns log out out' ended.SinkFailed
  wanting : IsLog limits setting log → length log.calls ≤ turns → TakesTurns limits setting log out out' →
      Serves limits setting turns log out out' ended.NoMemory

-- no input is read, so it neither fails nor is refused
abbrev pub MayEnd : Ended → Type 0
MayEnd (ended.Refused refused) = ⊥
MayEnd ended.SourceFailed = ⊥
MayEnd _ = Unit {0}

-- nothing was handed out yet
pub record IsFresh (log : Log) : Type 0 where
  pub calls : log.calls ≡ []
  pub dialled : log.dialled ≡ []
  pub takers : log.takers ≡ []
