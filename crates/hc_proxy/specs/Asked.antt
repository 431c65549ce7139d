-- What the consumers of each client are started for: the first requests that are read out of what came of it.
use Rattle.std.specs.Prelude.{◌≡◌, ℕ, ◌+◌, ◌==◌, List, [], ◌∷◌, ◌++◌, map, Bool, true, false, Option, Some, None, IsSome, if◌then◌else◌}
use Rattle.hc_event.specs.declared.event.Event.{Event}
use Rattle.hc_event.specs.declared.event.Event.TheVariants as event
use Rattle.hc_event.specs.declared.event.Request.{Request}
use Rattle.hc_head.specs.declared.message.WireRequest.{WireRequest}
use Rattle.hc_model.specs.Beginnings.{may_begin}
use Rattle.hc_model.specs.Entries.{History}
use Rattle.hc_msg.specs.Reading.{Reading, Requests, Asks, Leads, heading}
use Rattle.hc_rules.specs.declared.room.Limits.{Limits}
use Rattle.hc_peers.specs.Renderings.{asked_of}
use Rattle.hc_wire.specs.declared.event.WireEvent.{WireEvent}
use Rattle.hc_wire.specs.declared.event.WireEvent.TheVariants as wire
use Rattle.hc_wire.specs.Logs.{Called, Log}
use Rattle.hc_proxy.specs.Rows.{Proxy, Setting}
use Rattle.hc_proxy.specs.Turns.{behind_all}

-- WHAT CAME

abbrev pub got_by : ℕ → WireEvent → List ℕ → List ℕ
got_by k (wire.Got j n) bytes = if k == j then bytes else []
got_by k _ bytes = []

-- the bytes that came of a connection in these calls
abbrev pub got_from : ℕ → List Called → List ℕ
got_from k [] = []
got_from k (call ∷ calls) = got_by k call.event call.bytes ++ got_from k calls

-- Some first bytes ask for these, one after another. A front asks without the condition of a copy.
pub record HasAsked (front : Bool) (came : List ℕ) (requests : List Request) : Type 0 where
  pub first : List ℕ
  pub rest : List ℕ
  pub asked : List WireRequest
  pub reading : Reading
  pub whole : first ++ rest ≡ came
  pub reads : Leads (heading Requests) first (map Asks asked) reading
  pub are : requests ≡ map (asked_of front) asked

-- THE STARTS

-- it is the client at this connection
abbrev pub is_at : ℕ → Option ℕ → Bool
is_at k None = false
is_at k (Some j) = k == j

-- the request of the consumer that an event starts, where that is this client's
abbrev pub started_by : (ℕ → Option ℕ) → ℕ → Event → List Request
started_by holder k (event.Start c request) = if is_at k (holder c) then request ∷ [] else []
started_by holder k _ = []

-- the requests that the consumers of a client were started for, the oldest first
abbrev pub starts_of : (ℕ → Option ℕ) → ℕ → History → List Request
starts_of holder k [] = []
starts_of holder k (e ∷ h) = starts_of holder k h ++ started_by holder k e.event

abbrev pub count_by : Event → ℕ
count_by (event.Start c request) = 1
count_by _ = 0

-- how many consumers were started
abbrev pub starts_in : History → ℕ
starts_in [] = 0
starts_in (e ∷ h) = starts_in h + count_by e.event

-- behind n consumers the next is started, and it is a client's
abbrev pub IsNextStart : (ℕ → Option ℕ) → ℕ → Event → Type 0
IsNextStart holder n (event.Start c request) = (c ≡ n + 1) × IsSome (holder c)
IsNextStart holder n _ = Unit {0}

-- behind the last one before, consumers are started one after another, each for a client
abbrev pub AreClients : ℕ → (ℕ → Option ℕ) → History → Type 0
AreClients last holder [] = Unit {0}
AreClients last holder (e ∷ h) =
    IsNextStart holder (last + starts_in h) e.event × AreClients last holder h

-- BOTH

-- Nothing was started for this connection. Or it was accepted at a call, and what came since asked for that.
pub data IsAsked (front : Bool) (k : ℕ) (calls : List Called) (requests : List Request) : Type 0 where
  nothing : requests ≡ [] → IsAsked front k calls requests
  since : (before after : List Called) (call : Called) → calls ≡ before ++ call ∷ after →
      call.event ≡ wire.Accepted k → HasAsked front (got_from k after) requests → IsAsked front k calls requests

pub record AreAsked (setting : Setting) (calls : List Called) (p : Proxy) : Type 0 where
  -- The n-th consumer that is started has the n-th number behind the last one of the contents,
  -- and is a client's.
  pub clients : AreClients setting.contents.last_consumer p.holder p.history
  -- Those of a client were started for its first requests, each once and in their order.
  pub each : (k : ℕ) → IsAsked setting.front k calls (starts_of p.holder k p.history)

-- So it is whatever a log says.
abbrev pub StartsAreAsked : Type 0
StartsAreAsked =
    (limits : Limits) (setting : Setting) (log : Log) → may_begin limits setting.contents ≡ true →
    AreAsked setting log.calls (behind_all limits setting log)
