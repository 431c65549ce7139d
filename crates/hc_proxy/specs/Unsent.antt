-- While what is unsent is offered: what the tables of connections have to do with the log of the wire.
use Rattle.std.specs.Prelude.{◌≡◌, ◌⊎◌, ◌≤◌, ℕ, List, [], length, Bool, true, false, Option, Some, None, IsSome, nat_eq}
use Rattle.std.specs.List.{list_any}
use Rattle.hc_model.specs.Exchanges.{is_open, is_wanted}
use Rattle.hc_peers.specs.Clients.{client_of}
use Rattle.hc_peers.specs.Peers.{is_idle, is_over, is_same}
use Rattle.hc_peers.specs.Upstreams.{upstream_of, is_news, is_touched}
use Rattle.hc_peers.specs.declared.client.Client as peer
use Rattle.hc_peers.specs.declared.clients.Clients.{Clients}
use Rattle.hc_peers.specs.declared.upstream.Upstream as origin
use Rattle.hc_peers.specs.declared.upstreams.Upstreams.{Upstreams}
use Rattle.hc_store.specs.declared.backend.Backend.{Ghosts}
use Rattle.hc_wire.specs.Events.{Stage, Unseen, Open, IsOpen}
use Rattle.hc_wire.specs.Logs.{Log, sent_in, stage_in}
use Rattle.hc_proxy.specs.declared.proxy.Proxy as loop
use Rattle.hc_proxy.specs.Connections.{exchange_of, connection_of, dials_in}
use Rattle.hc_proxy.specs.Endings.{SentOn}
use Rattle.hc_proxy.specs.Invariants.{is_due, NamesOne}
use Rattle.hc_proxy.specs.Keeping.{IsClient, IsUpstreamAt}
use Rattle.hc_proxy.specs.Logging.{Follows, is_short}
use Rattle.hc_proxy.specs.Resting.{IsRestingUpstream}
use Rattle.hc_proxy.specs.Rows.{Client, Proxy}

-- THE TABLES AND THE LOG

-- how many bytes a connection has taken by now
abbrev pub taken_in : Log → ℕ → ℕ
taken_in log k = length (sent_in log.takers k)

-- one that isn't kept is gone, or was to be closed and has taken all
abbrev pub IsKnownAt : Log → ℕ → Option peer.Client → Option Client → Type 0
IsKnownAt log k None None = Unit {0}
IsKnownAt log k None (Some r) =
    (r.gone ≡ true) ⊎ ((r.closing ≡ true) × (length r.owed ≤ taken_in log k))
IsKnownAt log k (Some c) None = ⊥
IsKnownAt log k (Some c) (Some r) = IsClient (taken_in log k) c r

-- What is unsent is what was owed and wasn't taken, and each connection is read as its row says.
pub record HasConnections (p : Proxy) (cl : Clients) (up : Upstreams) (log : Log) : Type 0 where
  pub clients : (k : ℕ) → IsKnownAt log k (client_of cl k) (p.client k)
  pub rows : (y : ℕ) → is_open (p.tables.exchange y) ≡ true → y ≤ length (dials_in p log) →
      IsUpstreamAt (taken_in log) (upstream_of up y) (p.upstream y)
  pub numbers : (y : ℕ) (u : origin.Upstream) → upstream_of up y ≡ Some u →
      connection_of (dials_in p log) y ≡ Some u.k
  pub over : (y : ℕ) → IsSome (upstream_of up y) → is_open (p.tables.exchange y) ≡ true
  pub within : (y : ℕ) → IsSome (upstream_of up y) → y ≤ length (dials_in p log)
  pub news : (y : ℕ) → is_open (p.tables.exchange y) ≡ true → is_news up y ≡ false → is_due p y ≡ false
  pub touched : (y : ℕ) (u : origin.Upstream) → upstream_of up y ≡ Some u → is_touched up y ≡ false →
      (u.unsent ≡ []) × (is_same u.reading (is_wanted (p.tables.exchange y)) ≡ true)
  pub names : NamesOne (dials_in p log)
  pub strangers : (k : ℕ) → IsSome (p.client k) → exchange_of (dials_in p log) k ≡ None
  pub read_clients : (k : ℕ) (c : peer.Client) → client_of cl k ≡ Some c →
      (ended : Bool) × (stage_in log.takers k ≡ Open c.reading ended)
  pub read_upstreams : (y : ℕ) (u : origin.Upstream) → upstream_of up y ≡ Some u →
      (ended : Bool) × (stage_in log.takers u.k ≡ Open u.reading ended)
  pub all : (k : ℕ) → IsOpen (stage_in log.takers k) → IsSome (client_of cl k)
      ⊎ ((y : ℕ) × (u : origin.Upstream) × (upstream_of up y ≡ Some u) × (u.k ≡ k))

-- WHO WAS OFFERED ALL

-- the client's reading is told, it stays, and lacks something only where it took less than it was offered
pub record IsSentClient (log : Log) (k : ℕ) (c : peer.Client) : Type 0 where
  pub reads : is_same c.reading (is_idle c) ≡ true
  pub stays : is_over c ≡ false
  pub lacks : (c.unsent ≡ []) ⊎ (is_short log k ≡ true)

abbrev pub IsSentAt : Log → ℕ → Option peer.Client → Type 0
IsSentAt log k None = Unit {0}
IsSentAt log k (Some c) = IsSentClient log k c

abbrev pub AreSent : Clients → Log → Type 0
AreSent cl log = (k : ℕ) → IsSentAt log k (client_of cl k)

abbrev pub IsSentOriginAt : Proxy → Log → ℕ → Option origin.Upstream → Type 0
IsSentOriginAt p log y None = Unit {0}
IsSentOriginAt p log y (Some u) = IsRestingUpstream log (is_wanted (p.tables.exchange y)) u

-- WHAT COMES OF OFFERING

-- The log goes on by what was taken, told and closed. Who had a first part of what it is owed has one still.
pub record Sends (p : Proxy) (log log' : Log) : Type 0 where
  pub calls : log'.calls ≡ log.calls
  pub bound : log'.bound ≡ log.bound
  pub dialled : log'.dialled ≡ log.dialled
  pub sent : SentOn p log log'
  pub unseen : (k : ℕ) → stage_in log'.takers k ≡ Unseen → stage_in log.takers k ≡ Unseen

-- all clients were offered what they are owed, but for those of a list that are left
pub record SendsToClients (p : Proxy) (log : Log) (left : List ℕ) (cl : Clients) (up : Upstreams) (reported : Option Log) (stages : ℕ → Stage) : Type 0 where
  pub log' : Log
  pub follows : Follows reported stages log'
  pub sends : Sends p log log'
  pub has : HasConnections p cl up log'
  pub sent : (k : ℕ) → list_any (nat_eq k) left ≡ false → IsSentAt log' k (client_of cl k)

-- and so were the connections of all exchanges, but for those of a list that are left
pub record SendsToOrigins (p : Proxy) (log : Log) (left : List ℕ) (cl : Clients) (up : Upstreams) (reported : Option Log) (stages : ℕ → Stage) : Type 0 where
  pub log' : Log
  pub follows : Follows reported stages log'
  pub sends : Sends p log log'
  pub has : HasConnections p cl up log'
  pub clients : AreSent cl log'
  pub sent : (y : ℕ) → list_any (nat_eq y) left ≡ false → IsSentOriginAt p log' y (upstream_of up y)

-- all else of the loop stays
pub record OthersStay {B : Type 0} {g : Ghosts B} (x x' : loop.Proxy B g) : Type 0 where
  pub cache : x'.cache ≡ x.cache
  pub text : x'.record ≡ x.record
  pub acts : x'.acts ≡ x.acts
  pub now : x'.now ≡ x.now
  pub starts : x'.starts ≡ x.starts
  pub front : x'.front ≡ x.front
  pub moved : x'.moved ≡ x.moved
  pub closed : x'.closed ≡ x.closed
