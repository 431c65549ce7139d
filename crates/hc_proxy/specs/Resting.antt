-- How what the loop keeps, and the wire, stand for the tables and the log of the definitions: when the acts of a turn
-- are carried out, and between turns.
use Rattle.std.specs.Prelude.{◌≡◌, ◌⊎◌, ◌≤◌, ◌*◌, ℕ, [], length, Bool, true, false, Option, Some, None, Contains, IsSome}
use Rattle.std.specs.List.Sorted.{IsStrictlySortedBy}
use Rattle.std.specs.Ordering.{nat_cmp}
use Rattle.hc_core.specs.Steps.{steps}
use Rattle.hc_event.specs.Acts.{act_list}
use Rattle.hc_model.specs.Denials.{is_live}
use Rattle.hc_model.specs.Exchanges.{is_wanted}
use Rattle.hc_peers.specs.Clients.{client_of}
use Rattle.hc_peers.specs.Peers.{is_idle, is_over, is_same}
use Rattle.hc_peers.specs.Upstreams.{upstream_of}
use Rattle.hc_peers.specs.declared.client.Client as peer
use Rattle.hc_peers.specs.declared.upstream.Upstream as origin
use Rattle.hc_store.specs.declared.backend.Backend.{Ghosts}
use Rattle.hc_wire.specs.Events.{Stage, Unseen}
use Rattle.hc_wire.specs.Logs.{Log, Called, stage_in, sent_in, standings_in}
use Rattle.hc_proxy.specs.declared.proxy.Proxy as loop
use Rattle.hc_proxy.specs.Connections.{exchange_of, dials_in}
use Rattle.hc_proxy.specs.Handling.{clients_here}
use Rattle.hc_proxy.specs.Invariants.{HasConsumers, IsHolder, IsHeardOut}
use Rattle.hc_proxy.specs.Logging.{is_short}
use Rattle.hc_proxy.specs.Keeping.{Frame, Turn, HasCache, HasMoved, HasUpstreams, HasClients, AtWire, AreSeen, IsClient, most_starts, most_opened}
use Rattle.hc_proxy.specs.Rows.{Client, Proxy}

-- WHEN ALL IS CARRIED OUT

module _ {B : Type 0} {g : Ghosts B} where
  pub record KeepsCarried (t : Turn) (x : loop.Proxy B g) (p : Proxy) : Type 0 where
    pub cache : HasCache t.frame x p
    pub acts : act_list x.acts ≡ []
    pub moved : HasMoved x p
    pub clients : HasClients t x p
    pub consumers : HasConsumers p
    pub alive : (k c : ℕ) → IsHolder p k c → is_live (p.tables.consumer c) ≡ true
    pub upstreams : HasUpstreams t x p []
    pub heard : IsHeardOut p
    pub wire : AtWire t.stages x
    pub closed : x.closed.items ≡ []
    pub numbers : p.starts ≤ most_starts x p
    pub opened : p.tables.opened ≤ most_opened x p
    pub seen : AreSeen t p

  abbrev pub IsCarried : loop.Proxy B g → Type 0
  IsCarried x = (t : Turn) × (p : Proxy) × KeepsCarried t x p

-- BETWEEN TURNS

-- a client, whose reading is told, and which lacks something only where it took less than it was offered
pub record IsRestingClient (log : Log) (k : ℕ) (c : peer.Client) (r : Client) : Type 0 where
  pub is_client : IsClient (length (sent_in log.takers k)) c r
  pub reads : is_same c.reading (is_idle c) ≡ true
  pub stays : is_over c ≡ false
  pub lacks : (c.unsent ≡ []) ⊎ (is_short log k ≡ true)

-- one that was let go has taken all
abbrev pub IsRestingAt : Log → ℕ → Option peer.Client → Option Client → Type 0
IsRestingAt log k None None = Unit {0}
IsRestingAt log k None (Some r) =
    (r.gone ≡ true) ⊎ ((r.closing ≡ true) × (length r.owed ≤ length (sent_in log.takers k)))
IsRestingAt log k (Some c) None = ⊥
IsRestingAt log k (Some c) (Some r) = IsRestingClient log k c r

pub record IsRestingUpstream (log : Log) (wanted : Bool) (u : origin.Upstream) : Type 0 where
  pub reads : is_same u.reading wanted ≡ true
  pub lacks : (u.unsent ≡ []) ⊎ (is_short log u.k ≡ true)

-- as a turn of which nothing came yet
abbrev pub resting_call : Log → Called → Called
resting_call log call = record call { standings = standings_in log }

module _ {B : Type 0} {g : Ghosts B} where
  -- `call` is any: of it the standings alone are looked at
  pub record Rests (f : Frame) (x : loop.Proxy B g) (p : Proxy) (log : Log) : Type 0 where
    pub cache : HasCache f x p
    pub acts : act_list x.acts ≡ []
    pub moved : HasMoved x p
    pub clients : (k : ℕ) → IsRestingAt log k (client_of x.clients k) (p.client k)
    pub order : IsStrictlySortedBy nat_cmp p.accepted
    pub listed : (k : ℕ) → IsSome (p.client k) → Contains p.accepted k
    pub few : length (clients_here p) ≤ 512
    pub consumers : HasConsumers p
    pub alive : (k c : ℕ) → IsHolder p k c → is_live (p.tables.consumer c) ≡ true
    pub upstreams : (call : Called) (stages : ℕ → Stage) →
        HasUpstreams (record { frame = f; call = resting_call log call; dialled = dials_in p log; stages = stages }) x p []
    pub resting : (y : ℕ) (u : origin.Upstream) → upstream_of x.upstreams y ≡ Some u →
        IsRestingUpstream log (is_wanted (p.tables.exchange y)) u
    pub opened : length (dials_in p log) ≡ p.tables.opened
    pub heard : IsHeardOut p
    pub wire : AtWire (stage_in log.takers) x
    pub closed : x.closed.items ≡ []
    pub numbers : p.starts ≤ most_starts x p
    pub opened_by : p.tables.opened ≤ most_opened x p
    pub seen : (k : ℕ) → stage_in log.takers k ≡ Unseen →
        (p.client k ≡ None) × (exchange_of (dials_in p log) k ≡ None) × (Contains p.accepted k → ⊥)

  -- so many events were handed out: each brought so many bytes at most, and so many events were stepped by it at most
  pub record IsWithin (n : ℕ) (f : Frame) (x : loop.Proxy B g) : Type 0 where
    pub bytes : f.bytes ≤ 16384 * n
    pub steps_are : steps x.cache ≤ 2049 * n
