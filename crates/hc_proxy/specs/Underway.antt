-- While the acts of a turn are carried out: what the loop keeps, and how the wire stands.
use Rattle.std.specs.Prelude.{◌≡◌, ◌≢◌, Contains, ◌⊎◌, ◌≤◌, ◌<◌, ℕ, List, [], ◌∷◌, ◌++◌, length, map, nat_eq, true, Option, Some, None, if◌then◌else◌}
use Rattle.std.specs.List.{list_any}
use Rattle.hc_event.specs.Filters.{leaves_in}
use Rattle.hc_event.specs.declared.act.Act.{Act}
use Rattle.hc_event.specs.declared.event.Request.{Request}
use Rattle.hc_model.specs.Denials.{is_live}
use Rattle.hc_peers.specs.Origins.{new_upstream}
use Rattle.hc_peers.specs.Renderings.{is_head}
use Rattle.hc_peers.specs.Upstreams.{is_news, is_touched, Becomes, Marks}
use Rattle.hc_peers.specs.declared.upstreams.Upstreams.{Upstreams}
use Rattle.hc_store.specs.declared.backend.Backend.{Ghosts}
use Rattle.hc_wire.specs.Events.{Stage, Unseen, Closed, Fresh, with_stage, closed_of}
use Rattle.hc_wire.specs.Logs.{Log, Taker, Reports, changed_at, sent_in, shut, with_dialled}
use Rattle.hc_proxy.specs.declared.proxy.Proxy as loop
use Rattle.hc_proxy.specs.Carrying.{carried_out, all_carried_out, carried, sent_request}
use Rattle.hc_proxy.specs.Connections.{dials_from, taken_at}
use Rattle.hc_proxy.specs.Invariants.{IsHolder, AreServed, AreOver, AreShut, ArePlain, IsHeardOut}
use Rattle.hc_proxy.specs.Keeping.{Turn, HasCache, HasMoved, HasUpstreams, HasClients, AtWire, AreSeen, KeepsPolled, most_starts, most_opened}
use Rattle.hc_proxy.specs.Logging.{Follows, Dials}
use Rattle.hc_proxy.specs.Rows.{Client, Proxy}

-- THE WIRE

-- These connections are closed, whatever they were. All others stand as before.
abbrev pub closed_among : List ℕ → (ℕ → Stage) → ℕ → Stage
closed_among ks stages j = if list_any (nat_eq j) ks then closed_of (stages j) else stages j

abbrev pub shut_each : List ℕ → List Taker → List Taker
shut_each [] cs = cs
shut_each (k ∷ ks) cs = shut_each ks (changed_at k shut cs)

pub record Closes (ks : List ℕ) (log : Log) (reported : Option Log) (before after : ℕ → Stage) : Type 0 where
  pub log' : Log
  pub follows : Follows reported after log'
  pub dials : Dials [] log log'
  pub stands : (j : ℕ) → after j ≡ closed_among ks before j
  pub takers : log'.takers ≡ shut_each ks log.takers

-- A connection was dialled, whose number is new.
pub record DialsOne (k : ℕ) (reported reported' : Option Log) (before after : ℕ → Stage) : Type 0 where
  pub new : before k ≡ Unseen
  pub reported_is : Reports reported reported' (with_dialled k)
  pub stands : (j : ℕ) → after j ≡ with_stage k Fresh before j

-- The exchange has a new connection, which is owed the request.
pub record Opens (x : ℕ) (request : Request) (old new : Upstreams) (reported reported' : Option Log) (before after : ℕ → Stage) : Type 0 where
  pub k : ℕ
  pub dials : DialsOne k reported reported' before after
  pub becomes : Becomes x (Some (new_upstream k (is_head request) (sent_request request))) old new
  pub news : (y : ℕ) → is_news new y ≡ is_news old y
  pub touched : Marks (is_touched old) (is_touched new) x true

-- One was dialled, or none.
pub data DialsSome (reported reported' : Option Log) (before after : ℕ → Stage) : Type 0 where
  none : reported' ≡ reported → ((j : ℕ) → after j ≡ before j) → DialsSome reported reported' before after
  one : (k : ℕ) → DialsOne k reported reported' before after → DialsSome reported reported' before after

-- WHAT IS STILL TO BE CARRIED OUT

-- who waits for whom
pub record HasHolders (acts : List Act) (p : Proxy) : Type 0 where
  pub held : (k c : ℕ) → IsHolder p k c → p.holder c ≡ Some k
  pub started : (k c : ℕ) → IsHolder p k c → c ≤ p.starts
  pub live : (c : ℕ) → is_live (p.tables.consumer c) ≡ true → (k : ℕ) × IsHolder p k c
  pub alive : (k c : ℕ) → IsHolder p k c →
      (is_live (p.tables.consumer c) ≡ true) ⊎ (leaves_in c acts ≡ true)
  pub idle : (k : ℕ) (r : Client) → p.client k ≡ Some r → r.closing ≡ true → r.consumer ≡ None

module _ {B : Type 0} {g : Ghosts B} where
  pub record KeepsUnderway (t : Turn) (acts : List Act) (x : loop.Proxy B g) (p : Proxy) : Type 0 where
    pub cache : HasCache t.frame x p
    pub moved : HasMoved x p
    pub clients : HasClients t x p
    pub holders : HasHolders acts p
    pub over : AreOver acts p
    pub served : AreServed t.call p acts
    pub plain : ArePlain acts p.tables
    pub shut : AreShut acts p.tables
    pub undialled : (y : ℕ) → length t.dialled < y → p.upstream y ≡ None
    pub upstreams : HasUpstreams t x p acts
    pub heard : IsHeardOut p
    pub wire : AtWire t.stages x
    pub known : (k : ℕ) → Contains x.closed.items k → t.stages k ≢ Unseen
    pub numbers : p.starts ≤ most_starts x p
    pub opened : p.tables.opened ≤ most_opened x p
    pub seen : AreSeen t p

-- the wire stands as the turn says, and what was taken is what was taken at the call, but of those that are closed
pub record OnWire (t : Turn) (log : Log) (reported : Option Log) (stages : ℕ → Stage) : Type 0 where
  pub follows : Follows reported stages log
  pub stands : (k : ℕ) → stages k ≡ t.stages k
  pub dialled : dials_from t.frame.setting log.dialled ≡ t.dialled
  pub taken : (k : ℕ) → (t.stages k ≡ Closed) ⊎ (taken_at t.call k ≡ length (sent_in log.takers k))

-- where so many more were dialled
abbrev pub dialling : List ℕ → (ℕ → Stage) → Turn → Turn
dialling more stages t = record t { dialled = t.dialled ++ map Some more; stages = stages }

module _ {B : Type 0} {g : Ghosts B} where
  -- An act is carried out, before these.
  pub record GoesOn (t : Turn) (a : Act) (acts : List Act) (p : Proxy) (log : Log) (x : loop.Proxy B g)
      (reported : Option Log) (stages : ℕ → Stage) : Type 0 where
    pub log' : Log
    pub more : List ℕ
    pub dials : Dials more log log'
    pub on_wire : OnWire (dialling more stages t) log' reported stages
    pub keeps : KeepsUnderway (dialling more stages t) acts x (carried_out a p)

  -- the act comes next, for some tables and some acts behind it
  abbrev pub IsNext : Act → (ℕ → Stage) → loop.Proxy B g → Type 0
  IsNext a stages x =
      (t : Turn) × (acts : List Act) × (p : Proxy) × KeepsUnderway t (a ∷ acts) x p
      × ((k : ℕ) → stages k ≡ t.stages k)

  -- Some acts of the turn were carried out, and these are left.
  pub record IsUnderway (t : Turn) (p : Proxy) (log : Log) (acts : List Act) (x : loop.Proxy B g)
      (reported : Option Log) (stages : ℕ → Stage) : Type 0 where
    pub log' : Log
    pub more : List ℕ
    pub p' : Proxy
    pub dials : Dials more log log'
    pub on_wire : OnWire (dialling more stages t) log' reported stages
    pub keeps : KeepsUnderway (dialling more stages t) acts x p'
    pub same : all_carried_out acts p' ≡ carried p
    pub tables : p'.tables ≡ p.tables

  -- the polls are done, for some tables and some log
  abbrev pub IsPolledOn : Option Log → (ℕ → Stage) → loop.Proxy B g → Type 0
  IsPolledOn reported stages x =
      (t : Turn) × (p : Proxy) × (log : Log) × KeepsPolled t x p × OnWire t log reported stages
