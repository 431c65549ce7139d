-- How what the loop keeps stands for the tables of the definitions, within a turn.
--
-- The tables are those of a run that the cache stands for. Its store may have failed, and theirs doesn't: so each step
-- goes from tables to some tables, which are those of the definitions where no failure was counted.
use Rattle.std.specs.Prelude.{◌≡◌, ◌≢◌, ◌⊎◌, ◌≤◌, ◌<◌, ◌^◌, ◌+◌, ◌||◌, ℕ, List, [], ◌∷◌, ◌++◌, length, drop, Bool, true, false, Option, Some, None, not, Contains, IsSome, nat_eq}
use Rattle.std.specs.List.{list_all}
use Rattle.std.specs.List.Sorted.{IsStrictlySortedBy}
use Rattle.std.specs.Ordering.{nat_cmp}
use Rattle.hc_core.specs.declared.cache.Cache.{Cache}
use Rattle.hc_core.specs.Steps.{StandsFor, faults_in, last_moment, limits_in, steps, bytes_received}
use Rattle.hc_event.specs.Acts.{act_list}
use Rattle.hc_event.specs.Filters.{asks_in, closes_in}
use Rattle.hc_event.specs.declared.act.Act.{Act}
use Rattle.hc_event.specs.declared.event.Event.{Event}
use Rattle.hc_event.specs.declared.event.Event.TheVariants as event
use Rattle.hc_model.specs.Entries.{Entry, Contents}
use Rattle.hc_model.specs.Exchanges.{is_open, is_wanted}
use Rattle.hc_model.specs.Runs.{IsOwed, owed}
use Rattle.hc_model.specs.Tables.{tables}
use Rattle.hc_model.specs.WithinLimits.{StartsHaveTargets}
use Rattle.hc_peers.specs.Clients.{client_of}
use Rattle.hc_peers.specs.Peers.{is_same}
use Rattle.hc_peers.specs.Upstreams.{upstream_of, is_news, is_touched, Becomes, Marks}
use Rattle.hc_peers.specs.declared.client.Client as peer
use Rattle.hc_peers.specs.declared.upstream.Upstream as origin
use Rattle.hc_rules.specs.declared.room.Limits.{Limits}
use Rattle.hc_sched.specs.Laws.{AreTimed}
use Rattle.hc_store.specs.declared.backend.Backend.{Ghosts}
use Rattle.hc_wire.specs.Events.{Stage, Unseen, Open, IsOpen, IsOfOpen, stages_after, got_bytes}
use Rattle.hc_wire.specs.declared.event.WireEvent.{WireEvent}
use Rattle.hc_wire.specs.Logs.{Called}
use Rattle.hc_proxy.specs.declared.proxy.Proxy as loop
use Rattle.hc_proxy.specs.Carrying.{acts_in}
use Rattle.hc_proxy.specs.Connections.{exchange_of, connection_of, taken_at}
use Rattle.hc_proxy.specs.Handling.{clients_here}
use Rattle.hc_proxy.specs.Headed.{AreHeaded}
use Rattle.hc_proxy.specs.Invariants.{is_quiet, HasConsumers, is_due, NamesOne, OpensUp, AreServed, AreOver, AreShut, ArePlain, AreClosed, IsHeardOut, IsOfRequests, unread, last_event}
use Rattle.hc_proxy.specs.Records.{text_of, last_of}
use Rattle.hc_proxy.specs.Rows.{Client, Upstream, Proxy, Setting}
use Rattle.hc_proxy.specs.Steps.{with_entry}
use Rattle.hc_proxy.specs.Turns.{events_of, record_of}
use Rattle.hc_proxy.specs.Waiting.{pends, is_waiting}

-- What stays as it is within a turn: the limits of the store, what the loop began with, the record that was written, and how
-- many bytes came at most;
-- the call that began it, the connections that were dialled before, and how each connection stands behind the call.
pub record Frame : Type 0 where
  pub limits : Limits
  pub setting : Setting
  pub written : List ℕ
  pub bytes : ℕ

pub record Turn : Type 0 where
  pub frame : Frame
  pub call : Called
  pub dialled : List (Option ℕ)
  pub stages : ℕ → Stage

-- THE NEXT CLIENT of those whose next request is to be read

-- there was one more, and it isn't among them any more
abbrev pub IsNext : Bool → List ℕ → List ℕ → Type 0
IsNext true old new = (k : ℕ) × (old ≡ k ∷ new)
IsNext false old new = old ≡ []

abbrev pub first_ready : List ℕ → List ℕ
first_ready [] = []
first_ready (k ∷ ks) = k ∷ []

-- THE CACHE

-- who starts has no number that wasn't given out
abbrev pub IsNumbered : ℕ → Event → Type 0
IsNumbered starts (event.Start c request) = c ≤ starts
IsNumbered starts _ = Unit {0}

module _ {B : Type 0} {g : Ghosts B} where
  pub record HasCache (f : Frame) (x : loop.Proxy B g) (p : Proxy) : Type 0 where
    pub setting : p.setting ≡ f.setting
    pub stands : StandsFor x.cache p.setting.contents p.history
    pub same : p.tables ≡ tables p.setting.contents p.history
    pub limits : limits_in x.cache ≡ f.limits
    pub front : x.front ≡ p.setting.front
    pub now : x.now ≡ p.moment
    pub early : p.moment < 2 ^ 62
    pub last : last_moment x.cache ≤ p.moment
    pub starts : x.starts ≡ p.starts
    pub last_start : p.tables.last_start ≤ p.starts
    pub text : record_of p ≡ f.written ++ text_of x.record
    pub recorded : last_of x.record ≡ last_event p.setting.contents.now p.history
    pub before : last_event p.setting.contents.now p.history ≤ p.moment
    pub unopened : (y : ℕ) → p.tables.opened < y → p.upstream y ≡ None
    pub headed : AreHeaded p
    pub small : unread p + bytes_received x.cache ≤ f.bytes
    pub bounded : f.bytes ≤ 2 ^ 60
    pub room : p.setting.contents.last_consumer < 2 ^ 61
    pub targets : StartsHaveTargets p.history
    pub timed : AreTimed p.setting.contents.now (events_of p)

  -- the acts are those of the turn
  abbrev pub HasActs : loop.Proxy B g → Proxy → Type 0
  HasActs x p = act_list x.acts ≡ acts_in p.part

  -- how many consumers and exchanges there are at most: a step brings one more of each
  abbrev pub most_starts : loop.Proxy B g → Proxy → ℕ
  most_starts x p = p.setting.contents.last_consumer + steps x.cache

  abbrev pub most_opened : loop.Proxy B g → Proxy → ℕ
  most_opened x p = p.setting.contents.next_exchange + steps x.cache

  -- something happened beside polls whose consumers wait
  abbrev pub HasMoved : loop.Proxy B g → Proxy → Type 0
  HasMoved x p = x.moved ≡ not (list_all is_waiting p.part)

-- The cache began with these contents, whose last consumer has this number, and nothing happened yet.
pub record IsStocked {B : Type 0} {g : Ghosts B} (contents : Contents) (cache : Cache B g) (last : ℕ) : Type 0 where
  pub stands : StandsFor cache contents []
  pub last_is : last ≡ contents.last_consumer

-- so it is for some contents
abbrev pub IsStockedSome : {B : Type 0} {g : Ghosts B} → Cache B g → ℕ → Type 0
IsStockedSome cache last = (contents : Contents) × IsStocked contents cache last

-- nothing happened yet, and nothing is counted
pub record IsUnused {B : Type 0} {g : Ghosts B} (f : Frame) (cache : Cache B g) : Type 0 where
  pub stands : StandsFor cache f.setting.contents []
  pub room : f.setting.contents.last_consumer < 2 ^ 61
  pub limits : limits_in cache ≡ f.limits
  pub received : bytes_received cache ≡ 0
  pub written : f.written ≡ []
  pub bounded : f.bytes ≤ 2 ^ 60

-- CLIENTS

-- a client, which has taken so many bytes
pub record IsClient (taken : ℕ) (c : peer.Client) (r : Client) : Type 0 where
  pub here : r.gone ≡ false
  pub reading : c.reader ≡ r.reading
  pub input : c.input ≡ r.input
  pub consumer : c.consumer ≡ r.consumer
  pub reply : c.reply ≡ r.reply
  pub closing : c.closing ≡ r.closing
  pub within : taken ≤ length r.owed
  pub unsent : c.unsent ≡ drop taken r.owed
  pub asking : IsOfRequests r.reading

-- one that is gone isn't kept
abbrev pub IsClientAt : ℕ → Option peer.Client → Option Client → Type 0
IsClientAt taken None None = Unit {0}
IsClientAt taken None (Some r) = r.gone ≡ true
IsClientAt taken (Some c) None = ⊥
IsClientAt taken (Some c) (Some r) = IsClient taken c r

-- CONNECTIONS TO THE ORIGIN

-- one, which has taken so many bytes
pub record IsUpstream (taken : ℕ) (u : origin.Upstream) (v : Upstream) : Type 0 where
  pub reading : u.reader ≡ v.reading
  pub input : u.input ≡ v.input
  pub ended : u.ended ≡ v.ended
  pub within : taken ≤ length v.owed
  pub unsent : u.unsent ≡ drop taken v.owed

abbrev pub IsUpstreamAt : (ℕ → ℕ) → Option origin.Upstream → Option Upstream → Type 0
IsUpstreamAt taken (Some u) (Some v) = IsUpstream (taken u.k) u v
IsUpstreamAt taken _ _ = ⊥

-- Just the open exchanges that were dialled have connections, but for those that the acts still close. In no list stands only for
-- what nothing is done, but for what the acts ask for. The acts open what comes next.
pub record HasUpstreams {B : Type 0} {g : Ghosts B} (t : Turn) (x : loop.Proxy B g) (p : Proxy) (acts : List Act) : Type 0 where
  pub rows : (y : ℕ) → is_open (p.tables.exchange y) ≡ true → y ≤ length t.dialled →
      IsUpstreamAt (taken_at t.call) (upstream_of x.upstreams y) (p.upstream y)
  pub numbers : (y : ℕ) (u : origin.Upstream) → upstream_of x.upstreams y ≡ Some u →
      connection_of t.dialled y ≡ Some u.k
  pub over : (y : ℕ) → IsSome (upstream_of x.upstreams y) →
      (is_open (p.tables.exchange y) ≡ true) ⊎ (closes_in y acts ≡ true)
  pub news : (y : ℕ) → is_open (p.tables.exchange y) ≡ true → is_news x.upstreams y ≡ false →
      asks_in y acts ≡ false → is_due p y ≡ false
  pub touched : (y : ℕ) (u : origin.Upstream) → upstream_of x.upstreams y ≡ Some u →
      is_open (p.tables.exchange y) ≡ true → is_touched x.upstreams y ≡ false → asks_in y acts ≡ false →
      (u.unsent ≡ []) × (is_same u.reading (is_wanted (p.tables.exchange y)) ≡ true)
  pub opens : OpensUp (length t.dialled) acts p.tables.opened
  pub names : NamesOne t.dialled
  pub strangers : (k : ℕ) → IsSome (p.client k) → exchange_of t.dialled k ≡ None

-- the same, but that nothing is said of z beside what it has
pub record HasUpstreamsBut {B : Type 0} {g : Ghosts B} (z : ℕ) (t : Turn) (x : loop.Proxy B g) (p : Proxy) (acts : List Act) : Type 0 where
  pub rows : (y : ℕ) → is_open (p.tables.exchange y) ≡ true → y ≤ length t.dialled →
      IsUpstreamAt (taken_at t.call) (upstream_of x.upstreams y) (p.upstream y)
  pub numbers : (y : ℕ) (u : origin.Upstream) → upstream_of x.upstreams y ≡ Some u →
      connection_of t.dialled y ≡ Some u.k
  pub over : (y : ℕ) → nat_eq y z ≡ false → IsSome (upstream_of x.upstreams y) →
      (is_open (p.tables.exchange y) ≡ true) ⊎ (closes_in y acts ≡ true)
  pub news : (y : ℕ) → nat_eq y z ≡ false → is_open (p.tables.exchange y) ≡ true → is_news x.upstreams y ≡ false →
      asks_in y acts ≡ false → is_due p y ≡ false
  pub touched : (y : ℕ) (u : origin.Upstream) → nat_eq y z ≡ false → upstream_of x.upstreams y ≡ Some u →
      is_open (p.tables.exchange y) ≡ true → is_touched x.upstreams y ≡ false → asks_in y acts ≡ false →
      (u.unsent ≡ []) × (is_same u.reading (is_wanted (p.tables.exchange y)) ≡ true)
  pub opens : OpensUp (length t.dialled) acts p.tables.opened
  pub names : NamesOne t.dialled
  pub strangers : (k : ℕ) → IsSome (p.client k) → exchange_of t.dialled k ≡ None

-- whose connection it is, the wire has handed out
abbrev pub AreSeen : Turn → Proxy → Type 0
AreSeen t p =
    (k : ℕ) → t.stages k ≡ Unseen → (p.client k ≡ None) × (exchange_of t.dialled k ≡ None)
    × (Contains p.accepted k → ⊥)

-- THE WIRE

abbrev pub closed_by : Option origin.Upstream → List ℕ
closed_by None = []
closed_by (Some u) = u.k ∷ []

module _ {B : Type 0} {g : Ghosts B} where
  pub record AtWire (stages : ℕ → Stage) (x : loop.Proxy B g) : Type 0 where
    pub clients : (k : ℕ) (c : peer.Client) → client_of x.clients k ≡ Some c →
        (ended : Bool) × (stages k ≡ Open c.reading ended)
    pub upstreams : (y : ℕ) (u : origin.Upstream) → upstream_of x.upstreams y ≡ Some u →
        (ended : Bool) × (stages u.k ≡ Open u.reading ended)
    pub all : (k : ℕ) → IsOpen (stages k) → IsSome (client_of x.clients k)
        ⊎ ((y : ℕ) × (u : origin.Upstream) × (upstream_of x.upstreams y ≡ Some u) × (u.k ≡ k))
        ⊎ Contains x.closed.items k
    pub closed : (k : ℕ) → Contains x.closed.items k → (client_of x.clients k ≡ None)
        × ((y : ℕ) (u : origin.Upstream) → upstream_of x.upstreams y ≡ Some u → u.k ≢ k)

  -- what is to be closed was handed out
  abbrev pub AreKnown : Turn → loop.Proxy B g → Type 0
  AreKnown t x = (k : ℕ) → Contains x.closed.items k → t.stages k ≢ Unseen

  -- ALL OF IT

  pub record HasClients (t : Turn) (x : loop.Proxy B g) (p : Proxy) : Type 0 where
    pub rows : (k : ℕ) → IsClientAt (taken_at t.call k) (client_of x.clients k) (p.client k)
    pub order : IsStrictlySortedBy nat_cmp p.accepted
    pub listed : (k : ℕ) → IsSome (p.client k) → Contains p.accepted k
    pub few : length (clients_here p) ≤ 512

  pub record Keeps (t : Turn) (x : loop.Proxy B g) (p : Proxy) : Type 0 where
    pub cache : HasCache t.frame x p
    pub acts : HasActs x p
    pub clients : HasClients t x p
    pub consumers : HasConsumers p
    pub upstreams : HasUpstreams t x p (acts_in p.part)
    pub wire : AtWire t.stages x
    pub numbers : p.starts ≤ most_starts x p
    pub opened : p.tables.opened ≤ most_opened x p
    pub seen : AreSeen t p
    pub shut : AreClosed (acts_in p.part) p.tables
    pub known : AreKnown t x

  -- before the polls
  pub record KeepsQuiet (t : Turn) (x : loop.Proxy B g) (p : Proxy) : Type 0 where
    pub keeps : Keeps t x p
    pub moved : HasMoved x p
    pub quiet : list_all is_quiet (acts_in p.part) ≡ true

  -- and while something is done for the exchange z
  pub record KeepsBut (z : ℕ) (t : Turn) (x : loop.Proxy B g) (p : Proxy) : Type 0 where
    pub cache : HasCache t.frame x p
    pub acts : HasActs x p
    pub clients : HasClients t x p
    pub consumers : HasConsumers p
    pub upstreams : HasUpstreamsBut z t x p (acts_in p.part)
    pub wire : AtWire t.stages x
    pub numbers : p.starts ≤ most_starts x p
    pub opened : p.tables.opened ≤ most_opened x p
    pub seen : AreSeen t p
    pub shut : AreClosed (acts_in p.part) p.tables
    pub known : AreKnown t x
    pub moved : HasMoved x p
    pub quiet : list_all is_quiet (acts_in p.part) ≡ true

  -- and behind the step *network*
  pub record KeepsHeard (t : Turn) (x : loop.Proxy B g) (p : Proxy) : Type 0 where
    pub quiet : KeepsQuiet t x p
    pub heard : IsHeardOut p

  -- behind the polls
  pub record KeepsPolled (t : Turn) (x : loop.Proxy B g) (p : Proxy) : Type 0 where
    pub keeps : Keeps t x p
    pub moved : HasMoved x p
    pub heard : IsHeardOut p
    pub served : AreServed t.call p (acts_in p.part)
    pub over : AreOver (acts_in p.part) p
    pub shut : AreShut (acts_in p.part) p.tables
    pub plain : ArePlain (acts_in p.part) p.tables
    pub undialled : (y : ℕ) → length t.dialled < y → p.upstream y ≡ None
    pub known : AreKnown t x

  -- A TURN BEGINS

  -- The event of the call is to be handled. Before it came each connection stood so.
  pub record Begun (t : Turn) (x : loop.Proxy B g) (p : Proxy) (event : WireEvent) (slice : List ℕ) : Type 0 where
    pub event_is : t.call.event ≡ event
    pub bytes : t.call.bytes ≡ got_bytes event slice
    pub before : ℕ → Stage
    pub of_open : IsOfOpen event before
    pub stages : (k : ℕ) → t.stages k ≡ stages_after event before k
    pub keeps : Keeps (record t { stages = before }) x p
    pub moved : x.moved ≡ false
    pub closed : x.closed.items ≡ []
    pub part : p.part ≡ []
    pub room : unread p + bytes_received x.cache + length t.call.bytes ≤ t.frame.bytes
    pub untaken : (k : ℕ) → before k ≡ Unseen → taken_at t.call k ≡ 0

  -- An event of the open connection k came, for which nothing was done yet.
  pub record AtEvent (t : Turn) (x : loop.Proxy B g) (p : Proxy) (k : ℕ) : Type 0 where
    pub quiet : KeepsQuiet t x p
    pub part : p.part ≡ []
    pub closed : x.closed.items ≡ []
    pub opens : IsOpen (t.stages k)
    pub room : unread p + bytes_received x.cache + length t.call.bytes ≤ t.frame.bytes

  -- SOME TABLES

  abbrev pub StandsForSome : loop.Proxy B g → Type 0
  StandsForSome x = (f : Frame) × (p : Proxy) × HasCache f x p

  abbrev pub IsBegun : loop.Proxy B g → WireEvent → List ℕ → Type 0
  IsBegun x event slice = (t : Turn) × (p : Proxy) × Begun t x p event slice

  abbrev pub IsAtEvent : loop.Proxy B g → ℕ → Type 0
  IsAtEvent x k = (t : Turn) × (p : Proxy) × AtEvent t x p k

  abbrev pub IsQuiet : loop.Proxy B g → Type 0
  IsQuiet x = (t : Turn) × (p : Proxy) × KeepsQuiet t x p

  abbrev pub IsHeard : loop.Proxy B g → Type 0
  IsHeard x = (t : Turn) × (p : Proxy) × KeepsHeard t x p

  abbrev pub IsPolled : loop.Proxy B g → Type 0
  IsPolled x = (t : Turn) × (p : Proxy) × KeepsPolled t x p

  -- A CONNECTION IS HUNG UP

  pub record HangsUp (y : ℕ) (x x' : loop.Proxy B g) : Type 0 where
    pub gone : Becomes y None x.upstreams x'.upstreams
    pub news : Marks (is_news x.upstreams) (is_news x'.upstreams) y false
    pub touched : Marks (is_touched x.upstreams) (is_touched x'.upstreams) y false
    pub closed : x'.closed.items ≡ x.closed.items ++ closed_by (upstream_of x.upstreams y)
    pub cache : x'.cache ≡ x.cache
    pub text : x'.record ≡ x.record
    pub acts : x'.acts ≡ x.acts
    pub now : x'.now ≡ x.now
    pub starts : x'.starts ≡ x.starts
    pub front : x'.front ≡ x.front
    pub moved : x'.moved ≡ x.moved
    pub clients : x'.clients ≡ x.clients
    pub round : x'.round ≡ x.round

  -- A STEP

  -- Tables behind a step, from before which so many failures of the store were counted. They are those of the definitions where no
  -- more were counted.
  pub record Goes (K : loop.Proxy B g → Proxy → Type 0) (before : ℕ) (x : loop.Proxy B g) (owed_by : Proxy) : Type 0 where
    pub q : Proxy
    pub keeps : K x q
    pub later : before ≤ faults_in x.cache
    pub same : faults_in x.cache ≡ before → q ≡ owed_by

  -- The cache answered an event at the moment of the turn, by an entry that is owed.
  pub record Stepped (f : Frame) (x x' : loop.Proxy B g) (event : Event) (p : Proxy) : Type 0 where
    pub e : Entry
    pub now : e.now ≡ p.moment
    pub event_is : e.event ≡ event
    pub is_owed : IsOwed f.limits p.tables e
    pub acts : act_list x'.acts ≡ act_list x.acts ++ e.acts
    pub cache : HasCache f x' (with_entry e p)
    pub later : faults_in x.cache ≤ faults_in x'.cache
    pub same : faults_in x'.cache ≡ faults_in x.cache → e ≡ owed f.limits p.tables p.moment event

  -- The cache answered a poll of c, and something happened unless c waits.
  pub record PolledBy (f : Frame) (x x' : loop.Proxy B g) (c : ℕ) (p : Proxy) : Type 0 where
    pub stepped : Stepped f x x' (event.Poll c 16384) p
    pub moved : x'.moved ≡ (x.moved || not (pends stepped.e.acts))

  -- all but what the cache and its acts are
  pub record RestStays (x x' : loop.Proxy B g) : Type 0 where
    pub now : x'.now ≡ x.now
    pub starts : x'.starts ≡ x.starts
    pub front : x'.front ≡ x.front
    pub clients : x'.clients ≡ x.clients
    pub upstreams : x'.upstreams ≡ x.upstreams
    pub closed : x'.closed ≡ x.closed
    pub round : x'.round ≡ x.round
