-- Before the first turn nothing was handed out and nothing happened: so the loop rests at its unused tables.
--
-- The tables of the history without entry have no exchange and no consumer, whatever the store began with. The tables of
-- the code are empty too, and so is the log. Most fields speak of a row that is there, of which there is none. The
-- numbers go on behind those of the contents, and so do the moments.
-- `rests_first` joins the cache, the connections and the wire.
use Rattle.std.{proofs.Common.{◌≡◌, ◌<◌, ◌^◌, ℕ, ◌+◌, ◌-◌, List, [], ◌++◌, length, true, false, Some, None, refl, ap, sym, ◌∙◌, subst, arith}, specs.Prelude.{IsSome, Contains}}
use Rattle.hc_text.proofs.Basics.{false_true, none_some}
use Rattle.hc_core.specs.{declared.cache.Cache.{Cache}, Steps.{last_moment, limits_in, bytes_received}}
use Rattle.hc_effects.proofs.Vocabulary.{act_list, is_live, is_open, tables}
use Rattle.hc_peers.specs.{Clients.{client_of}, Upstreams.{upstream_of}}
use Rattle.hc_peers.specs.declared.client.Client as peer
use Rattle.hc_peers.specs.declared.upstream.Upstream as origin
use Rattle.hc_store.specs.declared.backend.Backend.{Ghosts}
use Rattle.hc_wire.specs.{Events.{Stage, IsOpen}, Logs.{Log, Called, Taker, stage_in}}
use Rattle.hc_proxy.specs.declared.proxy.Proxy as loop
use Rattle.hc_proxy.specs.{Connections.{dials_from, dials_in, exchange_of}, Endings.{IsFresh}, Invariants.{HasConsumers, NamesOne, unread}, Keeping.{Frame, HasCache, HasUpstreams, AtWire, IsUnused}, Records.{text_of, last_of}, Resting.{IsRestingAt, Rests, resting_call}, Rows.{Proxy, unused, Setting}}
use Rattle.hc_proxy.proofs.{Inserted.{ascends_sorted}, MoreConnections.{dials_length, nobodys_first, none_dialled}, Stands.{early_moment}}

none_in : {A : Type 0} (k : ℕ) → Contains [] k → A
none_in k (n, within, is) = absurd (omega arith)

-- nothing is open, and nobody is live

module _ (c : Setting) where
  none_open : {A : Type 0} (y : ℕ) → is_open ((unused c).tables.exchange y) ≡ true → A
  unfolding tables
  none_open y on = false_true on

  none_live : {A : Type 0} (d : ℕ) → is_live ((unused c).tables.consumer d) ≡ true → A
  unfolding tables
  none_live d on = false_true on

  opened_first : (unused c).tables.opened ≡ c.contents.next_exchange - 1
  unfolding tables
  opened_first = refl

  last_first : (unused c).tables.last_start ≡ c.contents.last_consumer
  unfolding tables
  last_first = refl

  none_unread : unread (unused c) ≡ 0
  unfolding tables
  none_unread = refl

  moment_first : (tables c.contents []).moment ≡ c.contents.now
  unfolding tables
  moment_first = refl

  -- there is one place for each exchange before
  places_first : (dialled : List ℕ) → dialled ≡ [] → length (dials_from c dialled) ≡ (unused c).tables.opened
  places_first dialled none =
      ap (λ (ks : List ℕ). length (dials_from c ks)) none
      ∙ (dials_length c [] ∙ (let sum : (c.contents.next_exchange - 1) + 0 ≡ c.contents.next_exchange - 1 = omega arith in sum ∙ sym opened_first))

  no_consumers : HasConsumers (unused c)
  no_consumers = record {
    held = λ k d w. none_some w.row w.at;
    started = λ k d w. none_some w.row w.at;
    live = λ d on. none_live d on;
    alive = λ k d w. none_some w.row w.at;
    idle = λ k r at. none_some r at;
  }

-- the moment of the cache is theirs
pub moment_is : {B : Type 0} {g : Ghosts B} (f : Frame) (cache : Cache B g) → IsUnused f cache → last_moment cache ≡ f.setting.contents.now
moment_is f cache u = u.stands.moment ∙ moment_first f.setting

module _ {B : Type 0} {g : Ghosts B} (f : Frame) (x : loop.Proxy B g) (log : Log) (u : IsUnused f x.cache) (fresh : IsFresh log)
    (now : x.now ≡ f.setting.contents.now) (starts : x.starts ≡ f.setting.contents.last_consumer) (front : x.front ≡ f.setting.front)
    (moved : x.moved ≡ false) (text : text_of x.record ≡ [])
    (last : last_of x.record ≡ f.setting.contents.now)
    (acts : act_list x.acts ≡ [])
    (clients : (k : ℕ) → client_of x.clients k ≡ None) (upstreams : (y : ℕ) → upstream_of x.upstreams y ≡ None) (closed : x.closed.items ≡ []) where
  no_row : {A : Type 0} (y : ℕ) (v : origin.Upstream) → upstream_of x.upstreams y ≡ Some v → A
  no_row y v is = none_some v (sym (upstreams y) ∙ is)

  no_client : {A : Type 0} (k : ℕ) (c : peer.Client) → client_of x.clients k ≡ Some c → A
  no_client k c is = none_some c (sym (clients k) ∙ is)

  some_row : {A : Type 0} (y : ℕ) → IsSome (upstream_of x.upstreams y) → A
  some_row y some = false_true (subst IsSome (upstreams y) some)

  abbrev p : Proxy
  p = unused f.setting

  early : f.setting.contents.now < 2 ^ 62
  early = early_moment (limits_in x.cache) f.setting u.stands.begins

  first_cache : HasCache f x p
  first_cache = record {
    setting = refl;
    stands = u.stands;
    same = refl;
    limits = u.limits;
    now = now;
    early = early;
    last = (let a : last_moment x.cache ≡ (tables f.setting.contents []).moment = u.stands.moment in
        let b : (tables f.setting.contents []).moment ≡ f.setting.contents.now = moment_first f.setting in omega arith);
    starts = starts;
    front = front;
    last_start = (let a : p.tables.last_start ≡ f.setting.contents.last_consumer = last_first f.setting in omega arith);
    text = sym (ap (λ (z : List ℕ). z ++ text_of x.record) u.written ∙ text);
    recorded = last;
    before = omega arith;
    unopened = λ y past. refl;
    headed = λ y v on at. none_some v at;
    small = (let a : unread p ≡ 0 = none_unread f.setting in let b : bytes_received x.cache ≡ 0 = u.received in omega arith);
    bounded = u.bounded;
    room = u.room;
    targets = tt;
    timed = tt;
  }

  first_upstreams : (call : Called) (stages : ℕ → Stage) →
      HasUpstreams (record { frame = f; call = resting_call log call; dialled = dials_in p log; stages = stages }) x p []
  first_upstreams call stages = record {
    rows = λ y on. none_open f.setting y on;
    numbers = λ y v is. no_row y v is;
    over = λ y some. some_row y some;
    news = λ y on. none_open f.setting y on;
    touched = λ y v is. no_row y v is;
    opens = places_first f.setting log.dialled fresh.dialled;
    names = subst (λ (ks : List ℕ). NamesOne (dials_from f.setting ks)) (sym fresh.dialled) (λ y k is. absurd (none_dialled f.setting y k is));
    strangers = λ k some. false_true some;
  }

  first_wire : AtWire (stage_in log.takers) x
  first_wire = record {
    clients = λ k c is. no_client k c is;
    upstreams = λ y v is. no_row y v is;
    all = λ k opens. absurd (subst (λ (takers : List Taker). IsOpen (stage_in takers k)) fresh.takers opens);
    closed = λ k there. none_in k (subst (λ (ks : List ℕ). Contains ks k) closed there);
  }

  pub rests_first : Rests f x p log
  rests_first = record {
    cache = first_cache;
    acts = acts;
    moved = moved;
    clients = λ k. subst (λ o. IsRestingAt log k o None) (sym (clients k)) tt;
    order = ascends_sorted 0 [] tt;
    listed = λ k some. false_true some;
    few = omega arith;
    consumers = no_consumers f.setting;
    alive = λ k c w. none_some w.row w.at;
    upstreams = first_upstreams;
    resting = λ y v is. no_row y v is;
    opened = places_first f.setting log.dialled fresh.dialled;
    heard = λ y v on. none_open f.setting y on;
    wire = first_wire;
    closed = closed;
    numbers = omega arith;
    opened_by = (let a : p.tables.opened ≡ f.setting.contents.next_exchange - 1 = opened_first f.setting in omega arith);
    seen = λ k unseen. (refl, ap (λ (ks : List ℕ). exchange_of (dials_from f.setting ks) k) fresh.dialled ∙ nobodys_first f.setting k, none_in k);
  }
