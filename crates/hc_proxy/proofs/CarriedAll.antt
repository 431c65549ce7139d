-- All acts of a turn are carried out, one behind another, and the connections that are over are closed.
--
-- What was carried out so far leads to tables behind which the acts that are left lead to the same. Where something
-- fails, as many connections were dialled as exchanges were opened at most. Behind the last act, each exchange has its
-- connection. Those that are closed then are of nobody who is kept, so closing them changes nothing of what is kept.
use Rattle.std.{proofs.{Common.{◌≡◌, ◌⊎◌, inl, inr, ℕ, List, [], ◌∷◌, ◌++◌, Bool, true, false, Option, Some, None, refl, ap, sym, ◌∙◌, subst, arith, length, append_assoc}, lemmas.{List.{append-nil, map-append, Elements.{Contains-append_cases}}, Map.Views.{Contains-from_any, list_any-from_Contains}}, Math.Logic.{∥∥₁_map}}, specs.{Prelude.{nat_eq, map, Contains, if◌then◌else◌}, List.{list_any}, Cmp.{nat_eq_equiv}}}
use Rattle.hc_text.proofs.Basics.{eq_reports as same_of}
use Rattle.hc_effects.proofs.Vocabulary.{act_list, Act, Tables}
use Rattle.hc_store.specs.declared.backend.Backend.{Ghosts}
use Rattle.hc_wire.specs.{Events.{Stage, Unseen, Open, Closed, IsOpen, closed_of}, Logs.{Log, stage_in, sent_in}}
use Rattle.hc_proxy.specs.declared.proxy.Proxy as loop
use Rattle.hc_proxy.specs.{Carrying.{acts_in, carried_out, carried}, Keeping.{Turn, AtWire, KeepsPolled}, Connections.{dials_from, taken_at}, Logging.{Dials}, Resting.{KeepsCarried}, Rows.{Proxy}, TurnSteps.{CarriedOut, CarriedSome}, Underway.{Closes, KeepsUnderway, OnWire, GoesOn, IsNext, IsPolledOn, IsUnderway, dialling}}
use mathlib.Core.Path.{fun_ext}
use Rattle.hc_proxy.proofs.Sendings as sent
use Rattle.hc_proxy.proofs.{Holders.{HeldBy, held_of}, CarriedOut.{same_tables, all_live, rests_of}, Closings.{dials_none}}

-- DIALS ONE BEHIND ANOTHER

pub dials_both : (one two : List ℕ) (a b c : Log) → Dials one a b → Dials two b c → Dials (one ++ two) a c
dials_both one two a b c first second = record {
  calls = second.calls ∙ first.calls;
  bound = second.bound ∙ first.bound;
  dialled = second.dialled ∙ (ap (λ (ks : List ℕ). ks ++ two) first.dialled ∙ append_assoc a.dialled one two);
  sent = λ k. second.sent k ∙ first.sent k;
  new = λ k among. elim (Contains-append_cases one two k among) as (λ _. stage_in a.takers k ≡ Unseen) [
    | inl early ↦ first.new k early
    | inr late ↦ first.unseen k (second.new k late)
  ];
  unseen = λ k is. first.unseen k (second.unseen k is);
}

joined : (before : List (Option ℕ)) (one two : List ℕ) → (before ++ map Some one) ++ map Some two ≡ before ++ map Some (one ++ two)
joined before one two = append_assoc before (map Some one) (map Some two) ∙ ap (λ (os : List (Option ℕ)). before ++ os) (sym (map-append Some one two))

module _ {B : Type 0} {g : Ghosts B} (t : Turn) (p : Proxy) (log : Log) where
  -- ONE MORE

  module _ (a : Act) (acts : List Act) (x x' : loop.Proxy B g) (reported reported' : Option Log) (before after : ℕ → Stage)
      (u : IsUnderway t p log (a ∷ acts) x reported before) where
    pub goes_underway : GoesOn (dialling u.more before t) a acts u.p' u.log' x' reported' after → IsUnderway t p log acts x' reported' after
    goes_underway go =
        let turns : dialling go.more after (dialling u.more before t) ≡ dialling (u.more ++ go.more) after t =
        ap (λ (ks : List (Option ℕ)). let r : Turn = record t { dialled = ks; stages = after } in r) (joined t.dialled u.more go.more) in
        record {
          log' = go.log';
          more = u.more ++ go.more;
          p' = carried_out a u.p';
          dials = dials_both u.more go.more log u.log' go.log' u.dials go.dials;
          on_wire = subst (λ (r : Turn). OnWire r go.log' reported' after) turns go.on_wire;
          keeps = subst (λ (r : Turn). KeepsUnderway r acts x' (carried_out a u.p')) turns go.keeps;
          same = u.same;
          tables = same_tables a u.p' ∙ u.tables;
        }

    pub fails_underway : CarriedSome (dialling u.more before t) u.p' u.log' reported' after → CarriedSome t p log reported' after
    fails_underway s = record {
      log' = s.log';
      more = u.more ++ s.more;
      follows = s.follows;
      dials = dials_both u.more s.more log u.log' s.log' u.dials s.dials;
      opened =
          let same = ap length (joined t.dialled u.more s.more) in
          let opened_same = ap (λ (r : Tables). r.opened) u.tables in
          let le = s.opened in omega arith;
    }

  -- ALL, AND THE CLOSING

  module _ (x y : loop.Proxy B g) (reported reported' : Option Log) (before after : ℕ → Stage) (u : IsUnderway t p log [] x reported before)
      (empty : act_list y.acts ≡ []) (shut : y.closed.items ≡ []) (c : Closes x.closed.items u.log' reported' before after) where
    abbrev x' : loop.Proxy B g
    x' = record x { acts = y.acts; closed = y.closed }

    abbrev r : Turn
    r = dialling u.more after t

    held : HeldBy [] u.p'
    held = record {
      held = u.keeps.holders.held;
      started = u.keeps.holders.started;
      live = u.keeps.holders.live;
      alive = u.keeps.holders.alive;
      idle =
          u.keeps.holders.idle;
    }

    -- who is kept isn't closed
    stays_open : (j : ℕ) (reads ended : Bool) → (Contains x.closed.items j → ⊥) → before j ≡ Open reads ended → after j ≡ Open reads ended
    stays_open j reads ended apart is = c.stands j ∙ by_test (list_any (nat_eq j) x.closed.items) refl
      where
        by_test : (b : Bool) → list_any (nat_eq j) x.closed.items ≡ b → (if b then closed_of (before j) else before j) ≡ Open reads ended
        by_test false off = is
        by_test true on = absurd (apart (Contains-from_any same_of j x.closed.items on))

    not_open : (s : Stage) → IsOpen (closed_of s) → ⊥
    not_open Unseen is = is
    not_open (Open reads ended) is = is
    not_open Closed is = is

    was_open : (j : ℕ) → IsOpen (after j) → IsOpen (before j) × (Contains x.closed.items j → ⊥)
    was_open j is = by_test (list_any (nat_eq j) x.closed.items) refl (subst IsOpen (c.stands j) is)
      where
        by_test : (b : Bool) → list_any (nat_eq j) x.closed.items ≡ b → IsOpen (if b then closed_of (before j) else before j) → IsOpen (before j) ×
            (Contains x.closed.items j → ⊥)
        by_test true on opens = absurd (not_open (before j) opens)
        by_test false off opens = (opens, λ among. let never : true ≡ false = sym (list_any-from_Contains nat_eq_equiv j x.closed.items among) ∙ off in cc)

    none_some : {A C : Type 0} (v : A) → None ≡ Some v → C
    none_some v is = absurd (let never : None ≡ Some v = is in cc)

    wire : AtWire after x'
    wire = record {
      clients = λ k v at. let was = u.keeps.wire.clients k v at in
          (was.0, stays_open k v.reading was.0 (λ among. none_some v (sym (u.keeps.wire.closed k among).0 ∙ at)) was.1);
      upstreams = λ z v at. let was = u.keeps.wire.upstreams z v at in
          (was.0, stays_open v.k v.reading was.0 (λ among. (u.keeps.wire.closed v.k among).1 z v at refl) was.1);
      all = λ k opens. elim (u.keeps.wire.all k (was_open k opens).0) [
        | inl there ↦ inl there
        | inr (inl there) ↦ inr (inl there)
        | inr (inr among) ↦ absurd ((was_open k opens).1 among)
      ];
      closed = λ k among. absurd (none_in k (subst (λ (ns : List ℕ). Contains ns k) shut among));
    }
      where
        none_in : (k : ℕ) → Contains [] k → ⊥
        none_in k (n, lt, at) = omega arith

    closed_seen : (s : Stage) → closed_of s ≡ Unseen → s ≡ Unseen
    closed_seen Unseen is = refl
    closed_seen (Open reads ended) is = absurd (let never : Closed ≡ Unseen = is in cc)
    closed_seen Closed is = absurd (let never : Closed ≡ Unseen = is in cc)

    unseen_before : (k : ℕ) → after k ≡ Unseen → before k ≡ Unseen
    unseen_before k is = by_test (list_any (nat_eq k) x.closed.items) (sym (c.stands k) ∙ is)
      where
        by_test : (b : Bool) → (if b then closed_of (before k) else before k) ≡ Unseen → before k ≡ Unseen
        by_test true h = closed_seen (before k) h
        by_test false h = h

    keeps : KeepsCarried r x' u.p'
    keeps = record {
      cache = record {
        setting = u.keeps.cache.setting;
        stands = u.keeps.cache.stands;
        same = u.keeps.cache.same;
        limits = u.keeps.cache.limits;
        now = u.keeps.cache.now;
        early = u.keeps.cache.early;
        last = u.keeps.cache.last;
        starts = u.keeps.cache.starts;
        front = u.keeps.cache.front;
        last_start = u.keeps.cache.last_start;
        text = u.keeps.cache.text;
        recorded = u.keeps.cache.recorded;
        before = u.keeps.cache.before;
        unopened = u.keeps.cache.unopened;
        headed = u.keeps.cache.headed;
        small = u.keeps.cache.small;
        bounded = u.keeps.cache.bounded;
        room = u.keeps.cache.room;
        targets = u.keeps.cache.targets;
        timed = u.keeps.cache.timed;
      };
      acts = empty;
      moved = u.keeps.moved;
      clients = record { rows = u.keeps.clients.rows; order = u.keeps.clients.order; listed = u.keeps.clients.listed; few = u.keeps.clients.few };
      consumers = rests_of u.p' held;
      alive = all_live u.p' held;
      upstreams = record {
        rows = u.keeps.upstreams.rows;
        numbers = u.keeps.upstreams.numbers;
        over = u.keeps.upstreams.over;
        news = u.keeps.upstreams.news;
        touched = u.keeps.upstreams.touched;
        opens = u.keeps.upstreams.opens;
        names = u.keeps.upstreams.names;
        strangers = u.keeps.upstreams.strangers;
      };
      heard = u.keeps.heard;
      wire = wire;
      closed = shut;
      numbers = u.keeps.numbers;
      opened = u.keeps.opened;
      seen = λ k is. u.keeps.seen k (sym (u.on_wire.stands k) ∙ unseen_before k is);
    }

    pub all_carried : CarriedOut t p log x' reported' after
    all_carried = record {
      log' = c.log';
      more = u.more ++ [];
      dials = dials_both u.more [] log u.log' c.log' u.dials c.dials;
      on_wire = record {
        follows = c.follows;
        stands = λ k. refl;
        dialled = ap (dials_from t.frame.setting) (c.dials.dialled ∙ append-nil u.log'.dialled)
            ∙ (u.on_wire.dialled ∙ sym (ap (λ (ks : List ℕ). t.dialled ++ map Some ks) (append-nil u.more)));
        taken = λ k. by_taken k (u.on_wire.taken k);
      };
      opened = λ le.
          let same = ap (λ (ks : List ℕ). length (t.dialled ++ map Some ks)) (append-nil u.more) in
          let tables = ap (λ (rows : Tables). rows.opened) u.tables in
          let all : length (t.dialled ++ map Some u.more) ≡ u.p'.tables.opened = u.keeps.upstreams.opens in omega arith;
      keeps = subst (λ (ks : List ℕ). KeepsCarried (record t { dialled = t.dialled ++ map Some ks; stages = after }) x' (carried p)) (sym (append-nil u.more))
          (subst (λ (q : Proxy). KeepsCarried r x' q) u.same keeps);
    }
      where
        still_closed : (k : ℕ) → before k ≡ Closed → (b : Bool) → (if b then closed_of (before k) else before k) ≡ Closed
        still_closed k is true = ap closed_of is
        still_closed k is false = is

        by_taken : (k : ℕ) → (before k ≡ Closed) ⊎ (taken_at t.call k ≡ length (sent_in u.log'.takers k)) →
            (after k ≡ Closed) ⊎ (taken_at t.call k ≡ length (sent_in c.log'.takers k))
        by_taken k (inl is) = inl (c.stands k ∙ still_closed k is (list_any (nat_eq k) x.closed.items))
        by_taken k (inr same) = inr (same ∙ ap length (sym (c.dials.sent k)))

-- the loop, of which the acts and the closed ones alone changed
pub all_carried_at : {B : Type 0} {g : Ghosts B} (t : Turn) (p : Proxy) (log : Log) (x y : loop.Proxy B g) (reported reported' : Option Log)
    (before after : ℕ → Stage)
    → (u : IsUnderway t p log [] x reported before) → record x { acts = y.acts; closed = y.closed } ≡ y → act_list y.acts ≡ [] → y.closed.items ≡ []
    → Closes x.closed.items u.log' reported' before after → CarriedOut t p log y reported' after
all_carried_at {B} {g} t p log x y reported reported' before after u same empty shut c =
    subst (λ (z : loop.Proxy B g). CarriedOut t p log z reported' after) same (all_carried t p log x y reported reported' before after u empty shut c)

-- BEFORE THE FIRST ACT

module _ {B : Type 0} {g : Ghosts B} (t : Turn) (p : Proxy) (log : Log) (reported : Option Log) (stages : ℕ → Stage) (x y : loop.Proxy B g) where
  -- before the first act
  begun_keeps : KeepsPolled t x p → KeepsUnderway t (acts_in p.part) (record x { acts = y.acts }) p
  begun_keeps k = record {
    cache = record {
      setting = k.keeps.cache.setting;
      stands = k.keeps.cache.stands;
      same = k.keeps.cache.same;
      limits = k.keeps.cache.limits;
      now = k.keeps.cache.now;
      early = k.keeps.cache.early;
      last = k.keeps.cache.last;
      starts = k.keeps.cache.starts;
      front = k.keeps.cache.front;
      last_start = k.keeps.cache.last_start;
      text = k.keeps.cache.text;
      recorded = k.keeps.cache.recorded;
      before = k.keeps.cache.before;
      unopened = k.keeps.cache.unopened;
      headed = k.keeps.cache.headed;
      small = k.keeps.cache.small;
      bounded = k.keeps.cache.bounded;
      room = k.keeps.cache.room;
      targets = k.keeps.cache.targets;
      timed = k.keeps.cache.timed;
    };
    moved = k.moved;
    clients = record { rows = k.keeps.clients.rows; order = k.keeps.clients.order; listed = k.keeps.clients.listed; few = k.keeps.clients.few };
    holders = let h = held_of p k.keeps.consumers in record { held = h.held; started = h.started; live = h.live; alive = h.alive; idle = h.idle };
    over = k.over;
    served = k.served;
    plain = k.plain;
    shut = k.shut;
    undialled = k.undialled;
    upstreams = record {
      rows = k.keeps.upstreams.rows;
      numbers = k.keeps.upstreams.numbers;
      over = k.keeps.upstreams.over;
      news = k.keeps.upstreams.news;
      touched = k.keeps.upstreams.touched;
      opens = k.keeps.upstreams.opens;
      names = k.keeps.upstreams.names;
      strangers = k.keeps.upstreams.strangers;
    };
    heard = k.heard;
    wire = record { clients = k.keeps.wire.clients; upstreams = k.keeps.wire.upstreams; all = k.keeps.wire.all; closed = k.keeps.wire.closed };
    known = k.known;
    numbers = k.keeps.numbers;
    opened = k.keeps.opened;
    seen = k.keeps.seen;
  }

  pub begins : (acts : List Act) → acts ≡ act_list x.acts → KeepsPolled t x p → OnWire t log reported stages →
      IsUnderway t p log acts (record x { acts = y.acts }) reported stages
  unfolding carried
  begins acts these k on =
      let turns : dialling [] stages t ≡ t =
      sent.both (λ (ks : List (Option ℕ)) (f : ℕ → Stage). let u : Turn = record t { dialled = ks; stages = f } in u) (append-nil t.dialled)
      (fun_ext on.stands) in
      let all : acts_in p.part ≡ acts = sym (these ∙ k.keeps.acts) in
      subst (λ (left : List Act). IsUnderway t p log left (record x { acts = y.acts }) reported stages) all (record {
        log' = log;
        more = [];
        p' = p;
        dials = dials_none log;
        on_wire = subst (λ (u : Turn). OnWire u log reported stages) (sym turns) on;
        keeps = subst (λ (u : Turn). KeepsUnderway u (acts_in p.part) (record x { acts = y.acts }) p) (sym turns) (begun_keeps k);
        same = refl;
        tables = refl;
      })

-- the next act, for some tables
pub next_of_some : {B : Type 0} {g : Ghosts B} (a : Act) (acts : List Act) (fn x : loop.Proxy B g) (reported reported' : Option Log) (before stages : ℕ → Stage)
    → ((t : Turn) (p : Proxy) (log : Log) → KeepsPolled t fn p → OnWire t log reported before → IsUnderway t p log (a ∷ acts) x reported' stages)
    → ∥ IsPolledOn reported before fn ∥₁ → ∥ IsNext a stages x ∥₁
next_of_some a acts fn x reported reported' before stages all some =
    ∥∥₁_map some (λ (n : IsPolledOn reported before fn). let u = all n.0 n.1 n.2 n.3 n.4 in (dialling u.more stages n.0, acts, u.p', u.keeps, u.on_wire.stands))
