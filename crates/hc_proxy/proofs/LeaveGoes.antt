-- A client leaves: its row is gone, its connection is to be closed, and its consumer is cancelled, where it waits.
--
-- A cancel says something of no exchange. So of each exchange all is kept that is kept beside any other one. Where it
-- waits, the cancel is a step of the cache (`left_keeps`), and else just its row goes (`idle_keeps`). No exchange has
-- the number of its connection, so no other row changes (`gone_wire`). `leave_by` and `idle_by` say so by what the
-- code's steps tell.
use Rattle.std.{proofs.{Common.{◌≡◌, ◌≢◌, ◌⊎◌, inl, inr, ◌≤◌, ℕ, zero, suc, ◌+◌, List, [], ◌∷◌, ◌++◌, Bool, true, false, Option, Some, None, refl, ap, sym, ◌∙◌, subst, arith}, lemmas.{Bool.Decides.{nat_tests}, List.Elements.{Contains-append_left, Contains-append_right, Contains-append_cases}}}, specs.{Prelude.{◌&&◌, nat_eq, not, option_map, if◌then◌else◌, IsSome, Contains}, List.{list_all}}}
use Rattle.hc_text.proofs.Basics.{none_some, some_inj, true_false}
use Rattle.hc_core.specs.Steps.{faults_in, steps, bytes_received}
use Rattle.hc_effects.proofs.Vocabulary.{act_list, closes_in, Act, is_open, is_wanted, Lawful, after, event}
use Rattle.hc_effects.proofs.PieceKeeps.{eq_cases}
use Rattle.hc_peers.specs.{Agreement.{is_at}, Clients.{client_of}, Peers.{is_same}, Upstreams.{upstream_of}, declared.clients.Clients.{Clients}}
use Rattle.hc_peers.specs.Clients as clients
use Rattle.hc_peers.specs.declared.client.Client as peer
use Rattle.hc_peers.specs.declared.upstream.Upstream as origin
use Rattle.hc_store.specs.declared.backend.Backend.{Ghosts}
use Rattle.hc_wire.specs.Events.{Stage, Unseen, Open, Closed, IsOpen}
use Rattle.hc_proxy.specs.declared.proxy.Proxy as loop
use Rattle.hc_proxy.specs.{Carrying.{acts_in}, Connections.{taken_at}, Handling.{is_client, left, leaves, cancelled, client_leaves}, Invariants.{IsHolder, unread}, Keeping.{Frame, Turn, HasCache, HasClients, HasUpstreams, HasUpstreamsBut, IsClientAt, AtWire, AreKnown, AtEvent, KeepsQuiet, Stepped, RestStays, Goes}, Rows.{Client, Proxy, with_client}, Steps.{with_entry}, Waiting.{is_poll, is_waiting}}
use Rattle.hc_proxy.specs.Steps as steps_of
use Rattle.hc_proxy.proofs.{Alike.{cache_moves, clients_move, cache_with, upstreams_move}, ClosedActs.{closed_behind}, DoneFor.{but_it, but_upstreams, opened_same, waits_not}, Holders.{leave_keeps, idle_leave_keeps}, QuietActs.{AreQuiet, is_quiet_entry, quiet_both}, RowChanges.{ChangesClient, changed_clients, reads_as, none_stays, row_was, seen_still, upstreams_with}, StepOn.{law_of, stands_of}}

-- WHAT IS KEPT BESIDE ANY ONE is kept of all

pub beside_any : {B : Type 0} {g : Ghosts B} (t : Turn) (x : loop.Proxy B g) (p : Proxy) (acts : List Act) → HasUpstreamsBut 0 t x p acts →
    HasUpstreamsBut 1 t x p acts → HasUpstreams t x p acts
beside_any t x p acts a b = record {
  rows = a.rows;
  numbers = a.numbers;
  over = λ y some. elim (eq_cases y 0) as (λ _. (is_open (p.tables.exchange y) ≡ true) ⊎ (closes_in y acts ≡ true))
      [ inr off ↦ a.over y off.0 some | inl here ↦ b.over y (other y here.1) some ];
  news = λ y on none asks. elim (eq_cases y 0) [ inr off ↦ a.news y off.0 on none asks | inl here ↦ b.news y (other y here.1) on none asks ];
  touched = λ y v is on none asks. elim (eq_cases y 0) as (λ _. (v.unsent ≡ []) × (is_same v.reading (is_wanted (p.tables.exchange y)) ≡ true))
      [ inr off ↦ a.touched y v off.0 is on none asks | inl here ↦ b.touched y v (other y here.1) is on none asks ];
  opens = a.opens;
  names = a.names;
  strangers = a.strangers;
}
  where
    other : (y : ℕ) → y ≡ 0 → nat_eq y 1 ≡ false
    other y here = ap (λ n. nat_eq n 1) here

-- A CLIENT THAT IS GONE

left_alike : (taken : ℕ) (r : Option Client) → IsClientAt taken None (option_map left r)
left_alike taken None = tt
left_alike taken (Some r) = refl

left_here : (r : Option Client) → is_client (option_map left r) ≡ true → is_client r ≡ true
left_here None on = on
left_here (Some r) on = absurd (let never : false ≡ true = on in cc)

pub left_change : (taken : ℕ) (o : Option peer.Client) (r : Option Client) → ChangesClient taken o r None left
left_change taken o r = record { alike = left_alike taken r; reads = λ c is. none_some c is; here = left_here r }

module _ {B : Type 0} {g : Ghosts B} (t : Turn) (x : loop.Proxy B g) (p : Proxy) (k : ℕ) (h : AtEvent t x p k)
    (none : (y : ℕ) → is_at k (upstream_of x.upstreams y) ≡ false) (s : Clients) (becomes : clients.Becomes k None x.clients s) where
  pub gone_clients : HasClients t (record x { clients = s }) (with_client k left p)
  gone_clients = changed_clients t x p k None left s becomes (left_change (taken_at t.call k) (client_of x.clients k) (p.client k)) h.quiet.keeps.clients

  gone_here : client_of s k ≡ None
  gone_here = becomes k ∙ rw (same_number k) refl
    where
      same_number : (n : ℕ) → nat_eq n n ≡ true
      same_number n = grind (arith, nat_tests)

  one_of : (j : ℕ) → Contains (k ∷ []) j → k ≡ j
  one_of j (zero, within, is) = is
  one_of j (suc n, within, is) = absurd (omega arith)

  -- behind it, whatever the cache is
  pub gone_wire : (x' : loop.Proxy B g) → x'.clients ≡ s → x'.upstreams ≡ x.upstreams → x'.closed.items ≡ x.closed.items ++ k ∷ [] → AtWire t.stages x'
  gone_wire x' cs us vs = record {
    clients = λ j d is. reads_as t x p k None left s becomes (left_change (taken_at t.call k) (client_of x.clients k) (p.client k)) t.stages
        h.quiet.keeps.wire j d (sym (ap (λ z. client_of z j) cs) ∙ is);
    upstreams = λ y u is. h.quiet.keeps.wire.upstreams y u (sym (ap (λ z. upstream_of z y) us) ∙ is);
    all = all;
    closed = closed;
  }
    where
      Owner : ℕ → Type 0
      Owner j = IsSome (client_of x'.clients j) ⊎ ((y : ℕ) × (v : origin.Upstream) × (upstream_of x'.upstreams y ≡ Some v) × (v.k ≡ j)) ⊎ Contains
          x'.closed.items j

      of_client : (j : ℕ) → IsSome (client_of x.clients j) →
          IsSome (client_of x'.clients j) ⊎ ((y : ℕ) × (v : origin.Upstream) × (upstream_of x'.upstreams y ≡ Some v) × (v.k ≡ j)) ⊎ Contains x'.closed.items j
      of_client j some = elim (eq_cases j k) as
          (λ _. IsSome (client_of x'.clients j) ⊎ ((y : ℕ) × (v : origin.Upstream) × (upstream_of x'.upstreams y ≡ Some v) × (v.k ≡ j)) ⊎ Contains
          x'.closed.items j) [
            | inr off ↦ inl (subst IsSome (sym (ap (λ z. client_of z j) cs ∙ (becomes j ∙ rw off.0 refl))) some)
            | inl here ↦ inr (inr (subst (λ ks. Contains ks j) (sym vs) (Contains-append_right x.closed.items (k ∷ []) j (0, omega arith, sym here.1))))
          ]

      all : (j : ℕ) → IsOpen (t.stages j) →
          IsSome (client_of x'.clients j) ⊎ ((y : ℕ) × (v : origin.Upstream) × (upstream_of x'.upstreams y ≡ Some v) × (v.k ≡ j)) ⊎ Contains x'.closed.items j
      all j opens = elim (h.quiet.keeps.wire.all j opens) as
          (λ _. IsSome (client_of x'.clients j) ⊎ ((y : ℕ) × (v : origin.Upstream) × (upstream_of x'.upstreams y ≡ Some v) × (v.k ≡ j)) ⊎ Contains
          x'.closed.items j) [
            | inl some ↦ of_client j some
            | inr other ↦ elim other as
                (λ _. IsSome (client_of x'.clients j) ⊎ ((y : ℕ) × (v : origin.Upstream) × (upstream_of x'.upstreams y ≡ Some v) × (v.k ≡ j)) ⊎ Contains
                x'.closed.items j) [
                  | inl up ↦ inr (inl (up.0, up.1, ap (λ z. upstream_of z up.0) us ∙ up.2, up.3))
                  | inr there ↦ inr (inr (subst (λ ks. Contains ks j) (sym vs) (Contains-append_left x.closed.items (k ∷ []) j there)))
                ]
          ]

      no_number : (y : ℕ) (u : origin.Upstream) → upstream_of x.upstreams y ≡ Some u → u.k ≢ k
      no_number y u is its = true_false (sym (ap (is_at k) is ∙ (let same : nat_eq u.k k ≡ true = grind (arith, nat_tests) in same)) ∙ none y)

      closed : (j : ℕ) → Contains x'.closed.items j → (client_of x'.clients j ≡ None) ×
          ((y : ℕ) (u : origin.Upstream) → upstream_of x'.upstreams y ≡ Some u → u.k ≢ j)
      closed j there = elim (Contains-append_cases x.closed.items (k ∷ []) j (subst (λ ks. Contains ks j) vs there)) as
          (λ _. (client_of x'.clients j ≡ None) × ((y : ℕ) (u : origin.Upstream) → upstream_of x'.upstreams y ≡ Some u → u.k ≢ j)) [
            | inl before ↦ (let was = h.quiet.keeps.wire.closed j before in (
              ap (λ z. client_of z j) cs ∙
                  none_stays t x p k None left s becomes (left_change (taken_at t.call k) (client_of x.clients k) (p.client k)) j was.0,
              λ y u is. was.1 y u (sym (ap (λ z. upstream_of z y) us) ∙ is),
            ))
            | inr now ↦ (
              ap (λ z. client_of z j) cs ∙ (ap (client_of s) (sym (one_of j now)) ∙ gone_here),
              λ y u is its. no_number y u (sym (ap (λ z. upstream_of z y) us) ∙ is) (its ∙ sym (one_of j now)),
            )
          ]

  not_unseen : (stage : Stage) → IsOpen stage → stage ≡ Unseen → ⊥
  not_unseen Unseen opens is = opens
  not_unseen (Open reads ended) opens is = let never : Open reads ended ≡ Unseen = is in cc
  not_unseen Closed opens is = opens

  -- its connection was handed out
  known_there : (x' : loop.Proxy B g) → x'.closed.items ≡ x.closed.items ++ k ∷ [] → AreKnown t x'
  known_there x' vs j there = elim (Contains-append_cases x.closed.items (k ∷ []) j (subst (λ ks. Contains ks j) vs there)) as (λ _. t.stages j ≢ Unseen) [
    | inl before ↦ h.quiet.keeps.known j before
    | inr now ↦ λ unseen. not_unseen (t.stages k) h.opens (ap t.stages (one_of j now) ∙ unseen)
  ]

  -- IT WAITED FOR c

  module _ (client : peer.Client) (is_row : client_of x.clients k ≡ Some client) (c : ℕ) (waits : client.consumer ≡ Some c) (mid : loop.Proxy B g)
      (st : Stepped t.frame x mid (event.Cancel c) p) (cs : mid.clients ≡ s) (us : mid.upstreams ≡ x.upstreams)
      (vs : mid.closed.items ≡ x.closed.items ++ k ∷ []) (rest_now : mid.now ≡ x.now) (rest_starts : mid.starts ≡ x.starts) (rest_front : mid.front ≡ x.front)
      (rest_round : mid.round ≡ x.round) (moved : mid.moved ≡ true) (one : steps mid.cache ≡ steps x.cache + 1) where
    -- the same with the client that is gone
    abbrev still : loop.Proxy B g
    still = record mid { clients = x.clients; closed = x.closed }

    abbrev st_still : Stepped t.frame x still (event.Cancel c) p
    st_still = record {
      e = st.e;
      now = st.now;
      event_is = st.event_is;
      is_owed = st.is_owed;
      acts = st.acts;
      cache = cache_moves t.frame mid still (with_entry st.e p) refl refl refl refl refl st.cache;
      later = st.later;
      same = st.same;
    }

    rest_still : RestStays x still
    rest_still = record { now = rest_now; starts = rest_starts; front = rest_front; clients = refl; upstreams = us; closed = refl; round = rest_round }

    beside : (z : ℕ) → HasUpstreamsBut z t still (with_entry st.e p) (acts_in p.part ++ st.e.acts)
    beside z = but_upstreams z t x still p (event.Cancel c) (but_it z t x p h.quiet) st_still rest_still refl (λ y stops. absurd stops)

    ups : HasUpstreams t still (with_entry st.e p) (acts_in p.part ++ st.e.acts)
    ups = beside_any t still (with_entry st.e p) (acts_in p.part ++ st.e.acts) (beside 0) (beside 1)

    holder_by : (o : Option peer.Client) (r : Option Client) → IsClientAt (taken_at t.call k) o r → p.client k ≡ r → o ≡ Some client → IsHolder p k c
    holder_by None r at row is = none_some client is
    holder_by (Some d) None at row is = absurd at
    holder_by (Some d) (Some r) at row is =
        record { row = r; at = row; here = at.here; consumer = sym at.consumer ∙ (ap (λ (w : peer.Client). w.consumer) (some_inj d client is) ∙ waits) }

    w : IsHolder p k c
    w = holder_by (client_of x.clients k) (p.client k) (h.quiet.keeps.clients.rows k) refl is_row

    law : Lawful p.tables
    law = law_of t.frame x p h.quiet.keeps.cache

    owed_it : client_leaves t.frame.limits k p ≡ with_client k left (steps_of.stepped t.frame.limits (event.Cancel c) p)
    owed_it = ap (λ o. leaves t.frame.limits k o p) w.at ∙ by_gone w.row.gone w.here w.row.consumer w.consumer
      where
        by_gone : (b : Bool) → b ≡ false → (o : Option ℕ) → o ≡ Some c →
            (if b then p else with_client k left (cancelled t.frame.limits o p)) ≡ with_client k left (steps_of.stepped t.frame.limits (event.Cancel c) p)
        by_gone true here o is = true_false here
        by_gone false here o is = ap (λ z. with_client k left (cancelled t.frame.limits z p)) is

    abbrev q : Proxy
    q = with_client k left (with_entry st.e p)

    quiet_acts : AreQuiet st.e.acts
    quiet_acts = is_quiet_entry t.frame.limits p.tables st.e st.is_owed (ap is_poll st.event_is)

    left_keeps : KeepsQuiet t mid q
    unfolding with_entry
    left_keeps =
        let gc = clients_move t (record x { clients = s }) mid (with_client k left p) cs gone_clients in
        let hc = cache_with t.frame mid (with_entry st.e p) (with_client k left p).client p.accepted st.cache in
        record {
          keeps = record {
            cache = hc;
            acts = st.acts ∙ ap (λ zs. zs ++ st.e.acts) h.quiet.keeps.acts;
            clients = record { rows = gc.rows; order = gc.order; listed = gc.listed; few = gc.few };
            consumers = leave_keeps t.frame.limits p st.e law st.is_owed k c w st.event_is h.quiet.keeps.consumers;
            upstreams = record {
              rows = ups.rows;
              numbers = ups.numbers;
              over = ups.over;
              news = ups.news;
              touched = ups.touched;
              opens = ups.opens;
              names = ups.names;
              strangers = λ j some. h.quiet.keeps.upstreams.strangers j
                  (row_was t x p k None left s becomes (left_change (taken_at t.call k) (client_of x.clients k) (p.client k)) j some);
            };
            wire = gone_wire mid cs us vs;
            numbers = (let a : p.starts ≤ p.setting.contents.last_consumer + steps x.cache = h.quiet.keeps.numbers in
                let b : steps mid.cache ≡ steps x.cache + 1 = one in omega arith);
            opened = (let a : p.tables.opened ≤ p.setting.contents.next_exchange + steps x.cache = h.quiet.keeps.opened in
                let b : steps mid.cache ≡ steps x.cache + 1 = one in
                let d : (after p.tables st.e).opened ≡ p.tables.opened =
                opened_same 0 t x still p (event.Cancel c) (but_it 0 t x p h.quiet) st_still rest_still refl (λ y stops. absurd stops) in omega arith);
            seen = seen_still t x p k None left s becomes (left_change (taken_at t.call k) (client_of x.clients k) (p.client k)) t.stages t.dialled
                h.quiet.keeps.seen;
            shut = closed_behind t.frame.limits p (stands_of t.frame x p h.quiet.keeps.cache) st.e st.is_owed (acts_in p.part) h.quiet.keeps.shut;
            known = known_there mid vs;
          };
          moved = moved ∙ sym (ap (λ b. not (b && list_all is_waiting p.part))
              (waits_not 0 t x still p (event.Cancel c) (but_it 0 t x p h.quiet) st_still rest_still refl (λ y stops. absurd stops)));
          quiet = quiet_both (acts_in p.part) st.e.acts h.quiet.quiet quiet_acts;
        }

    pub leave_goes : Goes (KeepsQuiet t) (faults_in x.cache) mid (client_leaves t.frame.limits k p)
    leave_goes = record {
      q = q;
      keeps = left_keeps;
      later = st.later;
      same = λ same. ap (λ e. with_client k left (with_entry e p)) (st.same same) ∙ sym owed_it;
    }

  -- IT WAITED FOR NOTHING

  module _ (client : peer.Client) (is_row : client_of x.clients k ≡ Some client) (idle : client.consumer ≡ None) (x' : loop.Proxy B g)
      (cs : x'.clients ≡ s) (us : x'.upstreams ≡ x.upstreams) (vs : x'.closed.items ≡ x.closed.items ++ k ∷ []) (cache_is : x'.cache ≡ x.cache)
      (text_is : x'.record ≡ x.record) (acts_is : x'.acts ≡ x.acts) (now_is : x'.now ≡ x.now) (starts_are : x'.starts ≡ x.starts)
      (front_is : x'.front ≡ x.front)
      (moved_is : x'.moved ≡ x.moved) where
    row_by : (o : Option peer.Client) (r : Option Client) → IsClientAt (taken_at t.call k) o r → o ≡ Some client → (z : Client) × (r ≡ Some z) ×
        (z.gone ≡ false) × (z.consumer ≡ None)
    row_by None r at is = none_some client is
    row_by (Some d) None at is = absurd at
    row_by (Some d) (Some r) at is = (r, refl, at.here, sym at.consumer ∙ (ap (λ (w : peer.Client). w.consumer) (some_inj d client is) ∙ idle))

    r : (z : Client) × (p.client k ≡ Some z) × (z.gone ≡ false) × (z.consumer ≡ None)
    r = row_by (client_of x.clients k) (p.client k) (h.quiet.keeps.clients.rows k) is_row

    idle_owed : client_leaves t.frame.limits k p ≡ with_client k left p
    idle_owed = ap (λ o. leaves t.frame.limits k o p) r.1 ∙ by_gone r.0.gone r.2 r.0.consumer r.3
      where
        by_gone : (b : Bool) → b ≡ false → (o : Option ℕ) → o ≡ None →
            (if b then p else with_client k left (cancelled t.frame.limits o p)) ≡ with_client k left p
        by_gone true here o is = true_false here
        by_gone false here o is = ap (λ z. with_client k left (cancelled t.frame.limits z p)) is

    idle_keeps : KeepsQuiet t x' (with_client k left p)
    idle_keeps = record {
      keeps = record {
        cache = cache_moves t.frame x x' (with_client k left p) cache_is text_is now_is starts_are front_is
            (cache_with t.frame x p (with_client k left p).client p.accepted h.quiet.keeps.cache);
        acts = ap act_list acts_is ∙ h.quiet.keeps.acts;
        clients = clients_move t (record x { clients = s }) x' (with_client k left p) cs gone_clients;
        consumers = idle_leave_keeps k r.0 p r.1 r.3 h.quiet.keeps.consumers;
        upstreams = upstreams_move t x x' (with_client k left p) (acts_in p.part) us (upstreams_with k t x p (with_client k left p).client
            (λ j some. row_was t x p k None left s becomes (left_change (taken_at t.call k) (client_of x.clients k) (p.client k)) j some)
            h.quiet.keeps.upstreams);
        wire = gone_wire x' cs us vs;
        numbers = subst (λ c. p.starts ≤ p.setting.contents.last_consumer + steps c) (sym cache_is) h.quiet.keeps.numbers;
        opened = subst (λ c. p.tables.opened ≤ p.setting.contents.next_exchange + steps c) (sym cache_is) h.quiet.keeps.opened;
        seen = seen_still t x p k None left s becomes (left_change (taken_at t.call k) (client_of x.clients k) (p.client k)) t.stages t.dialled
            h.quiet.keeps.seen;
        shut = h.quiet.keeps.shut;
        known = known_there x' vs;
      };
      moved = moved_is ∙ h.quiet.moved;
      quiet = h.quiet.quiet;
    }

    pub idle_goes : Goes (KeepsQuiet t) (faults_in x.cache) x' (client_leaves t.frame.limits k p)
    idle_goes = record {
      q = with_client k left p;
      keeps = idle_keeps;
      later = subst (λ c. faults_in x.cache ≤ faults_in c) (sym cache_is) (omega arith);
      same = λ same. sym idle_owed;
    }

  -- by what the step tells

  pub leave_by : (client : peer.Client) (c : ℕ) (y mid : loop.Proxy B g) → client_of x.clients k ≡ Some client → client.consumer ≡ Some c
      → ((f : Frame) (p : Proxy) → HasCache f (record x { clients = s; closed = y.closed }) p → unread p + bytes_received x.cache + 0 ≤ f.bytes →
      Stepped f (record x { clients = s; closed = y.closed }) mid (event.Cancel c) p)
      → RestStays (record x { clients = s; closed = y.closed }) mid → mid.moved ≡ true → steps mid.cache ≡ steps x.cache + 1 →
      y.closed.items ≡ x.closed.items ++ k ∷ []
      → Goes (KeepsQuiet t) (faults_in x.cache) mid (client_leaves t.frame.limits k p)
  leave_by client c y mid is_row waits stepped rest moved one items =
      let st = stepped t.frame p (cache_moves t.frame x (record x { clients = s; closed = y.closed }) p refl refl refl refl refl h.quiet.keeps.cache)
      (let all : unread p + bytes_received x.cache ≤ t.frame.bytes = h.quiet.keeps.cache.small in omega arith) in
      leave_goes client is_row c waits mid
      (record { e = st.e; now = st.now; event_is = st.event_is; is_owed = st.is_owed; acts = st.acts; cache = st.cache; later = st.later; same = st.same })
      rest.clients rest.upstreams (ap (λ v. v.items) rest.closed ∙ items) rest.now rest.starts rest.front rest.round moved one

  none_by : (o : Option ℕ) → ((c : ℕ) → o ≡ Some c → ⊥) → o ≡ None
  none_by None un = refl
  none_by (Some c) un = absurd (un c refl)

  pub idle_by : (client : peer.Client) (y : loop.Proxy B g) → client_of x.clients k ≡ Some client → ((c : ℕ) → client.consumer ≡ Some c → ⊥) →
      y.closed.items ≡ x.closed.items ++ k ∷ []
      → Goes (KeepsQuiet t) (faults_in x.cache) (record x { clients = s; closed = y.closed }) (client_leaves t.frame.limits k p)
  idle_by client y is_row un items =
      idle_goes client is_row (none_by client.consumer un) (record x { clients = s; closed = y.closed }) refl refl items refl refl refl refl refl refl refl
