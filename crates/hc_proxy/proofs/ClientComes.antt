-- A client comes: it has a new number, and nothing was sent to it.
--
-- Its number was never handed out, so it is that of no client and of no connection to the origin, and it doesn't stand
-- among those that were accepted. Where fewer than 512 clients are here it is one of them from now on. Else its
-- connection is to be closed, and the tables stay as they are.
use Rattle.std.{proofs.{Common.{◌≡◌, ◌≢◌, ◌⊎◌, inl, inr, ◌≤◌, ◌<◌, ℕ, ◌+◌, List, [], ◌∷◌, ◌++◌, length, Bool, true, false, Option, Some, None, refl, ap, sym, ◌∙◌, subst, arith}, lemmas.{Bool.Decides.{nat_tests}, List.Elements.{Contains-append_right, Contains-append_cases}}}, specs.{Prelude.{◌&&◌, nat_eq, nat_lt, not, is_none, if◌then◌else◌, IsSome, Contains, ◌↔◌}, List.{list_all, Sorted.{IsStrictlySortedBy}}, Ordering.{nat_cmp}}}
use Rattle.hc_text.proofs.Basics.{eq_itself as same_number, some_inj}
use Rattle.hc_core.specs.Steps.{faults_in}
use Rattle.hc_effects.proofs.PieceKeeps.{eq_cases}
use Rattle.hc_peers.specs.{Clients.{client_of}, Upstreams.{upstream_of}, declared.clients.Clients.{Clients}}
use Rattle.hc_peers.specs.Clients as clients
use Rattle.hc_peers.specs.Peers as peers
use Rattle.hc_peers.specs.declared.client.Client as peer
use Rattle.hc_peers.specs.declared.upstream.Upstream as origin
use Rattle.hc_store.specs.declared.backend.Backend.{Ghosts}
use Rattle.hc_wire.specs.Events.{Unseen, Open, Fresh, IsOpen}
use Rattle.hc_wire.specs.declared.event.WireEvent.TheVariants as wire
use Rattle.hc_proxy.specs.declared.proxy.Proxy as loop
use Rattle.hc_proxy.specs.{Carrying.{acts_in}, Connections.{exchange_of, taken_at}, Handling.{is_client, clients_here, client_comes}, Invariants.{is_quiet}, Keeping.{Turn, HasClients, IsClient, IsClientAt, AtWire, AreSeen, AreKnown, Begun, Keeps, KeepsQuiet, Goes}, Rows.{Proxy, new_client}, Waiting.{is_waiting}}
use Rattle.hc_proxy.proofs.{Alike.{cache_moves, cache_with}, Holders.{held_of, of_held}, HoldersBegin.{comes_keeps}, Inserted.{inserted_sorted, inserted_here, inserted_on, inserted_back, passed_more}, Marked.{among_contained, contained_among}, SkippedSteps.{among}, StartsOn.{just_here, here_order}, Turning.{with_new}, HangsOff.{one_of}}

none_in : {A : Type 0} (j : ℕ) (ks : List ℕ) → ks ≡ [] → Contains ks j → A
none_in j [] is (n, within, at) = absurd (omega arith)
none_in j (i ∷ ks) is there = absurd (let never : (i ∷ ks) ≡ [] = is in cc)

new_is : IsClient 0 peers.new_client new_client
new_is = record { here = refl; reading = refl; input = refl; consumer = refl; reply = refl; closing = refl; within = omega arith; unsent = refl; asking = tt }

module _ {B : Type 0} {g : Ghosts B} (t : Turn) (x : loop.Proxy B g) (p : Proxy) (k : ℕ) (slice : List ℕ) (b : Begun t x p (wire.Accepted k) slice) where
  abbrev h : Keeps (record t { stages = b.before }) x p
  h = b.keeps

  -- ITS STAGE

  stage_here : t.stages k ≡ Fresh
  stage_here = b.stages k ∙ rw (same_number k) refl

  stage_off : (j : ℕ) → nat_eq j k ≡ false → t.stages j ≡ b.before j
  stage_off j off = b.stages j ∙ rw off refl

  was_open : (j : ℕ) (reads ended : Bool) → b.before j ≡ Open reads ended → nat_eq j k ≡ false
  was_open j reads ended on = elim (eq_cases j k) as (λ _. nat_eq j k ≡ false) [
    | inr off ↦ off.0
    | inl here ↦ absurd (let never : Unseen ≡ Open reads ended = sym b.of_open ∙ (ap b.before (sym here.1) ∙ on) in cc)
  ]

  was_unseen : (j : ℕ) → t.stages j ≡ Unseen → nat_eq j k ≡ false
  was_unseen j unseen = elim (eq_cases j k) as (λ _. nat_eq j k ≡ false) [
    | inr off ↦ off.0
    | inl here ↦ absurd (let never : Fresh ≡ Unseen = sym stage_here ∙ (ap t.stages (sym here.1) ∙ unseen) in cc)
  ]

  known_still : (j : ℕ) → Contains x.closed.items j → t.stages j ≢ Unseen
  known_still j there unseen = h.known j there (sym (stage_off j (was_unseen j unseen)) ∙ unseen)

  -- of nobody before

  no_client : (o : Option peer.Client) → client_of x.clients k ≡ o → client_of x.clients k ≡ None
  no_client None is = is
  no_client (Some d) is = absurd (
      let was = h.wire.clients k d is in
      let never : Unseen ≡ Open d.reading was.0 = sym b.of_open ∙ was.1 in cc)

  no_upstream : (y : ℕ) (u : origin.Upstream) → upstream_of x.upstreams y ≡ Some u → u.k ≢ k
  no_upstream y u is same =
      let was = h.wire.upstreams y u is in
      let never : Unseen ≡ Open u.reading was.0 = sym b.of_open ∙ (ap b.before (sym same) ∙ was.1) in cc

  upstreams_at : (y : ℕ) (u : origin.Upstream) → upstream_of x.upstreams y ≡ Some u → (ended : Bool) × (t.stages u.k ≡ Open u.reading ended)
  upstreams_at y u is = let was = h.wire.upstreams y u is in (was.0, stage_off u.k (was_open u.k u.reading was.0 was.1) ∙ was.1)

  moved_is : x.moved ≡ not (list_all is_waiting p.part)
  moved_is = b.moved ∙ sym (ap (λ es. not (list_all is_waiting es)) b.part)

  quiet_is : list_all is_quiet (acts_in p.part) ≡ true
  quiet_is = ap (λ es. list_all is_quiet (acts_in es)) b.part

  -- WHERE 512 ARE HERE

  module _ (x' : loop.Proxy B g) (closed : x'.closed.items ≡ x.closed.items ++ k ∷ []) (same : x' ≡ record x { closed = x'.closed })
      (full : 512 ≤ length (clients_here p)) where
    abbrev v : loop.Proxy B g
    v = record x { closed = x'.closed }

    refused_there : (j : ℕ) → j ≡ k → Contains x'.closed.items j
    refused_there j here = subst (λ ks. Contains ks j) (sym closed)
        (Contains-append_right x.closed.items (k ∷ []) j (subst (λ n. Contains (n ∷ []) j) here (0, omega arith, refl)))

    was_there : (j : ℕ) → Contains x'.closed.items j → Contains x.closed.items j ⊎ (k ≡ j)
    was_there j there = elim (Contains-append_cases x.closed.items (k ∷ []) j (subst (λ ks. Contains ks j) closed there)) as
        (λ _. Contains x.closed.items j ⊎ (k ≡ j)) [
          | inl before ↦ inl before
          | inr now ↦ inr (one_of j k now)
        ]

    refused_all : (j : ℕ) → IsOpen (t.stages j) →
        IsSome (client_of x.clients j) ⊎ ((y : ℕ) × (u : origin.Upstream) × (upstream_of x.upstreams y ≡ Some u) × (u.k ≡ j)) ⊎ Contains x'.closed.items j
    refused_all j opens = elim (eq_cases j k) as
        (λ _. IsSome (client_of x.clients j) ⊎ ((y : ℕ) × (u : origin.Upstream) × (upstream_of x.upstreams y ≡ Some u) × (u.k ≡ j)) ⊎ Contains
        x'.closed.items j) [
          | inl here ↦ inr (inr (refused_there j here.1))
          | inr off ↦ elim (h.wire.all j (subst IsOpen (stage_off j off.0) opens)) as
              (λ _. IsSome (client_of x.clients j) ⊎ ((y : ℕ) × (u : origin.Upstream) × (upstream_of x.upstreams y ≡ Some u) × (u.k ≡ j)) ⊎ Contains
              x'.closed.items j) [
                | inl client ↦ inl client
                | inr other ↦ elim other as
                    (λ _. IsSome (client_of x.clients j) ⊎ ((y : ℕ) × (u : origin.Upstream) × (upstream_of x.upstreams y ≡ Some u) × (u.k ≡ j)) ⊎ Contains
                    x'.closed.items j) [
                      | inl up ↦ inr (inl up)
                      | inr there ↦ none_in j x.closed.items b.closed there
                    ]
              ]
        ]

    refused_wire : AtWire t.stages v
    refused_wire = record {
      clients = λ j c is. let was = h.wire.clients j c is in (was.0, stage_off j (was_open j c.reading was.0 was.1) ∙ was.1);
      upstreams = upstreams_at;
      all = refused_all;
      closed = λ j there. elim (was_there j there) as
          (λ _. (client_of x.clients j ≡ None) × ((y : ℕ) (u : origin.Upstream) → upstream_of x.upstreams y ≡ Some u → u.k ≢ j)) [
            | inl before ↦ none_in j x.closed.items b.closed before
            | inr here ↦ (ap (client_of x.clients) (sym here) ∙ no_client (client_of x.clients k) refl, λ y u is its. no_upstream y u is (its ∙ sym here))
          ];
    }

    refused_known : AreKnown t v
    refused_known j there = elim (was_there j there) as (λ _. t.stages j ≢ Unseen) [
      | inl before ↦ known_still j before
      | inr here ↦ λ unseen. let never : Fresh ≡ Unseen = sym stage_here ∙ (ap t.stages here ∙ unseen) in cc
    ]

    refused_keeps : KeepsQuiet t v p
    refused_keeps = record {
      keeps = record {
        cache = cache_moves t.frame x v p refl refl refl refl refl h.cache;
        acts = h.acts;
        clients = record { rows = h.clients.rows; order = h.clients.order; listed = h.clients.listed; few = h.clients.few };
        consumers = h.consumers;
        upstreams = record {
          rows = h.upstreams.rows;
          numbers = h.upstreams.numbers;
          over = h.upstreams.over;
          news = h.upstreams.news;
          touched = h.upstreams.touched;
          opens = h.upstreams.opens;
          names = h.upstreams.names;
          strangers = h.upstreams.strangers;
        };
        wire = refused_wire;
        numbers = h.numbers;
        opened = h.opened;
        seen = λ j unseen. h.seen j (sym (stage_off j (was_unseen j unseen)) ∙ unseen);
        shut = h.shut;
        known = refused_known;
      };
      moved = moved_is;
      quiet = quiet_is;
    }

    refused_owed : client_comes k p ≡ p
    refused_owed = by_none (is_none (p.client k)) (nat_lt (length (clients_here p)) 512) refl
      where
        by_none : (a d : Bool) → nat_lt (length (clients_here p)) 512 ≡ d → (if a && d then with_new k p else p) ≡ p
        by_none true true less =
            absurd (let lt : length (clients_here p) < 512 = grind (arith, nat_tests) in let ge : 512 ≤ length (clients_here p) = full in omega arith)
        by_none true false less = refl
        by_none false d less = refl

    pub refused_goes : Goes (KeepsQuiet t) (faults_in x.cache) x' (client_comes k p)
    refused_goes =
        subst (λ z. Goes (KeepsQuiet t) (faults_in x.cache) z (client_comes k p)) (sym same)
        (record { q = p; keeps = refused_keeps; later = omega arith; same = λ calm. sym refused_owed })

  -- WHERE FEWER ARE

  module _ (s : Clients) (becomes : clients.Becomes k (Some peers.new_client) x.clients s) (few : length (clients_here p) < 512) where
    abbrev w : loop.Proxy B g
    w = record x { clients = s }

    abbrev q : Proxy
    q = with_new k p

    here_now : client_of s k ≡ Some peers.new_client
    here_now = becomes k ∙ rw (same_number k) refl

    off_now : (j : ℕ) → nat_eq j k ≡ false → client_of s j ≡ client_of x.clients j
    off_now j off = becomes j ∙ rw off refl

    row_here : q.client k ≡ Some new_client
    row_here = rw (same_number k) refl

    row_off : (j : ℕ) → nat_eq j k ≡ false → q.client j ≡ p.client j
    row_off j off = rw off refl

    no_row : p.client k ≡ None
    no_row = (h.seen k b.of_open).0

    unlisted : among k p.accepted ≡ false
    unlisted = by_test (among k p.accepted) refl
      where
        by_test : (d : Bool) → among k p.accepted ≡ d → among k p.accepted ≡ false
        by_test false off = off
        by_test true there = absurd ((h.seen k b.of_open).2 (contained_among k p.accepted there))

    rows : (j : ℕ) → IsClientAt (taken_at t.call j) (client_of s j) (q.client j)
    rows j = elim (eq_cases j k) as (λ _. IsClientAt (taken_at t.call j) (client_of s j) (q.client j)) [
      | inr off ↦ subst (λ o. IsClientAt (taken_at t.call j) o (q.client j)) (sym (off_now j off.0))
          (subst (λ r. IsClientAt (taken_at t.call j) (client_of x.clients j) r) (sym (row_off j off.0)) (h.clients.rows j))
      | inl here ↦ subst (λ n. IsClientAt (taken_at t.call n) (client_of s n) (q.client n)) (sym here.1)
          (subst (λ o. IsClientAt (taken_at t.call k) o (q.client k)) (sym here_now)
          (subst (λ r. IsClientAt (taken_at t.call k) (Some peers.new_client) r) (sym row_here)
          (subst (λ n. IsClient n peers.new_client new_client) (sym (b.untaken k b.of_open)) new_is)))
    ]

    some_was : (j : ℕ) → nat_eq j k ≡ false → IsSome (q.client j) → IsSome (p.client j)
    some_was j off some = subst IsSome (row_off j off) some

    listed : (j : ℕ) → IsSome (q.client j) → Contains q.accepted j
    listed j some = elim (eq_cases j k) as (λ _. Contains q.accepted j) [
      | inl here ↦ subst (λ n. Contains q.accepted n) (sym here.1) (contained_among k q.accepted (inserted_here k p.accepted))
      | inr off ↦ contained_among j q.accepted (inserted_on j k p.accepted (among_contained j p.accepted (h.clients.listed j (some_was j off.0 some))))
    ]

    few_now : length (clients_here q) ≤ 512
    few_now =
        let le : length (clients_here q) ≤ length (clients_here p) + 1 =
        passed_more (λ j. is_client (q.client j)) (λ j. is_client (p.client j)) k p.accepted unlisted (λ j off. ap is_client (row_off j off)) in
        let lt : length (clients_here p) < 512 = few in
        omega arith

    come_clients : HasClients t w q
    come_clients = record { rows = rows; order = inserted_sorted k p.accepted unlisted h.clients.order; listed = listed; few = few_now }

    strangers : (j : ℕ) → IsSome (q.client j) → exchange_of t.dialled j ≡ None
    strangers j some = elim (eq_cases j k) as (λ _. exchange_of t.dialled j ≡ None) [
      | inl here ↦ ap (exchange_of t.dialled) here.1 ∙ (h.seen k b.of_open).1
      | inr off ↦ h.upstreams.strangers j (some_was j off.0 some)
    ]

    clients_at : (j : ℕ) (c : peer.Client) → client_of s j ≡ Some c → (ended : Bool) × (t.stages j ≡ Open c.reading ended)
    clients_at j c is = elim (eq_cases j k) as (λ _. (ended : Bool) × (t.stages j ≡ Open c.reading ended)) [
      | inl here ↦ (
        false,
        ap t.stages here.1 ∙
            (stage_here ∙ ap (λ (d : peer.Client). Open d.reading false) (some_inj peers.new_client c (sym here_now ∙ (ap (client_of s) (sym here.1) ∙ is)))),
      )
      | inr off ↦ let was = h.wire.clients j c (sym (off_now j off.0) ∙ is) in (was.0, stage_off j off.0 ∙ was.1)
    ]

    come_all : (j : ℕ) → IsOpen (t.stages j) →
        IsSome (client_of s j) ⊎ ((y : ℕ) × (u : origin.Upstream) × (upstream_of x.upstreams y ≡ Some u) × (u.k ≡ j)) ⊎ Contains x.closed.items j
    come_all j opens = elim (eq_cases j k) as
        (λ _. IsSome (client_of s j) ⊎ ((y : ℕ) × (u : origin.Upstream) × (upstream_of x.upstreams y ≡ Some u) × (u.k ≡ j)) ⊎ Contains x.closed.items j) [
          | inl here ↦ inl (subst (λ n. IsSome (client_of s n)) (sym here.1) (subst IsSome (sym here_now) refl))
          | inr off ↦ elim (h.wire.all j (subst IsOpen (stage_off j off.0) opens)) as
              (λ _. IsSome (client_of s j) ⊎ ((y : ℕ) × (u : origin.Upstream) × (upstream_of x.upstreams y ≡ Some u) × (u.k ≡ j)) ⊎ Contains x.closed.items j) [
                | inl client ↦ inl (subst IsSome (sym (off_now j off.0)) client)
                | inr other ↦ inr other
              ]
        ]

    come_wire : AtWire t.stages w
    come_wire = record { clients = clients_at; upstreams = upstreams_at; all = come_all; closed = λ j there. none_in j x.closed.items b.closed there }

    come_seen : AreSeen t q
    come_seen j unseen =
        let off = was_unseen j unseen in
        let was = h.seen j (sym (stage_off j off) ∙ unseen) in
        (row_off j off ∙ was.0, was.1, λ there. was.2 (contained_among j p.accepted (inserted_back j k p.accepted off (among_contained j q.accepted there))))

    come_keeps : KeepsQuiet t w q
    come_keeps = record {
      keeps = record {
        cache = cache_moves t.frame x w q refl refl refl refl refl (cache_with t.frame x p q.client q.accepted h.cache);
        acts = h.acts;
        clients = come_clients;
        consumers = of_held q (comes_keeps (acts_in p.part) k p no_row (held_of p h.consumers));
        upstreams = record {
          rows = h.upstreams.rows;
          numbers = h.upstreams.numbers;
          over = h.upstreams.over;
          news = h.upstreams.news;
          touched = h.upstreams.touched;
          opens = h.upstreams.opens;
          names = h.upstreams.names;
          strangers = strangers;
        };
        wire = come_wire;
        numbers = h.numbers;
        opened = h.opened;
        seen = come_seen;
        shut = h.shut;
        known = known_still;
      };
      moved = moved_is;
      quiet = quiet_is;
    }

    come_owed : client_comes k p ≡ q
    come_owed =
        let less : nat_lt (length (clients_here p)) 512 ≡ true = (let lt : length (clients_here p) < 512 = few in grind (arith, nat_tests)) in
        rw (no_row, less) refl

    pub come_goes : Goes (KeepsQuiet t) (faults_in x.cache) w (client_comes k p)
    come_goes = record { q = q; keeps = come_keeps; later = omega arith; same = λ calm. sym come_owed }

  -- HOW MANY ARE HERE

  pub count_here : (count : ℕ) →
      ((ks : List ℕ) → IsStrictlySortedBy nat_cmp ks → ((j : ℕ) → Contains ks j ↔ IsSome (client_of x.clients j)) → count ≡ length ks) →
      count ≡ length (clients_here p)
  count_here count all = all (clients_here p) (here_order (record t { stages = b.before }) x p h.clients)
      (just_here (record t { stages = b.before }) x p h.clients)
