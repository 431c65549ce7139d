-- A change of the row of one client, and of one connection to the origin, in the code and in the definitions.
--
-- Where both rows are changed alike, what is kept stays kept: the others have theirs. A client that sends, or that
-- leaves, keeps its place among those that were accepted, and no more are here than before. Of an exchange so many
-- bytes more are unread at most. `changed_clients` is of the clients, `wire_same` of the wire; nobody comes by such a
-- change (`row_was`).
use Rattle.std.{proofs.Common.{◌≡◌, ◌⊎◌, inl, inr, ◌≤◌, ℕ, List, [], ◌∷◌, length, Bool, true, false, Option, Some, None, refl, ap, sym, ◌∙◌, subst, arith}, specs.Prelude.{nat_eq, filter, option_map, if◌then◌else◌, IsSome, Contains}}
use Rattle.hc_text.proofs.Basics.{none_some, eq_itself as same_number}
use Rattle.hc_effects.proofs.PieceKeeps.{eq_cases}
use Rattle.hc_peers.specs.{Clients.{client_of}, Upstreams.{upstream_of}, declared.clients.Clients.{Clients}}
use Rattle.hc_peers.specs.Clients as clients
use Rattle.hc_peers.specs.declared.client.Client as peer
use Rattle.hc_peers.specs.declared.upstream.Upstream as origin
use Rattle.hc_store.specs.declared.backend.Backend.{Ghosts}
use Rattle.hc_wire.specs.Events.{Stage, Unseen, Open}
use Rattle.hc_proxy.specs.declared.proxy.Proxy as loop
use Rattle.hc_proxy.specs.{Carrying.{acts_in}, Connections.{exchange_of, taken_at}, Handling.{is_client, clients_here}, Keeping.{Turn, HasClients, HasUpstreams, IsClientAt, AtWire}, Rows.{Client, Proxy, with_client}}

-- no more pass a test that passes less
pub fewer : (f h : ℕ → Bool) (xs : List ℕ) → ((n : ℕ) → h n ≡ true → f n ≡ true) → length (filter h xs) ≤ length (filter f xs)
fewer f h [] less = omega arith
fewer f h (n ∷ xs) less = by_tests (f n) (h n) refl refl (fewer f h xs less)
  where
    by_tests : (a b : Bool) → f n ≡ a → h n ≡ b → length (filter h xs) ≤ length (filter f xs) →
        length (if b then n ∷ filter h xs else filter h xs) ≤ length (if a then n ∷ filter f xs else filter f xs)
    by_tests true true on is rest = omega arith
    by_tests true false on is rest = omega arith
    by_tests false true on is rest = absurd (let never : false ≡ true = sym on ∙ less n is in cc)
    by_tests false false on is rest = rest

-- both rows are changed alike: it reads on as the wire was told, and whoever is here was
pub record ChangesClient (taken : ℕ) (o : Option peer.Client) (r : Option Client) (now : Option peer.Client) (change : Client → Client) : Type 0 where
  pub alike : IsClientAt taken now (option_map change r)
  pub reads : (c : peer.Client) → now ≡ Some c → (old : peer.Client) × (o ≡ Some old) × (c.reading ≡ old.reading)
  pub here : is_client (option_map change r) ≡ true → is_client r ≡ true

module _ {B : Type 0} {g : Ghosts B} where
  -- A CLIENT

  module _ (t : Turn) (x : loop.Proxy B g) (p : Proxy) (k : ℕ) (now : Option peer.Client) (change : Client → Client) (s : Clients)
      (becomes : clients.Becomes k now x.clients s) (c : ChangesClient (taken_at t.call k) (client_of x.clients k) (p.client k) now change) where
    abbrev pub q : Proxy
    q = with_client k change p

    abbrev y : loop.Proxy B g
    y = record x { clients = s }

    client_here : client_of s k ≡ now
    client_here = becomes k ∙ rw (same_number k) refl

    client_off : (j : ℕ) → nat_eq j k ≡ false → client_of s j ≡ client_of x.clients j
    client_off j off = becomes j ∙ rw off refl

    row_here : q.client k ≡ option_map change (p.client k)
    row_here = rw (same_number k) refl

    row_off : (j : ℕ) → nat_eq j k ≡ false → q.client j ≡ p.client j
    row_off j off = rw off refl

    pub row_was : (j : ℕ) → IsSome (q.client j) → IsSome (p.client j)
    row_was j some = elim (eq_cases j k) as (λ _. IsSome (p.client j)) [
      | inr off ↦ subst IsSome (row_off j off.0) some
      | inl here ↦ subst (λ n. IsSome (p.client n)) (sym here.1) (mapped (p.client k) (subst IsSome row_here (subst (λ n. IsSome (q.client n)) here.1 some)))
    ]
      where
        mapped : (o : Option Client) → IsSome (option_map change o) → IsSome o
        mapped None h = h
        mapped (Some r) h = refl

    module _ (h : HasClients t x p) where
      rows : (j : ℕ) → IsClientAt (taken_at t.call j) (client_of s j) (q.client j)
      rows j = elim (eq_cases j k) as (λ _. IsClientAt (taken_at t.call j) (client_of s j) (q.client j)) [
        | inr off ↦ subst (λ o. IsClientAt (taken_at t.call j) o (q.client j)) (sym (client_off j off.0))
            (subst (λ r. IsClientAt (taken_at t.call j) (client_of x.clients j) r) (sym (row_off j off.0)) (h.rows j))
        | inl here ↦ subst (λ n. IsClientAt (taken_at t.call n) (client_of s n) (q.client n)) (sym here.1)
            (subst (λ o. IsClientAt (taken_at t.call k) o (q.client k)) (sym client_here)
            (subst (λ r. IsClientAt (taken_at t.call k) now r) (sym row_here) c.alike))
      ]

      here_was : (j : ℕ) → is_client (q.client j) ≡ true → is_client (p.client j) ≡ true
      here_was j on = elim (eq_cases j k) as (λ _. is_client (p.client j) ≡ true) [
        | inr off ↦ ap is_client (sym (row_off j off.0)) ∙ on
        | inl here ↦ ap (λ n. is_client (p.client n)) here.1 ∙ c.here (sym (ap is_client row_here) ∙ (ap (λ n. is_client (q.client n)) (sym here.1) ∙ on))
      ]

      pub changed_clients : HasClients t (record x { clients = s }) (with_client k change p)
      changed_clients = record {
        rows = rows;
        order = h.order;
        listed = λ j some. h.listed j (row_was j some);
        few = (let a : length (clients_here q) ≤ length (clients_here p) =
            fewer (λ j. is_client (p.client j)) (λ j. is_client (q.client j)) p.accepted here_was in let b : length (clients_here p) ≤ 512 = h.few in
            omega arith);
      }

    pub reads_as : (stages : ℕ → Stage) → AtWire stages x → (j : ℕ) (d : peer.Client) → client_of s j ≡ Some d → (ended : Bool) ×
        (stages j ≡ Open d.reading ended)
    reads_as stages w j d is = elim (eq_cases j k) as (λ _. (ended : Bool) × (stages j ≡ Open d.reading ended)) [
      | inr off ↦ w.clients j d (sym (client_off j off.0) ∙ is)
      | inl here ↦
          let r = c.reads d (sym client_here ∙ (ap (client_of s) (sym here.1) ∙ is)) in
          let was = w.clients j r.0 (ap (client_of x.clients) here.1 ∙ r.1) in
          (was.0, was.1 ∙ ap (λ b. Open b was.0) (sym r.2))
    ]

    pub none_stays : (j : ℕ) → client_of x.clients j ≡ None → client_of s j ≡ None
    none_stays j none = by_row (client_of s j) refl
      where
        by_row : (o : Option peer.Client) → client_of s j ≡ o → client_of s j ≡ None
        by_row None is = is
        by_row (Some d) is = elim (eq_cases j k) [
          | inr off ↦ none_some d (sym none ∙ (sym (client_off j off.0) ∙ is))
          | inl here ↦
              let r = c.reads d (sym client_here ∙ (ap (client_of s) (sym here.1) ∙ is)) in
              none_some r.0 (sym none ∙ (ap (client_of x.clients) here.1 ∙ r.1))
        ]

    pub wire_same : (stages : ℕ → Stage) → (IsSome (client_of x.clients k) → IsSome now) → AtWire stages x → AtWire stages (record x { clients = s })
    wire_same stages still w = record {
      clients = reads_as stages w;
      upstreams = w.upstreams;
      all = λ j opens. elim (w.all j opens) as
          (λ _. IsSome (client_of s j) ⊎ ((y : ℕ) × (v : origin.Upstream) × (upstream_of x.upstreams y ≡ Some v) × (v.k ≡ j)) ⊎ Contains x.closed.items j) [
            | inl there ↦ inl (some_stays j there)
            | inr other ↦ inr other
          ];
      closed = λ j there. let was = w.closed j there in (none_stays j was.0, was.1);
    }
      where
        some_stays : (j : ℕ) → IsSome (client_of x.clients j) → IsSome (client_of s j)
        some_stays j there = elim (eq_cases j k) as (λ _. IsSome (client_of s j)) [
          | inr off ↦ subst IsSome (sym (client_off j off.0)) there
          | inl here ↦ subst (λ n. IsSome (client_of s n)) (sym here.1)
              (subst IsSome (sym client_here) (still (subst (λ n. IsSome (client_of x.clients n)) here.1 there)))
        ]

    pub seen_still : (stages : ℕ → Stage) (dialled : List (Option ℕ)) →
        ((j : ℕ) → stages j ≡ Unseen → (p.client j ≡ None) × (exchange_of dialled j ≡ None) × (Contains p.accepted j → ⊥)) → (j : ℕ) → stages j ≡ Unseen →
        ((with_client k change p).client j ≡ None) × (exchange_of dialled j ≡ None) × (Contains p.accepted j → ⊥)
    seen_still stages dialled seen j unseen = (none_row (q.client j) refl, (seen j unseen).1, (seen j unseen).2)
      where
        none_row : (o : Option Client) → q.client j ≡ o → q.client j ≡ None
        none_row None is = is
        none_row (Some r) is = absurd (let never : false ≡ true = subst IsSome (seen j unseen).0 (row_was j (subst IsSome (sym is) refl)) in cc)

  -- ANY ROWS OF CLIENTS, where all else stays

  module _ (z : ℕ) (t : Turn) (x : loop.Proxy B g) (p : Proxy) (all : ℕ → Option Client) (few : (j : ℕ) → IsSome (all j) → IsSome (p.client j)) where
    pub upstreams_with : HasUpstreams t x p (acts_in p.part) → HasUpstreams t x (record p { client = all }) (acts_in p.part)
    upstreams_with h = record {
      rows = h.rows;
      numbers = h.numbers;
      over = h.over;
      news = h.news;
      touched = h.touched;
      opens = h.opens;
      names = h.names;
      strangers = λ k some. h.strangers k (few k some);
    }
