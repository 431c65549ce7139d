-- Two states of the loop that are alike in some parts: what they represent by these parts alone stays.
--
-- Each part of what is kept looks at a few fields. The cache looks at what was stepped and recorded, and the clients at
-- their table. The connections to the origin look at theirs, and the wire at both and at what is to be closed. Where
-- these fields are the same, so is that part. There is a lemma for each: `cache_moves`, `clients_move`,
-- `upstreams_move` and `wire_moves`.
use Rattle.std.{proofs.Common.{◌≡◌, ◌⊎◌, inl, inr, ◌≤◌, ◌<◌, ℕ, List, ◌+◌, ◌++◌, Option, Some, None, ap, sym, ◌∙◌, subst}, specs.Prelude.{Contains, IsSome}}
use Rattle.hc_core.specs.Steps.{StandsFor, last_moment, limits_in, bytes_received}
use Rattle.hc_effects.proofs.Vocabulary.{Act}
use Rattle.hc_peers.specs.{Clients.{client_of}, Upstreams.{upstream_of, is_news, is_touched}, declared.clients.Clients.{Clients}}
use Rattle.hc_peers.specs.declared.upstream.Upstream as origin
use Rattle.hc_store.specs.declared.backend.Backend.{Ghosts}
use Rattle.hc_wire.specs.Events.{Stage}
use Rattle.hc_proxy.specs.declared.proxy.Proxy as loop
use Rattle.hc_proxy.specs.{Connections.{taken_at}, Headed.{AreHeaded}, Invariants.{unread}, Keeping.{Frame, Turn, HasCache, HasClients, HasUpstreams, IsClientAt, IsUpstreamAt, AtWire}, Records.{text_of, last_of}, Rows.{Client, Upstream, Proxy}}

module _ {B : Type 0} {g : Ghosts B} where
  -- THE CACHE

  pub cache_moves : (f : Frame) (x x' : loop.Proxy B g) (p : Proxy) → x'.cache ≡ x.cache → x'.record ≡ x.record → x'.now ≡ x.now → x'.starts ≡ x.starts →
      x'.front ≡ x.front →
      HasCache f x p → HasCache f x' p
  cache_moves f x x' p cache text now starts front h = record {
    setting = h.setting;
    stands = subst (λ c. StandsFor c p.setting.contents p.history) (sym cache) h.stands;
    same = h.same;
    limits = ap limits_in cache ∙ h.limits;
    now = now ∙ h.now;
    early = h.early;
    last = subst (λ c. last_moment c ≤ p.moment) (sym cache) h.last;
    starts = starts ∙ h.starts;
    front = front ∙ h.front;
    last_start = h.last_start;
    text = h.text ∙ ap (λ r. f.written ++ text_of r) (sym text);
    recorded = ap last_of text ∙ h.recorded;
    before = h.before;
    unopened = h.unopened;
    headed = h.headed;
    small = subst (λ c. unread p + bytes_received c ≤ f.bytes) (sym cache) h.small;
    bounded = h.bounded;
    room = h.room;
    targets = h.targets;
    timed = h.timed;
  }

  -- other clients stand for the same cache
  pub cache_with : (f : Frame) (x : loop.Proxy B g) (p : Proxy) (all : ℕ → Option Client) (ks : List ℕ) → HasCache f x p →
      HasCache f x (record p { client = all; accepted = ks })
  cache_with f x p all ks h = record {
    setting = h.setting;
    stands = h.stands;
    same = h.same;
    limits = h.limits;
    now = h.now;
    early = h.early;
    last = h.last;
    starts = h.starts;
    front = h.front;
    last_start = h.last_start;
    text = h.text;
    recorded = h.recorded;
    before = h.before;
    unopened = h.unopened;
    headed = h.headed;
    small = h.small;
    bounded = h.bounded;
    room = h.room;
    targets = h.targets;
    timed = h.timed;
  }

  -- and so do other rows of connections to the origin, where their answers are read as the exchanges have them
  pub cache_rows : (f : Frame) (x : loop.Proxy B g) (p : Proxy) (rows : ℕ → Option Upstream) → ((y : ℕ) → p.tables.opened < y → rows y ≡ None) →
      AreHeaded (record p { upstream = rows }) → unread (record p { upstream = rows }) + bytes_received x.cache ≤ f.bytes → HasCache f x p →
      HasCache f x (record p { upstream = rows })
  cache_rows f x p rows unopened headed small h = record {
    setting = h.setting;
    stands = h.stands;
    same = h.same;
    limits = h.limits;
    now = h.now;
    early = h.early;
    last = h.last;
    starts = h.starts;
    front = h.front;
    last_start = h.last_start;
    text = h.text;
    recorded = h.recorded;
    before = h.before;
    unopened = unopened;
    headed = headed;
    small = small;
    bounded = h.bounded;
    room = h.room;
    targets = h.targets;
    timed = h.timed;
  }

  -- CLIENTS

  pub clients_move : (t : Turn) (x x' : loop.Proxy B g) (p : Proxy) → x'.clients ≡ x.clients → HasClients t x p → HasClients t x' p
  clients_move t x x' p same h = record {
    rows = subst (λ (s : Clients). (k : ℕ) → IsClientAt (taken_at t.call k) (client_of s k) (p.client k)) (sym same) h.rows;
    order = h.order;
    listed = h.listed;
    few = h.few;
  }

  -- CONNECTIONS TO THE ORIGIN

  pub upstreams_move : (t : Turn) (x x' : loop.Proxy B g) (p : Proxy) (acts : List Act) → x'.upstreams ≡ x.upstreams → HasUpstreams t x p acts →
      HasUpstreams t x' p acts
  upstreams_move t x x' p acts us h = record {
    rows = λ y on le. subst (λ v. IsUpstreamAt (taken_at t.call) (upstream_of v y) (p.upstream y)) (sym us) (h.rows y on le);
    numbers = λ y v is. h.numbers y v (sym (ap (λ u. upstream_of u y) us) ∙ is);
    over = λ y some. h.over y (subst (λ v. IsSome (upstream_of v y)) us some);
    news = λ y on none asks. h.news y on (sym (ap (λ u. is_news u y) us) ∙ none) asks;
    touched = λ y v is on none asks. h.touched y v (sym (ap (λ u. upstream_of u y) us) ∙ is) on (sym (ap (λ u. is_touched u y) us) ∙ none) asks;
    opens = h.opens;
    names = h.names;
    strangers = h.strangers;
  }

  -- THE WIRE

  pub wire_moves : (stages : ℕ → Stage) (x x' : loop.Proxy B g) → x'.clients ≡ x.clients → x'.upstreams ≡ x.upstreams → x'.closed ≡ x.closed →
      AtWire stages x → AtWire stages x'
  wire_moves stages x x' clients upstreams closed w = record {
    clients = λ k c is. w.clients k c (sym (client k) ∙ is);
    upstreams = λ y u is. w.upstreams y u (sym (row y) ∙ is);
    all = λ k opens. elim (w.all k opens) as
        (λ _. IsSome (client_of x'.clients k) ⊎ ((y : ℕ) × (v : origin.Upstream) × (upstream_of x'.upstreams y ≡ Some v) × (v.k ≡ k)) ⊎ Contains
        x'.closed.items k) [
          | inl here ↦ inl (subst IsSome (sym (client k)) here)
          | inr other ↦ elim other as
              (λ _. IsSome (client_of x'.clients k) ⊎ ((y : ℕ) × (v : origin.Upstream) × (upstream_of x'.upstreams y ≡ Some v) × (v.k ≡ k)) ⊎ Contains
              x'.closed.items k) [
                | inl up ↦ inr (inl (up.0, up.1, row up.0 ∙ up.2, up.3))
                | inr there ↦ inr (inr (subst (λ v. Contains v.items k) (sym closed) there))
              ]
        ];
    closed = λ k there. let was = w.closed k (subst (λ v. Contains v.items k) closed there) in (client k ∙ was.0, λ y u is. was.1 y u (sym (row y) ∙ is));
  }
    where
      client : (k : ℕ) → client_of x'.clients k ≡ client_of x.clients k
      client k = ap (λ s. client_of s k) clients

      row : (y : ℕ) → upstream_of x'.upstreams y ≡ upstream_of x.upstreams y
      row y = ap (λ s. upstream_of s y) upstreams
