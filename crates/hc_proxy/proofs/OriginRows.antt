-- A change of the row of one connection to the origin, in the code and in the definitions: all others have theirs.
--
-- Where both rows are changed alike, what is kept stays kept. The exchange keeps its connection, so the numbers stay,
-- and the wire reads on as it was told. No more bytes are unread than there is room for. Its answer is read behind its
-- head only where it has that. `changed_upstreams` is of the rows, `wire` of the wire, and `row_changed` joins them.
use Rattle.std.{proofs.Common.{◌≡◌, ◌⊎◌, inl, inr, ◌≤◌, ◌<◌, ℕ, ◌+◌, length, true, false, Option, Some, None, refl, ap, sym, ◌∙◌, subst}, specs.Prelude.{nat_eq, option_map, IsSome, Contains}}
use Rattle.hc_text.proofs.Basics.{none_some, eq_itself as same_number, some_inj}
use Rattle.hc_core.specs.Steps.{bytes_received}
use Rattle.hc_effects.proofs.Vocabulary.{is_open, is_wanted}
use Rattle.hc_effects.proofs.PieceKeeps.{eq_cases}
use Rattle.hc_peers.specs.{Clients.{client_of}, Upstreams.{upstream_of, is_news, is_touched, Becomes}, declared.upstreams.Upstreams.{Upstreams}}
use Rattle.hc_peers.specs.declared.upstream.Upstream as origin
use Rattle.hc_store.specs.declared.backend.Backend.{Ghosts}
use Rattle.hc_wire.specs.Events.{Open}
use Rattle.hc_proxy.specs.declared.proxy.Proxy as loop
use Rattle.hc_proxy.specs.{Carrying.{acts_in}, Connections.{taken_at}, Headed.{IsReadAs, AreHeaded}, Invariants.{IsHolder, is_due_by, unread}, Keeping.{Turn, HasCache, HasUpstreamsBut, IsUpstream, IsUpstreamAt, AtWire, KeepsBut}, Rows.{Upstream, Proxy, with_upstream}}
use Rattle.hc_proxy.proofs.Alike.{cache_moves, cache_rows}

-- a row that is kept has one in the definitions
pub record HasRow (taken : ℕ → ℕ) (u : origin.Upstream) (o : Option Upstream) : Type 0 where
  pub v : Upstream
  pub is : o ≡ Some v
  pub alike : IsUpstream (taken u.k) u v

pub row_of : (taken : ℕ → ℕ) (u : origin.Upstream) (c : Option origin.Upstream) (o : Option Upstream) → c ≡ Some u → IsUpstreamAt taken c o → HasRow taken u o
row_of taken u None o is at = none_some u is
row_of taken u (Some w) None is at = absurd at
row_of taken u (Some w) (Some v) is at = let same : w ≡ u = some_inj w u is in
    record { v = v; is = refl; alike = subst (λ (n : origin.Upstream). IsUpstream (taken n.k) n v) same at }

module _ {B : Type 0} {g : Ghosts B} (z : ℕ) (t : Turn) (x : loop.Proxy B g) (p : Proxy) (h : KeepsBut z t x p) (change : Upstream → Upstream)
    (old new : origin.Upstream) (row : upstream_of x.upstreams z ≡ Some old) (s : Upstreams) (becomes : Becomes z (Some new) x.upstreams s) where
  abbrev pub q : Proxy
  q = with_upstream z change p

  here_row : upstream_of s z ≡ Some new
  here_row = becomes z ∙ rw (same_number z) refl

  off_row : (y : ℕ) → nat_eq y z ≡ false → upstream_of s y ≡ upstream_of x.upstreams y
  off_row y off = becomes y ∙ rw off refl

  here_is : q.upstream z ≡ option_map change (p.upstream z)
  here_is = rw (same_number z) refl

  off_is : (y : ℕ) → nat_eq y z ≡ false → q.upstream y ≡ p.upstream y
  off_is y off = rw off refl

  -- the numbers, and what the wire was told, stay
  module _ (k : new.k ≡ old.k) (reads : new.reading ≡ old.reading)
      (alike : (v : Upstream) → p.upstream z ≡ Some v → IsUpstream (taken_at t.call old.k) old v → IsUpstream (taken_at t.call new.k) new (change v))
      (news : (y : ℕ) → nat_eq y z ≡ false → is_news s y ≡ is_news x.upstreams y)
      (touched : (y : ℕ) → nat_eq y z ≡ false → is_touched s y ≡ is_touched x.upstreams y)
      (heads : (v : Upstream) → is_open (p.tables.exchange z) ≡ true → p.upstream z ≡ Some v → IsReadAs (change v).reading (p.tables.exchange z))
      (room : unread (with_upstream z change p) + bytes_received x.cache ≤ t.frame.bytes) where
    headed_here : (o : Option Upstream) → p.upstream z ≡ o → (v : Upstream) → is_open (p.tables.exchange z) ≡ true → option_map change o ≡ Some v →
        IsReadAs v.reading (p.tables.exchange z)
    headed_here None is v on at = none_some v at
    headed_here (Some w) is v on at = subst (λ (u : Upstream). IsReadAs u.reading (p.tables.exchange z)) (some_inj (change w) v at) (heads w on is)

    headed : AreHeaded q
    headed y v on at = elim (eq_cases y z) as (λ _. IsReadAs v.reading (p.tables.exchange y)) [
      | inr off ↦ h.cache.headed y v on (sym (off_is y off.0) ∙ at)
      | inl here ↦ subst (λ n. IsReadAs v.reading (p.tables.exchange n)) (sym here.1)
          (headed_here (p.upstream z) refl v (ap (λ n. is_open (p.tables.exchange n)) (sym here.1) ∙ on) (sym here_is ∙ (ap q.upstream (sym here.1) ∙ at)))
    ]

    cache : HasCache t.frame (record x { upstreams = s }) q
    cache = cache_rows t.frame (record x { upstreams = s }) p q.upstream unopened headed room
        (cache_moves t.frame x (record x { upstreams = s }) p refl refl refl refl refl h.cache)
      where
        unopened : (y : ℕ) → p.tables.opened < y → q.upstream y ≡ None
        unopened y lt = elim (eq_cases y z) as (λ _. q.upstream y ≡ None) [
          | inr off ↦ off_is y off.0 ∙ h.cache.unopened y lt
          | inl here ↦ ap q.upstream here.1 ∙ (here_is ∙ ap (option_map change) (ap p.upstream (sym here.1) ∙ h.cache.unopened y lt))
        ]

    at_here : is_open (p.tables.exchange z) ≡ true → z ≤ length t.dialled → IsUpstreamAt (taken_at t.call) (upstream_of s z) (q.upstream z)
    at_here on le =
        let r = row_of (taken_at t.call) old (upstream_of x.upstreams z) (p.upstream z) row (h.upstreams.rows z on le) in
        subst (λ o. IsUpstreamAt (taken_at t.call) o (q.upstream z)) (sym here_row)
        (subst (λ o. IsUpstreamAt (taken_at t.call) (Some new) o) (sym (here_is ∙ ap (option_map change) r.is)) (alike r.v r.is r.alike))

    rows : (y : ℕ) → is_open (p.tables.exchange y) ≡ true → y ≤ length t.dialled → IsUpstreamAt (taken_at t.call) (upstream_of s y) (q.upstream y)
    rows y on le = elim (eq_cases y z) as (λ _. IsUpstreamAt (taken_at t.call) (upstream_of s y) (q.upstream y)) [
      | inr off ↦ subst (λ o. IsUpstreamAt (taken_at t.call) o (q.upstream y)) (sym (off_row y off.0))
          (subst (λ o. IsUpstreamAt (taken_at t.call) (upstream_of x.upstreams y) o) (sym (off_is y off.0)) (h.upstreams.rows y on le))
      | inl here ↦ subst (λ n. is_open (p.tables.exchange n) ≡ true → n ≤ length t.dialled →
          IsUpstreamAt (taken_at t.call) (upstream_of s n) (q.upstream n)) (sym here.1) at_here on le
    ]

    -- who had one has one, of the same number
    pub record Was (y : ℕ) (u : origin.Upstream) : Type 0 where
      pub v : origin.Upstream
      pub is : upstream_of x.upstreams y ≡ Some v
      pub number : u.k ≡ v.k
      pub reading : u.reading ≡ v.reading

    was : (y : ℕ) (u : origin.Upstream) → upstream_of s y ≡ Some u → Was y u
    was y u is = elim (eq_cases y z) as (λ _. Was y u) [
      | inr off ↦ record { v = u; is = sym (off_row y off.0) ∙ is; number = refl; reading = refl }
      | inl here ↦
          let same : new ≡ u = some_inj new u (sym here_row ∙ (ap (upstream_of s) (sym here.1) ∙ is)) in
          record {
            v = old;
            is = ap (upstream_of x.upstreams) here.1 ∙ row;
            number = ap (λ (w : origin.Upstream). w.k) (sym same) ∙ k;
            reading =
                ap (λ (w : origin.Upstream). w.reading) (sym same) ∙ reads;
          }
    ]

    changed_upstreams : HasUpstreamsBut z t (record x { upstreams = s }) q (acts_in p.part)
    changed_upstreams = record {
      rows = rows;
      numbers = λ y u is. let w = was y u is in h.upstreams.numbers y w.v w.is ∙ ap Some (sym w.number);
      over = λ y off some. h.upstreams.over y off (subst IsSome (off_row y off) some);
      news = λ y off on none asks. ap (λ o. is_due_by (is_wanted (p.tables.exchange y)) o) (off_is y off) ∙
          h.upstreams.news y off on (sym (news y off) ∙ none) asks;
      touched = λ y u off is on none asks. h.upstreams.touched y u off (sym (off_row y off) ∙ is) on (sym (touched y off) ∙ none) asks;
      opens = h.upstreams.opens;
      names = h.upstreams.names;
      strangers = h.upstreams.strangers;
    }

    wire : AtWire t.stages (record x { upstreams = s })
    wire = record {
      clients = h.wire.clients;
      upstreams = λ y u is. let w = was y u is in let old_stage = h.wire.upstreams y w.v w.is in
          (old_stage.0, ap t.stages w.number ∙ (old_stage.1 ∙ ap (λ b. Open b old_stage.0) (sym w.reading)));
      all = λ j opens. elim (h.wire.all j opens) as
          (λ _. IsSome (client_of x.clients j) ⊎ ((y : ℕ) × (v : origin.Upstream) × (upstream_of s y ≡ Some v) × (v.k ≡ j)) ⊎ Contains x.closed.items j) [
            | inl there ↦ inl there
            | inr other ↦ elim other as
                (λ _. IsSome (client_of x.clients j) ⊎ ((y : ℕ) × (v : origin.Upstream) × (upstream_of s y ≡ Some v) × (v.k ≡ j)) ⊎ Contains x.closed.items j) [
                  | inr there ↦ inr (inr there)
                  | inl up ↦ elim (eq_cases up.0 z) as
                      (λ _. IsSome (client_of x.clients j) ⊎ ((y : ℕ) × (v : origin.Upstream) × (upstream_of s y ≡ Some v) × (v.k ≡ j)) ⊎ Contains
                      x.closed.items j) [
                        | inr off ↦ inr (inl (up.0, up.1, off_row up.0 off.0 ∙ up.2, up.3))
                        | inl here ↦ inr (inl (
                          z,
                          new,
                          here_row,
                          k ∙
                              (ap (λ (w : origin.Upstream). w.k) (some_inj old up.1 (sym row ∙ (ap (upstream_of x.upstreams) (sym here.1) ∙ up.2))) ∙ up.3),
                        ))
                      ]
                ]
          ];
      closed = λ j there. let shut = h.wire.closed j there in (shut.0, λ y u is its. let w = was y u is in shut.1 y w.v w.is (sym w.number ∙ its));
    }

    pub row_changed : KeepsBut z t (record x { upstreams = s }) (with_upstream z change p)
    row_changed = record {
      cache = cache;
      acts = h.acts;
      clients = record { rows = h.clients.rows; order = h.clients.order; listed = h.clients.listed; few = h.clients.few };
      consumers = record {
        held = λ j c w. h.consumers.held j c (back j c w);
        started = λ j c w. h.consumers.started j c (back j c w);
        live =
            λ c is. (let w = h.consumers.live c is in (w.0, on w.0 c w.1));
        alive = λ j c w. h.consumers.alive j c (back j c w);
        idle = h.consumers.idle;
      };
      upstreams = changed_upstreams;
      wire = wire;
      numbers = h.numbers;
      opened = h.opened;
      seen = h.seen;
      shut = h.shut;
      known = h.known;
      moved = h.moved;
      quiet = h.quiet;
    }
      where
        back : (j c : ℕ) → IsHolder q j c → IsHolder p j c
        back j c w = record { row = w.row; at = w.at; here = w.here; consumer = w.consumer }

        on : (j c : ℕ) → IsHolder p j c → IsHolder q j c
        on j c w = record { row = w.row; at = w.at; here = w.here; consumer = w.consumer }
