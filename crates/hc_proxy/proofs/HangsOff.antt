-- The connection of one exchange is hung up, which is over: the rows behind it, and the wire.
--
-- The exchange has no row behind it, and all others keep theirs. The number of its connection is no client's, since a
-- client's number is no exchange's. It is no other exchange's, since each number names one. So it is closed alone.
-- `rows_left` is of the rows, `wire_left` of the wire.
use Rattle.std.{proofs.{Common.{◌≡◌, ◌≢◌, ◌⊎◌, inl, inr, ◌≤◌, ℕ, zero, suc, [], ◌∷◌, length, true, false, Option, Some, None, refl, ap, sym, ◌∙◌, subst, arith}, lemmas.List.Elements.{Contains-append_left, Contains-append_right, Contains-append_cases}}, specs.Prelude.{nat_eq, Contains, IsSome}}
use Rattle.hc_text.proofs.Basics.{none_some, eq_itself as same_number, some_inj, true_false}
use Rattle.hc_effects.proofs.Vocabulary.{is_open}
use Rattle.hc_effects.proofs.PieceKeeps.{eq_cases}
use Rattle.hc_peers.specs.{Clients.{client_of}, Upstreams.{upstream_of}, declared.clients.Clients.{Clients}}
use Rattle.hc_peers.specs.declared.client.Client as peer
use Rattle.hc_peers.specs.declared.upstream.Upstream as origin
use Rattle.hc_store.specs.declared.backend.Backend.{Ghosts}
use Rattle.hc_wire.specs.Events.{Unseen, Open, IsOpen}
use Rattle.hc_proxy.specs.declared.proxy.Proxy as loop
use Rattle.hc_proxy.specs.{Connections.{exchange_of, connection_of, taken_at}, Invariants.{NamesOne}, Keeping.{Turn, HasClients, IsUpstreamAt, IsClientAt, AtWire, AreKnown, HangsUp, closed_by}, Rows.{Client, Proxy}}

-- a client that is kept has a row
pub has_row : (taken : ℕ) (o : Option peer.Client) (r : Option Client) (c : peer.Client) → IsClientAt taken o r → o ≡ Some c → IsSome r
has_row taken None r c at is = none_some c is
has_row taken (Some d) None c at is = absurd at
has_row taken (Some d) (Some r) c at is = refl

pub one_of : (k j : ℕ) → Contains (j ∷ []) k → j ≡ k
one_of k j (zero, within, is) = is
one_of k j (suc n, within, is) = absurd (omega arith)

module _ {B : Type 0} {g : Ghosts B} (t : Turn) (z : ℕ) (x x' : loop.Proxy B g) (p : Proxy) (shut : is_open (p.tables.exchange z) ≡ false)
    (u : HangsUp z x x') where
  gone_here : upstream_of x'.upstreams z ≡ None
  gone_here = u.gone z ∙ rw (same_number z) refl

  pub off_row : (y : ℕ) → nat_eq y z ≡ false → upstream_of x'.upstreams y ≡ upstream_of x.upstreams y
  off_row y off = u.gone y ∙ rw off refl

  not_here : {A : Type 0} (y : ℕ) (v : origin.Upstream) → upstream_of x'.upstreams y ≡ Some v → y ≡ z → A
  not_here y v is same = none_some v (sym gone_here ∙ (ap (upstream_of x'.upstreams) (sym same) ∙ is))

  pub was_there : (y : ℕ) (v : origin.Upstream) → upstream_of x'.upstreams y ≡ Some v → (nat_eq y z ≡ false) × (upstream_of x.upstreams y ≡ Some v)
  was_there y v is = elim (eq_cases y z) [
    | inl here ↦ not_here y v is here.1
    | inr other ↦ (other.0, sym (off_row y other.0) ∙ is)
  ]

  pub open_apart : (y : ℕ) → is_open (p.tables.exchange y) ≡ true → nat_eq y z ≡ false
  open_apart y on = elim (eq_cases y z) [
    | inl here ↦ true_false (sym on ∙ (ap (λ n. is_open (p.tables.exchange n)) here.1 ∙ shut))
    | inr other ↦ other.0
  ]

  pub rows_left : ((y : ℕ) → is_open (p.tables.exchange y) ≡ true → y ≤ length t.dialled →
      IsUpstreamAt (taken_at t.call) (upstream_of x.upstreams y) (p.upstream y))
      → (y : ℕ) → is_open (p.tables.exchange y) ≡ true → y ≤ length t.dialled → IsUpstreamAt (taken_at t.call) (upstream_of x'.upstreams y) (p.upstream y)
  rows_left rows y on le = subst (λ o. IsUpstreamAt (taken_at t.call) o (p.upstream y)) (sym (off_row y (open_apart y on))) (rows y on le)

  pub some_there : (y : ℕ) (o : Option origin.Upstream) → upstream_of x'.upstreams y ≡ o → IsSome o → nat_eq y z ≡ false
  some_there y None is some = absurd (let never : false ≡ true = some in cc)
  some_there y (Some v) is some = (was_there y v is).0

  -- THE WIRE

  module _ (clients : HasClients t x p)
      (numbers : (y : ℕ) (v : origin.Upstream) → upstream_of x.upstreams y ≡ Some v → connection_of t.dialled y ≡ Some v.k) (names : NamesOne t.dialled)
      (strangers : (k : ℕ) → IsSome (p.client k) → exchange_of t.dialled k ≡ None) (wire : AtWire t.stages x) where
    same_client : (k : ℕ) → client_of x'.clients k ≡ client_of x.clients k
    same_client k = ap (λ (s : Clients). client_of s k) u.clients

    held_before : (k : ℕ) → Contains x.closed.items k → Contains x'.closed.items k
    held_before k there = subst (λ ks. Contains ks k) (sym u.closed) (Contains-append_left x.closed.items (closed_by (upstream_of x.upstreams z)) k there)

    held_now : (k : ℕ) (v : origin.Upstream) → upstream_of x.upstreams z ≡ Some v → v.k ≡ k → Contains x'.closed.items k
    held_now k v is same =
        subst (λ ks. Contains ks k) (sym u.closed)
        (Contains-append_right x.closed.items (closed_by (upstream_of x.upstreams z)) k
        (subst (λ o. Contains (closed_by o) k) (sym is) (subst (λ n. Contains (v.k ∷ []) n) same (0, omega arith, refl))))

    open_there : (k : ℕ) → IsOpen (t.stages k) →
        IsSome (client_of x'.clients k) ⊎ ((y : ℕ) × (v : origin.Upstream) × (upstream_of x'.upstreams y ≡ Some v) × (v.k ≡ k)) ⊎ Contains x'.closed.items k
    open_there k opens = elim (wire.all k opens) as
        (λ _. IsSome (client_of x'.clients k) ⊎ ((y : ℕ) × (v : origin.Upstream) × (upstream_of x'.upstreams y ≡ Some v) × (v.k ≡ k)) ⊎ Contains
        x'.closed.items k) [
          | inl client ↦ inl (subst IsSome (sym (same_client k)) client)
          | inr other ↦ elim other as
              (λ _. IsSome (client_of x'.clients k) ⊎ ((y : ℕ) × (v : origin.Upstream) × (upstream_of x'.upstreams y ≡ Some v) × (v.k ≡ k)) ⊎ Contains
              x'.closed.items k) [
                | inr closes ↦ inr (inr (held_before k closes))
                | inl up ↦ elim (eq_cases up.0 z) as
                    (λ _. IsSome (client_of x'.clients k) ⊎ ((y : ℕ) × (v : origin.Upstream) × (upstream_of x'.upstreams y ≡ Some v) × (v.k ≡ k)) ⊎ Contains
                    x'.closed.items k) [
                      | inl here ↦ inr (inr (held_now k up.1 (ap (upstream_of x.upstreams) (sym here.1) ∙ up.2) up.3))
                      | inr off ↦ inr (inl (up.0, up.1, off_row up.0 off.0 ∙ up.2, up.3))
                    ]
              ]
        ]

    shut_before : (k : ℕ) → Contains x.closed.items k → (client_of x'.clients k ≡ None) ×
        ((y : ℕ) (v : origin.Upstream) → upstream_of x'.upstreams y ≡ Some v → v.k ≢ k)
    shut_before k there =
        let was = wire.closed k there in
        (same_client k ∙ was.0, λ y v is. was.1 y v (was_there y v is).1)

    no_client : (k : ℕ) (v : origin.Upstream) → upstream_of x.upstreams z ≡ Some v → v.k ≡ k → (o : Option peer.Client) → client_of x.clients k ≡ o →
        client_of x.clients k ≡ None
    no_client k v is same None none = none
    no_client k v is same (Some c) row =
        let stranger : exchange_of t.dialled k ≡ None = strangers k (has_row (taken_at t.call k) (client_of x.clients k) (p.client k) c (clients.rows k) row) in
        let named : exchange_of t.dialled v.k ≡ Some z = names z v.k (numbers z v is) in
        none_some z (sym stranger ∙ (ap (exchange_of t.dialled) (sym same) ∙ named))

    shut_now : (k : ℕ) (o : Option origin.Upstream) → upstream_of x.upstreams z ≡ o → Contains (closed_by o) k → (client_of x'.clients k ≡ None) ×
        ((y : ℕ) (v : origin.Upstream) → upstream_of x'.upstreams y ≡ Some v → v.k ≢ k)
    shut_now k None is (n, within, at) = absurd (omega arith)
    shut_now k (Some v) is there =
        let same : v.k ≡ k = one_of k v.k there in (
          same_client k ∙ no_client k v is same (client_of x.clients k) refl,
          λ y w row its.
              let was = was_there y w row in
              let here : exchange_of t.dialled v.k ≡ Some z = names z v.k (numbers z v is) in
              let other : exchange_of t.dialled w.k ≡ Some y = names y w.k (numbers y w was.1) in
              let one : y ≡ z = some_inj y z (sym other ∙ (ap (exchange_of t.dialled) (its ∙ sym same) ∙ here)) in
              not_here y w row one,
        )

    pub wire_left : AtWire t.stages x'
    wire_left = record {
      clients = λ k c is. wire.clients k c (sym (same_client k) ∙ is);
      upstreams = λ y v is. wire.upstreams y v (was_there y v is).1;
      all = open_there;
      closed = λ k there. elim
          (Contains-append_cases x.closed.items (closed_by (upstream_of x.upstreams z)) k (subst (λ ks. Contains ks k) u.closed there)) as
          (λ _. (client_of x'.clients k ≡ None) × ((y : ℕ) (v : origin.Upstream) → upstream_of x'.upstreams y ≡ Some v → v.k ≢ k)) [
            | inl before ↦ shut_before k before
            | inr now ↦ shut_now k (upstream_of x.upstreams z) refl now
          ];
    }

    known_now : (k : ℕ) (o : Option origin.Upstream) → upstream_of x.upstreams z ≡ o → Contains (closed_by o) k → t.stages k ≢ Unseen
    known_now k None is (n, within, at) unseen = absurd (omega arith)
    known_now k (Some v) is there unseen =
        let was = wire.upstreams z v is in
        let never : Unseen ≡ Open v.reading was.0 = sym unseen ∙ (ap t.stages (sym (one_of k v.k there)) ∙ was.1) in
        cc

    pub known_left : AreKnown t x → AreKnown t x'
    known_left known k there =
        elim (Contains-append_cases x.closed.items (closed_by (upstream_of x.upstreams z)) k (subst (λ ks. Contains ks k) u.closed there)) as
        (λ _. t.stages k ≢ Unseen) [
          | inl before ↦ known k before
          | inr now ↦ known_now k (upstream_of x.upstreams z) refl now
        ]
