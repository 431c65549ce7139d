-- An event comes of an open connection: what was kept before it is kept behind it.
--
-- It says that an end was handed out, or changes no stage. So who was open is open, reading on as before, and no number
-- is new. `Stays` says that of the stages (`stays_same`, `stays_ended`), and what is kept is read off it
-- (`event_quiet`). The connection of the event is open, so what is to be done for it may be done (`event_at`). Room and
-- quiet change nothing else (`room_goes`, `quiet_goes`).
use Rattle.std.{proofs.{Common.{◌≡◌, ◌⊎◌, inl, inr, ◌≤◌, ℕ, ◌+◌, List, Bool, true, Option, Some, None, refl, ap, sym, ◌∙◌, subst, arith}, lemmas.Bool.Decides.{nat_tests}, Math.Logic.{∥∥₁_map, ∥∥₁_elim}}, specs.{Prelude.{nat_eq, not, if◌then◌else◌}, List.{list_all}}}
use Rattle.hc_effects.proofs.Vocabulary.{Event, received_in}
use Rattle.hc_effects.proofs.PieceKeeps.{eq_cases}
use Rattle.hc_peers.specs.Clients.{client_of}
use Rattle.hc_peers.specs.declared.client.Client as peer
use Rattle.hc_store.specs.declared.backend.Backend.{Ghosts}
use Rattle.hc_wire.specs.{Events.{Stage, Unseen, Open, Closed, IsOpen, IsUnended, ended_of, got_bytes}, declared.event.WireEvent.{WireEvent}}
use Rattle.hc_wire.specs.declared.event.WireEvent.TheVariants as wire
use Rattle.hc_core.specs.Steps.{bytes_received, faults_in}
use Rattle.hc_proxy.specs.declared.proxy.Proxy as loop
use Rattle.hc_proxy.specs.{Carrying.{acts_in}, Handling.{handled, handled_by}, Invariants.{is_quiet, unread}, Keeping.{Frame, Turn, HasCache, AtWire, AtEvent, IsAtEvent, StandsForSome, Begun, IsBegun, KeepsQuiet, Stepped, Goes}, Rows.{Proxy}, Waiting.{is_waiting}}
use Rattle.hc_proxy.proofs.Alike.{cache_moves}

-- THE STAGES

pub record Stays (before behind : ℕ → Stage) : Type 0 where
  pub on : (j : ℕ) (reads ended : Bool) → before j ≡ Open reads ended → (later : Bool) × (behind j ≡ Open reads later)
  pub back : (j : ℕ) → IsOpen (behind j) → IsOpen (before j)
  pub unseen : (j : ℕ) → behind j ≡ Unseen → before j ≡ Unseen

pub stays_same : (before behind : ℕ → Stage) → ((j : ℕ) → behind j ≡ before j) → Stays before behind
stays_same before behind same = record {
  on = λ j reads ended is. (ended, same j ∙ is);
  back = λ j opens. subst IsOpen (same j) opens;
  unseen = λ j is. sym (same j) ∙ is;
}

ended_open : (stage : Stage) → IsUnended stage → IsOpen (ended_of stage)
ended_open Unseen h = absurd h
ended_open (Open reads ended) h = tt
ended_open Closed h = absurd h

false_of : {A : Type 0} (stage : Stage) → IsUnended stage → ended_of stage ≡ Unseen → A
false_of Unseen h is = absurd h
false_of (Open reads ended) h is = absurd (let never : Open reads true ≡ Unseen = is in cc)
false_of Closed h is = absurd h

unended_open : (stage : Stage) → IsUnended stage → IsOpen stage
unended_open Unseen h = h
unended_open (Open reads ended) h = tt
unended_open Closed h = h

stays_ended : (before behind : ℕ → Stage) (k : ℕ) → IsUnended (before k) → ((j : ℕ) → behind j ≡ (if nat_eq j k then ended_of (before k) else before j)) →
    Stays before behind
stays_ended before behind k un same = record {
  on = λ j reads ended is. elim (eq_cases j k) as (λ _. (later : Bool) × (behind j ≡ Open reads later)) [
    | inr off ↦ (ended, same j ∙ (rw off.0 is))
    | inl here ↦ (true, same j ∙ rw here.0 (ap ended_of (ap before (sym here.1) ∙ is)))
  ];
  back = λ j opens. elim (eq_cases j k) as (λ _. IsOpen (before j)) [
    | inr off ↦ subst IsOpen (same j ∙ rw off.0 refl) opens
    | inl here ↦ subst (λ n. IsOpen (before n)) (sym here.1) (unended_open (before k) un)
  ];
  unseen = λ j is. elim (eq_cases j k) as (λ _. before j ≡ Unseen) [
    | inr off ↦ sym (same j ∙ rw off.0 refl) ∙ is
    | inl here ↦ false_of (before k) un (sym (same j ∙ rw here.0 refl) ∙ is)
  ];
}

module _ {B : Type 0} {g : Ghosts B} where
  module _ (t : Turn) (x : loop.Proxy B g) (p : Proxy) (ev : WireEvent) (slice : List ℕ) (b : Begun t x p ev slice) (s : Stays b.before t.stages) where
    wire_behind : AtWire t.stages x
    wire_behind = record {
      clients = λ k c is. let was = b.keeps.wire.clients k c is in s.on k c.reading was.0 was.1;
      upstreams = λ y u is. let was = b.keeps.wire.upstreams y u is in s.on u.k u.reading was.0 was.1;
      all = λ k opens. b.keeps.wire.all k (s.back k opens);
      closed = b.keeps.wire.closed;
    }

    pub event_quiet : KeepsQuiet t x p
    event_quiet = record {
      keeps = record {
        cache = b.keeps.cache;
        acts = b.keeps.acts;
        clients = record { rows = b.keeps.clients.rows; order = b.keeps.clients.order; listed = b.keeps.clients.listed; few = b.keeps.clients.few };
        consumers = b.keeps.consumers;
        upstreams = record {
          rows = b.keeps.upstreams.rows;
          numbers = b.keeps.upstreams.numbers;
          over = b.keeps.upstreams.over;
          news = b.keeps.upstreams.news;
          touched = b.keeps.upstreams.touched;
          opens = b.keeps.upstreams.opens;
          names = b.keeps.upstreams.names;
          strangers = b.keeps.upstreams.strangers;
        };
        wire = wire_behind;
        numbers = b.keeps.numbers;
        opened = b.keeps.opened;
        seen = λ k is. b.keeps.seen k (s.unseen k is);
        shut = b.keeps.shut;
        known = λ k there is. b.keeps.known k there (s.unseen k is);
      };
      moved = b.moved ∙ sym (ap (λ es. not (list_all is_waiting es)) b.part);
      quiet = ap (λ es. list_all is_quiet (acts_in es)) b.part;
    }

    pub event_at : (k : ℕ) → IsOpen (t.stages k) → AtEvent t x p k
    event_at k opens = record { quiet = event_quiet; part = b.part; closed = b.closed; opens = opens; room = b.room }

  pub got_at : (t : Turn) (x : loop.Proxy B g) (p : Proxy) (k n : ℕ) (slice : List ℕ) → Begun t x p (wire.Got k n) slice → AtEvent t x p k
  got_at t x p k n slice b = event_at t x p (wire.Got k n) slice b (stays_same b.before t.stages b.stages) k (subst IsOpen (sym (b.stages k ∙ b.of_open)) tt)

  pub broke_at : (t : Turn) (x : loop.Proxy B g) (p : Proxy) (k : ℕ) (slice : List ℕ) → Begun t x p (wire.Broke k) slice → AtEvent t x p k
  broke_at t x p k slice b = event_at t x p (wire.Broke k) slice b (stays_same b.before t.stages b.stages) k (subst IsOpen (sym (b.stages k)) b.of_open)

-- THE SAME EVENT, of a cache that is the same

module _ {B : Type 0} {g : Ghosts B} where
  pub same_some : (x x' : loop.Proxy B g) → x'.cache ≡ x.cache → x'.record ≡ x.record → x'.now ≡ x.now → x'.starts ≡ x.starts → x'.front ≡ x.front →
      ∥ StandsForSome x ∥₁ →
      ∥ StandsForSome x' ∥₁
  same_some x x' cache text now starts front some = ∥∥₁_map some (λ s. (s.0, s.1, cache_moves s.0 x x' s.1 cache text now starts front s.2))

  pub same_step : (x mid : loop.Proxy B g) (m : Bool) (ev : Event)
      → ((f : Frame) (p : Proxy) → HasCache f (record x { moved = m }) p → unread p + bytes_received x.cache + received_in ev ≤ f.bytes →
      Stepped f (record x { moved = m }) mid ev p)
      → (f : Frame) (p : Proxy) → HasCache f x p → unread p + bytes_received x.cache + received_in ev ≤ f.bytes → Stepped f x mid ev p
  same_step x mid m ev steps f p h room =
      let st = steps f p (cache_moves f x (record x { moved = m }) p refl refl refl refl refl h) room in
      record { e = st.e; now = st.now; event_is = st.event_is; is_owed = st.is_owed; acts = st.acts; cache = st.cache; later = st.later; same = st.same }

module _ {B : Type 0} {g : Ghosts B} where
  pub ended_at : (t : Turn) (x : loop.Proxy B g) (p : Proxy) (k : ℕ) (slice : List ℕ) → Begun t x p (wire.Ended k) slice → AtEvent t x p k
  ended_at t x p k slice b =
      let is : t.stages k ≡ ended_of (b.before k) = b.stages k ∙ rw (same_number k) refl in
      event_at t x p (wire.Ended k) slice b (stays_ended b.before t.stages k b.of_open b.stages) k (subst IsOpen (sym is) (ended_open (b.before k) b.of_open))
    where
      same_number : (n : ℕ) → nat_eq n n ≡ true
      same_number n = grind (arith, nat_tests)

  -- WHAT IS TO BE DONE

  pub handled_is : (t : Turn) (x : loop.Proxy B g) (p : Proxy) (ev : WireEvent) (slice : List ℕ) → Begun t x p ev slice →
      handled t.frame.limits t.dialled t.call p ≡ handled_by t.frame.limits t.dialled (got_bytes ev slice) ev p
  unfolding handled
  handled_is t x p ev slice b = ap (λ e. handled_by t.frame.limits t.dialled t.call.bytes e p) b.event_is ∙
      ap (λ z. handled_by t.frame.limits t.dialled z ev p) b.bytes

  idle_goes : (t : Turn) (x : loop.Proxy B g) (p : Proxy) (ev : WireEvent) (slice : List ℕ) (b : Begun t x p ev slice) →
      ((j : ℕ) → t.stages j ≡ b.before j) → handled_by t.frame.limits t.dialled (got_bytes ev slice) ev p ≡ p →
      Goes (KeepsQuiet t) (faults_in x.cache) x (handled t.frame.limits t.dialled t.call p)
  idle_goes t x p ev slice b same none = record {
    q = p;
    keeps = event_quiet t x p ev slice b (stays_same b.before t.stages same);
    later = omega arith;
    same = λ calm. sym (handled_is t x p ev slice b ∙ none);
  }

  pub room_goes : (t : Turn) (x : loop.Proxy B g) (p : Proxy) (k : ℕ) (slice : List ℕ) → Begun t x p (wire.Room k) slice →
      Goes (KeepsQuiet t) (faults_in x.cache) x (handled t.frame.limits t.dialled t.call p)
  room_goes t x p k slice b = idle_goes t x p (wire.Room k) slice b b.stages refl

  pub quiet_goes : (t : Turn) (x : loop.Proxy B g) (p : Proxy) (slice : List ℕ) → Begun t x p wire.Quiet slice →
      Goes (KeepsQuiet t) (faults_in x.cache) x (handled t.frame.limits t.dialled t.call p)
  quiet_goes t x p slice b = idle_goes t x p wire.Quiet slice b b.stages refl

  pub event_is_at : (k : ℕ) (x : loop.Proxy B g) (ev : WireEvent) (slice : List ℕ) → (ev ≡ wire.Ended k) ⊎ (ev ≡ wire.Broke k) → ∥ IsBegun x ev slice ∥₁ →
      ∥ IsAtEvent x k ∥₁
  event_is_at k x ev slice (inl is) some = ∥∥₁_map some (λ s. (s.0, s.1, ended_at s.0 x s.1 k slice (subst (λ e. Begun s.0 x s.1 e slice) is s.2)))
  event_is_at k x ev slice (inr is) some = ∥∥₁_map some (λ s. (s.0, s.1, broke_at s.0 x s.1 k slice (subst (λ e. Begun s.0 x s.1 e slice) is s.2)))

  -- a number that is accepted is that of no client
  pub come_free : (x : loop.Proxy B g) (k : ℕ) → ∥ ((slice : List ℕ) × IsBegun x (wire.Accepted k) slice) ∥₁ → (o : Option peer.Client) →
      client_of x.clients k ≡ o → client_of x.clients k ≡ None
  come_free x k some None is = is
  come_free x k some (Some d) is = absurd (∥∥₁_elim some (λ a b. absurd a) (λ s.
      let b = s.1.2 in
      let was = b.keeps.wire.clients k d is in
      let never : Unseen ≡ Open d.reading was.0 = sym b.of_open ∙ was.1 in cc))
