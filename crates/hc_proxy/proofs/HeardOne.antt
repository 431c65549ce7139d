-- What the functions of the step *network* ask for, and what their calls come to.
--
-- Some tables stand for the cache while something is done for an exchange. Where the code says that the exchange is
-- open, it is so in them: so its number was given out, and some steps are left for it. A piece has room where tables
-- have it. Its acts begin behind those before, so whether it was denied is told by the acts from there on; and a fault
-- behind a denied piece is stepped over the tables behind that piece.
use Rattle.std.{proofs.{Common.{◌≡◌, inl, inr, ◌≤◌, ◌<◌, ℕ, ◌+◌, List, length, length-append, drop, Bool, true, false, refl, ap, sym, ◌∙◌, subst, arith}, Math.{Bridge.{le_prop}, Logic.{∥∥₁_elim, ∥∥₁_map}}}, specs.Prelude.{◌^◌, nat_lt}}
use Rattle.hc_core.specs.Steps.{StandsFor, limits_in, steps, bytes_received}
use Rattle.hc_effects.proofs.Vocabulary.{act_list, is_denied, History, Contents, is_open, Tables, tables, event}
use Rattle.hc_msg.specs.declared.message.WirePart.{WirePart}
use Rattle.hc_msg.specs.declared.message.WirePart.TheVariants as part
use Rattle.hc_peers.specs.{Upstreams.{is_news}, declared.upstreams.Upstreams.{Upstreams}}
use Rattle.hc_store.specs.declared.backend.Backend.{Ghosts}
use Rattle.hc_proxy.specs.declared.proxy.Proxy as loop
use Rattle.hc_proxy.specs.{Hearing.{length_of, PartStepped, MayTake, MayStep, IsOpenHere}, Invariants.{unread}, Keeping.{Frame, Turn, HasCache, StandsForSome, Stepped, RestStays, KeepsBut}, Rows.{Proxy, Setting}, Steps.{with_entry}}
use Rattle.hc_proxy.proofs.{Alike.{cache_moves}, HandedOn.{open_number}, PollOne.{appended}, Stands.{few_exchanges}, StepOn.{law_of}}

module _ {B : Type 0} {g : Ghosts B} where
  -- so few bytes more are received
  pub few_bytes : (x : loop.Proxy B g) → ∥ StandsForSome x ∥₁ → (n : ℕ) → n ≤ 65536 → bytes_received x.cache + n < 2 ^ 61
  few_bytes x some n few = ∥∥₁_elim some le_prop (λ s.
      let a : unread s.1 + bytes_received x.cache ≤ s.0.bytes = s.2.small in
      let b : s.0.bytes ≤ 2 ^ 60 = s.2.bounded in
      omega arith)

  -- where the cache is the same
  pub may_stands : (n z : ℕ) (x x' : loop.Proxy B g) → x'.cache ≡ x.cache → x'.record ≡ x.record → x'.now ≡ x.now → x'.starts ≡ x.starts → x'.front ≡ x.front →
      ∥ MayStep n z x ∥₁ → ∥ StandsForSome x' ∥₁
  may_stands n z x x' cache text now starts front some = ∥∥₁_map some
      (λ s. (s.0.frame, s.1, cache_moves s.0.frame x x' s.1 cache text now starts front s.2.cache))

  pub here_stands : (z : ℕ) (x x' : loop.Proxy B g) → x'.cache ≡ x.cache → x'.record ≡ x.record → x'.now ≡ x.now → x'.starts ≡ x.starts → x'.front ≡ x.front →
      ∥ IsOpenHere z x ∥₁ → ∥ StandsForSome x' ∥₁
  here_stands z x x' cache text now starts front some = ∥∥₁_map some
      (λ s. (s.0.frame, s.1, cache_moves s.0.frame x x' s.1 cache text now starts front s.2.cache))

  -- an open exchange has a number that was given out
  number_of : (z : ℕ) (t : Turn) (x : loop.Proxy B g) (p : Proxy) → KeepsBut z t x p → is_open (p.tables.exchange z) ≡ true →
      z ≤ p.setting.contents.next_exchange + steps x.cache
  number_of z t x p h on =
      let a : z ≤ p.tables.opened = open_number p.tables (law_of t.frame x p h.cache) z on (nat_lt p.tables.opened z) refl in
      let b : p.tables.opened ≤ p.setting.contents.next_exchange + steps x.cache = h.opened in
      omega arith

  pub here_small : (z : ℕ) (x : loop.Proxy B g) → ∥ IsOpenHere z x ∥₁ → steps x.cache < 2 ^ 60 → z < 2 ^ 62
  here_small z x some few = ∥∥₁_elim some le_prop (λ s.
      let a : z ≤ s.1.setting.contents.next_exchange + steps x.cache = number_of z s.0 x s.1 s.2 s.3 in
      let b : s.1.setting.contents.next_exchange ≤ 2 ^ 60 = few_exchanges (limits_in x.cache) s.1.setting s.2.cache.stands.begins in
      omega arith)

  -- where the code says that it is open
  pub may_here : (n z : ℕ) (x : loop.Proxy B g) → ∥ MayStep n z x ∥₁ →
      ((t : Turn) (p : Proxy) → KeepsBut z t x p → is_open (p.tables.exchange z) ≡ true) → ∥ IsOpenHere z x ∥₁
  may_here n z x some on = ∥∥₁_map some (λ s. (s.0, s.1, s.2, on s.0 s.1 s.2))

  pub may_few : (n z : ℕ) (x : loop.Proxy B g) → ∥ MayStep n z x ∥₁ → ((t : Turn) (p : Proxy) → KeepsBut z t x p → is_open (p.tables.exchange z) ≡ true) →
      steps x.cache + n ≤ 2 ^ 60
  may_few n z x some on = ∥∥₁_elim some le_prop (λ s. s.3 (on s.0 s.1 s.2))

  -- WHAT THE CACHE SAYS

  pub open_is : (f : Frame) (x : loop.Proxy B g) (p : Proxy) → HasCache f x p → (z : ℕ) (b : Bool) →
      ((contents : Contents) (h : History) → StandsFor x.cache contents h → b ≡ is_open ((tables contents h).exchange z)) → is_open (p.tables.exchange z) ≡ b
  open_is f x p h z b says = ap (λ (t : Tables). is_open (t.exchange z)) h.same ∙ sym (says p.setting.contents p.history h.stands)

  -- over other tables of connections
  pub cache_over : (f : Frame) (x : loop.Proxy B g) (p : Proxy) (s : Upstreams) → HasCache f x p → HasCache f (record x { upstreams = s }) p
  cache_over f x p s h = cache_moves f x (record x { upstreams = s }) p refl refl refl refl refl h

  -- a step changes no list
  pub still_news : (x : loop.Proxy B g) (s : Upstreams) (x' : loop.Proxy B g) → ((y : ℕ) → is_news s y ≡ is_news x.upstreams y) →
      RestStays (record x { upstreams = s }) x' → (y : ℕ) → is_news x'.upstreams y ≡ is_news x.upstreams y
  still_news x s x' stays rest y = ap (λ (up : Upstreams). is_news up y) rest.upstreams ∙ stays y

  -- A PART

  pub take_stands : (w : WirePart) (x : loop.Proxy B g) → ∥ MayTake w x ∥₁ → ∥ StandsForSome x ∥₁
  take_stands w x some = ∥∥₁_map some (λ s. (s.0, s.1, s.2))

  -- a piece was answered, and its acts begin there
  module _ (x mid : loop.Proxy B g) (z : ℕ) (w : WirePart) (bytes : List ℕ) (is : w ≡ part.Piece bytes)
      (stepped : (f : Frame) (p : Proxy) → HasCache f x p → unread p + bytes_received x.cache + length bytes ≤ f.bytes →
      Stepped f x mid (event.Piece z bytes) p) (first : ℕ) (begins : first ≡ length (act_list x.acts)) where
    room_here : (f : Frame) (p : Proxy) → unread p + bytes_received x.cache + length_of w ≤ f.bytes → unread p + bytes_received x.cache + length bytes ≤ f.bytes
    room_here f p room = subst (λ (v : WirePart). unread p + bytes_received x.cache + length_of v ≤ f.bytes) is room

    pub first_within : ∥ MayTake w x ∥₁ → first ≤ length (act_list mid.acts)
    first_within some = ∥∥₁_elim some le_prop (λ s.
        let made = stepped s.0 s.1 s.2 (room_here s.0 s.1 s.3) in
        let all : length (act_list mid.acts) ≡ length (act_list x.acts) + length made.e.acts = ap length made.acts ∙
        length-append (act_list x.acts) made.e.acts in
        omega arith)

    pub mid_stands : ∥ MayTake w x ∥₁ → ∥ StandsForSome mid ∥₁
    mid_stands some = ∥∥₁_map some (λ s. let made = stepped s.0 s.1 s.2 (room_here s.0 s.1 s.3) in (s.0, with_entry made.e s.1, made.cache))

    denied_as : (f : Frame) (p : Proxy) (made : Stepped f x mid (event.Piece z bytes) p) (b : Bool) → b ≡ is_denied (drop first (act_list mid.acts)) →
        is_denied made.e.acts ≡ b
    denied_as f p made b reported = ap is_denied (sym (appended first (act_list x.acts) (act_list mid.acts) made.e.acts begins made.acts)) ∙ sym reported

    module _ (rest : RestStays x mid) (moved : mid.moved ≡ true) (one : steps mid.cache ≡ steps x.cache + 1) (b : Bool)
        (reported : b ≡ is_denied (drop first (act_list mid.acts))) where
      pub piece_passes : b ≡ false → (f : Frame) (p : Proxy) → HasCache f x p → unread p + bytes_received x.cache + length_of w ≤ f.bytes →
          PartStepped f x mid z w p
      piece_passes on f p h room =
          let made = stepped f p h (room_here f p room) in
          subst (λ (v : WirePart). PartStepped f x mid z v p) (sym is)
          (record { mid = mid; first = made; rest = rest; moved = moved; one = one; behind = inl (denied_as f p made b reported ∙ on, refl) })

      pub piece_denied : b ≡ true → (x' : loop.Proxy B g) → ((f : Frame) (p : Proxy) → HasCache f mid p → Stepped f mid x' (event.Fault z) p) →
          RestStays mid x' → steps x'.cache ≡ steps mid.cache + 1 → (f : Frame) (p : Proxy) → HasCache f x p →
          unread p + bytes_received x.cache + length_of w ≤ f.bytes → PartStepped f x x' z w p
      piece_denied off x' fault rest' one' f p h room =
          let made = stepped f p h (room_here f p room) in
          subst (λ (v : WirePart). PartStepped f x x' z v p) (sym is)
          (record {
            mid = mid;
            first = made;
            rest = rest;
            moved = moved;
            one = one;
            behind = inr (denied_as f p made b reported ∙ off, record { stepped = fault f (with_entry made.e p) made.cache; rest = rest'; one = one' });
          })
