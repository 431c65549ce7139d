-- The calls by which a part of one exchange is handed to the cache: what they ask for, and what they come to.
--
-- The cache wants a part of the exchange, and one may stand next. So the exchange is open, and has its row on both
-- sides. What `take` answered is what stands next of that row: an error, nothing, or a part. A part has room in some
-- tables: a head and an end bring no bytes, so in those before, and a piece in those behind the read. By what was taken
-- the call goes as the definitions go.
use Rattle.std.{proofs.{Common.{◌≡◌, ◌≤◌, ◌<◌, ℕ, ◌+◌, true, Option, Some, None, refl, sym, ◌∙◌, arith}, Math.Logic.{∥∥₁_map}}, specs.Prelude.{◌&&◌, ◌^◌, Result, Ok, Err}}
use Rattle.hc_core.specs.Steps.{steps, faults_in, bytes_received}
use Rattle.hc_effects.proofs.Vocabulary.{event, is_open, is_wanted}
use Rattle.hc_head.specs.declared.message.MsgError.{MsgError}
use Rattle.hc_head.specs.declared.message.MsgError.TheVariants as error
use Rattle.hc_msg.specs.{declared.message.WirePart.{WirePart}, Inputs.{Next}}
use Rattle.hc_msg.specs.declared.message.WirePart.TheVariants as part
use Rattle.hc_peers.specs.Origins as origins
use Rattle.hc_peers.specs.{Upstreams.{upstream_of, has_news_at, ListsStay, TakesOf}, declared.upstreams.Upstreams.{Upstreams}}
use Rattle.hc_peers.specs.declared.upstream.Upstream as origin
use Rattle.hc_store.specs.declared.backend.Backend.{Ghosts}
use Rattle.hc_proxy.specs.declared.proxy.Proxy as loop
use Rattle.hc_proxy.specs.{Hearing.{IsFit, length_of, PartStepped, MayTake, MayStep, HasHanded}, Invariants.{unread}, Keeping.{Turn, HasCache, KeepsBut, Stepped, RestStays, Goes}, Network.{handed, hands}, Rows.{Proxy}}
use Rattle.hc_proxy.proofs.{HandedOn.{rows, wants_open, wants_handed, waits_goes, fails_goes, end_goes, r, piece_kept, piece_room, piece_goes, head_goes}, HeardOne.{cache_over, may_here, may_few, here_small}, TakenParts.{IsTakenAs, some_taken, none_taken, err_taken, taken_fits}}

module _ {B : Type 0} {g : Ghosts B} (z : ℕ) (x : loop.Proxy B g)
    (wants : (t : Turn) (p : Proxy) → KeepsBut z t x p → (is_wanted (p.tables.exchange z) && has_news_at (upstream_of x.upstreams z)) ≡ true) where
  abbrev on : (t : Turn) (p : Proxy) → KeepsBut z t x p → is_open (p.tables.exchange z) ≡ true
  on t p h = wants_open z t x p h (wants t p h)

  -- WHAT THE CALLS ASK FOR

  pub hand_few : ∥ MayStep 2 z x ∥₁ → steps x.cache + 2 ≤ 2 ^ 60
  hand_few some = may_few 2 z x some on

  pub hand_small : ∥ MayStep 2 z x ∥₁ → z < 2 ^ 62
  hand_small some = here_small z x (may_here 2 z x some on) (let few : steps x.cache + 2 ≤ 2 ^ 60 = hand_few some in omega arith)

  module _ (s : Upstreams) (out : Result (Option WirePart) MsgError)
      (takes : (u : origin.Upstream) → upstream_of x.upstreams z ≡ Some u → TakesOf z x.upstreams s u out) where
    part_fits : (w : WirePart) → out ≡ Ok (Some w) → (upstream_of x.upstreams z ≡ None → out ≡ Ok None) → (o : Option origin.Upstream) →
        upstream_of x.upstreams z ≡ o → IsFit w
    part_fits w is lacks None none = absurd (let never : Ok (Some w) ≡ Ok None = sym is ∙ lacks none in cc)
    part_fits w is lacks (Some u) row = let to = takes u row in taken_fits w u to.after (some_taken w u to.after out is to.takes)

    pub hand_fit : (w : WirePart) → out ≡ Ok (Some w) → (upstream_of x.upstreams z ≡ None → out ≡ Ok None) → IsFit w
    hand_fit w is lacks = part_fits w is lacks (upstream_of x.upstreams z) refl

    module _ (lists : ListsStay x.upstreams s) (t : Turn) (p : Proxy) (h : KeepsBut z t x p) where
      abbrev y : loop.Proxy B g
      y = record x { upstreams = s }

      abbrev now : is_open (p.tables.exchange z) ≡ true
      now = wants_open z t x p h (wants t p h)

      abbrev to : TakesOf z x.upstreams s (rows z t x p h now).u out
      to = takes (rows z t x p h now).u (rows z t x p h now).is_u

      abbrev as_next : (n : Next) → origins.next_of (rows z t x p h now).u ≡ n → handed t.frame.limits z p ≡ hands t.frame.limits z n p
      as_next = wants_handed z t x p h now (wants t p h)

      small : (w : WirePart) → length_of w ≡ 0 → unread p + bytes_received y.cache + length_of w ≤ t.frame.bytes
      small w none = let a : unread p + bytes_received x.cache ≤ t.frame.bytes = h.cache.small in omega arith

      may_take : (w : WirePart) → IsTakenAs w (origins.next_of (rows z t x p h now).u) (rows z t x p h now).u to.after → MayTake w y
      may_take (part.Head response) taken = (t.frame, p, cache_over t.frame x p s h.cache, small (part.Head response) refl)
      may_take (part.Piece bytes) taken = (
        t.frame,
        r z t x p h now as_next s lists to.after to.becomes bytes taken,
        (piece_kept z t x p h now as_next s lists to.after to.becomes bytes taken).cache,
        piece_room z t x p h now as_next s lists to.after to.becomes bytes taken,
      )
      may_take part.End taken = (t.frame, p, cache_over t.frame x p s h.cache, small part.End refl)

      part_goes : (w : WirePart) → IsTakenAs w (origins.next_of (rows z t x p h now).u) (rows z t x p h now).u to.after → (x' : loop.Proxy B g) →
          ((q : Proxy) → HasCache t.frame y q → unread q + bytes_received y.cache + length_of w ≤ t.frame.bytes → PartStepped t.frame y x' z w q) →
          RestStays y x' → x'.moved ≡ true → Goes (HasHanded z t p (steps x.cache)) (faults_in x.cache) x' (handed t.frame.limits z p)
      part_goes (part.Head response) taken x' stepped rest moved =
          let st = stepped p (cache_over t.frame x p s h.cache) (small (part.Head response) refl) in
          head_goes z t x p h now as_next s lists to.after to.becomes response taken x' st.0 rest moved st.1
      part_goes (part.Piece bytes) taken x' stepped rest moved =
          piece_goes z t x p h now as_next s lists to.after to.becomes bytes taken x'
          (stepped (r z t x p h now as_next s lists to.after to.becomes bytes taken)
          (piece_kept z t x p h now as_next s lists to.after to.becomes bytes taken).cache
          (piece_room z t x p h now as_next s lists to.after to.becomes bytes taken)) moved
      part_goes part.End taken x' stepped rest moved =
          end_goes z t x p h now as_next s lists to.after to.becomes taken x'
          (λ q hc. (stepped q hc (let a : unread q + bytes_received y.cache ≤ t.frame.bytes = hc.small in omega arith)).0) rest moved
          (stepped p (cache_over t.frame x p s h.cache) (small part.End refl)).1

      -- WHAT THEY COME TO

      pub hand_goes : (w : WirePart) → out ≡ Ok (Some w) → (x' : loop.Proxy B g) →
          ((q : Proxy) → HasCache t.frame y q → unread q + bytes_received y.cache + length_of w ≤ t.frame.bytes → PartStepped t.frame y x' z w q) →
          RestStays y x' → x'.moved ≡ true → Goes (HasHanded z t p (steps x.cache)) (faults_in x.cache) x' (handed t.frame.limits z p)
      hand_goes w is x' stepped rest moved = part_goes w (some_taken w (rows z t x p h now).u to.after out is to.takes) x' stepped rest moved

      pub none_goes : out ≡ Ok None → Goes (HasHanded z t p (steps x.cache)) (faults_in x.cache) y (handed t.frame.limits z p)
      none_goes is = waits_goes z t x p h now as_next s lists to.after to.becomes (none_taken (rows z t x p h now).u to.after out is to.takes)

      pub err_goes : (e : MsgError) → out ≡ Err e → (e ≡ error.NoMemory → ⊥) → (x' : loop.Proxy B g) →
          ((q : Proxy) → HasCache t.frame y q → Stepped t.frame y x' (event.Fault z) q) → RestStays y x' → x'.moved ≡ true →
          steps x'.cache ≡ steps y.cache + 1 → Goes (HasHanded z t p (steps x.cache)) (faults_in x.cache) x' (handed t.frame.limits z p)
      err_goes e is other x' stepped rest moved one =
          fails_goes z t x p h now as_next s lists to.after to.becomes (err_taken e (rows z t x p h now).u to.after out is other to.takes) x' stepped rest
          moved one

    pub hand_take : ListsStay x.upstreams s → (w : WirePart) → out ≡ Ok (Some w) → ∥ MayStep 2 z x ∥₁ → ∥ MayTake w (record x { upstreams = s }) ∥₁
    hand_take lists w is some = ∥∥₁_map some (λ m.
        let n = on m.0 m.1 m.2 in
        let u = rows z m.0 x m.1 m.2 n in
        let got = takes u.u u.is_u in
        may_take lists m.0 m.1 m.2 w (some_taken w u.u got.after out is got.takes))
