-- The calls by which what came of one exchange is read to its end: what they come to.
--
-- More is waited for, so `take` answered no part, and the row is read to the end of its bytes. Then `finish` tells
-- whether the answer is whole by the close. What was handed before, the close and the lists behind it are one step of
-- the definitions: two steps of the cache are made at most, since behind two the exchange isn't open, and the close
-- makes one only of an open exchange.
use Rattle.std.{proofs.{Common.{◌≡◌, inl, inr, ℕ, ◌+◌, ◌≤◌, Bool, true, false, Option, Some, None, refl, ap, sym, ◌∙◌, subst, arith}, Math.Logic.{∥∥₁_map}}, specs.{Prelude.{◌^◌, Result, Ok, Err}, Result.{is_ok, is_err}}}
use Rattle.hc_text.proofs.Basics.{eq_itself as same_number}
use Rattle.hc_core.specs.Steps.{steps, faults_in, bytes_received}
use Rattle.hc_effects.proofs.Vocabulary.{event, is_open}
use Rattle.hc_head.specs.declared.message.MsgError.{MsgError}
use Rattle.hc_head.specs.declared.message.MsgError.TheVariants as error
use Rattle.hc_msg.specs.declared.message.Look.TheVariants as look
use Rattle.hc_msg.specs.{declared.message.WirePart.{WirePart}, Inputs.{Next, look_of}, Taking.{ending}}
use Rattle.hc_peers.specs.Origins as origins
use Rattle.hc_peers.specs.{Upstreams.{upstream_of, has_ended_at, look_at, Becomes, ListsStay, TakesOf}, declared.upstreams.Upstreams.{Upstreams}}
use Rattle.hc_peers.specs.declared.upstream.Upstream as origin
use Rattle.hc_store.specs.declared.backend.Backend.{Ghosts}
use Rattle.hc_proxy.specs.declared.proxy.Proxy as loop
use Rattle.hc_proxy.specs.{Hearing.{MayStep, HasHanded, HasFinished, HasHeard}, Invariants.{unread}, Keeping.{Turn, HasCache, KeepsBut, KeepsQuiet, Stepped, RestStays, Goes}, Network.{handed, closed}, Rows.{Proxy}}
use Rattle.hc_proxy.proofs.{FinishedOn.{cut_finished, whole_finished}, HandedOn.{rows, apart_both}, TakenParts.{TakenNone, waits_taken, looks_waits}}

-- where more is waited for, the read fails by want of memory alone
pub only_memory : (z : ℕ) (old new : Upstreams) (out : Result (Option WirePart) MsgError) (e : MsgError) → look_at (upstream_of old z) ≡ look.Waits
    → ((u : origin.Upstream) → upstream_of old z ≡ Some u → TakesOf z old new u out) → (upstream_of old z ≡ None → out ≡ Ok None) → out ≡ Err e →
    e ≡ error.NoMemory
only_memory z old new out e looks takes lacks is = by_row (upstream_of old z) refl
  where
    same_error : (r : Result (Option WirePart) MsgError) (f : MsgError) → r ≡ Err e → r ≡ Err f → e ≡ f
    same_error r f a b = cc

    by_takes : (u after : origin.Upstream) → look_of (origins.next_of u) ≡ look.Waits → origins.Takes u after out → e ≡ error.NoMemory
    by_takes u after waits (inl failed) = same_error out error.NoMemory is failed
    by_takes u after waits (inr taken) =
        let w = looks_waits (origins.next_of u) waits in
        let none : out ≡ Ok None = (subst (λ (n : Next). origins.IsTaken n u after out) w.1 taken).0 in
        absurd (let never : Ok None ≡ Err e = sym none ∙ is in cc)

    by_row : (o : Option origin.Upstream) → upstream_of old z ≡ o → e ≡ error.NoMemory
    by_row None none = absurd (let never : Ok None ≡ Err e = sym (lacks none) ∙ is in cc)
    by_row (Some u) row = let to = takes u row in by_takes u to.after (sym (ap look_at row) ∙ looks) to.takes

module _ {B : Type 0} {g : Ghosts B} (z : ℕ) (x : loop.Proxy B g) (s s' : Upstreams) (out : Result (Option WirePart) MsgError)
    (takes : (u : origin.Upstream) → upstream_of x.upstreams z ≡ Some u → TakesOf z x.upstreams s u out) (took : ListsStay x.upstreams s)
    (fine : is_err out ≡ false)
    (row : (u : origin.Upstream) → upstream_of s z ≡ Some u → Becomes z (Some (origins.finished u)) s s') (stays : ListsStay s s') (whole : Bool)
    (says : (u : origin.Upstream) → upstream_of s z ≡ Some u → whole ≡ is_ok (ending u.reader))
    (t : Turn) (p : Proxy) (h : KeepsBut z t x p) (on : is_open (p.tables.exchange z) ≡ true) (ended : has_ended_at (upstream_of x.upstreams z) ≡ true)
    (looks : look_at (upstream_of x.upstreams z) ≡ look.Waits) where
  abbrev u : origin.Upstream
  u = (rows z t x p h on).u

  abbrev to : TakesOf z x.upstreams s u out
  to = takes u (rows z t x p h on).is_u

  taken : TakenNone (origins.next_of u) u to.after
  taken = let w = looks_waits (origins.next_of u) (sym (ap look_at (rows z t x p h on).is_u) ∙ looks) in waits_taken u to.after out w.0 w.1 fine to.takes

  row_taken : upstream_of s z ≡ Some to.after
  row_taken = to.becomes z ∙ rw (same_number z) refl

  abbrev y : loop.Proxy B g
  y = record x { upstreams = s' }

  pub cut_goes : whole ≡ false → (x' : loop.Proxy B g) → ((q : Proxy) → HasCache t.frame y q → Stepped t.frame y x' (event.Fault z) q) → RestStays y x' →
      x'.moved ≡ true → steps x'.cache ≡ steps x.cache + 1 → Goes (HasFinished z t p (steps x.cache)) (faults_in x.cache) x' (closed t.frame.limits z p)
  cut_goes cut x' stepped rest moved one =
      cut_finished z t x p h on ended looks s s' to.after taken to.becomes took (row to.after row_taken) stays (sym (says to.after row_taken) ∙ cut) x'
      stepped rest moved one

  pub whole_goes : whole ≡ true → (x' : loop.Proxy B g) →
      ((q : Proxy) → HasCache t.frame y q → unread q + bytes_received y.cache + 0 ≤ t.frame.bytes → Stepped t.frame y x' (event.End z) q) →
      RestStays y x' → x'.moved ≡ true → steps x'.cache ≡ steps x.cache + 1 →
      Goes (HasFinished z t p (steps x.cache)) (faults_in x.cache) x' (closed t.frame.limits z p)
  whole_goes is x' stepped rest moved one =
      whole_finished z t x p h on ended looks s s' to.after taken to.becomes took (row to.after row_taken) stays (sym (says to.after row_taken) ∙ is) x'
      (λ q hc. stepped q hc (let a : unread q + bytes_received y.cache ≤ t.frame.bytes = hc.small in omega arith)) rest moved one

-- WHAT IS HANDED, THEN THE CLOSE, THEN THE LISTS

pub finish_may : {B : Type 0} {g : Ghosts B} (z : ℕ) (x x' : loop.Proxy B g) → ∥ MayStep 2 z x ∥₁ →
    ((t : Turn) (p : Proxy) → KeepsBut z t x p → Goes (HasHanded z t p (steps x.cache)) (faults_in x.cache) x' (handed t.frame.limits z p)) →
    ∥ MayStep 1 z x' ∥₁
finish_may z x x' some goes = ∥∥₁_map some (λ s.
    let a = goes s.0 s.1 s.2 in (
      s.0,
      a.q,
      a.keeps.keeps,
      λ on.
          let few : steps x.cache + 2 ≤ 2 ^ 60 = s.3 (a.keeps.apart.opens z on) in
          let once : steps x'.cache ≤ steps x.cache + 1 = a.keeps.once on in
          omega arith,
    ))

pub hear_goes : {B : Type 0} {g : Ghosts B} (z : ℕ) (t : Turn) (p : Proxy) (x x1 x2 x3 : loop.Proxy B g)
    (a : Goes (HasHanded z t p (steps x.cache)) (faults_in x.cache) x1 (handed t.frame.limits z p))
    (b : Goes (HasFinished z t a.q (steps x1.cache)) (faults_in x1.cache) x2 (closed t.frame.limits z a.q)) → KeepsQuiet t x3 b.q → x3.cache ≡ x2.cache →
    Goes (HasHeard z t p (steps x.cache)) (faults_in x.cache) x3 (closed t.frame.limits z (handed t.frame.limits z p))
hear_goes z t p x x1 x2 x3 a b kept cache =
    let steps_are : steps x3.cache ≡ steps x2.cache = ap steps cache in
    let faults_are : faults_in x3.cache ≡ faults_in x2.cache = ap faults_in cache in
    let first : faults_in x.cache ≤ faults_in x1.cache = a.later in
    let second : faults_in x1.cache ≤ faults_in x2.cache = b.later in
    record {
      q = b.q;
      keeps = record {
        keeps = kept;
        apart = apart_both z p a.q b.q a.keeps.apart b.keeps.apart;
        heard = b.keeps.heard;
        most = by_open (is_open (a.q.tables.exchange z)) refl steps_are;
        none = λ shut.
            let n1 : steps x1.cache ≤ steps x.cache = a.keeps.none shut in
            let n2 : steps x2.cache ≤ steps x1.cache = b.keeps.none (shut_still shut (is_open (a.q.tables.exchange z)) refl) in
            omega arith;
      };
      later = omega arith;
      same = λ none.
          let calm : faults_in x3.cache ≡ faults_in x.cache = none in
          let one : a.q ≡ handed t.frame.limits z p = a.same (omega arith) in
          let two : b.q ≡ closed t.frame.limits z a.q = b.same (omega arith) in
          two ∙ ap (closed t.frame.limits z) one;
    }
  where
    shut_still : is_open (p.tables.exchange z) ≡ false → (c : Bool) → is_open (a.q.tables.exchange z) ≡ c → is_open (a.q.tables.exchange z) ≡ false
    shut_still shut false is = is
    shut_still shut true is = absurd (let never : true ≡ false = sym (a.keeps.apart.opens z is) ∙ shut in cc)

    by_open : (c : Bool) → is_open (a.q.tables.exchange z) ≡ c → steps x3.cache ≡ steps x2.cache → steps x3.cache ≤ steps x.cache + 2
    by_open true on is =
        let n1 : steps x1.cache ≤ steps x.cache + 1 = a.keeps.once on in
        let n2 : steps x2.cache ≤ steps x1.cache + 1 = b.keeps.most in
        omega arith
    by_open false shut is =
        let n1 : steps x1.cache ≤ steps x.cache + 2 = a.keeps.most in
        let n2 : steps x2.cache ≤ steps x1.cache = b.keeps.none shut in
        omega arith
