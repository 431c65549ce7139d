-- What came of reading the next request: the definitions' step, over a store that may fail.
--
-- The table tells by what stands next what it did: nobody's was to be read, nothing is asked for, or a request. Of
-- requests no other part stands next (NextAsks), so each case is one of those that StartOne proves. The tables may be
-- any that the cache stands for: what a call asks for is shown of some of them, since it is a bound.
use Rattle.std.proofs.{Common.{◌≡◌, ◌≢◌, ◌≤◌, ◌<◌, ◌^◌, ℕ, ◌+◌, List, [], ◌∷◌, Bool, true, Some, refl, ap, sym, ◌∙◌, subst, arith}, Math.{Bridge.{le_prop}, Logic.{∥∥₁_map, ∥∥₁_elim}}}
use Rattle.hc_core.specs.Steps.{faults_in, steps, bytes_received}
use Rattle.hc_effects.proofs.Vocabulary.{event, Request}
use Rattle.hc_msg.specs.{Inputs.{Next, Waits, Reports, Brings, Ends, Fails, next_in}, Reading.{Asks, Answers, Byte}}
use Rattle.hc_peers.specs.{Agreement.{consumer_at}, Clients.{client_of, ready_of, hearing, outcome_of, HearsNext}, Renderings.{asked_of}, declared.clients.{Clients.{Clients}, NextRequest.{NextRequest}}}
use Rattle.hc_peers.specs.Clients as clients
use Rattle.hc_peers.specs.declared.client.Client as peer
use Rattle.hc_peers.specs.declared.clients.NextRequest.TheVariants as reported
use Rattle.hc_sched.specs.Schedule.{IsEvent}
use Rattle.hc_store.specs.declared.backend.Backend.{Ghosts}
use Rattle.hc_proxy.specs.declared.proxy.Proxy as loop
use Rattle.hc_proxy.specs.{Invariants.{unread}, Keeping.{Frame, Turn, HasCache, StandsForSome, KeepsHeard, IsHeard, IsNext, Stepped, RestStays, Goes, first_ready}, Rows.{Proxy}, Starts.{hears, each_heard}}
use Rattle.hc_proxy.proofs.{NextAsks.{of_head, IsNextAsked, next_asks}, NextSpelled.{reported_spelled, asked_spelled}, Rows.{holder_of}, StartOne.{nobody_goes, each_is, of_requests, waits_goes, fails_goes, asked_cache, asks_goes}}

-- BY WHAT STANDS NEXT

never_nobody : {A : Type 0} (k : ℕ) (front : Bool) (n : Next) → reported.Nobody ≡ outcome_of k front n → A
never_nobody k front (Waits reading) is = absurd (let never : reported.Nobody ≡ reported.Nothing = is in cc)
never_nobody k front (Reports (Asks request) reading rest) is = absurd (let never : reported.Nobody ≡ reported.Asks k (asked_of front request) = is in cc)
never_nobody k front (Reports (Answers response) reading rest) is = absurd (let never : reported.Nobody ≡ reported.Nothing = is in cc)
never_nobody k front (Reports (Byte b) reading rest) is = absurd (let never : reported.Nobody ≡ reported.Nothing = is in cc)
never_nobody k front (Brings bytes reading rest) is = absurd (let never : reported.Nobody ≡ reported.Nothing = is in cc)
never_nobody k front Ends is = absurd (let never : reported.Nobody ≡ reported.Nothing = is in cc)
never_nobody k front (Fails e) is = absurd (let never : reported.Nobody ≡ reported.Nothing = is in cc)

asks_nothing : {A : Type 0} (k : ℕ) (r : Request) → reported.Asks k r ≡ reported.Nothing → A
asks_nothing k r is = absurd (let never : reported.Asks k r ≡ reported.Nothing = is in cc)

request_of : NextRequest → Request → Request
request_of (reported.Asks k r) other = r
request_of reported.Nobody other = other
request_of reported.Nothing other = other

same_request : (j k : ℕ) (r q : Request) → reported.Asks j r ≡ reported.Asks k q → r ≡ q
unfolding request_of
same_request j k r q is = ap (λ (z : NextRequest). request_of z q) is

-- THE LISTS

pub nobody_left : (c : ℕ) (front : Bool) (old new : Clients) → HearsNext c front old new reported.Nobody → ready_of old ≡ []
nobody_left c front old new (clients.nobody none is stays) = none
nobody_left c front old new (clients.somebody w) = never_nobody w.k _ (next_in 1 w.client.reader w.client.input) w.result_is

pub one_less : (c : ℕ) (front : Bool) (old new : Clients) (result : NextRequest) → (result ≡ reported.Nobody → ⊥) → HearsNext c front old new result →
    IsNext true (ready_of old) (ready_of new)
one_less c front old new result some (clients.nobody none is stays) = absurd (some is)
one_less c front old new result some (clients.somebody w) = (w.k, w.first ∙ ap (λ (ks : List ℕ). w.k ∷ ks) (sym w.others))

-- ITS EVENT has a spelling

pub start_event : (c : ℕ) (front : Bool) (old new : Clients) (k : ℕ) (r : Request) → c < 2 ^ 62 → HearsNext c front old new (reported.Asks k r) →
    IsEvent (event.Start c r)
start_event c front old new k r small (clients.nobody none is stays) = absurd (let never : reported.Asks k r ≡ reported.Nobody = is in cc)
start_event c front old new k r small (clients.somebody w) = by_next (next_in 1 w.client.reader w.client.input) refl w.result_is
  where
    by_next : (n : Next) → next_in 1 w.client.reader w.client.input ≡ n → reported.Asks k r ≡ outcome_of w.k front n → IsEvent (event.Start c r)
    by_next (Reports (Asks request) reading rest) at is =
        subst (λ (q : Request). IsEvent (event.Start c q)) (sym (same_request k w.k r (asked_of front request) is))
        (asked_spelled c front request small (reported_spelled 1 w.client.reader w.client.input (Asks request) reading rest at))
    by_next (Waits reading) at is = asks_nothing k r is
    by_next (Reports (Answers response) reading rest) at is = asks_nothing k r is
    by_next (Reports (Byte b) reading rest) at is = asks_nothing k r is
    by_next (Brings bytes reading rest) at is = asks_nothing k r is
    by_next Ends at is = asks_nothing k r is
    by_next (Fails e) at is = asks_nothing k r is

module _ {B : Type 0} {g : Ghosts B} where
  -- WHAT IS ASKED FOR

  pub few_starts : (x : loop.Proxy B g) → ∥ IsHeard x ∥₁ → x.starts < 2 ^ 61 + steps x.cache
  few_starts x some = ∥∥₁_elim some le_prop (λ s.
      let a : x.starts ≡ s.1.starts = s.2.quiet.keeps.cache.starts in
      let b : s.1.starts ≤ s.1.setting.contents.last_consumer + steps x.cache = s.2.quiet.keeps.numbers in
      let room : s.1.setting.contents.last_consumer < 2 ^ 61 = s.2.quiet.keeps.cache.room in
      omega arith)

  pub few_bytes : (x : loop.Proxy B g) → ∥ IsHeard x ∥₁ → bytes_received x.cache + 0 < 2 ^ 61
  few_bytes x some = ∥∥₁_elim some le_prop (λ s.
      let a : unread s.1 + bytes_received x.cache ≤ s.0.frame.bytes = s.2.quiet.keeps.cache.small in
      let b : s.0.frame.bytes ≤ 2 ^ 60 = s.2.quiet.keeps.cache.bounded in
      omega arith)

  -- nobody waits for the next number
  pub new_number : (x : loop.Proxy B g) → ∥ IsHeard x ∥₁ → (k : ℕ) (client : peer.Client) → client_of x.clients k ≡ Some client →
      client.consumer ≢ Some (x.starts + 1)
  new_number x some k client row is = ∥∥₁_elim some (λ a b. absurd a) (λ s.
      let keeps = s.2.quiet.keeps in
      let w = holder_of s.0 x s.1 keeps.clients (x.starts + 1) k (x.clients.alive.1 (x.starts + 1) k (ap consumer_at row ∙ is)) in
      let le : x.starts + 1 ≤ s.1.starts = keeps.consumers.started k (x.starts + 1) w in
      let same : x.starts ≡ s.1.starts = keeps.cache.starts in
      omega arith)

  -- the cache is the same, and one more number is given out
  pub next_cache : (x : loop.Proxy B g) (s : Clients) → ∥ IsHeard x ∥₁ → ∥ StandsForSome (record x { clients = s; starts = x.starts + 1 }) ∥₁
  next_cache x s some = ∥∥₁_map some (λ w.
      let z = w.2.quiet.keeps.cache in (
        w.0.frame,
        record w.1 { starts = w.1.starts + 1 },
        record {
          setting = z.setting;
          stands = z.stands;
          same = z.same;
          limits = z.limits;
          now = z.now;
          early = z.early;
          last = z.last;
          starts = ap (λ (m : ℕ). m + 1) z.starts;
          front = z.front;
          last_start = (let le : w.1.tables.last_start ≤ w.1.starts = z.last_start in omega arith);
          text = z.text;
          recorded = z.recorded;
          before = z.before;
          unopened = z.unopened;
          headed = z.headed;
          small = z.small;
          bounded = z.bounded;
          room = z.room;
          targets = z.targets;
          timed = z.timed;
        },
      ))

  -- WHAT IS DONE

  module _ (t : Turn) (x : loop.Proxy B g) (p : Proxy) (h : KeepsHeard t x p) (s : Clients) where
    pub goes_nobody : HearsNext (x.starts + 1) x.front x.clients s reported.Nobody →
        Goes (KeepsHeard t) (faults_in x.cache) (record x { clients = s }) (each_heard t.frame.limits t.call (first_ready (ready_of x.clients)) p)
    goes_nobody (clients.nobody none is stays) = nobody_goes t x p h s stays none
    goes_nobody (clients.somebody w) = never_nobody w.k _ (next_in 1 w.client.reader w.client.input) w.result_is

    nothing_by : (w : clients.IsHeard (x.starts + 1) x.front x.clients s reported.Nothing) (n : Next) → IsNextAsked n →
        clients.Becomes w.k (Some (hearing (x.starts + 1) x.front n w.client)) x.clients s → reported.Nothing ≡ outcome_of w.k x.front n →
        Goes (KeepsHeard t) (faults_in x.cache) (record x { clients = s }) (hears t.frame.limits w.k n p)
    nothing_by w (Waits reading) of becomes is = waits_goes t x p h w.k w.rest w.client w.first w.row reading s (of_head reading of) becomes
    nothing_by w (Reports (Asks request) reading rest) of becomes is = asks_nothing w.k (asked_of x.front request) (sym is)
    nothing_by w (Reports (Answers response) reading rest) of becomes is = absurd of
    nothing_by w (Reports (Byte b) reading rest) of becomes is = absurd of
    nothing_by w (Brings bytes reading rest) of becomes is = absurd of
    nothing_by w Ends of becomes is = absurd of
    nothing_by w (Fails e) of becomes is = fails_goes t x p h w.k w.rest w.client w.first w.row e s becomes

    pub goes_nothing : HearsNext (x.starts + 1) x.front x.clients s reported.Nothing →
        Goes (KeepsHeard t) (faults_in x.cache) (record x { clients = s }) (each_heard t.frame.limits t.call (first_ready (ready_of x.clients)) p)
    goes_nothing (clients.nobody none is stays) = absurd (let never : reported.Nothing ≡ reported.Nobody = is in cc)
    goes_nothing (clients.somebody w) =
        subst (λ q. Goes (KeepsHeard t) (faults_in x.cache) (record x { clients = s }) q) (sym (each_is t x p h w.k w.rest w.client w.first w.row))
        (nothing_by w (next_in 1 w.client.reader w.client.input)
        (next_asks 1 w.client.reader w.client.input (of_requests t x p h w.k w.rest w.client w.first w.row)) w.becomes w.result_is)

    module _ (k : ℕ) (r : Request) (x' : loop.Proxy B g)
        (steps_by : (f : Frame) (q : Proxy) → HasCache f (record x { clients = s; starts = x.starts + 1 }) q →
        unread q + bytes_received x.cache + 0 ≤ f.bytes → Stepped f (record x { clients = s; starts = x.starts + 1 }) x' (event.Start (x.starts + 1) r) q)
        (stay : RestStays (record x { clients = s; starts = x.starts + 1 }) x') (moved : x'.moved ≡ true) (count : steps x'.cache ≡ steps x.cache + 1) where
      asked_by : (w : clients.IsHeard (x.starts + 1) x.front x.clients s (reported.Asks k r)) (n : Next) → IsNextAsked n →
          clients.Becomes w.k (Some (hearing (x.starts + 1) x.front n w.client)) x.clients s → reported.Asks k r ≡ outcome_of w.k x.front n →
          Goes (KeepsHeard t) (faults_in x.cache) x' (hears t.frame.limits w.k n p)
      asked_by w (Reports (Asks request) reading left) of becomes is =
          let c = asked_cache t x p h w.k w.rest w.client w.first w.row request reading left (of_head reading of) s becomes in
          asks_goes t x p h w.k w.rest w.client w.first w.row request reading left (of_head reading of) s becomes r
          (same_request k w.k r (asked_of x.front request) is) x'
          (steps_by t.frame _ c (let all : unread p + bytes_received x.cache ≤ t.frame.bytes = h.quiet.keeps.cache.small in omega arith)) stay moved count
      asked_by w (Waits reading) of becomes is = asks_nothing k r is
      asked_by w (Reports (Answers response) reading rest) of becomes is = absurd of
      asked_by w (Reports (Byte b) reading rest) of becomes is = absurd of
      asked_by w (Brings bytes reading rest) of becomes is = absurd of
      asked_by w Ends of becomes is = absurd of
      asked_by w (Fails e) of becomes is = asks_nothing k r is

      pub goes_asks : HearsNext (x.starts + 1) x.front x.clients s (reported.Asks k r) →
          Goes (KeepsHeard t) (faults_in x.cache) x' (each_heard t.frame.limits t.call (first_ready (ready_of x.clients)) p)
      goes_asks (clients.nobody none is stays) = absurd (let never : reported.Asks k r ≡ reported.Nobody = is in cc)
      goes_asks (clients.somebody w) =
          subst (λ q. Goes (KeepsHeard t) (faults_in x.cache) x' q) (sym (each_is t x p h w.k w.rest w.client w.first w.row))
          (asked_by w (next_in 1 w.client.reader w.client.input)
          (next_asks 1 w.client.reader w.client.input (of_requests t x p h w.k w.rest w.client w.first w.row)) w.becomes w.result_is)
