-- Bytes came of a connection: of a client, where no exchange has it, or of an exchange.
--
-- A connection that is open is a client's or an exchange's, and none is to be closed yet. So where no exchange has it,
-- it is a client's, whose number is that of none that was dialled. `sent_goes` is of a client and `got_goes` of an
-- exchange; `end_goes` and `break_goes` are of its end and its break.
use Rattle.std.{proofs.{Common.{◌≡◌, inl, inr, ◌≤◌, ◌<◌, ℕ, ◌+◌, List, [], ◌++◌, length, Bool, true, false, Option, Some, None, refl, ap, sym, ◌∙◌, subst, arith}, Math.{Bridge.{le_prop}, Logic.{∥∥₁_map, ∥∥₁_elim}}, lemmas.{Bool.Decides.{nat_tests}, List.{length-append}}}, specs.{Prelude.{◌^◌, nat_lt, not, option_map, if◌then◌else◌, IsSome, Contains}, Option.{is_some}}}
use Rattle.hc_text.proofs.Basics.{none_some, eq_itself as same_number, some_inj, true_false}
use Rattle.hc_core.specs.Steps.{faults_in, steps, bytes_received, limits_in}
use Rattle.hc_effects.proofs.Vocabulary.{asks_in, closes_in, is_open, is_wanted, Exchange, after, Lawful, event}
use Rattle.hc_peers.specs.{Agreement.{is_at}, Clients.{client_of}, Peers.{is_same}, Upstreams.{upstream_of, is_news, is_touched, Becomes, Marks}, declared.{clients.Clients.{Clients}, upstreams.Upstreams.{Upstreams}}}
use Rattle.hc_peers.specs.Clients as clients
use Rattle.hc_peers.specs.Origins as origins
use Rattle.hc_peers.specs.declared.client.Client as peer
use Rattle.hc_peers.specs.declared.upstream.Upstream as origin
use Rattle.hc_store.specs.declared.backend.Backend.{Ghosts}
use Rattle.hc_proxy.specs.declared.proxy.Proxy as loop
use Rattle.hc_proxy.specs.{Carrying.{acts_in}, Connections.{exchange_of, taken_at}, Handling.{is_client, client_sends, origin_sends, origin_ends, sends, ends, broke}, Invariants.{IsHolder, unread, unread_of}, Keeping.{Turn, HasCache, IsClientAt, Frame, AtEvent, IsAtEvent, StandsForSome, KeepsBut, KeepsQuiet, HangsUp, Stepped, RestStays, Goes}, Rows.{Client, Upstream, Proxy, with_client, with_upstream}, Steps.{with_entry}}
use Rattle.hc_proxy.specs.Steps as steps_of
use Rattle.hc_laws.proofs.Accepted.{fault_closes}
use Rattle.hc_proxy.proofs.{Alike.{cache_moves, cache_with, upstreams_move}, DoneFor.{but_it, IsDone, done_all, but_stepped}, HandedOn.{open_number}, HangsOff.{has_row}, Holders.{held_of, of_held, change_keeps, sends_keep}, HungUp.{hung_up}, OriginRows.{row_changed}, RowChanges.{ChangesClient, changed_clients, row_was, wire_same, seen_still, upstreams_with}, Stands.{few_exchanges}, StepOn.{law_of}, Unread.{unread_grows}}

at_number : (k : ℕ) (u : origin.Upstream) → is_at k (Some u) ≡ true → u.k ≡ k
at_number k u h = grind (arith, nat_tests)

-- who has the number
pub record HasNumber (k : ℕ) (o : Option origin.Upstream) : Type 0 where
  pub u : origin.Upstream
  pub is : o ≡ Some u
  pub number : u.k ≡ k

pub numbered : (k : ℕ) (o : Option origin.Upstream) → is_at k o ≡ true → HasNumber k o
numbered k None h = absurd (let never : false ≡ true = h in cc)
numbered k (Some u) h = record { u = u; is = refl; number = at_number k u h }

-- WHAT A CLIENT SENDS

sent_alike : (taken : ℕ) (bytes : List ℕ) (o : Option peer.Client) (r : Option Client) → IsClientAt taken o r →
    IsClientAt taken (option_map (clients.received bytes) o) (option_map (client_sends bytes) r)
sent_alike taken bytes None None at = tt
sent_alike taken bytes None (Some r) at = rw at refl
sent_alike taken bytes (Some c) None at = absurd at
sent_alike taken bytes (Some c) (Some r) at =
    rw at.here
    (record {
      here = refl;
      reading = at.reading;
      input = ap (λ z. z ++ bytes) at.input;
      consumer = at.consumer;
      reply = at.reply;
      closing = at.closing;
      within = at.within;
      unsent = at.unsent;
      asking = at.asking;
    })

sent_reads : (bytes : List ℕ) (o : Option peer.Client) (c : peer.Client) → option_map (clients.received bytes) o ≡ Some c → (old : peer.Client) ×
    (o ≡ Some old) × (c.reading ≡ old.reading)
sent_reads bytes None c is = none_some c is
sent_reads bytes (Some old) c is = (old, refl, ap (λ (w : peer.Client). w.reading) (sym (some_inj (clients.received bytes old) c is)))

sent_here : (bytes : List ℕ) (r : Option Client) → is_client (option_map (client_sends bytes) r) ≡ true → is_client r ≡ true
sent_here bytes None on = on
sent_here bytes (Some r) on = by_gone r.gone refl on
  where
    by_gone : (b : Bool) → r.gone ≡ b → (not (if b then r else record r { input = r.input ++ bytes }).gone) ≡ true → not r.gone ≡ true
    by_gone true is h = h
    by_gone false is h = h

sent_some : (bytes : List ℕ) (o : Option peer.Client) → IsSome o → IsSome (option_map (clients.received bytes) o)
sent_some bytes None some = some
sent_some bytes (Some c) some = refl

module _ {B : Type 0} {g : Ghosts B} (t : Turn) (x : loop.Proxy B g) (p : Proxy) (k : ℕ) (h : AtEvent t x p k) where
  -- WHOSE IT IS

  of_client : (o : Option peer.Client) → client_of x.clients k ≡ o → IsSome o → exchange_of t.dialled k ≡ None
  of_client None is some = absurd (let never : false ≡ true = some in cc)
  of_client (Some c) is some =
      h.quiet.keeps.upstreams.strangers k (has_row (taken_at t.call k) (client_of x.clients k) (p.client k) c (h.quiet.keeps.clients.rows k) is)

  of_none : ((y : ℕ) → is_at k (upstream_of x.upstreams y) ≡ false) → exchange_of t.dialled k ≡ None
  of_none none = elim (h.quiet.keeps.wire.all k h.opens) [
    | inl client ↦ of_client (client_of x.clients k) refl client
    | inr other ↦ elim other [
      | inl up ↦ true_false (sym (ap (is_at k) up.2 ∙ rw up.3 (same_number k)) ∙ none up.0)
      | inr closes ↦ absurd (nobody (subst (λ ks. Contains ks k) h.closed closes))
    ]
  ]
    where
      nobody : Contains [] k → ⊥
      nobody (n, within, is) = omega arith

  of_one : (z : ℕ) (n : HasNumber k (upstream_of x.upstreams z)) → exchange_of t.dialled k ≡ Some z
  of_one z n = ap (exchange_of t.dialled) (sym n.number) ∙ h.quiet.keeps.upstreams.names z n.u.k (h.quiet.keeps.upstreams.numbers z n.u n.is)

  open_one : (z : ℕ) (n : HasNumber k (upstream_of x.upstreams z)) → is_open (p.tables.exchange z) ≡ true
  open_one z n = elim (h.quiet.keeps.upstreams.over z (subst IsSome (sym n.is) refl)) [
    | inl on ↦ on
    | inr closes ↦ absurd (let never : false ≡ true = sym (ap (λ es. closes_in z (acts_in es)) h.part) ∙ closes in cc)
  ]

  -- A CLIENT

  module _ (bytes : List ℕ) (none : (y : ℕ) → is_at k (upstream_of x.upstreams y) ≡ false) (s : Clients)
      (becomes : clients.Becomes k (option_map (clients.received bytes) (client_of x.clients k)) x.clients s) where
    change : ChangesClient (taken_at t.call k) (client_of x.clients k) (p.client k) (option_map (clients.received bytes) (client_of x.clients k))
        (client_sends bytes)
    change = record {
      alike = sent_alike (taken_at t.call k) bytes (client_of x.clients k) (p.client k) (h.quiet.keeps.clients.rows k);
      reads = sent_reads bytes (client_of x.clients k);
      here = sent_here bytes (p.client k);
    }

    some_was : (j : ℕ) → IsSome ((with_client k (client_sends bytes) p).client j) → IsSome (p.client j)
    some_was j some = row_was t x p k _ (client_sends bytes) s becomes change j some

    cache_of : HasCache t.frame (record x { clients = s }) (with_client k (client_sends bytes) p)
    cache_of = cache_moves t.frame x (record x { clients = s }) (with_client k (client_sends bytes) p) refl refl refl refl refl
        (cache_with t.frame x p (with_client k (client_sends bytes) p).client p.accepted h.quiet.keeps.cache)

    sent_keeps : KeepsQuiet t (record x { clients = s }) (with_client k (client_sends bytes) p)
    sent_keeps = record {
      keeps = record {
        cache = cache_of;
        acts = h.quiet.keeps.acts;
        clients = changed_clients t x p k _ (client_sends bytes) s becomes change h.quiet.keeps.clients;
        consumers = of_held (with_client k (client_sends bytes) p)
            (change_keeps (acts_in p.part) k (client_sends bytes) p (λ r at. sends_keep bytes r) (held_of p h.quiet.keeps.consumers));
        upstreams = upstreams_move t x (record x { clients = s }) (with_client k (client_sends bytes) p) (acts_in p.part) refl
            (upstreams_with k t x p (with_client k (client_sends bytes) p).client some_was h.quiet.keeps.upstreams);
        wire = wire_same t x p k _ (client_sends bytes) s becomes change t.stages (sent_some bytes (client_of x.clients k)) h.quiet.keeps.wire;
        numbers = h.quiet.keeps.numbers;
        opened = h.quiet.keeps.opened;
        seen = seen_still t x p k _ (client_sends bytes) s becomes change t.stages t.dialled h.quiet.keeps.seen;
        shut = h.quiet.keeps.shut;
        known = h.quiet.keeps.known;
      };
      moved = h.quiet.moved;
      quiet = h.quiet.quiet;
    }

    pub sent_goes : Goes (KeepsQuiet t) (faults_in x.cache) (record x { clients = s }) (sends (exchange_of t.dialled k) k bytes p)
    sent_goes =
        subst (λ o. Goes (KeepsQuiet t) (faults_in x.cache) (record x { clients = s }) (sends o k bytes p)) (sym (of_none none))
        (record { q = with_client k (client_sends bytes) p; keeps = sent_keeps; later = omega arith; same = λ same. refl })

  -- AN EXCHANGE

  module _ (bytes : List ℕ) (call : t.call.bytes ≡ bytes) (z : ℕ) (there : is_at k (upstream_of x.upstreams z) ≡ true) (s : Upstreams)
      (becomes : Becomes z (option_map (origins.received bytes) (upstream_of x.upstreams z)) x.upstreams s)
      (news : Marks (is_news x.upstreams) (is_news s) z (is_some (upstream_of x.upstreams z)))
      (touched : (y : ℕ) → is_touched s y ≡ is_touched x.upstreams y) where
    n : HasNumber k (upstream_of x.upstreams z)
    n = numbered k (upstream_of x.upstreams z) there

    abbrev q : Proxy
    q = with_upstream z (origin_sends bytes) p

    now : Becomes z (Some (origins.received bytes n.u)) x.upstreams s
    now = subst (λ o. Becomes z (option_map (origins.received bytes) o) x.upstreams s) n.is becomes

    law : Lawful p.tables
    law = law_of t.frame x p h.quiet.keeps.cache

    more_by : (o : Option Upstream) → unread_of (option_map (origin_sends bytes) o) ≤ unread_of o + length bytes
    more_by None = omega arith
    more_by (Some v) = let e : length (v.input ++ bytes) ≡ length v.input + length bytes = length-append v.input bytes in omega arith

    room : unread q + bytes_received x.cache ≤ t.frame.bytes
    room =
        let grows : unread q ≤ unread p + length bytes =
        unread_grows p (p.tables.opened + 1) law.order.openings z (origin_sends bytes) (length bytes) (more_by (p.upstream z)) in
        let all : unread p + bytes_received x.cache + length t.call.bytes ≤ t.frame.bytes = h.room in
        let same : length t.call.bytes ≡ length bytes = ap length call in
        omega arith

    but : KeepsBut z t (record x { upstreams = s }) q
    but = row_changed z t x p (but_it z t x p h.quiet) (origin_sends bytes) n.u (origins.received bytes n.u) n.is s now refl refl
        (λ v is a. record { reading = a.reading; input = ap (λ w. w ++ bytes) a.input; ended = a.ended; within = a.within; unsent = a.unsent })
        (λ y off. news y ∙ rw off refl) (λ y off. touched y) (h.quiet.keeps.cache.headed z) room

    listed : is_news s z ≡ true
    listed = news z ∙ (rw (same_number z) (ap is_some n.is))

    row_now : upstream_of s z ≡ Some (origins.received bytes n.u)
    row_now = now z ∙ rw (same_number z) refl

    done : IsDone z (record x { upstreams = s }) q
    done = record {
      over = λ some. open_one z n;
      news = λ off. true_false (sym listed ∙ off);
      touched = λ v is off. subst (λ (w : origin.Upstream). (w.unsent ≡ []) × (is_same w.reading (is_wanted (p.tables.exchange z)) ≡ true))
          (some_inj (origins.received bytes n.u) v (sym row_now ∙ is)) (settled off);
    }
      where
        no_asks : asks_in z (acts_in p.part) ≡ false
        no_asks = ap (λ es. asks_in z (acts_in es)) h.part

        settled : is_touched s z ≡ false → (n.u.unsent ≡ []) × (is_same n.u.reading (is_wanted (p.tables.exchange z)) ≡ true)
        settled off = h.quiet.keeps.upstreams.touched z n.u n.is (open_one z n) (sym (touched z) ∙ off) no_asks

    pub got_goes : Goes (KeepsQuiet t) (faults_in x.cache) (record x { upstreams = s }) (sends (exchange_of t.dialled k) k bytes p)
    got_goes =
        subst (λ o. Goes (KeepsQuiet t) (faults_in x.cache) (record x { upstreams = s }) (sends o k bytes p)) (sym (of_one z n))
        (record { q = q; keeps = done_all z t (record x { upstreams = s }) q but done; later = omega arith; same = λ same. refl })

  -- ITS END

  module _ (z : ℕ) (there : is_at k (upstream_of x.upstreams z) ≡ true) (s : Upstreams)
      (becomes : Becomes z (option_map origins.at_its_end (upstream_of x.upstreams z)) x.upstreams s)
      (news : Marks (is_news x.upstreams) (is_news s) z (is_some (upstream_of x.upstreams z)))
      (touched : (y : ℕ) → is_touched s y ≡ is_touched x.upstreams y) where
    m : HasNumber k (upstream_of x.upstreams z)
    m = numbered k (upstream_of x.upstreams z) there

    abbrev r : Proxy
    r = with_upstream z origin_ends p

    end_now : Becomes z (Some (origins.at_its_end m.u)) x.upstreams s
    end_now = subst (λ o. Becomes z (option_map origins.at_its_end o) x.upstreams s) m.is becomes

    end_law : Lawful p.tables
    end_law = law_of t.frame x p h.quiet.keeps.cache

    same_by : (o : Option Upstream) → unread_of (option_map origin_ends o) ≤ unread_of o + 0
    same_by None = omega arith
    same_by (Some v) = omega arith

    end_room : unread r + bytes_received x.cache ≤ t.frame.bytes
    end_room =
        let grows : unread r ≤ unread p + 0 = unread_grows p (p.tables.opened + 1) end_law.order.openings z origin_ends 0 (same_by (p.upstream z)) in
        let all : unread p + bytes_received x.cache ≤ t.frame.bytes = h.quiet.keeps.cache.small in
        omega arith

    end_but : KeepsBut z t (record x { upstreams = s }) r
    end_but = row_changed z t x p (but_it z t x p h.quiet) origin_ends m.u (origins.at_its_end m.u) m.is s end_now refl refl
        (λ v is a. record { reading = a.reading; input = a.input; ended = refl; within = a.within; unsent = a.unsent })
        (λ y off. news y ∙ rw off refl) (λ y off. touched y) (h.quiet.keeps.cache.headed z) end_room

    end_row : upstream_of s z ≡ Some (origins.at_its_end m.u)
    end_row = end_now z ∙ rw (same_number z) refl

    end_done : IsDone z (record x { upstreams = s }) r
    end_done = record {
      over = λ some. open_one z m;
      news = λ off. true_false (sym (news z ∙ (rw (same_number z) (ap is_some m.is))) ∙ off);
      touched = λ v is off. subst (λ (w : origin.Upstream). (w.unsent ≡ []) × (is_same w.reading (is_wanted (p.tables.exchange z)) ≡ true))
          (some_inj (origins.at_its_end m.u) v (sym end_row ∙ is)) (settled off);
    }
      where
        settled : is_touched s z ≡ false → (m.u.unsent ≡ []) × (is_same m.u.reading (is_wanted (p.tables.exchange z)) ≡ true)
        settled off = h.quiet.keeps.upstreams.touched z m.u m.is (open_one z m) (sym (touched z) ∙ off) (ap (λ es. asks_in z (acts_in es)) h.part)

    pub end_goes : Goes (KeepsQuiet t) (faults_in x.cache) (record x { upstreams = s }) (ends t.frame.limits (exchange_of t.dialled k) k p)
    end_goes =
        subst (λ o. Goes (KeepsQuiet t) (faults_in x.cache) (record x { upstreams = s }) (ends t.frame.limits o k p)) (sym (of_one z m))
        (record { q = r; keeps = done_all z t (record x { upstreams = s }) r end_but end_done; later = omega arith; same = λ same. refl })

  -- IT IS BROKEN

  module _ (z : ℕ) (there : is_at k (upstream_of x.upstreams z) ≡ true) (mid x' : loop.Proxy B g)
      (stepped : (f : Frame) (p : Proxy) → HasCache f x p → unread p + bytes_received x.cache + 0 ≤ f.bytes → Stepped f x mid (event.Fault z) p)
      (rest : RestStays x mid) (moved : mid.moved ≡ true) (one : steps mid.cache ≡ steps x.cache + 1) (hangs : HangsUp z mid x') where
    at_z : HasNumber k (upstream_of x.upstreams z)
    at_z = numbered k (upstream_of x.upstreams z) there

    st : Stepped t.frame x mid (event.Fault z) p
    st = stepped t.frame p h.quiet.keeps.cache (let all : unread p + bytes_received x.cache ≤ t.frame.bytes = h.quiet.keeps.cache.small in omega arith)

    faulted : KeepsBut z t mid (with_entry st.e p)
    faulted = but_stepped z t x mid p (event.Fault z) (but_it z t x p h.quiet) st rest refl (λ y stops. sym stops) moved one
        (λ c is. let never : event.Fault z ≡ event.Cancel c = is in cc) (λ c starts. starts)

    row_there : (o : Option Exchange) → p.tables.exchange z ≡ o → is_open o ≡ true → is_open ((after p.tables st.e).exchange z) ≡ false
    row_there None is on = absurd (let never : false ≡ true = on in cc)
    row_there (Some w) is on = fault_closes t.frame.limits p.tables st.e st.is_owed z w is on st.event_is

    shut : is_open ((with_entry st.e p).tables.exchange z) ≡ false
    unfolding with_entry
    shut = row_there (p.tables.exchange z) refl (open_one z at_z)

    pub break_goes : Goes (KeepsQuiet t) (faults_in x.cache) x' (broke t.frame.limits (exchange_of t.dialled k) k p)
    break_goes =
        subst (λ o. Goes (KeepsQuiet t) (faults_in x.cache) x' (broke t.frame.limits o k p)) (sym (of_one z at_z))
        (record {
          q = with_entry st.e p;
          keeps = hung_up t z mid x' (with_entry st.e p) faulted shut hangs;
          later = subst (λ c. faults_in x.cache ≤ faults_in c) (sym hangs.cache) st.later;
          same = λ same. ap (λ e. with_entry e p) (st.same (ap faults_in (sym hangs.cache) ∙ same)) ∙
              sym (broken (is_open (p.tables.exchange z)) (open_one z at_z));
        })
      where
        broken : (b : Bool) → b ≡ true →
            (if b then steps_of.stepped t.frame.limits (event.Fault z) p else p) ≡ steps_of.stepped t.frame.limits (event.Fault z) p
        broken true on = refl
        broken false on = absurd (let never : false ≡ true = on in cc)

-- WHAT A STEP ASKS FOR

module _ {B : Type 0} {g : Ghosts B} (x : loop.Proxy B g) (k : ℕ) where
  pub some_cache : (x' : loop.Proxy B g) → x'.cache ≡ x.cache → x'.record ≡ x.record → x'.now ≡ x.now → x'.starts ≡ x.starts → x'.front ≡ x.front →
      ∥ IsAtEvent x k ∥₁ →
      ∥ StandsForSome x' ∥₁
  some_cache x' cache text now starts front some = ∥∥₁_map some
      (λ s. (s.0.frame, s.1, cache_moves s.0.frame x x' s.1 cache text now starts front s.2.quiet.keeps.cache))

  pub small_bytes : ∥ IsAtEvent x k ∥₁ → bytes_received x.cache + 0 < 2 ^ 61
  small_bytes some = ∥∥₁_elim some le_prop (λ s.
      let a : unread s.1 + bytes_received x.cache ≤ s.0.frame.bytes = s.2.quiet.keeps.cache.small in
      let b : s.0.frame.bytes ≤ 2 ^ 60 = s.2.quiet.keeps.cache.bounded in
      omega arith)

  holder_of : (t : Turn) (p : Proxy) (c : ℕ) (client : peer.Client) (o : Option peer.Client) (r : Option Client) → IsClientAt (taken_at t.call k) o r →
      p.client k ≡ r → o ≡ Some client → client.consumer ≡ Some c → IsHolder p k c
  holder_of t p c client None r at row is waits = none_some client is
  holder_of t p c client (Some d) None at row is waits = absurd at
  holder_of t p c client (Some d) (Some r) at row is waits =
      record { row = r; at = row; here = at.here; consumer = sym at.consumer ∙ (ap (λ (w : peer.Client). w.consumer) (some_inj d client is) ∙ waits) }

  pub small_consumer : ∥ IsAtEvent x k ∥₁ → steps x.cache < 2 ^ 60 → (client : peer.Client) (c : ℕ) → client_of x.clients k ≡ Some client →
      client.consumer ≡ Some c → c < 2 ^ 62
  small_consumer some few client c is waits = ∥∥₁_elim some le_prop (λ s.
      let w = holder_of s.0 s.1 c client (client_of x.clients k) (s.1.client k) (s.2.quiet.keeps.clients.rows k) refl is waits in
      let a : c ≤ s.1.starts = s.2.quiet.keeps.consumers.started k c w in
      let b : s.1.starts ≤ s.1.setting.contents.last_consumer + steps x.cache = s.2.quiet.keeps.numbers in
      let room : s.1.setting.contents.last_consumer < 2 ^ 61 = s.2.quiet.keeps.cache.room in
      omega arith)

  pub small_exchange : ∥ IsAtEvent x k ∥₁ → steps x.cache < 2 ^ 60 → (z : ℕ) → is_at k (upstream_of x.upstreams z) ≡ true → z < 2 ^ 62
  small_exchange some few z there = ∥∥₁_elim some le_prop (λ s.
      let on = open_one s.0 x s.1 k s.2 z (numbered k (upstream_of x.upstreams z) there) in
      let a : z ≤ s.1.tables.opened = open_number s.1.tables (law_of s.0.frame x s.1 s.2.quiet.keeps.cache) z on (nat_lt s.1.tables.opened z) refl in
      let b : s.1.tables.opened ≤ s.1.setting.contents.next_exchange + steps x.cache = s.2.quiet.keeps.opened in
      let few_before : s.1.setting.contents.next_exchange ≤ 2 ^ 60 = few_exchanges (limits_in x.cache) s.1.setting s.2.quiet.keeps.cache.stands.begins in
      omega arith)
