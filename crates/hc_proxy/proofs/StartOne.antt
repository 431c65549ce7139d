-- One client's next request is read, in the code and in the definitions.
--
-- The code reads that of the first client whose is to be read: it waits for nothing, was sent all, and isn't to be
-- closed. What stands next is nothing yet, an error or a request. In each case its row is changed alike in the code and
-- in the definitions, and all others stay. A request starts a consumer with the next number, whose holder is this
-- client: no other one has that number. A start stops no exchange, and its acts are quiet.
use Rattle.std.{proofs.{Common.{◌≡◌, ◌⊎◌, inl, inr, ◌≤◌, ◌<◌, ℕ, ◌+◌, List, [], ◌∷◌, ◌++◌, length, Bool, true, false, Option, Some, None, refl, ap, sym, ◌∙◌, subst, arith}, Math.Path.{fun_ext}, lemmas.List.{length-append, drop-append-le}}, specs.{Prelude.{◌&&◌, nat_eq, nat_lt, not, is_none, option_map, if◌then◌else◌, IsSome, Contains}, List.{list_all}}}
use Rattle.hc_text.proofs.Basics.{none_some, not_true as not_so, eq_itself as same_number}
use Rattle.hc_core.specs.Steps.{faults_in, steps}
use Rattle.hc_effects.proofs.Vocabulary.{event, Request, live, Entry, owed}
use Rattle.hc_head.specs.declared.message.{MsgError.{MsgError}, WireRequest.{WireRequest}}
use Rattle.hc_msg.specs.{Inputs.{Next, next_in}, Reading.{Reading, Failed}}
use Rattle.hc_peers.specs.{Agreement.{ready_at}, Clients.{client_of, ready_of}, Renderings.{asked_of, reply_to, empty_answer, error_status}, Upstreams.{upstream_of}, declared.{clients.Clients.{Clients}, reply.Reply.{Reply}}}
use Rattle.hc_peers.specs.Clients as clients
use Rattle.hc_peers.specs.Peers as peers
use Rattle.hc_peers.specs.declared.client.Client as peer
use Rattle.hc_peers.specs.declared.upstream.Upstream as origin
use Rattle.hc_store.specs.declared.backend.Backend.{Ghosts}
use Rattle.hc_proxy.specs.declared.proxy.Proxy as loop
use Rattle.hc_proxy.specs.{Carrying.{acts_in}, Connections.{taken_at}, Handling.{is_client, clients_here}, Invariants.{HasConsumers, IsOfRequests}, Keeping.{Turn, HasCache, HasClients, HasUpstreams, IsClient, IsClientAt, AtWire, AreSeen, Keeps, KeepsHeard, Stepped, RestStays, Goes, first_ready}, Rows.{Client, Proxy, changed, with_client}, Starts.{read_to, asks, refused, with_holder, started, is_ready, hears, hears_if, each_heard}, Steps.{with_entry}, Waiting.{is_poll, is_waiting}}
use Rattle.hc_proxy.proofs.{Alike.{cache_moves, cache_with, upstreams_move}, FewHere.{few_live}, Holders.{KeepsWho, held_of, of_held, change_keeps, changed_here, reads_keep, start_keeps}, KeepsOn.{keeps_on, heard_on}, Marked.{ready_among}, OpenAfter.{Stops}, QuietActs.{is_quiet_entry, quiet_both}, RowChanges.{ChangesClient, changed_clients, row_was, wire_same, seen_still, upstreams_with}, Rows.{readies}, SkippedSteps.{among}, StepOn.{law_of, stands_of}}

-- ONE THAT IS READY

ready_parts : (a b d e : Bool) → (a && b && d && e) ≡ true → (b ≡ true) × (e ≡ true)
ready_parts true true true true h = (refl, refl)
ready_parts _ _ _ _ h = absurd (let never : false ≡ true = h in cc)

none_of : (o : Option ℕ) → is_none o ≡ true → o ≡ None
none_of None h = refl
none_of (Some c) h = absurd (let never : false ≡ true = h in cc)

-- TWO CHANGES of one row are one

pub both_changes : (k : ℕ) (f h : Client → Client) (all : ℕ → Option Client) → changed k f (changed k h all) ≡ changed k (λ r. f (h r)) all
both_changes k f h all = fun_ext (λ j. at j (nat_eq j k) (all j))
  where
    mapped : (o : Option Client) → option_map f (option_map h o) ≡ option_map (λ r. f (h r)) o
    mapped None = refl
    mapped (Some r) = refl

    at : (j : ℕ) (b : Bool) (o : Option Client) →
        (if b then option_map f (if b then option_map h o else o) else (if b then option_map h o else o)) ≡ (if b then option_map (λ r. f (h r)) o else o)
    at j true o = mapped o
    at j false o = refl

-- who is there was
some_back : (k : ℕ) (f : Client → Client) (all : ℕ → Option Client) (j : ℕ) → IsSome (changed k f all j) → IsSome (all j)
some_back k f all j some = by_test (nat_eq j k) (all j) some
  where
    by_test : (b : Bool) (o : Option Client) → IsSome (if b then option_map f o else o) → IsSome o
    by_test true None h = h
    by_test true (Some r) h = refl
    by_test false o h = h

none_on : (k : ℕ) (f : Client → Client) (all : ℕ → Option Client) (j : ℕ) → all j ≡ None → changed k f all j ≡ None
none_on k f all j none = by_test (nat_eq j k) (all j) none
  where
    by_test : (b : Bool) (o : Option Client) → o ≡ None → (if b then option_map f o else o) ≡ None
    by_test true None h = refl
    by_test true (Some r) h = absurd (let never : Some r ≡ None = h in cc)
    by_test false o h = h

-- WHAT THE ROW BECOMES

read_is : (taken : ℕ) (client : peer.Client) (r : Client) (reading : Reading) (left : List ℕ) → IsOfRequests reading → IsClient taken client r →
    IsClient taken (peers.read_to reading left client) (read_to reading left r)
read_is taken client r reading left of is =
    record {
      here = is.here;
      reading = refl;
      input = refl;
      consumer = is.consumer;
      reply = is.reply;
      closing = is.closing;
      within = is.within;
      unsent =
          is.unsent;
      asking = of;
    }

asks_is : (taken c d : ℕ) (client : peer.Client) (r : Client) (reply reply' : Reply) → c ≡ d → reply ≡ reply' → IsClient taken client r →
    IsClient taken (peers.asks c reply client) (asks d reply' r)
asks_is taken c d client r reply reply' same alike is =
    record {
      here = is.here;
      reading = is.reading;
      input = is.input;
      consumer = ap Some same;
      reply = alike;
      closing = is.closing;
      within = is.within;
      unsent = is.unsent;
      asking = is.asking;
    }

refused_is : (taken : ℕ) (client : peer.Client) (r : Client) (e : MsgError) → IsClient taken client r → IsClient taken (peers.refused e client) (refused e r)
refused_is taken client r e is =
    let answer : List ℕ = empty_answer (error_status e) in
    let within : taken ≤ length r.owed = is.within in
    record {
      here = is.here;
      reading = is.reading;
      input = is.input;
      consumer = is.consumer;
      reply = is.reply;
      closing = refl;
      within = let sum = length-append r.owed (empty_answer (error_status e)) in omega arith;
      unsent = ap (λ (ns : List ℕ). ns ++ empty_answer (error_status e)) is.unsent ∙ sym (drop-append-le taken r.owed (empty_answer (error_status e)) within);
      asking = is.asking;
    }

module _ {B : Type 0} {g : Ghosts B} (t : Turn) (x : loop.Proxy B g) (p : Proxy) (h : KeepsHeard t x p) where
  abbrev keeps : Keeps t x p
  keeps = h.quiet.keeps

  -- WHERE NOTHING CHANGES

  pub stays_heard : (s : Clients) → clients.Stays x.clients s → KeepsHeard t (record x { clients = s }) p
  stays_heard s stays = record {
    quiet = record {
      keeps = record {
        cache = cache_moves t.frame x (record x { clients = s }) p refl refl refl refl refl keeps.cache;
        acts = keeps.acts;
        clients = record {
          rows = λ j. subst (λ o. IsClientAt (taken_at t.call j) o (p.client j)) (sym (stays j)) (keeps.clients.rows j);
          order = keeps.clients.order;
          listed = keeps.clients.listed;
          few = keeps.clients.few;
        };
        consumers = keeps.consumers;
        upstreams = upstreams_move t x (record x { clients = s }) p (acts_in p.part) refl keeps.upstreams;
        wire = record {
          clients = λ j c is. keeps.wire.clients j c (sym (stays j) ∙ is);
          upstreams = keeps.wire.upstreams;
          all = λ j opens. elim (keeps.wire.all j opens) as
              (λ _. IsSome (client_of s j) ⊎ ((y : ℕ) × (u : origin.Upstream) × (upstream_of x.upstreams y ≡ Some u) × (u.k ≡ j)) ⊎ Contains x.closed.items j) [
                | inl there ↦ inl (subst IsSome (sym (stays j)) there)
                | inr other ↦ inr other
              ];
          closed = λ j there. let was = keeps.wire.closed j there in (stays j ∙ was.0, was.1);
        };
        numbers = keeps.numbers;
        opened = keeps.opened;
        seen = keeps.seen;
        shut = keeps.shut;
        known = keeps.known;
      };
      moved = h.quiet.moved;
      quiet = h.quiet.quiet;
    };
    heard = h.heard;
  }

  pub nobody_goes : (s : Clients) → clients.Stays x.clients s → ready_of x.clients ≡ [] →
      Goes (KeepsHeard t) (faults_in x.cache) (record x { clients = s }) (each_heard t.frame.limits t.call (first_ready (ready_of x.clients)) p)
  nobody_goes s stays none = record {
    q = p;
    keeps = stays_heard s stays;
    later = omega arith;
    same = λ calm. sym (ap (λ ks. each_heard t.frame.limits t.call (first_ready ks) p) none);
  }

  -- THE FIRST THAT IS READY

  pub record IsReadOne (k : ℕ) (client : peer.Client) : Type 0 where
    pub row : Client
    pub at : p.client k ≡ Some row
    pub is : IsClient (taken_at t.call k) client row
    pub ready : is_ready t.call k row ≡ true

  one_by : (k : ℕ) (client : peer.Client) (o : Option peer.Client) (r : Option Client) → IsClientAt (taken_at t.call k) o r → p.client k ≡ r →
      o ≡ Some client → ready_at o ≡ true → IsReadOne k client
  one_by k client None r at row is on = none_some client is
  one_by k client (Some d) None at row is on = absurd at
  one_by k client (Some d) (Some r) at row is on =
      let same : d ≡ client = (let some : Some d ≡ Some client = is in cc) in
      record {
        row = r;
        at = row;
        is = subst (λ z. IsClient (taken_at t.call k) z r) same at;
        ready = sym (readies t.call k d r at) ∙ on;
      }

  pub first_one : (k : ℕ) (rest : List ℕ) (client : peer.Client) → ready_of x.clients ≡ k ∷ rest → client_of x.clients k ≡ Some client → IsReadOne k client
  first_one k rest client first is =
      let there : among k (ready_of x.clients) ≡ true = ap (among k) first ∙ rw (same_number k) refl in
      one_by k client (client_of x.clients k) (p.client k) (keeps.clients.rows k) refl is (sym (ready_among x.clients k) ∙ there)

  module _ (k : ℕ) (rest : List ℕ) (client : peer.Client) (first : ready_of x.clients ≡ k ∷ rest) (is_row : client_of x.clients k ≡ Some client) where
    abbrev one : IsReadOne k client
    one = first_one k rest client first is_row

    abbrev n : Next
    n = next_in 1 client.reader client.input

    parts : (is_none one.row.consumer ≡ true) × (not one.row.closing ≡ true)
    parts = ready_parts (nat_lt 0 (length one.row.input)) (is_none one.row.consumer) (not (nat_lt (taken_at t.call k) (length one.row.owed)))
        (not one.row.closing) one.ready

    waits_not : one.row.consumer ≡ None
    waits_not = none_of one.row.consumer parts.0

    unshut : one.row.closing ≡ false
    unshut = not_so one.row.closing parts.1

    pub of_requests : IsOfRequests client.reader
    of_requests = subst IsOfRequests (sym one.is.reading) one.is.asking

    -- what the definitions do
    pub each_is : each_heard t.frame.limits t.call (first_ready (ready_of x.clients)) p ≡ hears t.frame.limits k n p
    each_is =
        ap (λ ks. each_heard t.frame.limits t.call (first_ready ks) p) first
        ∙ (ap (λ o. hears_if t.frame.limits t.call k o p) one.at
        ∙ (ap (λ (b : Bool). if b then hears t.frame.limits k (next_in 1 one.row.reading one.row.input) p else p) one.ready
        ∙ (ap (λ (s : Reading). hears t.frame.limits k (next_in 1 s one.row.input) p) (sym one.is.reading)
        ∙ ap (λ (z : List ℕ). hears t.frame.limits k (next_in 1 client.reader z) p) (sym one.is.input))))

    -- ITS ROW CHANGES

    module _ (now : peer.Client) (change : Client → Client) (s : Clients) (becomes : clients.Becomes k (Some now) x.clients s)
        (alike : IsClient (taken_at t.call k) now (change one.row)) (reads : now.reading ≡ client.reading) where
      change_is : ChangesClient (taken_at t.call k) (client_of x.clients k) (p.client k) (Some now) change
      change_is = record {
        alike = subst (λ r. IsClientAt (taken_at t.call k) (Some now) (option_map change r)) (sym one.at) alike;
        reads = λ d same. (
          client,
          is_row,
          ap (λ (z : peer.Client). z.reading) (let some : Some now ≡ Some d = same in let back : d ≡ now = cc in back) ∙
              reads,
        );
        here = λ on. ap is_client one.at ∙ ap not one.is.here;
      }

      clients_now : HasClients t (record x { clients = s }) (with_client k change p)
      clients_now = changed_clients t x p k (Some now) change s becomes change_is keeps.clients

      wire_now : AtWire t.stages (record x { clients = s })
      wire_now = wire_same t x p k (Some now) change s becomes change_is t.stages (λ there. refl) keeps.wire

      module _ (who : (r : Client) → p.client k ≡ Some r → KeepsWho r (change r)) where
        pub changed_heard : KeepsHeard t (record x { clients = s }) (with_client k change p)
        changed_heard = record {
          quiet = record {
            keeps = record {
              cache = cache_moves t.frame x (record x { clients = s }) (with_client k change p) refl refl refl refl refl
                  (cache_with t.frame x p (with_client k change p).client p.accepted keeps.cache);
              acts = keeps.acts;
              clients = clients_now;
              consumers = of_held (with_client k change p) (change_keeps (acts_in p.part) k change p who (held_of p keeps.consumers));
              upstreams = upstreams_move t x (record x { clients = s }) (with_client k change p) (acts_in p.part) refl
                  (upstreams_with k t x p (with_client k change p).client (λ j some. row_was t x p k (Some now) change s becomes change_is j some)
                  keeps.upstreams);
              wire = wire_now;
              numbers = keeps.numbers;
              opened = keeps.opened;
              seen = seen_still t x p k (Some now) change s becomes change_is t.stages t.dialled keeps.seen;
              shut = keeps.shut;
              known = keeps.known;
            };
            moved = h.quiet.moved;
            quiet = h.quiet.quiet;
          };
          heard = h.heard;
        }

    -- NOTHING YET

    pub waits_goes : (reading : Reading) (s : Clients) → IsOfRequests reading → clients.Becomes k (Some (peers.read_to reading [] client)) x.clients s →
        Goes (KeepsHeard t) (faults_in x.cache) (record x { clients = s }) (with_client k (read_to reading []) p)
    waits_goes reading s of becomes = record {
      q = with_client k (read_to reading []) p;
      keeps = changed_heard (peers.read_to reading [] client) (read_to reading []) s becomes
          (read_is (taken_at t.call k) client one.row reading [] of one.is) refl (λ r at. reads_keep reading [] r);
      later = omega arith;
      same = λ calm. refl;
    }

    -- AN ERROR

    pub fails_goes : (e : MsgError) (s : Clients) → clients.Becomes k (Some (peers.refused e (peers.read_to (Failed e) [] client))) x.clients s →
        Goes (KeepsHeard t) (faults_in x.cache) (record x { clients = s }) (with_client k (refused e) (with_client k (read_to (Failed e) []) p))
    fails_goes e s becomes = record {
      q = with_client k (λ r. refused e (read_to (Failed e) [] r)) p;
      keeps =
          changed_heard (peers.refused e (peers.read_to (Failed e) [] client)) (λ r. refused e (read_to (Failed e) [] r)) s becomes
          (refused_is (taken_at t.call k) (peers.read_to (Failed e) [] client) (read_to (Failed e) [] one.row) e
          (read_is (taken_at t.call k) client one.row (Failed e) [] tt one.is)) refl
          (λ r at. record { gone = refl; consumer = refl; shuts = λ on. inr (idle r at) });
      later = omega arith;
      same = λ calm. ap (λ (all : ℕ → Option Client). record p { client = all }) (sym (both_changes k (refused e) (read_to (Failed e) []) p.client));
    }
      where
        idle : (r : Client) → p.client k ≡ Some r → r.consumer ≡ None
        idle r at = ap (λ (z : Client). z.consumer) (let some : Some r ≡ Some one.row = sym at ∙ one.at in let same : r ≡ one.row = cc in same) ∙ waits_not

    -- A REQUEST

    module _ (request : WireRequest) (reading : Reading) (left : List ℕ) (of : IsOfRequests reading) (s : Clients)
        (becomes : clients.Becomes k (Some (peers.asks (x.starts + 1) (reply_to x.front request) (peers.read_to reading left client))) x.clients s) where
      abbrev pub mid : loop.Proxy B g
      mid = record x { clients = s; starts = x.starts + 1 }

      abbrev c : ℕ
      c = p.starts + 1

      abbrev reply : Reply
      reply = reply_to p.setting.front request

      abbrev wanted : Request
      wanted = asked_of p.setting.front request

      abbrev read : Proxy
      read = with_client k (read_to reading left) p

      abbrev pub asked : Proxy
      asked = with_holder c k (with_client k (asks c reply) read)

      abbrev now : peer.Client
      now = peers.asks (x.starts + 1) (reply_to x.front request) (peers.read_to reading left client)

      abbrev once : Client → Client
      once r = asks c reply (read_to reading left r)

      numbers_same : x.starts + 1 ≡ c
      numbers_same = ap (λ (m : ℕ). m + 1) keeps.cache.starts

      twice : asked.client ≡ changed k once p.client
      twice = both_changes k (asks c reply) (read_to reading left) p.client

      alike : IsClient (taken_at t.call k) now (once one.row)
      alike =
          asks_is (taken_at t.call k) (x.starts + 1) c (peers.read_to reading left client) (read_to reading left one.row)
          (reply_to x.front request) reply numbers_same
          (ap (λ (b : Bool). reply_to b request) keeps.cache.front)
          (read_is (taken_at t.call k) client one.row reading left of one.is)

      pub asked_cache : HasCache t.frame mid asked
      asked_cache =
          let z = keeps.cache in
          record {
            setting = z.setting;
            stands = z.stands;
            same = z.same;
            limits = z.limits;
            now = z.now;
            early = z.early;
            last = z.last;
            starts = numbers_same;
            front = z.front;
            last_start = (let le : p.tables.last_start ≤ p.starts = z.last_start in omega arith);
            text = z.text;
            recorded = z.recorded;
            before = z.before;
            unopened = z.unopened;
            headed = z.headed;
            small = z.small;
            bounded = z.bounded;
            room = z.room;
            targets = z.targets;
            timed = z.timed;
          }

      asked_clients : HasClients t mid asked
      asked_clients =
          let a = clients_now now once s becomes alike refl in
          subst (λ (all : ℕ → Option Client). HasClients t mid (record asked { client = all })) (sym twice)
          (record { rows = a.rows; order = a.order; listed = a.listed; few = a.few })

      back : (j : ℕ) → IsSome (asked.client j) → IsSome (p.client j)
      back j some = some_back k (read_to reading left) p.client j (some_back k (asks c reply) read.client j some)

      asked_upstreams : HasUpstreams t mid asked (acts_in p.part)
      asked_upstreams = record {
        rows = keeps.upstreams.rows;
        numbers = keeps.upstreams.numbers;
        over = keeps.upstreams.over;
        news = keeps.upstreams.news;
        touched = keeps.upstreams.touched;
        opens = keeps.upstreams.opens;
        names = keeps.upstreams.names;
        strangers = λ j some. keeps.upstreams.strangers j (back j some);
      }

      asked_wire : AtWire t.stages mid
      asked_wire = let w = wire_now now once s becomes alike refl in record { clients = w.clients; upstreams = w.upstreams; all = w.all; closed = w.closed }

      asked_seen : AreSeen t asked
      asked_seen j unseen =
          let was = keeps.seen j unseen in
          (none_on k (asks c reply) read.client j (none_on k (read_to reading left) p.client j was.0), was.1, was.2)

      read_row : read.client k ≡ Some (read_to reading left one.row)
      read_row = changed_here k (read_to reading left) p one.row one.at

      read_keeps : HasConsumers read
      read_keeps = of_held read (change_keeps (acts_in p.part) k (read_to reading left) p (λ r at. reads_keep reading left r) (held_of p keeps.consumers))

      few : live p.tables < 1024
      few =
          let here : live p.tables ≤ length (clients_here p) = few_live p (law_of t.frame x p keeps.cache) keeps.consumers keeps.clients.listed in
          let most : length (clients_here p) ≤ 512 = keeps.clients.few in
          omega arith

      module _ (r : Request) (r_is : r ≡ asked_of x.front request) (x' : loop.Proxy B g) (st : Stepped t.frame mid x' (event.Start (x.starts + 1) r) asked)
          (stay : RestStays mid x') (moved : x'.moved ≡ true) (count : steps x'.cache ≡ steps x.cache + 1) where
        event_same : event.Start (x.starts + 1) r ≡ event.Start c wanted
        event_same = ap (λ (m : ℕ). event.Start m r) numbers_same ∙ ap (event.Start c) (r_is ∙ ap (λ (b : Bool). asked_of b request) keeps.cache.front)

        event_is : st.e.event ≡ event.Start c wanted
        event_is = st.event_is ∙ event_same

        stops_none : (y : ℕ) → Stops y st.e.event → ⊥
        stops_none y stops = subst (Stops y) event_is stops

        no_poll : is_poll st.e.event ≡ false
        no_poll = ap is_poll event_is

        waits_for_none : is_waiting st.e ≡ false
        waits_for_none = rw no_poll refl

        consumers : HasConsumers (with_entry st.e asked)
        consumers =
            start_keeps t.frame.limits read st.e (law_of t.frame x p keeps.cache) st.is_owed k (read_to reading left one.row) wanted reply read_row one.is.here
            waits_not unshut
            keeps.cache.last_start few event_is read_keeps

        on : Keeps t x' (with_entry st.e asked)
        on =
            keeps_on t mid x' (event.Start (x.starts + 1) r) asked (stands_of t.frame mid asked asked_cache) keeps.cache.unopened keeps.acts asked_clients
            asked_upstreams asked_wire asked_seen
            keeps.shut keeps.known st stay stops_none consumers
            (let le : p.starts ≤ p.setting.contents.last_consumer + steps x.cache = keeps.numbers in
            let n1 : steps x'.cache ≡ steps x.cache + 1 = count in
            omega arith)
            (let le : p.tables.opened ≤ p.setting.contents.next_exchange + steps x.cache = keeps.opened in
            let n1 : steps x'.cache ≡ steps x.cache + 1 = count in
            omega arith)

        asked_heard : KeepsHeard t x' (with_entry st.e asked)
        unfolding with_entry
        asked_heard = record {
          quiet = record {
            keeps = on;
            moved = moved ∙ sym (ap (λ (b : Bool). not (b && list_all is_waiting p.part)) waits_for_none);
            quiet = quiet_both (acts_in p.part) st.e.acts h.quiet.quiet (is_quiet_entry t.frame.limits p.tables st.e st.is_owed no_poll);
          };
          heard = heard_on t.frame mid asked st.e asked_cache st.is_owed h.heard;
        }

        pub asks_goes : Goes (KeepsHeard t) (faults_in x.cache) x' (started t.frame.limits k request read)
        asks_goes = record {
          q = with_entry st.e asked;
          keeps = asked_heard;
          later = st.later;
          same = λ calm. ap (λ (e : Entry). with_entry e asked) (st.same calm ∙ ap (owed t.frame.limits p.tables p.moment) event_same);
        }
