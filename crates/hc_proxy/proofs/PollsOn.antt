-- The step *polls*, in the code and in the definitions.
--
-- The code goes through those live consumers alone whose clients were sent all, in ascending order. Before the polls no
-- act tells anybody that it is over: so these are the live ones of the tables. Each poll is one of the definitions',
-- over a store that may fail. It changes no client: so who may be polled stays so. What the polls add tells each its
-- own consumer.
use Rattle.std.{proofs.{Common.{◌≡◌, inl, inr, ◌≤◌, ◌<◌, ◌^◌, ℕ, ◌+◌, Bool, true, false, List, [], ◌∷◌, ◌++◌, Option, Some, None, refl, ap, sym, ◌∙◌, subst, arith}, Math.{Bridge.{le_prop}, Logic.{∥∥₁_elim}}, lemmas.List.Kept.{IsStrictlySortedBy-filter}}, specs.{Prelude.{◌||◌, ◌&&◌, not, filter, is_some, length, Contains, IsSome, ◌↔◌}, List.{list_all, Sorted.{IsStrictlySortedBy}}, Ordering.{nat_cmp}}}
use Rattle.std.specs.BTreeMap as tree
use Rattle.hc_text.proofs.Basics.{filter_short}
use Rattle.hc_core.specs.Steps.{faults_in, steps}
use Rattle.hc_effects.proofs.Vocabulary.{Event, Limits, is_live, Entry, owed, RequestsAreForTargets, event}
use Rattle.hc_laws.proofs.{RunsWithinLimits.{requests_are_for_targets}, LiveAfter.{Starts}}
use Rattle.hc_peers.specs.Clients.{client_of, consumers_of}
use Rattle.hc_peers.specs.Clients as peers
use Rattle.hc_store.specs.declared.backend.Backend.{Ghosts}
use Rattle.hc_wire.specs.Logs.{Called}
use Rattle.hc_proxy.specs.declared.proxy.Proxy as loop
use Rattle.hc_proxy.specs.{Carrying.{acts_in}, Handling.{clients_here}, Invariants.{HasConsumers, IsHolder, IsHeardOut, ArePlain}, Keeping.{Frame, Turn, HasCache, HasMoved, Keeps, KeepsHeard, KeepsPolled, IsHeard, PolledBy, RestStays, Goes}, Polls.{takes_more, may_be_polled, polled, each_polled, polled_all, live_consumers}, Rows.{Client, Upstream, Proxy}, Steps.{with_entry, stepped}, Waiting.{is_poll, pends, is_waiting}}
use Rattle.hc_proxy.proofs.{Ascending.{lives_ascend, lives_are}, Holders.{entry_keeps}, IdleClients.{IsUnpolled, polled_one, unpolled_skipped, polls_are_each}, KeepsOn.{keeps_on, heard_on}, Marked.{sorted_ascends, among_passes, passed_among, lives_among}, OpenAfter.{Stops}, PlainActs.{plain_behind, quiet_plain}, Polled.{IsPollOf, PollsBy, polls_add}, QuietActs.{quiet_ends_none}, Rows.{holder_of, live_at, taking_is}, Served.{served_behind}, SkippedSteps.{among, Ascends, same_each}, StartsOn.{just_here, here_order}, StaysOver.{HasOver, are_over, over_keeps}, StepOn.{stands_of, law_of}, HandedOn.{quiet_up}}
use Rattle.hc_proxy.proofs.Polled as by

-- POLLS, one more

module _ (limits : Limits) (call : Called) where
  polls_more : (cs : List ℕ) (c : ℕ) (p q : Proxy) (e : Entry) → PollsBy limits call cs p q → may_be_polled call q (q.holder c) ≡ true →
      IsPollOf limits q e c → PollsBy limits call (cs ++ c ∷ []) p (with_entry e q)
  polls_more _ c p _ e (by.over _) may is = by.polls c [] p (with_entry e p) e may is (by.over (with_entry e p))
  polls_more _ c p q e (by.skips d cs _ _ off rest) may is = by.skips d (cs ++ c ∷ []) p (with_entry e q) off (polls_more cs c p q e rest may is)
  polls_more _ c p q e (by.polls d cs _ _ f on made rest) may is =
      by.polls d (cs ++ c ∷ []) p (with_entry e q) f on made (polls_more cs c (with_entry f p) q e rest may is)

  each_more : (cs : List ℕ) (c : ℕ) (p : Proxy) → each_polled limits call (cs ++ c ∷ []) p ≡ polled limits call c (each_polled limits call cs p)
  each_more [] c p = refl
  each_more (d ∷ cs) c p = each_more cs c (polled limits call d p)

  polled_is : (c : ℕ) (q : Proxy) → may_be_polled call q (q.holder c) ≡ true → polled limits call c q ≡ stepped limits (event.Poll c 16384) q
  polled_is c q may = rw may refl

  may_alike : (p q : Proxy) → q.client ≡ p.client → (o : Option ℕ) → may_be_polled call q o ≡ may_be_polled call p o
  may_alike p q same None = refl
  may_alike p q same (Some k) = ap (λ (f : ℕ → Option Client). takes_more call k (f k)) same

-- it moved before, or doesn't wait
moved_more : (a w : Bool) → (not a || not w) ≡ not (w && a)
moved_more true true = refl
moved_more true false = refl
moved_more false true = refl
moved_more false false = refl

no_stop : (c y : ℕ) (ev : Event) → ev ≡ event.Poll c 16384 → Stops y ev → ⊥
no_stop c y ev is stops = subst (Stops y) is stops

no_start : (c d : ℕ) (ev : Event) → ev ≡ event.Poll c 16384 → Starts d ev → ⊥
no_start c d ev is starts = subst (Starts d) is starts

no_cancel : (c d : ℕ) (ev : Event) → ev ≡ event.Poll c 16384 → ev ≡ event.Cancel d → ⊥
no_cancel c d ev is at = let never : true ≡ false = ap is_poll (sym is ∙ at) in cc

module _ {B : Type 0} {g : Ghosts B} where
  -- each consumer asks for a target
  asked_of : (f : Frame) (x : loop.Proxy B g) (p : Proxy) → HasCache f x p → RequestsAreForTargets p.tables
  asked_of f x p h = subst RequestsAreForTargets (sym h.same) (requests_are_for_targets p.setting.contents p.history h.targets)

  -- THE LOOP

  -- Behind polls of these: the tables are those of polls over a store that may fail, and the definitions' where it didn't.
  pub record PollsTo (t : Turn) (old x : loop.Proxy B g) (p : Proxy) (cs : List ℕ) : Type 0 where
    pub q : Proxy
    pub keeps : Keeps t x q
    pub moved : HasMoved x q
    pub heard : IsHeardOut q
    pub over : HasOver q
    pub made : PollsBy t.frame.limits t.call cs p q
    pub clients : q.client ≡ p.client
    pub holders : q.holder ≡ p.holder
    pub upstreams : q.upstream ≡ p.upstream
    pub plain : ArePlain (acts_in q.part) q.tables
    pub later : faults_in old.cache ≤ faults_in x.cache
    pub same : faults_in x.cache ≡ faults_in old.cache → q ≡ each_polled t.frame.limits t.call cs p

  -- the list over which a step goes is not one of what is kept
  pub heard_round : (t : Turn) (x z : loop.Proxy B g) (p : Proxy) → KeepsHeard t x p → KeepsHeard t (record x { round = z.round }) p
  heard_round t x z p k =
      let h = k.quiet.keeps in
      record {
        quiet = record {
          keeps = record {
            cache = record {
              setting = h.cache.setting;
              stands = h.cache.stands;
              same = h.cache.same;
              limits = h.cache.limits;
              now = h.cache.now;
              early = h.cache.early;
              last = h.cache.last;
              starts = h.cache.starts;
              front = h.cache.front;
              last_start = h.cache.last_start;
              text = h.cache.text;
              recorded = h.cache.recorded;
              before = h.cache.before;
              unopened = h.cache.unopened;
              headed = h.cache.headed;
              small = h.cache.small;
              bounded = h.cache.bounded;
              room = h.cache.room;
              targets = h.cache.targets;
              timed = h.cache.timed;
            };
            acts = h.acts;
            clients = record { rows = h.clients.rows; order = h.clients.order; listed = h.clients.listed; few = h.clients.few };
            consumers = h.consumers;
            upstreams = record {
              rows = h.upstreams.rows;
              numbers = h.upstreams.numbers;
              over = h.upstreams.over;
              news = h.upstreams.news;
              touched = h.upstreams.touched;
              opens = h.upstreams.opens;
              names = h.upstreams.names;
              strangers = h.upstreams.strangers;
            };
            wire = record { clients = h.wire.clients; upstreams = h.wire.upstreams; all = h.wire.all; closed = h.wire.closed };
            numbers = h.numbers;
            opened = h.opened;
            seen = h.seen;
            shut = h.shut;
            known = h.known;
          };
          moved = k.quiet.moved;
          quiet = k.quiet.quiet;
        };
        heard = k.heard;
      }

  -- no act before the polls tells anybody that it is over
  none_over : (t : Turn) (x : loop.Proxy B g) (p : Proxy) → KeepsHeard t x p → HasOver p
  none_over t x p k c leaves = absurd (let never : false ≡ true = sym (quiet_ends_none c (acts_in p.part) k.quiet.quiet) ∙ leaves in cc)

  pub polls_begin : (t : Turn) (old x : loop.Proxy B g) (p : Proxy) → faults_in x.cache ≡ faults_in old.cache → KeepsHeard t x p → PollsTo t old x p []
  polls_begin t old x p calm k = record {
    q = p;
    keeps = k.quiet.keeps;
    moved = k.quiet.moved;
    heard = k.heard;
    over = none_over t x p k;
    made = by.over p;
    clients = refl;
    holders = refl;
    upstreams = refl;
    plain = quiet_plain (acts_in p.part) p.tables k.quiet.quiet;
    later = (let same : faults_in x.cache ≡ faults_in old.cache = calm in omega arith);
    same = λ none. refl;
  }

  pub polls_next : (t : Turn) (old x x' : loop.Proxy B g) (p : Proxy) (cs : List ℕ) (c : ℕ) → may_be_polled t.call p (p.holder c) ≡ true →
      PollsTo t old x p cs → ((q : Proxy) → Keeps t x q → PolledBy t.frame x x' c q) → RestStays x x' → steps x'.cache ≡ steps x.cache + 1 →
      PollsTo t old x' p (cs ++ c ∷ [])
  unfolding with_entry
  polls_next t old x x' p cs c may to polls rest count =
      let q = to.q in
      let made = polls q to.keeps in
      let s = made.stepped in
      let h = to.keeps.cache in
      let law = law_of t.frame x q h in
      let may_q : may_be_polled t.call q (q.holder c) ≡ true =
      ap (λ (f : ℕ → Option ℕ). may_be_polled t.call q (f c)) to.holders ∙ (may_alike t.frame.limits t.call p q to.clients (p.holder c) ∙ may) in
      let consumers : HasConsumers (with_entry s.e q) =
      entry_keeps t.frame.limits q s.e law s.is_owed to.keeps.consumers (λ d at. no_cancel c d s.e.event s.event_is at)
      (λ d at. no_start c d s.e.event s.event_is at) in
      let waits : is_poll s.e.event ≡ true = ap is_poll s.event_is in
      let number : q.starts ≤ q.setting.contents.last_consumer + steps x.cache = to.keeps.numbers in
      let counted : steps x'.cache ≡ steps x.cache + 1 = count in
      let before : faults_in old.cache ≤ faults_in x.cache = to.later in
      let behind : faults_in x.cache ≤ faults_in x'.cache = s.later in
      record {
        q = with_entry s.e q;
        keeps = keeps_on t x x' (event.Poll c 16384) q (stands_of t.frame x q h) h.unopened to.keeps.acts to.keeps.clients to.keeps.upstreams
            to.keeps.wire to.keeps.seen to.keeps.shut to.keeps.known s rest (λ y at. no_stop c y s.e.event s.event_is at) consumers (omega arith)
            (let le : q.tables.opened ≤ q.setting.contents.next_exchange + steps x.cache = to.keeps.opened in omega arith);
        moved =
            made.moved ∙ (ap (λ (b : Bool). b || not (pends s.e.acts)) to.moved
            ∙ (moved_more (list_all is_waiting q.part) (pends s.e.acts)
            ∙ ap (λ (b : Bool). not ((b && pends s.e.acts) && list_all is_waiting q.part)) (sym waits)));
        heard = heard_on t.frame x q s.e h s.is_owed to.heard;
        over = over_keeps t.frame.limits q s.e law s.is_owed to.over;
        made = polls_more t.frame.limits t.call cs c p q s.e to.made may_q (record { is_owed = s.is_owed; event_is = s.event_is; now = s.now });
        clients = to.clients;
        holders = to.holders;
        upstreams = to.upstreams;
        plain =
            plain_behind t.frame.limits q (stands_of t.frame x q h) s.e s.is_owed (law_of t.frame x' (with_entry s.e q) s.cache)
            (asked_of t.frame x' (with_entry s.e q) s.cache) (acts_in q.part) (λ y at. no_stop c y s.e.event s.event_is at) to.plain;
        later = omega arith;
        same = λ none.
            let calm : faults_in x'.cache ≡ faults_in old.cache = none in
            let first : q ≡ each_polled t.frame.limits t.call cs p = to.same (omega arith) in
            let entry : s.e ≡ owed t.frame.limits q.tables q.moment (event.Poll c 16384) = s.same (omega arith) in
            ap (λ (e : Entry). with_entry e q) entry
            ∙ (sym (polled_is t.frame.limits t.call c q may_q)
            ∙ (ap (polled t.frame.limits t.call c) first ∙ sym (each_more t.frame.limits t.call cs c p)));
      }

  -- WHO IS POLLED

  module _ (t : Turn) (x : loop.Proxy B g) (p : Proxy) (k : KeepsHeard t x p) (order : IsStrictlySortedBy nat_cmp (consumers_of x.clients)) where
    abbrev pub round : List ℕ
    round = filter (peers.takes_more x.clients) (consumers_of x.clients)

    round_up : Ascends 0 round
    round_up = sorted_ascends round (IsStrictlySortedBy-filter nat_cmp (peers.takes_more x.clients) (consumers_of x.clients) order)

    record IsAt (c : ℕ) : Type 0 where
      j : ℕ
      holder : IsHolder p j c

    at_by : (c : ℕ) (o : Option ℕ) → tree.get nat_cmp x.clients.live c ≡ o → is_some o ≡ true → IsAt c
    at_by c None at there = absurd (let never : false ≡ true = there in cc)
    at_by c (Some i) at there = record { j = i; holder = holder_of t x p k.quiet.keeps.clients c i at }

    at_of : (c : ℕ) → among c round ≡ true → IsAt c
    at_of c there = at_by c (tree.get nat_cmp x.clients.live c) refl
        (sym (lives_among x.clients c) ∙ (passed_among (peers.takes_more x.clients) c (consumers_of x.clients) there).0)

    pub round_live : (c : ℕ) → among c round ≡ true → is_live (p.tables.consumer c) ≡ true
    round_live c there =
        let a = at_of c there in
        elim (k.quiet.keeps.consumers.alive a.j c a.holder) as (λ _. is_live (p.tables.consumer c) ≡ true) [
          | inl on ↦ on
          | inr leaves ↦ absurd (let never : false ≡ true = sym (quiet_ends_none c (acts_in p.part) k.quiet.quiet) ∙ leaves in cc)
        ]

    pub round_may : (c : ℕ) → among c round ≡ true → may_be_polled t.call p (p.holder c) ≡ true
    round_may c there =
        let a = at_of c there in
        ap (may_be_polled t.call p) (k.quiet.keeps.consumers.held a.j c a.holder)
        ∙ (sym (taking_is t x p k.quiet.keeps.clients a.j c a.holder) ∙ (passed_among (peers.takes_more x.clients) c (consumers_of x.clients) there).1)

    -- its number was given out
    pub round_started : (c : ℕ) → among c round ≡ true → c ≤ p.starts
    round_started c there = let a = at_of c there in k.quiet.keeps.consumers.started a.j c a.holder

    -- no more are polled than clients are here
    pub round_few : (count : ℕ) →
        ((ks : List ℕ) → IsStrictlySortedBy nat_cmp ks → ((j : ℕ) → Contains ks j ↔ IsSome (client_of x.clients j)) → count ≡ length ks) →
        length (consumers_of x.clients) ≤ count → length round ≤ 512
    round_few count all few =
        let h = k.quiet.keeps.clients in
        let same : count ≡ length (clients_here p) = all (clients_here p) (here_order t x p h) (just_here t x p h) in
        let here : length (clients_here p) ≤ 512 = h.few in
        let part : length round ≤ length (consumers_of x.clients) = filter_short (peers.takes_more x.clients) (consumers_of x.clients) in
        omega arith

    -- who is live and isn't there isn't polled
    others_idle : (c : ℕ) → among c (live_consumers p.tables) ≡ true → among c round ≡ false → IsUnpolled t.frame.limits t.call p c
    others_idle c there off =
        let w = k.quiet.keeps.consumers.live c (sym (lives_are p.tables (law_of t.frame x p k.quiet.keeps.cache) c) ∙ there) in
        let at : may_be_polled t.call p (p.holder c) ≡ peers.takes_more x.clients c =
        ap (may_be_polled t.call p) (k.quiet.keeps.consumers.held w.0 c w.1) ∙ sym (taking_is t x p k.quiet.keeps.clients w.0 c w.1) in
        by_test w.0 w.1 at (peers.takes_more x.clients c) refl
      where
        by_test : (j : ℕ) → IsHolder p j c → may_be_polled t.call p (p.holder c) ≡ peers.takes_more x.clients c → (b : Bool) →
            peers.takes_more x.clients c ≡ b → may_be_polled t.call p (p.holder c) ≡ false
        by_test j w at false is = at ∙ is
        by_test j w at true is =
            let listed : among c (consumers_of x.clients) ≡ true = lives_among x.clients c ∙ ap is_some (live_at t x p k.quiet.keeps.clients j c w) in
            let never : true ≡ false = sym (among_passes (peers.takes_more x.clients) c (consumers_of x.clients) listed is) ∙ off in
            absurd (cc)

    none_else : (c : ℕ) → among c round ≡ true → among c (live_consumers p.tables) ≡ false → IsUnpolled t.frame.limits t.call p c
    none_else c there off = absurd (let never : true ≡ false = sym (lives_are p.tables (law_of t.frame x p k.quiet.keeps.cache) c ∙ round_live c there) ∙
        off in cc)

    same_polls : each_polled t.frame.limits t.call round p ≡ polled_all t.frame.limits t.call p
    unfolding polled_all
    same_polls =
        polls_are_each t.frame.limits t.call round p
        ∙ (same_each (polled_one t.frame.limits t.call) (λ z. Unit {0}) (IsUnpolled t.frame.limits t.call) (unpolled_skipped t.frame.limits t.call) round
        (live_consumers p.tables) 0 0 round_up
        (lives_ascend p.tables (law_of t.frame x p k.quiet.keeps.cache)) p tt none_else others_idle
        ∙ sym (polls_are_each t.frame.limits t.call (live_consumers p.tables) p))

    -- Behind all polls.
    pub polls_end : (x' : loop.Proxy B g) → PollsTo t x x' p round → Goes (KeepsPolled t) (faults_in x.cache) x' (polled_all t.frame.limits t.call p)
    polls_end x' to = record {
      q = to.q;
      keeps = record {
        keeps = to.keeps;
        moved = to.moved;
        heard = to.heard;
        served =
            served_behind t.frame.limits t.call round p to.q k.quiet.keeps.consumers k.quiet.quiet round_live
            (polls_add t.frame.limits t.call round 0 p to.q round_up (stands_of t.frame x p k.quiet.keeps.cache) to.made);
        over = are_over to.q to.over;
        shut = λ y closes. (to.keeps.shut y closes).0;
        plain = to.plain;
        undialled = λ y past.
            let all : length t.dialled ≡ p.tables.opened =
            quiet_up (acts_in p.part) (length t.dialled) p.tables.opened k.quiet.quiet k.quiet.keeps.upstreams.opens in
            ap (λ (f : ℕ → Option Upstream). f y) to.upstreams ∙ k.quiet.keeps.cache.unopened y (omega arith);
        known = to.keeps.known;
      };
      later = to.later;
      same = λ none. to.same none ∙ same_polls;
    }

  -- WHERE SOME TABLES STAND

  pub few_of : (x : loop.Proxy B g) → ∥ IsHeard x ∥₁ → IsStrictlySortedBy nat_cmp (consumers_of x.clients) → (count : ℕ) →
      ((ks : List ℕ) → IsStrictlySortedBy nat_cmp ks → ((j : ℕ) → Contains ks j ↔ IsSome (client_of x.clients j)) → count ≡ length ks) →
      length (consumers_of x.clients) ≤ count → length (filter (peers.takes_more x.clients) (consumers_of x.clients)) ≤ 512
  few_of x some order count all few = ∥∥₁_elim some le_prop (λ s. round_few s.0 x s.1 s.2 order count all few)

  pub small_of : (x : loop.Proxy B g) → ∥ IsHeard x ∥₁ → IsStrictlySortedBy nat_cmp (consumers_of x.clients) → (c : ℕ) →
      among c (filter (peers.takes_more x.clients) (consumers_of x.clients)) ≡ true → c < 2 ^ 61 + steps x.cache
  small_of x some order c there = ∥∥₁_elim some le_prop (λ s.
      let a : c ≤ s.1.starts = round_started s.0 x s.1 s.2 order c there in
      let b : s.1.starts ≤ s.1.setting.contents.last_consumer + steps x.cache = s.2.quiet.keeps.numbers in
      let room : s.1.setting.contents.last_consumer < 2 ^ 61 = s.2.quiet.keeps.cache.room in
      omega arith)
