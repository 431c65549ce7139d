-- The step *network* as a loop over the news.
--
-- Each is gone through once, in ascending order. What is open behind a step was open before; so no more of them take
-- steps than were open at first, and each takes two at most. No more exchanges are open than clients are here. Whoever
-- is open and isn't among the news has nothing due, so the definitions come to the same over all open exchanges. Of
-- each whose connection has ended a part stands next: of those gone through by their step, of the others since nothing
-- is due.
use Rattle.std.{proofs.{Common.{◌≡◌, ◌⊎◌, inl, inr, ◌≤◌, ℕ, ◌+◌, ◌*◌, List, [], ◌∷◌, ◌++◌, length, Bool, true, false, Some, refl, ap, sym, ◌∙◌, arith}, lemmas.List.{length-reverse}}, specs.{Prelude.{◌^◌, ◌&&◌, ◌||◌, not, filter}, List.Sorted.{IsStrictlySortedBy}, Ordering.{nat_cmp}}}
use Rattle.hc_text.proofs.Basics.{true_false}
use Rattle.hc_core.specs.Steps.{faults_in, steps}
use Rattle.hc_effects.proofs.Vocabulary.{asks_in, is_open, is_wanted, Lawful, open_now, Limits}
use Rattle.hc_effects.proofs.PieceKeeps.{eq_cases}
use Rattle.hc_peers.specs.{Upstreams.{is_news, news_of}, declared.upstreams.Upstreams.{Upstreams}}
use Rattle.hc_store.specs.declared.backend.Backend.{Ghosts}
use Rattle.hc_proxy.specs.declared.proxy.Proxy as loop
use Rattle.hc_proxy.specs.{Carrying.{acts_in}, Handling.{clients_here}, Hearing.{HasHeard, MayStep}, Invariants.{is_due, is_due_by, is_part}, Keeping.{Turn, KeepsQuiet, KeepsHeard, Goes}, Network.{has_news, next_of, open_exchanges, handed, closed, each_heard, heard}, Rows.{Upstream, Proxy}}
use Rattle.hc_proxy.proofs.{Alike.{cache_moves, clients_move}, Ascending.{opens_ascend, opens_are}, DoneFor.{but_it}, FewHere.{few_open}, IdleExchanges.{Idle, heard_one, is_skipped, is_each}, Marked.{keys_among, sorted_ascends, passed_among}, QuietActs.{quiet_asks_none}, SkippedSteps.{among, Ascends, same_each}, Stands.{Stands}, StepOn.{stands_of, law_of, run_of, begins_of}, UpShort.{up_short, filter_up, filter_both, passes_one}}

-- who stands in the list of the news
pub news_among : (s : Upstreams) (y : ℕ) → among y (news_of s) ≡ is_news s y
news_among s y = sym (keys_among y (news_of s))

each_more : (limits : Limits) (xs : List ℕ) (z : ℕ) (p : Proxy) →
    each_heard limits (xs ++ z ∷ []) p ≡ closed limits z (handed limits z (each_heard limits xs p))
each_more limits [] z p = refl
each_more limits (x ∷ xs) z p = each_more limits xs z (closed limits x (handed limits x p))

-- nothing is due: of a connection that has ended a part stands next
pub due_part : (wanted : Bool) (v : Upstream) → is_due_by wanted (Some v) ≡ false → v.ended ≡ true → is_part (next_of v) ≡ true
due_part wanted v off ended = by_part (is_part (next_of v)) refl
  where
    second : (a b : Bool) → (a || b) ≡ false → b ≡ false
    second true b g = true_false g
    second false b g = g

    by_part : (b : Bool) → is_part (next_of v) ≡ b → is_part (next_of v) ≡ true
    by_part true is = is
    by_part false is = true_false (sym (rw (ended, is) refl) ∙ second (wanted && has_news v) (v.ended && not (is_part (next_of v))) off)

abbrev pub opens_in : Proxy → ℕ → Bool
opens_in p y = is_open (p.tables.exchange y)

module _ {B : Type 0} {g : Ghosts B} where
  -- HOW MANY

  module _ (t : Turn) (x : loop.Proxy B g) (p : Proxy) (k : KeepsQuiet t x p) where
    law : Lawful p.tables
    law = law_of t.frame x p k.keeps.cache

    few_opened : open_now p.tables ≤ 512
    few_opened =
        let a : open_now p.tables ≤ length (clients_here p) =
        few_open p law k.keeps.consumers k.keeps.clients.listed t.frame.limits p.setting.contents p.history
        (begins_of t.frame x p k.keeps.cache) (run_of t.frame x p k.keeps.cache) k.keeps.cache.same in
        let b : length (clients_here p) ≤ 512 = k.keeps.clients.few in
        omega arith

    -- of a list that ascends no more than 512 are open
    pub few_in : (xs : List ℕ) → Ascends 0 xs → length (filter (opens_in p) xs) ≤ 512
    few_in xs up =
        let a : length (filter (opens_in p) xs) ≤ length (open_exchanges p.tables) =
        up_short (open_exchanges p.tables) (filter (opens_in p) xs) 0 0 (filter_up (opens_in p) 0 xs up) (opens_ascend p.tables law)
        (λ y there. opens_are p.tables law y ∙ (passed_among (opens_in p) y xs there).1) in
        let b : length (open_exchanges p.tables) ≡ open_now p.tables = length-reverse (filter (opens_in p) p.tables.openings) in
        let c : open_now p.tables ≤ 512 = few_opened in
        omega arith

    -- THE SAME OVER ALL THAT ARE OPEN

    none_asked : (y : ℕ) → asks_in y (acts_in p.part) ≡ false
    none_asked y = quiet_asks_none y (acts_in p.part) k.quiet

    pub unlisted_idle : (y : ℕ) → is_open (p.tables.exchange y) ≡ true → is_news x.upstreams y ≡ false → is_due p y ≡ false
    unlisted_idle y on off = k.keeps.upstreams.news y on off (none_asked y)

    shut_by : (y : ℕ) (b : Bool) → among y (open_exchanges p.tables) ≡ b → is_open (p.tables.exchange y) ≡ b
    shut_by y b is = sym (opens_are p.tables law y) ∙ is

    pub same_heard : IsStrictlySortedBy nat_cmp (news_of x.upstreams) → each_heard t.frame.limits (news_of x.upstreams) p ≡ heard t.frame.limits p
    unfolding heard
    same_heard order =
        is_each t.frame.limits (news_of x.upstreams) p
        ∙ (same_each (heard_one t.frame.limits) (Stands t.frame.limits) (Idle t.frame.limits) (is_skipped t.frame.limits) (news_of x.upstreams)
        (open_exchanges p.tables) 0 0
        (sorted_ascends (news_of x.upstreams) order) (opens_ascend p.tables law) p (stands_of t.frame x p k.keeps.cache)
        (λ y there off. inl (shut_by y false off))
        (λ y there off. inr (unlisted_idle y (shut_by y true there) (sym (news_among x.upstreams y) ∙ off)))
        ∙ sym (is_each t.frame.limits (open_exchanges p.tables) p))

  -- the list over which a step goes is not one of what is kept
  pub quiet_round : (t : Turn) (x z : loop.Proxy B g) (p : Proxy) → KeepsQuiet t x p → KeepsQuiet t (record x { round = z.round }) p
  quiet_round t x z p k =
      let h = k.keeps in
      record {
        keeps = record {
          cache = cache_moves t.frame x (record x { round = z.round }) p refl refl refl refl refl h.cache;
          acts = h.acts;
          clients = clients_move t x (record x { round = z.round }) p refl h.clients;
          consumers = h.consumers;
          upstreams = record {
            rows = h.upstreams.rows;
            numbers = h.upstreams.numbers;
            over = h.upstreams.over;
            news = h.upstreams.news;
            touched = h.upstreams.touched;
            opens = h.upstreams.opens;
            names = h.upstreams.names;
            strangers = h.upstreams.strangers;
          };
          wire = record { clients = h.wire.clients; upstreams = h.wire.upstreams; all = h.wire.all; closed = h.wire.closed };
          numbers = h.numbers;
          opened = h.opened;
          seen = h.seen;
          shut = h.shut;
          known = h.known;
        };
        moved = k.moved;
        quiet = k.quiet;
      }

  -- THE LOOP

  -- These were gone through, and those are left.
  pub record HearsTo (t : Turn) (old x : loop.Proxy B g) (p : Proxy) (xs left : List ℕ) : Type 0 where
    pub q : Proxy
    pub keeps : KeepsQuiet t x q
    pub opens : (y : ℕ) → is_open (q.tables.exchange y) ≡ true → is_open (p.tables.exchange y) ≡ true
    pub heard : (y : ℕ) (v : Upstream) → is_open (q.tables.exchange y) ≡ true → q.upstream y ≡ Some v → v.ended ≡ true →
        (is_part (next_of v) ≡ true) ⊎ (among y left ≡ true)
    pub count : steps x.cache ≤ steps old.cache + 2 * length (filter (λ y. is_open (p.tables.exchange y)) xs)
    pub later : faults_in old.cache ≤ faults_in x.cache
    pub same : faults_in x.cache ≡ faults_in old.cache → q ≡ each_heard t.frame.limits xs p

  pub hears_begin : (t : Turn) (x z : loop.Proxy B g) (p : Proxy) → KeepsQuiet t x p → HearsTo t x (record x { round = z.round }) p [] (news_of x.upstreams)
  hears_begin t x z p k = record {
    q = p;
    keeps = quiet_round t x z p k;
    opens = λ y on. on;
    heard = λ y v on is ended. by_news y v on is ended (is_news x.upstreams y) refl;
    count = omega arith;
    later = omega arith;
    same = λ same. refl;
  }
    where
      by_news : (y : ℕ) (v : Upstream) → is_open (p.tables.exchange y) ≡ true → p.upstream y ≡ Some v → v.ended ≡ true → (b : Bool) →
          is_news x.upstreams y ≡ b → (is_part (next_of v) ≡ true) ⊎ (among y (news_of x.upstreams) ≡ true)
      by_news y v on is ended true listed = inr (news_among x.upstreams y ∙ listed)
      by_news y v on is ended false off =
          inl (due_part (is_wanted (p.tables.exchange y)) v (sym (ap (is_due_by (is_wanted (p.tables.exchange y))) is) ∙ unlisted_idle t x p k y on off) ended)

  pub hears_next : (t : Turn) (old x x' : loop.Proxy B g) (p : Proxy) (xs : List ℕ) (z : ℕ) (left : List ℕ) → HearsTo t old x p xs (z ∷ left) →
      ((q : Proxy) → KeepsQuiet t x q →
      Goes (HasHeard z t q (steps x.cache)) (faults_in x.cache) x' (closed t.frame.limits z (handed t.frame.limits z q))) →
      HearsTo t old x' p (xs ++ z ∷ []) left
  hears_next t old x x' p xs z left to goes =
      let s = goes to.q to.keeps in
      let before : faults_in old.cache ≤ faults_in x.cache = to.later in
      let behind : faults_in x.cache ≤ faults_in x'.cache = s.later in
      record {
        q = s.q;
        keeps = s.keeps.keeps;
        opens = λ y on. to.opens y (s.keeps.apart.opens y on);
        heard = λ y v on is ended. elim (eq_cases y z) as (λ _. (is_part (next_of v) ≡ true) ⊎ (among y left ≡ true)) [
          | inl here ↦ inl (s.keeps.heard v (ap (λ n. is_open (s.q.tables.exchange n)) (sym here.1) ∙ on) (ap s.q.upstream (sym here.1) ∙ is) ended)
          | inr off ↦ elim (to.heard y v (s.keeps.apart.opens y on) (sym (s.keeps.apart.rows y off.0) ∙ is) ended) as
              (λ _. (is_part (next_of v) ≡ true) ⊎ (among y left ≡ true)) [
                | inl part ↦ inl part
                | inr there ↦ inr (sym (rw off.0 refl) ∙ there)
              ]
        ];
        count = by_open (is_open (p.tables.exchange z)) refl;
        later = omega arith;
        same = λ none.
            let calm : faults_in x'.cache ≡ faults_in old.cache = none in
            let one : s.q ≡ closed t.frame.limits z (handed t.frame.limits z to.q) = s.same (omega arith) in
            let all : to.q ≡ each_heard t.frame.limits xs p = to.same (omega arith) in
            one ∙ (ap (λ (w : Proxy). closed t.frame.limits z (handed t.frame.limits z w)) all ∙ sym (each_more t.frame.limits xs z p));
      }
    where
      shut_still : is_open (p.tables.exchange z) ≡ false → (b : Bool) → is_open (to.q.tables.exchange z) ≡ b → is_open (to.q.tables.exchange z) ≡ false
      shut_still shut false is = is
      shut_still shut true is = true_false (sym (to.opens z is) ∙ shut)

      by_open : (b : Bool) → is_open (p.tables.exchange z) ≡ b →
          steps x'.cache ≤ steps old.cache + 2 * length (filter (λ y. is_open (p.tables.exchange y)) (xs ++ z ∷ []))
      by_open true on =
          let s = goes to.q to.keeps in
          let a : steps x.cache ≤ steps old.cache + 2 * length (filter (λ y. is_open (p.tables.exchange y)) xs) = to.count in
          let b : steps x'.cache ≤ steps x.cache + 2 = s.keeps.most in
          let c : length (filter (λ y. is_open (p.tables.exchange y)) (xs ++ z ∷ [])) ≡ length (filter (λ y. is_open (p.tables.exchange y)) xs) + length
          (filter (λ y. is_open (p.tables.exchange y)) (z ∷ [])) = filter_both (λ y. is_open (p.tables.exchange y)) xs (z ∷ []) in
          let d : length (filter (λ y. is_open (p.tables.exchange y)) (z ∷ [])) ≡ 0 + 1 = passes_one (λ y. is_open (p.tables.exchange y)) z [] on in
          omega arith
      by_open false shut =
          let s = goes to.q to.keeps in
          let a : steps x.cache ≤ steps old.cache + 2 * length (filter (λ y. is_open (p.tables.exchange y)) xs) = to.count in
          let b : steps x'.cache ≤ steps x.cache = s.keeps.none (shut_still shut (is_open (to.q.tables.exchange z)) refl) in
          let c : length (filter (λ y. is_open (p.tables.exchange y)) (xs ++ z ∷ [])) ≡ length (filter (λ y. is_open (p.tables.exchange y)) xs) + length
          (filter (λ y. is_open (p.tables.exchange y)) (z ∷ [])) = filter_both (λ y. is_open (p.tables.exchange y)) xs (z ∷ []) in
          omega arith

  -- steps are left for the next one
  pub hears_may : (t : Turn) (old x : loop.Proxy B g) (p : Proxy) (xs : List ℕ) (z : ℕ) (left : List ℕ) → KeepsQuiet t old p →
      Ascends 0 (xs ++ z ∷ left) → steps old.cache + 1024 ≤ 2 ^ 60 → HearsTo t old x p xs (z ∷ left) → MayStep 2 z x
  hears_may t old x p xs z left k up few to = (
    t,
    to.q,
    but_it z t x to.q to.keeps,
    λ on.
        let a : steps x.cache ≤ steps old.cache + 2 * length (filter (λ y. is_open (p.tables.exchange y)) xs) = to.count in
        let b : length (filter (λ y. is_open (p.tables.exchange y)) (xs ++ z ∷ left)) ≤ 512 = few_in t old p k (xs ++ z ∷ left) up in
        let c : length (filter (λ y. is_open (p.tables.exchange y)) (xs ++ z ∷ left)) ≡ length (filter (λ y. is_open (p.tables.exchange y)) xs) + length
        (filter (λ y. is_open (p.tables.exchange y)) (z ∷ left)) = filter_both (λ y. is_open (p.tables.exchange y)) xs (z ∷ left) in
        let d : length (filter (λ y. is_open (p.tables.exchange y)) (z ∷ left)) ≡ length (filter (λ y. is_open (p.tables.exchange y)) left) + 1 =
        passes_one (λ y. is_open (p.tables.exchange y)) z left (to.opens z on) in
        omega arith,
  )

  pub hears_count : (t : Turn) (old x : loop.Proxy B g) (p : Proxy) (xs : List ℕ) → KeepsQuiet t old p → Ascends 0 xs → HearsTo t old x p xs [] →
      steps x.cache ≤ steps old.cache + 1024
  hears_count t old x p xs k up to =
      let a : steps x.cache ≤ steps old.cache + 2 * length (filter (λ y. is_open (p.tables.exchange y)) xs) = to.count in
      let b : length (filter (λ y. is_open (p.tables.exchange y)) xs) ≤ 512 = few_in t old p k xs up in
      omega arith

  pub hears_end : (t : Turn) (old x : loop.Proxy B g) (p : Proxy) → KeepsQuiet t old p → IsStrictlySortedBy nat_cmp (news_of old.upstreams) →
      HearsTo t old x p (news_of old.upstreams) [] → Goes (KeepsHeard t) (faults_in old.cache) x (heard t.frame.limits p)
  hears_end t old x p k order to = record {
    q = to.q;
    keeps = record {
      quiet = to.keeps;
      heard = λ y v on is ended. elim (to.heard y v on is ended) as (λ _. is_part (next_of v) ≡ true) [
        | inl part ↦ part
        | inr there ↦ true_false (sym there)
      ];
    };
    later = to.later;
    same = λ none. to.same none ∙ same_heard t old p k order;
  }
