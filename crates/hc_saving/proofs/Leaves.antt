-- A cache whose live consumers are cancelled, one after another.
--
-- The cache answers a Cancel by an entry that is owed. Its store fails never, so that is the entry which is owed to it
-- (`is_leaving`). Who is cancelled is over, all others are as live as they were, and nobody starts: so one less is live
-- (`one_less`). What has left so far is kept as the way to the end: whatever leaves behind it, leaves behind the
-- history at first (`IsLeaving`).
use Rattle.std.{proofs.{Common.{◌≡◌, ◌≢◌, ◌≤◌, ℕ, ◌+◌, List, ◌∷◌, length, Bool, true, false, Option, Some, None, refl, ap, sym, ◌∙◌, subst, arith}, Math.{Bridge.{le_prop}, Logic.{∥∥₁_elim, ∥∥₁_map}}, lemmas.Bool.Decides.{nat_tests}}, specs.Prelude.{is_some, nat_eq}}
use Rattle.hc_effects.proofs.Vocabulary.{Act, Event, Limits, live, is_live, Entry, History, Contents, failures_in, Lawful, Tables, Consumer, IsOwed, owed, tables, after, starts_after}
use Rattle.hc_event.specs.declared.event.Event.TheVariants as event
use Rattle.hc_store.specs.declared.backend.Backend.{Ghosts}
use Rattle.hc_model.specs.{Live.{Leaves}, Denials.{IsLeastLive}}
use Rattle.hc_laws.proofs.{Faultless.{faultless_are_owed}, LawfulRuns.{lawful_in_runs}, LeaverGoes.{leaver_goes}, LiveRuns.{few_in_runs}}
use Rattle.hc_state.proofs.LiveCounts.{counted, one, counted_moves}
use Rattle.hc_core.specs.{declared.cache.Cache.{Cache}, Steps.{StandsFor, Answers, Steps, faults_in, limits_in, last_moment, live_in, steps, bytes_received}}
use Rattle.hc_saving.specs.{Leaving.{AllLeave, leaving}, LeftCaches.{HasLeft, StandsForAny}}
use Rattle.hc_saving.specs.Leaving as leaving_all

-- ONE LEAVES

module _ (limits : Limits) (t : Tables) (law : Lawful t) (e : Entry) (c : ℕ) (is : IsOwed limits t e) (at : e.event ≡ event.Cancel c)
    (alive : is_live (t.consumer c) ≡ true) where
  gone : Leaves t e c
  gone = leaver_goes limits t law e c is at alive

  starts_same : (after t e).starts ≡ t.starts
  unfolding after
  starts_same = rw gone.accepted (ap (λ (z : Event). starts_after z t.starts) at)

  there : (o : Option Consumer) → is_live o ≡ true → is_some o ≡ true
  there None on = absurd (let never : false ≡ true = on in cc)
  there (Some k) on = refl

  others : (d : ℕ) → d ≢ c → is_live ((after t e).consumer d) ≡ is_live (t.consumer d)
  others d ne = by_test (nat_eq d c) refl
    where
      by_test : (b : Bool) → nat_eq d c ≡ b → is_live ((after t e).consumer d) ≡ is_live (t.consumer d)
      by_test true same = absurd (ne (grind (arith, nat_tests)))
      by_test false far = gone.others d far

  one_of : (b : Bool) → b ≡ true → one b ≡ 1
  one_of true on = refl
  one_of false on = absurd (let never : false ≡ true = on in cc)

  none_of : (b : Bool) → b ≡ false → one b ≡ 0
  none_of false off = refl
  none_of true off = absurd (let never : true ≡ false = off in cc)

  one_less : live (after t e) + 1 ≡ live t
  one_less =
      let moves = counted_moves (λ d. is_live (t.consumer d)) (λ d. is_live ((after t e).consumer d)) c (t.last_start + 1) t.starts law.order.starts
      (law.sound.numbered.lists.started c (there (t.consumer c) alive)) others in
      let was = one_of (is_live (t.consumer c)) alive in
      let now = none_of (is_live ((after t e).consumer c)) gone.over in
      let same : live (after t e) ≡ counted (λ d. is_live ((after t e).consumer d)) t.starts =
      ap (counted (λ d. is_live ((after t e).consumer d))) starts_same in
      omega (arith, moves, was, now, same)

module _ {B : Type 0} {g : Ghosts B} where
  law_of : (s : Cache B g) (contents : Contents) (h : History) → StandsFor s contents h → Lawful (tables contents h)
  law_of s contents h stands = lawful_in_runs (limits_in s) contents h stands.begins stands.run

  pub few_live : (s : Cache B g) (contents : Contents) (h : History) → StandsFor s contents h → live_in s ≤ 1024
  few_live s contents h stands =
      let few = (few_in_runs (limits_in s) contents h stands.begins stands.run).few in
      let count = stands.rows.count in
      omega arith

  pub nobody_lives : (s : Cache B g) (contents : Contents) (h : History) → StandsFor s contents h → live_in s ≡ 0 → live (tables contents h) ≡ 0
  nobody_lives s contents h stands none = sym stands.rows.count ∙ none

  -- THE CACHE

  module _ (s u : Cache B g) (now c : ℕ) (acts : List Act) (answered : Answers s u now (event.Cancel c) acts) (none : failures_in acts ≡ 0)
      (is_now : now ≡ last_moment s) where
    abbrev entry : Entry
    entry = record { now = now; event = event.Cancel c; acts = acts }

    pub stands_on : (contents : Contents) (h : History) → StandsFor s contents h → StandsFor u contents (entry ∷ h)
    stands_on contents h stands = answered.stands contents h stands

    is_owed : (contents : Contents) (h : History) → StandsFor s contents h → IsOwed (limits_in s) (tables contents h) entry
    is_owed contents h stands = subst (λ (l : Limits). IsOwed l (tables contents h) entry) answered.limits (stands_on contents h stands).run.1

    pub is_leaving : (contents : Contents) (h : History) → StandsFor s contents h → entry ≡ leaving (limits_in s) (tables contents h) c
    is_leaving contents h stands =
        faultless_are_owed (limits_in s) (tables contents h) entry (is_owed contents h stands) none
        ∙ ap (λ m. owed (limits_in s) (tables contents h) m (event.Cancel c)) (is_now ∙ stands.moment)

    pub less_live : (contents : Contents) (h : History) → StandsFor s contents h → IsLeastLive (tables contents h) c → live_in u + 1 ≡ live_in s
    unfolding tables
    less_live contents h stands least =
        let less = one_less (limits_in s) (tables contents h) (law_of s contents h stands) entry c (is_owed contents h stands) refl least.live in
        let before = stands.rows.count in
        let behind : live_in u ≡ live (after (tables contents h) entry) = (stands_on contents h stands).rows.count in
        omega (arith, less, before, behind)

-- SO FAR

module _ {B : Type 0} {g : Ghosts B} where
  -- these have left, and whatever leaves behind them leaves behind the history
  pub record IsLeaving (s u : Cache B g) (contents : Contents) (h : History) : Type 0 where
    pub so_far : History
    pub stands : StandsFor u contents so_far
    pub number : steps u + length h ≡ steps s + length so_far
    pub onward : (left : History) → AllLeave (limits_in s) contents so_far left → AllLeave (limits_in s) contents h left

  pub leaves_none : (s : Cache B g) (contents : Contents) (h : History) → StandsFor s contents h → IsLeaving s s contents h
  leaves_none s contents h stands = record { so_far = h; stands = stands; number = refl; onward = λ left all. all }

  pub leaves_more : (s t u : Cache B g) (now c : ℕ) (acts : List Act) → Answers t u now (event.Cancel c) acts → failures_in acts ≡ 0 →
      now ≡ last_moment t → limits_in t ≡ limits_in s
      → ((contents : Contents) (h : History) → StandsFor t contents h → IsLeastLive (tables contents h) c)
      → (contents : Contents) (h : History) → IsLeaving s t contents h → IsLeaving s u contents h
  leaves_more s t u now c acts answered none is_now limits least contents h q =
      let e : Entry = record { now = now; event = event.Cancel c; acts = acts } in
      let is : e ≡ leaving (limits_in s) (tables contents q.so_far) c =
      subst (λ (l : Limits). e ≡ leaving l (tables contents q.so_far) c) limits (is_leaving t u now c acts answered none is_now contents q.so_far q.stands) in
      record {
        so_far = e ∷ q.so_far;
        stands = stands_on t u now c acts answered none is_now contents q.so_far q.stands;
        number = (let before = q.number in let one = answered.number in omega (arith, before, one));
        onward = λ left all. q.onward left
            (leaving_all.lowest q.so_far left c (least contents q.so_far q.stands)
            (subst (λ (z : Entry). AllLeave (limits_in s) contents (z ∷ q.so_far) left) is all));
      }

-- THE LOOP

module _ {B : Type 0} {g : Ghosts B} where
  pub record LeavesOn (s u : Cache B g) (now : ℕ) : Type 0 where
    pub some : ∥ StandsForAny u ∥₁
    pub now_is : now ≡ last_moment u
    pub limits : limits_in u ≡ limits_in s
    pub received : bytes_received u ≡ bytes_received s
    pub few : steps u + live_in u ≤ steps s + live_in s
    pub most : live_in s ≤ 1024
    pub each : (contents : Contents) (h : History) → StandsFor s contents h → IsLeaving s u contents h

  pub leaves_first : (s : Cache B g) (now : ℕ) → ∥ StandsForAny s ∥₁ → now ≡ last_moment s → LeavesOn s s now
  leaves_first s now some is_now = record {
    some = some;
    now_is = is_now;
    limits = refl;
    received = refl;
    few = omega arith;
    most = ∥∥₁_elim some le_prop (λ any. few_live s any.contents any.h any.stands);
    each = leaves_none s;
  }

  module _ (s t u : Cache B g) (now c : ℕ) (before out : List Act) (q : LeavesOn s t now) (step : Steps t u before out now (event.Cancel c))
      (calm : faults_in u ≡ faults_in t)
      (least : (contents : Contents) (h : History) → StandsFor t contents h → IsLeastLive (tables contents h) c) where
    none : failures_in step.acts ≡ 0
    none = let counted = step.answered.counted in omega (arith, counted, calm)

    pub fewer_live : live_in u + 1 ≤ live_in t
    fewer_live =
        ∥∥₁_elim q.some le_prop
        (λ any. let less = less_live t u now c step.acts step.answered none q.now_is any.contents any.h any.stands
        (least any.contents any.h any.stands) in omega (arith, less))

    pub leaves_next : last_moment u ≡ now → bytes_received u ≡ bytes_received t → LeavesOn s u now
    leaves_next moment received = record {
      some = ∥∥₁_map q.some (λ any. record {
        contents = any.contents;
        h = record { now = now; event = event.Cancel c; acts = step.acts } ∷ any.h;
        stands =
            stands_on t u now c step.acts step.answered none q.now_is any.contents any.h any.stands;
      });
      now_is = sym moment;
      limits = step.answered.limits ∙ q.limits;
      received = received ∙ q.received;
      few = (let less = fewer_live in let number = step.answered.number in let before = q.few in omega (arith, less, number, before));
      most = q.most;
      each = λ contents h stands. leaves_more s t u now c step.acts step.answered none q.now_is q.limits least contents h (q.each contents h stands);
    }

  pub has_left : (s u : Cache B g) (now : ℕ) → LeavesOn s u now → live_in u ≡ 0 → (contents : Contents) (h : History) → StandsFor s contents h →
      HasLeft s u contents h
  has_left s u now q nobody contents h stands =
      let each = q.each contents h stands in
      record {
        left = each.so_far;
        leave = each.onward each.so_far (leaving_all.nobody each.so_far (nobody_lives u contents each.so_far each.stands nobody));
        stands = each.stands;
        number = each.number;
      }
