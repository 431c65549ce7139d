-- What is answered to one event, and what the fetch then stands for.
--
-- The cache's acts are taken behind events that were heard (`decides_is`, `first_is`, `ended_is`). The cache stands for
-- the run with one event more, and with the starts behind it. So what is given agrees with what was gathered (`fit`),
-- and all of it is heard (`hears_more`). The others start in the code just where the run has their starts
-- (`starts_as`). What stands in the fields around the event, as the count, is no part of what was heard (`SameHeard`):
-- so the step tells it of the whole fetch (`reports_so`).
use Rattle.std.{proofs.Common.{◌≡◌, ℕ, ◌+◌, ◌<◌, ◌≤◌, ◌^◌, List, [], ◌∷◌, ◌++◌, length, Bool, true, false, Option, Some, None, refl, ap, sym, ◌∙◌, subst, arith}, specs.{Prelude.{if◌then◌else◌, is_some, is_none, ◌&&◌, ◌||◌}, Option.{option_or}}}
use Rattle.hc_text.proofs.Basics.{both_true as and_both, not_some as none_some}
use Rattle.hc_sparse.specs.Cells.{nothing}
use Rattle.hc_event.specs.Counting.{received_in}
use Rattle.hc_effects.proofs.Vocabulary.{Act, Event, Entry, History, no_contents, tables}
use Rattle.hc_effects.proofs.Basics.{true_false}
use Rattle.hc_store.specs.declared.backend.Backend.{Ghosts}
use Rattle.hc_core.specs.Steps.{StandsFor, limits_in, bytes_received, last_moment, steps}
use Rattle.hc_fetch.specs.{declared.{ended.FetchEnded.{FetchEnded}, fetching.Fetching.{Fetching}, first.First.{First}, gathering.Gathered.{Gathered}, plan.FetchPlan.{FetchPlan}}, Ahead.{KeepsAll}, Bounds.{AreFew, NeverFails, starts_allowed}, Deciding.{is_foreign, has_foreign, by_failure, by_heads, decided_by, is_undecided}, Fetches.{cache_history, started, starts_behind, start_by_head, start_by_total, ends_in, has_ended}, Firsts.{first_as, total_in, total_to_start}, Gathering.{gathered, written_of}, Heads.{Head, heads_in, first_in, first_head}, Hearing.{KeepsRest, Steps, HasStarted, Starts, Takes, AllFit}, Laws.{IsFetchRun}, Plans.{part_count}, Steps.{HasHeard, HasHeardOpen, StandsForFetch, HearsMore, IsAnswered, Hears, Answers}}
use Rattle.hc_fetch.proofs.{Overs.{written_long, writes_more}, Positions.{all_fit}, Started.{brings, first_brings, total_brings, one_started_before, received_none, started_on}}

-- WHEN THE OTHERS START

starts_by : (plan : FetchPlan) (now : ℕ) (was : Option Head) (decides : Option FetchEnded) (shown : Option Head)
    → (if is_none decides && is_none was then start_by_head plan now shown else []) ≡ start_by_total plan now
    (total_to_start (is_some (first_as was)) decides (first_as (option_or was shown)))
starts_by plan now None None None = refl
starts_by plan now None None (Some head) = refl
starts_by plan now (Some first) None shown = refl
starts_by plan now None (Some by) shown = refl
starts_by plan now (Some first) (Some by) shown = refl

pub starts_as : (plan : FetchPlan) (e : Entry) (f : History) (was now : Option First) (decides : Option FetchEnded) → was ≡ first_as (first_head f) →
    decides ≡ decided_by plan f e.acts
    → now ≡ first_as (first_head (e ∷ f)) → starts_behind plan f e ≡ start_by_total plan e.now (total_to_start (is_some was) decides now)
starts_as plan e f was now decides was_is decides_is now_is =
    ap (λ (d : Option FetchEnded). if is_none d && is_none (first_head f) then start_by_head plan e.now (first_in (heads_in e.acts)) else []) (sym decides_is)
    ∙ (starts_by plan e.now (first_head f) decides (first_in (heads_in e.acts))
    ∙ (ap (λ (q : Option First). start_by_total plan e.now (total_to_start (is_some q) decides (first_as (first_head (e ∷ f))))) (sym was_is)
    ∙ ap (λ (q : Option First). start_by_total plan e.now (total_to_start (is_some was) decides q)) (sym now_is)))

pub none_to_start : (was : Bool) (decides : Option FetchEnded) (first : Option First) (total : ℕ) → Some total ≡ total_to_start was decides first →
    (was ≡ false) × (total_in first ≡ Some total)
none_to_start false None first total is = (refl, sym is)
none_to_start false (Some by) first total is = absurd (none_some total (sym is))
none_to_start true decides first total is = absurd (none_some total (sym is))

-- ONE EVENT

or_if : (a b : Bool) → (a || b) ≡ (if b then true else a)
or_if true true = refl
or_if true false = refl
or_if false true = refl
or_if false false = refl

module _ {B : Type 0} {g : Ghosts B} (s t v : Fetching B g) (now : ℕ) (event : Event) (acts : List Act) (text : List ℕ) (decides : Option FetchEnded)
    (step : Steps s t now event acts) (takes : Takes t v acts [] text (by_failure acts) decides) (own : is_foreign event ≡ false)
    (small : bytes_received s.cache + received_in event < 2 ^ 61) where
  abbrev pub e : Entry
  e = record { now = now; event = event; acts = acts }

  module _ (f : History) (h : HasHeardOpen s f) (count : s.count ≡ length f + 1) where
    pub decides_is : decides ≡ decided_by s.plan f acts
    unfolding decided_by
    decides_is =
        takes.decides (first_head f) (step.rest.first ∙ h.first)
        ∙ ap (λ (p : FetchPlan). option_or (by_failure acts) (by_heads p (first_head f) (heads_in acts))) step.rest.plan

    pub first_is : v.first ≡ first_as (first_head (e ∷ f))
    first_is = takes.first (first_head f) (step.rest.first ∙ h.first)

    ended_is : v.has_ended ≡ has_ended 1 (e ∷ f)
    ended_is = takes.ended ∙ (ap (λ (b : Bool). b || ends_in 1 acts) (step.rest.ended ∙ h.ended) ∙ or_if (has_ended 1 f) (ends_in 1 acts))

    own_is : has_foreign (e ∷ f) ≡ false
    own_is = ap (λ (b : Bool). b || has_foreign f) own ∙ h.heard.own

    pub stands_then : StandsFor v.cache no_contents (e ∷ started s.plan now (cache_history s.plan f))
    stands_then = rw takes.others.cache (step.stands h.heard.never f (h.heard.stands, count))

    starts_are : starts_behind s.plan f e ≡ start_by_total s.plan now (total_to_start (is_some s.first) decides v.first)
    starts_are = starts_as s.plan e f s.first v.first decides h.first decides_is first_is

    -- with the starts that the code makes
    pub as_run : (u : Fetching B g) →
        StandsFor u.cache no_contents
        (start_by_total s.plan now (total_to_start (is_some s.first) decides v.first) ++ (e ∷ started s.plan now (cache_history s.plan f)))
        → StandsFor u.cache no_contents (cache_history s.plan (e ∷ f))
    as_run u stands = subst (λ (xs : History). StandsFor u.cache no_contents (xs ++ (e ∷ started s.plan now (cache_history s.plan f)))) (sym starts_are) stands

    module _ (u : Fetching B g) (stands : StandsFor u.cache no_contents (cache_history s.plan (e ∷ f))) (rest : KeepsRest v u)
        (received : bytes_received u.cache ≡ bytes_received v.cache) where
      run : IsFetchRun (limits_in u.cache) s.plan (e ∷ f)
      run = record { begins = stands.begins; run = stands.run; undecided_before = h.undecided }

      fit : AllFit acts (gathered f)
      fit =
          let came = h.heard.received in
          let first = first_brings s.plan now (cache_history s.plan f) in
          all_fit (limits_in u.cache) s.plan e f run stands.short (omega (arith, came, first, small))

      keeps_then : KeepsAll t.gathered.ahead t.gathered.written (gathered f)
      keeps_then = subst (λ (z : Gathered). KeepsAll z.ahead z.written (gathered f)) (sym step.rest.gathered) h.heard.keeps

      keeps_now : KeepsAll u.gathered.ahead u.gathered.written (gathered (e ∷ f))
      keeps_now = subst (λ (z : Gathered). KeepsAll z.ahead z.written (gathered (e ∷ f))) (sym rest.gathered) (takes.keeps (gathered f) keeps_then fit)

      writes : written_of f ++ text ≡ written_of (e ∷ f)
      writes =
          writes_more t.gathered.ahead v.gathered.ahead t.gathered.written v.gathered.written e f text fit keeps_then
          (takes.keeps (gathered f) keeps_then fit) (takes.text (gathered f) keeps_then fit)

      plan_is : u.plan ≡ s.plan
      plan_is = rest.plan ∙ (takes.others.plan ∙ step.rest.plan)

      came_now : (tables no_contents (cache_history s.plan (e ∷ f))).received ≤ bytes_received u.cache
      came_now =
          let before : History = started s.plan now (cache_history s.plan f) in
          let total : Option ℕ = total_to_start (is_some s.first) decides v.first in
          let same : (tables no_contents (cache_history s.plan (e ∷ f))).received ≡
          (tables no_contents (start_by_total s.plan now total ++ (e ∷ before))).received =
          ap (λ (xs : History). (tables no_contents (xs ++ (e ∷ before))).received) starts_are in
          let starts = total_brings s.plan now total (e ∷ before) in
          let one = brings now event acts before in
          let first = first_brings s.plan now (cache_history s.plan f) in
          let was = h.heard.received in
          let by_step = step.received in
          let same_cache : bytes_received v.cache ≡ bytes_received t.cache = rw takes.others.cache refl in
          omega (arith, same, starts, one, first, was, by_step, same_cache, received)

      pub hears_more : HearsMore s u e f text decides
      hears_more = record {
        heard = record {
          never = h.heard.never;
          stands = subst (λ (p : FetchPlan). StandsFor u.cache no_contents (cache_history p (e ∷ f))) (sym plan_is) stands;
          own = own_is;
          sound = (let none = step.sound h.heard.never in let was = h.heard.sound in omega (arith, none, was));
          received = subst (λ (p : FetchPlan). (tables no_contents (cache_history p (e ∷ f))).received ≤ bytes_received u.cache) (sym plan_is) came_now;
          keeps = keeps_now;
          written = written_long u.gathered.ahead u.gathered.written (e ∷ f) keeps_now;
        };
        decides = decides_is;
        first = rest.first ∙ first_is;
        ended = rest.ended ∙ ended_is;
        writes = writes;
      }

  few_then : AreFew (steps v.cache) v.count v.first
  few_then = by_first s.first refl
    where
      few_as : AreFew (steps v.cache) v.count s.first
      few_as = rw (takes.others.cache, takes.others.count, step.rest.count) step.few

      least : (q : Option First) → 1 ≤ starts_allowed q
      least None = omega arith
      least (Some first) = omega arith

      by_first : (q : Option First) → s.first ≡ q → AreFew (steps v.cache) v.count v.first
      by_first None is = (
        (let few = (rw is at few_as).0 in let more = least v.first in omega (arith, few, more)),
        few_as.1,
      )
      by_first (Some first) is = subst (AreFew (steps v.cache) v.count) (sym (takes.stays (ap is_some (step.rest.first ∙ is)) ∙ step.rest.first)) few_as

  same_rest : KeepsRest v v
  same_rest = record { plan = refl; moment = refl; count = refl; first = refl; ended = refl; gathered = refl; decided = refl; limits = refl }

  same_cache : bytes_received v.cache ≡ bytes_received s.cache + received_in event
  same_cache = (let same : bytes_received v.cache ≡ bytes_received t.cache = rw takes.others.cache refl in same ∙ step.received)

  same_limits : limits_in v.cache ≡ limits_in s.cache
  same_limits = (let same : limits_in v.cache ≡ limits_in t.cache = rw takes.others.cache refl in same ∙ step.rest.limits)

  same_moment : last_moment v.cache ≡ now
  same_moment = (let same : last_moment v.cache ≡ last_moment t.cache = rw takes.others.cache refl in same ∙ step.moment)

  -- nobody starts behind it
  pub answered_alone : None ≡ total_to_start (is_some s.first) decides v.first → IsAnswered s v now event text decides
  answered_alone none = record {
    acts = acts;
    plan = takes.others.plan ∙ step.rest.plan;
    moment = takes.others.moment ∙ step.rest.moment;
    count = takes.others.count ∙ step.rest.count;
    limits = same_limits;
    reached = same_moment;
    received = same_cache;
    few = few_then;
    hears = λ f h count. hears_more f h count v
        (as_run f h count v (subst
        (λ (q : Option ℕ). StandsFor v.cache no_contents (start_by_total s.plan now q ++ (e ∷ started s.plan now (cache_history s.plan f)))) none
        (stands_then f h count)))
        same_rest refl;
  }

  -- the others start behind it
  pub answered_with : (u : Fetching B g) (total : ℕ) → Some total ≡ total_to_start (is_some s.first) decides v.first → 1 ≤ s.count →
      Starts v u now total (part_count v.plan total) → IsAnswered s u now event text decides
  answered_with u total is some starts = record {
    acts = acts;
    plan = starts.rest.plan ∙ plan_then;
    moment = starts.rest.moment ∙ (takes.others.moment ∙ step.rest.moment);
    count = starts.rest.count ∙ count_then;
    limits = starts.rest.limits ∙ same_limits;
    reached = starts.moment;
    received = starts.received ∙ same_cache;
    few = subst (λ (q : Option First). AreFew (steps u.cache) u.count q) (sym starts.rest.first) (by_shown v.first refl);
    hears = λ f h count. hears_more f h count u (as_run f h count u (stands_so f h count)) starts.rest starts.received;
  }
    where
      plan_then : v.plan ≡ s.plan
      plan_then = takes.others.plan ∙ step.rest.plan

      count_then : v.count ≡ s.count
      count_then = takes.others.count ∙ step.rest.count

      parts : (is_some s.first ≡ false) × (total_in v.first ≡ Some total)
      parts = none_to_start (is_some s.first) decides v.first total is

      unshown : (q : Option First) → is_some q ≡ false → starts_allowed q ≡ 1
      unshown None off = refl
      unshown (Some first) off = absurd (true_false off)

      by_shown : (q : Option First) → v.first ≡ q → AreFew (steps u.cache) u.count q
      by_shown None shown = absurd (none_some total (ap total_in (sym shown) ∙ parts.1))
      by_shown (Some first) shown =
          let few : steps t.cache ≤ s.count + starts_allowed s.first = step.few.0 in
          let one = unshown s.first parts.0 in
          let more = starts.few in
          let same : steps v.cache ≡ steps t.cache = rw takes.others.cache refl in
          let counts : u.count ≡ s.count = starts.rest.count ∙ count_then in
          (omega (arith, few, one, more, same, counts), omega (arith, few, one, more, same, counts, some))

      no_head : (q : Option Head) → is_some (first_as q) ≡ false → q ≡ None
      no_head None off = refl
      no_head (Some head) off = absurd (true_false off)

      stands_so : (f : History) (h : HasHeardOpen s f) → s.count ≡ length f + 1 →
          StandsFor u.cache no_contents
          (start_by_total s.plan now (total_to_start (is_some s.first) decides v.first) ++ (e ∷ started s.plan now (cache_history s.plan f)))
      stands_so f h count =
          let none : first_head f ≡ None = no_head (first_head f) (sym (ap is_some h.first) ∙ parts.0) in
          let has : HasStarted (e ∷ started s.plan now (cache_history s.plan f)) 1 = started_on e _ 1 own (one_started_before s.plan now f h.heard.own none) in
          let on = starts.stands h.heard.never (e ∷ started s.plan now (cache_history s.plan f)) (stands_then f h count) has in
          subst (λ (q : Option ℕ). StandsFor u.cache no_contents (start_by_total s.plan now q ++ (e ∷ started s.plan now (cache_history s.plan f)))) is
          (subst (λ (p : FetchPlan). StandsFor u.cache no_contents
          (start_by_total p now (Some total) ++ (e ∷ started s.plan now (cache_history s.plan f)))) plan_then on)

-- WHAT THE STEP TELLS

-- what counts for what it heard is the same
pub record SameHeard {B : Type 0} {g : Ghosts B} (s t : Fetching B g) : Type 0 where
  pub plan : t.plan ≡ s.plan
  pub cache : t.cache ≡ s.cache
  pub gathered : t.gathered ≡ s.gathered
  pub first : t.first ≡ s.first
  pub ended : t.has_ended ≡ s.has_ended

heard_as : {B : Type 0} {g : Ghosts B} (s t : Fetching B g) (f : History) → SameHeard s t → HasHeard s f → HasHeard t f
heard_as s t f same h = record {
  never = h.never;
  stands = rw (same.plan, same.cache) h.stands;
  sound = h.sound;
  own = h.own;
  received = rw (same.plan, same.cache) h.received;
  keeps = rw same.gathered h.keeps;
  written = rw same.gathered h.written;
}

open_as : {B : Type 0} {g : Ghosts B} (s t : Fetching B g) (f : History) → SameHeard s t → HasHeardOpen s f → HasHeardOpen t f
open_as s t f same h = record {
  heard = heard_as s t f same h.heard;
  undecided = rw same.plan h.undecided;
  first = same.first ∙ h.first;
  ended = same.ended ∙ h.ended;
}

pub reports_so : {B : Type 0} {g : Ghosts B} (s t u w : Fetching B g) (now : ℕ) (event : Event) (text : List ℕ) (decides : Option FetchEnded) → SameHeard s t → t.count ≡ s.count + 1 →
    IsAnswered t u now event text decides
    → SameHeard u w → w.count ≡ u.count → w.decided ≡ decides → Answers s now event text w
reports_so s t u w now event text decides before counted a after count_is decided_is = record {
  acts = a.acts;
  plan = after.plan ∙ (a.plan ∙ before.plan);
  limits = (let later : limits_in w.cache ≡ limits_in u.cache = rw after.cache refl in let earlier : limits_in t.cache ≡ limits_in s.cache =
      rw before.cache refl in later ∙ (a.limits ∙ earlier));
  hears = hears;
}
  where
    hears : (f : History) → StandsForFetch s f → Hears s w (record { now = now; event = event; acts = a.acts }) f text
    hears f stand =
        let q = a.hears f (open_as s t f before stand.so_far) (counted ∙ (let c = stand.count in omega (arith, c))) in
        let heard = heard_as u w (record { now = now; event = event; acts = a.acts } ∷ f) after q.heard in
        let decides_so : decides ≡ decided_by s.plan f a.acts = rw (sym before.plan) q.decides in
        record {
          heard = heard;
          decided = decided_is ∙ decides_so;
          goes_on = λ none. record {
            so_far = record {
              heard = heard;
              undecided = subst (λ (p : FetchPlan). is_undecided p (record { now = now; event = event; acts = a.acts } ∷ f) ≡ true)
                  (sym (after.plan ∙ (a.plan ∙ before.plan)))
                  (and_both (is_none (decided_by s.plan f a.acts)) (is_undecided s.plan f) (ap is_none (sym (decided_is ∙ decides_so) ∙ none))
                  stand.so_far.undecided);
              first = after.first ∙ q.first;
              ended = after.ended ∙ q.ended;
            };
            count = (let c = stand.count in let d = a.count in omega (arith, c, counted, d, count_is));
            is_open = none;
          };
          writes = q.writes;
        }

-- WHERE IT BEGINS

pub new_stands : {B : Type 0} {g : Ghosts B} (u : Fetching B g) → NeverFails g → StandsFor u.cache no_contents [] → KeepsAll u.gathered.ahead u.gathered.written nothing → u.gathered.written ≡ 0 →
    u.first ≡ None → u.has_ended ≡ false → u.count ≡ 0 → u.decided ≡ None
    → StandsForFetch u []
unfolding written_of
new_stands u never stands keeps written first ended count open_is = record {
  so_far = record {
    heard = record {
      never = never;
      stands = stands;
      sound = refl;
      own = refl;
      received = (let none = received_none in omega (arith, none));
      keeps = keeps;
      written =
          written;
    };
    undecided = refl;
    first = first;
    ended = ended;
  };
  count = count;
  is_open = open_is;
}
