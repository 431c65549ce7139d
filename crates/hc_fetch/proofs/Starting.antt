-- The fetch's own consumers start in its cache.
--
-- A start of the next consumer, where fewer than 1,024 started, is answered by nothing (`own_start`): so the first one
-- starts where nothing happened yet (`begins_first`), and the others one after another (`StartsOn`). `all_starts` says
-- that all others started, `begins_none` and `begins_one` what starts before an event.
use Rattle.std.{proofs.{Common.{◌≡◌, ℕ, zero, suc, ◌+◌, ◌-◌, ◌*◌, ◌<◌, ◌≤◌, List, [], ◌∷◌, ◌++◌, length, Bool, true, false, Option, Some, None, refl, ap, sym, ◌∙◌, subst, arith, min, max, ◌/◌}, lemmas.Bool.Decides.{nat_tests}}, specs.Prelude.{if◌then◌else◌, ◌==◌}}
use Rattle.hc_effects.proofs.Vocabulary.{Act, Event, Request, Limits, Entry, History, no_contents, entry_without_acts, failures_in, IsOwed, tables}
use Rattle.hc_event.specs.declared.event.Event.TheVariants as event
use Rattle.hc_event.specs.Counting.{received_in}
use Rattle.hc_core.specs.Steps as core
use Rattle.hc_store.specs.declared.backend.Backend.{Ghosts}
use Rattle.hc_laws.proofs.LawfulRuns.{lawful_in_runs}
use Rattle.hc_core.specs.{declared.cache.Cache.{Cache}, Steps.{StandsFor, Answers, limits_in, store_in, faults_in, last_moment, bytes_received, steps}}
use Rattle.hc_fetch.specs.{declared.{fetching.Fetching.{Fetching}, first.First.{First}, plan.FetchPlan.{FetchPlan}}, Bounds.{AreFew, NeverFails, starts_allowed}, Fetches.{started, parts_start, cache_history, starts_behind}, Hearing.{HasStarted, KeepsRest, Begins, Starts, Steps}, Plans.{part_start, part_count, request_of, fields_for, last_position, first_start, first_fields}}
use Rattle.hc_fetch.proofs.{Started.{few_live, none_started, started_more}, Starts.{start_silent}}

-- ONE START

module _ {B : Type 0} {g : Ghosts B} (s u : Cache B g) (now c : ℕ) (request : Request) (acts : List Act)
    (answered : Answers s u now (event.Start c request) acts) (sound : failures_in acts ≡ 0) where
  abbrev entry : Entry
  entry = record { now = now; event = event.Start c request; acts = acts }

  pub own_start : (h : History) (n : ℕ) → StandsFor s no_contents h → HasStarted h n → n + 1 ≡ c → n < 1024 →
      StandsFor u no_contents (entry_without_acts now (event.Start c request) ∷ h)
  own_start h n stands has next few =
      let on : StandsFor u no_contents (entry ∷ h) = answered.stands no_contents h stands in
      let owed : IsOwed (limits_in s) (tables no_contents h) entry = subst (λ (l : Limits). IsOwed l (tables no_contents h) entry) answered.limits on.run.1 in
      let law = lawful_in_runs (limits_in s) no_contents h stands.begins stands.run in
      let last = has.last in
      let live = few_live h n has in
      let silent : acts ≡ [] =
      start_silent (limits_in s) (tables no_contents h) entry c request law owed sound refl (omega (arith, last, next)) (omega (arith, live, few)) in
      subst (λ (l : List Act). StandsFor u no_contents (record { now = now; event = event.Start c request; acts = l } ∷ h)) silent on

-- THE FIRST ONE

same_appended : (plan : FetchPlan) (now : ℕ) (xs : History) (e : Entry) (h : History) → started plan now (xs ++ (e ∷ h)) ≡ xs ++ (e ∷ h)
same_appended plan now [] e h = refl
same_appended plan now (x ∷ xs) e h = refl

-- it started before
pub started_before : (plan : FetchPlan) (now count : ℕ) (f : History) → 1 < count → count ≡ length f + 1 →
    cache_history plan f ≡ started plan now (cache_history plan f)
started_before plan now count [] more is = absurd (omega (arith, more, is))
started_before plan now count (e ∷ f) more is = sym (same_appended plan now (starts_behind plan f e) e (started plan e.now (cache_history plan f)))

pub begins_first : {B : Type 0} {g : Ghosts B} (s u : Cache B g) (plan : FetchPlan) (now count : ℕ) (acts : List Act) →
    Answers s u now (first_start plan) acts → failures_in acts ≡ 0 → count ≤ 1
    → (f : History) → StandsFor s no_contents (cache_history plan f) → count ≡ length f + 1 → StandsFor u no_contents (started plan now (cache_history plan f))
begins_first s u plan now count acts answered sound one [] stands is =
    own_start s u now 1 (request_of plan (first_fields plan)) acts answered sound [] 0 stands none_started (omega arith) (omega arith)
begins_first s u plan now count acts answered sound one (e ∷ f) stands is = absurd (omega (arith, one, is))

-- THE OTHERS

pub parts_next : (plan : FetchPlan) (now total n : ℕ) → 1 ≤ n →
    parts_start plan now total (n + 1) ≡ entry_without_acts now (part_start plan total (n + 1)) ∷ parts_start plan now total n
parts_next plan now total n some =
    let off : (n == 0) ≡ false = grind (arith, nat_tests, some) in
    let next : suc n ≡ n + 1 = omega arith in
    subst (λ (k : ℕ). parts_start plan now total k ≡ entry_without_acts now (part_start plan total (n + 1)) ∷ parts_start plan now total n) next
    (ap (λ (b : Bool). if b then [] else entry_without_acts now (part_start plan total (n + 1)) ∷ parts_start plan now total n) off)

pub parts_few : (plan : FetchPlan) (now total n : ℕ) → n ≤ 1 → parts_start plan now total n ≡ []
parts_few plan now total zero few = refl
parts_few plan now total (suc n) few =
    let none : (n == 0) ≡ true = grind (arith, nat_tests, few) in
    ap (λ (b : Bool). if b then [] else entry_without_acts now (part_start plan total (n + 1)) ∷ parts_start plan now total n) none

all_started : (plan : FetchPlan) (now total : ℕ) (h : History) → HasStarted h 1 → (n : ℕ) → HasStarted (parts_start plan now total (n + 1) ++ h) (n + 1)
all_started plan now total h has zero = subst (λ (xs : History). HasStarted (xs ++ h) 1) (sym (parts_few plan now total 1 (omega arith))) has
all_started plan now total h has (suc n) =
    let next = started_more now (n + 1 + 1) (request_of plan (fields_for (Some ((n + 1 + 1 - 1) * plan.size, last_position plan total (n + 1 + 1)))))
    (parts_start plan now total (n + 1) ++ h) (n + 1) (omega arith) (all_started plan now total h has n) in
    let one : HasStarted (parts_start plan now total (n + 1 + 1) ++ h) (n + 1 + 1) =
    subst (λ (xs : History). HasStarted (xs ++ h) (n + 1 + 1)) (sym (parts_next plan now total (n + 1) (omega arith))) next in
    let place : n + 1 + 1 ≡ suc n + 1 = omega arith in
    subst (λ (k : ℕ). HasStarted (parts_start plan now total k ++ h) k) place one

-- so far these consumers started, up to the one before this part
pub record StartsOn {B : Type 0} {g : Ghosts B} (s u : Fetching B g) (now total count part : ℕ) : Type 0 where
  pub rest : KeepsRest s u
  pub some : 2 ≤ part
  pub within : part ≤ max 2 (count + 1)
  pub stands : NeverFails g → (h : History) → StandsFor s.cache no_contents h → HasStarted h 1 →
      StandsFor u.cache no_contents (parts_start s.plan now total (part - 1) ++ h)
  pub moment : last_moment u.cache ≡ now
  pub received : bytes_received u.cache ≡ bytes_received s.cache
  pub few : steps u.cache + 2 ≡ steps s.cache + part

others_on : {B : Type 0} {g : Ghosts B} (s t u : Fetching B g) → KeepsRest s t → KeepsRest t u → KeepsRest s u
others_on s t u one two = record {
  plan = two.plan ∙ one.plan;
  moment = two.moment ∙ one.moment;
  count = two.count ∙ one.count;
  first = two.first ∙ one.first;
  ended = two.ended ∙ one.ended;
  gathered = two.gathered ∙ one.gathered;
  decided = two.decided ∙ one.decided;
  limits = two.limits ∙ one.limits;
}

-- one more starts
pub starts_next : {B : Type 0} {g : Ghosts B} (s t u : Fetching B g) (now total count part : ℕ) (acts : List Act) → StartsOn s t now total count part → part < count + 1 → count ≤ 1000 →
    KeepsRest t u → Answers t.cache u.cache now (part_start s.plan total part) acts → (NeverFails g → failures_in acts ≡ 0)
    → last_moment u.cache ≡ now → bytes_received u.cache ≡ bytes_received t.cache → StartsOn s u now total count (part + 1)
starts_next {g = g} s t u now total count part acts q under few rest answered sound moment received = record {
  rest = others_on s t u q.rest rest;
  some = (let some = q.some in omega (arith, some));
  within = omega (arith, under);
  stands = λ never h stands has. next never h stands has;
  moment = moment;
  received = received ∙ q.received;
  few = (let before = q.few in let one = answered.number in omega (arith, before, one));
}
  where
    next : NeverFails g → (h : History) → StandsFor s.cache no_contents h → HasStarted h 1 → StandsFor u.cache no_contents (parts_start s.plan now total (part + 1 - 1) ++ h)
    next never h stands has =
        let some = q.some in
        let n : ℕ = part - 2 in
        let place : n + 1 ≡ part - 1 = omega (arith, some) in
        let whole : part - 1 + 1 ≡ part = omega (arith, some) in
        let started : HasStarted (parts_start s.plan now total (part - 1) ++ h) (part - 1) =
        subst (λ (k : ℕ). HasStarted (parts_start s.plan now total k ++ h) k) place (all_started s.plan now total h has n) in
        let on = own_start t.cache u.cache now part (request_of s.plan (fields_for (Some ((part - 1) * s.plan.size, last_position s.plan total part))))
        acts answered (sound never) (parts_start s.plan now total (part - 1) ++ h) (part - 1) (q.stands never h stands has) started whole (omega (arith, under, few)) in
        let one : parts_start s.plan now total (part - 1 + 1) ≡ entry_without_acts now (part_start s.plan total (part - 1 + 1)) ∷
        parts_start s.plan now total (part - 1) = parts_next s.plan now total (part - 1) (omega (arith, some)) in
        let same : parts_start s.plan now total part ≡ entry_without_acts now (part_start s.plan total part) ∷ parts_start s.plan now total (part - 1) =
        subst (λ (k : ℕ). parts_start s.plan now total k ≡ entry_without_acts now (part_start s.plan total k) ∷ parts_start s.plan now total (part - 1))
        whole one in
        let back : part ≡ part + 1 - 1 = omega arith in
        subst (λ (k : ℕ). StandsFor u.cache no_contents (parts_start s.plan now total k ++ h)) back
        (subst (λ (xs : History). StandsFor u.cache no_contents (xs ++ h)) (sym same) on)

pub all_starts : {B : Type 0} {g : Ghosts B} (s u : Fetching B g) (now total count part : ℕ) → StartsOn s u now total count part → count ≤ 1000 → count + 1 ≤ part → Starts s u now total count
all_starts s u now total count part q few past = record {
  rest = q.rest;
  stands = λ never h stands has. by_count count refl h (q.stands never h stands has);
  moment = q.moment;
  received = q.received;
  few = (let more = q.few in let within = q.within in omega (arith, more, within, few));
}
  where
    by_count : (n : ℕ) → count ≡ n → (h : History) → StandsFor u.cache no_contents (parts_start s.plan now total (part - 1) ++ h) →
        StandsFor u.cache no_contents (parts_start s.plan now total count ++ h)
    by_count zero none h here =
        let within = q.within in
        let some = q.some in
        let place : part - 1 ≡ 1 = omega (arith, within, some, none) in
        let one : StandsFor u.cache no_contents (parts_start s.plan now total 1 ++ h) =
        subst (λ (k : ℕ). StandsFor u.cache no_contents (parts_start s.plan now total k ++ h)) place here in
        subst (λ (xs : History). StandsFor u.cache no_contents (xs ++ h))
        (parts_few s.plan now total 1 (omega arith) ∙ sym (parts_few s.plan now total count (omega (arith, none)))) one
    by_count (suc n) is h here =
        let within = q.within in
        let place : part - 1 ≡ count = omega (arith, within, past, is) in
        subst (λ (k : ℕ). StandsFor u.cache no_contents (parts_start s.plan now total k ++ h)) place here

-- BEFORE AN EVENT

least_allowed : (q : Option First) → 1 ≤ starts_allowed q
least_allowed None = omega arith
least_allowed (Some first) = omega arith

-- the first one started before
pub begins_none : {B : Type 0} {g : Ghosts B} (s : Fetching B g) (now : ℕ) → 1 < s.count → last_moment s.cache ≤ now → AreFew (steps s.cache) (s.count - 1) s.first → Begins s s now
begins_none s now more moment few = record {
  rest = record { plan = refl; moment = refl; count = refl; first = refl; ended = refl; gathered = refl; decided = refl; limits = refl };
  stands = λ never f behind. subst (StandsFor s.cache no_contents) (started_before s.plan now s.count f more behind.1) behind.0;
  moment = moment;
  received = refl;
  few = (let one = few.0 in let two = few.1 in (omega (arith, one, more), omega (arith, two, more)));
}

pub begins_one : {B : Type 0} {g : Ghosts B} (s u : Fetching B g) (now : ℕ) (acts : List Act) → s.count ≡ 1 → AreFew (steps s.cache) (s.count - 1) s.first → KeepsRest s u →
    Answers s.cache u.cache now (first_start s.plan) acts → (NeverFails g → failures_in acts ≡ 0)
    → last_moment u.cache ≡ now → bytes_received u.cache ≡ bytes_received s.cache → Begins s u now
begins_one s u now acts one few rest answered sound moment received = record {
  rest = rest;
  stands = λ never f behind. begins_first s.cache u.cache s.plan now s.count acts answered (sound never) (omega (arith, one)) f behind.0 behind.1;
  moment = omega (arith, moment);
  received = received;
  few = (let none = few.1 in let number = answered.number in let least = least_allowed s.first in
      (omega (arith, none, number, least, one), omega (arith, none, number, one)));
}

-- AN EVENT

-- a store that counts no failure tells none
pub none_counted : {B : Type 0} {g : Ghosts B} (s u : Cache B g) (n : ℕ) → faults_in s + n ≤ faults_in u → NeverFails g → n ≡ 0
none_counted s u n counted never = let same = never (store_in u) (store_in s) in omega (arith, counted, same)

pub step_on : {B : Type 0} {g : Ghosts B} (s t u : Fetching B g) (now : ℕ) (event : Event) (before out : List Act) → Begins s t now → before ≡ [] →
    core.Steps t.cache u.cache before out now event → last_moment u.cache ≡ now → bytes_received u.cache ≡ bytes_received t.cache + received_in event →
    KeepsRest t u → Steps s u now event out
step_on s t u now event before out begins none stepped moment received rest =
    let acts_are : out ≡ stepped.acts = stepped.reported ∙ ap (λ (l : List Act). l ++ stepped.acts) none in
    record {
      rest = others_on s t u begins.rest rest;
      stands = λ never f behind. subst
          (λ (l : List Act). StandsFor u.cache no_contents (record { now = now; event = event; acts = l } ∷ started s.plan now (cache_history s.plan f)))
          (sym acts_are) (stepped.answered.stands no_contents (started s.plan now (cache_history s.plan f)) (begins.stands never f behind));
      sound = λ never. subst (λ (l : List Act). failures_in l ≡ 0) (sym acts_are)
          (none_counted t.cache u.cache (failures_in stepped.acts) stepped.answered.counted never);
      moment = moment;
      received = received ∙ ap (λ (n : ℕ). n + received_in event) begins.received;
      few = subst (λ (n : ℕ). AreFew n s.count s.first) (sym stepped.answered.number) begins.few;
    }

-- COUNTS

-- and an event without bytes brings none
pub none_came : (a b : ℕ) → a ≡ b + 0 → a ≡ b
none_came a b came = omega (arith, came)

min_few : (a b n : ℕ) → a ≤ n → min a b ≤ n
min_few a b n le = omega (arith, le)

pub few_parts : (plan : FetchPlan) (total : ℕ) → plan.parts ≤ 1000 → part_count plan total ≤ 1000
few_parts plan total few = min_few plan.parts ((total + (plan.size - 1)) / plan.size) 1000 few

-- a new cache has seen no moment
pub new_moment : {B : Type 0} {g : Ghosts B} (s : Cache B g) → StandsFor s no_contents [] → last_moment s ≤ 0
unfolding tables
new_moment s new = let at = new.moment in omega arith
