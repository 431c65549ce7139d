-- What the course of a fetch leads to.
--
-- By induction on its events: where nothing was decided, the fetch stands for them (`at_open`); else the last one
-- decided (`at_decision`), or is foreign and wasn't stepped (`at_foreign`). What was told is what is written of them.
-- `one_more` is the step of that induction, and `followed` is for the whole course.
use Rattle.std.{proofs.Common.{◌≡◌, ℕ, ◌+◌, List, [], ◌∷◌, ◌++◌, length, drop, Bool, true, false, Option, Some, None, refl, ap, sym, ◌∙◌, subst}, specs.Prelude.{is_some}}
use Rattle.hc_text.proofs.Basics.{drop-whole as drop_front}
use Rattle.hc_sched.specs.declared.schedule.Timed.{Timed}
use Rattle.hc_driver.specs.Courses as courses
use Rattle.hc_driver.specs.Courses.{AnsweredBy, Leads, text_of, text_before, last_text}
use Rattle.hc_effects.proofs.Vocabulary.{Limits, Entry, History, no_contents, IsRun}
use Rattle.hc_effects.proofs.Basics.{true_false}
use Rattle.hc_laws.proofs.{FromNothing.{begins_well}, ReadWhole.{runs_read_whole}}
use Rattle.hc_core.specs.Steps.{limits_in}
use Rattle.hc_store.specs.declared.backend.Backend.{Ghosts}
use Rattle.hc_fetch.specs.{declared.{ended.FetchEnded.{FetchEnded}, fetching.Fetching.{Fetching}, plan.FetchPlan.{FetchPlan}}, Deciding.{is_foreign, has_foreign, decided_by, is_undecided, is_undecided_before}, Endings.{IsFetched, events_in, failures}, Fetches.{cache_history}, Gathering.{written_of, written_before, written_last}, Steps.{HasHeard, StandsForFetch, Answers, Reports}}
use Rattle.hc_fetch.specs.declared.ended.FetchEnded.TheVariants as ended
use Rattle.hc_fetch.specs.Steps as steps
use Rattle.hc_fetch.proofs.{Bodies.{writes_the_body}, Shows.{was_undecided}}

pub fetched : (limits : Limits) (plan : FetchPlan) (f : History) → IsRun limits no_contents (cache_history plan f) → is_undecided_before plan f ≡ true →
    failures f ≡ 0 → has_foreign f ≡ false → IsFetched limits plan f
fetched limits plan f run before sound own = record {
  run = run;
  reads = runs_read_whole limits no_contents (cache_history plan f) (begins_well limits) run;
  sound = sound;
  own = own;
  body = λ head is. writes_the_body limits plan f (record { begins = begins_well limits; run = run; undecided_before = before }) head is;
}

-- where a fetch of this plan over these limits is, behind what it told
pub data IsAt {B : Type 0} {g : Ghosts B} (limits : Limits) (plan : FetchPlan) (u : Fetching B g) (h : courses.History) : Type 0 where
  at_open : (f : History) → IsFetched limits plan f → events_in f ≡ courses.events_in h → text_of h ≡ written_of f → text_before h ≡ written_before f →
      StandsForFetch u f → u.plan ≡ plan → limits_in u.cache ≡ limits → IsAt limits plan u h
  at_decision : (e : Entry) (f : History) (by : FetchEnded) → IsFetched limits plan (e ∷ f) → events_in (e ∷ f) ≡ courses.events_in h →
      text_of h ≡ written_of (e ∷ f) → text_before h ≡ written_of f → is_undecided plan f ≡ true → decided_by plan f e.acts ≡ Some by → u.decided ≡ Some by →
      IsAt limits plan u h
  at_foreign : (f : History) (next : Timed) → IsFetched limits plan f → is_undecided plan f ≡ true → written_before f ++ written_last f ≡ written_of f →
      events_in f ++ next ∷ [] ≡ courses.events_in h → text_of h ≡ written_of f → text_before h ≡ written_of f → is_foreign next.event ≡ true →
      u.decided ≡ Some (ended.Foreign (length f + 1)) → IsAt limits plan u h

pub last_joined : (h : courses.History) → text_of h ≡ text_before h ++ last_text h
last_joined [] = refl
last_joined (e ∷ h) = refl

pub last_is : (h : courses.History) (f : History) → text_of h ≡ written_of f → text_before h ≡ written_before f → last_text h ≡ written_last f
last_is h f text_is before_is =
    let joined : written_of f ≡ written_before f ++ last_text h = sym text_is ∙ (last_joined h ∙ ap (λ (l : List ℕ). l ++ last_text h) before_is) in
    sym (ap (drop (length (written_before f))) joined ∙ drop_front (written_before f) (last_text h))

pub all_joined : (h : courses.History) (f : History) → text_of h ≡ written_of f → text_before h ≡ written_before f → written_before f ++
    written_last f ≡ written_of f
all_joined h f text_is before_is =
    ap (λ (l : List ℕ). written_before f ++ l) (sym (last_is h f text_is before_is))
    ∙ (ap (λ (l : List ℕ). l ++ last_text h) (sym before_is) ∙ (sym (last_joined h) ∙ text_is))

none_written : [] ≡ written_of []
unfolding written_of
none_written = refl

abbrev pub over : {B : Type 0} {g : Ghosts B} → Fetching B g → Bool
over s = is_some s.decided

module _ {B : Type 0} {g : Ghosts B} (limits : Limits) (plan : FetchPlan) where
  open_of : (u : Fetching B g) (f : History) → HasHeard u f → u.plan ≡ plan → limits_in u.cache ≡ limits → is_undecided_before plan f ≡ true →
      IsFetched limits plan f
  open_of u f heard plan_is limits_is before =
      let run : IsRun limits no_contents (cache_history plan f) =
      subst (λ (l : Limits). IsRun l no_contents (cache_history plan f)) limits_is
      (subst (λ (p : FetchPlan). IsRun (limits_in u.cache) no_contents (cache_history p f)) plan_is heard.stands.run) in
      fetched limits plan f run before heard.sound heard.own

  module _ (t u : Fetching B g) (timed : Timed) (text : List ℕ) (h : courses.History) where
    abbrev reported : AnsweredBy
    reported = record { timed = timed; text = text }

    by_decision : (f : History) → StandsForFetch t f → events_in f ≡ courses.events_in h → text_of h ≡ written_of f → t.plan ≡ plan → limits_in t.cache ≡ limits
        → (a : Answers t timed.now timed.event text u) → (q : Option FetchEnded) → u.decided ≡ q → IsAt limits plan u (reported ∷ h)
    by_decision f stand are text_is plan_is limits_is a None open_is =
        let e : Entry = record { now = timed.now; event = timed.event; acts = a.acts } in
        let hears = a.hears f stand in
        let plan_now : u.plan ≡ plan = a.plan ∙ plan_is in
        let limits_now : limits_in u.cache ≡ limits = a.limits ∙ limits_is in
        let stands = hears.goes_on open_is in
        let undecided : is_undecided plan (e ∷ f) ≡ true = subst (λ (p : FetchPlan). is_undecided p (e ∷ f) ≡ true) plan_now stands.so_far.undecided in
        at_open (e ∷ f) (open_of u (e ∷ f) hears.heard plan_now limits_now (was_undecided plan (e ∷ f) undecided))
        (ap (λ (l : List Timed). l ++ timed ∷ []) are)
        (ap (λ (l : List ℕ). l ++ text) text_is ∙ hears.writes) text_is stands plan_now limits_now
    by_decision f stand are text_is plan_is limits_is a (Some by) decided_is =
        let e : Entry = record { now = timed.now; event = timed.event; acts = a.acts } in
        let hears = a.hears f stand in
        let undecided : is_undecided plan f ≡ true = subst (λ (p : FetchPlan). is_undecided p f ≡ true) plan_is stand.so_far.undecided in
        at_decision e f by (open_of u (e ∷ f) hears.heard (a.plan ∙ plan_is) (a.limits ∙ limits_is) undecided) (ap (λ (l : List Timed). l ++ timed ∷ []) are)
        (ap (λ (l : List ℕ). l ++ text) text_is ∙ hears.writes) text_is undecided
        (subst (λ (p : FetchPlan). decided_by p f a.acts ≡ Some by) plan_is (sym hears.decided ∙ decided_is)) decided_is

    one_more : (number : ℕ) → IsAt limits plan t h → over t ≡ false → Reports t number timed.now timed.event text u → IsAt limits plan u (reported ∷ h)
    one_more number (at_open f is_fetched are text_is before_is stand plan_is limits_is) is_open (steps.foreign foreign none decided) =
        let same : t.count ≡ length f = stand.count in
        at_foreign f timed is_fetched (subst (λ (p : FetchPlan). is_undecided p f ≡ true) plan_is stand.so_far.undecided)
        (all_joined h f text_is before_is) (ap (λ (l : List Timed). l ++ timed ∷ []) are)
        (ap (λ (l : List ℕ). text_of h ++ l) none ∙ (Rattle.std.proofs.lemmas.List.append-nil (text_of h) ∙ text_is)) text_is foreign
        (decided ∙ ap (λ (n : ℕ). Some (ended.Foreign (n + 1))) same)
    one_more number (at_open f is_fetched are text_is before_is stand plan_is limits_is) is_open (steps.answered heard a) =
        by_decision f stand are text_is plan_is limits_is a u.decided refl
    one_more number (at_decision e f by is_fetched are text_is before_is undecided decides decided) is_open reports =
        absurd (true_false (sym (ap is_some decided) ∙ is_open))
    one_more number (at_foreign f next is_fetched undecided joined are text_is before_is foreign decided) is_open reports =
        absurd (true_false (sym (ap is_some decided) ∙ is_open))

  pub followed : (s u : Fetching B g) (h : courses.History) → StandsForFetch s [] → s.plan ≡ plan → limits_in s.cache ≡ limits → Leads Reports over 0 s h u →
      IsAt limits plan u h
  followed s u _ new plan_is limits_is courses.nothing =
      at_open [] (open_of s [] new.so_far.heard plan_is limits_is refl) refl none_written refl new plan_is limits_is
  followed s u _ new plan_is limits_is (courses.more h e t v leads is_open reports) =
      one_more t u e.timed e.text h (0 + length h + 1) (followed s t h new plan_is limits_is leads) is_open reports
