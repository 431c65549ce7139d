-- What is stepped and reported.
--
-- A course of which the answers are entries of a report was stepped: the entries have the acts (`stepped`), so what went so far
-- as a course was stepped so far (`steps_so`). What holds of each way that events went holds at each ending (`ends_so`).
use Rattle.std.{proofs.{Common.{◌≡◌, ℕ, ◌+◌, List, [], ◌∷◌, ◌++◌, length, Option, Result, Ok, Err, true, false, refl, sym, ap, subst, ◌∙◌, inr, arith}, lemmas.List.{append-nil}}, specs.Result.{OnErr}}
use Rattle.hc_event.specs.{declared.{event.Event.{Event}, act.Act.{Act}}, Answering.{Appends}}
use Rattle.hc_io.specs.Sink.{Takes}
use Rattle.hc_sched.specs.{declared.schedule.{Ended.{Ended}, Timed.{Timed}}, Report.{entry_text}}
use Rattle.hc_driver.specs.Courses as courses
use Rattle.hc_driver.specs.{Courses.{Goes, Lacks, TakesThenPrefix}, Endings.{How, Ends}, Stepping.{Entry, History, events_in, report_of, report_before, last_entry, Leads, nothing, more, Reports, never, Steps, wholly, up_to_last, up_to_want}}
use Rattle.hc_driver.specs.Endings as endings

pub on_err : {E : Type 0} {P : Type 0} (r : Result (Unit {0}) E) → P → OnErr r P
on_err (Ok x) p = tt
on_err (Err e) p = p

-- at each ending
pub ends_so : (Went Goes : How → List Timed → Type 0) → ((how : How) (events : List Timed) → Went how events → Goes how events)
    → (moment : ℕ) (left left' : Option (List ℕ)) (e : Ended) → Ends Went moment left left' e → Ends Goes moment left left' e
ends_so Went Goes so moment left left' _ (endings.done text items gives spells went) = endings.done text items gives spells (so _ _ went)
ends_so Went Goes so moment left left' _ (endings.over text first rest gives stepped went) = endings.over text first rest gives stepped (so _ _ went)
ends_so Went Goes so moment left left' _ (endings.refused reach text r read refused went) = endings.refused reach text r read refused (so _ _ went)
ends_so Went Goes so moment left left' _ (endings.unreadable text gives unrefused went) = endings.unreadable text gives unrefused (so _ _ went)
ends_so Went Goes so moment left left' _ (endings.unwritten text first rest gives stepped went) = endings.unwritten text first rest gives stepped (so _ _ went)
ends_so Went Goes so moment left left' _ (endings.wanting text first rest gives stepped went) = endings.wanting text first rest gives stepped (so _ _ went)
ends_so Went Goes so moment left left' _ (endings.wanting_answer text first rest next gives stepped went) =
    endings.wanting_answer text first rest next gives stepped (so _ _ went)

-- what was all reported was reported up to the last
pub all_reported : (h : History) (a b : Option (List ℕ)) → Takes a b (report_of h) → TakesThenPrefix a b (report_before h) (last_entry h)
all_reported [] a b taken = record { part = []; rest = []; whole = refl; takes = taken }
all_reported (e ∷ h) a b taken = record { part = last_entry (e ∷ h); rest = []; whole = append-nil (last_entry (e ∷ h)); takes = taken }

module _ {A : Type 0} (answers : A → ℕ → Event → List Act → A → Type 0) (spent : A → A → Type 0) where
  -- it was answered, and its text was refused memory
  pub lacks_text : (s u : A) (number now : ℕ) (event : Event) (before after : List Act) {E : Type 0} (r : Result (Unit {0}) E)
      → Appends answers s u now event before after → OnErr r (Lacks (Reports answers) spent s number now event u)
  lacks_text s u number now event before after r reported =
      on_err r (inr (entry_text number reported.acts, record { acts = reported.acts; answered = reported.answered; text_is = refl }))

  -- these steps have that course
  record Stepped (s u : A) (h : courses.History) : Type 0 where
    history : History
    leads : Leads answers s history u
    events_are : events_in history ≡ courses.events_in h
    report_is : report_of history ≡ courses.text_of h
    before_is : report_before history ≡ courses.text_before h
    last_is : last_entry history ≡ courses.last_text h
    length_is : length history ≡ length h

  stepped : (s u : A) (h : courses.History) → courses.Leads (Reports answers) never 0 s h u → Stepped s u h
  stepped s _ _ courses.nothing =
      record { history = []; leads = nothing; events_are = refl; report_is = refl; before_is = refl; last_is = refl; length_is = refl }
  stepped s _ _ (courses.more h e t u leads is_open reported) =
      let first = stepped s t h leads in
      let entry : Entry = record { timed = e.timed; acts = reported.acts } in
      let number : length first.history + 1 ≡ 0 + length h + 1 = let same = first.length_is in omega arith in
      let text : entry_text (length first.history + 1) reported.acts ≡ e.text = ap (λ (n : ℕ). entry_text n reported.acts) number ∙ sym reported.text_is in
      record {
        history = entry ∷ first.history;
        leads = more first.history entry t u first.leads reported.answered;
        events_are = ap (λ (l : List Timed). l ++ e.timed ∷ []) first.events_are;
        report_is = ap (λ (l : List ℕ). l ++ entry_text (length first.history + 1) reported.acts) first.report_is ∙
            ap (λ (l : List ℕ). courses.text_of h ++ l) text;
        before_is = first.report_is;
        last_is = text;
        length_is = let same = first.length_is in omega arith;
      }

  -- how far a course went, it was stepped
  pub steps_so : (s u : A) (out out' : Option (List ℕ)) (how : How) (events : List Timed) → Goes (Reports answers) never spent 0 s u out out' how events →
      Steps answers spent s u out out' how events
  steps_so s u out out' _ events (courses.wholly h are leads is_open taken) =
      let by = stepped s u h leads in
      wholly by.history (by.events_are ∙ are) by.leads (subst (λ (l : List ℕ). Takes out out' l) (sym by.report_is) taken)
  steps_so s u out out' _ events (courses.up_to_end h are leads ended taken) = absurd (let no : false ≡ true = ended in cc)
  steps_so s u out out' _ events (courses.up_to_last h are leads taken) =
      let by = stepped s u h leads in
      up_to_last by.history (by.events_are ∙ are) by.leads
      (subst (λ (l : List ℕ). TakesThenPrefix out out' (report_before by.history) l) (sym by.last_is)
      (subst (λ (l : List ℕ). TakesThenPrefix out out' l (courses.last_text h)) (sym by.before_is) taken))
  steps_so s u out out' _ events (courses.up_to_want h last are leads is_open taken led) =
      let by = stepped s last h leads in
      up_to_want by.history last (by.events_are ∙ are) by.leads (subst (λ (l : List ℕ). Takes out out' l) (sym by.report_is) taken) led

  pub ends_stepped : (s u : A) (moment : ℕ) (left left' out out' : Option (List ℕ)) (e : Ended) →
      Ends (Goes (Reports answers) never spent 0 s u out out') moment left left' e
      → Ends (Steps answers spent s u out out') moment left left' e
  ends_stepped s u moment left left' out out' e ends = ends_so _ _ (steps_so s u out out') moment left left' e ends
