-- What was stepped and reported goes on with a run, and is its report.
--
-- A step takes each history that the cache stands for to that history with one entry more. So it comes to
-- stand for all that was stepped behind each (`leads_stand`), over the same limits. That is a run, and in each
-- run consumers read whole, by a law (`goes_on`). So how far events were stepped they were replayed
-- (`replays_so`), at each ending. A text that spells items is read as it is spelled, so it isn't refused
-- (`completes`).
use Rattle.std.proofs.Common.{◌≡◌, ℕ, ◌+◌, ◌≤◌, List, [], ◌++◌, length, true, Option, Some, None, refl, ap, sym, ◌∙◌, subst, arith}
use Rattle.hc_io.specs.Source.{Gives, GivesAll}
use Rattle.hc_store.specs.declared.backend.Backend.{Ghosts}
use Rattle.hc_effects.proofs.Vocabulary.{Act, Event, Limits, Contents, History, no_contents, IsRun, tables}
use Rattle.hc_sched.specs.{declared.schedule.{Ended.{Ended}, Refused.{Refused}, Timed.{Timed}}, Reading.{refusal_of}}
use Rattle.hc_sched.specs.declared.schedule.Ended.TheVariants as ended
use Rattle.hc_sched.proofs.OneReading.{is_read}
use Rattle.hc_driver.specs.Endings as endings
use Rattle.hc_driver.specs.{Endings.{How, Ends, IsRefused}, Stepping.{events_in, Leads, nothing, more, Steps}}
use Rattle.hc_driver.specs.Stepping as steps
use Rattle.hc_driver.proofs.ReportSteps.{ends_so}
use Rattle.hc_effects.proofs.Basics.{some_none}
use Rattle.hc_laws.proofs.ReadWhole.{runs_read_whole}
use Rattle.hc_core.specs.{declared.cache.Cache.{Cache}, Steps.{StandsFor, Answers, has_failed, limits_in, faults_in, last_moment, steps as steps_in}}
use Rattle.hc_replay.specs.Replays as replays
use Rattle.hc_replay.specs.{Replays.{GoesOn, IsReplayed, Replays, Completes}, Histories.{run_of, failures}}

module _ {B : Type 0} {g : Ghosts B} where
  -- a new cache comes from no moment
  pub new_moment : (s : Cache B g) → StandsFor s no_contents [] → last_moment s ≤ 0
  unfolding tables
  new_moment s new = let at = new.moment in omega arith

  -- how a cache answers
  abbrev answers : Cache B g → ℕ → Event → List Act → Cache B g → Type 0
  answers s now event acts u = Answers s u now event acts

  -- what a step leaves that is refused memory
  abbrev spent : Cache B g → Cache B g → Type 0
  spent s u = has_failed u ≡ true

  leads_stand : (s u : Cache B g) (h : steps.History) (contents : Contents) (before : History) → StandsFor s contents before → Leads answers s h u →
      StandsFor u contents (run_of h ++ before)
  leads_stand s _ _ contents before stands nothing = stands
  leads_stand s _ _ contents before stands (more h e t u leads answered) =
      answered.stands contents (run_of h ++ before) (leads_stand s t h contents before stands leads)

  pub leads_limits : (s u : Cache B g) (h : steps.History) → Leads answers s h u → limits_in u ≡ limits_in s
  leads_limits s _ _ nothing = refl
  leads_limits s _ _ (more h e t u leads answered) = answered.limits ∙ leads_limits s t h leads

  leads_counted : (s u : Cache B g) (h : steps.History) → Leads answers s h u → faults_in s + failures h ≤ faults_in u
  leads_counted s _ _ nothing = omega arith
  leads_counted s _ _ (more h e t u leads answered) =
      let before = leads_counted s t h leads in
      let counted = answered.counted in
      omega arith

  leads_number : (s u : Cache B g) (h : steps.History) → Leads answers s h u → steps_in u ≡ steps_in s + length h
  leads_number s _ _ nothing = omega arith
  leads_number s _ _ (more h e t u leads answered) =
      let before = leads_number s t h leads in
      let one = answered.number in
      omega arith

  goes_on : (s u : Cache B g) (h : steps.History) → Leads answers s h u → (contents : Contents) (before : History) → StandsFor s contents before →
      GoesOn s u h contents before
  goes_on s u h leads contents before stood =
      let stands = leads_stand s u h contents before stood leads in
      record {
        whole = record {
          run = subst (λ (l : Limits). IsRun l contents (run_of h ++ before)) (leads_limits s u h leads) stands.run;
          reads = runs_read_whole (limits_in u) contents (run_of h ++ before) stands.begins stands.run;
        };
        stands = stands;
      }

  pub replayed : (s u : Cache B g) (events : List Timed) (h : steps.History) → events_in h ≡ events → Leads answers s h u → IsReplayed s u events h
  replayed s u events h are leads =
      record { events_are = are; goes_on = goes_on s u h leads; counted = leads_counted s u h leads; number = leads_number s u h leads }

  -- how far they were stepped, they were replayed
  replays_so : (s u : Cache B g) (out out' : Option (List ℕ)) (how : How) (events : List Timed) → Steps answers spent s u out out' how events →
      Replays s u out out' how events
  replays_so s u out out' _ events (steps.wholly h are leads taken) = replays.wholly h (replayed s u events h are leads) taken
  replays_so s u out out' _ events (steps.up_to_last h are leads taken) = replays.up_to_last h (replayed s u events h are leads) taken
  replays_so s u out out' _ events (steps.up_to_want h last are leads taken led) = replays.up_to_want h last (replayed s last events h are leads) taken led

  pub replays_all : (s u : Cache B g) (moment : ℕ) (left left' out out' : Option (List ℕ)) (e : Ended) →
      Ends (Steps answers spent s u out out') moment left left' e → Ends (Replays s u out out') moment left left' e
  replays_all s u moment left left' out out' e ends = ends_so _ _ (replays_so s u out out') moment left left' e ends

-- COMPLETENESS

completes : (moment : ℕ) (left left' : Option (List ℕ)) (text : List ℕ) (r : Refused) → Gives left left' text → IsRefused moment text r →
    Completes moment left (ended.Refused r)
completes moment None left' text r gives is = tt
completes moment (Some old) None text r gives is = absurd gives
completes moment (Some old) (Some rest) text r gives is =
    λ items spells. some_none r (sym (ap (refusal_of moment) gives ∙ is rest) ∙ (is_read moment old items spells).0)

completes_short : (moment : ℕ) (left left' : Option (List ℕ)) (text : List ℕ) (r : Refused) → GivesAll left left' text → refusal_of moment text ≡ Some r →
    Completes moment left (ended.Refused r)
completes_short moment None left' text r gives is = tt
completes_short moment (Some old) left' text r gives is =
    λ items spells. some_none r (sym (ap (refusal_of moment) (sym gives.0) ∙ is) ∙ (is_read moment old items spells).0)

none_complete : (moment : ℕ) (left : Option (List ℕ)) (e : Ended) → ((refused : Refused) → e ≡ ended.Refused refused → ⊥) → Completes moment left e
none_complete moment left (ended.Refused r) off = absurd (off r refl)
none_complete moment None ended.Done off = tt
none_complete moment (Some text) ended.Done off = tt
none_complete moment None ended.SourceFailed off = tt
none_complete moment (Some text) ended.SourceFailed off = tt
none_complete moment None ended.SinkFailed off = tt
none_complete moment (Some text) ended.SinkFailed off = tt
none_complete moment None ended.WireFailed off = tt
none_complete moment (Some text) ended.WireFailed off = tt
none_complete moment None ended.NoMemory off = tt
none_complete moment (Some text) ended.NoMemory off = tt

pub completes_all : (Went : How → List Timed → Type 0) (moment : ℕ) (left left' : Option (List ℕ)) (e : Ended) → Ends Went moment left left' e →
    Completes moment left e
completes_all Went moment left left' _ (endings.refused _ text r read (endings.within at_once) went) = completes moment left left' text r read at_once.refuses
completes_all Went moment left left' _ (endings.refused _ text r read (endings.at_end unrefused is) went) = completes_short moment left left' text r read is
completes_all Went moment left left' _ (endings.done text items gives spells went) = none_complete moment left ended.Done (λ r h. cc)
completes_all Went moment left left' _ (endings.over text first rest gives stepped went) = none_complete moment left ended.Done (λ r h. cc)
completes_all Went moment left left' _ (endings.unreadable text gives unrefused went) = none_complete moment left ended.SourceFailed (λ r h. cc)
completes_all Went moment left left' _ (endings.unwritten text first rest gives stepped went) = none_complete moment left ended.SinkFailed (λ r h. cc)
completes_all Went moment left left' _ (endings.wanting text first rest gives stepped went) = none_complete moment left ended.NoMemory (λ r h. cc)
completes_all Went moment left left' _ (endings.wanting_answer text first rest next gives stepped went) = none_complete moment left ended.NoMemory (λ r h. cc)
