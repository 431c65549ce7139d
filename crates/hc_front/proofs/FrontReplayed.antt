-- What was stepped behind a front and reported goes on with a front history, and is its report.
--
-- A step takes each front history that the front stands for to that with one event more. What was heard at the steps is
-- put together behind what the front stood for (`led`): so it stands for that, and what it told is what was reported.
-- The history of the cache is a run then, in which consumers read whole, by a law (`goes_on`).
use Rattle.std.proofs.Common.{◌≡◌, ℕ, ◌+◌, ◌≤◌, List, [], ◌∷◌, ◌++◌, length, true, Option, refl, ap, sym, ◌∙◌, subst, arith}
use Rattle.hc_store.specs.declared.backend.Backend.{Ghosts}
use Rattle.hc_effects.proofs.Vocabulary.{Act, Event, Limits, Contents, IsRun}
use Rattle.hc_sched.specs.declared.schedule.{Ended.{Ended}, Timed.{Timed}}
use Rattle.hc_driver.specs.{Endings.{How, Ends}, Stepping.{events_in, Leads, nothing, more, Steps}}
use Rattle.hc_driver.specs.Stepping as steps
use Rattle.hc_driver.proofs.ReportSteps.{ends_so}
use Rattle.hc_laws.proofs.ReadWhole.{runs_read_whole}
use Rattle.hc_replay.specs.Histories.{failures}
use Rattle.hc_front.specs.{declared.front.Front.{Front}, Fronts.{FrontEntry}, FrontHistories.{FrontHistory, fronted, core_of, answered_of, front_entry}, Replays.{GoesOn, IsReplayed, ReplaysFront}, Steps.{FrontStands, FrontAnswers, has_failed, limits_in, faults_in, steps as steps_in}}
use Rattle.hc_front.specs.Replays as replays

module _ {B : Type 0} {g : Ghosts B} where
  -- how a front answers
  abbrev answers : Front B g → ℕ → Event → List Act → Front B g → Type 0
  answers s now event acts u = FrontAnswers s u now event acts

  -- what a step leaves that is refused memory
  abbrev spent : Front B g → Front B g → Type 0
  spent s u = has_failed u ≡ true

  -- what was heard stands behind what the front stood for, and h is what it told
  record IsLed (s u : Front B g) (h : steps.History) (heard : FrontHistory) (contents : Contents) (before : FrontHistory) : Type 0 where
    pub reported : answered_of contents (heard ++ before) ≡ h ++ answered_of contents before
    pub stands : FrontStands u contents (heard ++ before)

  record Led (s u : Front B g) (h : steps.History) : Type 0 where
    pub heard : FrontHistory
    pub limits : limits_in u ≡ limits_in s
    pub counted : faults_in s + failures h ≤ faults_in u
    pub number : steps_in u ≡ steps_in s + length h
    pub each : (contents : Contents) (before : FrontHistory) → FrontStands s contents before → IsLed s u h heard contents before

  -- by one step more
  module _ (s t u : Front B g) (h : steps.History) (e : steps.Entry) (q : Led s t h) (a : FrontAnswers t u e.timed.now e.timed.event e.acts) where
    abbrev last : FrontEntry
    last = record { now = e.timed.now; event = e.timed.event; acts = a.heard }

    entry_reported : (contents : Contents) (f : FrontHistory) → FrontStands t contents f → front_entry (fronted contents f) last ≡ e
    entry_reported contents f stands =
        ap (λ (acts : List Act). record { timed = record { now = e.timed.now; event = e.timed.event }; acts = acts }) (sym (a.reported_are contents f stands))

    one_more : Led s u (e ∷ h)
    one_more = record {
      heard = last ∷ q.heard;
      limits = a.limits ∙ q.limits;
      counted = (let before = q.counted in let counted = a.counted in omega (arith, before, counted));
      number = (let before = q.number in let one = a.number in omega (arith, before, one));
      each = λ contents before stands.
          let led = q.each contents before stands in
          record {
            reported = ap (λ (x : steps.Entry). x ∷ answered_of contents (q.heard ++ before)) (entry_reported contents (q.heard ++ before) led.stands) ∙
                ap (λ (l : steps.History). e ∷ l) led.reported;
            stands = a.stands contents (q.heard ++ before) led.stands;
          };
    }

  led : (s u : Front B g) (h : steps.History) → Leads answers s h u → Led s u h
  led s _ _ nothing = record {
    heard = [];
    limits = refl;
    counted = omega arith;
    number = omega arith;
    each = λ contents before stands. record { reported = refl; stands = stands };
  }
  led s _ _ (more h e t u leads answered) = one_more s t u h e (led s t h leads) answered

  goes_on : (s u : Front B g) (h : steps.History) (q : Led s u h) (contents : Contents) (before : FrontHistory) → FrontStands s contents before →
      GoesOn s u h q.heard contents before
  goes_on s u h q contents before stood =
      let led = q.each contents before stood in
      record {
        whole = record {
          run = subst (λ (l : Limits). IsRun l contents (core_of contents (q.heard ++ before))) q.limits led.stands.cache.run;
          reads = runs_read_whole (limits_in u) contents (core_of contents (q.heard ++ before)) led.stands.cache.begins led.stands.cache.run;
        };
        reported = led.reported;
        stands = led.stands;
      }

  replayed : (s u : Front B g) (events : List Timed) (h : steps.History) → events_in h ≡ events → Leads answers s h u → IsReplayed s u events h
  replayed s u events h are leads =
      let q = led s u h leads in
      record { heard = q.heard; events_are = are; goes_on = goes_on s u h q; counted = q.counted; number = q.number }

  -- how far they were stepped, they were replayed
  replays_so : (s u : Front B g) (out out' : Option (List ℕ)) (how : How) (events : List Timed) → Steps answers spent s u out out' how events →
      ReplaysFront s u out out' how events
  replays_so s u out out' _ events (steps.wholly h are leads taken) = replays.wholly h (replayed s u events h are leads) taken
  replays_so s u out out' _ events (steps.up_to_last h are leads taken) = replays.up_to_last h (replayed s u events h are leads) taken
  replays_so s u out out' _ events (steps.up_to_want h last are leads taken led) = replays.up_to_want h last (replayed s last events h are leads) taken led

  pub replays_all : (s u : Front B g) (moment : ℕ) (left left' out out' : Option (List ℕ)) (e : Ended) →
      Ends (Steps answers spent s u out out') moment left left' e → Ends (ReplaysFront s u out out') moment left left' e
  replays_all s u moment left left' out out' e ends = ends_so _ _ (replays_so s u out out') moment left left' e ends
