-- A poll tells its consumer one thing at most, and last what it is to wait for; another event tells nobody anything.
--
-- The acts of an accepted poll are those of its move, then what is closed and what is lost, which tell nobody. Where
-- the move is to wait, nobody leaves: so nothing is closed, nothing is written, and nothing is lost. `one_by` and
-- `last_by` go by the moves, `by_poll` joins them, and `reported_in_runs` is for every run.
use Rattle.std.{proofs.{lemmas.Bool.Decides.{nat_tests}, Common.{arith, ◌≡◌, ℕ, List, [], ◌∷◌, ◌++◌, Bool, true, false, Option, Some, None, refl, ap, sym, ◌∙◌, subst}}, specs.Prelude.{map, ◌||◌}}
use Rattle.hc_effects.proofs.Vocabulary.{is_denied, closes_in, Act, Event, Limits, leaver_in, loses_in, answer_acts, loss_acts, close_acts, closing, denial, is_live, Entry, Flaw, NoFlaw, Loses, flaw_in, OfHistories, Turns, Move, Nothing, Asks, Opens, Shows, Gives, Ends, Fails, acts_of, Tables, Consumer, IsOwed, Sound, tables, consumer_acts, IsOneTo, AnswersOne, AnswersBy, evicted, act, cause, wait}
use Rattle.hc_event.specs.declared.event.Event.TheVariants as event
use Rattle.hc_rules.specs.Refusals as refusals
use Rattle.hc_model.specs.Moves as moves
use Rattle.hc_model.specs.ConsumerActs.{WaitsLast, AnswersWhoPolls}
use Rattle.hc_model.specs.ConsumerActs as reports
use Rattle.hc_effects.proofs.{ActParts.{leaver_lost, IsAnswer, answer_is}, Basics.{false_true, true_false}, EventsKeep.{poll_live}, Owed.{IsDenied, is_denial, goes}}
use Rattle.hc_effects.proofs.ActParts as parts
use Rattle.hc_laws.proofs.{InRuns.{turned_in_runs}, SoundRuns.{runs_are_sound}, TurnFacts.{moves_on, misreads, IsTaken, AtPoll, at_poll, acts_is, behind, seen}, TurnOpens.{closes_none, loses_none}}
use Rattle.hc_effects.proofs.Owed as owed_by
use Rattle.hc_text.proofs.Basics.{eq_itself}

-- WHAT TELLS NOBODY

loss_reports : (f : Flaw) → consumer_acts (loss_acts f) ≡ []
loss_reports f = grind (arith, nat_tests)

closes_report : (ys : List ℕ) (rest : List Act) → consumer_acts rest ≡ [] → consumer_acts (map act.Close ys ++ rest) ≡ []
closes_report [] rest none = none
closes_report (y ∷ ys) rest none = closes_report ys rest none

closed_report : (ys : List ℕ) → consumer_acts (map act.Close ys) ≡ []
closed_report [] = refl
closed_report (y ∷ ys) = closed_report ys

lost_report : (f : Flaw) (ys : List ℕ) → consumer_acts (loss_acts f ++ map act.Close ys) ≡ []
lost_report NoFlaw ys = closed_report ys
lost_report _ ys = closed_report ys

evicted_report : (rs : List ℕ) (rest : List Act) → consumer_acts rest ≡ [] → consumer_acts (map act.Evicted rs ++ rest) ≡ []
evicted_report [] rest none = none
evicted_report (r ∷ rs) rest none = evicted_report rs rest none

-- nothing is waited for there
lost_waits : (f : Flaw) → WaitsLast (loss_acts f)
lost_waits f = grind (arith, nat_tests)

closed_waits : (ys : List ℕ) (rest : List Act) → WaitsLast rest → WaitsLast (map act.Close ys ++ rest)
closed_waits [] rest last = last
closed_waits (y ∷ ys) rest last = closed_waits ys rest last

-- A POLL

one_by : (c : ℕ) (m : Move) (rest : List Act) → consumer_acts rest ≡ [] → IsOneTo c (consumer_acts (acts_of c m ++ rest))
one_by c Nothing rest none = subst (IsOneTo c) (sym none) reports.nothing
one_by c (moves.Waits w) rest none = subst (λ z. IsOneTo c (act.Pending c w ∷ z)) (sym none) (reports.one _ refl)
one_by c (Asks x) rest none = subst (λ z. IsOneTo c (act.Pending c (wait.Body x) ∷ z)) (sym none) (reports.one _ refl)
one_by c (Opens x need request) rest none = subst (λ z. IsOneTo c (act.Pending c (wait.Head x) ∷ z)) (sym none) (reports.one _ refl)
one_by c (Shows r why head lo hi) rest none = subst (λ z. IsOneTo c (act.Shown c r why head.status head.fields lo hi ∷ z)) (sym none) (reports.one _ refl)
one_by c (Gives run) rest none = subst (λ z. IsOneTo c (act.Given c run.x run.at run.bytes ∷ z)) (sym none) (reports.one _ refl)
one_by c Ends rest none = subst (λ z. IsOneTo c (act.Ended c ∷ z)) (sym none) (reports.one _ refl)
one_by c (Fails why) rest none = subst (λ z. IsOneTo c (act.Failed c why ∷ z)) (sym none) (reports.one _ refl)

-- a move is to wait, or isn't
last_by : (c : ℕ) (m : Move) (f : Flaw) (rest : List Act) → WaitsLast rest → (leaver_in (acts_of c m ++ loss_acts f) ≡ None → rest ≡ []) →
    WaitsLast (acts_of c m ++ rest)
last_by c m f rest last calm = grind (arith, nat_tests)

module _ (limits : Limits) (t : Tables) (e : Entry) (taken : IsTaken limits t e) where
  abbrev flaw : Flaw
  flaw = flaw_in e.acts

  -- OTHER EVENTS

  abbrev closings : List ℕ
  closings = closing t (record { now = e.now; event = e.event; acts = answer_acts t e.now e.event flaw ++ loss_acts flaw })

  quiet_by : (acts : List Act) → IsAnswer limits t e.now e.event flaw acts → answer_acts t e.now e.event flaw ≡ [] → consumer_acts acts ≡ []
  quiet_by _ (parts.reported silent) none =
      evicted_report (evicted limits t e.now e.event) (loss_acts flaw ++ map act.Close closings) (lost_report flaw closings)
  quiet_by _ parts.asked none = ap (λ z. consumer_acts (z ++ (close_acts t e.now e.event flaw ++ loss_acts flaw))) none ∙
      closes_report closings (loss_acts flaw) (loss_reports flaw)

  quiet : answer_acts t e.now e.event flaw ≡ [] → consumer_acts e.acts ≡ []
  quiet none = ap consumer_acts (acts_is limits t e taken) ∙ quiet_by _ (answer_is limits t e.now e.event flaw) none

  -- WHAT IS SAID LAST

  behind_reports : consumer_acts (behind limits t e taken) ≡ []
  behind_reports = closes_report (closing t (seen limits t e taken)) (loss_acts flaw) (loss_reports flaw)

  behind_waits : WaitsLast (behind limits t e taken)
  behind_waits = closed_waits (closing t (seen limits t e taken)) (loss_acts flaw) (lost_waits flaw)

  none_lost : (acts : List Act) (f : Flaw) → ((r : ℕ) → loses_in r (acts ++ loss_acts f) ≡ loses_in r (loss_acts f)) →
      ((r : ℕ) → loses_in r (acts ++ loss_acts f) ≡ false) → loss_acts f ≡ []
  none_lost acts (Loses r kind) same none = absurd (true_false (sym (ap (λ b. b || false) (eq_itself r)) ∙ (sym (same r) ∙ none r)))
  none_lost acts _ same none = refl

  -- after which nobody leaves
  module _ (c want : ℕ) (m : Move) (at : e.event ≡ event.Poll c want) (all : e.acts ≡ acts_of c m ++ behind limits t e taken)
      (saw : (seen limits t e taken).acts ≡ acts_of c m ++ loss_acts (flaw_in e.acts)) where
    module _ (nobody : leaver_in (acts_of c m ++ loss_acts (flaw_in e.acts)) ≡ None) where
      stay : leaver_in (seen limits t e taken).acts ≡ None
      stay = ap leaver_in saw ∙ nobody

      unclosed : (x : ℕ) → closes_in x (acts_of c m ++ behind limits t e taken) ≡ false
      unclosed x = sym (ap (closes_in x) all) ∙ closes_none limits t e taken c want at stay x

      no_closing : (ys : List ℕ) → ((x : ℕ) → closes_in x (map act.Close ys ++ loss_acts flaw) ≡ false) → ys ≡ []
      no_closing [] none = refl
      no_closing (y ∷ ys) none = absurd (true_false (sym (ap (λ b. b || closes_in y (map act.Close ys ++ loss_acts flaw)) (eq_itself y)) ∙ none y))

      none_closed : closing t (seen limits t e taken) ≡ []
      none_closed = no_closing (closing t (seen limits t e taken)) (λ x. sym ((parts.move_closes x 0 c m (behind limits t e taken)).closes) ∙ unclosed x)

      behind_is : behind limits t e taken ≡ loss_acts flaw
      behind_is = ap (λ ys. map act.Close ys ++ loss_acts flaw) none_closed

      unlost : (r : ℕ) → loses_in r (acts_of c m ++ loss_acts flaw) ≡ false
      unlost r = sym (ap (loses_in r) (all ∙ ap (λ z. acts_of c m ++ z) behind_is)) ∙ loses_none limits t e taken c want at stay r

      none_behind : behind limits t e taken ≡ []
      none_behind = behind_is ∙ none_lost (acts_of c m) flaw (λ r. (parts.move_closes 0 r c m (loss_acts flaw)).loses) unlost

    reports_one : AnswersOne c e.acts
    reports_one = record {
      one = subst (λ z. IsOneTo c (consumer_acts z)) (sym all) (one_by c m (behind limits t e taken) behind_reports);
      last = subst WaitsLast (sym all) (last_by c m flaw (behind limits t e taken) behind_waits none_behind);
    }

  by_poll : (c want : ℕ) (k : Consumer) → e.event ≡ event.Poll c want → AtPoll limits t e taken c k → AnswersOne c e.acts
  by_poll c want k at (moves_on more m also m_is does all saw) = reports_one c more m also all saw
  by_poll c want k at (misreads more r also all saw) = record {
    one = subst (λ z. IsOneTo c (consumer_acts z)) (sym all) (one_by c (Fails (cause.StoreRead r)) (behind limits t e taken) behind_reports);
    last = subst WaitsLast (sym all) behind_waits;
  }

  module _ (s : Sound t) (turns : Turns t) where
    polled : (c want : ℕ) (q : Option Consumer) → e.event ≡ event.Poll c want → t.consumer c ≡ q → is_live q ≡ true → AnswersOne c e.acts
    polled c want None at row live = absurd (false_true live)
    polled c want (Some k) at row live = by_poll c want k at (at_poll limits t e taken c want k s turns row at)

    by_event : (ev : Event) → e.event ≡ ev → AnswersBy ev e.acts
    unfolding refusals.refusal_of
    by_event (event.Poll c want) at =
        polled c want (t.consumer c) at refl (poll_live limits t e.now flaw s c want (sym (ap (denial t) at) ∙ goes limits t e taken.owed taken.not_denied))
    by_event _ at = quiet (ap (λ z. answer_acts t e.now z flaw) at)

-- IN RUNS

denied_by : (ev : Event) (acts : List Act) → IsDenied acts → AnswersBy ev acts
denied_by (event.Poll c want) _ (owed_by.denied refusal) = record { one = reports.nothing; last = tt }
denied_by _ _ (owed_by.denied refusal) = refl

by_denial : (limits : Limits) (t : Tables) (e : Entry) (b : Bool) → is_denied e.acts ≡ b → Sound t → Turns t → IsOwed limits t e → AnswersBy e.event e.acts
by_denial limits t e true denied s turns owed = denied_by e.event e.acts (is_denial e.acts denied)
by_denial limits t e false accepted s turns owed = by_event limits t e (record { owed = owed; not_denied = accepted }) s turns e.event refl

-- Who polls is told one thing at most, in every run.
pub reported_in_runs : OfHistories AnswersWhoPolls
reported_in_runs limits contents [] may run = tt
reported_in_runs limits contents (e ∷ h) may run =
    by_denial limits (tables contents h) e (is_denied e.acts) refl (runs_are_sound limits contents h may run.0)
    (turned_in_runs limits contents h may run.0).turns run.1
