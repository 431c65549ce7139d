-- A poll of a live consumer is accepted, and tells nobody anything but that consumer.
use Rattle.std.{proofs.Common.{◌≡◌, ℕ, List, [], ◌∷◌, true, Option, Some, None, refl, sym, ◌∙◌, subst}, specs.Prelude.{is_some, if◌then◌else◌}}
use Rattle.hc_effects.proofs.Vocabulary.{Act, Event, Limits, Entry, History, Contents, may_begin, IsOwed, IsRun, tables, recipient, consumer_acts, IsOneTo, AnswersOne, AnswersBy, event}
use Rattle.hc_model.specs.ConsumerActs as reports
use Rattle.hc_laws.proofs.WhoIsAnswered.{reported_in_runs}

-- TOLD

-- whoever is told something by these acts is c
abbrev pub AreTo : ℕ → List Act → Type 0
AreTo c [] = Unit {0}
AreTo c (a ∷ acts) = ((d : ℕ) → recipient a ≡ Some d → d ≡ c) × AreTo c acts

pub one_first : (c : ℕ) (a : Act) (acts : List Act) → IsOneTo c (a ∷ acts) → (recipient a ≡ Some c) × (acts ≡ [])
one_first c a _ (reports.one _ reported) = (reported, refl)

some_is : (c d : ℕ) (o : Option ℕ) → o ≡ Some c → o ≡ Some d → d ≡ c
some_is c d o p q = let same : Some d ≡ Some c = sym q ∙ p in cc

none_to : (c : ℕ) (acts : List Act) → consumer_acts acts ≡ [] → AreTo c acts
none_to c [] none = tt
none_to c (a ∷ acts) none = by_reported (recipient a) refl (none_to c acts) none
  where
    by_reported : (o : Option ℕ) → recipient a ≡ o → (consumer_acts acts ≡ [] → AreTo c acts) →
        (if is_some o then a ∷ consumer_acts acts else consumer_acts acts) ≡ [] → AreTo c (a ∷ acts)
    by_reported None at later rest = (λ d says. absurd (let never : None ≡ Some d = sym at ∙ says in cc), later rest)
    by_reported (Some d) at later rest = absurd (let never : (a ∷ consumer_acts acts) ≡ [] = rest in cc)

one_to : (c : ℕ) (acts : List Act) → IsOneTo c (consumer_acts acts) → AreTo c acts
one_to c [] is = tt
one_to c (a ∷ acts) is = by_reported (recipient a) refl (one_to c acts) is
  where
    by_reported : (o : Option ℕ) → recipient a ≡ o → (IsOneTo c (consumer_acts acts) → AreTo c acts) →
        IsOneTo c (if is_some o then a ∷ consumer_acts acts else consumer_acts acts) → AreTo c (a ∷ acts)
    by_reported None at later rest = (λ d says. absurd (let never : None ≡ Some d = sym at ∙ says in cc), later rest)
    by_reported (Some d) at later rest =
        let first = one_first c a (consumer_acts acts) rest in
        (λ b says. some_is c b (recipient a) first.0 says, none_to c acts first.1)

-- of a run
module _ (limits : Limits) (contents : Contents) (h : History) (begins : may_begin limits contents ≡ true) (run : IsRun limits contents h) (e : Entry)
    (is : IsOwed limits (tables contents h) e) where
  pub reports_by : AnswersBy e.event e.acts
  reports_by = reported_in_runs limits contents (e ∷ h) begins (run, is)

  module _ (c want : ℕ) (at : e.event ≡ event.Poll c want) where
    -- one thing at most, and what is to be waited for last
    pub poll_reports : AnswersOne c e.acts
    poll_reports = subst (λ (z : Event). AnswersBy z e.acts) at reports_by

    pub polls_alone : AreTo c e.acts
    polls_alone = one_to c e.acts poll_reports.one
