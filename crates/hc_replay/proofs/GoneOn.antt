-- The generator and the cache go on by a round.
use Rattle.std.proofs.Common.{◌≡◌, ℕ, ◌+◌, ◌≤◌, List, [], ◌∷◌, true, Some, None, ap, sym, ◌∙◌, subst, arith}
use Rattle.hc_effects.proofs.Vocabulary.{Event, Act, Limits, Contents, History, no_contents, is_wanted, IsOwed, tables, received_in, event}
use Rattle.hc_text.specs.Sorted.{is_sorted, is_among, itself}
use Rattle.hc_generate.specs.{Hearing.{state_after}, Rounds.{IsRound, IsShort}, States.{State}}
use Rattle.hc_core.specs.Steps as core
use Rattle.hc_core.specs.Steps.{StandsFor, Answers, last_moment, bytes_received, limits_in}
use Rattle.hc_replay.specs.{declared.rounds.Rounds.{Rounds}, Generates.{MayGoOn, Stands}, Summaries.{HasGone, AreWanted, entry_at}}
use Rattle.hc_replay.specs.Summaries as summaries
use Rattle.hc_replay.proofs.ReportSteps.{new_moment}

pub stands_new : (limits : Limits) (seed : ℕ) (r : Rounds) → StandsFor r.cache no_contents [] → core.steps r.cache + bytes_received r.cache ≡ 0 →
    limits_in r.cache ≡ limits → r.generator ≡ Rattle.hc_generate.specs.States.beginning seed → Stands limits seed 0 r
stands_new limits seed r new counts limited begins =
    let at = new_moment r.cache new in
    let moment : r.generator.moment ≡ 1000000 = ap (λ (s : State). s.moment) begins in
    let last : r.generator.last ≡ 0 = ap (λ (s : State). s.last) begins in
    record {
      history = [];
      gone = subst (λ (s : State). HasGone limits seed 0 s []) (sym begins) summaries.nowhere;
      stands = new;
      limited = limited;
      moment = omega arith;
      last = omega arith;
      later = omega arith;
      few = omega arith;
      small = omega arith;
    }

pub may_go_on : (limits : Limits) (seed n : ℕ) (r : Rounds) → n ≤ 1000000 → Stands limits seed n r → MayGoOn r
may_go_on limits seed n r few stands =
    let moment = stands.moment in let last = stands.last in let steps = stands.few in let small = stands.small in
    record { moment = omega arith; last = omega arith; later = stands.later; few = omega arith; small = omega arith }

-- the wanted ones, as the cache tells them
abbrev pub IsReportedWanted : Rounds → List ℕ → Type 0
IsReportedWanted r wanted = (contents : Contents) (h : History) → StandsFor r.cache contents h → (x : ℕ) →
    is_among x wanted ≡ is_wanted ((tables contents h).exchange x)

are_wanted : (r : Rounds) (wanted : List ℕ) (h : History) → is_sorted itself wanted ≡ true → IsReportedWanted r wanted → StandsFor r.cache no_contents h →
    AreWanted (tables no_contents h) wanted
are_wanted r wanted h ascending reported stands = record { ascending = ascending; are = reported no_contents h stands }

-- no event is made
pub stands_quietly : (limits : Limits) (seed n : ℕ) (r u : Rounds) (wanted : List ℕ) → Stands limits seed n r → u.cache ≡ r.cache →
    is_sorted itself wanted ≡ true → IsReportedWanted r wanted
    → IsRound wanted r.generator None u.generator → r.generator.moment ≤ u.generator.moment → u.generator.moment ≤ r.generator.moment + 30 →
    u.generator.last ≤ r.generator.last + 1 → Stands limits seed (n + 1) u
stands_quietly limits seed n r u wanted before same ascending reported round later grows last_grows =
    let moment = before.moment in let last = before.last in let behind = before.later in let few = before.few in let small = before.small in
    let steps_same : core.steps u.cache ≡ core.steps r.cache = ap (λ s. core.steps s) same in
    let moment_same : last_moment u.cache ≡ last_moment r.cache = ap (λ s. last_moment s) same in
    let received_same : bytes_received u.cache ≡ bytes_received r.cache = ap (λ s. bytes_received s) same in
    record {
      history = before.history;
      gone = summaries.quietly n wanted r.generator u.generator before.history before.gone
          (are_wanted r wanted before.history ascending reported before.stands) round;
      stands = subst (λ s. StandsFor s no_contents before.history) (sym same) before.stands;
      limited = ap (λ s. limits_in s) same ∙ before.limited;
      moment = omega arith;
      last = omega arith;
      later = omega arith;
      few = omega arith;
      small = omega arith;
    }

short_size : (e : Event) → IsShort e → received_in e ≤ 512
short_size (event.Piece x bytes) short = short
short_size (event.Start c request) short = omega arith
short_size (event.Poll c want) short = omega arith
short_size (event.Head x response) short = omega arith
short_size (event.End x) short = omega arith
short_size (event.Fault x) short = omega arith
short_size (event.Cancel c) short = omega arith
short_size (event.Doom key) short = omega arith

-- an event is made, answered, and the answer is heard
pub stands_on : (limits : Limits) (seed n : ℕ) (r u : Rounds) (wanted : List ℕ) (made : Event) (acts : List Act) (s : State) (now : ℕ) →
    Stands limits seed n r → is_sorted itself wanted ≡ true → IsReportedWanted r wanted
    → IsRound wanted r.generator (Some made) s → IsShort made → r.generator.moment ≤ s.moment → s.moment ≤ r.generator.moment + 30 →
    s.last ≤ r.generator.last + 1
    → now ≡ s.moment → Answers r.cache u.cache now made acts → last_moment u.cache ≡ now → core.steps u.cache ≡ core.steps r.cache + 1 →
    bytes_received u.cache ≡ bytes_received r.cache + received_in made
    → u.generator ≡ state_after acts s → Stands limits seed (n + 1) u
stands_on limits seed n r u wanted made acts s now before ascending reported round short later grows last_grows now_is answers_now at steps_on received_on
    hears =
    let answers = subst (λ (m : ℕ). Answers r.cache u.cache m made acts) now_is answers_now in
    let after = answers.stands no_contents before.history before.stands in
    let owed : IsOwed limits (tables no_contents before.history) (entry_at s made acts) =
    subst (λ (l : Limits). IsOwed l (tables no_contents before.history) (entry_at s made acts)) (answers.limits ∙ before.limited) after.run.1 in
    let moment = before.moment in let last = before.last in let few = before.few in let small = before.small in
    let size = short_size made short in
    let counted = answers.counted in
    let moment_same : u.generator.moment ≡ s.moment = ap (λ (z : State). z.moment) hears in
    let last_same : u.generator.last ≡ s.last = ap (λ (z : State). z.last) hears in
    record {
      history = entry_at s made acts ∷ before.history;
      gone = subst (λ (z : State). HasGone limits seed (n + 1) z (entry_at s made acts ∷ before.history)) (sym hears)
          (summaries.on n wanted made acts r.generator s before.history before.gone (are_wanted r wanted before.history ascending reported before.stands)
          round owed (omega arith));
      stands = after;
      limited = answers.limits ∙ before.limited;
      moment = omega arith;
      last = omega arith;
      later = omega arith;
      few = omega arith;
      small = omega arith;
    }
