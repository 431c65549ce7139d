-- A front stands for a front history, and its step for one event more.
use Rattle.std.specs.Prelude.{◌≡◌, ℕ, ◌+◌, ◌≤◌, List, ◌∷◌, ◌++◌, Bool, false, ◌||◌}
use Rattle.hc_store.specs.declared.backend.Backend.{Ghosts}
use Rattle.hc_event.specs.Counting.{received_in}
use Rattle.hc_event.specs.declared.act.Act.{Act}
use Rattle.hc_event.specs.declared.event.Event.{Event}
use Rattle.hc_rules.specs.declared.room.Limits.{Limits}
use Rattle.hc_model.specs.Entries.{Contents}
use Rattle.hc_model.specs.Flaws.{failures_in}
use Rattle.hc_core.specs.Steps as core
use Rattle.hc_core.specs.Steps.{StandsFor}
use Rattle.hc_front.specs.declared.front.Front.{Front}
use Rattle.hc_front.specs.Watching.{watched_in}
use Rattle.hc_front.specs.Fronts.{reported}
use Rattle.hc_front.specs.FrontHistories.{FrontHistory, fronted, core_of}

-- WHAT A FRONT HAS

abbrev pub last_moment : {B : Type 0} {g : Ghosts B} → Front B g → ℕ
last_moment s = core.last_moment s.cache

abbrev pub steps : {B : Type 0} {g : Ghosts B} → Front B g → ℕ
steps s = core.steps s.cache

abbrev pub bytes_received : {B : Type 0} {g : Ghosts B} → Front B g → ℕ
bytes_received s = core.bytes_received s.cache

abbrev pub limits_in : {B : Type 0} {g : Ghosts B} → Front B g → Limits
limits_in s = core.limits_in s.cache

-- how often its store has failed
abbrev pub faults_in : {B : Type 0} {g : Ghosts B} → Front B g → ℕ
faults_in s = core.faults_in s.cache

abbrev pub has_failed : {B : Type 0} {g : Ghosts B} → Front B g → Bool
has_failed s = s.failed || core.has_failed s.cache

-- WHAT IT STANDS FOR

-- its cache stands for the history of the cache, and it keeps what is to be kept of each consumer
pub record FrontStands {B : Type 0} {g : Ghosts B} (s : Front B g) (contents : Contents) (f : FrontHistory) : Type 0 where
  pub cache : StandsFor s.cache contents (core_of contents f)
  pub watched : (c : ℕ) → watched_in s.watches c ≡ (fronted contents f).watched c

-- The event was answered by these acts, as the front tells how its cache answered, and the front stands for one event
-- more, by one step. They tell no failure of the store but one that it counted.
pub record FrontAnswers {B : Type 0} {g : Ghosts B} (s u : Front B g) (now : ℕ) (event : Event) (acts : List Act) : Type 0 where
  pub heard : List Act
  pub limits : limits_in u ≡ limits_in s
  pub reported_are : (contents : Contents) (f : FrontHistory) → FrontStands s contents f →
      acts ≡ reported (fronted contents f) event heard
  pub stands : (contents : Contents) (f : FrontHistory) → FrontStands s contents f →
      FrontStands u contents (record { now = now; event = event; acts = heard } ∷ f)
  pub counted : faults_in s + failures_in acts ≤ faults_in u
  pub number : steps u ≡ steps s + 1

-- The event was answered by the acts that were appended.
pub record FrontSteps {B : Type 0} {g : Ghosts B} (s u : Front B g) (before out : List Act) (now : ℕ) (event : Event) : Type 0 where
  pub acts : List Act
  pub reported : out ≡ before ++ acts
  pub answered : FrontAnswers s u now event acts

-- The same, with what is counted: by a step that wasn't refused memory.
pub record HasStepped {B : Type 0} {g : Ghosts B} (s u : Front B g) (before out : List Act) (now : ℕ) (event : Event) : Type 0 where
  pub steps : FrontSteps s u before out now event
  pub moment : last_moment u ≡ now
  pub received : bytes_received u ≡ bytes_received s + received_in event
  pub ready : core.has_failed u.cache ≡ false
