-- When a fetch stands for the events of its input, and what its step tells.
use Rattle.std.specs.Prelude.{◌≡◌, ℕ, ◌+◌, ◌≤◌, List, [], ◌∷◌, ◌++◌, length, true, false, Option, Some, None}
use Rattle.hc_event.specs.declared.act.Act.{Act}
use Rattle.hc_event.specs.declared.event.Event.{Event}
use Rattle.hc_event.specs.Counting.{received_in}
use Rattle.hc_model.specs.Entries.{Entry, History, no_contents}
use Rattle.hc_model.specs.Tables.{tables}
use Rattle.hc_core.specs.Steps.{StandsFor, limits_in, bytes_received, last_moment, steps}
use Rattle.hc_store.specs.declared.backend.Backend.{Ghosts}
use Rattle.hc_fetch.specs.declared.ended.FetchEnded.{FetchEnded}
use Rattle.hc_fetch.specs.declared.ended.FetchEnded.TheVariants as ended
use Rattle.hc_fetch.specs.declared.fetching.Fetching.{Fetching}
use Rattle.hc_fetch.specs.Ahead.{KeepsAll}
use Rattle.hc_fetch.specs.Bounds.{AreFew, NeverFails}
use Rattle.hc_fetch.specs.Deciding.{is_foreign, has_foreign, decided_by, is_undecided}
use Rattle.hc_fetch.specs.Endings.{failures}
use Rattle.hc_fetch.specs.Fetches.{cache_history, has_ended}
use Rattle.hc_fetch.specs.Firsts.{first_as}
use Rattle.hc_fetch.specs.Gathering.{gathered, written_of}
use Rattle.hc_fetch.specs.Heads.{first_head}

-- WHAT IT STANDS FOR

-- what it heard is what these events told, whether or not the last one decided, over a store that never fails
pub record HasHeard {B : Type 0} {g : Ghosts B} (s : Fetching B g) (f : History) : Type 0 where
  pub never : NeverFails g
  pub stands : StandsFor s.cache no_contents (cache_history s.plan f)
  pub sound : failures f ≡ 0
  pub own : has_foreign f ≡ false
  pub received : (tables no_contents (cache_history s.plan f)).received ≤ bytes_received s.cache
  pub keeps : KeepsAll s.gathered.ahead s.gathered.written (gathered f)
  pub written : s.gathered.written ≡ length (written_of f)

-- and none of them decided
pub record HasHeardOpen {B : Type 0} {g : Ghosts B} (s : Fetching B g) (f : History) : Type 0 where
  pub heard : HasHeard s f
  pub undecided : is_undecided s.plan f ≡ true
  pub first : s.first ≡ first_as (first_head f)
  pub ended : s.has_ended ≡ has_ended 1 f

-- it is open behind these, and counted them
pub record StandsForFetch {B : Type 0} {g : Ghosts B} (s : Fetching B g) (f : History) : Type 0 where
  pub so_far : HasHeardOpen s f
  pub count : s.count ≡ length f
  pub is_open : s.decided ≡ None

-- ONE EVENT

-- Behind events that it heard, one more was answered, which decides so, and this text is written.
pub record HearsMore {B : Type 0} {g : Ghosts B} (s u : Fetching B g) (e : Entry) (f : History) (text : List ℕ) (result : Option FetchEnded) : Type 0 where
  pub heard : HasHeard u (e ∷ f)
  pub decides : result ≡ decided_by s.plan f e.acts
  pub first : u.first ≡ first_as (first_head (e ∷ f))
  pub ended : u.has_ended ≡ has_ended 1 (e ∷ f)
  pub writes : written_of f ++ text ≡ written_of (e ∷ f)

-- Acts answered the event, which was counted before.
pub record IsAnswered {B : Type 0} {g : Ghosts B} (s u : Fetching B g) (now : ℕ) (event : Event) (text : List ℕ) (decides : Option FetchEnded) : Type 0 where
  pub acts : List Act
  pub plan : u.plan ≡ s.plan
  pub moment : u.moment ≡ s.moment
  pub count : u.count ≡ s.count
  pub limits : limits_in u.cache ≡ limits_in s.cache
  pub reached : last_moment u.cache ≡ now
  pub received : bytes_received u.cache ≡ bytes_received s.cache + received_in event
  pub few : AreFew (steps u.cache) u.count u.first
  pub hears : (f : History) → HasHeardOpen s f → s.count ≡ length f + 1 →
      HearsMore s u (record { now = now; event = event; acts = acts }) f text decides

-- Behind events for which it stood, one more was answered: it decided, or the fetch stands for that too.
pub record Hears {B : Type 0} {g : Ghosts B} (s u : Fetching B g) (e : Entry) (f : History) (text : List ℕ) : Type 0 where
  pub heard : HasHeard u (e ∷ f)
  pub decided : u.decided ≡ decided_by s.plan f e.acts
  pub goes_on : u.decided ≡ None → StandsForFetch u (e ∷ f)
  pub writes : written_of f ++ text ≡ written_of (e ∷ f)

-- Acts answered the event, behind whatever events the fetch stood for.
pub record Answers {B : Type 0} {g : Ghosts B} (s : Fetching B g) (now : ℕ) (event : Event) (text : List ℕ) (u : Fetching B g) : Type 0 where
  pub acts : List Act
  pub plan : u.plan ≡ s.plan
  pub limits : limits_in u.cache ≡ limits_in s.cache
  pub hears : (f : History) → StandsForFetch s f →
      Hears s u (record { now = now; event = event; acts = acts }) f text

-- A foreign event decides and isn't stepped; each other one is answered.
pub data Reports {B : Type 0} {g : Ghosts B} (s : Fetching B g) (number now : ℕ) (event : Event) (text : List ℕ) (u : Fetching B g) : Type 0 where
  foreign : is_foreign event ≡ true → text ≡ [] → u.decided ≡ Some (ended.Foreign (s.count + 1)) →
      Reports s number now event text u
  answered : is_foreign event ≡ false → Answers s now event text u → Reports s number now event text u
