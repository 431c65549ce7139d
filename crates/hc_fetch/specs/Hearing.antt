-- What the parts of a fetch's step do: the cache's step, and what is taken of its acts.
use Rattle.std.specs.Prelude.{◌≡◌, ℕ, ◌+◌, ◌≤◌, List, [], ◌∷◌, ◌++◌, length, ◌||◌, true, Option, is_some}
use Rattle.std.specs.Option.{option_or}
use Rattle.hc_sparse.specs.Cells.{Cells, cells_with}
use Rattle.hc_event.specs.declared.act.Act.{Act}
use Rattle.hc_event.specs.declared.act.Act.TheVariants as act
use Rattle.hc_event.specs.declared.event.Event.{Event}
use Rattle.hc_model.specs.Entries.{History, no_contents}
use Rattle.hc_model.specs.Flaws.{failures_in}
use Rattle.hc_model.specs.Tables.{tables}
use Rattle.hc_core.specs.Steps.{StandsFor, limits_in, bytes_received, last_moment, steps}
use Rattle.hc_event.specs.Counting.{received_in}
use Rattle.hc_store.specs.declared.backend.Backend.{Ghosts}
use Rattle.hc_fetch.specs.declared.ended.FetchEnded.{FetchEnded}
use Rattle.hc_fetch.specs.declared.fetching.Fetching.{Fetching}
use Rattle.hc_fetch.specs.Ahead.{Fit, KeepsAll, Appends}
use Rattle.hc_fetch.specs.Bounds.{AreFew, NeverFails}
use Rattle.hc_fetch.specs.Deciding.{by_head, by_heads}
use Rattle.hc_fetch.specs.Fetches.{cache_history, started, parts_start, ends_in}
use Rattle.hc_fetch.specs.Firsts.{first_as}
use Rattle.hc_fetch.specs.Gathering.{gathered_in}
use Rattle.hc_fetch.specs.Heads.{Head, heads_in, first_in}

-- all but the cache is as it was
pub record KeepsRest {B : Type 0} {g : Ghosts B} (s u : Fetching B g) : Type 0 where
  pub plan : u.plan ≡ s.plan
  pub moment : u.moment ≡ s.moment
  pub count : u.count ≡ s.count
  pub first : u.first ≡ s.first
  pub ended : u.has_ended ≡ s.has_ended
  pub gathered : u.gathered ≡ s.gathered
  pub decided : u.decided ≡ s.decided
  pub limits : limits_in u.cache ≡ limits_in s.cache

-- THE CACHE'S STEPS

-- The cache answers the next event, or is to answer it, behind so many events.
abbrev pub IsBehind : {B : Type 0} {g : Ghosts B} → Fetching B g → History → Type 0
IsBehind s f = StandsFor s.cache no_contents (cache_history s.plan f) × (s.count ≡ length f + 1)

-- Where nothing happened yet, the first consumer started.
pub record Begins {B : Type 0} {g : Ghosts B} (s u : Fetching B g) (now : ℕ) : Type 0 where
  pub rest : KeepsRest s u
  pub stands : NeverFails g → (f : History) → IsBehind s f →
      StandsFor u.cache no_contents (started s.plan now (cache_history s.plan f))
  pub moment : last_moment u.cache ≤ now
  pub received : bytes_received u.cache ≡ bytes_received s.cache
  pub few : AreFew (steps u.cache + 1) s.count s.first

-- The cache answered an event by these acts; before the first one the first consumer started.
pub record Steps {B : Type 0} {g : Ghosts B} (s u : Fetching B g) (now : ℕ) (event : Event) (acts : List Act) : Type 0 where
  pub rest : KeepsRest s u
  pub stands : NeverFails g → (f : History) → IsBehind s f → StandsFor u.cache no_contents
      (record { now = now; event = event; acts = acts } ∷ started s.plan now (cache_history s.plan f))
  pub sound : NeverFails g → failures_in acts ≡ 0
  pub moment : last_moment u.cache ≡ now
  pub received : bytes_received u.cache ≡ bytes_received s.cache + received_in event
  pub few : AreFew (steps u.cache) s.count s.first

-- no more than so many consumers started, none of a higher number
pub record HasStarted (h : History) (n : ℕ) : Type 0 where
  pub last : (tables no_contents h).last_start ≤ n
  pub starts : length (tables no_contents h).starts ≤ n

-- the consumers of the other parts started, of so many bytes in all
pub record Starts {B : Type 0} {g : Ghosts B} (s u : Fetching B g) (now total count : ℕ) : Type 0 where
  pub rest : KeepsRest s u
  pub stands : NeverFails g → (h : History) → StandsFor s.cache no_contents h → HasStarted h 1 →
      StandsFor u.cache no_contents (parts_start s.plan now total count ++ h)
  pub moment : last_moment u.cache ≡ now
  pub received : bytes_received u.cache ≡ bytes_received s.cache
  pub few : steps u.cache ≤ steps s.cache + 999

-- WHAT IS TAKEN OF ACTS

-- all but what acts tell is as it was
pub record KeepsOthers {B : Type 0} {g : Ghosts B} (s u : Fetching B g) : Type 0 where
  pub plan : u.plan ≡ s.plan
  pub cache : u.cache ≡ s.cache
  pub moment : u.moment ≡ s.moment
  pub count : u.count ≡ s.count
  pub decided : u.decided ≡ s.decided

-- A head was seen: what it decides, and what it shows first.
pub record Sees {B : Type 0} {g : Ghosts B} (s u : Fetching B g) (head : Head) (result : Option FetchEnded) : Type 0 where
  pub others : KeepsOthers s u
  pub ended : u.has_ended ≡ s.has_ended
  pub gathered : u.gathered ≡ s.gathered
  pub decides : (first : Option Head) → s.first ≡ first_as first → result ≡ by_head s.plan first head
  pub first : (first : Option Head) → s.first ≡ first_as first →
      u.first ≡ first_as (option_or first (first_in (head ∷ [])))
  pub stays : is_some s.first ≡ true → u.first ≡ s.first

-- what is given among these acts is the same as what was gathered there, also among the acts before
abbrev pub AllFit : List Act → Cells → Type 0
AllFit [] g = Unit {0}
AllFit (act.Given c x at bytes ∷ acts) g = Fit g at bytes × AllFit acts (cells_with at x bytes g)
AllFit (_ ∷ acts) g = AllFit acts g

-- These acts were taken behind what was decided before: what they decide, show, give and end, and what of it can be written.
pub record Takes {B : Type 0} {g : Ghosts B} (s u : Fetching B g) (acts : List Act) (before after : List ℕ) (was result : Option FetchEnded) : Type 0 where
  pub others : KeepsOthers s u
  pub decides : (first : Option Head) → s.first ≡ first_as first →
      result ≡ option_or was (by_heads s.plan first (heads_in acts))
  pub first : (first : Option Head) → s.first ≡ first_as first →
      u.first ≡ first_as (option_or first (first_in (heads_in acts)))
  pub stays : is_some s.first ≡ true → u.first ≡ s.first
  pub ended : u.has_ended ≡ (s.has_ended || ends_in 1 acts)
  pub keeps : (g : Cells) → KeepsAll s.gathered.ahead s.gathered.written g → AllFit acts g →
      KeepsAll u.gathered.ahead u.gathered.written (gathered_in acts g)
  pub text : (g : Cells) → KeepsAll s.gathered.ahead s.gathered.written g → AllFit acts g →
      Appends (gathered_in acts g) s.gathered.written u.gathered.written before after
