-- A cache represents a history, and its step for one entry more.
use Rattle.std.specs.Prelude.{◌≡◌, ℕ, ◌+◌, ◌≤◌, List, [], ◌∷◌, ◌++◌, Bool, true}
use Rattle.std.specs.HashMap.{hash_map_len}
use Rattle.hc_store.specs.declared.backend.Backend.{Ghosts}
use Rattle.hc_event.specs.declared.event.Event.{Event}
use Rattle.hc_event.specs.declared.act.Act.{Act}
use Rattle.hc_stored.specs.Entries.{store_of}
use Rattle.hc_model.specs.Beginnings.{may_begin}
use Rattle.hc_model.specs.Contents.{contents_of}
use Rattle.hc_model.specs.Denials.{live}
use Rattle.hc_model.specs.Entries.{History, Contents}
use Rattle.hc_rules.specs.declared.room.Limits.{Limits}
use Rattle.hc_model.specs.Flaws.{failures_in}
use Rattle.hc_model.specs.Chains.{ChainsEnd}
use Rattle.hc_model.specs.Laws.{DeliversOnce, HasOneTurn, IsBehindDooms, IsBoundBehindDooms, IsSmallPiece, IsTruthful, StoresGrow, count_evicted}
use Rattle.hc_model.specs.Live.{FewOpen}
use Rattle.hc_model.specs.Numbers.{AreShort}
use Rattle.hc_model.specs.Reads.{GivesStored}
use Rattle.hc_model.specs.Runs.{IsRun}
use Rattle.hc_model.specs.Tables.{tables}
use Rattle.hc_state.specs.Stands.{RowsStand}
use Rattle.hc_core.specs.declared.cache.Cache.{Cache}

-- WHAT A CACHE HAS

abbrev pub has_failed : {B : Type 0} {g : Ghosts B} → Cache B g → Bool
has_failed s = s.failed

abbrev pub last_moment : {B : Type 0} {g : Ghosts B} → Cache B g → ℕ
last_moment s = s.last_moment

abbrev pub steps : {B : Type 0} {g : Ghosts B} → Cache B g → ℕ
steps s = s.steps

abbrev pub bytes_received : {B : Type 0} {g : Ghosts B} → Cache B g → ℕ
bytes_received s = s.received

-- how many consumers are live
abbrev pub live_in : {B : Type 0} {g : Ghosts B} → Cache B g → ℕ
live_in s = hash_map_len s.rows.consumers

abbrev pub store_in : {B : Type 0} {g : Ghosts B} → Cache B g → B
store_in s = store_of s.rows.entries

abbrev pub limits_in : {B : Type 0} {g : Ghosts B} → Cache B g → Limits
limits_in {B} {g} s = g.limits (store_in s)

-- how often its store has failed
abbrev pub faults_in : {B : Type 0} {g : Ghosts B} → Cache B g → ℕ
faults_in {B} {g} s = g.faults (store_in s)

-- WHAT IT STANDS FOR

pub record StandsFor {B : Type 0} {g : Ghosts B} (s : Cache B g) (contents : Contents) (h : History) : Type 0 where
  pub begins : may_begin (limits_in s) contents ≡ true
  pub short : AreShort contents
  pub run : IsRun (limits_in s) contents h
  pub moment : s.last_moment ≡ (tables contents h).moment
  pub rows : RowsStand (limits_in s) s.rows (tables contents h)

-- The cache represents each run that leaves these contents, with nobody live: whatever such a cache began with, whatever
-- happened to it, and however many bytes came.
abbrev pub ServesAll : {B : Type 0} {g : Ghosts B} → Cache B g → Contents → Type 0
ServesAll s contents =
    (before : Contents) (h : History) → may_begin (limits_in s) before ≡ true → AreShort before →
    IsRun (limits_in s) before h → live (tables before h) ≡ 0 →
    contents_of (tables before h) ≡ contents → StandsFor s before h

-- The acts are those of one entry more, and the cache represents that, by one step. They tell no failure
-- of the store but one that it counted.
pub record Answers {B : Type 0} {g : Ghosts B} (s u : Cache B g) (now : ℕ) (event : Event) (acts : List Act) : Type 0 where
  pub limits : limits_in u ≡ limits_in s
  pub stands : (contents : Contents) (h : History) → StandsFor s contents h →
      StandsFor u contents (record { now = now; event = event; acts = acts } ∷ h)
  pub counted : faults_in s + failures_in acts ≤ faults_in u
  pub number : steps u ≡ steps s + 1

-- The event was answered by the acts that were appended.
pub record Steps {B : Type 0} {g : Ghosts B} (s u : Cache B g) (before out : List Act) (now : ℕ) (event : Event) : Type 0 where
  pub acts : List Act
  pub reported : out ≡ before ++ acts
  pub answered : Answers s u now event acts

-- WHAT IS PROMISED OVER ALL INTERLEAVINGS

-- the last entry evicted two representations at most, where a piece has at most 65,536 bytes
abbrev pub HasEvictedFew : History → Type 0
HasEvictedFew [] = Unit {0}
HasEvictedFew (e ∷ h) = IsSmallPiece e.event → count_evicted e.acts ≤ 2

-- of every history that the cache represents: each position is delivered once, of each key one exchange at most has
-- the turn, a chain of waits ends after three links, what is used came after the last doom of its key, and what is
-- stored is what it is called. No more exchanges are open than consumers are live. What a consumer became bound to by
-- the last entry came after that doom too. By that entry nothing that was stored went but what few evictions took, and
-- who polled with its next byte stored was given some.
pub record Keeps (contents : Contents) (h : History) : Type 0 where
  pub once : DeliversOnce (tables contents h)
  pub turn : HasOneTurn (tables contents h)
  pub waits : ChainsEnd (tables contents h)
  pub barrier : IsBehindDooms contents h
  pub truthful : IsTruthful (tables contents h)
  pub few_open : FewOpen (tables contents h)
  pub binds : IsBoundBehindDooms contents h
  pub stored : StoresGrow contents h
  pub gives : GivesStored contents h
  pub evicted : HasEvictedFew h

abbrev pub KeepsPromises : {B : Type 0} {g : Ghosts B} → Cache B g → Type 0
KeepsPromises s = (contents : Contents) (h : History) → StandsFor s contents h → Keeps contents h
