-- What holds over all interleavings of events.
use Rattle.std.specs.Prelude.{◌≡◌, ◌≢◌, ◌⊎◌, ◌<◌, ◌≤◌, ℕ, ◌+◌, ◌-◌, List, [], ◌∷◌, length, true, false, Option, Some, None, is_some, if◌then◌else◌, not, ◌&&◌, ◌==◌, find, ◌^◌}
use Rattle.hc_sparse.specs.Cells.{Cell, AreAbsent, Covers, size_below}
use Rattle.hc_record.specs.declared.kind.Kind.TheVariants as kind
use Rattle.hc_event.specs.Filters.{is_denied}
use Rattle.hc_event.specs.declared.event.Event.{Event}
use Rattle.hc_event.specs.declared.event.Event.TheVariants as event
use Rattle.hc_event.specs.declared.act.Act.{Act}
use Rattle.hc_event.specs.declared.act.Act.TheVariants as act
use Rattle.hc_event.specs.declared.act.Need.TheVariants as need
use Rattle.hc_event.specs.declared.act.Wait.TheVariants as wait
use Rattle.hc_rules.specs.declared.need.Route.{Route}
use Rattle.hc_rules.specs.declared.need.Route.TheVariants as route
use Rattle.hc_rules.specs.declared.room.Limits.{Limits}
use Rattle.hc_rules.specs.Needs.{route_of}
use Rattle.hc_rules.specs.Requests.{is_bypassing, is_disabled, is_only}
use Rattle.hc_fresh.specs.Vary.{matches_vary}
use Rattle.hc_event.specs.declared.place.BoundBy.{BoundBy}
use Rattle.hc_event.specs.declared.place.BoundBy.TheVariants as by
use Rattle.hc_event.specs.declared.place.Place.TheVariants as place
use Rattle.hc_model.specs.Entries.{Entry, History, Content, Contents, entry_without_acts}
use Rattle.hc_model.specs.Flaws.{Flaw}
use Rattle.hc_model.specs.Rows.{Tables, Exchange, Representation, Consumer}
use Rattle.hc_model.specs.Exchanges.{front, family, is_headless}
use Rattle.hc_model.specs.Currents.{current}
use Rattle.hc_model.specs.Cases.{was_shown}
use Rattle.hc_model.specs.Reading.{is_written, bound, own_open}
use Rattle.hc_model.specs.Writers.{came_alone, loses_group, survivor}
use Rattle.hc_model.specs.Dooms.{doomed_key_of, is_key}
use Rattle.hc_model.specs.Lines.{turn}
use Rattle.hc_model.specs.Tables.{tables, first_tables, after_accepted, after_denied}
use Rattle.hc_model.specs.Denials.{denial}
use Rattle.hc_model.specs.Moves.{Move}
use Rattle.hc_model.specs.Moves as move
use Rattle.hc_model.specs.Polls.{move_of}
use Rattle.hc_model.specs.Weights.{weights}
use Rattle.hc_model.specs.Answers.{accepted_acts}
use Rattle.hc_model.specs.Kinds.{kind_for}
use Rattle.hc_model.specs.Contents.{contents_of}
use Rattle.hc_model.specs.Beginnings.{may_begin}
use Rattle.hc_model.specs.Runs.{IsRun, may_stand, IsOwed}
use Rattle.hc_model.specs.Reads.{Delivers}
use Rattle.hc_model.specs.Sound.{Sound, IsBound, IsAbout, IsGrowing, IsServed, IsHad, IsAlone, IsToBeShown, Waits, OneAbout, OneCurrent, IsStored, IsListed, IsNamed}
use Rattle.hc_model.specs.Owners.{Owners}
use Rattle.hc_model.specs.Measures.{Measures}
use Rattle.hc_model.specs.StoredHeads.{HeadsAreWithinLimits}
use Rattle.hc_model.specs.WithinLimits.{StartsHaveTargets}
use Rattle.hc_model.specs.Keys.{entry_of, IsOfOneKey, KeepsOthers}

-- a fact of the tables of every run from contents by which a store may begin
abbrev pub OfRuns : (Tables → Type 0) → Type 0
OfRuns P =
    (limits : Limits) (contents : Contents) (h : History) → may_begin limits contents ≡ true →
    IsRun limits contents h → P (tables contents h)

-- DELIVERED ONCE

-- Where a piece is accepted, none of its positions has come yet.
abbrev pub DeliversOnce : Tables → Type 0
DeliversOnce t =
    (x : ℕ) (bytes : List ℕ) (w : Exchange) (v : Representation) →
    denial t (event.Piece x bytes) ≡ None → t.exchange x ≡ Some w →
    t.representation (family x w) ≡ Some v → AreAbsent v.body (front w) (front w + length bytes)

-- what a body has stays
abbrev pub Grows : Tables → Tables → Type 0
Grows old new =
    (r at x : ℕ) (bytes : List ℕ) → Delivers old r at x bytes → Delivers new r at x bytes

abbrev pub BodiesGrow : Limits → Contents → Type 0
BodiesGrow limits contents =
    may_begin limits contents ≡ true → (h : History) (e : Entry) → IsRun limits contents (e ∷ h) →
    Grows (tables contents h) (tables contents (e ∷ h))

-- the store has this byte of r at p
pub record HasStored (t : Tables) (r p : ℕ) (cell : Cell) : Type 0 where
  pub v : Representation
  pub row : t.representation r ≡ Some v
  pub stored : v.stored p ≡ Some cell

-- what the tables tell of a representation stays (what the store gave up too: that has no cell of a store here)
abbrev pub GrowsStored : Tables → Tables → Type 0
GrowsStored old new = (r p : ℕ) (cell : Cell) → HasStored old r p cell → HasStored new r p cell

-- at the last entry
abbrev pub StoresGrow : Contents → History → Type 0
StoresGrow contents [] = Unit {0}
StoresGrow contents (e ∷ h) = GrowsStored (tables contents h) (tables contents (e ∷ h))

-- ONE TURN

-- an exchange of the turn waits for its head
pub record IsInTurn (t : Tables) (x : ℕ) (w : Exchange) : Type 0 where
  pub row : t.exchange x ≡ Some w
  pub headless : is_headless (Some w) ≡ true
  pub by_turn : route_of w.need ≡ route.Turn

-- Of a key at most one exchange of the turn waits for its head, and its consumer has the turn.
pub record HasOneTurn (t : Tables) : Type 0 where
  pub holder : (x : ℕ) (w : Exchange) → IsInTurn t x w → turn t w.request.key ≡ Some w.c
  pub one : (x y : ℕ) (w z : Exchange) → IsInTurn t x w → IsInTurn t y z →
      w.request.key ≡ z.request.key → x ≡ y

-- NO CIRCULAR WAIT

-- it waits for no turn and for nobody who reads
pub record WaitsForNobody (t : Tables) (now want c : ℕ) (k : Consumer) : Type 0 where
  pub turn : (d : ℕ) → move_of t now want c k ≢ move.Waits (wait.Turn d)
  pub busy : (d : ℕ) → move_of t now want c k ≢ move.Waits (wait.Busy d)

-- Who has the turn doesn't wait for it; who reads waits for no other consumer; whom a busy one
-- waits for is bound; and
-- what is current is read by somebody while its length isn't known or it is written by several.
pub record WaitsEnd (t : Tables) : Type 0 where
  pub turn_goes : (now c want d : ℕ) (k : Consumer) → t.consumer c ≡ Some k →
      turn t k.request.key ≡ Some c → move_of t now want c k ≢ move.Waits (wait.Turn d)
  pub reader_goes : (now c want r : ℕ) (k : Consumer) → IsBound t r c k →
      WaitsForNobody t now want c k
  pub direct_goes : (now c want x : ℕ) (k : Consumer) → t.consumer c ≡ Some k →
      k.place ≡ place.Direct x → WaitsForNobody t now want c k
  pub busy_reads : (now c want d : ℕ) (k : Consumer) → t.consumer c ≡ Some k →
      move_of t now want c k ≡ move.Waits (wait.Busy d) → (r : ℕ) × (u : Consumer) × IsBound t r d u
  pub is_read : (key : List ℕ) (r : ℕ) (v : Representation) → current t key ≡ Some r →
      t.representation r ≡ Some v → (v.head.total ≡ None) ⊎ (is_written t v ≡ true) → bound t r ≢ []

-- THE DOOM BARRIER

abbrev pub barrier_at : Tables → Entry → ℕ → List ℕ → ℕ
barrier_at t e before key =
    if not (is_denied e.acts) && is_key (doomed_key_of t e) key then t.opened else before

-- the last exchange that was opened before the last doom of a key; none of what a store begins
-- with is behind a doom
abbrev pub barrier : Contents → List ℕ → History → ℕ
barrier contents key [] = 0
barrier contents key (e ∷ h) = barrier_at (tables contents h) e (barrier contents key h) key

-- What isn't gone was opened after the last doom of its key.
abbrev pub IsBehindDooms : Contents → History → Type 0
IsBehindDooms contents h =
    (r : ℕ) (v : Representation) → (tables contents h).representation r ≡ Some v →
    v.is_gone ≡ false → barrier contents v.key h < r

-- c is bound to r now, and wasn't before
pub record IsNewlyBound (before now : Tables) (r c : ℕ) : Type 0 where
  pub k : Consumer
  pub bound : IsBound now r c k
  pub unbound : (old : Consumer) → IsBound before r c old → ⊥

-- What a consumer became bound to by the last entry was opened after the last doom of its key.
abbrev pub IsBoundBehindDooms : Contents → History → Type 0
IsBoundBehindDooms contents [] = Unit {0}
IsBoundBehindDooms contents (e ∷ h) =
    (r c : ℕ) (v : Representation) →
    IsNewlyBound (tables contents h) (tables contents (e ∷ h)) r c →
    (tables contents (e ∷ h)).representation r ≡ Some v → barrier contents v.key (e ∷ h) < r

-- TRUTHFUL RECORDS

abbrev pub IsWhole : Representation → Type 0
IsWhole v = (total : ℕ) × (v.head.total ≡ Some total) × Covers v.stored 0 total

abbrev pub IsPrefix : Representation → Type 0
IsPrefix v =
    (n : ℕ) × (0 < n) × Covers v.stored 0 n × ((p : ℕ) → n ≤ p → v.stored p ≡ None)

-- What is Whole has every position below its total, and what is Truncated some first ones and
-- nothing else.
pub record IsTruthful (t : Tables) : Type 0 where
  pub whole : (key : List ℕ) (r : ℕ) (v : Representation) → current t key ≡ Some r →
      t.representation r ≡ Some v → kind_for t key ≡ Some kind.Whole → IsWhole v
  pub truncated : (key : List ℕ) (r : ℕ) (v : Representation) → current t key ≡ Some r →
      t.representation r ≡ Some v → kind_for t key ≡ Some kind.Truncated → IsPrefix v

-- ROOM

abbrev pub count_evicted : List Act → ℕ
count_evicted [] = 0
count_evicted (act.Evicted r ∷ acts) = 1 + count_evicted acts
count_evicted (_ ∷ acts) = count_evicted acts

-- a piece has at most 65,536 bytes
abbrev pub IsSmallPiece : Event → Type 0
IsSmallPiece (event.Piece x bytes) = length bytes ≤ 65536
IsSmallPiece _ = Unit {0}

-- An entry evicts at most two, of a store that began within its limit.
abbrev pub EvictsFew : Limits → Contents → Type 0
EvictsFew limits contents =
    may_begin limits contents ≡ true → (h : History) (e : Entry) → IsRun limits contents (e ∷ h) →
    IsSmallPiece e.event → count_evicted e.acts ≤ 2

-- All that is stored stays within the limit.
abbrev pub FitsLimit : Limits → Contents → Type 0
FitsLimit limits contents =
    may_begin limits contents ≡ true → (h : History) (e : Entry) → IsRun limits contents (e ∷ h) →
    weights (tables contents h) e ≤ limits.max_total

-- CONTENTS

-- the moment and the numbers are within those with which a store may begin
pub record IsInLimits (t : Tables) : Type 0 where
  pub moment : t.moment < 2 ^ 62
  pub consumers : t.last_start < 2 ^ 62
  pub exchanges : t.opened < 2 ^ 60

-- A store may begin with what a run leaves, whoever is live, but for the limits of numbers, and where
-- no head that came had more fields than one from outside may have, and who started asked for a target.
abbrev pub LeavesGood : Limits → Contents → Type 0
LeavesGood limits contents =
    may_begin limits contents ≡ true → (h : History) → IsRun limits contents h →
    HeadsAreWithinLimits h → StartsHaveTargets h → IsInLimits (tables contents h) →
    may_begin limits (contents_of (tables contents h)) ≡ true

abbrev pub LeavesInRuns : Type 0
LeavesInRuns = (limits : Limits) (contents : Contents) → LeavesGood limits contents

-- a fact of limits and tables, in every run
abbrev pub OfRunsIn : (Limits → Tables → Type 0) → Type 0
OfRunsIn P =
    (limits : Limits) (contents : Contents) (h : History) → may_begin limits contents ≡ true →
    IsRun limits contents h → P limits (tables contents h)

-- WHAT MAKES THESE INDUCTIVE

-- who has passed was let through once: what it waits for is current, and its request is one that
-- may read it
pub record HasPassed (t : Tables) (r : ℕ) (k : Consumer) : Type 0 where
  pub current_is : current t k.request.key ≡ Some r
  pub plain : is_bypassing k.request ≡ false
  pub cached : is_disabled k.request ≡ false
  pub asks : is_only k.request ≡ false
  pub v : Representation
  pub row : t.representation r ≡ Some v
  pub agrees : matches_vary v.head k.request ≡ true

-- who has a headless exchange x as its own, by what that may become: it is direct, has the turn,
-- waits with a first hole, or reads on behind a later one
pub data StandsFor (x : ℕ) (k : Consumer) : Route → Type 0 where
  direct : k.place ≡ place.Direct x → StandsFor x k route.Direct
  has_turn : k.place ≡ place.Turn x → k.shown ≡ false → StandsFor x k route.Turn
  first : (r lo : ℕ) (hi : Option ℕ) → k.place ≡ place.Bound r lo hi (by.FirstHole x) →
      k.shown ≡ false → StandsFor x k route.Hole
  later : (r lo : ℕ) (hi : Option ℕ) (by : BoundBy) → k.place ≡ place.Bound r lo hi by →
      k.shown ≡ true → StandsFor x k route.Hole

-- a headless exchange is its consumer's own
pub record IsAwaited (t : Tables) (x : ℕ) (w : Exchange) : Type 0 where
  pub k : Consumer
  pub row : t.consumer w.c ≡ Some k
  pub own : k.own ≡ Some x
  pub stands : StandsFor x k (route_of w.need)

-- for one turn, and that waits end
pub record Turns (t : Tables) : Type 0 where
  pub awaited : (x : ℕ) (w : Exchange) → t.exchange x ≡ Some w → is_headless (Some w) ≡ true →
      IsAwaited t x w
  pub one_holder : (c d x y : ℕ) (k u : Consumer) → t.consumer c ≡ Some k → t.consumer d ≡ Some u →
      k.place ≡ place.Turn x → u.place ≡ place.Turn y → k.request.key ≡ u.request.key → c ≡ d
  pub queued : (c x : ℕ) (k : Consumer) → t.consumer c ≡ Some k → k.place ≡ place.Turn x →
      (is_disabled k.request ≡ false) × (is_only k.request ≡ false)
  pub passed : (c r : ℕ) (kept : Option ℕ) (k : Consumer) → t.consumer c ≡ Some k →
      k.place ≡ place.Passed r kept → HasPassed t r k
  pub first_hole : (c r lo y : ℕ) (hi : Option ℕ) (k : Consumer) → t.consumer c ≡ Some k →
      k.place ≡ place.Bound r lo hi (by.FirstHole y) → k.shown ≡ true →
      (w : Exchange) × (t.exchange y ≡ Some w) × (is_headless (Some w) ≡ false)
  pub validates : (x r : ℕ) (w : Exchange) (k : Consumer) (v : Representation) →
      t.exchange x ≡ Some w → is_headless (Some w) ≡ true → w.need ≡ need.Validate →
      w.aim ≡ Some r → t.consumer w.c ≡ Some k → t.representation r ≡ Some v →
      (is_bypassing k.request ≡ false) × (matches_vary v.head k.request ≡ true)

-- for the doom barrier: what may still found was opened after the last doom, which came after
-- openings
pub record IsBarred (contents : Contents) (h : History) : Type 0 where
  pub within : (key : List ℕ) → barrier contents key h ≤ (tables contents h).opened
  pub founded : IsBehindDooms contents h
  pub awaited : (x : ℕ) (w : Exchange) → (tables contents h).exchange x ≡ Some w →
      is_headless (Some w) ≡ true → route_of w.need ≢ route.Direct →
      was_shown ((tables contents h).consumer w.c) ≡ false → barrier contents w.request.key h < x

-- DELIVERIES

-- What is sound delivers once.
abbrev pub SoundDeliversOnce : Type 0
SoundDeliversOnce = (t : Tables) → Sound t → DeliversOnce t

-- what is still to come is absent, and one open exchange at most is about a representation
pub record KeepsDeliveries (u : Tables) : Type 0 where
  pub waits : Waits u
  pub one_about : OneAbout u

-- after each accepted event, whatever the store loses
abbrev pub DeliveriesAreKept : Type 0
DeliveriesAreKept =
    (limits : Limits) (t : Tables) (now : ℕ) (flaw : Flaw) → Sound t → (event : Event) →
    denial t event ≡ None →
    KeepsDeliveries (after_accepted t (entry_of limits t now event flaw))

-- what has come of a body stays, at each accepted event
abbrev pub KeepsBodies : Tables → Tables → Type 0
KeepsBodies t u =
    (r p : ℕ) (cell : Cell) (v w : Representation) → t.representation r ≡ Some v →
    u.representation r ≡ Some w → v.body p ≡ Some cell → w.body p ≡ Some cell

abbrev pub BodiesAreKept : Type 0
BodiesAreKept =
    (limits : Limits) (t : Tables) (now : ℕ) (flaw : Flaw) → Sound t → (event : Event) →
    denial t event ≡ None → KeepsBodies t (after_accepted t (entry_of limits t now event flaw))

-- of each key one representation at most isn't gone, after each accepted event
abbrev pub OneCurrentIsKept : Type 0
OneCurrentIsKept =
    (limits : Limits) (t : Tables) (now : ℕ) (flaw : Flaw) → Sound t → (event : Event) →
    OneCurrent (after_accepted t (entry_of limits t now event flaw))

-- all that came is stored until it is lost, after each accepted event
abbrev pub StoresAreKept : Type 0
StoresAreKept =
    (limits : Limits) (t : Tables) (now : ℕ) (flaw : Flaw) → Sound t → (event : Event) →
    denial t event ≡ None → (r : ℕ) (v : Representation) →
    (after_accepted t (entry_of limits t now event flaw)).representation r ≡ Some v → IsStored v

-- each row has a number that was given out, after each accepted event
abbrev pub NumbersAreKept : Type 0
NumbersAreKept =
    (limits : Limits) (t : Tables) (now : ℕ) (flaw : Flaw) → Sound t → (event : Event) →
    denial t event ≡ None → IsListed (after_accepted t (entry_of limits t now event flaw))

-- what exchanges name is there, after each accepted event
abbrev pub NamesAreKept : Type 0
NamesAreKept =
    (limits : Limits) (t : Tables) (now : ℕ) (flaw : Flaw) → Sound t → (event : Event) →
    denial t event ≡ None → IsNamed (after_accepted t (entry_of limits t now event flaw))

-- What is called whole is whole.
abbrev pub WholeIsWhole : Type 0
WholeIsWhole =
    (t : Tables) (key : List ℕ) (r : ℕ) (v : Representation) → current t key ≡ Some r →
    t.representation r ≡ Some v → kind_for t key ≡ Some kind.Whole → IsWhole v

-- the item with a number
abbrev pub item_of : Contents → ℕ → Option Content
item_of contents r = find (λ (item : Content). item.r == r) contents.items

-- Contents whose numbers were given out, and each of which has a key of its own, are sound.
pub record IsStart (contents : Contents) : Type 0 where
  pub numbered : (r : ℕ) (item : Content) → item_of contents r ≡ Some item →
      r ≤ contents.next_exchange - 1
  pub apart : (r q : ℕ) (a b : Content) → item_of contents r ≡ Some a →
      item_of contents q ≡ Some b →
      a.key ≡ b.key → r ≡ q

abbrev pub StartsAreSound : Type 0
StartsAreSound = (contents : Contents) → IsStart contents → Sound (first_tables contents)

-- READERS

-- a fact that holds after each accepted event of what is sound, whatever the store loses
abbrev pub AfterEach : (Tables → Type 0) → Type 0
AfterEach P =
    (limits : Limits) (t : Tables) (now : ℕ) (flaw : Flaw) → Sound t → (event : Event) →
    denial t event ≡ None → P (after_accepted t (entry_of limits t now event flaw))

-- whoever is bound is bound to what is there
abbrev pub AreBound : Tables → Type 0
AreBound t = (r c : ℕ) (k : Consumer) → IsBound t r c k → is_some (t.representation r) ≡ true

-- whoever became bound as the only one knows the end of what it reads
abbrev pub KnowEnds : Tables → Type 0
KnowEnds t =
    (r c lo : ℕ) (hi : Option ℕ) (by : BoundBy) (k : Consumer) → t.consumer c ≡ Some k →
    k.place ≡ place.Bound r lo hi by → came_alone t (place.Bound r lo hi by) ≡ true →
    is_some hi ≡ true

-- the same of what is sound and has known owners
abbrev pub OwnedAfterEach : (Tables → Type 0) → Type 0
OwnedAfterEach P =
    (limits : Limits) (t : Tables) (now : ℕ) (flaw : Flaw) → Sound t → Owners t → (event : Event) →
    denial t event ≡ None → P (after_accepted t (entry_of limits t now event flaw))

-- whoever is bound and wasn't shown a head founded, or waits for the head of its first hole, or may
-- be shown it
abbrev pub AreToBeShown : Tables → Type 0
AreToBeShown t =
    (c r lo : ℕ) (hi : Option ℕ) (by : BoundBy) (k : Consumer) → t.consumer c ≡ Some k →
    k.place ≡ place.Bound r lo hi by → k.shown ≡ false → IsToBeShown t k by

-- and of entries that a store may stand behind
abbrev pub OwedAfterEach : (Tables → Type 0) → Type 0
OwedAfterEach P =
    (limits : Limits) (t : Tables) (now : ℕ) (flaw : Flaw) → Sound t → Owners t → (event : Event) →
    denial t event ≡ None → may_stand limits t (entry_of limits t now event flaw) ≡ true →
    P (after_accepted t (entry_of limits t now event flaw))

abbrev pub OwnersAreKnown : Type 0
OwnersAreKnown = (contents : Contents) → Owners (first_tables contents)

-- ONE TURN

-- what shows that turns are one holds from the beginning, and stays so at each accepted entry
abbrev pub TurnsAreKept : Type 0
TurnsAreKept =
    (limits : Limits) (t : Tables) (e : Entry) → Sound t → IsOfOneKey t → Turns t →
    IsOwed limits t e → is_denied e.acts ≡ false → Turns (after_accepted t e)

abbrev pub TurnsBegin : Type 0
TurnsBegin = (contents : Contents) → Turns (first_tables contents)

abbrev pub TurnsAreOne : Type 0
TurnsAreOne = (t : Tables) → Sound t → IsOfOneKey t → Turns t → HasOneTurn t

-- THE DOOM BARRIER STAYS

-- each entry of a run leaves what isn't gone, and what may still found, behind the last doom of
-- its key
abbrev pub BarrierIsKept : Type 0
BarrierIsKept =
    (limits : Limits) (contents : Contents) (h : History) (e : Entry) →
    Sound (tables contents h) → IsOfOneKey (tables contents h) → Turns (tables contents h) →
    IsBarred contents h → IsOwed limits (tables contents h) e → IsBarred contents (e ∷ h)

-- numbers begin with 1
abbrev pub AreNumbered : Contents → Type 0
AreNumbered contents = (r : ℕ) (item : Content) → item_of contents r ≡ Some item → 0 < r

abbrev pub BarrierBegins : Type 0
BarrierBegins = (contents : Contents) → AreNumbered contents → IsBarred contents []

-- IN RUNS

-- a fact of every run from contents by which a store may begin
abbrev pub OfHistories : (Contents → History → Type 0) → Type 0
OfHistories P =
    (limits : Limits) (contents : Contents) (h : History) → may_begin limits contents ≡ true →
    IsRun limits contents h → P contents h

-- what isn't gone is behind the last doom of its key, in each run from contents by which a store may begin
abbrev pub DoomsInRuns : Type 0
DoomsInRuns =
    (limits : Limits) (contents : Contents) (h : History) → may_begin limits contents ≡ true →
    IsRun limits contents h → IsBehindDooms contents h

-- each accepted entry of such a run leaves what is of other keys
abbrev pub KeysInRuns : Type 0
KeysInRuns =
    (limits : Limits) (contents : Contents) (h : History) (e : Entry) →
    may_begin limits contents ≡ true → IsRun limits contents (e ∷ h) → is_denied e.acts ≡ false →
    KeepsOthers (tables contents h) (tables contents (e ∷ h)) e

-- what a body has stays, at each entry of such a run
abbrev pub BodiesGrowInRuns : Type 0
BodiesGrowInRuns = (limits : Limits) (contents : Contents) → BodiesGrow limits contents

-- all that is stored fits, and few give way, in every run
abbrev pub FitsInRuns : Type 0
FitsInRuns = (limits : Limits) (contents : Contents) → FitsLimit limits contents

abbrev pub FewInRuns : Type 0
FewInRuns = (limits : Limits) (contents : Contents) → EvictsFew limits contents

-- RECORDS ARE TRUTHFUL

-- What is called truncated has some first positions and no other, where as many bytes are stored as
-- positions.
abbrev pub TruncatedIsPrefix : Type 0
TruncatedIsPrefix =
    (t : Tables) → Sound t → (key : List ℕ) (r : ℕ) (v : Representation) →
    current t key ≡ Some r → t.representation r ≡ Some v → v.size ≡ size_below v.stored v.reach →
    kind_for t key ≡ Some kind.Truncated → IsPrefix v

-- WHO GOES ON

-- Who has the turn doesn't wait for it.
abbrev pub TurnsGo : Type 0
TurnsGo =
    (t : Tables) → Sound t → Turns t → (now c want d : ℕ) (k : Consumer) → t.consumer c ≡ Some k →
    turn t k.request.key ≡ Some c → move_of t now want c k ≢ move.Waits (wait.Turn d)

-- Who is bound waits for no turn, and for no other consumer.
abbrev pub ReadersGo : Type 0
ReadersGo =
    (t : Tables) → Sound t → Turns t → (now c want r : ℕ) (k : Consumer) → IsBound t r c k →
    WaitsForNobody t now want c k

-- WHAT GIVES WAY

-- An entry evicts at most two, where what is stored before it fits the limit.
abbrev pub FewGiveWay : Type 0
FewGiveWay =
    (limits : Limits) (t : Tables) (now : ℕ) (event : Event) (flaw : Flaw) →
    weights t (entry_without_acts now event) ≤ limits.max_total → IsSmallPiece event →
    count_evicted (accepted_acts limits t now event flaw) ≤ 2

-- what is being written for several has a reader
abbrev pub AreRead : Tables → Type 0
AreRead t =
    (r : ℕ) (v : Representation) → t.representation r ≡ Some v → is_written t v ≡ true →
    bound t r ≢ []

-- and nothing is due for whoever reads it
abbrev pub AreUndue : Tables → Type 0
AreUndue t =
    (r c : ℕ) (v : Representation) (k : Consumer) → t.representation r ≡ Some v →
    IsBound t r c k → is_written t v ≡ true → k.due ≡ None

-- the open exchange of who is bound is about what that is bound to
abbrev pub ReadAbout : Tables → Type 0
ReadAbout t =
    (r c x : ℕ) (k : Consumer) → IsBound t r c k → own_open t k ≡ Some x → IsAbout t r x

-- the same of what is measured too
abbrev pub MeasuredAfterEach : (Tables → Type 0) → Type 0
MeasuredAfterEach P =
    (limits : Limits) (t : Tables) (now : ℕ) (flaw : Flaw) → Sound t → Owners t → Measures t →
    (event : Event) → denial t event ≡ None →
    may_stand limits t (entry_of limits t now event flaw) ≡ true →
    P (after_accepted t (entry_of limits t now event flaw))

abbrev pub BeginningsAreMeasured : Type 0
BeginningsAreMeasured =
    (limits : Limits) (contents : Contents) → may_begin limits contents ≡ true →
    Measures (first_tables contents)

-- while a writing is on, just what its exchange has brought is stored, and it promises all that is
-- missing
abbrev pub AreGrowing : Tables → Type 0
AreGrowing t =
    (r x : ℕ) (v : Representation) → t.representation r ≡ Some v → is_written t v ≡ true →
    v.writer ≡ Some x → (w : Exchange) × IsGrowing t r v x w

-- what is kept by each accepted entry of a run
abbrev pub KeptByEntries : (Tables → Type 0) → Type 0
KeptByEntries P =
    (limits : Limits) (t : Tables) (e : Entry) → Sound t → Owners t → Measures t →
    IsOwed limits t e → is_denied e.acts ≡ false → P (after_accepted t e)

-- whoever is bound and has nothing due reads with others, is the exclusive writer, or needs nothing more
abbrev pub AreServed : Tables → Type 0
AreServed t =
    (r c : ℕ) (v : Representation) (k : Consumer) → t.representation r ≡ Some v →
    IsBound t r c k → k.due ≡ None → IsServed t r v c k

-- an open exchange about r is that of its writing, or of the one the exclusive writer
abbrev pub AreHad : Tables → Type 0
AreHad t =
    (r x : ℕ) (v : Representation) → t.representation r ≡ Some v → IsAbout t r x →
    IsHad t r v x

-- Who survives the loss of what is written for several goes on alone: it has its exchange, all that
-- came up to where that goes on, and nothing past it came that isn't stored.
abbrev pub SurvivorsGoOn : Type 0
SurvivorsGoOn =
    (limits : Limits) (t : Tables) (e : Entry) → Sound t → Owners t → Measures t →
    IsOwed limits t e → is_denied e.acts ≡ false → (r c : ℕ) (v p : Representation) (u : Consumer) →
    t.representation r ≡ Some v → loses_group t e r v ≡ true → survivor t r v ≡ Some c →
    (after_accepted t e).representation r ≡ Some p → (after_accepted t e).consumer c ≡ Some u →
    IsAlone (after_accepted t e) p u

-- Contents by which a store may begin are such.
abbrev pub BeginningsAreStarts : Type 0
BeginningsAreStarts =
    (limits : Limits) (contents : Contents) → may_begin limits contents ≡ true → IsStart contents

-- DENIED ENTRIES

-- a denied entry changes nothing that is said of soundness
abbrev pub AfterDenials : (Tables → Type 0) → Type 0
AfterDenials P = (t : Tables) (e : Entry) → P t → P (after_denied t e)
