-- What holds of the tables of each run.
use Rattle.std.specs.Prelude.{◌≡◌, ◌≢◌, ℕ, ◌+◌, ◌<◌, ◌≤◌, ◌⊎◌, List, [], ◌∷◌, true, false, Option, Some, None, is_some}
use Rattle.hc_sparse.specs.Cells.{EndsBy, Covers}
use Rattle.hc_event.specs.declared.act.Need.{Need}
use Rattle.hc_event.specs.declared.act.Need.TheVariants as need
use Rattle.hc_rules.specs.declared.room.Limits.{Limits}
use Rattle.hc_event.specs.declared.place.Place.TheVariants as place
use Rattle.hc_event.specs.declared.place.BoundBy.{BoundBy}
use Rattle.hc_event.specs.declared.place.BoundBy.TheVariants as by
use Rattle.hc_model.specs.Entries.{History, Contents}
use Rattle.hc_model.specs.Rows.{Tables, Exchange, Representation, Consumer}
use Rattle.hc_model.specs.Exchanges.{base, promised_bytes, front, family, is_headless}
use Rattle.hc_model.specs.Reading.{is_written, bound, offset, hi_of, own_open}
use Rattle.hc_model.specs.Writers.{came_alone}
use Rattle.hc_model.specs.Tables.{tables}
use Rattle.hc_model.specs.Polls.{has_joined}
use Rattle.hc_model.specs.Beginnings.{may_begin}
use Rattle.hc_model.specs.Runs.{IsRun}

-- NUMBERS

abbrev pub Among : ℕ → List ℕ → Type 0
Among n [] = ⊥
Among n (m ∷ ms) = (m ≡ n) ⊎ Among n ms

-- who is bound to r, with its row
pub data IsBound (t : Tables) (r c : ℕ) (k : Consumer) : Type 0 where
  is_bound : (lo : ℕ) (hi : Option ℕ) (by : BoundBy) →
      t.consumer c ≡ Some k → k.place ≡ place.Bound r lo hi by → IsBound t r c k

-- each row has a number that was given out, and stands in its list
pub record IsListed (t : Tables) : Type 0 where
  pub new_consumers : (c : ℕ) → t.last_start < c → t.consumer c ≡ None
  pub new_exchanges : (x : ℕ) → t.opened < x → t.exchange x ≡ None
  pub new_representations : (r : ℕ) → t.opened < r → t.representation r ≡ None
  pub started : (c : ℕ) → is_some (t.consumer c) ≡ true → Among c t.starts
  pub opened : (x : ℕ) → is_some (t.exchange x) ≡ true → Among x t.openings
  pub founded : (r : ℕ) → is_some (t.representation r) ≡ true → Among r t.founded

-- what exchanges name is there, and none without a head is a representation
pub record IsNamed (t : Tables) : Type 0 where
  pub unfounded : (x : ℕ) (w : Exchange) → t.exchange x ≡ Some w → w.head ≡ None →
      t.representation x ≡ None
  pub aims : (x r : ℕ) (w : Exchange) → t.exchange x ≡ Some w → w.aim ≡ Some r →
      is_some (t.representation r) ≡ true
  pub joined : (x r : ℕ) (w : Exchange) → t.exchange x ≡ Some w → w.joined ≡ Some r →
      is_some (t.representation r) ≡ true

pub record Numbered (t : Tables) : Type 0 where
  pub lists : IsListed t
  pub names : IsNamed t
  pub bound_to : (r c : ℕ) (k : Consumer) → IsBound t r c k → is_some (t.representation r) ≡ true

-- EXCHANGES ABOUT A REPRESENTATION

-- before the end of what is promised, where something is
abbrev pub IsPromised : Option ℕ → Exchange → ℕ → Type 0
IsPromised None w p = Unit {0}
IsPromised (Some n) w p = p < base w + n

-- of a headless exchange: in its hole
abbrev pub InHole : Need → ℕ → Type 0
InHole (need.Hole from to) p = (from ≤ p) × (p < to)
InHole _ p = ⊥

-- an open exchange is about r: it founded or joined it, or it asks for a hole of it
pub data IsAbout (t : Tables) (r x : ℕ) : Type 0 where
  headed : (w : Exchange) → t.exchange x ≡ Some w → w.is_open ≡ true → is_some w.head ≡ true →
      family x w ≡ r → is_some (t.representation r) ≡ true → IsAbout t r x
  asks : (w : Exchange) (from to : ℕ) → t.exchange x ≡ Some w → w.is_open ≡ true → w.head ≡ None →
      w.need ≡ need.Hole from to → w.aim ≡ Some r → IsAbout t r x

-- what an open exchange about r is still to bring is absent: of a headed one from its front to the end
-- of its promise, of a headless one its hole
pub record Waits (t : Tables) : Type 0 where
  pub fronts : (x : ℕ) (w : Exchange) (v : Representation) (p : ℕ) → t.exchange x ≡ Some w →
      w.is_open ≡ true → is_some w.head ≡ true → t.representation (family x w) ≡ Some v →
      front w ≤ p → IsPromised (promised_bytes w) w p → v.body p ≡ None
  pub holes : (x : ℕ) (w : Exchange) (r : ℕ) (v : Representation) (p : ℕ) → t.exchange x ≡ Some w →
      w.is_open ≡ true → w.head ≡ None → w.aim ≡ Some r → t.representation r ≡ Some v →
      InHole w.need p → v.body p ≡ None
  pub headless : (x : ℕ) (w : Exchange) → t.exchange x ≡ Some w → w.head ≡ None →
      (w.body ≡ []) × (w.joined ≡ None)

-- at most one open exchange is about a representation
abbrev pub OneAbout : Tables → Type 0
OneAbout t = (r x y : ℕ) → IsAbout t r x → IsAbout t r y → x ≡ y

-- WHO MAY WRITE

-- it became bound as the only one: by a first hole, or by founding with a part
pub data IsFirst (t : Tables) (r c : ℕ) : Type 0 where
  first : (k : Consumer) (lo : ℕ) (hi : Option ℕ) (by : BoundBy) → t.consumer c ≡ Some k →
      k.place ≡ place.Bound r lo hi by → came_alone t (place.Bound r lo hi by) ≡ true → IsFirst t r c

-- at most one consumer is
abbrev pub OneFirst : Tables → Type 0
OneFirst t = (r c d : ℕ) → IsFirst t r c → IsFirst t r d → c ≡ d

-- the exclusive writer of r: the first one, until r is lost, and then the detached reader
pub data IsExclusiveWriter (t : Tables) (r : ℕ) (v : Representation) (c : ℕ) : Type 0 where
  first : v.is_lost ≡ false → IsFirst t r c → IsExclusiveWriter t r v c
  alone : v.is_lost ≡ true → v.alone ≡ Some c → IsExclusiveWriter t r v c

-- a bound consumer to which no failure is due reads with others in a writer group that is on, is the exclusive writer, or needs nothing more
pub data IsServed (t : Tables) (r : ℕ) (v : Representation) (c : ℕ) (k : Consumer) : Type 0 where
  shares : is_written t v ≡ true → IsServed t r v c k
  writes : IsExclusiveWriter t r v c → IsServed t r v c k
  reads : (hi : ℕ) → hi_of t k.place ≡ Some hi → Covers v.stored (offset t k) hi →
      IsServed t r v c k

-- whose an open exchange about r is: the writer group's, or the exclusive writer's, is bound to r and has nothing due
pub data IsHad (t : Tables) (r : ℕ) (v : Representation) (x : ℕ) : Type 0 where
  shared : is_written t v ≡ true → v.writer ≡ Some x → IsHad t r v x
  own : (c : ℕ) (k : Consumer) → IsBound t r c k → own_open t k ≡ Some x → k.due ≡ None →
      IsExclusiveWriter t r v c → IsHad t r v x

pub record Writes (t : Tables) : Type 0 where
  pub one_first : OneFirst t
  pub served : (r c : ℕ) (v : Representation) (k : Consumer) → t.representation r ≡ Some v →
      IsBound t r c k → k.due ≡ None → IsServed t r v c k
  pub had : (r x : ℕ) (v : Representation) → t.representation r ≡ Some v → IsAbout t r x →
      IsHad t r v x
  pub known_end : (r c lo : ℕ) (hi : Option ℕ) (by : BoundBy) (k : Consumer) →
      t.consumer c ≡ Some k → k.place ≡ place.Bound r lo hi by →
      came_alone t (place.Bound r lo hi by) ≡ true → is_some hi ≡ true
  pub own_about : (r c x : ℕ) (k : Consumer) → IsBound t r c k → own_open t k ≡ Some x →
      IsAbout t r x
  pub undue : (r c : ℕ) (v : Representation) (k : Consumer) → t.representation r ≡ Some v →
      IsBound t r c k → is_written t v ≡ true → k.due ≡ None
  pub has_bound : (r : ℕ) (v : Representation) → t.representation r ≡ Some v →
      is_written t v ≡ true → bound t r ≢ []

-- WHAT IS STORED

abbrev pub end_from : ℕ → Option ℕ → Option ℕ
end_from from None = None
end_from from (Some n) = Some (from + n)

-- where the promise of an exchange ends
abbrev pub promised_end : Exchange → Option ℕ
promised_end w = end_from (base w) (promised_bytes w)

-- while the writer group is on, just what its exchange has brought up to its front is stored, and it promises all that is missing
pub record IsGrowing (t : Tables) (r : ℕ) (v : Representation) (x : ℕ) (w : Exchange) : Type 0 where
  pub row : t.exchange x ≡ Some w
  pub family_is : family x w ≡ r
  pub headed : is_some w.head ≡ true
  pub front_is : front w ≡ v.reach
  pub whole : Covers v.stored 0 v.reach
  pub promise : v.head.total ≡ promised_end w

-- all that came is stored, until it is lost
pub record IsStored (v : Representation) : Type 0 where
  pub ends : EndsBy v.reach v.body
  pub lost_is_gone : v.is_lost ≡ true → v.is_gone ≡ true
  pub all_stored : v.is_lost ≡ false → (p : ℕ) → v.stored p ≡ v.body p
  pub some_stored : (p : ℕ) → is_some (v.stored p) ≡ true → v.stored p ≡ v.body p
  pub nobody_alone : v.is_lost ≡ false → v.alone ≡ None

pub record IsSoundRepresentation (t : Tables) (r : ℕ) (v : Representation) : Type 0 where
  pub store : IsStored v
  pub growing : (x : ℕ) → is_written t v ≡ true → v.writer ≡ Some x →
      (w : Exchange) × IsGrowing t r v x w

-- the detached reader, as long as no failure is due to it, reads up to the front of its exchange, and nothing that isn't stored stands past that
pub record IsAlone (t : Tables) (v : Representation) (k : Consumer) : Type 0 where
  pub x : ℕ
  pub w : Exchange
  pub own : k.own ≡ Some x
  pub row : t.exchange x ≡ Some w
  pub covered : Covers v.body (offset t k) (front w)
  pub ahead : (p : ℕ) → front w ≤ p → offset t k ≤ p → v.stored p ≡ v.body p

-- who is bound and wasn't shown a head founded, or waits for the head of its first hole, or may be shown it
pub data IsToBeShown (t : Tables) (k : Consumer) : BoundBy → Type 0 where
  founded : IsToBeShown t k by.Founding
  joined : (y : ℕ) → has_joined (t.exchange y) ≡ true → IsToBeShown t k (by.FirstHole y)
  waits : (y : ℕ) → own_open t k ≡ Some y → is_headless (t.exchange y) ≡ true →
      IsToBeShown t k (by.FirstHole y)

-- ALL OF IT

-- of each key one representation at most isn't gone
abbrev pub OneCurrent : Tables → Type 0
OneCurrent t =
    (r q : ℕ) (v u : Representation) → t.representation r ≡ Some v → t.representation q ≡ Some u →
    v.is_gone ≡ false → u.is_gone ≡ false → v.key ≡ u.key → r ≡ q

pub record Sound (t : Tables) : Type 0 where
  pub numbered : Numbered t
  pub waits : Waits t
  pub one_about : OneAbout t
  pub writes : Writes t
  pub rows : (r : ℕ) (v : Representation) → t.representation r ≡ Some v →
      IsSoundRepresentation t r v
  pub one_current : OneCurrent t
  pub unshown : (c r lo : ℕ) (hi : Option ℕ) (by : BoundBy) (k : Consumer) →
      t.consumer c ≡ Some k → k.place ≡ place.Bound r lo hi by → k.shown ≡ false → IsToBeShown t k by
  pub alone : (r c : ℕ) (v : Representation) (k : Consumer) → t.representation r ≡ Some v →
      v.alone ≡ Some c → IsBound t r c k → k.due ≡ None → IsAlone t v k

abbrev pub RunsAreSound : Type 0
RunsAreSound =
    (limits : Limits) (contents : Contents) (h : History) → may_begin limits contents ≡ true →
    IsRun limits contents h → Sound (tables contents h)
