-- The heads of what is stored: their moments and fields, and the tag by which parts join.
use Rattle.std.specs.Prelude.{◌≡◌, ◌≢◌, ◌≤◌, ℕ, [], ◌∷◌, codes, true, false, Some, None}
use Rattle.hc_fields.specs.FirstValues.{has_field}
use Rattle.hc_event.specs.declared.event.Event.{Event}
use Rattle.hc_event.specs.declared.event.Event.TheVariants as event
use Rattle.hc_rules.specs.Statuses.{brings_whole, brings_part}
use Rattle.hc_sparse.specs.Cells.{Covers}
use Rattle.hc_validate.specs.Updates.{is_within_limits}
use Rattle.hc_model.specs.Entries.{History}
use Rattle.hc_model.specs.Origins.{HasByte}
use Rattle.hc_model.specs.Reading.{is_written}
use Rattle.hc_model.specs.Rows.{Tables, Exchange, Representation}

-- MOMENTS AND FIELDS

-- an exchange was opened by now, and a head asked for before it came; no length stands among the
-- fields of a head
pub record StoredHeads (t : Tables) : Type 0 where
  pub opened : (x : ℕ) (w : Exchange) → t.exchange x ≡ Some w → w.opened ≤ t.moment
  pub moments : (r : ℕ) (v : Representation) → t.representation r ≡ Some v →
      (v.head.requested ≤ v.head.answered) × (v.head.answered ≤ t.moment)
  pub lengths : (r : ℕ) (v : Representation) → t.representation r ≡ Some v →
      has_field (codes "content-length") v.head.fields ≡ false
  pub ranges : (r : ℕ) (v : Representation) → t.representation r ≡ Some v →
      has_field (codes "content-range") v.head.fields ≡ false

-- a head that comes has no more fields than one from outside may have
abbrev pub IsHeadWithinLimits : Event → Type 0
IsHeadWithinLimits (event.Head x response) = is_within_limits response.fields ≡ true
IsHeadWithinLimits _ = Unit {0}

abbrev pub HeadsAreWithinLimits : History → Type 0
HeadsAreWithinLimits [] = Unit {0}
HeadsAreWithinLimits (e ∷ h) = HeadsAreWithinLimits h × IsHeadWithinLimits e.event

-- and so has each that is stored
abbrev pub AreWithinLimits : Tables → Type 0
AreWithinLimits t =
    (r : ℕ) (v : Representation) → t.representation r ≡ Some v → is_within_limits v.head.fields ≡ true

-- TAGS

-- what none can join comes from its one exchange, or is all there
pub data IsOfOne (t : Tables) (v : Representation) : Type 0 where
  comes : is_written t v ≡ true → brings_whole v.head.status ≡ true → IsOfOne t v
  whole : (total : ℕ) → v.head.total ≡ Some total → Covers v.stored 0 total → IsOfOne t v

-- what has no tag is no part, has no byte of another exchange than its own, and is whole once that
-- is over
pub record Tags (t : Tables) : Type 0 where
  pub joined : (x r : ℕ) (w : Exchange) (v : Representation) → t.exchange x ≡ Some w →
      w.joined ≡ Some r → t.representation r ≡ Some v → v.head.joining ≢ None
  pub parts : (r : ℕ) (v : Representation) → t.representation r ≡ Some v →
      v.head.joining ≡ None → brings_part v.head.status ≡ false
  pub own : (r x : ℕ) (v : Representation) → t.representation r ≡ Some v →
      v.head.joining ≡ None → HasByte t r x → x ≡ r
  pub one : (r : ℕ) (v : Representation) → t.representation r ≡ Some v → v.is_gone ≡ false →
      v.head.joining ≡ None → IsOfOne t v
