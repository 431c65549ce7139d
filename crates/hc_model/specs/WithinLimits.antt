-- What comes from outside has few and short fields, and who starts asks for a target; so does each request that is kept.
use Rattle.std.specs.Prelude.{◌≡◌, ℕ, [], ◌∷◌, true, Some}
use Rattle.hc_event.specs.declared.event.Event.{Event}
use Rattle.hc_event.specs.declared.event.Event.TheVariants as event
use Rattle.hc_fields.specs.FieldList.{IsWithinLimits}
use Rattle.hc_target.specs.Targets.{is_target}
use Rattle.hc_rules.specs.declared.room.Limits.{Limits}
use Rattle.hc_model.specs.Beginnings.{may_begin}
use Rattle.hc_model.specs.Entries.{Contents, History}
use Rattle.hc_model.specs.Rows.{Tables, Representation, Consumer}
use Rattle.hc_model.specs.Runs.{IsRun}
use Rattle.hc_model.specs.StoredHeads.{HeadsAreWithinLimits}
use Rattle.hc_model.specs.Tables.{tables}

-- FIELDS

-- a request or a head that comes has no more fields than one from outside may have
abbrev pub HasFieldsWithinLimits : Event → Type 0
HasFieldsWithinLimits (event.Start c request) = IsWithinLimits request.fields
HasFieldsWithinLimits (event.Head x response) = IsWithinLimits response.fields
HasFieldsWithinLimits _ = Unit {0}

abbrev pub FieldsAreWithinLimits : History → Type 0
FieldsAreWithinLimits [] = Unit {0}
FieldsAreWithinLimits (e ∷ h) = FieldsAreWithinLimits h × HasFieldsWithinLimits e.event

-- and so has each consumer's
abbrev pub RequestsAreWithinLimits : Tables → Type 0
RequestsAreWithinLimits t =
    (c : ℕ) (k : Consumer) → t.consumer c ≡ Some k → IsWithinLimits k.request.fields

-- whatever is answered
abbrev pub RequestsStayWithinLimits : Type 0
RequestsStayWithinLimits =
    (contents : Contents) (h : History) → FieldsAreWithinLimits h →
    RequestsAreWithinLimits (tables contents h)

abbrev pub HeadsComeWithinLimits : Type 0
HeadsComeWithinLimits = (h : History) → FieldsAreWithinLimits h → HeadsAreWithinLimits h

-- TARGETS

-- who starts asks for a target
abbrev pub HasTarget : Event → Type 0
HasTarget (event.Start c request) = is_target request.key ≡ true
HasTarget _ = Unit {0}

abbrev pub StartsHaveTargets : History → Type 0
StartsHaveTargets [] = Unit {0}
StartsHaveTargets (e ∷ h) = StartsHaveTargets h × HasTarget e.event

-- and so does each consumer
abbrev pub RequestsAreForTargets : Tables → Type 0
RequestsAreForTargets t =
    (c : ℕ) (k : Consumer) → t.consumer c ≡ Some k → is_target k.request.key ≡ true

-- whatever is answered
abbrev pub RequestsStayForTargets : Type 0
RequestsStayForTargets =
    (contents : Contents) (h : History) → StartsHaveTargets h →
    RequestsAreForTargets (tables contents h)

-- each representation has a target as its key
abbrev pub KeysAreTargets : Tables → Type 0
KeysAreTargets t =
    (r : ℕ) (v : Representation) → t.representation r ≡ Some v → is_target v.key ≡ true

-- in every run
abbrev pub KeysStayTargets : Type 0
KeysStayTargets =
    (limits : Limits) (contents : Contents) (h : History) → may_begin limits contents ≡ true →
    IsRun limits contents h → StartsHaveTargets h → KeysAreTargets (tables contents h)
