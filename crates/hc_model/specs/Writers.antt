-- Who writes a representation alone, and who goes on with it when it is lost.
use Rattle.std.specs.Prelude.{ℕ, List, Bool, true, false, Option, Some, None, is_some, is_none, if◌then◌else◌, ◌||◌, ◌&&◌, not, map}
use Rattle.hc_event.specs.declared.event.Event.{Event}
use Rattle.hc_event.specs.declared.event.Event.TheVariants as event
use Rattle.hc_rules.specs.declared.admission.Bound.{Bound}
use Rattle.hc_rules.specs.declared.admission.BoundKind.{BoundKind}
use Rattle.hc_rules.specs.declared.admission.BoundKind.TheVariants as kind
use Rattle.hc_rules.specs.declared.survivor.Member.{Member}
use Rattle.hc_rules.specs.Admissions.{least_of, survivor_at}
use Rattle.hc_rules.specs.Statuses.{brings_part}
use Rattle.hc_event.specs.declared.place.Place.{Place}
use Rattle.hc_event.specs.declared.place.Place.TheVariants as place
use Rattle.hc_event.specs.declared.place.BoundBy.TheVariants as by
use Rattle.hc_model.specs.Entries.{Entry}
use Rattle.hc_model.specs.ActFilters.{loses_in}
use Rattle.hc_model.specs.Rows.{Tables, Representation, Consumer}
use Rattle.hc_model.specs.Holes.{covers}
use Rattle.hc_model.specs.Reading.{bound, offset, hi_of, own_open, is_written}

-- THE EXCLUSIVE WRITER

abbrev pub status_in : Option Representation → ℕ
status_in None = 0
status_in (Some v) = v.head.status

-- it became bound as the only one: by a first hole, or by founding with a part
abbrev pub came_alone : Tables → Place → Bool
came_alone t (place.Bound r lo hi (by.FirstHole y)) = true
came_alone t (place.Bound r lo hi by.Founding) = brings_part (status_in (t.representation r))
came_alone t _ = false

-- a position from its offset to its end isn't stored
abbrev pub lacks_some : Representation → ℕ → Option ℕ → Bool
lacks_some v offset None = false
lacks_some v offset (Some hi) = not (covers v.stored v.reach offset hi)

-- it has an exchange of its own, or a hole ahead
abbrev pub has_more : Tables → Representation → Consumer → Bool
has_more t v k = is_some (own_open t k) || lacks_some v (offset t k) (hi_of t k.place)

abbrev pub may_write : Tables → Representation → Option Consumer → Bool
may_write t v None = false
may_write t v (Some k) = came_alone t k.place && is_none k.due && has_more t v k

-- how a bound consumer is bound: nobody writes alone while the writer group is on
abbrev pub bound_kind : Tables → Representation → ℕ → BoundKind
bound_kind t v c =
    if is_written t v then kind.Shared
    else if may_write t v (t.consumer c) then kind.Exclusive
    else kind.Reader

abbrev pub bound_as : Tables → Representation → ℕ → Bound
bound_as t v c = record { c = c; kind = bound_kind t v c }

-- the consumers bound to r, and how they are
abbrev pub bindings : Tables → ℕ → Representation → List Bound
bindings t r v = map (bound_as t v) (bound t r)

-- the exclusive writer bound to r
unfoldable pub exclusive : Tables → ℕ → Representation → Option ℕ
exclusive t r v = least_of kind.Exclusive (bindings t r v)

-- LOST WRITINGS

abbrev pub brings_body : Event → Bool
brings_body (event.Head x response) = true
brings_body (event.Piece x bytes) = true
brings_body _ = false

-- at a head or a piece, r is lost while its writer group is on
abbrev pub loses_group : Tables → Entry → ℕ → Representation → Bool
loses_group t e r v = brings_body e.event && loses_in r e.acts && is_written t v

abbrev pub offset_in : Tables → Option Consumer → ℕ
offset_in t None = 0
offset_in t (Some k) = offset t k

abbrev pub member : Tables → ℕ → Member
member t c = record { c = c; offset = offset_in t (t.consumer c) }

-- the least member that stands where what is stored ends
abbrev pub survivor : Tables → ℕ → Representation → Option ℕ
survivor t r v = survivor_at v.reach (map (member t) (bound t r))

-- who goes on with r when it is lost
abbrev pub goes_on_with : Tables → Entry → ℕ → Representation → Option ℕ
goes_on_with t e r v = if loses_group t e r v then survivor t r v else exclusive t r v
