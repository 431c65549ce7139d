-- The case of a head that comes (RFC 9111 sections 3, 3.3, 3.4 and 4.3): the first row that applies.
use Rattle.std.specs.Prelude.{ℕ, ◌+◌, ◌==◌, ◌||◌, ◌&&◌, nat_le, not, Bool, false, List, codes, if◌then◌else◌, Option, Some, None, is_some}
use Rattle.hc_range.specs.declared.range.RangeSpec.{RangeSpec}
use Rattle.hc_range.specs.declared.range.Span.{Span}
use Rattle.hc_range.specs.declared.range.ContentRange.{ContentRange}
use Rattle.hc_range.specs.declared.range.ContentRange.TheVariants as range
use Rattle.hc_range.specs.Spans.{resolved_span}
use Rattle.hc_cachectl.specs.Directives.{of_request, of_response}
use Rattle.hc_event.specs.declared.event.Request.{Request}
use Rattle.hc_event.specs.declared.event.Response.{Response}
use Rattle.hc_event.specs.declared.act.Need.{Need}
use Rattle.hc_event.specs.declared.act.Need.TheVariants as need
use Rattle.hc_rules.specs.declared.need.Route.{Route}
use Rattle.hc_rules.specs.declared.need.Route.TheVariants as route
use Rattle.hc_rules.specs.declared.heads.HeadCase.{HeadCase}
use Rattle.hc_rules.specs.declared.heads.HeadCase.TheVariants as case
use Rattle.hc_rules.specs.declared.heads.HeadView.{HeadView}
use Rattle.hc_rules.specs.Needs.{route_of}
use Rattle.hc_rules.specs.RangeTexts.{content_range_of}
use Rattle.hc_rules.specs.Requests.{is_get}
use Rattle.hc_rules.specs.Statuses.{brings_whole, brings_part}
use Rattle.hc_fields.specs.FirstValues.{has_field}
use Rattle.hc_rules.specs.TagTexts.{strong_of}

-- of an exchange past the store
abbrev pub direct_case : HeadView → HeadCase
direct_case v = if v.bad then case.DirectBad else case.DirectTaken

-- of one that has the turn
abbrev pub turn_case : HeadView → HeadCase
turn_case v =
    if v.bad then case.TurnBad
    else if v.status == 304 && v.conditional && v.selects && not v.lost then case.Validated
    else if v.status == 304 && v.conditional then case.NotValidated
    else if nat_le 500 v.status then case.TurnServerError
    else if brings_whole v.status && v.storable && not v.lost then case.FoundsWhole
    else if brings_part v.status && v.storable && v.fits && not v.lost then case.FoundsRange
    else case.PassesBy

-- of one for a hole, for a consumer that was shown no head
abbrev pub first_case : HeadView → HeadCase
first_case v =
    if v.bad then case.FirstBad
    else if v.joins then case.FirstJoins
    else if nat_le 500 v.status then case.FirstServerError
    else if brings_part v.status || v.status == 304 || v.status == 416 then case.FirstChanged
    else if brings_whole v.status && v.storable && not v.lost then case.FirstReplaced
    else case.FirstPassesBy

-- and for one that was
abbrev pub later_case : HeadView → HeadCase
later_case v =
    if v.bad then case.LaterBad
    else if v.joins then case.LaterJoins
    else case.LaterChanged

abbrev pub case_on : Route → HeadView → HeadCase
case_on route.Direct v = direct_case v
case_on route.Turn v = turn_case v
case_on route.Hole v = if v.shown then later_case v else first_case v

-- the case of a head
unfoldable pub head_case : HeadView → HeadCase
head_case v = case_on (route_of v.need) v

-- The exchange asks whether a stored head still holds (RFC 9111 section 4.3.1).
abbrev pub asks_conditionally : List (List ℕ × List ℕ) → Bool
asks_conditionally fields = has_field (codes "if-none-match") fields || has_field (codes "if-modified-since") fields

abbrev pub is_conditional : Need → Request → Bool
is_conditional need.Validate request = asks_conditionally request.fields
is_conditional _ request = false

-- the answer to this request may be stored (RFC 9111 section 3)
unfoldable pub is_storable : Request → Response → Bool
is_storable request response =
    is_get request && (brings_whole response.status || brings_part response.status)
    && not (of_request request.fields).no_store && not (of_response response.fields).no_store

abbrev pub begins_at : Option Span → ℕ → ℕ → Bool
begins_at None first last = false
begins_at (Some span) first last = first == span.lo && nat_le (last + 1) span.hi

-- the part begins where the range does, and isn't longer; its total is given
abbrev pub fits_part : RangeSpec → Option ContentRange → Bool
fits_part asked None = false
fits_part asked (Some (range.Unsatisfied total)) = false
fits_part asked (Some (range.Part first last None)) = false
fits_part asked (Some (range.Part first last (Some total))) = begins_at (resolved_span asked total) first last

-- A part from which a representation may be founded for a consumer with this range: others could join it by its strong tag.
abbrev pub fits_to_found : Option RangeSpec → Response → Bool
fits_to_found None response = false
fits_to_found (Some asked) response =
    is_some (strong_of response.fields) && fits_part asked (content_range_of response.fields)
