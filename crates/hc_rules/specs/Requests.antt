-- What a request asks of the cache.
use Rattle.std.specs.Prelude.{ℕ, ◌∷◌, [], List, ◌||◌, not, Bool, true, false, codes, bytes_eq, if◌then◌else◌, Option, Some, None, is_none, unwrap_or}
use Rattle.std.specs.Option.{option_map}
use Rattle.hc_fields.specs.FieldList.{values_of}
use Rattle.hc_fields.specs.FirstValues.{has_field}
use Rattle.hc_range.specs.declared.range.RangeSpec.{RangeSpec}
use Rattle.hc_range.specs.declared.range.Span.{Span}
use Rattle.hc_range.specs.Spans.{resolved_span}
use Rattle.hc_cachectl.specs.Directives.{of_request}
use Rattle.hc_event.specs.declared.event.Request.{Request}
use Rattle.hc_event.specs.declared.event.Load.{Load}
use Rattle.hc_event.specs.declared.event.Load.TheVariants as load
use Rattle.hc_rules.specs.declared.request.RequestClass.{RequestClass}
use Rattle.hc_rules.specs.declared.request.Wanted.{Wanted}
use Rattle.hc_rules.specs.declared.request.Wanted.TheVariants as wants
use Rattle.hc_rules.specs.RangeTexts.{asked_in}

abbrev pub is_get : Request → Bool
is_get request = bytes_eq request.method (codes "GET")

abbrev pub disables : Load → Bool
disables load.Disable = true
disables _ = false

abbrev pub bypasses : Load → Bool
bypasses load.Bypass = true
bypasses _ = false

abbrev pub asks_only : Load → Bool
asks_only load.Only = true
asks_only _ = false

-- a condition of the caller's own (RFC 9110 section 13.1)
abbrev pub has_condition : List (List ℕ × List ℕ) → Bool
has_condition fields =
    has_field (codes "if-match") fields || has_field (codes "if-unmodified-since") fields
    || has_field (codes "if-range") fields || has_field (codes "if-none-match") fields
    || has_field (codes "if-modified-since") fields

-- The range that the values of Range ask for: none without a value, and one that is read with one. More values, or one that isn't
-- read, can't be told (RFC 9110 section 14.2).
abbrev pub ranges_read : List (List ℕ) → Option (Option RangeSpec)
ranges_read [] = Some None
ranges_read (value ∷ []) = option_map Some (asked_in value)
ranges_read (value ∷ other ∷ values) = None

abbrev pub ranges_in : List (List ℕ × List ℕ) → List (List ℕ)
ranges_in fields = values_of (codes "range") fields

-- the request goes past the cache
unfoldable pub is_disabled : Request → Bool
is_disabled request =
    not (is_get request) || disables request.load || has_condition request.fields
    || (of_request request.fields).no_store || is_none (ranges_read (ranges_in request.fields))

-- the request is for what is stored alone
unfoldable pub is_only : Request → Bool
is_only request = asks_only request.load || (of_request request.fields).only_if_cached

-- the request goes past what is stored, which is then forgotten
unfoldable pub is_bypassing : Request → Bool
is_bypassing request = bypasses request.load || (of_request request.fields).no_cache

-- the range that the request asks the cache for
unfoldable pub range_of : Request → Option RangeSpec
range_of request = if is_disabled request then None else unwrap_or (ranges_read (ranges_in request.fields)) None

-- what the request asks of the cache
unfoldable pub class_of : Request → RequestClass
class_of request = record {
  disabled = is_disabled request;
  only = is_only request;
  bypassing = is_bypassing request;
  range = range_of request;
}

abbrev pub wanted_part : Option Span → Wanted
wanted_part None = wants.Unsatisfiable
wanted_part (Some span) = wants.Interval span

-- the interval of a body of this length that is wanted: the range, or all
abbrev pub wanted_of : Option RangeSpec → Option ℕ → Wanted
wanted_of range None = wants.TotalUnknown
wanted_of None (Some total) = wants.Interval (record { lo = 0; hi = total })
wanted_of (Some asked) (Some total) = wanted_part (resolved_span asked total)
