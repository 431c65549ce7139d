-- What is shown of a stored head (RFC 9111 sections 4 and 5.1, RFC 9110 sections 14.4 and 15.3.7).
use Rattle.std.specs.Prelude.{ℕ, ◌-◌, Bool, true, Option, Some, None, codes}
use Rattle.std.specs.Fmt.{decimal}
use Rattle.hc_record.specs.Head.{Head}
use Rattle.hc_range.specs.declared.range.Span.{Span}
use Rattle.hc_range.specs.Spans.{content_range_text}
use Rattle.hc_event.specs.declared.event.Response.{Response}
use Rattle.hc_event.specs.declared.act.Why.{Why}
use Rattle.hc_event.specs.declared.act.Why.TheVariants as why
use Rattle.hc_validate.specs.Updates.{FieldPairs, with_one}

-- an answer that isn't validated tells its age
abbrev pub with_age : Why → FieldPairs → FieldPairs
with_age (why.Fetched x) fields = fields
with_age (why.Fresh age lifetime) fields = with_one (codes "age") (decimal age) fields
with_age (why.StaleAllowed age lifetime) fields = with_one (codes "age") (decimal age) fields
with_age (why.Validated x) fields = fields

abbrev pub with_length : Option ℕ → FieldPairs → FieldPairs
with_length None fields = fields
with_length (Some total) fields = with_one (codes "content-length") (decimal total) fields

abbrev pub with_range : Span → ℕ → FieldPairs → FieldPairs
with_range span total fields =
    with_one (codes "content-range") (content_range_text span total)
    (with_one (codes "content-length") (decimal (span.hi - span.lo)) fields)

-- the interval, where it is one of a known whole
abbrev pub part_of : Bool → Option Span → Option ℕ → Option (Span × ℕ)
part_of true (Some span) (Some total) = Some (span, total)
part_of _ _ _ = None

abbrev pub shown_as : Option (Span × ℕ) → Option ℕ → FieldPairs → Response
shown_as None total fields = record { status = 200; fields = with_length total fields }
shown_as (Some (span, whole)) total fields = record { status = 206; fields = with_range span whole fields }

-- a 206 for a consumer with a range that was resolved, and else a 200
abbrev pub shown_response : Head → Why → Option Span → Bool → Response
shown_response head why span ranged = shown_as (part_of ranged span head.total) head.total (with_age why head.fields)
