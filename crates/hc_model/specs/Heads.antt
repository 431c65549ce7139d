-- The head of a representation: as it is founded, and as a later one updates it (RFC 9111 sections 3.1 and 3.2).
use Rattle.std.specs.Prelude.{ℕ, List, codes, bytes_eq, Bool, filter, if◌then◌else◌, Option, Some, None}
use Rattle.std.specs.List.{list_any}
use Rattle.http_header.specs.Token.{lowercase}
use Rattle.hc_fields.specs.FieldList.{without}
use Rattle.hc_fields.specs.FirstValues.{elements_in}
use Rattle.hc_range.specs.declared.range.ContentRange.{ContentRange}
use Rattle.hc_range.specs.declared.range.ContentRange.TheVariants as range
use Rattle.hc_event.specs.declared.event.Response.{Response}
use Rattle.hc_record.specs.Head.{Head, joining_of}
use Rattle.hc_record.specs.declared.kind.Kind.TheVariants as kind
use Rattle.hc_rules.specs.RangeTexts.{content_range_of}
use Rattle.hc_rules.specs.Statuses.{brings_part}
use Rattle.hc_validate.specs.Updates.{FieldPairs, updated_fields}
use Rattle.hc_model.specs.Rows.{Exchange}
use Rattle.hc_model.specs.ExchangeRows.{promise_in}

-- the fields of a founding head, without its length, which stands beside them
abbrev pub kept_fields : FieldPairs → FieldPairs
kept_fields fields = without (codes "content-length") (without (codes "content-range") fields)

abbrev pub is_varied : FieldPairs → List ℕ × List ℕ → Bool
is_varied fields f =
    list_any (λ name. bytes_eq (lowercase name) f.0) (elements_in (codes "vary") fields)

-- the fields of a request that Vary names (RFC 9111 section 4.1)
abbrev pub varied_by : FieldPairs → FieldPairs → FieldPairs
varied_by asked fields = filter (is_varied fields) asked

abbrev pub total_of_part : Option ContentRange → Option ℕ
total_of_part None = None
total_of_part (Some (range.Part first last total)) = total
total_of_part (Some (range.Unsatisfied total)) = None

-- the length of what a head founds
abbrev pub founded_total : Exchange → Response → Option ℕ
founded_total w response =
    if brings_part response.status then total_of_part (content_range_of response.fields)
    else promise_in w response

-- the head of what is founded at this moment. How much of a representation is stored isn't read from its head
abbrev pub founded_head : ℕ → Response → Exchange → Head
founded_head now response w = record {
  kind = kind.Growing;
  total = founded_total w response;
  status = response.status;
  requested = w.opened;
  answered = now;
  joining = joining_of (kept_fields response.fields);
  vary_fields = varied_by w.request.fields response.fields;
  fields = kept_fields response.fields;
}

-- the head, updated at this moment by that of an exchange
abbrev pub updated_head : ℕ → Response → Exchange → Head → Head
updated_head now response w head = record head {
  requested = w.opened;
  answered = now;
  fields = updated_fields head.fields response.fields;
}
