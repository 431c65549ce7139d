-- The requests that the front answers: a GET on condition of a copy that the caller has (RFC 9110 section 13.1).
use Rattle.std.specs.Prelude.{ℕ, List, ◌&&◌, ◌||◌, not, Bool, true, codes, is_some, Option, Some, None}
use Rattle.std.specs.Option.{option_and_then}
use Rattle.httpdate.specs.Date.{parse_secs}
use Rattle.hc_fields.specs.FieldList.{values_of, joined_of}
use Rattle.hc_fields.specs.FirstValues.{has_field, only_of}
use Rattle.hc_cachectl.specs.Directives.{of_request}
use Rattle.hc_event.specs.declared.event.Request.{Request}
use Rattle.hc_rules.specs.Requests.{is_get, disables}
use Rattle.hc_etag.specs.TagListTexts.{list_in}

-- the values of If-None-Match, joined
abbrev pub none_match_of : List (List ℕ × List ℕ) → Option (List ℕ)
none_match_of fields = joined_of (values_of (codes "if-none-match") fields)

-- none stands, or one that is read as a list of tags (RFC 9110 section 13.1.2)
abbrev pub are_tags : Option (List ℕ) → Bool
are_tags None = true
are_tags (Some text) = is_some (list_in text)

-- the date of this name, where it stands once and is one
abbrev pub only_date : List ℕ → List (List ℕ × List ℕ) → Option ℕ
only_date name fields = option_and_then parse_secs (only_of (values_of name fields))

-- If-Modified-Since doesn't stand, or stands once and is a date (RFC 9110 section 13.1.3)
abbrev pub is_date_or_absent : List (List ℕ × List ℕ) → Bool
is_date_or_absent fields =
    not (has_field (codes "if-modified-since") fields)
    || is_some (only_date (codes "if-modified-since") fields)

-- it is on condition of a copy
abbrev pub is_about_copy : List (List ℕ × List ℕ) → Bool
is_about_copy fields =
    has_field (codes "if-none-match") fields || has_field (codes "if-modified-since") fields

-- it asks for a part, on condition of what has not changed, or for what isn't to be stored
abbrev pub asks_more : List (List ℕ × List ℕ) → Bool
asks_more fields =
    has_field (codes "range") fields || has_field (codes "if-match") fields
    || has_field (codes "if-unmodified-since") fields || has_field (codes "if-range") fields
    || (of_request fields).no_store

-- it is such a GET, whose conditions can be read, and asks for nothing more
unfoldable pub is_external : Request → Bool
is_external request =
    is_get request && not (disables request.load) && not (asks_more request.fields)
    && is_about_copy request.fields && are_tags (none_match_of request.fields)
    && is_date_or_absent request.fields
