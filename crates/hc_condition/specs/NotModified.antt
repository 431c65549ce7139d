-- Whether the caller's copy is still what would be answered, and what a 304 tells then.
use Rattle.std.specs.Prelude.{ℕ, List, [], ◌∷◌, ◌==◌, ◌&&◌, nat_le, Bool, true, false, codes, bytes_eq, filter, Option, Some, None}
use Rattle.std.specs.List.{list_any}
use Rattle.hc_fields.specs.FieldList.{without}
use Rattle.hc_event.specs.declared.event.Request.{Request}
use Rattle.hc_validate.specs.Origin.{has_tag}
use Rattle.hc_validate.specs.Selection.{tag_of}
use Rattle.hc_etag.specs.TagListTexts.{Listed, AnyTag, TheseTags, list_in}
use Rattle.hc_condition.specs.External.{none_match_of, only_date}

-- THE CONDITION (RFC 9110 section 13.2.2)

-- the tag is listed, by the weak comparison (RFC 9110 sections 8.8.3.2 and 13.1.2)
abbrev pub lists : Option Listed → Option (Bool × List ℕ) → Bool
lists None tag = false
lists (Some AnyTag) tag = true
lists (Some (TheseTags tags)) None = false
lists (Some (TheseTags tags)) (Some tag) = has_tag tag.1 tags

-- there are both moments, and the first isn't after the second
abbrev pub is_no_later : Option ℕ → Option ℕ → Bool
is_no_later (Some last) (Some since) = nat_le last since
is_no_later _ _ = false

-- by If-None-Match where it stands, and else by If-Modified-Since (RFC 9110 section 13.1.3)
abbrev pub has_same : Option (List ℕ) → List (List ℕ × List ℕ) → List (List ℕ × List ℕ) → Bool
has_same (Some text) asked fields = lists (list_in text) (tag_of fields)
has_same None asked fields =
    is_no_later (only_date (codes "last-modified") fields)
    (only_date (codes "if-modified-since") asked)

-- a head with this status and these fields would be that of the copy (RFC 9111 section 4.3.2)
unfoldable pub is_not_modified : Request → ℕ → List (List ℕ × List ℕ) → Bool
is_not_modified request status fields =
    status == 200 && has_same (none_match_of request.fields) request.fields fields

-- THE ANSWER (RFC 9110 section 15.4.5)

abbrev pub names_of_304 : List (List ℕ)
names_of_304 =
    codes "age" ∷ codes "cache-control" ∷ codes "content-location" ∷ codes "date" ∷ codes "etag"
    ∷ codes "expires" ∷ codes "vary" ∷ []

-- a field that a 304 tells
abbrev pub is_reported : List ℕ × List ℕ → Bool
is_reported field = list_any (bytes_eq field.0) names_of_304

-- the fields of a head that a 304 tells
abbrev pub fields_of_304 : List (List ℕ × List ℕ) → List (List ℕ × List ℕ)
fields_of_304 fields = filter is_reported fields

-- the request without the condition
abbrev pub unconditioned : Request → Request
unconditioned request = record request {
  fields = without (codes "if-modified-since") (without (codes "if-none-match") request.fields);
}
