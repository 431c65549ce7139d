-- Whether a 304 is about what is stored (RFC 9111 section 4.3.4).
use Rattle.std.specs.Prelude.{◌==◌, ◌&&◌, ◌||◌, not, Bool, codes, ℕ, true, false, List, bytes_eq, Option, Some}
use Rattle.hc_cachectl.specs.Directives.{of_response}
use Rattle.hc_fields.specs.FirstValues.{has_field, only_of}
use Rattle.hc_record.specs.Head.{Head}
use Rattle.hc_event.specs.declared.event.Response.{Response}
use Rattle.std.specs.Option.{option_and_then}
use Rattle.hc_fields.specs.FieldList.{values_of}
use Rattle.hc_etag.specs.TagTexts.{tag_in}

-- The entity tag of a head (RFC 9110 section 8.8.3).

-- the tag of a head, where ETag stands once and is one
abbrev pub tag_of : List (List ℕ × List ℕ) → Option (Bool × List ℕ)
tag_of fields = option_and_then tag_in (only_of (values_of (codes "etag") fields))

-- The comparison by which an answer selects what is stored (RFC 9111 section 4.3.4): a strong tag is compared strongly, a weak one
-- weakly.
abbrev pub selects_by : Option (Bool × List ℕ) → Option (Bool × List ℕ) → Bool
selects_by (Some (true, opaque)) (Some (weak, stored)) = bytes_eq opaque stored
selects_by (Some (false, opaque)) (Some (weak, stored)) = not weak && bytes_eq opaque stored
selects_by _ _ = false

-- it has no tag, or one that fits that of the stored head
abbrev pub selects : Head → Response → Bool
selects head response =
    response.status == 304
    && not (of_response response.fields).no_store
    && (not (has_field (codes "etag") response.fields) || selects_by (tag_of response.fields) (tag_of head.fields))
