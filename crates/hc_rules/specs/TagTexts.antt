-- The entity tag of a head, as a function (RFC 9110 section 8.8.3).
use Rattle.std.specs.Prelude.{ℕ, Bool, true, false, List, codes, bytes_eq, Option, Some, None}
use Rattle.std.specs.Option.{option_and_then}
use Rattle.hc_fields.specs.FieldList.{values_of}
use Rattle.hc_fields.specs.FirstValues.{only_of}
use Rattle.hc_etag.specs.TagTexts.{strong_in}

-- the strong tag of a head, where its ETag stands once and is one
abbrev pub strong_of : List (List ℕ × List ℕ) → Option (List ℕ)
strong_of fields = option_and_then strong_in (only_of (values_of (codes "etag") fields))

abbrev pub is_same_tag : Option (List ℕ) → List ℕ → Bool
is_same_tag None opaque = false
is_same_tag (Some other) opaque = bytes_eq other opaque

-- the tag of the head is strongly equal to this one (RFC 9110 section 8.8.3.2)
abbrev pub strongly_equals : List (List ℕ × List ℕ) → Bool → List ℕ → Bool
strongly_equals fields true opaque = false
strongly_equals fields false opaque = is_same_tag (strong_of fields) opaque
