-- The conditional requests of the cache (RFC 9111 section 4.3.1).
use Rattle.std.specs.Prelude.{ℕ, Bool, List, Option, Some, None, codes, is_some, if◌then◌else◌}
use Rattle.hc_fields.specs.FirstValues.{first_value}
use Rattle.hc_record.specs.Head.{Head}
use Rattle.hc_event.specs.declared.event.Request.{Request}
use Rattle.hc_fresh.specs.Ages.{date_in}
use Rattle.hc_validate.specs.Updates.{FieldPairs, with_one}
use Rattle.hc_validate.specs.Selection.{tag_of}

-- the condition with this value, where there is one and it applies
abbrev pub with_condition : Bool → List ℕ → Option (List ℕ) → FieldPairs → FieldPairs
with_condition applies name None fields = fields
with_condition applies name (Some value) fields = if applies then with_one name value fields else fields

-- on the stored tag, where there is one
abbrev pub with_tag : Head → FieldPairs → FieldPairs
with_tag head fields =
    with_condition (is_some (tag_of head.fields)) (codes "if-none-match") (first_value (codes "etag") head.fields) fields

-- on the stored date of the last change, where it is one
abbrev pub with_date : Head → FieldPairs → FieldPairs
with_date head fields =
    with_condition (is_some (date_in (codes "last-modified") head.fields)) (codes "if-modified-since")
    (first_value (codes "last-modified") head.fields) fields

-- the request on condition that what is stored has changed
abbrev pub conditional : Head → Request → Request
conditional head request = record request { fields = with_date head (with_tag head request.fields) }
