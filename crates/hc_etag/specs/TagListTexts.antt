-- What a text says as a list of entity tags, as a function (RFC 9110 sections 5.6.1 and 13.1.2).
use Rattle.std.specs.Prelude.{ℕ, ◌==◌, ◌&&◌, Bool, true, false, List, [], ◌∷◌, ◌++◌, bytes_eq, if◌then◌else◌, Option, Some, None, option_map}
use Rattle.hc_text.specs.Elements.{comma, is_blank}
use Rattle.hc_etag.specs.Etags.{quote, is_etagc}
use Rattle.hc_etag.specs.declared.list.TagList.{TagList}
use Rattle.hc_etag.specs.declared.list.TagList.TheVariants.{Any, Tags}
use Rattle.hc_etag.specs.Tags.{any_text, values_of}

-- Where the reading of a list stands: between tags, of which one may come next or not; behind the W or the slash of a
-- weak one; or within its quotes, behind these bytes.
pub data Place : Type 0 where
  Between : (may_come : Bool) → Place
  BehindW : Place
  BehindSlash : Place
  Within : (weak : Bool) (opaque : List ℕ) → Place

-- a tag in front of those behind it
abbrev pub with_tag : Bool × List ℕ → Option (List (Bool × List ℕ)) → Option (List (Bool × List ℕ))
with_tag tag tags = option_map (λ more. tag ∷ more) tags

-- the tags that a text lists from a place on
abbrev pub tags_from : Place → List ℕ → Option (List (Bool × List ℕ))
tags_from (Between may_come) [] = Some []
tags_from (Between may_come) (b ∷ text) =
    if is_blank b then tags_from (Between may_come) text
    else if b == comma then tags_from (Between true) text
    else if may_come && b == quote then tags_from (Within false []) text
    else if may_come && b == 87 then tags_from BehindW text
    else None
tags_from BehindW [] = None
tags_from BehindW (b ∷ text) = if b == 47 then tags_from BehindSlash text else None
tags_from BehindSlash [] = None
tags_from BehindSlash (b ∷ text) = if b == quote then tags_from (Within true []) text else None
tags_from (Within weak opaque) [] = None
tags_from (Within weak opaque) (b ∷ text) =
    if b == quote then with_tag (weak, opaque) (tags_from (Between false) text)
    else if is_etagc b then tags_from (Within weak (opaque ++ b ∷ [])) text
    else None

-- Any tag, or these.
pub data Listed : Type 0 where
  AnyTag : Listed
  TheseTags : (tags : List (Bool × List ℕ)) → Listed

-- one tag at least
abbrev pub if_some : Option (List (Bool × List ℕ)) → Option Listed
if_some None = None
if_some (Some []) = None
if_some (Some (tag ∷ tags)) = Some (TheseTags (tag ∷ tags))

-- what the text lists, where it is a list
unfoldable pub list_in : List ℕ → Option Listed
list_in text = if bytes_eq text any_text then Some AnyTag else if_some (tags_from (Between true) text)

-- a list that was read, as plain values
abbrev pub plain_list : TagList → Listed
plain_list Any = AnyTag
plain_list (Tags items) = TheseTags (values_of items)
