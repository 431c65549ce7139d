-- Lists of entity tags, as a recipient reads them (RFC 9110 sections 5.6.1 and 13.1.2).
use Rattle.std.specs.Prelude.{◌≡◌, ◌≢◌, ℕ, Bool, true, false, List, [], ◌∷◌, ◌++◌, codes, map}
use Rattle.hc_text.specs.Elements.{comma, is_blank}
use Rattle.hc_etag.specs.declared.tag.Tag.{Tag}
use Rattle.hc_etag.specs.Etags.{IsOpaque, SpellsOnly, SpellsTag, tag_text}

-- a tag's mark and the bytes between its quotes
abbrev pub value_of : Tag → Bool × List ℕ
value_of tag = (tag.weak, tag.opaque)

-- the tag is the text's
abbrev pub IsTagOf : List ℕ → Tag → Type 0
IsTagOf text tag = SpellsTag text tag.weak tag.opaque

-- the text is no other tag
abbrev pub IsOnlyTagOf : List ℕ → Tag → Type 0
IsOnlyTagOf text tag = SpellsOnly text tag.weak tag.opaque

abbrev pub values_of : List Tag → List (Bool × List ℕ)
values_of tags = map value_of tags

-- The text spells these tags, where a tag may come first or may not, since another stands just before.
pub data SpellsTags : Bool → List ℕ → List (Bool × List ℕ) → Type 0 where
  ends : (may_come : Bool) → SpellsTags may_come [] []
  blank : (may_come : Bool) (b : ℕ) (text : List ℕ) (tags : List (Bool × List ℕ)) → is_blank b ≡ true → SpellsTags may_come text tags → SpellsTags may_come (b ∷ text) tags
  separator : (may_come : Bool) (text : List ℕ) (tags : List (Bool × List ℕ)) → SpellsTags true text tags → SpellsTags may_come (comma ∷ text) tags
  tag : (weak : Bool) (opaque : List ℕ) (text : List ℕ) (tags : List (Bool × List ℕ)) → IsOpaque opaque → SpellsTags false text tags → SpellsTags true (tag_text weak opaque ++ text) ((weak, opaque) ∷ tags)

-- one tag at least, between commas; empty elements and blanks count for nothing
abbrev pub IsTagList : List ℕ → List (Bool × List ℕ) → Type 0
IsTagList text tags = SpellsTags true text tags × (tags ≢ [])

-- any tag
abbrev pub any_text : List ℕ
any_text = codes "*"
