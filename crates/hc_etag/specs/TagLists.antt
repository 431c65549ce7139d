-- What `read_tag_list` reads.
use Rattle.std.specs.Prelude.{◌≡◌, ◌≢◌, ℕ, List, Bool, true}
use Rattle.hc_etag.specs.declared.tag.Tag.{Tag}
use Rattle.hc_etag.specs.declared.list.TagList.{TagList}
use Rattle.hc_etag.specs.declared.list.TagList.TheVariants.{Any, Tags}
use Rattle.hc_etag.specs.Tags.{IsTagList, SpellsTags, values_of, any_text}

-- the text is this list: the asterisk, or tags
abbrev pub SpellsList : List ℕ → TagList → Type 0
SpellsList text Any = text ≡ any_text
SpellsList text (Tags items) = IsTagList text (values_of items)

-- the list holds just these tags
abbrev pub HoldsTags : TagList → List (Bool × List ℕ) → Type 0
HoldsTags Any tags = ⊥
HoldsTags (Tags items) tags = values_of items ≡ tags

-- the text is spelled by no other list of tags
abbrev pub HoldsOnly : List ℕ → TagList → Type 0
HoldsOnly text list = (tags : List (Bool × List ℕ)) → IsTagList text tags → HoldsTags list tags

-- the text is neither the asterisk nor tags
abbrev pub IsNoList : List ℕ → Type 0
IsNoList text = (text ≢ any_text) × ((tags : List (Bool × List ℕ)) → ¬ (IsTagList text tags))

-- the text spells these tags, none of them too
abbrev pub AreTagsOf : List ℕ → List Tag → Type 0
AreTagsOf text tags = SpellsTags true text (values_of tags)

-- the text spells no other tags than these
abbrev pub HasAll : List ℕ → List Tag → Type 0
HasAll text found = (tags : List (Bool × List ℕ)) → SpellsTags true text tags → values_of found ≡ tags

-- the text spells no tags
abbrev pub SpellsNone : List ℕ → Type 0
SpellsNone text = (tags : List (Bool × List ℕ)) → ¬ (SpellsTags true text tags)
