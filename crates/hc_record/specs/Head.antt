-- The plain head: what a stored head tells, as data.
use Rattle.std.specs.Prelude.{◌≡◌, ℕ, ◌-◌, ◌||◌, ◌&&◌, IsTrue, List, [], ◌∷◌, ◌++◌, length, take, drop, codes, bytes_eq, if◌then◌else◌, Option, Some, None}
use Rattle.std.specs.Option.{ForSome, option_map}
use Rattle.std.specs.List.{list_all}
use Rattle.hc_text.specs.Texts.{IsSmall}
use Rattle.hc_etag.specs.declared.tag.Tag.{Tag}
use Rattle.hc_etag.specs.Etags.{is_etagc, quote}
use Rattle.hc_fields.specs.FieldList.{values_of, IsFieldList, IsWithinLimits}
use Rattle.hc_record.specs.declared.kind.Kind.{Kind}
use Rattle.hc_rules.specs.Statuses.{brings_whole, brings_part}

pub record Head : Type 0 where
  pub kind : Kind
  pub total : Option ℕ
  pub status : ℕ
  pub requested : ℕ
  pub answered : ℕ
  pub joining : Option (List ℕ)
  pub vary_fields : List (List ℕ × List ℕ)
  pub fields : List (List ℕ × List ℕ)

abbrev pub IsSmallTotal : Option ℕ → Type 0
IsSmallTotal total = ForSome total IsSmall

-- what stands between the first and the last byte
abbrev pub inside_of : List ℕ → List ℕ
inside_of text = take (length text - 2) (drop 1 text)

-- what stands between the quotes of a strong entity tag (RFC 9110 section 8.8.3), where the text is one
abbrev pub strong_opaque : List ℕ → Option (List ℕ)
strong_opaque text =
    if bytes_eq text (quote ∷ inside_of text ++ quote ∷ []) && list_all is_etagc (inside_of text) then Some (inside_of text) else None

-- the same of the one value, where it is one
abbrev pub one_strong_opaque : List (List ℕ) → Option (List ℕ)
one_strong_opaque [] = None
one_strong_opaque (value ∷ []) = strong_opaque value
one_strong_opaque (value ∷ other ∷ values) = None

-- the tag by which other parts join the representation (RFC 9110 section 15.3.7.3): that of `etag`, where it
-- stands once, is a tag and isn't weak
abbrev pub joining_of : List (List ℕ × List ℕ) → Option (List ℕ)
joining_of fields = one_strong_opaque (values_of (codes "etag") fields)

-- what stands between the quotes of a tag
abbrev pub opaque_of : Option Tag → Option (List ℕ)
opaque_of tag = option_map (λ (t : Tag). t.opaque) tag

-- what holds of each stored head: each of its numbers has a spelling, and so have its fields
pub record IsHead (head : Head) : Type 0 where
  pub known_status : IsTrue (brings_whole head.status || brings_part head.status)
  pub small_total : IsSmallTotal head.total
  pub small_requested : IsSmall head.requested
  pub small_answered : IsSmall head.answered
  pub own_joining : head.joining ≡ joining_of head.fields
  pub vary_list : IsFieldList head.vary_fields
  pub list : IsFieldList head.fields
  pub within_limits : IsWithinLimits head.fields

-- the head with another kind and another total
abbrev pub sealed_head : Kind → Option ℕ → Head → Head
sealed_head kind total head = record head { kind = kind; total = total }
