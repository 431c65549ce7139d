-- What the test origin answers.
use Rattle.std.specs.Prelude.{◌≡◌, ℕ, ◌==◌, ◌+◌, ◌%◌, ◌&&◌, ◌||◌, ◌⊎◌, ◌↔◌, nat_le, not, Bool, true, false, List, [], ◌∷◌, ◌++◌, drop, take, codes, bytes_eq, if◌then◌else◌, Option, Some, None, IsTrue, IfSome, IsSomeAnd}
use Rattle.std.specs.List.{list_any, prefix_len, take_while}
use Rattle.std.specs.Option.{option_and_then}
use Rattle.std.specs.Fmt.{decimal}
use Rattle.std.specs.Str.Parse.{digits_value}
use Rattle.hc_etag.specs.declared.tag.Tag.{Tag}
use Rattle.hc_etag.specs.Etags.{tag_text}
use Rattle.hc_etag.specs.Tags.{IsTagList, any_text}
use Rattle.hc_etag.specs.TagTexts.{strong_in}
use Rattle.hc_event.specs.declared.event.Request.{Request}
use Rattle.hc_fields.specs.FieldList.{joined_of, values_of}
use Rattle.hc_fields.specs.FirstValues.{has_field, only_of}
use Rattle.hc_range.specs.declared.range.RangeSpec.{RangeSpec}
use Rattle.hc_range.specs.declared.range.Span.{Span}
use Rattle.hc_range.specs.Ranges.{SpellsRange}
use Rattle.hc_range.specs.Spans.{resolved_span}
use Rattle.hc_validate.specs.Updates.{FieldPairs, with_one}
use Rattle.hc_validate.specs.Showing.{with_length, with_range}
use Rattle.hc_validate.specs.declared.origin.Answer.{Answer}

-- WHAT IS ASKED FOR

abbrev pub is_other : ℕ → ℕ → Bool
is_other byte b = not (b == byte)

-- what stands behind the first slash
abbrev pub behind_slash : List ℕ → List ℕ
behind_slash text = drop (prefix_len (is_other 47) text + 1) text

-- what follows the third slash of a key, up to a question mark
abbrev pub path_of : List ℕ → List ℕ
path_of key = take_while (is_other 63) (behind_slash (behind_slash (behind_slash key)))

-- the number up to 1,048,576 that the text is the plain decimal of
abbrev pub size_in : List ℕ → Option ℕ
size_in text =
    if bytes_eq text (decimal (digits_value 10 text)) && nat_le (digits_value 10 text) 1048576
    then Some (digits_value 10 text) else None

-- N, where the path is /d/N
abbrev pub size_at : List ℕ → Option ℕ
size_at path = if bytes_eq (take 2 path) (codes "d/") then size_in (drop 2 path) else None

-- how many bytes are asked for, by a GET of such a path
abbrev pub size_asked : Request → Option ℕ
size_asked request =
    if bytes_eq request.method (codes "GET") then size_at (path_of request.key) else None

-- ITS CONDITIONS, of a representation whose ETag has these bytes between its quotes

-- the tag has these bytes between its quotes
abbrev pub is_tag : List ℕ → Tag → Bool
is_tag opaque tag = bytes_eq tag.opaque opaque

-- these tags have one that is weakly equal (RFC 9110 section 8.8.3.2)
abbrev pub has_tag : List ℕ → List (Bool × List ℕ) → Bool
has_tag opaque tags = list_any (λ (tag : Bool × List ℕ). bytes_eq tag.1 opaque) tags

-- the text is the asterisk, or lists such a tag
abbrev pub Lists : List ℕ → List ℕ → Type 0
Lists opaque text =
    (text ≡ any_text) ⊎ ((tags : List (Bool × List ℕ)) × IsTagList text tags × (has_tag opaque tags ≡ true))

-- If-None-Match, its values joined, does (RFC 9110 section 13.1.2)
abbrev pub IsListed : List ℕ → FieldPairs → Type 0
IsListed opaque fields = IsSomeAnd (joined_of (values_of (codes "if-none-match") fields)) (Lists opaque)

-- the one value of Range
abbrev pub range_of : FieldPairs → Option (List ℕ)
range_of fields = only_of (values_of (codes "range") fields)

-- what Range asks for, where it stands once and can be read (RFC 9110 section 14.2)
abbrev pub IsAsked : FieldPairs → Option RangeSpec → Type 0
IsAsked fields (Some asked) = IsSomeAnd (range_of fields) (λ text. SpellsRange text asked)
IsAsked fields None = IfSome (range_of fields) (λ text. (asked : RangeSpec) → ¬ (SpellsRange text asked))

-- what If-Range has between its quotes, where it stands once and is a strong tag
abbrev pub if_range : FieldPairs → Option (List ℕ)
if_range fields = option_and_then strong_in (only_of (values_of (codes "if-range") fields))

abbrev pub is_just : Option (List ℕ) → List ℕ → Bool
is_just None opaque = false
is_just (Some other) opaque = bytes_eq other opaque

-- a part may be answered: no If-Range stands, or one that is strongly equal (RFC 9110 section 13.1.5)
abbrev pub may_cut : List ℕ → FieldPairs → Bool
may_cut opaque fields = not (has_field (codes "if-range") fields) || is_just (if_range fields) opaque

-- THE ANSWERS, of a representation of n bytes

-- the byte at a position
abbrev pub origin_byte : ℕ → ℕ
origin_byte at = 97 + at % 26

-- the fields that each of its answers has
abbrev pub common : ℕ → FieldPairs
common n =
    (codes "accept-ranges", codes "bytes") ∷ (codes "cache-control", codes "max-age=60")
    ∷ (codes "etag", tag_text false (decimal n)) ∷ []

-- a head, and the interval of the bytes that follow it
abbrev pub answer_of : ℕ → FieldPairs → ℕ → ℕ → Answer
answer_of status fields lo hi = record { response = record { status = status; fields = fields }; lo = lo; hi = hi }

-- there is no such representation, or the method isn't GET
abbrev pub missing : Answer
missing = answer_of 404 (with_length (Some 0) []) 0 0

-- the tag is one of those that are had
abbrev pub not_modified_answer : ℕ → Answer
not_modified_answer n = answer_of 304 (common n) 0 0

abbrev pub whole : ℕ → Answer
whole n = answer_of 200 (with_length (Some n) (common n)) 0 n

abbrev pub part : ℕ → Span → Answer
part n span = answer_of 206 (with_range span n (common n)) span.lo span.hi

-- the length of which no byte is in the range (RFC 9110 section 14.4)
abbrev pub with_unsatisfied : ℕ → FieldPairs → FieldPairs
with_unsatisfied n fields =
    with_one (codes "content-range") (codes "bytes */" ++ decimal n) (with_length (Some 0) fields)

-- no byte of the range is there (RFC 9110 section 15.5.17)
abbrev pub unsatisfied_answer : ℕ → Answer
unsatisfied_answer n = answer_of 416 (with_unsatisfied n (common n)) 0 0

abbrev pub cut_by : ℕ → Option Span → Answer
cut_by n None = unsatisfied_answer n
cut_by n (Some span) = part n span

-- by the range that is asked for, where a part may be answered
abbrev pub ranged_by : ℕ → Bool → Option RangeSpec → Answer
ranged_by n true (Some asked) = cut_by n (resolved_span asked n)
ranged_by n _ _ = whole n

-- the first case that applies
abbrev pub answer_by : ℕ → Bool → Bool → Option RangeSpec → Answer
answer_by n listed may_cut asked = if listed then not_modified_answer n else ranged_by n may_cut asked

-- what is read of a request's fields: whether If-None-Match lists the tag, and what Range asks for
pub record IsRead (n : ℕ) (fields : FieldPairs) (listed : Bool) (asked : Option RangeSpec) : Type 0 where
  pub listed_is : IsTrue listed ↔ IsListed (decimal n) fields
  pub asked_is : IsAsked fields asked

abbrev pub IsAnswerOf : Option ℕ → FieldPairs → Answer → Type 0
IsAnswerOf None fields answer = answer ≡ missing
IsAnswerOf (Some n) fields answer =
    (listed : Bool) × (asked : Option RangeSpec) × IsRead n fields listed asked
    × (answer ≡ answer_by n listed (may_cut (decimal n) fields) asked)

-- the answer is the one to this request
abbrev pub IsOriginAnswer : Request → Answer → Type 0
IsOriginAnswer request answer = IsAnswerOf (size_asked request) request.fields answer
