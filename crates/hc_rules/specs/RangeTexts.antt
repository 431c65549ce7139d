-- The texts of Range and Content-Range, as functions (RFC 9110 sections 14.1.2 and 14.4).
use Rattle.std.specs.Prelude.{ℕ, ◌==◌, ◌^◌, ◌&&◌, nat_lt, nat_le, List, [], ◌∷◌, take, drop, length, codes, bytes_eq, if◌then◌else◌, Option, Some, None}
use Rattle.std.specs.Option.{option_map, option_and_then}
use Rattle.std.specs.Str.{str_to_ascii_lowercase, all_ascii_digits}
use Rattle.std.specs.Str.Parse.{digits_value}
use Rattle.hc_fields.specs.FieldList.{values_of}
use Rattle.hc_fields.specs.FirstValues.{only_of}
use Rattle.hc_range.specs.declared.range.RangeSpec.{RangeSpec}
use Rattle.hc_range.specs.declared.range.RangeSpec.TheVariants.{From, FromTo, Last}
use Rattle.hc_range.specs.declared.range.ContentRange.{ContentRange}
use Rattle.hc_range.specs.declared.range.ContentRange.TheVariants.{Part, Unsatisfied}

-- the number that 1 to 20 digits spell, if it is below 2 ^ 62
abbrev pub number_of : List ℕ → Option ℕ
number_of text =
    if nat_le 1 (length text) && nat_le (length text) 20 && all_ascii_digits text
    && nat_lt (digits_value 10 text) (2 ^ 62)
    then Some (digits_value 10 text) else None

-- the byte in front of what stands before
abbrev pub with_byte : ℕ → Option (List ℕ × List ℕ) → Option (List ℕ × List ℕ)
with_byte b None = None
with_byte b (Some (before, after)) = Some (b ∷ before, after)

-- what stands before the first such byte, and what stands behind it
abbrev pub split_at : ℕ → List ℕ → Option (List ℕ × List ℕ)
split_at c [] = None
split_at c (b ∷ text) = if b == c then Some ([], text) else with_byte b (split_at c text)

abbrev pub hyphen : ℕ
hyphen = 45

abbrev pub slash : ℕ
slash = 47

-- two positions, the first not above the last
abbrev pub from_to : Option ℕ → Option ℕ → Option RangeSpec
from_to (Some first) (Some last) = if nat_le first last then Some (FromTo first last) else None
from_to _ _ = None

-- what stands before the hyphen and behind it: positions, or a length where nothing stands before
abbrev pub positions_by : List ℕ → List ℕ → Option RangeSpec
positions_by [] last = option_map Last (number_of last)
positions_by (b ∷ first) [] = option_map From (number_of (b ∷ first))
positions_by (b ∷ first) (d ∷ last) = from_to (number_of (b ∷ first)) (number_of (d ∷ last))

abbrev pub positions_from : Option (List ℕ × List ℕ) → Option RangeSpec
positions_from None = None
positions_from (Some (first, last)) = positions_by first last

-- int-range or suffix-range
abbrev pub spec_in : List ℕ → Option RangeSpec
spec_in text = positions_from (split_at hyphen text)

-- the one range that the value of Range asks for, the unit in any case
unfoldable pub asked_in : List ℕ → Option RangeSpec
asked_in text =
    if bytes_eq (str_to_ascii_lowercase (take 6 text)) (codes "bytes=")
    then spec_in (drop 6 text) else None

-- with the whole length, above the last position, or an asterisk where it isn't known
abbrev pub with_total : ℕ → ℕ → Option ℕ → List ℕ → Option ContentRange
with_total first last (Some total) text =
    if nat_lt last total then Some (Part first last (Some total)) else None
with_total first last None text =
    if bytes_eq text (codes "*") then Some (Part first last None) else None

abbrev pub without_part : List ℕ → List ℕ → Option ContentRange
without_part positions text =
    if bytes_eq positions (codes "*") then option_map Unsatisfied (number_of text) else None

-- what stands before the slash, and the positions that it tells; the length stands behind it
abbrev pub content_range_from : List ℕ → List ℕ → Option RangeSpec → Option ContentRange
content_range_from positions text (Some (FromTo first last)) = with_total first last (number_of text) text
content_range_from positions text (Some (From first)) = None
content_range_from positions text (Some (Last n)) = None
content_range_from positions text None = without_part positions text

abbrev pub response_from : Option (List ℕ × List ℕ) → Option ContentRange
response_from None = None
response_from (Some (positions, text)) = content_range_from positions text (spec_in positions)

-- range-resp or unsatisfied-range
abbrev pub response_in : List ℕ → Option ContentRange
response_in text = response_from (split_at slash text)

-- what the value of Content-Range tells, the unit in any case
unfoldable pub content_range_in : List ℕ → Option ContentRange
content_range_in text =
    if bytes_eq (str_to_ascii_lowercase (take 6 text)) (codes "bytes ")
    then response_in (drop 6 text) else None

-- what the Content-Range of a head tells, where it stands once
abbrev pub content_range_of : List (List ℕ × List ℕ) → Option ContentRange
content_range_of fields =
    option_and_then content_range_in (only_of (values_of (codes "content-range") fields))
