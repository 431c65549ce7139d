-- The lines of a record before its fields.
use Rattle.std.specs.Prelude.{ℕ, ◌-◌, List, [], ◌∷◌, ◌++◌, length, replicate, false, codes, Option, Some, None, slice_set}
use Rattle.std.specs.List.{replace_range}
use Rattle.std.specs.Fmt.{decimal}
use Rattle.hc_etag.specs.Etags.{tag_text}
use Rattle.hc_record.specs.declared.kind.Kind.{Kind}
use Rattle.hc_record.specs.declared.kind.Kind.TheVariants.{Growing, Whole, Truncated, Ranges}
use Rattle.hc_record.specs.declared.version.Version.{Version}
use Rattle.hc_record.specs.declared.version.Version.TheVariants.{First, Second}
pub use Rattle.hc_text.specs.Texts.{IsSmall}
pub use Rattle.hc_record.specs.Head.{IsSmallTotal}

-- the line of a version
abbrev pub version_line : Version → List ℕ
version_line First = codes "record 1" ++ 10 ∷ []
version_line Second = codes "record 2" ++ 10 ∷ []

-- `G`, `W`, `T` or `R`
abbrev pub kind_byte : Kind → ℕ
kind_byte Growing = 71
kind_byte Whole = 87
kind_byte Truncated = 84
kind_byte Ranges = 82

-- 20 digits with leading zeros, or 20 hyphens
abbrev pub total_text : Option ℕ → List ℕ
total_text None = replicate 20 45
total_text (Some total) = replicate (20 - length (decimal total)) 48 ++ decimal total

-- the line of kind and total
abbrev pub seal_line : Kind → Option ℕ → List ℕ
seal_line kind total = kind_byte kind ∷ 32 ∷ total_text total ++ 10 ∷ []

-- a text with another kind at byte 9 and another total at bytes 11 to 30
abbrev pub sealed_record : Kind → Option ℕ → List ℕ → List ℕ
sealed_record kind total text = replace_range (slice_set text 9 (kind_byte kind)) 11 31 (total_text total)

-- a plain number and the byte behind it
abbrev pub number_and_end : ℕ → ℕ → List ℕ
number_and_end end n = decimal n ++ end ∷ []

-- the line of status, moments and counts of fields
abbrev pub numbers_line : ℕ → ℕ → ℕ → ℕ → ℕ → List ℕ
numbers_line status requested answered vary_count count =
    number_and_end 32 status ++ (number_and_end 32 requested ++ (number_and_end 32 answered ++ (number_and_end 32 vary_count ++ number_and_end 10 count)))

-- the tag in its spelling, or a hyphen
abbrev pub joining_text : Option (List ℕ) → List ℕ
joining_text None = codes "-"
joining_text (Some opaque) = tag_text false opaque

-- the line of a tag's text, which the first version has not
abbrev pub tag_line : Version → List ℕ → List ℕ
tag_line First text = []
tag_line Second text = codes "tag " ++ (text ++ 10 ∷ [])
