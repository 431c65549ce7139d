-- The grammar of Range and Content-Range, of one range of bytes (RFC 9110 sections 14.1.2 and 14.4).
use Rattle.std.specs.Prelude.{◌≡◌, ℕ, ◌<◌, ◌≤◌, List, ◌++◌, codes, Option, Some, None}
use Rattle.std.specs.Str.{str_to_ascii_lowercase}
use Rattle.hc_text.specs.Numbers.{IsNumber}
use Rattle.hc_range.specs.declared.range.RangeSpec.{RangeSpec}
use Rattle.hc_range.specs.declared.range.RangeSpec.TheVariants.{From, FromTo, Last}
use Rattle.hc_range.specs.declared.range.ContentRange.{ContentRange}
use Rattle.hc_range.specs.declared.range.ContentRange.TheVariants.{Part, Unsatisfied}

-- a first and a last position with a hyphen between them
abbrev pub SpellsPositions : List ℕ → ℕ → ℕ → Type 0
SpellsPositions text first last =
    (a : List ℕ) × (b : List ℕ) × IsNumber a first × IsNumber b last × (first ≤ last) × (text ≡ a ++ codes "-" ++ b)

-- int-range or suffix-range
abbrev pub SpellsSpec : List ℕ → RangeSpec → Type 0
SpellsSpec text (From first) = (a : List ℕ) × IsNumber a first × (text ≡ a ++ codes "-")
SpellsSpec text (FromTo first last) = SpellsPositions text first last
SpellsSpec text (Last n) = (b : List ℕ) × IsNumber b n × (text ≡ codes "-" ++ b)

-- ranges-specifier with one range, the unit in any case
abbrev pub SpellsRange : List ℕ → RangeSpec → Type 0
SpellsRange text asked =
    (unit : List ℕ) × (spec : List ℕ) × (str_to_ascii_lowercase unit ≡ codes "bytes=") × SpellsSpec spec asked × (text ≡ unit ++ spec)

-- the whole length, above the last position, or an asterisk where it isn't known
abbrev pub SpellsTotal : List ℕ → ℕ → Option ℕ → Type 0
SpellsTotal text last None = text ≡ codes "*"
SpellsTotal text last (Some total) = IsNumber text total × (last < total)

-- range-resp or unsatisfied-range
abbrev pub SpellsResponse : List ℕ → ContentRange → Type 0
SpellsResponse text (Part first last total) =
    (positions : List ℕ) × (length : List ℕ) × SpellsPositions positions first last × SpellsTotal length last total × (text ≡ positions ++ codes "/" ++ length)
SpellsResponse text (Unsatisfied total) = (length : List ℕ) × IsNumber length total × (text ≡ codes "*/" ++ length)

-- Content-Range, the unit in any case, since names of range units are compared without case (RFC 9110 section 14.1), and
-- with one space
abbrev pub SpellsContentRange : List ℕ → ContentRange → Type 0
SpellsContentRange text range =
    (unit : List ℕ) × (response : List ℕ) × (str_to_ascii_lowercase unit ≡ codes "bytes ") × SpellsResponse response range × (text ≡ unit ++ response)
