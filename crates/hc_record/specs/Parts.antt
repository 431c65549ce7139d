-- The parts of a record as a reader takes them.
use Rattle.std.specs.Prelude.{◌≡◌, ℕ, ◌||◌, Bool, IsTrue, List, ◌++◌, MatchBool}
pub use Rattle.hc_fields.specs.FieldList.{IsListOf}
use Rattle.hc_record.specs.declared.parts.Seal.{Seal}
use Rattle.hc_record.specs.declared.parts.Numbers.{Numbers}
use Rattle.hc_record.specs.declared.parts.FirstLines.{FirstLines}
use Rattle.hc_record.specs.declared.version.Version.{Version}
use Rattle.hc_record.specs.Lines.{IsSmall, IsSmallTotal, version_line, seal_line, numbers_line, tag_line}
use Rattle.hc_rules.specs.Statuses.{brings_whole, brings_part}

abbrev pub seal_text : Seal → List ℕ
seal_text seal = seal_line seal.kind seal.total

abbrev pub IsSmallSeal : Seal → Type 0
IsSmallSeal seal = IsSmallTotal seal.total

abbrev pub numbers_text : Numbers → List ℕ
numbers_text n = numbers_line n.status n.requested n.answered n.vary_count n.count

pub record AreSmall (n : Numbers) : Type 0 where
  pub status : IsSmall n.status
  pub requested : IsSmall n.requested
  pub answered : IsSmall n.answered
  pub vary_count : IsSmall n.vary_count
  pub count : IsSmall n.count

abbrev pub first_text : FirstLines → List ℕ
first_text first = version_line first.version ++ (seal_text first.seal ++ numbers_text first.numbers)

pub record AreFirst (first : FirstLines) : Type 0 where
  pub seal : IsSmallSeal first.seal
  pub numbers : AreSmall first.numbers
  pub status_is : first.status ≡ first.numbers.status
  pub known_status : IsTrue (brings_whole first.status || brings_part first.status)

-- it is told whether two texts make one line in this version
abbrev pub ReportsSame : Version → List ℕ → List ℕ → Bool → Type 0
ReportsSame version text own same =
    MatchBool same (tag_line version text ≡ tag_line version own)
    (¬ (tag_line version text ≡ tag_line version own))
