-- The record of a stored head.
use Rattle.std.specs.Prelude.{◌≡◌, ℕ, ◌||◌, IsTrue, List, ◌++◌, length, Option}
use Rattle.hc_fields.specs.Lines.{fields_text}
use Rattle.hc_record.specs.declared.kind.Kind.{Kind}
use Rattle.hc_record.specs.declared.version.Version.{Version}
use Rattle.hc_record.specs.Head.{Head}
use Rattle.hc_record.specs.Lines.{version_line, seal_line, numbers_line, joining_text, tag_line}
use Rattle.hc_rules.specs.Statuses.{brings_whole, brings_part}

-- the line of status, moments and counts of fields of a head
abbrev pub head_numbers : Head → List ℕ
head_numbers head = numbers_line head.status head.requested head.answered (length head.vary_fields) (length head.fields)

-- the lines of all fields
abbrev pub field_lines : Head → List ℕ
field_lines head = fields_text head.vary_fields ++ fields_text head.fields

-- the lines behind that of kind and total
abbrev pub later_lines : Version → Head → List ℕ
later_lines version head = head_numbers head ++ (tag_line version (joining_text head.joining) ++ field_lines head)

-- the record of the head with this kind and this total
abbrev pub spelling_with : Kind → Option ℕ → Version → Head → List ℕ
spelling_with kind total version head = version_line version ++ (seal_line kind total ++ later_lines version head)

-- the record of the head
abbrev pub spelling : Version → Head → List ℕ
spelling version head = spelling_with head.kind head.total version head

-- the text is the record of the head, of either version
abbrev pub IsRecordOf : List ℕ → Head → Type 0
IsRecordOf text head = (version : Version) × (spelling version head ≡ text)

-- the text begins as a record, up to its fields
pub record HasFirstLines (text : List ℕ) : Type 0 where
  pub version : Version
  pub kind : Kind
  pub total : Option ℕ
  pub status : ℕ
  pub requested : ℕ
  pub answered : ℕ
  pub vary_count : ℕ
  pub count : ℕ
  pub rest : List ℕ
  pub known_status : IsTrue (brings_whole status || brings_part status)
  pub text_is : version_line version ++ (seal_line kind total ++ (numbers_line status requested answered vary_count count ++ rest)) ≡ text
