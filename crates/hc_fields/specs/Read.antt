-- How far a text was read as field lines.
use Rattle.std.specs.Prelude.{◌≡◌, ℕ, ◌≤◌, List, length, take}
use Rattle.hc_fields.specs.declared.mark.Mark.{Mark}
use Rattle.hc_fields.specs.declared.reading.Read.{Read}
use Rattle.hc_fields.specs.FieldList.{size_of}
use Rattle.hc_fields.specs.Lines.{fields_text}
use Rattle.hc_fields.specs.Marks.{fields_at, AreMarked}

-- the text begins with the lines at the marks, up to what was read
pub record IsRead (text : List ℕ) (marks : List Mark) (read : Read) : Type 0 where
  pub within : read.len ≤ length text
  pub marked : AreMarked (take read.len text) marks
  pub lines : take read.len text ≡ fields_text (fields_at (take read.len text) marks)
  pub size_is : read.size ≡ size_of (fields_at (take read.len text) marks)
