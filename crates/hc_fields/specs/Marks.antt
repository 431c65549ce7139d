-- Lines of fields that stand in a text, each found by its mark.
use Rattle.std.specs.Prelude.{◌≡◌, ℕ, ◌+◌, ◌<◌, ◌≤◌, Bool, true, List, length, map, All, slice_range}
use Rattle.hc_fields.specs.declared.mark.Mark.{Mark}
use Rattle.hc_fields.specs.FieldList.{IsFieldList, size_of, separated_values}
use Rattle.hc_fields.specs.Lines.{field_text, fields_text}

-- the name and the value that stand at the mark
unfoldable pub field_at : List ℕ → Mark → List ℕ × List ℕ
field_at text mark = (slice_range text mark.start mark.colon, slice_range text (mark.colon + 2) mark.end)

-- the fields of the marks, in order
abbrev pub fields_at : List ℕ → List Mark → List (List ℕ × List ℕ)
fields_at text marks = map (field_at text) marks

-- the mark of a line that begins here, with a name and a value of so many bytes
abbrev pub mark_of : ℕ → ℕ → ℕ → Mark
mark_of start name_len value_len =
    record { start = start; colon = start + name_len; end = start + name_len + 2 + value_len }

-- the line of a field stands at the mark
pub record IsLineAt (text : List ℕ) (mark : Mark) : Type 0 where
  pub has_name : mark.start ≤ mark.colon
  pub has_value : mark.colon + 2 ≤ mark.end
  pub within : mark.end < length text
  pub line : slice_range text mark.start (mark.end + 1) ≡ field_text (field_at text mark)

-- a line stands at each mark, and the fields are a list
pub record AreMarked (text : List ℕ) (marks : List Mark) : Type 0 where
  pub lines : All (IsLineAt text) marks
  pub list : IsFieldList (fields_at text marks)

-- the values of the fields, each behind a comma and a space
abbrev pub separated_text : List ℕ → List Mark → List ℕ
separated_text text marks = separated_values (map (λ (m : Mark). (field_at text m).1) marks)

-- what holds of a text with the marks of its lines: their size is known, and whether the text has just
-- these lines in this order
pub record IsKept (text : List ℕ) (marks : List Mark) (size : ℕ) (in_order : Bool) : Type 0 where
  pub marked : AreMarked text marks
  pub size_is : size ≡ size_of (fields_at text marks)
  pub text_is : in_order ≡ true → text ≡ fields_text (fields_at text marks)

-- the fields at the marks, in a text that has just their lines in order
pub record IsPacked (text : List ℕ) (marks : List Mark) (lines : List ℕ) (places : List Mark) : Type 0 where
  pub same : fields_at lines places ≡ fields_at text marks
  pub lines_at : All (IsLineAt lines) places
  pub text_is : lines ≡ fields_text (fields_at text marks)
