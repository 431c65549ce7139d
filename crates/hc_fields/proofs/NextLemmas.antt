-- One more field line of a text that is read.
use Rattle.std.{proofs.{Common.{◌≡◌, ℕ, ◌+◌, ◌<◌, ◌≤◌, false, not, List, [], ◌∷◌, ◌++◌, length, take, drop, sym, ap, ◌∙◌, arith, length-append}, lemmas.{Bool.{both_ways}, List.{append_assoc, take-append-drop, take_at, length-map, length-take-le, length-drop, Sums.{sum_by_push}}}}, specs.List.{list_all}}
use Rattle.hc_fields.specs.{declared.{mark.Mark.{Mark}, reading.Read.{Read}}, FieldList.{IsField, IsFieldList, IsListOf, comes_before}, Lines.{field_text, fields_text, BeginsWith}, Marks.{field_at, fields_at, mark_of, AreMarked}, Read.{IsRead}}
use Rattle.hc_fields.proofs.{Edits.{IsFieldList-put}, Ends.{NoneAfter, put-last, sorted-last}, FieldTexts.{IsLine-field, field_once, no_next}, LineLemmas.{fields_text-push}, MarkLemmas.{lines-grown, fields_at-grown, push_fields, push_lines}}

abbrev Pair : Type 0
Pair = List ℕ × List ℕ

module _ (text : List ℕ) (marks : List Mark) (read : Read) (is : IsRead text marks read) where
  abbrev done : List Pair
  done = fields_at (take read.len text) marks

  pub fields-whole : fields_at text marks ≡ done
  fields-whole =
      let grown = fields_at-grown (take read.len text) (drop read.len text) marks is.marked.lines in
      rw (take-append-drop read.len text) at grown

  pub marked-whole : AreMarked text marks
  marked-whole =
      let grown = lines-grown (take read.len text) (drop read.len text) marks is.marked.lines in
      record { lines = rw (take-append-drop read.len text) at grown; list = rw fields-whole is.marked.list }

  pub length-done : length done ≡ length marks
  length-done = length-map marks (field_at (take read.len text))

  pub text-done : fields_text done ++ drop read.len text ≡ text
  text-done = ap (λ (l : List ℕ). l ++ drop read.len text) (sym is.lines) ∙ take-append-drop read.len text

  -- no list of lines goes on where none follows that makes a list
  pub none_next : (count : ℕ) → length marks < count →
      ((f : Pair) (after : List ℕ) → IsFieldList (done ++ f ∷ []) → field_text f ++ after ≡ drop read.len text → ⊥) → (fs : List Pair) (after : List ℕ) →
      IsListOf count fs → fields_text fs ++ after ≡ text → ⊥
  none_next count more none =
      no_next done count (drop read.len text) text is.marked.list (omega (arith, length-done, more)) text-done none

  module _ (name value : List ℕ) (field : IsField (name, value)) (begins : BeginsWith (field_text (name, value)) (drop read.len text)) where
    -- a field whose line follows is the one that was read
    pub same_next : (f : Pair) (after : List ℕ) → IsFieldList (done ++ f ∷ []) → IsField f → field_text f ++ after ≡ drop read.len text →
        IsFieldList (done ++ (name, value) ∷ [])
    same_next f after list own same =
        let once = field_once f (name, value) after _ (IsLine-field f own) (IsLine-field (name, value) field) (same ∙ sym begins) in
        rw once.0 at list

    pub too_many : IsFieldList (done ++ (name, value) ∷ []) → 80 ≤ length marks → ⊥
    too_many list many =
        let few = list.few in
        omega (arith, few, many, length-done, length-append done ((name, value) ∷ []))

    pub too_long : IsFieldList (done ++ (name, value) ∷ []) → 49152 < read.size + length name + length value → ⊥
    too_long list long =
        let small = list.small in
        let was = is.size_is in
        let sizes = sum_by_push (λ (f : Pair). length f.0 + length f.1) done (name, value) in
        omega (arith, small, long, was, sizes)

    pub too_early : IsFieldList (done ++ (name, value) ∷ []) → list_all (λ (f : Pair). not (comes_before name f.0)) done ≡ false → ⊥
    too_early list early = both_ways _ early (sorted-last done (name, value) list.sorted)

    -- the text with one line more
    grown : take (read.len + length (field_text (name, value))) text ≡ take read.len text ++ field_text (name, value)
    grown =
        let line = field_text (name, value) in
        let within = is.within in
        let front = length-take-le read.len text within in
        let whole : (take read.len text ++ line) ++ drop (length line) (drop read.len text) ≡ text =
        append_assoc (take read.len text) line (drop (length line) (drop read.len text))
        ∙ (ap (λ (l : List ℕ). take read.len text ++ l) begins ∙ take-append-drop read.len text) in
        ap (take (read.len + length line)) (sym whole)
        ∙ take_at (take read.len text ++ line) (drop (length line) (drop read.len text)) _ (omega (arith, front, length-append (take read.len text) line))

    line_within : read.len + length (field_text (name, value)) ≤ length text
    line_within =
        let line = field_text (name, value) in
        omega (arith, is.within, ap length begins, length-append line (drop (length line) (drop read.len text)), length-drop read.len text)

    pub IsRead-push : length marks < 80 → read.size + length name + length value ≤ 49152 → NoneAfter name done → (new_marks : List Mark) (next : Read) →
        new_marks ≡ marks ++ mark_of read.len (length name) (length value) ∷ [] → next.len ≡ read.len + length (field_text (name, value)) →
        next.size ≡ read.size + length name + length value → IsRead text new_marks next
    IsRead-push few small last new_marks next marks_are len_is size_is =
        let front : length (take read.len text) ≡ read.len = length-take-le read.len text is.within in
        let marks_new : new_marks ≡ marks ++ mark_of (length (take read.len text)) (length name) (length value) ∷ [] = rw front marks_are in
        let was = is.size_is in
        let put_is = put-last name value done last in
        let own : fields_at (take next.len text) new_marks ≡ done ++ (name, value) ∷ [] =
        rw (len_is, grown, marks_new) (push_fields (take read.len text) name value marks is.marked.lines) in
        let list = rw put_is at (IsFieldList-put name value done is.marked.list field (omega (arith, few, length-done)) (omega (arith, small, was))) in
        record {
          within = rw len_is line_within;
          marked = record {
            lines = rw (len_is, grown, marks_new) (push_lines (take read.len text) name value marks is.marked.lines);
            list = rw own list;
          };
          lines = rw (own, len_is, grown, fields_text-push done (name, value)) (ap (λ (l : List ℕ). l ++ field_text (name, value)) is.lines);
          size_is = rw own (omega (arith, size_is, was, sum_by_push (λ (f : Pair). length f.0 + length f.1) done (name, value)));
        }
