-- What a text and its marks represent once a line was put or some went.
--
-- The line is put at the end of the text, and its mark in the place of those of its name. The fields are then the list
-- with this one in that place (`fields-put`), which is the list of the definitions (`put_is`, `set_is`). Where fields
-- go, those of all other names are left (`left_is`). The work is in `IsKept-put`, `IsKept-set` and `IsKept-left`: the
-- list keeps its limits, and the size is what was counted. The text is that of its fields as long as it is in order.
use Rattle.std.{specs.{Prelude.{filter, slice_get, Some}, List.{All, remove_range}, Char.{to_ascii_lowercase}}, proofs.{lemmas.{Option.{slice_get-map, slice_get-get_or}, List.{length-map, get_or-map, take-map, drop-map, map-append, take_at, take_all, drop_all, take-append-drop, Elements.{All-append, All-take, All-drop}, Sums.{sum_by_more}}}, Common.{◌≡◌, ℕ, Bool, true, get_or, ◌+◌, ◌-◌, ◌<◌, ◌≤◌, List, [], ◌∷◌, ◌++◌, length, take, drop, map, refl, sym, ◌∙◌, ap, arith, add-zero}}}
use Rattle.http_header.specs.Token.{lowercase}
use Rattle.http_header.proofs.TokenLemmas.{IsHeaderName-lowercase}
use Rattle.hc_fields.specs.{declared.{mark.Mark.{Mark}, search.Place.{Place}}, FieldList.{field_list_with, size_of, has_name, without, is_sorted, start_of, end_of, IsField, IsAllowed, HasPlace}, Place.{IsPlace}, Lines.{field_text, fields_text}, Marks.{field_at, fields_at, IsLineAt, IsKept}}
use Rattle.hc_fields.proofs.{Sorted.{Pair, is_parted}, Edits.{put-insert, put-without, size_of-put, IsFieldList-put, IsFieldList-without}, LineLemmas.{fields_text-push}, MarkLemmas.{mark, marks_with, fields_at-with, lines-with}}

-- the lowered name and the value of an allowed field
pub IsField-lowered : (count size : ℕ) (name value : List ℕ) → HasPlace count size name value → IsField (lowercase name, value)
IsField-lowered count size name value h =
    let fits = h.fits in
    let own = IsHeaderName-lowercase name (h.is_name, omega arith) in
    record { is_name = own.0.0; is_lower = own.1; is_value = h.is_value; is_short = h.is_short }

pub length-lowercase : (name : List ℕ) → length (lowercase name) ≡ length name
length-lowercase name = length-map name to_ascii_lowercase

pub length-fields_at : (text : List ℕ) (marks : List Mark) → length (fields_at text marks) ≡ length marks
length-fields_at text marks = length-map marks (field_at text)

-- a text with a line more, and the marks with that of the line in the place of those from i up to j
pub record IsPut (text : List ℕ) (marks : List Mark) (name value : List ℕ) (i j : ℕ) (new_text : List ℕ) (new_marks : List Mark) : Type 0 where
  pub text_is : new_text ≡ text ++ field_text (name, value)
  pub marks_are : new_marks ≡ marks_with marks i j (mark text name value)

-- the fields of all lines, with this one in the place of those from i up to j
pub fields-put : (text : List ℕ) (marks : List Mark) (name value : List ℕ) (i j : ℕ) (new_text : List ℕ) (new_marks : List Mark) →
    All (IsLineAt text) marks → IsPut text marks name value i j new_text new_marks → fields_at new_text new_marks ≡ take i (fields_at text marks) ++
    (name, value) ∷ drop j (fields_at text marks)
fields-put text marks name value i j new_text new_marks lines is =
    rw (is.text_is, is.marks_are) (fields_at-with text name value marks i j lines)

-- a field that is put at the end of those of its name
pub put_is : (text : List ℕ) (marks : List Mark) (name value : List ℕ) (at : ℕ) (new_text : List ℕ) (new_marks : List Mark) → All (IsLineAt text) marks →
    at ≡ end_of name (fields_at text marks) → IsPut text marks name value at at new_text new_marks →
    fields_at new_text new_marks ≡ field_list_with name value (fields_at text marks)
put_is text marks name value at new_text new_marks lines at_is is =
    fields-put text marks name value at at new_text new_marks lines is
    ∙ rw at_is (sym (put-insert name value (fields_at text marks)))

-- a field in the place of those of its name
pub set_is : (text : List ℕ) (marks : List Mark) (name value : List ℕ) (p : Place) (new_text : List ℕ) (new_marks : List Mark) →
    All (IsLineAt text) marks → is_sorted (fields_at text marks) ≡ true → IsPlace name (fields_at text marks) p →
    IsPut text marks name value p.start (p.start + p.count) new_text new_marks →
    fields_at new_text new_marks ≡ field_list_with name value (without name (fields_at text marks))
set_is text marks name value p new_text new_marks lines sorted place is =
    fields-put text marks name value p.start (p.start + p.count) new_text new_marks lines is
    ∙ rw (place.end_is, place.start_is) (sym (put-without name value (fields_at text marks) sorted))

-- the lines stay in order where the new one is the last
pub text-put : (text : List ℕ) (marks : List Mark) (name value : List ℕ) (i j : ℕ) (new_text : List ℕ) (new_marks : List Mark) →
    All (IsLineAt text) marks → IsPut text marks name value i j new_text new_marks → i ≡ length marks → i ≤ j →
    text ≡ fields_text (fields_at text marks) → new_text ≡ fields_text (fields_at new_text new_marks)
text-put text marks name value i j new_text new_marks lines is i_is order text_is =
    let fs = fields_at text marks in
    let len = length-fields_at text marks in
    let all : take i fs ≡ fs = take_all i fs (omega arith) in
    let none : drop j fs ≡ [] = drop_all j fs (omega arith) in
    let own : fields_at new_text new_marks ≡ fs ++ (name, value) ∷ [] =
    fields-put text marks name value i j new_text new_marks lines is ∙ rw (all, none) refl in
    is.text_is ∙ (rw own (rw (fields_text-push fs (name, value)) (ap (λ (l : List ℕ). l ++ field_text (name, value)) text_is)))

pub lines-put : (text : List ℕ) (marks : List Mark) (name value : List ℕ) (i j : ℕ) (new_text : List ℕ) (new_marks : List Mark) →
    All (IsLineAt text) marks → IsPut text marks name value i j new_text new_marks → All (IsLineAt new_text) new_marks
lines-put text marks name value i j new_text new_marks lines is =
    rw (is.text_is, is.marks_are) (lines-with text name value marks i j lines)

pub IsKept-put : (text : List ℕ) (marks : List Mark) (size : ℕ) (name value : List ℕ) (at : ℕ) (new_text : List ℕ) (new_marks : List Mark)
    (in_order new_order : Bool) → IsKept text marks size in_order → IsAllowed (fields_at text marks) name value →
    at ≡ end_of (lowercase name) (fields_at text marks) → IsPut text marks (lowercase name) value at at new_text new_marks →
    (new_order ≡ true → (in_order ≡ true) × (at ≡ length marks)) → IsKept new_text new_marks (size + (length name + length value)) new_order
IsKept-put text marks size name value at new_text new_marks in_order new_order kept allowed at_is is stays =
    let fs = fields_at text marks in
    let lines = kept.marked.lines in
    let lower = length-lowercase name in
    let size_is = size_of-put (lowercase name) value fs in
    let was = kept.size_is in
    let fits = allowed.fits in
    let own = put_is text marks (lowercase name) value at new_text new_marks lines at_is is in
    record {
      marked = record {
        lines = lines-put text marks (lowercase name) value at at new_text new_marks lines is;
        list = rw own (IsFieldList-put (lowercase name) value fs kept.marked.list (IsField-lowered _ _ name value allowed) allowed.has_place (omega arith));
      };
      size_is = rw own (omega arith);
      text_is = λ e.
          let both = stays e in
          text-put text marks (lowercase name) value at at new_text new_marks lines is both.1 (omega arith) (kept.text_is both.0);
    }

-- the fields of a name, as a part of the list
pub fields_at-named : (text : List ℕ) (marks : List Mark) (name : List ℕ) (start end : ℕ) → is_sorted (fields_at text marks) ≡ true →
    start ≡ start_of name (fields_at text marks) → end ≡ end_of name (fields_at text marks) →
    fields_at text (take (end - start) (drop start marks)) ≡ filter (has_name name) (fields_at text marks)
fields_at-named text marks name start end sorted start_is end_is =
    let parted = is_parted name (fields_at text marks) sorted in
    let behind = parted.end_is in
    let count : end - start ≡ length (filter (has_name name) (fields_at text marks)) = omega arith in
    sym (take-map (field_at text) (end - start) (drop start marks))
    ∙ rw (← drop-map (field_at text) start marks, start_is, parted.named, ← start_is, count)
    (take_at (filter (has_name name) (fields_at text marks)) (drop (end_of name (fields_at text marks)) (fields_at text marks)) _ refl)

abbrev bytes : Pair → ℕ
bytes f = length f.0 + length f.1

-- the bytes of one more field
pub size_of-more : (text : List ℕ) (marks : List Mark) (i : ℕ) (d : Mark) → i < length marks →
    size_of (take (i + 1) (fields_at text marks)) ≡ size_of (take i (fields_at text marks))
    + (length (field_at text (get_or marks i d)).0 + length (field_at text (get_or marks i d)).1)
size_of-more text marks i d lt =
    let len = length-fields_at text marks in
    let at : get_or (fields_at text marks) i (field_at text d) ≡ field_at text (get_or marks i d) =
    get_or-map (field_at text) marks i d (field_at text d) lt in
    sum_by_more bytes (fields_at text marks) i (field_at text d) (omega arith) ∙ rw at refl

pub fields_at-remove_range : (text : List ℕ) (marks : List Mark) (i j : ℕ) → fields_at text (remove_range marks i j) ≡ remove_range (fields_at text marks) i j
fields_at-remove_range text marks i j = simp (map-append, take-map, drop-map)

-- the fields of all other names are left
pub left_is : (text : List ℕ) (marks new : List Mark) (name : List ℕ) (p : Place) → is_sorted (fields_at text marks) ≡ true →
    IsPlace name (fields_at text marks) p → new ≡ remove_range marks p.start (p.start + p.count) → fields_at text new ≡ without name (fields_at text marks)
left_is text marks new name p sorted place is =
    let parted = is_parted name (fields_at text marks) sorted in
    rw (is, fields_at-remove_range text marks p.start (p.start + p.count), place.end_is, place.start_is) (sym parted.others)

pub IsKept-left : (text : List ℕ) (marks new : List Mark) (old : ℕ) (name : List ℕ) (p : Place) (in_order new_order : Bool) →
    IsKept text marks old in_order → IsPlace name (fields_at text marks) p → new ≡ remove_range marks p.start (p.start + p.count) →
    (new_order ≡ true → (in_order ≡ true) × (p.count ≡ 0)) → IsKept text new (old - p.size) new_order
IsKept-left text marks new old name p in_order new_order kept place is stays =
    let fs = fields_at text marks in
    let lines = kept.marked.lines in
    let was = kept.size_is in
    let others = place.other_bytes in
    let left = left_is text marks new name p kept.marked.list.sorted place is in
    record {
      marked = record {
        lines = rw is (All-append (IsLineAt text) (take p.start marks) (drop (p.start + p.count) marks) (All-take (IsLineAt text) p.start marks lines)
            (All-drop (IsLineAt text) (p.start + p.count) marks lines));
        list = rw left (IsFieldList-without name fs kept.marked.list);
      };
      size_is = rw left (omega (arith, was, others));
      text_is = λ e.
          let both = stays e in
          let same : new ≡ marks = is ∙ rw (both.1, add-zero) (take-append-drop p.start marks) in
          rw same (kept.text_is both.0);
    }

-- a field in place of those of its name
pub IsKept-set : (text : List ℕ) (marks : List Mark) (old : ℕ) (name value : List ℕ) (p : Place) (new_text : List ℕ) (new_marks : List Mark)
    (in_order new_order : Bool) → IsKept text marks old in_order → IsPlace (lowercase name) (fields_at text marks) p →
    IsAllowed (without (lowercase name) (fields_at text marks)) name value →
    IsPut text marks (lowercase name) value p.start (p.start + p.count) new_text new_marks →
    (new_order ≡ true → (in_order ≡ true) × (p.start ≡ length marks)) → IsKept new_text new_marks (old - p.size + length name + length value) new_order
IsKept-set text marks old name value p new_text new_marks in_order new_order kept place allowed is stays =
    let fs = fields_at text marks in
    let lines = kept.marked.lines in
    let others = without (lowercase name) fs in
    let lower = length-lowercase name in
    let size_is = size_of-put (lowercase name) value others in
    let was = kept.size_is in
    let other_bytes = place.other_bytes in
    let fits = allowed.fits in
    let own = set_is text marks (lowercase name) value p new_text new_marks lines kept.marked.list.sorted place is in
    record {
      marked = record {
        lines = lines-put text marks (lowercase name) value p.start (p.start + p.count) new_text new_marks lines is;
        list = rw own (IsFieldList-put (lowercase name) value others (IsFieldList-without (lowercase name) fs kept.marked.list)
            (IsField-lowered _ _ name value allowed) allowed.has_place (omega (arith, fits, lower)));
      };
      size_is = rw own (omega (arith, size_is, lower, was, other_bytes));
      text_is = λ e.
          let both = stays e in
          text-put text marks (lowercase name) value p.start (p.start + p.count) new_text new_marks lines is both.1 (omega arith) (kept.text_is both.0);
    }

-- the count and the size of all other fields
pub others_are : (text : List ℕ) (marks : List Mark) (old : ℕ) (name : List ℕ) (p : Place) (in_order : Bool) → IsKept text marks old in_order →
    IsPlace name (fields_at text marks) p → (length marks - p.count ≡ length (without name (fields_at text marks))) ×
    (old - p.size ≡ size_of (without name (fields_at text marks)))
others_are text marks old name p in_order kept place =
    let was = kept.size_is in
    let other_count = place.others in
    let other_bytes = place.other_bytes in
    let len = length-fields_at text marks in
    (omega (arith, other_count, len), omega (arith, was, other_bytes))

-- the value of the field at a place
pub value_at : (text : List ℕ) (marks : List Mark) (i : ℕ) (m : Mark) → i < length marks → m ≡ get_or marks i m →
    slice_get (map (λ (g : Pair). g.1) (fields_at text marks)) i ≡ Some (field_at text m).1
value_at text marks i m lt is =
    rw (slice_get-map (λ (g : Pair). g.1) (fields_at text marks) i, slice_get-map (field_at text) marks i, slice_get-get_or marks i m lt, ← is) refl

-- the last field
pub last_at : (text : List ℕ) (marks : List Mark) (d : Mark) → 1 ≤ length marks →
    slice_get (fields_at text marks) (length (fields_at text marks) - 1) ≡ Some (field_at text (get_or marks (length marks - 1) d))
last_at text marks d some =
    rw (length-fields_at text marks, slice_get-map (field_at text) marks (length marks - 1), slice_get-get_or marks (length marks - 1) d (omega arith)) refl
