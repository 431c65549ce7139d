-- Lines that stand in a text, and what a text that grows keeps of them.
--
-- A mark names ranges of a text, and a range stays where the text grows (`range-grown`); so do the fields at marks
-- (`fields_at-grown`). A line that is put at the end stands behind all else, so its mark names its own name and value
-- (`field_at-new`). With that mark in the place of some others the fields are the old ones with the new one there
-- (`fields_at-with`). `packed_more` copies lines to another text, one by one.
use Rattle.std.{proofs.{Common.{◌≡◌, ℕ, ◌+◌, ◌-◌, ◌<◌, ◌≤◌, List, [], ◌∷◌, ◌++◌, length, take, drop, get_or, refl, sym, ap, ◌∙◌, arith, length-append}, lemmas.List.{append_assoc, append-nil, map_more, map-append, take-map, drop-map, take_at, drop_at, take-append-le, drop-append-le, length-drop, Elements.{All-head, All-tail, All-append, All-cons, All-nil, All-take, All-drop}}}, specs.{Prelude.{slice_range, codes}, List.{All}}}
use Rattle.hc_fields.specs.{declared.mark.Mark.{Mark}, Lines.{field_text}, Marks.{field_at, fields_at, mark_of, IsLineAt, IsPacked}}
use Rattle.hc_fields.proofs.LineLemmas.{fields_text-push}

-- a range of a text stays where the text grows
pub range-grown : (text more : List ℕ) (i j : ℕ) → i ≤ j → j ≤ length text → slice_range (text ++ more) i j ≡ slice_range text i j
range-grown text more i j order within =
    rw (drop-append-le i text more (omega arith))
    (take-append-le (j - i) (drop i text) more (omega (arith, length-drop i text)))

pub field_at-grown : (text more : List ℕ) (mark : Mark) → IsLineAt text mark → field_at (text ++ more) mark ≡ field_at text mark
unfolding field_at
field_at-grown text more mark line =
    let has_name = line.has_name in
    let has_value = line.has_value in
    let within = line.within in
    let name = range-grown text more mark.start mark.colon has_name (omega arith) in
    let value = range-grown text more (mark.colon + 2) mark.end has_value (omega arith) in
    rw (name, value) refl

pub IsLineAt-grown : (text more : List ℕ) (mark : Mark) → IsLineAt text mark → IsLineAt (text ++ more) mark
IsLineAt-grown text more mark line =
    let has_name = line.has_name in
    let has_value = line.has_value in
    let within = line.within in
    record {
      has_name = has_name;
      has_value = has_value;
      within = omega (arith, length-append text more);
      line = range-grown text more mark.start (mark.end + 1) (omega arith) (omega arith) ∙
          (line.line ∙ ap field_text (sym (field_at-grown text more mark line)));
    }

pub lines-grown : (text more : List ℕ) (marks : List Mark) → All (IsLineAt text) marks → All (IsLineAt (text ++ more)) marks
lines-grown text more marks lines = λ k d lt. IsLineAt-grown text more (get_or marks k d) (lines k d lt)

pub fields_at-grown : (text more : List ℕ) (marks : List Mark) → All (IsLineAt text) marks → fields_at (text ++ more) marks ≡ fields_at text marks
fields_at-grown text more [] lines = refl
fields_at-grown text more (m ∷ marks) lines =
    rw (field_at-grown text more m (All-head (IsLineAt text) m marks lines), fields_at-grown text more marks (All-tail (IsLineAt text) m marks lines)) refl

pub length-field_text : (name value : List ℕ) → length (field_text (name, value)) ≡ length name + length value + 3
length-field_text name value =
    omega (arith, length-append name (codes ": "), length-append (name ++ codes ": ") value, length-append ((name ++ codes ": ") ++ value) (10 ∷ []))

-- a part that stands behind another
pub range-behind : (before part rest : List ℕ) (i j : ℕ) → length before ≡ i → i + length part ≡ j → slice_range (before ++ (part ++ rest)) i j ≡ part
range-behind before part rest i j i_is j_is =
    let count : length part ≡ j - i = omega arith in
    rw (drop_at before (part ++ rest) i i_is) (take_at part rest (j - i) count)

-- a line at the end of a text, and its mark
module _ (text name value : List ℕ) where
  abbrev pub mark : Mark
  mark = mark_of (length text) (length name) (length value)

  value_stands : text ++ field_text (name, value) ≡ (text ++ (name ++ codes ": ")) ++ (value ++ 10 ∷ [])
  value_stands = simp append_assoc

  name_stands : text ++ field_text (name, value) ≡ text ++ (name ++ (codes ": " ++ (value ++ 10 ∷ [])))
  name_stands = simp append_assoc

  pub field_at-new : field_at (text ++ field_text (name, value)) mark ≡ (name, value)
  unfolding field_at
  field_at-new =
      let first : slice_range (text ++ field_text (name, value)) mark.start mark.colon ≡ name =
      rw name_stands (range-behind text name (codes ": " ++ (value ++ 10 ∷ [])) mark.start mark.colon refl refl) in
      let second : slice_range (text ++ field_text (name, value)) (mark.colon + 2) mark.end ≡ value =
      rw value_stands (range-behind (text ++ (name ++ codes ": ")) value (10 ∷ []) (mark.colon + 2) mark.end
      (omega (arith, length-append text (name ++ codes ": "), length-append name (codes ": "))) (omega arith)) in
      rw (first, second) refl

  pub IsLineAt-new : IsLineAt (text ++ field_text (name, value)) mark
  IsLineAt-new =
      let len = length-field_text name value in
      record {
        has_name = omega arith;
        has_value = omega arith;
        within = omega (arith, length-append text (field_text (name, value)), len);
        line = rw field_at-new (ap (λ (l : List ℕ). slice_range l mark.start (mark.end + 1))
            (ap (λ (l : List ℕ). text ++ l) (sym (append-nil (field_text (name, value))))) ∙
            range-behind text (field_text (name, value)) [] mark.start (mark.end + 1) refl (omega (arith, len)));
      }

-- the marks with one in the place of those from i up to j, in a text with its line at the end
abbrev pub marks_with : List Mark → ℕ → ℕ → Mark → List Mark
marks_with marks i j m = take i marks ++ m ∷ drop j marks

pub fields_at-with : (text name value : List ℕ) (marks : List Mark) (i j : ℕ) → All (IsLineAt text) marks →
    fields_at (text ++ field_text (name, value)) (marks_with marks i j (mark text name value)) ≡ take i (fields_at text marks) ++ (name, value) ∷
    drop j (fields_at text marks)
fields_at-with text name value marks i j lines =
    let line = field_text (name, value) in
    let grown = fields_at-grown text line marks lines in
    map-append (field_at (text ++ line)) (take i marks) (mark text name value ∷ drop j marks)
    ∙ rw (field_at-new text name value, ← take-map (field_at (text ++ line)) i marks, ← drop-map (field_at (text ++ line)) j marks, grown) refl

pub lines-with : (text name value : List ℕ) (marks : List Mark) (i j : ℕ) → All (IsLineAt text) marks →
    All (IsLineAt (text ++ field_text (name, value))) (marks_with marks i j (mark text name value))
lines-with text name value marks i j lines =
    let line = field_text (name, value) in
    let P : Mark → Type 0 = IsLineAt (text ++ line) in
    let grown = lines-grown text line marks lines in
    All-append P (take i marks) (mark text name value ∷ drop j marks) (All-take P i marks grown)
    (All-cons P (mark text name value) (drop j marks) (IsLineAt-new text name value) (All-drop P j marks grown))

-- one more line at the end, with its mark
pub push_fields : (text name value : List ℕ) (marks : List Mark) → All (IsLineAt text) marks →
    fields_at (text ++ field_text (name, value)) (marks ++ mark text name value ∷ []) ≡ fields_at text marks ++ (name, value) ∷ []
push_fields text name value marks lines =
    map-append (field_at (text ++ field_text (name, value))) marks (mark text name value ∷ [])
    ∙ rw (field_at-new text name value, fields_at-grown text (field_text (name, value)) marks lines) refl

pub push_lines : (text name value : List ℕ) (marks : List Mark) → All (IsLineAt text) marks →
    All (IsLineAt (text ++ field_text (name, value))) (marks ++ mark text name value ∷ [])
push_lines text name value marks lines =
    let P : Mark → Type 0 = IsLineAt (text ++ field_text (name, value)) in
    All-append P marks (mark text name value ∷ []) (lines-grown text (field_text (name, value)) marks lines)
    (All-cons P (mark text name value) [] (IsLineAt-new text name value) (All-nil P))

-- one more line is packed
pub packed_more : (text : List ℕ) (marks : List Mark) (i : ℕ) (d : Mark) (lines : List ℕ) (places : List Mark) (new_lines : List ℕ)
    (new_places : List Mark) (name value : List ℕ) → i < length marks → IsPacked text (take i marks) lines places →
    name ≡ (field_at text (get_or marks i d)).0 → value ≡ (field_at text (get_or marks i d)).1 → new_lines ≡ lines ++
    field_text (field_at text (get_or marks i d)) → new_places ≡ places ++ mark_of (length lines) (length name) (length value) ∷ [] →
    IsPacked text (take (i + 1) marks) new_lines new_places
packed_more text marks i d lines places new_lines new_places name value lt packed name_is value_is lines_are places_are =
    let f = field_at text (get_or marks i d) in
    let field : field_at text (get_or marks i d) ≡ (name, value) = rw (name_is, value_is) refl in
    let own : new_lines ≡ lines ++ field_text (name, value) = lines_are ∙ ap (λ (g : List ℕ × List ℕ). lines ++ field_text g) field in
    let whole : fields_at text (take (i + 1) marks) ≡ fields_at text (take i marks) ++ (name, value) ∷ [] =
    map_more (field_at text) marks i d lt ∙ rw field refl in
    record {
      same = rw (own, places_are, whole) (push_fields lines name value places packed.lines_at ∙ rw packed.same refl);
      lines_at = rw (own, places_are) (push_lines lines name value places packed.lines_at);
      text_is = rw (own, whole, fields_text-push (fields_at text (take i marks)) (name, value))
          (ap (λ (l : List ℕ). l ++ field_text (name, value)) packed.text_is);
    }
