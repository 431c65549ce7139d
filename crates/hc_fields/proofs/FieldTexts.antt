-- Field lines: a text begins with one of them at most, and spells one list of a length.
--
-- A name has no colon and a value has no line feed, so a line is cut in one way only (`field_once`). Two lists of lines
-- that begin one text agree line by line: `rest_of` goes by induction and says what is left of the longer one behind
-- the shorter. Of lists of one length nothing is left (`fields_once`). Behind some of a list's own fields stands its
-- next field (`next`). So where no field follows that makes a list, the text spells none of that length (`no_next`).
use Rattle.std.{proofs.{Common.{◌≡◌, ◌≢◌, ℕ, ◌<◌, ◌≤◌, true, List, [], ◌∷◌, ◌++◌, length, IsTrue, refl, sym, ap, ◌∙◌, inl, inr, arith, length-append}, lemmas.{Bool.{cases_eq, and_parts, and_from, both_ways, ne_eqb, not_from_false}, List.{append_assoc, append-nil, nil_from_length, get_or_at, Elements.{All-head, All-tail}}}}, specs.List.{All, list_all}}
use Rattle.http_header.specs.Token.{AllPass, is_token_byte, is_value_byte}
use Rattle.hc_fields.specs.{FieldList.{IsField, IsFieldList, IsListOf}, Lines.{field_text, fields_text}}
use Rattle.hc_fields.proofs.Ends.{IsFieldList-prefix}
use Rattle.hc_text.specs.Texts.{lacks}
use Rattle.hc_text.proofs.Cuts.{cut_once}

abbrev Pair : Type 0
Pair = List ℕ × List ℕ

-- a name without a colon and a value without a line feed
abbrev pub IsLine : Pair → Type 0
IsLine f = (lacks 58 f.0 ≡ true) × (lacks 10 f.1 ≡ true)

-- a field line, cut at the colon and at the line feed
pub field_apart : (f : Pair) (r : List ℕ) → field_text f ++ r ≡ f.0 ++ 58 ∷ ((32 ∷ f.1) ++ 10 ∷ r)
field_apart f r = simp append_assoc

pub field_once : (f g : Pair) (r s : List ℕ) → IsLine f → IsLine g → field_text f ++ r ≡ field_text g ++ s → (f ≡ g) × (r ≡ s)
field_once f g r s line_f line_g same =
    let apart = sym (field_apart f r) ∙ (same ∙ field_apart g s) in
    let names = cut_once 58 f.0 _ g.0 _ line_f.0 line_g.0 apart in
    let values = cut_once 10 (32 ∷ f.1) r (32 ∷ g.1) s line_f.1 line_g.1 names.1 in
    let value : f.1 ≡ g.1 = cc values.0 in
    (rw (names.0, value) refl, values.1)

lacks-token : (bytes : List ℕ) → AllPass is_token_byte bytes → lacks 58 bytes ≡ true
unfolding is_token_byte
lacks-token [] h = refl
lacks-token (b ∷ bytes) h =
    let first : IsTrue (is_token_byte b) = All-head (λ x. IsTrue (is_token_byte x)) b bytes h in
    let rest = lacks-token bytes (All-tail (λ x. IsTrue (is_token_byte x)) b bytes h) in
    elim (cases_eq b 58) [
      | inl same ↦ absurd (both_ways _ refl (rw same at first))
      | inr other ↦ and_from _ _ (not_from_false _ (ne_eqb b 58 other)) rest
    ]

lacks-value : (bytes : List ℕ) → list_all is_value_byte bytes ≡ true → lacks 10 bytes ≡ true
lacks-value [] h = refl
lacks-value (b ∷ bytes) h =
    let both = and_parts (is_value_byte b) (list_all is_value_byte bytes) h in
    elim (cases_eq b 10) [
      | inl same ↦ absurd (both_ways _ refl (rw same at both.0))
      | inr other ↦ and_from _ _ (not_from_false _ (ne_eqb b 10 other)) (lacks-value bytes both.1)
    ]

pub IsLine-field : (f : Pair) → IsField f → IsLine f
IsLine-field f h = (lacks-token f.0 h.is_name.1, lacks-value f.1 (and_parts _ _ h.is_value).0)

-- what is left of a list's lines behind those of another that the text begins with
pub record Rest (done fs : List Pair) (rest after : List ℕ) : Type 0 where
  pub more : List Pair
  pub list_is : fs ≡ done ++ more
  pub text_is : rest ≡ fields_text more ++ after

pub rest_of : (done fs : List Pair) (rest after : List ℕ) → All IsField done → All IsField fs → length done ≤ length fs → fields_text done ++
    rest ≡ fields_text fs ++ after → Rest done fs rest after
rest_of [] fs rest after all_done all_fs le same = record { more = fs; list_is = refl; text_is = same }
rest_of (d ∷ done) [] rest after all_done all_fs le same = absurd (omega arith)
rest_of (d ∷ done) (f ∷ fs) rest after all_done all_fs le same =
    let apart = sym (append_assoc (field_text d) (fields_text done) rest) ∙ (same ∙ append_assoc (field_text f) (fields_text fs) after) in
    let line_d = IsLine-field d (All-head IsField d done all_done) in
    let line_f = IsLine-field f (All-head IsField f fs all_fs) in
    let first = field_once d f _ _ line_d line_f apart in
    let others = rest_of done fs rest after (All-tail IsField d done all_done) (All-tail IsField f fs all_fs) (omega arith) first.1 in
    record {
      more = others.more;
      list_is = ap (λ (g : Pair). g ∷ fs) (sym first.0) ∙ ap (λ (l : List Pair). d ∷ l) others.list_is;
      text_is = others.text_is;
    }

pub fields_once : (fs gs : List Pair) (r s : List ℕ) → All IsField fs → All IsField gs → length fs ≡ length gs → fields_text fs ++ r ≡ fields_text gs ++
    s → (fs ≡ gs) × (r ≡ s)
fields_once fs gs r s all_fs all_gs len same =
    let rest = rest_of fs gs r s all_fs all_gs (omega arith) same in
    let none : rest.more ≡ [] =
    nil_from_length rest.more (omega (arith, len, ap length rest.list_is, length-append fs rest.more)) in
    (sym (rw (none, append-nil fs) at rest.list_is), rw none at rest.text_is)

-- the field that a list has behind some of its own
module _ (done : List Pair) (count : ℕ) (rest text : List ℕ) (list : IsFieldList done) (more : length done < count) (is : fields_text done ++ rest ≡ text)
    (fs : List Pair) (after : List ℕ) (h : IsListOf count fs) (same : fields_text fs ++ after ≡ text) where
  pub record Next : Type 0 where
    pub field : Pair
    pub others : List Pair
    pub list_is : fs ≡ done ++ field ∷ others
    pub text_is : rest ≡ field_text field ++ (fields_text others ++ after)
    pub own : IsField field

  next_field : (left : List Pair) → fs ≡ done ++ left → rest ≡ fields_text left ++ after → Next
  next_field [] list_is text_is =
      absurd (omega (arith, more, h.count_is, ap length list_is, length-append done []))
  next_field (f ∷ left) list_is text_is =
      record {
        field = f;
        others = left;
        list_is = list_is;
        text_is = text_is ∙ append_assoc (field_text f) (fields_text left) after;
        own = rw (list_is, get_or_at done f left f (length done) refl) at (h.list.fields (length done) f (omega (arith, more, h.count_is)));
      }

  pub next : Next
  next =
      let left = rest_of done fs rest after list.fields h.list.fields (omega (arith, more, h.count_is)) (is ∙ sym same) in
      next_field left.more left.list_is left.text_is

-- a text that goes on with no field that makes a list
pub no_next : (done : List Pair) (count : ℕ) (rest text : List ℕ) → IsFieldList done → length done < count → fields_text done ++ rest ≡ text →
    ((f : Pair) (more : List ℕ) → IsFieldList (done ++ f ∷ []) → field_text f ++ more ≢ rest) → (fs : List Pair) (after : List ℕ) → IsListOf count fs →
    fields_text fs ++ after ≢ text
no_next done count rest text list more is none fs after h same =
    let n = next done count rest text list more is fs after h same in
    let whole : IsFieldList ((done ++ n.field ∷ []) ++ n.others) =
    rw (append_assoc done (n.field ∷ []) n.others, ← n.list_is) h.list in
    none n.field _ (IsFieldList-prefix (done ++ n.field ∷ []) n.others whole) (sym n.text_is)
