-- The parts of a head that is printed are read as these parts, and parts that are read print as the text.
--
-- Each goes both ways: fields and the section behind them (`section_read`, `section_make`), empty lines (`blank_read`,
-- `blank_make`), and the version (`minor_read`, `minor_make`). A name is a token, so it has no colon and no space, and
-- a field line is cut behind it (`field_read`). An empty line ends the section, and none of its fields is one. What a
-- whole head comes to is put together of these, request and answer.
use Rattle.std.{proofs.{lemmas.{Bool.{cases_Bool, and_parts, eqb-true, ltb-true, lt-ltb, Decides.{nat_tests}}, List.{append-nil, Elements.{All-cons, All-head, All-tail}, Sums.{AllPass-from_list_all, list_all-from_AllPass}}, Slice.Eq.{bytes_eq-Decides}}, Common.{◌≡◌, ℕ, suc, ◌<◌, ◌≤◌, true, false, List, [], ◌∷◌, ◌++◌, length, refl, sym, ap, subst, ◌∙◌, inl, inr, arith, append_assoc}}, specs.{Prelude.{nat_lt, map, All, bytes_eq, codes, Option, Some, None, option_map, option_and_then}, List.{list_all, flat_map}}}
use Rattle.hc_text.proofs.Basics.{mapped_from, not_some, some_inj as some_same}
use Rattle.hc_rules.proofs.RangeReads.{if_passes}
use Rattle.httparse.specs.Grammar.{LineEnd, print_end, print_blank, print_version, Field, print_field, IsField, print_section, is_token, is_token_byte, is_value_byte}
use Rattle.httparse.proofs.GrammarLemmas.{cons-append}
use Rattle.hc_head.specs.HeadLines.{Line, lines_behind, is_empty, blank_in, behind_blank, is_not, has_byte, before, behind, minor_of, is_field, if_field, field_of, Section, with_field, section_of}
use Rattle.hc_head.proofs.LineTexts.{is_plain, all_not, all_plain, plain_append, print_line, line_printed, cut_before, cut_behind, cut_has, cut_makes}

-- what stands behind another thing that is found
pub bound_from : {A B : Type 0} (f : A → Option B) (o : Option A) (b : B) → option_and_then f o ≡ Some b → (a : A) × (o ≡ Some a) × (f a ≡ Some b)
bound_from f None b h = absurd (not_some b h)
bound_from f (Some a) b h = (a, refl, h)

-- FIELDS

abbrev pub field_line : Field → Line
field_line f = record { text = f.name ++ 58 ∷ f.raw; end = f.end }

pub token_true : (name : List ℕ) → 0 < length name → list_all is_token_byte name ≡ true → is_token name ≡ true
token_true name some all = let first : nat_lt 0 (length name) ≡ true = lt-ltb 0 (length name) some in rw (first, all) refl

token_all : (f : Field) → IsField f → list_all is_token_byte f.name ≡ true
token_all f h = list_all-from_AllPass is_token_byte f.name h.name.1

value_all : (f : Field) → IsField f → list_all is_value_byte f.raw ≡ true
value_all f h = list_all-from_AllPass is_value_byte f.raw h.raw

pub token_plain : (bytes : List ℕ) → list_all is_token_byte bytes ≡ true → list_all is_plain bytes ≡ true
unfolding is_token_byte
token_plain bytes h = all_plain is_token_byte refl refl bytes h

no_colon : (bytes : List ℕ) → list_all is_token_byte bytes ≡ true → list_all (is_not 58) bytes ≡ true
unfolding is_token_byte
no_colon bytes h = all_not is_token_byte 58 refl bytes h

pub no_space : (bytes : List ℕ) → list_all is_token_byte bytes ≡ true → list_all (is_not 32) bytes ≡ true
unfolding is_token_byte
no_space bytes h = all_not is_token_byte 32 refl bytes h

field_read : (f : Field) → IsField f → field_of (field_line f) ≡ Some f
field_read f h = search (arith, no_colon, token_all, cut_has, cut_before, cut_behind, token_true, value_all)

pub section_read : (fs : List Field) (last : LineEnd) → All IsField fs →
    section_of (map field_line fs ++ record { text = []; end = last } ∷ []) ≡ Some (record { fields = fs; last = last })
section_read [] last h = refl
section_read (f ∷ []) last h = let one = field_read f (All-head IsField f [] h) in ap (option_map (with_field (record { fields = []; last = last }))) one
section_read (f ∷ g ∷ fs) last h =
    let one = field_read f (All-head IsField f (g ∷ fs) h) in
    let rest = section_read (g ∷ fs) last (All-tail IsField f (g ∷ fs) h) in
    grind (arith, nat_tests)

pub section_lines : (fs : List Field) (last : LineEnd) → All IsField fs →
    lines_behind [] (print_section fs last) ≡ Some (map field_line fs ++ record { text = []; end = last } ∷ [])
section_lines [] last h = ap (lines_behind []) (sym (append-nil (print_end last))) ∙ line_printed [] last [] [] refl refl
section_lines (f ∷ fs) last h =
    let field = All-head IsField f fs h in
    let rest = section_lines fs last (All-tail IsField f fs h) in
    let names = token_plain f.name (token_all f field) in
    let values = all_plain is_value_byte refl refl f.raw (value_all f field) in
    grind (arith, nat_tests, plain_append, append_assoc, line_printed)

field_make : (line : Line) (f : Field) → field_of line ≡ Some f → IsField f × (print_line line ≡ print_field f)
field_make line f h =
    let g : Field = record { name = before 58 line.text; raw = behind 58 line.text; end = line.end } in
    let has = if_passes (has_byte 58 line.text) (if_field g) f h in
    let is = if_passes (is_field g) (Some g) f has.1 in
    let parts = and_parts (is_token g.name) (list_all is_value_byte g.raw) is.0 in
    let token = and_parts (nat_lt 0 (length g.name)) (list_all is_token_byte g.name) parts.0 in
    let text = cut_makes 58 line.text (ltb-true _ _ has.0) in
    let printed : print_line line ≡ print_field g = ap (λ (t : List ℕ). t ++ print_end line.end) text ∙ simp (append_assoc, cons-append) in
    subst (λ (k : Field). IsField k × (print_line line ≡ print_field k)) (some_same g f is.1) (
      record {
        name = (ltb-true 0 (length g.name) token.0, AllPass-from_list_all is_token_byte g.name token.1);
        raw = AllPass-from_list_all is_value_byte g.raw parts.1;
      },
      printed,
    )

empty_text : (line : Line) → is_empty line ≡ true → line.text ≡ []
empty_text line h = nothing line.text (eqb-true (length line.text) 0 h) where
  nothing : (text : List ℕ) → length text ≡ 0 → text ≡ []
  nothing [] e = refl
  nothing (b ∷ text) e = absurd (omega (arith, e))

pub record IsMade (lines : List Line) (section : Section) : Type 0 where
  pub fields : All IsField section.fields
  pub printed : flat_map print_line lines ≡ print_section section.fields section.last

pub section_make : (lines : List Line) (section : Section) → section_of lines ≡ Some section → IsMade lines section
section_make [] section h = absurd (not_some section h)
section_make (line ∷ []) section h = grind (arith, nat_tests, is_empty, not_some, some_same, empty_text)
section_make (line ∷ next ∷ lines) section h =
    let rest = bound_from (λ s. option_map (with_field s) (field_of line)) (section_of (next ∷ lines)) section h in
    let made = mapped_from (with_field rest.0) (field_of line) section rest.2 in
    let field = field_make line made.0 made.1 in
    let behind_it = section_make (next ∷ lines) rest.0 rest.1 in
    subst (IsMade (line ∷ next ∷ lines)) made.2 (record {
      fields = All-cons IsField made.0 rest.0.fields field.0 behind_it.fields;
      printed = ap (λ (t : List ℕ). t ++ flat_map print_line (next ∷ lines)) field.1 ∙ ap (λ (t : List ℕ). print_field made.0 ++ t) behind_it.printed ∙
          sym (append_assoc (print_field made.0) (flat_map print_field rest.0.fields) (print_end rest.0.last));
    })

-- EMPTY LINES

abbrev pub empty_line : LineEnd → Line
empty_line end = record { text = []; end = end }

pub blank_lines : (ends : List LineEnd) (rest : List ℕ) (lines : List Line) → lines_behind [] rest ≡ Some lines →
    lines_behind [] (print_blank ends ++ rest) ≡ Some (map empty_line ends ++ lines)
blank_lines [] rest lines h = h
blank_lines (end ∷ ends) rest lines h =
    ap (lines_behind []) (append_assoc (print_end end) (print_blank ends) rest)
    ∙ line_printed [] end (print_blank ends ++ rest) (map empty_line ends ++ lines) refl (blank_lines ends rest lines h)

pub blank_read : (ends : List LineEnd) (line : Line) (lines : List Line) → is_empty line ≡ false → blank_in (map empty_line ends ++ line ∷ lines) ≡ ends
blank_read [] line lines h = rw h refl
blank_read (end ∷ ends) line lines h = ap (λ (es : List LineEnd). end ∷ es) (blank_read ends line lines h)

pub behind_read : (ends : List LineEnd) (line : Line) (lines : List Line) → is_empty line ≡ false →
    behind_blank (map empty_line ends ++ line ∷ lines) ≡ line ∷ lines
behind_read [] line lines h = rw h refl
behind_read (end ∷ ends) line lines h = behind_read ends line lines h

pub blank_make : (lines : List Line) → flat_map print_line lines ≡ print_blank (blank_in lines) ++ flat_map print_line (behind_blank lines)
blank_make [] = refl
blank_make (line ∷ lines) = elim (cases_Bool (is_empty line)) [
  | inl hit ↦ rw hit (ap (λ (t : List ℕ). (t ++ print_end line.end) ++ flat_map print_line lines) (empty_text line hit) ∙
      ap (λ (t : List ℕ). print_end line.end ++ t) (blank_make lines) ∙
      sym (append_assoc (print_end line.end) (print_blank (blank_in lines)) (flat_map print_line (behind_blank lines))))
  | inr miss ↦ rw miss refl
]

-- THE VERSION

pub minor_read : (minor : ℕ) → minor ≤ 1 → minor_of (print_version minor) ≡ Some minor
minor_read (suc (suc n)) h = absurd (omega arith)
minor_read _ h = refl

pub minor_make : (text : List ℕ) (minor : ℕ) → minor_of text ≡ Some minor → (minor ≤ 1) × (text ≡ print_version minor)
minor_make text minor h = elim (cases_Bool (bytes_eq text (codes "HTTP/1.0"))) [
  | inl old ↦ (let same : 0 ≡ minor = some_same 0 minor (rw old at h) in
      (omega (arith, same), (bytes_eq-Decides text (codes "HTTP/1.0")).0 old ∙ ap print_version same))
  | inr other ↦ elim (cases_Bool (bytes_eq text (codes "HTTP/1.1"))) [
    | inl new ↦ (let same : 1 ≡ minor = some_same 1 minor (rw (other, new) at h) in
        (omega (arith, same), (bytes_eq-Decides text (codes "HTTP/1.1")).0 new ∙ ap print_version same))
    | inr none ↦ absurd (not_some minor (rw (other, none) at h))
  ]
]
