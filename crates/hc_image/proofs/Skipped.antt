-- A record whose lines are passed over.
--
-- A record is its line of version, its line of kind and length, its line of numbers, its line of the tag
-- in the second version, and a line for each field. No line has a line feed but at its end, so the first
-- line feed of a text that begins with a record ends its first line, and so on. What is left behind the
-- last line is what stands behind the record.
use Rattle.std.{proofs.{Common.{◌≡◌, ◌≢◌, ℕ, zero, suc, ◌+◌, ◌<◌, ◌-◌, true, false, List, [], ◌∷◌, ◌++◌, length, drop, get_or, Option, Some, None, refl, sym, ap, ◌∙◌, arith}, lemmas.List.{append_assoc, Elements.{All-head, All-tail}}}, specs.{Prelude.{codes, replicate}, List.{All}, Fmt.{decimal}}}
use Rattle.http_header.specs.Token.{is_token_byte}
use Rattle.hc_text.specs.Texts.{lacks}
use Rattle.hc_text.proofs.{Cuts.{cut_once, lacks-not, lacks-decimal}, Cutting.{lacks-append}}
use Rattle.hc_fields.specs.{FieldList.{values_of, IsField}, Lines.{field_text, fields_text, is_lower_byte}}
use Rattle.hc_fields.proofs.{FieldTexts.{IsLine-field}, ReadLemmas.{IsCut-field, lacks-kind}}
use Rattle.hc_record.specs.{declared.{kind.Kind.{Kind}, version.Version.{Version, TheVariants.{First, Second}}}, Head.{Head, IsHead, IsSmallTotal}, Lines.{kind_byte, total_text, joining_text, tag_line}, Record.{head_numbers, spelling}}
use Rattle.hc_record.specs.declared.kind.Kind.TheVariants as kind
use Rattle.hc_record.proofs.JoiningLemmas.{lacks-joining}
use Rattle.hc_image.specs.Counts.{version_text}

abbrev Pair : Type 0
Pair = List ℕ × List ℕ

-- FIELDS

-- the line of a field, without its line feed
abbrev line_of : Pair → List ℕ
line_of f = f.0 ++ 58 ∷ 32 ∷ f.1

no_feed : is_lower_byte 10 ≡ false
unfolding is_token_byte
no_feed = refl

lacks-field : (f : Pair) → IsField f → lacks 10 (line_of f) ≡ true
lacks-field f h =
    lacks-append 10 f.0 (58 ∷ 32 ∷ f.1) (lacks-kind is_lower_byte 10 f.0 no_feed (IsCut-field f h).0) (IsLine-field f h).1

field_line : (f : Pair) (more after : List ℕ) → (field_text f ++ more) ++ after ≡ line_of f ++ 10 ∷ (more ++ after)
field_line f more after = simp append_assoc

-- the line that was taken is that of the field at this place
skip_at : (fields : List Pair) (i : ℕ) (after rest line new : List ℕ) → All IsField fields → i < length fields → fields_text (drop i fields) ++
    after ≡ rest → lacks 10 line ≡ true → line ++ 10 ∷ new ≡ rest → fields_text (drop (suc i) fields) ++ after ≡ new
skip_at [] i after rest line new all lt is lacking taken = absurd (omega arith)
skip_at (f ∷ fields) zero after rest line new all lt is lacking taken =
    (cut_once 10 (line_of f) (fields_text fields ++ after) line new (lacks-field f (All-head IsField f fields all)) lacking
    (sym (field_line f (fields_text fields) after) ∙ (is ∙ sym taken))).1
skip_at (f ∷ fields) (suc i) after rest line new all lt is lacking taken =
    skip_at fields i after rest line new (All-tail IsField f fields all) (omega arith) is lacking taken

pub skip_next : (fields : List Pair) (i : ℕ) (after rest line new : List ℕ) → All IsField fields → i < length fields → fields_text (drop i fields) ++
    after ≡ rest → lacks 10 line ≡ true → line ++ 10 ∷ new ≡ rest → fields_text (drop (i + 1) fields) ++ after ≡ new
skip_next fields i after rest line new all lt is lacking taken =
    let next : i + 1 ≡ suc i = omega arith in
    rw next (skip_at fields i after rest line new all lt is lacking taken)

-- a text without a line feed has no field
pub no_field : (fields : List Pair) (i : ℕ) (after rest : List ℕ) → i < length fields → lacks 10 rest ≡ true → fields_text (drop i fields) ++ after ≢ rest
no_field [] i after rest lt lacking is = absurd (omega arith)
no_field (f ∷ fields) zero after rest lt lacking is =
    lacks-not 10 (line_of f) (fields_text fields ++ after) (ap (lacks 10) (sym (field_line f (fields_text fields) after) ∙ is) ∙ lacking)
no_field (f ∷ fields) (suc i) after rest lt lacking is = no_field fields i after rest (omega arith) lacking is

-- FIRST LINES

lacks-replicate : (n b : ℕ) → lacks 10 (b ∷ []) ≡ true → lacks 10 (replicate n b) ≡ true
lacks-replicate zero b h = refl
lacks-replicate (suc n) b h = lacks-append 10 (b ∷ []) (replicate n b) h (lacks-replicate n b h)

lacks-total : (total : Option ℕ) → IsSmallTotal total → lacks 10 (total_text total) ≡ true
lacks-total None small = refl
lacks-total (Some n) small =
    lacks-append 10 (replicate (20 - length (decimal n)) 48) (decimal n) (lacks-replicate (20 - length (decimal n)) 48 refl)
    (lacks-decimal 10 n (omega arith) (small n refl))

-- the line of kind and length, without its line feed
abbrev pub seal_of : Head → List ℕ
seal_of head = kind_byte head.kind ∷ 32 ∷ total_text head.total

lacks-seal : (head : Head) → IsHead head → lacks 10 (seal_of head) ≡ true
lacks-seal head own = by_kind head.kind
  where
    by_kind : (k : Kind) → lacks 10 (kind_byte k ∷ 32 ∷ total_text head.total) ≡ true
    by_kind kind.Growing = lacks-total head.total own.small_total
    by_kind kind.Whole = lacks-total head.total own.small_total
    by_kind kind.Truncated = lacks-total head.total own.small_total
    by_kind kind.Ranges = lacks-total head.total own.small_total

lacks-version : (v : Version) → lacks 10 (version_text v) ≡ true
lacks-version First = refl
lacks-version Second = refl

pub lacks-own_tag : (head : Head) → IsHead head → lacks 10 (joining_text head.joining) ≡ true
lacks-own_tag head own = lacks-joining (values_of (codes "etag") head.fields) head.joining own.own_joining

-- what stands behind the line of numbers
abbrev pub later_of : Version → Head → List ℕ → List ℕ
later_of v head after =
    tag_line v (joining_text head.joining) ++ (fields_text head.vary_fields ++ (fields_text head.fields ++ after))

pub record_lines : (v : Version) (head : Head) (after : List ℕ) → spelling v head ++ after ≡ version_text v ++ 10 ∷
    (seal_of head ++ 10 ∷ (head_numbers head ++ later_of v head after))
record_lines v head after = by_version v
  where
    regroup : (u s n t f g : List ℕ) → ((u ++ 10 ∷ []) ++ ((s ++ 10 ∷ []) ++ (n ++ (t ++ (f ++ g))))) ++ after ≡ u ++ 10 ∷
        (s ++ 10 ∷ (n ++ (t ++ (f ++ (g ++ after)))))
    regroup u s n t f g = simp append_assoc

    by_version : (w : Version) → spelling w head ++ after ≡ version_text w ++ 10 ∷ (seal_of head ++ 10 ∷ (head_numbers head ++ later_of w head after))
    by_version First = regroup (codes "record 1") (seal_of head) (head_numbers head) [] (fields_text head.vary_fields) (fields_text head.fields)
    by_version Second = regroup (codes "record 2") (seal_of head) (head_numbers head) (tag_line Second (joining_text head.joining))
        (fields_text head.vary_fields) (fields_text head.fields)

-- a record at the front of a text
module _ (v : Version) (head : Head) (after text : List ℕ) (own : IsHead head) (same : spelling v head ++ after ≡ text) where
  whole : version_text v ++ 10 ∷ (seal_of head ++ 10 ∷ (head_numbers head ++ later_of v head after)) ≡ text
  whole = sym (record_lines v head after) ∙ same

  pub no_line : lacks 10 text ≡ true → ⊥
  no_line lacking = lacks-not 10 (version_text v) _ (ap (lacks 10) whole ∙ lacking)

  module _ (line rest : List ℕ) (lacking : lacks 10 line ≡ true) (taken : line ++ 10 ∷ rest ≡ text) where
    pub after_version : (version_text v ≡ line) × (seal_of head ++ 10 ∷ (head_numbers head ++ later_of v head after) ≡ rest)
    after_version = cut_once 10 (version_text v) _ line rest (lacks-version v) lacking (whole ∙ sym taken)

    pub no_seal : lacks 10 rest ≡ true → ⊥
    no_seal none = lacks-not 10 (seal_of head) _ (ap (lacks 10) after_version.1 ∙ none)

    pub after_seal : (seal more : List ℕ) → lacks 10 seal ≡ true → seal ++ 10 ∷ more ≡ rest → head_numbers head ++ later_of v head after ≡ more
    after_seal seal more lacks_seal is =
        (cut_once 10 (seal_of head) _ seal more (lacks-seal head own) lacks_seal (after_version.1 ∙ sym is)).1

-- THE TAG

-- the text is that of the second version
pub second_is : (v : Version) (text : List ℕ) → text ≡ version_text v → text ≡ codes "record 2" → v ≡ Second
second_is First text is same =
    absurd (omega (arith, ap (λ (l : List ℕ). get_or l 7 0) (sym is ∙ same)))
second_is Second text is same = refl

tag_apart : (t r : List ℕ) → tag_line Second t ++ r ≡ (codes "tag " ++ t) ++ 10 ∷ r
tag_apart t r = simp append_assoc

pub no_tag : (head : Head) (after rest : List ℕ) → lacks 10 rest ≡ true → tag_line Second (joining_text head.joining) ++ after ≢ rest
no_tag head after rest lacking same =
    lacks-not 10 (codes "tag " ++ joining_text head.joining) after (ap (lacks 10) (sym (tag_apart (joining_text head.joining) after) ∙ same) ∙ lacking)

pub after_tag : (head : Head) (after rest line new : List ℕ) → IsHead head → tag_line Second (joining_text head.joining) ++ after ≡ rest →
    lacks 10 line ≡ true → line ++ 10 ∷ new ≡ rest → new ≡ after
after_tag head after rest line new own same lacking taken =
    sym (cut_once 10 (codes "tag " ++ joining_text head.joining) after line new
    (lacks-append 10 (codes "tag ") (joining_text head.joining) refl (lacks-own_tag head own)) lacking
    (sym (tag_apart (joining_text head.joining) after) ∙ (same ∙ sym taken))).1
