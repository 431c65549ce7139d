-- A field line that is spelled is read.
use Rattle.std.{proofs.{Common.{◌≡◌, ℕ, ◌+◌, ◌≤◌, true, false, List, [], ◌∷◌, ◌++◌, length, Some, refl, ◌∙◌, arith, append_assoc, length-append, le-leb}, lemmas.List.Sums.{sum_by-append}}, specs.Prelude.{codes}}
use Rattle.http_header.specs.Token.{is_token_byte}
use Rattle.hc_text.specs.Texts.{lacks}
use Rattle.hc_fields.specs.{FieldList.{IsField, size_of, field_list_with}, Lines.{field_text, is_lower_byte}}
use Rattle.hc_fields.proofs.{Ends.{IsField-last, IsFieldList-prefix, sorted-last, put-last}, FieldTexts.{IsLine-field}, ReadLemmas.{IsCut-field, lacks-kind as lacks-failing}}
use Rattle.hc_sched.specs.{FieldLines.{field_parts, is_lower_token, has_room, may_follow, field_of}, Schedule.{IsHead}}
use Rattle.hc_text.proofs.Cutting.{cut-first, behind-append, lacks-append}

abbrev pub Pair : Type 0
Pair = List ℕ × List ℕ

-- the line of a field
abbrev pub line_of : Pair → List ℕ
line_of f = f.0 ++ 58 ∷ 32 ∷ f.1

pub field_text-line : (f : Pair) → field_text f ≡ line_of f ++ 10 ∷ []
field_text-line f = simp append_assoc

feed_ends : is_lower_byte 10 ≡ false
unfolding is_token_byte
feed_ends = refl

pub lacks-field : (f : Pair) → IsField f → lacks 10 (line_of f) ≡ true
lacks-field f h =
    lacks-append 10 f.0 (58 ∷ 32 ∷ f.1) (lacks-failing is_lower_byte 10 f.0 feed_ends (IsCut-field f h).0) (IsLine-field f h).1

named-line : (f : Pair) → IsField f → field_parts (line_of f) ≡ Some f
unfolding field_parts
named-line f h = rw (cut-first 58 f.0 (32 ∷ f.1) (IsLine-field f h).0, behind-append (codes " ") f.1) refl

size-push : (fs : List Pair) (f : Pair) → size_of (fs ++ f ∷ []) ≡ size_of fs + (length f.0 + length f.1)
size-push fs f = sum_by-append (λ (g : Pair). length g.0 + length g.1) fs (f ∷ []) ∙ omega arith

may_follow-last : (fs : List Pair) (f : Pair) → IsHead (fs ++ f ∷ []) → may_follow fs f ≡ true
unfolding may_follow is_lower_token has_room
may_follow-last fs f h =
    let field = IsField-last fs f h.list in
    let cut = IsCut-field f field in
    let bytes = size-push fs f in
    let some = le-leb 1 (length f.0) (omega (arith, field.is_name.0)) in
    let small = le-leb (size_of fs + length f.0 + length f.1) 32768 (omega (arith, h.within_limits.small, bytes)) in
    rw (some, cut.0, field.is_value, le-leb (length f.1) 8192 field.is_short, small) (sorted-last fs f h.list.sorted)

-- the line of a further field is read
pub field_of-line : (fs : List Pair) (f : Pair) → IsHead (fs ++ f ∷ []) → field_of fs (line_of f) ≡ Some f
unfolding field_of
field_of-line fs f h = rw (named-line f (IsField-last fs f h.list), may_follow-last fs f h) refl

pub put-head : (fs : List Pair) (f : Pair) → IsHead (fs ++ f ∷ []) → field_list_with f.0 f.1 fs ≡ fs ++ f ∷ []
put-head fs f h = put-last f.0 f.1 fs (sorted-last fs f h.list.sorted)

pub IsHead-prefix : (fs gs : List Pair) → IsHead (fs ++ gs) → IsHead fs
IsHead-prefix fs gs h =
    record {
      list = IsFieldList-prefix fs gs h.list;
      within_limits = record {
        few = omega (arith, h.within_limits.few, length-append fs gs);
        small = omega (arith, h.within_limits.small, sum_by-append (λ (f : Pair). length f.0 + length f.1) fs gs);
      };
    }

-- the line of a field of a head is short
pub field-short : (fs : List Pair) (f : Pair) → IsHead (fs ++ f ∷ []) → length (line_of f) ≤ 140000
field-short fs f h = omega (arith, h.within_limits.small, size-push fs f, length-append f.0 (58 ∷ 32 ∷ f.1))
