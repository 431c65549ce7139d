-- The fields of a request that Vary names are left, where those that it doesn't name are removed, name by name.
use Rattle.std.{proofs.{Common.{◌≡◌, ℕ, ◌+◌, Bool, true, false, not, List, [], ◌∷◌, ◌++◌, drop, Some, refl, ap, sym, ◌∙◌, arith}, lemmas.{List.{append_assoc, drop_more}, Option.{slice_get_within, get_or_from_slice_get}}}, specs.{Prelude.{◌||◌, bytes_eq, codes, filter, slice_get}, List.{list_any}}}
use Rattle.hc_text.proofs.Basics.{false_true}
use Rattle.http_header.specs.Token.{lowercase}
use Rattle.hc_fields.specs.{FieldList.{IsFieldList, IsWithinLimits, has_name, without}, FirstValues.{elements_in}}
use Rattle.hc_fields.proofs.Edits.{length-parts, size_of-parts}
use Rattle.hc_rules.proofs.RangeReads.{bytes_eq-same, same_bytes}
use Rattle.hc_validate.specs.Updates.{is_renewed, left_by, FieldPairs}
use Rattle.hc_validate.proofs.Renewals.{field_at, left_by-more}
use Rattle.hc_effects.proofs.Vocabulary.{kept_fields, varied_by}
use Rattle.hc_model.specs.Heads.{is_varied}
use Rattle.hc_state.specs.Founding.{is_named_by}

abbrev pub Pair : Type 0
Pair = List ℕ × List ℕ

-- WHAT IS REMOVED BY ITS NAME

module _ (p : Pair → Bool) (same : (f g : Pair) → has_name g.0 f ≡ true → p f ≡ p g) where
  abbrev out : FieldPairs → FieldPairs
  out fs = filter (λ f. not (p f)) fs

  none_renews : (zs : FieldPairs) (f : Pair) → p f ≡ true → is_renewed (out zs) f ≡ false
  none_renews [] f on = refl
  none_renews (g ∷ zs) f on = by_tests (p g) (has_name g.0 f) refl refl (none_renews zs f on)
    where
      by_tests : (a b : Bool) → p g ≡ a → has_name g.0 f ≡ b → is_renewed (out zs) f ≡ false → is_renewed (out (g ∷ zs)) f ≡ false
      by_tests true b passes is rest = rw passes rest
      by_tests false true fails is rest = false_true (sym fails ∙ (sym (same f g is) ∙ on))
      by_tests false false fails is rest = rw (fails, is) rest

  self_renews : (ys xs : FieldPairs) (f : Pair) → p f ≡ false → is_renewed (out (ys ++ (f ∷ xs))) f ≡ true
  self_renews [] xs f off = let self : has_name f.0 f ≡ true = bytes_eq-same f.0 f.0 refl in rw (off, self) refl
  self_renews (g ∷ ys) xs f off = by_test (p g) refl (self_renews ys xs f off)
    where
      either : (b : Bool) → (b || true) ≡ true
      either true = refl
      either false = refl

      by_test : (a : Bool) → p g ≡ a → is_renewed (out (ys ++ (f ∷ xs))) f ≡ true → is_renewed (out (g ∷ (ys ++ (f ∷ xs)))) f ≡ true
      by_test true passes rest = rw passes rest
      by_test false fails rest = rw (fails, rest) (either (has_name g.0 f))

  left_is : (ys xs : FieldPairs) → left_by (out (ys ++ xs)) xs ≡ filter p xs
  left_is ys [] = refl
  left_is ys (f ∷ xs) = by_test (p f) refl (ap (λ (zs : FieldPairs). left_by (out zs) xs) (sym (append_assoc ys (f ∷ []) xs)) ∙ left_is (ys ++ (f ∷ [])) xs)
    where
      by_test : (a : Bool) → p f ≡ a → left_by (out (ys ++ (f ∷ xs))) xs ≡ filter p xs → left_by (out (ys ++ (f ∷ xs))) (f ∷ xs) ≡ filter p (f ∷ xs)
      by_test true on rest = let none : is_renewed (out (ys ++ (f ∷ xs))) f ≡ false = none_renews (ys ++ (f ∷ xs)) f on in
          rw (none, on) (ap (λ (zs : FieldPairs). f ∷ zs) rest)
      by_test false off rest = let some : is_renewed (out (ys ++ (f ∷ xs))) f ≡ true = self_renews ys xs f off in rw (some, off) rest

-- WHAT VARY NAMES

-- those that it doesn't name
abbrev pub unnamed : FieldPairs → FieldPairs → FieldPairs
unnamed reported fs = filter (λ f. not (is_varied reported f)) fs

by_name : (reported : FieldPairs) (f g : Pair) → has_name g.0 f ≡ true → is_varied reported f ≡ is_varied reported g
by_name reported f g is =
    ap (λ (name : List ℕ). list_any (λ element. bytes_eq (lowercase element) name) (elements_in (codes "vary") reported)) (same_bytes f.0 g.0 is)

pub varied-first : (asked reported : FieldPairs) → left_by (unnamed reported asked) asked ≡ varied_by asked reported
varied-first asked reported = left_is (is_varied reported) (by_name reported) [] asked

-- as the code tests it
pub varied-lower : (reported : FieldPairs) (name value : List ℕ) → lowercase name ≡ name →
    list_any (is_named_by name) (elements_in (codes "vary") reported) ≡ is_varied reported (name, value)
varied-lower reported name value lower = ap (λ (n : List ℕ). list_any (λ element. bytes_eq (lowercase element) n) (elements_in (codes "vary") reported)) lower

pub unnamed-more : (reported asked : FieldPairs) (i : ℕ) (g : Pair) → slice_get asked i ≡ Some g → is_varied reported g ≡ false →
    unnamed reported (drop i asked) ≡ g ∷ unnamed reported (drop (i + 1) asked)
unnamed-more reported asked i g is off = rw (drop_more asked i g (slice_get_within asked i g is), get_or_from_slice_get asked i g g is, off) refl

pub unnamed-named : (reported asked : FieldPairs) (i : ℕ) (g : Pair) → slice_get asked i ≡ Some g → is_varied reported g ≡ true →
    unnamed reported (drop i asked) ≡ unnamed reported (drop (i + 1) asked)
unnamed-named reported asked i g is on = rw (drop_more asked i g (slice_get_within asked i g is), get_or_from_slice_get asked i g g is, on) refl

-- one field more is looked at
module _ (reported asked fields : FieldPairs) (i : ℕ) (g : Pair) (list : IsFieldList asked) (is : slice_get asked i ≡ Some g)
    (left : left_by (unnamed reported (drop i asked)) fields ≡ varied_by asked reported) where
  lower : lowercase g.0 ≡ g.0
  lower = (field_at asked i g list is).is_lower

  pub varied-removed : list_any (is_named_by g.0) (elements_in (codes "vary") reported) ≡ false → (after : FieldPairs) →
      after ≡ without (lowercase g.0) fields → left_by (unnamed reported (drop (i + 1) asked)) after ≡ varied_by asked reported
  varied-removed off after removed =
      let rest = unnamed reported (drop (i + 1) asked) in
      ap (left_by rest) (removed ∙ ap (λ (n : List ℕ). without n fields) lower)
      ∙ (left_by-more g rest fields
      ∙ (ap (λ (t : FieldPairs). left_by t fields) (sym (unnamed-more reported asked i g is (sym (varied-lower reported g.0 g.1 lower) ∙ off))) ∙ left))

  pub varied-kept : list_any (is_named_by g.0) (elements_in (codes "vary") reported) ≡ true →
      left_by (unnamed reported (drop (i + 1) asked)) fields ≡ varied_by asked reported
  varied-kept on = ap (λ (t : FieldPairs). left_by t fields) (sym (unnamed-named reported asked i g is (sym (varied-lower reported g.0 g.1 lower) ∙ on))) ∙ left

-- WHAT IS STORED

less_within_limits : (name : List ℕ) (fs : FieldPairs) → IsWithinLimits fs → IsWithinLimits (without name fs)
less_within_limits name fs within_limits = record {
  few = (let few = within_limits.few in let parts = length-parts name fs in omega (arith, few, parts));
  small = (let small = within_limits.small in let parts = size_of-parts name fs in omega (arith, small, parts));
}

pub kept_within_limits : (fs : FieldPairs) → IsWithinLimits fs → IsWithinLimits (kept_fields fs)
kept_within_limits fs within_limits = less_within_limits (codes "content-length") _ (less_within_limits (codes "content-range") fs within_limits)
