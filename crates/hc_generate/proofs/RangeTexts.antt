-- The text of a range up to the end is a value of a field.
use Rattle.std.{proofs.{Common.{◌≡◌, ℕ, ◌-◌, ◌^◌, ◌<◌, ◌≤◌, true, not, ◌||◌, ◌==◌, List, [], ◌∷◌, ◌++◌, length, refl, ap, subst, ◌∙◌, arith, length-append}, lemmas.{Bool.{or_right, and_parts}, List.{get_or-append_right, Folds.{list_all-append}}}}, specs.{Prelude.{codes, slice_index}, List.{list_all}, Fmt.{decimal}}}
use Rattle.http_header.specs.Token.{is_value_byte}
use Rattle.hc_text.specs.Elements.{is_blank}
use Rattle.hc_fields.specs.{FieldList.{is_own_value, Refuses}, declared.error.FieldError.{FieldError}}
use Rattle.hc_validate.proofs.{Settings.{never_refused}, Numbers.{own-decimal, short-decimal}, Names.{IsToken-range}}
use Rattle.hc_generate.specs.Requests.{range_text}

pub own-range : (l : ℕ) → l < 2 ^ 64 → is_own_value (range_text l) ≡ true
own-range l h =
    let front : List ℕ = codes "bytes=" ++ decimal l in
    let digits : list_all is_value_byte (decimal l) ≡ true = (and_parts (list_all is_value_byte (decimal l)) _ (own-decimal l h)).0 in
    let all : list_all is_value_byte (range_text l) ≡ true = list_all-append is_value_byte front (45 ∷ []) ∙ simp list_all-append (rw digits refl) in
    let count = length-append front (45 ∷ []) in
    let place : length (range_text l) - 1 - length front ≡ 0 = omega arith in
    let ends : slice_index (range_text l) (length (range_text l) - 1) ≡ 45 =
    get_or-append_right front (45 ∷ []) (length front) (length (range_text l) - 1) 0 refl (omega arith) ∙ ap (λ (i : ℕ). slice_index (45 ∷ []) i) place in
    rw all (or_right (length (range_text l) == 0)
    (not (is_blank (slice_index (range_text l) 0) || is_blank (slice_index (range_text l) (length (range_text l) - 1))))
    (rw ends refl))

pub short-range : (l : ℕ) → l < 2 ^ 64 → length (range_text l) ≤ 27
short-range l h = simp length-append (omega (arith, short-decimal l h))

-- it is never refused as the first field
pub range-never_refused : (e : FieldError) (fields : List (List ℕ × List ℕ)) (text : List ℕ) (l : ℕ) → fields ≡ [] → text ≡ range_text l → l < 2 ^ 64
    → Refuses e fields (codes "range") text → ⊥
range-never_refused e fields text l empty is h refused =
    let first = subst (λ (f : List (List ℕ × List ℕ)). Refuses e f (codes "range") text) empty refused in
    let this = subst (λ (t : List ℕ). Refuses e [] (codes "range") t) is first in
    never_refused e (codes "range") (range_text l) []
    (record {
      name = IsToken-range;
      value = own-range l h;
      short = omega (arith, short-range l h);
      few = omega arith;
      small =
          omega (arith, short-range l h);
    }) this
