-- What the elements tell, read one by one, is what they tell as a whole.
use Rattle.std.{proofs.{Common.{◌≡◌, ℕ, ◌+◌, ◌&&◌, List, [], ◌∷◌, ◌++◌, drop, cond, Option, Some, None, refl, sym, inl, inr}, lemmas.{Bool.{cases_Bool}, List.{drop_more}, Option.{slice_get_within, get_or_from_slice_get}}}, specs.{Prelude.{slice_get}, List.{flat_map}}}
use Rattle.hc_text.proofs.Basics.{eqb-same}
use Rattle.hc_text.specs.Elements.{elements}
use Rattle.hc_rules.specs.{declared.length.Length.{Length, TheVariants.{Unknown, Promised, Bad}}, Lengths.{is_same_number, promised_or_bad, all_spell, content_length_of}, RangeTexts.{number_of}, LengthSoFar.{with_element, with_elements}}

pub with_elements-append : (so_far : Length) (xs ys : List (List ℕ)) → with_elements so_far (xs ++ ys) ≡ with_elements (with_elements so_far xs) ys
with_elements-append so_far [] ys = refl
with_elements-append so_far (x ∷ xs) ys = with_elements-append (with_element so_far x) xs ys

-- the elements of one more value
pub one_more : (so_far next : Length) (values : List (List ℕ)) (i : ℕ) (value : List ℕ) → slice_get values i ≡ Some value →
    next ≡ with_elements so_far (elements value)
    → with_elements next (flat_map elements (drop (i + 1) values)) ≡ with_elements so_far (flat_map elements (drop i values))
one_more so_far next values i value is next_is =
    rw (drop_more values i [] (slice_get_within values i value is), get_or_from_slice_get values i value [] is, next_is)
    (sym (with_elements-append so_far (elements value) (flat_map elements (drop (i + 1) values))))

bad_stays : (es : List (List ℕ)) → with_elements Bad es ≡ Bad
bad_stays [] = refl
bad_stays (e ∷ es) = bad_stays es

promise_stays : (n : ℕ) (es : List (List ℕ)) → with_elements (Promised n) es ≡ cond (all_spell (Some n) es) (Promised n) Bad
promise_stays n [] = refl
promise_stays n (e ∷ es) = elim (cases_Bool (is_same_number (Some n) (number_of e))) [
  | inl same ↦ rw same (promise_stays n es)
  | inr other ↦ rw other (bad_stays es)
]

first_reports : (number : Option ℕ) (es : List (List ℕ)) →
    with_elements (promised_or_bad number) es ≡ cond (is_same_number number number && all_spell number es) (promised_or_bad number) Bad
first_reports None es = bad_stays es
first_reports (Some n) es = rw (eqb-same n) (promise_stays n es)

pub reported_is : (es : List (List ℕ)) → with_elements Unknown es ≡ content_length_of es
reported_is [] = refl
reported_is (e ∷ es) = first_reports (number_of e) es
