-- What the elements say, read one by one, is what the first of each says.
use Rattle.std.{proofs.{Common.{◌≡◌, ℕ, ◌+◌, ◌||◌, List, [], ◌∷◌, ◌++◌, drop, Option, Some, None, refl, sym, ap, ◌∙◌, inl, inr}, Math.Bool.{or-false, or_assoc}, lemmas.{Bool.{cases_Bool}, List.{drop_more}, Option.{slice_get_within, get_or_from_slice_get}}}, specs.{Prelude.{slice_get, codes}, Option.{option_or, option_map, option_and_then, unwrap_or}, List.{flat_map, find, list_any, after_first}}}
use Rattle.hc_text.specs.Elements.{elements}
use Rattle.hc_cachectl.specs.{Seconds.{most_seconds, seconds_of}, Directives.{is_directive, is_equals, seconds_in, staleness_in, directives_of}, Found.{argument_in, directive_argument, present, nothing_found, with_element, with_elements, seconds_or, staleness_of, said_by}, declared.{element.Argument.{Argument}, found.Found.{Found}}}

with_elements-append : (found : Found) (xs ys : List (List ℕ)) → with_elements found (xs ++ ys) ≡ with_elements (with_elements found xs) ys
with_elements-append found [] ys = refl
with_elements-append found (x ∷ xs) ys = with_elements-append (with_element found x) xs ys

-- the elements of one more value
pub one_more : (found next : Found) (values : List (List ℕ)) (i : ℕ) (value : List ℕ) → slice_get values i ≡ Some value →
    next ≡ with_elements found (elements value)
    → with_elements next (flat_map elements (drop (i + 1) values)) ≡ with_elements found (flat_map elements (drop i values))
one_more found next values i value is next_is =
    let later = flat_map elements (drop (i + 1) values) in
    rw (drop_more values i [] (slice_get_within values i value is), get_or_from_slice_get values i value [] is, next_is)
    (sym (with_elements-append found (elements value) later))

-- the argument of the first element of a name
abbrev first : List ℕ → List (List ℕ) → Option Argument
first name es = option_map argument_in (find (is_directive name) es)

first-more : (name e : List ℕ) (es : List (List ℕ)) (found : Option Argument) →
    option_or (option_or found (directive_argument name e)) (first name es) ≡ option_or found (first name (e ∷ es))
first-more name e es None = elim (cases_Bool (is_directive name e)) [
  | inl passes ↦ rw passes refl
  | inr fails ↦ rw fails refl
]
first-more name e es (Some a) = refl

-- what is found, and what the elements say besides
abbrev with_firsts : Found → List (List ℕ) → Found
with_firsts found es = record {
  max_age = option_or found.max_age (first (codes "max-age") es);
  min_fresh = option_or found.min_fresh (first (codes "min-fresh") es);
  max_stale = option_or found.max_stale (first (codes "max-stale") es);
  no_store = found.no_store || list_any (is_directive (codes "no-store")) es;
  no_cache = found.no_cache || list_any (is_directive (codes "no-cache")) es;
  must_revalidate = found.must_revalidate || list_any (is_directive (codes "must-revalidate")) es;
  only_if_cached = found.only_if_cached || list_any (is_directive (codes "only-if-cached")) es;
}

option_or-none : (o : Option Argument) → option_or o None ≡ o
option_or-none None = refl
option_or-none (Some a) = refl

folded : (found : Found) (es : List (List ℕ)) → with_elements found es ≡ with_firsts found es
folded found [] =
    rw (
      option_or-none found.max_age,
      option_or-none found.min_fresh,
      option_or-none found.max_stale,
      or-false found.no_store,
      or-false found.no_cache,
      or-false found.must_revalidate,
      or-false found.only_if_cached,
    ) refl
folded found (e ∷ es) =
    let more : with_firsts (with_element found e) es ≡ with_firsts found (e ∷ es) =
    rw (
      first-more (codes "max-age") e es found.max_age,
      first-more (codes "min-fresh") e es found.min_fresh,
      first-more (codes "max-stale") e es found.max_stale,
      or_assoc found.no_store (is_directive (codes "no-store") e) (list_any (is_directive (codes "no-store")) es),
      or_assoc found.no_cache (is_directive (codes "no-cache") e) (list_any (is_directive (codes "no-cache")) es),
      or_assoc found.must_revalidate (is_directive (codes "must-revalidate") e) (list_any (is_directive (codes "must-revalidate")) es),
      or_assoc found.only_if_cached (is_directive (codes "only-if-cached") e) (list_any (is_directive (codes "only-if-cached")) es),
    ) refl in
    folded (with_element found e) es ∙ more

reported_or-present : (d : ℕ) (seconds : Option ℕ) → seconds_or d (present seconds) ≡ unwrap_or seconds d
reported_or-present d None = refl
reported_or-present d (Some n) = refl

reported_or-argument : (d : ℕ) (e : List ℕ) → seconds_or d (argument_in e) ≡ unwrap_or (seconds_in e) d
reported_or-argument d e = elim (cases_Bool (list_any is_equals e)) [
  | inl passes ↦ rw passes (reported_or-present d (seconds_of (after_first is_equals e)))
  | inr fails ↦ rw fails refl
]

reported : (d : ℕ) (o : Option (List ℕ)) → option_map (seconds_or d) (option_map argument_in o) ≡ option_map (λ e. unwrap_or (seconds_in e) d) o
reported d None = refl
reported d (Some e) = ap Some (reported_or-argument d e)

staleness_of-present : (seconds : Option ℕ) → staleness_of (present seconds) ≡ option_map Some seconds
staleness_of-present None = refl
staleness_of-present (Some n) = refl

staleness_of-argument : (e : List ℕ) → staleness_of (argument_in e) ≡ staleness_in e
staleness_of-argument e = elim (cases_Bool (list_any is_equals e)) [
  | inl passes ↦ rw passes (staleness_of-present (seconds_of (after_first is_equals e)))
  | inr fails ↦ rw fails refl
]

stale : (o : Option (List ℕ)) → option_and_then staleness_of (option_map argument_in o) ≡ option_and_then staleness_in o
stale None = refl
stale (Some e) = staleness_of-argument e

pub said_is : (es : List (List ℕ)) → said_by (with_elements nothing_found es) ≡ directives_of es
said_is es =
    rw (
      folded nothing_found es,
      reported 0 (find (is_directive (codes "max-age")) es),
      reported most_seconds (find (is_directive (codes "min-fresh")) es),
      stale (find (is_directive (codes "max-stale")) es),
    ) refl

pub found_no_cache : (es : List (List ℕ)) → (with_elements nothing_found es).no_cache ≡ list_any (is_directive (codes "no-cache")) es
found_no_cache es = ap (λ (f : Found). f.no_cache) (folded nothing_found es)
