-- The names of all values of Vary, value by value.
use Rattle.std.{proofs.{Common.{◌≡◌, ℕ, ◌+◌, ◌&&◌, Bool, List, [], ◌++◌, drop, Some, ◌∙◌}, lemmas.{List.{drop_more, Folds.{list_all-append}}, Option.{slice_get_within, get_or_from_slice_get}}}, specs.{Prelude.{slice_get}, List.{flat_map, list_all}}}
use Rattle.hc_text.specs.Elements.{elements}

-- the elements of one more value pass, and those of all further ones
pub one_more : (test : List ℕ → Bool) (values : List (List ℕ)) (i : ℕ) (value : List ℕ) → slice_get values i ≡ Some value
    → list_all test (flat_map elements (drop i values)) ≡ (list_all test (elements value) && list_all test (flat_map elements (drop (i + 1) values)))
one_more test values i value is =
    rw (drop_more values i [] (slice_get_within values i value is), get_or_from_slice_get values i value [] is)
    (list_all-append test (elements value) (flat_map elements (drop (i + 1) values)))
