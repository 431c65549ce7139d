-- What a list of elements asks of a cache.
use Rattle.std.specs.Prelude.{ℕ, ◌≤◌, ◌==◌, ◌||◌, Bool, List, if◌then◌else◌, codes, bytes_eq, Option, Some, None, IfSome}
use Rattle.std.specs.Option.{option_map, option_and_then, unwrap_or}
use Rattle.std.specs.List.{list_any, find, before_first, after_first}
use Rattle.http_header.specs.Token.{lowercase}
use Rattle.hc_fields.specs.FirstValues.{elements_in}
use Rattle.hc_cachectl.specs.Seconds.{most_seconds, seconds_of}
use Rattle.hc_cachectl.specs.declared.directives.Directives.{Directives}

abbrev pub is_equals : ℕ → Bool
is_equals b = b == 61

-- what stands before the first `=` of an element, or all of it
abbrev pub name_of : List ℕ → List ℕ
name_of element = before_first is_equals element

-- what stands behind the first `=`, where there is one
abbrev pub argument_of : List ℕ → Option (List ℕ)
argument_of element = if list_any is_equals element then Some (after_first is_equals element) else None

-- the element is the directive of this name
abbrev pub is_directive : List ℕ → List ℕ → Bool
is_directive name element = bytes_eq (lowercase (name_of element)) name

-- the seconds of an element, where its argument can be read
abbrev pub seconds_in : List ℕ → Option ℕ
seconds_in element = option_and_then seconds_of (argument_of element)

-- how stale an answer may be: without an argument, as stale as it likes; with one that can't be read, not at all
abbrev pub staleness_in : List ℕ → Option (Option ℕ)
staleness_in element = if list_any is_equals element then option_map Some (seconds_in element) else Some None

-- what the elements say: of each directive, the first element that is it
abbrev pub directives_of : List (List ℕ) → Directives
directives_of es = record {
  max_age = option_map (λ e. unwrap_or (seconds_in e) 0) (find (is_directive (codes "max-age")) es);
  no_store = list_any (is_directive (codes "no-store")) es;
  no_cache = list_any (is_directive (codes "no-cache")) es;
  must_revalidate = list_any (is_directive (codes "must-revalidate")) es;
  only_if_cached = list_any (is_directive (codes "only-if-cached")) es;
  min_fresh = option_map (λ e. unwrap_or (seconds_in e) most_seconds) (find (is_directive (codes "min-fresh")) es);
  max_stale = option_and_then staleness_in (find (is_directive (codes "max-stale")) es);
}

-- what the fields of a response say
abbrev pub of_response : List (List ℕ × List ℕ) → Directives
of_response fields = directives_of (elements_in (codes "cache-control") fields)

-- the fields of a request ask for no stored answer by `Pragma: no-cache`
abbrev pub has_pragma : List (List ℕ × List ℕ) → Bool
has_pragma fields = list_any (is_directive (codes "no-cache")) (elements_in (codes "pragma") fields)

-- what the fields of a request say
abbrev pub of_request : List (List ℕ × List ℕ) → Directives
of_request fields = let d = of_response fields in record {
  max_age = d.max_age;
  no_store = d.no_store;
  no_cache = d.no_cache || has_pragma fields;
  must_revalidate = d.must_revalidate;
  only_if_cached = d.only_if_cached;
  min_fresh = d.min_fresh;
  max_stale = d.max_stale;
}

-- no number is above the most that is told
pub record IsCapped (d : Directives) : Type 0 where
  pub max_age : IfSome d.max_age (λ n. n ≤ most_seconds)
  pub min_fresh : IfSome d.min_fresh (λ n. n ≤ most_seconds)
  pub max_stale : IfSome d.max_stale (λ bound. IfSome bound (λ n. n ≤ most_seconds))
