-- What the elements so far say, read one by one.
use Rattle.std.specs.Prelude.{ℕ, ◌||◌, List, [], ◌∷◌, if◌then◌else◌, codes, Option, Some, None, false}
use Rattle.std.specs.Option.{option_or, option_map, option_and_then}
use Rattle.std.specs.List.{list_any}
use Rattle.hc_cachectl.specs.Directives.{is_directive, is_equals, seconds_in}
use Rattle.hc_cachectl.specs.declared.element.Argument.{Argument}
use Rattle.hc_cachectl.specs.declared.element.Argument.TheVariants.{Absent, Unreadable, Seconds}
use Rattle.hc_cachectl.specs.declared.found.Found.{Found}
use Rattle.hc_cachectl.specs.declared.directives.Directives.{Directives}
use Rattle.hc_cachectl.specs.Seconds.{most_seconds}

-- an argument, where it tells these seconds or can't be read
abbrev pub present : Option ℕ → Argument
present None = Unreadable
present (Some n) = Seconds n

abbrev pub argument_in : List ℕ → Argument
argument_in element = if list_any is_equals element then present (seconds_in element) else Absent

-- the argument of an element that is the directive of this name
abbrev pub directive_argument : List ℕ → List ℕ → Option Argument
directive_argument name element = if is_directive name element then Some (argument_in element) else None

abbrev pub nothing_found : Found
nothing_found = record {
  max_age = None;
  min_fresh = None;
  max_stale = None;
  no_store = false;
  no_cache = false;
  must_revalidate = false;
  only_if_cached = false;
}

-- with one more element
abbrev pub with_element : Found → List ℕ → Found
with_element found e = record {
  max_age = option_or found.max_age (directive_argument (codes "max-age") e);
  min_fresh = option_or found.min_fresh (directive_argument (codes "min-fresh") e);
  max_stale = option_or found.max_stale (directive_argument (codes "max-stale") e);
  no_store = found.no_store || is_directive (codes "no-store") e;
  no_cache = found.no_cache || is_directive (codes "no-cache") e;
  must_revalidate = found.must_revalidate || is_directive (codes "must-revalidate") e;
  only_if_cached = found.only_if_cached || is_directive (codes "only-if-cached") e;
}

-- with more elements
abbrev pub with_elements : Found → List (List ℕ) → Found
with_elements found [] = found
with_elements found (e ∷ es) = with_elements (with_element found e) es

-- the seconds of an argument, or these where it tells none
abbrev pub seconds_or : ℕ → Argument → ℕ
seconds_or other Absent = other
seconds_or other Unreadable = other
seconds_or other (Seconds n) = n

abbrev pub staleness_of : Argument → Option (Option ℕ)
staleness_of Absent = Some None
staleness_of Unreadable = None
staleness_of (Seconds n) = Some (Some n)

-- the directives that were found
abbrev pub said_by : Found → Directives
said_by found = record {
  max_age = option_map (seconds_or 0) found.max_age;
  no_store = found.no_store;
  no_cache = found.no_cache;
  must_revalidate = found.must_revalidate;
  only_if_cached = found.only_if_cached;
  min_fresh = option_map (seconds_or most_seconds) found.min_fresh;
  max_stale = option_and_then staleness_of found.max_stale;
}
