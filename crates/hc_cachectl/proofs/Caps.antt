-- Numbers that are told are small.
use Rattle.std.{proofs.{Common.{ℕ, ◌≤◌, ◌==◌, List, [], ◌∷◌, Option, Some, None, inl, inr, arith}, lemmas.Bool.{cases_Bool}}, specs.{Prelude.{IfSome, codes}, Option.{option_map, option_and_then, unwrap_or}, List.{find, list_all, list_any, after_first}, Char.{is_ascii_digit}}}
use Rattle.hc_text.specs.Elements.{quote}
use Rattle.hc_cachectl.specs.{Seconds.{most_seconds, plain_seconds, quoted_content, seconds_of}, Directives.{is_directive, is_equals, argument_of, seconds_in, staleness_in, directives_of, IsCapped}}

abbrev IsSmall : Option ℕ → Type 0
IsSmall o = IfSome o (λ n. n ≤ most_seconds)

plain_small : (ds : List ℕ) → IsSmall (plain_seconds ds)
plain_small [] = tt
plain_small (d ∷ ds) = elim (cases_Bool (list_all is_ascii_digit (d ∷ ds))) [
  | inl passes ↦ rw passes (omega arith)
  | inr fails ↦ rw fails tt
]

quoted_small : (text : Option (List ℕ)) → IsSmall (option_and_then plain_seconds text)
quoted_small None = tt
quoted_small (Some ds) = plain_small ds

argument_small : (text : List ℕ) → IsSmall (seconds_of text)
argument_small [] = tt
argument_small (b ∷ text) = elim (cases_Bool (b == quote)) [
  | inl passes ↦ rw passes (quoted_small (quoted_content text))
  | inr fails ↦ rw fails (plain_small (b ∷ text))
]

read_small : (argument : Option (List ℕ)) → IsSmall (option_and_then seconds_of argument)
read_small None = tt
read_small (Some text) = argument_small text

or_small : (d : ℕ) (seconds : Option ℕ) → d ≤ most_seconds → IsSmall seconds → unwrap_or seconds d ≤ most_seconds
or_small d None le small = le
or_small d (Some n) le small = small

first_small : (d : ℕ) (o : Option (List ℕ)) → d ≤ most_seconds → IsSmall (option_map (λ e. unwrap_or (seconds_in e) d) o)
first_small d None le = tt
first_small d (Some e) le = or_small d (seconds_in e) le (read_small (argument_of e))

bound_small : (seconds : Option ℕ) → IsSmall seconds → IfSome (option_map Some seconds) IsSmall
bound_small None small = tt
bound_small (Some n) small = small

stale_small : (o : Option (List ℕ)) → IfSome (option_and_then staleness_in o) IsSmall
stale_small None = tt
stale_small (Some e) = elim (cases_Bool (list_any is_equals e)) [
  | inl passes ↦ rw passes (bound_small (seconds_of (after_first is_equals e)) (argument_small (after_first is_equals e)))
  | inr fails ↦ rw fails tt
]

pub capped : (es : List (List ℕ)) → IsCapped (directives_of es)
capped es = record {
  max_age = first_small 0 (find (is_directive (codes "max-age")) es) (omega arith);
  min_fresh = first_small most_seconds (find (is_directive (codes "min-fresh")) es) (omega arith);
  max_stale = stale_small (find (is_directive (codes "max-stale")) es);
}
