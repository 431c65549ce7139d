-- How old a stored head is (RFC 9111 section 4.2.3), in seconds.
use Rattle.std.specs.Prelude.{ℕ, ◌+◌, ◌-◌, max, List, codes, Option}
use Rattle.std.specs.Option.{option_and_then, unwrap_or}
use Rattle.hc_cachectl.specs.Seconds.{plain_seconds}
use Rattle.hc_fields.specs.FirstValues.{first_value}
use Rattle.hc_record.specs.Head.{Head}
use Rattle.httpdate.specs.Date.{parse_secs}

-- Dates of a stored head (RFC 9110 section 5.6.7).

-- the second that the first value of this name shows, where it is a date
abbrev pub date_in : List ℕ → List (List ℕ × List ℕ) → Option ℕ
date_in name fields = option_and_then parse_secs (first_value name fields)

-- when the head was made: its Date (RFC 9110 section 6.6.1), or else when it came
abbrev pub date_of : Head → ℕ
date_of head = unwrap_or (date_in (codes "date") head.fields) head.answered

-- what Age says (RFC 9111 section 5.1), where it is digits alone
abbrev pub age_value : List (List ℕ × List ℕ) → ℕ
age_value fields = unwrap_or (option_and_then plain_seconds (first_value (codes "age") fields)) 0

abbrev pub apparent_age : Head → ℕ
apparent_age head = head.answered - date_of head

abbrev pub corrected_age_value : Head → ℕ
corrected_age_value head = age_value head.fields + (head.answered - head.requested)

-- how old it was when it came
unfoldable pub corrected_initial_age : Head → ℕ
corrected_initial_age head = max (apparent_age head) (corrected_age_value head)

abbrev pub age : Head → ℕ → ℕ
age head now = corrected_initial_age head + (now - head.answered)
