-- For how long a stored head is fresh (RFC 9111 section 4.2.1), in seconds.
use Rattle.std.specs.Prelude.{ℕ, ◌-◌, ◌/◌, min, nat_le, List, Option, Some, None, codes, if◌then◌else◌}
use Rattle.hc_cachectl.specs.Directives.{of_response}
use Rattle.hc_fields.specs.FirstValues.{has_field}
use Rattle.hc_record.specs.Head.{Head}
use Rattle.hc_fresh.specs.Ages.{date_in, date_of}

-- up to Expires, which is past where it can't be read (RFC 9111 section 5.3)
abbrev pub seconds_until : Option ℕ → ℕ → ℕ
seconds_until None date = 0
seconds_until (Some expires) date = expires - date

-- a tenth of the time since the last change, a week at most (RFC 9111 section 4.2.2)
abbrev pub heuristic_lifetime : Option ℕ → ℕ → ℕ
heuristic_lifetime None date = 0
heuristic_lifetime (Some modified) date = if nat_le modified date then min ((date - modified) / 10) 604800 else 0

-- max-age, where it stands; else by Expires, where that stands; else guessed
abbrev pub lifetime_by : Option ℕ → Head → ℕ
lifetime_by (Some seconds) head = seconds
lifetime_by None head =
    if has_field (codes "expires") head.fields then seconds_until (date_in (codes "expires") head.fields) (date_of head)
    else heuristic_lifetime (date_in (codes "last-modified") head.fields) (date_of head)

unfoldable pub lifetime : Head → ℕ
lifetime head = lifetime_by (of_response head.fields).max_age head
