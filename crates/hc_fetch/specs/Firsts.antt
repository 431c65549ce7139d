-- What the code keeps of the first consumer's head.
use Rattle.std.specs.Prelude.{ℕ, ◌==◌, ◌||◌, Bool, false, if◌then◌else◌, Option, Some, None, is_some}
use Rattle.hc_fetch.specs.declared.ended.FetchEnded.{FetchEnded}
use Rattle.hc_fetch.specs.declared.ended.FetchEnded.TheVariants as ended
use Rattle.hc_fetch.specs.declared.first.First.{First}
use Rattle.hc_fetch.specs.Heads.{Head, total_of}

abbrev pub first_as : Option Head → Option First
first_as None = None
first_as (Some head) = Some (record { r = head.r; total = total_of head })

-- what is decided where c is shown r, by what was shown first
abbrev pub by_first : Option First → ℕ → ℕ → Option FetchEnded
by_first None c r = None
by_first (Some first) c r = if r == first.r then None else Some (ended.Other c r first.r)

-- the length of the whole that was shown first
abbrev pub total_in : Option First → Option ℕ
total_in None = None
total_in (Some first) = first.total

-- and that with which the others start: where it was shown just now, and nothing is decided
abbrev pub total_to_start : Bool → Option FetchEnded → Option First → Option ℕ
total_to_start was_shown decides first =
    if was_shown || is_some decides then None else total_in first

-- all of it was written: what the part told, or what the first consumer read to its end
abbrev pub is_done_at : Option ℕ → Bool → ℕ → Bool
is_done_at None has_ended n = has_ended
is_done_at (Some total) has_ended n = n == total

abbrev pub is_done_with : Option First → Bool → ℕ → Bool
is_done_with None has_ended n = false
is_done_with (Some first) has_ended n = is_done_at first.total has_ended n
