-- What the front tells of one act.
use Rattle.std.specs.Prelude.{ℕ, ◌==◌, Bool, false, Option, Some, if◌then◌else◌}
use Rattle.hc_event.specs.declared.act.Act.{Act}
use Rattle.hc_event.specs.declared.act.Act.TheVariants as act
use Rattle.hc_event.specs.declared.event.Request.{Request}
use Rattle.hc_condition.specs.NotModified.{is_not_modified, fields_of_304}

-- a head is told as a 304 where it would be that of the caller's copy (RFC 9110 section 13.2.2)
abbrev pub act_shown : Request → Act → Act
act_shown request (act.Shown c r why status fields lo hi) =
    if is_not_modified request status fields
    then act.Shown c r why 304 (fields_of_304 fields) 0 (Some 0)
    else act.Shown c r why status fields lo hi
act_shown request other = other

-- a head is shown that would be that of the copy
abbrev pub is_satisfying : Request → Act → Bool
is_satisfying request (act.Shown c r why status fields lo hi) = is_not_modified request status fields
is_satisfying request other = false

-- c ends or fails by the act
abbrev pub is_leaving : ℕ → Act → Bool
is_leaving c (act.Ended d) = d == c
is_leaving c (act.Failed d cause) = d == c
is_leaving c other = false
