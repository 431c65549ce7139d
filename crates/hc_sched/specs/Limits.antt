-- What holds of an item while its field lines are coming.
use Rattle.std.specs.Prelude.{◌+◌, ◌*◌, ◌<◌, ◌≤◌, length, Option, Some, None}
use Rattle.hc_fields.specs.FieldList.{size_of}
use Rattle.hc_sched.specs.declared.begun.Begun.{Begun}

-- A line is missing, and there are few fields, small ones, beside a first line of at most 8,400
-- bytes.
pub record IsBegun (begun : Begun) : Type 0 where
  pub some : 0 < begun.missing
  pub few : length begun.fields + begun.missing ≤ 64
  pub small : size_of begun.fields ≤ 32768
  pub short : begun.bytes ≤ 8400 + size_of begun.fields + 3 * length begun.fields

abbrev pub MayBegun : Option Begun → Type 0
MayBegun None = Unit {0}
MayBegun (Some begun) = IsBegun begun
