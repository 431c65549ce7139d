-- The fields that each answer of the test origin has.
use Rattle.std.proofs.Common.{ℕ, ◌^◌, ◌<◌, ◌≤◌, length, arith}
use Rattle.hc_fields.specs.FieldList.{size_of}
use Rattle.hc_validate.specs.Origin.{common}
use Rattle.hc_validate.proofs.Numbers.{length-quoted, quoted}

pub size-common : (n : ℕ) → n < 2 ^ 64 → size_of (common n) ≤ 100
size-common n h = let short : length (quoted n) ≤ 22 = length-quoted n h in omega (arith, short)
