-- The fetch's own requests are within limits.
use Rattle.std.{proofs.{Common.{ℕ, ◌-◌, ◌*◌, ◌^◌, ◌<◌, ◌≤◌, ◌++◌, length, Bool, true, false, Some, None, arith, length-append}, lemmas.Nat.{mul-le}}, specs.{Prelude.{codes, if◌then◌else◌, ◌==◌}, Fmt.{decimal}}}
use Rattle.hc_effects.proofs.Vocabulary.{IsEventWithinLimits}
use Rattle.hc_fields.specs.FieldList.{IsWithinLimits}
use Rattle.hc_validate.proofs.Numbers.{short-decimal}
use Rattle.hc_fetch.specs.{declared.plan.FetchPlan.{FetchPlan}, Bounds.{IsPlan}, Plans.{fields_for, first_start, part_start, part_count, last_position}}

one_within : (first last : ℕ) → first < 2 ^ 64 → last < 2 ^ 64 → IsWithinLimits (fields_for (Some (first, last)))
one_within first last low high =
    let long : length (codes "bytes=" ++ decimal first ++ codes "-" ++ decimal last) ≤ 60 =
    simp length-append (omega (arith, short-decimal first low, short-decimal last high)) in
    record { few = omega arith; small = omega (arith, long) }

none_within : IsWithinLimits (fields_for None)
none_within = record { few = omega arith; small = omega arith }

first_by : (b : Bool) (size : ℕ) → size ≤ 2 ^ 40 → IsWithinLimits (fields_for (if b then None else Some (0, size - 1)))
first_by true size small = none_within
first_by false size small = one_within 0 (size - 1) (omega arith) (omega (arith, small))

pub first_within : (plan : FetchPlan) → IsPlan plan → IsEventWithinLimits (first_start plan)
first_within plan is = (omega arith, is.target, first_by (plan.parts == 1) plan.size is.size)

last_small : (b : Bool) (total i size : ℕ) → total < 2 ^ 62 → i ≤ 1000 → size ≤ 2 ^ 40 → (if b then total - 1 else i * size - 1) < 2 ^ 64
last_small true total i size low few small = omega (arith, low)
last_small false total i size low few small = let product : i * size ≤ 1000 * 2 ^ 40 = mul-le i size 1000 (2 ^ 40) few small in omega (arith, product)

pub part_within : (plan : FetchPlan) (total i : ℕ) → IsPlan plan → total < 2 ^ 62 → i ≤ 1000 → IsEventWithinLimits (part_start plan total i)
part_within plan total i is low few =
    let product : (i - 1) * plan.size ≤ 1000 * 2 ^ 40 = mul-le (i - 1) plan.size 1000 (2 ^ 40) (omega (arith, few)) is.size in (
      omega (arith, few),
      is.target,
      one_within ((i - 1) * plan.size) (last_position plan total i) (omega (arith, product))
          (last_small (i == part_count plan total) total i plan.size low few is.size),
    )
