use Rattle.std.{proofs.Common.{◌≡◌, ℕ, ◌+◌, ◌*◌, ◌-◌, length, List, Option, Some, None}, specs.Option.{option_copied}}
use Rattle.hc_fields.specs.Joined.{all_values, bytes_left}
use Rattle.hc_fields.proofs.agree.Joined.advance.Given as goal

-- pieces that are told already
abbrev pub reported : Option (List ℕ) → ℕ
reported None = 0
reported (Some value) = 1

abbrev pub invariant-loop-value : goal.invariant-loop-value
invariant-loop-value l = record {
  count : l.self.count ≡ length (all_values l.self);
  left : bytes_left l.self ≡ bytes_left l.fn.self;
}

abbrev pub decreases-loop-value : goal.decreases-loop-value
decreases-loop-value l = 2 * (l.self.count - l.self.next) + reported (option_copied l.self.value)
