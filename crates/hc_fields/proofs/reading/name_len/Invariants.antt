use Rattle.std.proofs.Common.{◌≡◌, ℕ, ◌<◌, true, get_or}
use Rattle.hc_fields.specs.Lines.{is_lower_byte}
use Rattle.hc_fields.proofs.reading.name_len.Given as goal

abbrev pub invariant-loop-i : goal.invariant-loop-i
invariant-loop-i l = (k : ℕ) → k < l.i → is_lower_byte (get_or l.text k 0) ≡ true
