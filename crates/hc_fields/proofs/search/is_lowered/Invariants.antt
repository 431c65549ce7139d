use Rattle.std.{proofs.Common.{◌≡◌, ℕ, ◌<◌, get_or}, specs.Char.{to_ascii_lowercase}}
use Rattle.hc_fields.proofs.search.is_lowered.Given as goal

abbrev pub invariant-loop-i : goal.invariant-loop-i
invariant-loop-i l = (k : ℕ) → k < l.i → to_ascii_lowercase (get_or l.name k 0) ≡ get_or l.bytes k 0
