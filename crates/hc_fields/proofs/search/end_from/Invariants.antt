use Rattle.std.proofs.Common.{◌≡◌, ℕ, ◌<◌, false, get_or, []}
use Rattle.http_header.specs.Token.{lowercase}
use Rattle.hc_fields.specs.Marks.{fields_at}
use Rattle.hc_fields.proofs.Places.{is_behind}
use Rattle.hc_fields.proofs.search.end_from.Given as goal

abbrev pub invariant-loop-end : goal.invariant-loop-end
invariant-loop-end l = (k : ℕ) → k < l.end → is_behind (lowercase l.name) (get_or (fields_at l.text l.marks) k ([], [])) ≡ false
