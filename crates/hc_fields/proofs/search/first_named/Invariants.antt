use Rattle.std.proofs.Common.{◌≡◌, ℕ, ◌<◌, false, get_or, []}
use Rattle.http_header.specs.Token.{lowercase}
use Rattle.hc_fields.specs.{FieldList.{has_name}, Marks.{fields_at}}
use Rattle.hc_fields.proofs.search.first_named.Given as goal

abbrev pub invariant-loop-start : goal.invariant-loop-start
invariant-loop-start l = (k : ℕ) → k < l.start → has_name (lowercase l.name) (get_or (fields_at l.text l.marks) k ([], [])) ≡ false
