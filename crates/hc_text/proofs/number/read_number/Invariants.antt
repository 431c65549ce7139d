use Rattle.std.{proofs.Common.{◌≡◌, ◌≤◌, take, true}, specs.{Char.{is_ascii_digit}, List.{list_all}, Str.Parse.{digits_value}}}
use Rattle.hc_text.proofs.number.read_number.Given as goal

abbrev pub invariant-loop-b : goal.invariant-loop-b
invariant-loop-b l = (l.n ≡ digits_value 10 (take l.b-index l.text)) × (list_all is_ascii_digit (take l.b-index l.text) ≡ true) × (l.n ≤ 4611686018427387909)
