use Rattle.std.{proofs.Common.{◌≡◌, ◌++◌, ◌+◌, ◌≤◌, length, take}, specs.Prelude.{vec_capacity}}
use Rattle.hc_fields.specs.Marks.{separated_text}
use Rattle.hc_fields.proofs.joining.join.Given as goal

abbrev pub invariant-loop-mark : goal.invariant-loop-mark
invariant-loop-mark l = record {
  bytes : l.bytes.items ≡ l.first ++ separated_text l.text (take l.mark-index l.others);
  room : length l.first + length (separated_text l.text l.others) ≤ vec_capacity l.bytes;
}
