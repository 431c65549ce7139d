use Rattle.std.proofs.Common.{◌≡◌, vec_len}
use Rattle.hc_fields.specs.Read.{IsRead}
use Rattle.hc_fields.proofs.reading.read_marks.Given as goal

abbrev pub invariant-loop-taken : goal.invariant-loop-taken
invariant-loop-taken l = record {
  read : IsRead l.text l.marks.items l.read;
  count_is : vec_len l.marks ≡ l.taken;
}
