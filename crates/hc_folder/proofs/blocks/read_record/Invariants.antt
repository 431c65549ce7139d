use Rattle.std.proofs.Common.{◌+◌, ◌≤◌, length}
use Rattle.hc_folder.specs.Blocks.{IsReadTo}
use Rattle.hc_folder.proofs.blocks.read_record.Given as goal

abbrev pub invariant-turns : goal.invariant-turns
invariant-turns l = record {
  read : IsReadTo l.fn.sum l.file l.text.items l.sum l.rest;
  shorter : length l.text.items + length l.rest ≤ length l.file;
}

abbrev pub decreases-turns : goal.decreases-turns
decreases-turns l = length l.rest
