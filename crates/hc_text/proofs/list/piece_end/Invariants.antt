use Rattle.std.{proofs.Common.{◌≡◌, ◌-◌, ◌≤◌, length, drop}, specs.Prelude.{slice_range}}
use Rattle.hc_text.specs.Elements.{cut_pieces, begin_with, Outside}
use Rattle.hc_text.proofs.list.piece_end.Given as goal

abbrev pub invariant-loop-at : goal.invariant-loop-at
invariant-loop-at l = record {
  from : l.start ≤ l.at;
  inside : l.at ≤ length l.text;
  piece : cut_pieces Outside (drop l.start l.text) ≡ begin_with (slice_range l.text l.start l.at) (cut_pieces Outside (drop l.at l.text));
}

abbrev pub decreases-loop-at : goal.decreases-loop-at
decreases-loop-at l = length l.text - l.at
