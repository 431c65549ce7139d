use Rattle.std.proofs.Common.{[], take, ◌≤◌, ◌-◌, length}
use Rattle.hc_msg.specs.{Reading.{Leads}, Taking.{reading_of, IsSound}}
use Rattle.hc_msg.proofs.answer.Answer.take.Given as goal

abbrev pub invariant-loop-used : goal.invariant-loop-used
invariant-loop-used l = record {
  leads : Leads (reading_of l.fn.self) (take l.used l.piece) [] (reading_of l.self);
  sound : IsSound l.self;
  within : l.used ≤ length l.piece;
}

abbrev pub decreases-loop-used : goal.decreases-loop-used
decreases-loop-used l = length l.piece - l.used
