use Rattle.std.proofs.Common.{◌+◌, ◌≤◌, length}
use Rattle.hc_sched.specs.{Reading.{Reads}, Feeding.{IsWithin}}
use Rattle.hc_sched.proofs.FeedLemmas.{Still}
use Rattle.hc_sched.proofs.reader.Reader.read.Given as goal

abbrev pub invariant-loop-line : goal.invariant-loop-line
invariant-loop-line l = record {
  still : Still (Reads l.fn.self.place l.fn.self.line.items) l.fn.piece l.fn.out.items l.self.place l.self.line.items l.rest l.out.items;
  within : IsWithin l.self;
  few : l.self.place.lines + length l.rest ≤ l.fn.self.place.lines + length l.fn.piece;
}

abbrev pub decreases-loop-line : goal.decreases-loop-line
decreases-loop-line l = length l.rest
