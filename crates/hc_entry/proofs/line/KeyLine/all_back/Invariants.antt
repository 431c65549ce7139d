use Rattle.hc_entry.proofs.AllBackLemmas.{AreBackBelow}
use Rattle.hc_entry.proofs.line.KeyLine.all_back.Given as goal

abbrev pub invariant-loop-i : goal.invariant-loop-i
invariant-loop-i l = AreBackBelow l.i l.fn.self l.self
