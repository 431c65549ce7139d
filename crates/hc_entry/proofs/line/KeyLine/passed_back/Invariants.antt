use Rattle.hc_entry.proofs.AllBackLemmas.{ArePassedBackBelow}
use Rattle.hc_entry.proofs.line.KeyLine.passed_back.Given as goal

abbrev pub invariant-loop-place : goal.invariant-loop-place
invariant-loop-place l = ArePassedBackBelow l.place l.fn.self l.self
