use Rattle.hc_contents.specs.PlainContents.{plain_contents}
use Rattle.hc_core.proofs.BegunItems.{AreKept}
use Rattle.hc_core.proofs.rows.begin.begin_with.Given as goal

abbrev pub invariant-loop-item : goal.invariant-loop-item
invariant-loop-item g l = AreKept l.initial.rows l.rows (plain_contents l.contents) l.item-index
