use Rattle.hc_effects.proofs.Vocabulary.{act_list}
use Rattle.hc_stored.specs.Entries.{shelf_of}
use Rattle.hc_on_leave.proofs.LeaveHandlers.{fail_answered}
use Rattle.hc_on_leave.proofs.leave.fail.Goals as goal

pub returns-clause-answers : goal.returns-clause-answers
returns-clause-answers g c = λ want limits t v facts stands row moves.
    let r = c.args.rows.now in
    fail_answered limits (shelf_of r.entries).faults _ t facts.law c.args.now c.args.c v row want c.args.cause (act_list c.args.out.now)
    (act_list c.put.new.out) _ moves c.put.ensures.acts (c.leave.ensures.left _ t v facts stands row)
