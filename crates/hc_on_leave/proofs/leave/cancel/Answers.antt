use Rattle.hc_effects.proofs.Vocabulary.{act_list}
use Rattle.hc_stored.specs.Entries.{shelf_of}
use Rattle.hc_state.proofs.LeftRows.{live_row}
use Rattle.hc_on_leave.proofs.LeaveHandlers.{cancel_answered}
use Rattle.hc_on_leave.proofs.leave.cancel.Goals as goal

pub returns-clause-answers : goal.returns-clause-answers
returns-clause-answers g c = λ limits t facts stands accepted.
    let r = c.args.rows.now in
    let v = live_row r t c.args.c c.requires.live stands in
    cancel_answered limits (shelf_of r.entries).faults _ t facts.law c.args.now c.args.c v.0 v.1 (act_list c.args.out.now) _
    (c.leave.ensures.left _ t v.0 facts stands v.1)
