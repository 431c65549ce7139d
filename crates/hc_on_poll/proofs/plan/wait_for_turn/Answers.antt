use Rattle.hc_effects.proofs.Vocabulary.{act_list}
use Rattle.hc_stored.specs.Entries.{shelf_of}
use Rattle.hc_on_poll.proofs.WaitHandlers.{turn_waits}
use Rattle.hc_on_poll.proofs.plan.wait_for_turn.Goals as goal

pub returns-clause-answers : goal.returns-clause-answers
returns-clause-answers g c = λ now want limits t v facts rows row is.
    let r = c.args.rows.now in
    turn_waits limits (shelf_of r.entries).faults _ t facts.law now c.args.c want v row (act_list c.args.out.now) (act_list c.wait.new.out) c.args.d is
    c.wait.ensures.acts (c.queue_again.ensures.stands _ t v facts.law rows row)
