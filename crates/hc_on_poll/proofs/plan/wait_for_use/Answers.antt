use Rattle.std.{proofs.Common.{Some, nat_eq, subst}, specs.HashMap.{get}}
use Rattle.hc_effects.proofs.Vocabulary.{act_list}
use Rattle.hc_stored.specs.Entries.{shelf_of}
use Rattle.hc_state.specs.{Kept.{KeepsConsumer}, Plans.{HasCurrent}}
use Rattle.hc_on_poll.proofs.PassesHandler.{use_waits, current_as}
use Rattle.hc_state.proofs.Words.{there}
use Rattle.hc_on_poll.proofs.plan.wait_for_use.Goals as goal

pub returns-clause-answers : goal.returns-clause-answers
returns-clause-answers g c = λ now want limits t v facts rows row is.
    let r = c.args.rows.now in
    let (k, at, held) = there (get nat_eq r.consumers c.args.c) (HasCurrent r.keys c.args.r) c.requires.current in
    let kept = subst (KeepsConsumer t (Some k)) row (subst (λ o. KeepsConsumer t o (t.consumer c.args.c)) at (rows.consumers c.args.c)) in
    let now_is = current_as r t k v c.args.r rows kept held in
    use_waits limits (shelf_of r.entries).faults _ t facts.law now c.args.c want c.args.r c.args.d v row (act_list c.args.out.now)
    (act_list c.wait.new.out) now_is is c.wait.ensures.acts (c.pass.ensures.stands _ t v facts.law rows row now_is)
