use Rattle.std.{proofs.Common.{nat_eq, sym, ◌∙◌, subst}, specs.HashMap.{get}}
use Rattle.hc_effects.proofs.Vocabulary.{act_list}
use Rattle.hc_stored.specs.Entries.{shelf_of}
use Rattle.hc_state.specs.{Handlers.{HasTurn}, Kept.{KeepsConsumer}}
use Rattle.hc_state.proofs.{Ties.{kept_row}, Words.{there}}
use Rattle.hc_on_poll.proofs.WaitHandlers.{turn_move, head_waits}
use Rattle.hc_on_poll.proofs.poll.await_head.Goals as goal

pub returns : goal.returns
returns g c = record {
  answers = λ now want limits t facts rows accepted.
      let r = c.args.rows.now in
      let (k, at, turned) = there (get nat_eq r.consumers c.args.c) (HasTurn c.args.x) c.requires.turn in
      let (v, row, kept) = kept_row t k (t.consumer c.args.c) (subst (λ o. KeepsConsumer t o (t.consumer c.args.c)) at (rows.consumers c.args.c)) in
      head_waits limits (shelf_of r.entries).faults r t facts.law now c.args.c want v row (act_list c.args.out.now) (act_list c.wait.new.out) c.args.x
      (turn_move t facts.law now want c.args.c c.args.x v row (sym kept.place ∙ turned)) c.wait.ensures.acts rows;
}
