use Rattle.std.{proofs.Common.{ℕ, nat_eq, sym, ◌∙◌, subst}, specs.{Prelude.{is_some}, HashMap.{get}}}
use Rattle.hc_text.proofs.Basics.{none_or as none_is}
use Rattle.hc_effects.proofs.Vocabulary.{act_list}
use Rattle.hc_exch.specs.Exchanges.{table_of}
use Rattle.hc_state.specs.Left.{HasLeft}
use Rattle.hc_state.proofs.{CloseHandler.{leaves_nothing, has_left}, LeftAlone.{once_left, leave_stops}, LeftRows.{left_is, left_runs, open_left, own_is}, Maps.{lent, merely_true}}
use Rattle.hc_on_leave.proofs.{LeftGroup.{own_known}, Shorts.{shorts_left}}
use Rattle.hc_on_leave.proofs.leave.leave.Goals as goal

pub stop_bringing-requires-clause-may : goal.stop_bringing-requires-clause-may
stop_bringing-requires-clause-may g c =
    let r = c.args.rows.now in
    let mid = c.remove_consumer.new.rows in
    let x = c.in-Some.x in
    let may = c.requires.may in
    let leaves = c.remove_consumer.ensures.stands in
    record {
      running = merely_true (is_some (table_of mid.exchanges x).running) may.stands (λ s.
          let law = s.facts.law in
          left_runs r mid s.t law c.args.c x c.remove_consumer.result may.live c.remove_consumer.ensures.left c.in-Some.is s.rows
          (λ v row. leaves _ s.t v law row s.rows));
      short = shorts_left r mid c.args.c may.stands may.live leaves;
    }

pub returns-in_default-clause-left : goal.returns-in_default-clause-left
returns-in_default-clause-left g c = λ limits t v facts stands row.
    let r = c.args.rows.now in
    leaves_nothing _ t c.args.c v c.args.now _ _
    (sym (left_is r t facts.law c.args.c v row stands c.remove_consumer.result c.remove_consumer.ensures.left) ∙
    none_is c.remove_consumer.result c.in_default.not-Some) (c.remove_consumer.ensures.stands _ t v facts.law row stands)

pub returns-clause-left : goal.returns-clause-left
returns-clause-left g c = λ limits t v facts stands row.
    let r = c.args.rows.now in
    let n = c.args.c in
    let x = c.in-Some.x in
    let alone = c.if_own.result in
    let removed = c.remove_consumer.ensures in
    let left = sym (left_is r t facts.law n v row stands c.remove_consumer.result removed.left) ∙ c.in-Some.is in
    let own = own_is r t facts.law n v row stands x alone
    (own_known (get nat_eq r.consumers n) c.unwrap.result.now n x alone
    (lent c.get.result (get nat_eq r.consumers n) c.unwrap.result c.get.ensures.value c.unwrap.ensures) c.if_own.ensures) in
    let e = open_left t facts.law n v row x left in
    let stopped = c.stop_bringing.ensures.stopped _ t (once_left t n v) facts (leave_stops t facts.law n v row x left e.0 e.1 e.2 alone own)
    (removed.stands _ t v facts.law row stands) in
    subst (λ (m : ℕ). HasLeft limits m c.stop_bringing.new.rows t (act_list c.args.out.now) (act_list c.stop_bringing.new.out) c.args.now n v) removed.faults
    (has_left _ t n v x c.args.now _ (act_list c.args.out.now) (act_list c.put.new.out) _ left c.put.ensures.acts stopped)
