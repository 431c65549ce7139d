use Rattle.std.{proofs.Common.{nat_eq}, specs.HashMap.{get}}
use Rattle.hc_effects.proofs.Vocabulary.{act_list}
use Rattle.hc_stored.specs.Entries.{shelf_of}
use Rattle.hc_on_poll.specs.Ready.{MayLeaveLine}
use Rattle.hc_state.proofs.Maps.{lent, known_of, some_that}
use Rattle.hc_on_poll.proofs.PastHandler.{past_answered}
use Rattle.hc_on_poll.proofs.plan.open_past.Goals as goal

pub returns-clause-answers : goal.returns-clause-answers
returns-clause-answers g c =
    let r = c.args.rows.now in
    let k = c.unwrap-consumer.result.now in
    let at = lent c.get.result (get nat_eq r.consumers c.args.c) c.unwrap-consumer.result c.get.ensures.value c.unwrap-consumer.ensures in
    let launch = c.in_ok-x.ensures in
    some_that (get nat_eq r.consumers c.args.c) k _ at (λ want limits t v facts rows row is.
    past_answered r c.leave_line.new.rows c.launch.new.self c.read_past.new.consumers t facts.law c.args.now c.args.c want c.args.need k v rows at row
    (known_of (get nat_eq r.consumers c.args.c) k (MayLeaveLine r.keys c.args.c) at c.requires.leaves).idle c.in_ok-x.x c.in_ok-request.request
    c.in_ok-request.ensures c.requires.past is launch.number launch.next launch.ok c.leave_line.ensures c.read_past.ensures
    (shelf_of r.entries).faults (act_list c.args.out.now) (act_list c.open.new.out) c.open.ensures)
