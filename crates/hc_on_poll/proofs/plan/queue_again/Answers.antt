use Rattle.std.{proofs.Common.{refl, nat_eq}, specs.HashMap.{get}}
use Rattle.hc_on_poll.specs.Ready.{MayQueue}
use Rattle.hc_state.proofs.{Maps.{lent, known_of}, QueueHandler.{stands_still, stands_back, line_by, changes_still}}
use Rattle.hc_on_poll.proofs.plan.queue_again.Goals as goal

pub returns-in-Passed-clause-stands : goal.returns-in-Passed-clause-stands
returns-in-Passed-clause-stands g c = λ limits t v law rows row.
    let r = c.args.rows.now in
    let k = c.unwrap-consumer.result.now in
    let at = lent c.get.result (get nat_eq r.consumers c.args.c) c.unwrap-consumer.result c.get.ensures.value c.unwrap-consumer.ensures in
    stands_back r _ t law c.args.c k v rows at row refl refl refl c.in-Passed.r c.in-Passed.kept c.in-Passed.is c.line_up.ensures c.back.ensures

pub returns-in_default : goal.returns-in_default
returns-in_default g c =
    let r = c.args.rows.now in
    let k = c.unwrap-consumer.result.now in
    let at = lent c.get.result (get nat_eq r.consumers c.args.c) c.unwrap-consumer.result c.get.ensures.value c.unwrap-consumer.ensures in
    let line = line_by k (known_of (get nat_eq r.consumers c.args.c) k (MayQueue r.keys c.args.c) at c.requires.queues).idle c.in_default.not-Passed in
    record {
      stands = λ limits t v law rows row. stands_still r _ t law c.args.c k v rows at row refl refl refl line refl refl;
      consumer = changes_still r.consumers c.args.c k at line;
      rest = record { last_start = refl; exchanges = refl; entries = refl };
    }
