use Rattle.std.{proofs.Common.{nat_eq, refl}, specs.HashMap.{get}}
use Rattle.hc_on_poll.specs.Ready.{MayPass}
use Rattle.hc_state.proofs.Maps.{lent, known_of}
use Rattle.hc_on_poll.proofs.PassesHandler.{stands_passed, stands_let}
use Rattle.hc_on_poll.proofs.plan.pass.Goals as goal

pub returns-in-Line-clause-stands : goal.returns-in-Line-clause-stands
returns-in-Line-clause-stands g c = λ limits t v law rows row now_is.
    let r = c.args.rows.now in
    let k = c.unwrap-consumer.result.now in
    let at = lent c.get.result (get nat_eq r.consumers c.args.c) c.unwrap-consumer.result c.get.ensures.value c.unwrap-consumer.ensures in
    stands_let r _ t law c.args.c c.args.r k v rows at row now_is refl refl refl c.in-Line.is c.let_pass.ensures c.pass.ensures

pub returns-in_default-clause-stands : goal.returns-in_default-clause-stands
returns-in_default-clause-stands g c = λ limits t v law rows row now_is.
    let r = c.args.rows.now in
    let k = c.unwrap-consumer.result.now in
    let at = lent c.get.result (get nat_eq r.consumers c.args.c) c.unwrap-consumer.result c.get.ensures.value c.unwrap-consumer.ensures in
    stands_passed r r t law c.args.c c.args.r k v rows at row now_is refl refl refl
    (known_of (get nat_eq r.consumers c.args.c) k (MayPass r.keys c.args.c) at c.requires.passes).idle c.in_default.not-Line refl refl
