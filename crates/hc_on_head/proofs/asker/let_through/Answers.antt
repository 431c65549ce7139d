use Rattle.std.{proofs.Common.{nat_eq, refl}, specs.HashMap.{get}}
use Rattle.hc_state.specs.Handlers.{IsInKey}
use Rattle.hc_state.proofs.Maps.{known_of, lent}
use Rattle.hc_on_head.proofs.PassHandler.{through_as}
use Rattle.hc_on_head.proofs.asker.let_through.Goals as goal

pub pass-requires : goal.pass-requires
pass-requires g c =
    let r = c.args.rows.now in
    let at = lent c.get.result (get nat_eq r.consumers c.args.c) c.unwrap-consumer.result c.get.ensures.value c.unwrap-consumer.ensures in
    known_of (get nat_eq r.consumers c.args.c) c.unwrap-consumer.result.now (IsInKey r.keys c.args.c) at c.requires.waits

pub returns-clause-stands : goal.returns-clause-stands
returns-clause-stands g c = λ limits t w v p law awaits for_it stood stands.
    let r = c.args.rows.now in
    let k = c.unwrap-consumer.result.now in
    let at = lent c.get.result (get nat_eq r.consumers c.args.c) c.unwrap-consumer.result c.get.ensures.value c.unwrap-consumer.ensures in
    through_as r _ t law c.args.x c.args.c c.args.r w v k p awaits for_it stood at stands refl refl refl c.stand.ensures c.pass.ensures
