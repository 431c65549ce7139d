use Rattle.std.{proofs.Common.{nat_eq, refl}, specs.HashMap.{get}}
use Rattle.hc_stored.specs.Entries.{shelf_of}
use Rattle.hc_on_leave.proofs.AskerHandler.{falls_back_as}
use Rattle.hc_state.proofs.{Dropping.{merely_user, user_of}, Maps.{lent}}
use Rattle.hc_on_head.proofs.asker.fall_back.Goals as goal

pub unbind_from-requires : goal.unbind_from-requires
unbind_from-requires g c =
    let r = c.args.rows.now in
    let k = c.unwrap-consumer.result.now in
    let at = lent c.get.result (get nat_eq r.consumers c.args.c) c.unwrap-consumer.result c.get.ensures.value c.unwrap-consumer.ensures in
    merely_user k.place c.args.c (shelf_of r.entries) c.requires.stands
    (λ s. user_of r s.t s.facts.law c.args.c k at s.rows)

pub returns-clause-stands : goal.returns-clause-stands
returns-clause-stands g c = λ limits t x w v facts awaits for_it apart stands.
    let r = c.args.rows.now in
    let k = c.unwrap-consumer.result.now in
    let at = lent c.get.result (get nat_eq r.consumers c.args.c) c.unwrap-consumer.result c.get.ensures.value c.unwrap-consumer.ensures in
    falls_back_as r _ t facts.law x c.args.c w v k c.args.place awaits for_it apart at stands refl refl
    c.stand.ensures c.leave_key.ensures c.unbind_from.ensures.unbound
