use Rattle.std.{proofs.Common.{nat_eq, refl}, specs.HashMap.{get}}
use Rattle.hc_stored.specs.Entries.{shelf_of}
use Rattle.hc_state.specs.Leaving.{LeavesPlace}
use Rattle.hc_state.proofs.{Dropping.{merely_user, user_of}, Maps.{lent, merely_false, some_that}}
use Rattle.hc_on_leave.specs.Groups.{LeavesGroup}
use Rattle.hc_on_leave.proofs.OffLine.{off_line}
use Rattle.hc_on_leave.proofs.gone.leave_place.Goals as goal

pub leave_key_at-requires : goal.leave_key_at-requires
leave_key_at-requires g c off =
    let r = c.args.rows.now in
    let k = c.unwrap-consumer.result.now in
    let at = lent c.get.result (get nat_eq r.consumers c.args.c) c.unwrap-consumer.result c.get.ensures.value c.unwrap-consumer.ensures in
    merely_false _ c.requires.may.stands (λ s. off_line r s.t c.args.c k at s.rows off)

pub unbind_from-requires : goal.unbind_from-requires
unbind_from-requires g c =
    let r = c.args.rows.now in
    let k = c.unwrap-consumer.result.now in
    let at = lent c.get.result (get nat_eq r.consumers c.args.c) c.unwrap-consumer.result c.get.ensures.value c.unwrap-consumer.ensures in
    merely_user k.place c.args.c (shelf_of r.entries) c.requires.may.stands
    (λ s. user_of r s.t s.facts.law c.args.c k at s.rows)

pub returns-clause-place : goal.returns-clause-place
returns-clause-place g c =
    let r = c.args.rows.now in
    let k = c.unwrap-consumer.result.now in
    let at = lent c.get.result (get nat_eq r.consumers c.args.c) c.unwrap-consumer.result c.get.ensures.value c.unwrap-consumer.ensures in
    some_that (get nat_eq r.consumers c.args.c) k (LeavesPlace r _ c.args.c) at
    (record { last_start = refl; consumers = refl; line = c.leave_key_at.ensures; forgets = c.forget_own.ensures; unbinds = c.unbind_from.ensures.unbound })

pub returns-clause-left : goal.returns-clause-left
returns-clause-left g c =
    let r = c.args.rows.now in
    let k = c.unwrap-consumer.result.now in
    let at = lent c.get.result (get nat_eq r.consumers c.args.c) c.unwrap-consumer.result c.get.ensures.value c.unwrap-consumer.ensures in
    some_that (get nat_eq r.consumers c.args.c) k (λ m. LeavesGroup m.place c.args.c r.entries c.unbind_from.result) at c.unbind_from.ensures.left
