use Rattle.std.{proofs.Common.{◌≡◌, nat_eq, None, subst}, specs.HashMap.{get}}
use Rattle.hc_stored.specs.Entries.{shelf_of}
use Rattle.hc_state.specs.{Changes.{BecomesAt}, Leaving.{LeavesPlace, left_of}}
use Rattle.hc_state.proofs.{Dropping.{merely_user, stands_left, user_of}, Maps.{known_of, lent, removed, some_that}, Words.{there}}
use Rattle.hc_on_leave.specs.Groups.{LeavesGroup}
use Rattle.hc_on_leave.proofs.LeftGroup.{left_over_is}
use Rattle.hc_on_leave.proofs.gone.remove_consumer.Goals as goal

pub returns-clause-left : goal.returns-clause-left
returns-clause-left g c =
    let r = c.args.rows.now in
    let n = c.args.c in
    let k = c.unwrap-consumer.result.now in
    let at = lent c.get.result (get nat_eq r.consumers n) c.unwrap-consumer.result c.get.ensures.value c.unwrap-consumer.ensures in
    let leaves = known_of (get nat_eq r.consumers n) k (λ m. LeavesGroup m.place n r.entries c.leave_place-left.result) at c.leave_place-left.ensures.left in
    let user = merely_user k.place n (shelf_of r.entries) c.requires.may.stands (λ s. user_of r s.t s.facts.law n k at s.rows) in
    some_that (get nat_eq r.consumers n) k (λ m. c.left_over.result ≡ left_of r n m) at
    (left_over_is r n k c.if_running-own.result c.writer_group_at-shared.result c.left_over.result c.leave_place-left.result user c.if_running-own.ensures
    c.writer_group_at-shared.ensures leaves c.left_over.ensures)

pub returns-clause-stands : goal.returns-clause-stands
returns-clause-stands g c = λ limits t v law row stands.
    let r = c.args.rows.now in
    let mid = c.leave_place-left.new.rows in
    let found = there (get nat_eq r.consumers c.args.c) (LeavesPlace r mid c.args.c) c.leave_place-left.ensures.place in
    let left = found.2 in
    stands_left r _ t law c.args.c found.0 v row found.1 stands left.last_start left.line left.forgets left.unbinds
    (subst (λ z. BecomesAt z c.remove.new.self c.args.c None) left.consumers
    (removed mid.consumers c.remove.new.self c.args.c c.remove.result c.remove.ensures.updates c.remove.ensures.value c.remove.ensures.len))
