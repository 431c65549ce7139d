use Rattle.std.{proofs.Common.{◌≡◌, refl, subst, nat_eq}, specs.{Prelude.{unwrap_or}, HashMap.{get}}}
use Rattle.hc_text.proofs.Basics.{same_some as same_row}
use Rattle.hc_effects.proofs.Vocabulary.{act_list, Opens, hole_request, move_of, need}
use Rattle.hc_record.specs.Plain.{plain}
use Rattle.hc_exch.specs.Exchanges.{next_of}
use Rattle.hc_model.specs.Rows as rows
use Rattle.hc_state.specs.Reads.{IsShownAt}
use Rattle.hc_on_poll.proofs.{LaterHole.{filled_answered}, ShowStored.{bound_row_of}}
use Rattle.hc_state.proofs.Maps.{lent, known_of, some_that}
use Rattle.hc_on_poll.proofs.hole.fill_later_hole.Goals as goal

pub returns-clause-answers : goal.returns-clause-answers
returns-clause-answers g c =
    let r = c.args.rows.now in
    let k = c.unwrap-consumer.result.now in
    let hole = c.args.hole in
    let head = plain c.args.head.now in
    let request = hole_request head k.request hole (unwrap_or head.total 0) in
    let at = lent c.get.result (get nat_eq r.consumers c.args.c) c.unwrap-consumer.result c.get.ensures.value c.unwrap-consumer.ensures in
    let reads = known_of (get nat_eq r.consumers c.args.c) k (IsShownAt c.args.r) at c.requires.shown in
    let launch = c.in_ok-x.ensures in
    some_that (get nat_eq r.consumers c.args.c) k _ at (λ want limits t v facts stands row is.
    let rd = bound_row_of r t facts.law c.args.c c.args.r reads.0.0 reads.0.1 reads.0.2 k stands at reads.0.3 in
    let one : v ≡ rd.v = same_row (t.consumer c.args.c) v rd.v row rd.row in
    filled_answered r _ t facts stands c.args.now want c.args.c c.args.r c.in_ok-x.x hole.lo hole.hi reads.0.2 k rd at reads.1 request c.in_ok-request.request
    (subst (λ (z : rows.Consumer). move_of t c.args.now want c.args.c z ≡ Opens (next_of r.exchanges) (need.Hole hole.lo hole.hi) request) one is)
    launch.number c.in_ok-request.ensures refl refl refl launch.next launch.ok c.own.ensures (act_list c.args.out.now) (act_list c.open.new.out) c.open.ensures)
