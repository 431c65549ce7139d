use Rattle.std.proofs.Common.{List, sym, subst, arith}
use Rattle.hc_sched.specs.{declared.schedule.Timed.{Timed}, Laws.{AreTimed}}
use Rattle.hc_driver.proofs.{Timings.{timed_front}, Runs.{fed_front, front_small, front_few, passes_stopped, passes_fed, comes_err}}
use Rattle.hc_driver.proofs.answering.Answering.go_piece.Goals as goal

pub go_all-requires-clause-timed : goal.go_all-requires-clause-timed
go_all-requires-clause-timed g c =
    let fed = fed_front c.args.feed.now c.args.piece.now c.feed-fed.result c.feed-fed.new.self c.feed-fed.new.out.items
    (rw c.clear.ensures.items at c.feed-fed.ensures.feeds) in
    rw c.as_slice.ensures.value
    (timed_front (g.C.Course.moment c.args.on.now) c.feed-fed.new.out.items fed.0
    (subst (λ (l : List Timed). AreTimed (g.C.Course.moment c.args.on.now) l) (sym fed.1) c.requires.timed))

pub go_all-requires-clause-few : goal.go_all-requires-clause-few
go_all-requires-clause-few g c =
    let fed = fed_front c.args.feed.now c.args.piece.now c.feed-fed.result c.feed-fed.new.self c.feed-fed.new.out.items
    (rw c.clear.ensures.items at c.feed-fed.ensures.feeds) in
    let small = front_small c.feed-fed.new.out.items fed.0 _ fed.1 in
    let few = c.requires.few in
    rw c.as_slice.ensures.value (omega arith)

pub go_all-requires-clause-count : goal.go_all-requires-clause-count
go_all-requires-clause-count g c =
    let fed = fed_front c.args.feed.now c.args.piece.now c.feed-fed.result c.feed-fed.new.self c.feed-fed.new.out.items
    (rw c.clear.ensures.items at c.feed-fed.ensures.feeds) in
    let few = front_few c.feed-fed.new.out.items fed.0 _ fed.1 in
    let count = c.requires.count in
    rw c.as_slice.ensures.value (omega arith)

pub returns-in_err-go_all-clause-goes : goal.returns-in_err-go_all-clause-goes
returns-in_err-go_all-clause-goes g c =
    let fed = fed_front c.args.feed.now c.args.piece.now c.feed-fed.result c.feed-fed.new.self c.feed-fed.new.out.items
    (rw c.clear.ensures.items at c.feed-fed.ensures.feeds) in
    passes_stopped g.C.Course.reports g.C.Course.over g.C.Course.spent c.args.self.now.number c.args.on.now c.go_all.new.on _ _ c.args.feed.now
    c.args.piece.now c.feed-fed.new.self c.feed-fed.new.out.items fed.0 fed.1 c.in_err-go_all.field-0.0 c.from_residual.result
    c.from_residual.ensures.1
    (comes_err g.C.Course.reports g.C.Course.over g.C.Course.spent _ _ _ _ _ _ _ _ c.in_err-go_all.was (rw c.as_slice.ensures.value at c.go_all.ensures.comes))

pub returns-in_err-fed-clause-goes : goal.returns-in_err-fed-clause-goes
returns-in_err-fed-clause-goes g c =
    passes_fed g.C.Course.reports g.C.Course.over g.C.Course.spent c.args.self.now.number c.args.on.now c.go_all.new.on _ _ c.args.feed.now
    c.args.piece.now c.feed-fed.new.self c.feed-fed.new.out.items c.in_err-fed.field-0.0 c.feed-fed.result c.from_residual-in_err-fed.result
    c.from_residual-in_err-fed.ensures.1 c.in_err-fed.was (rw c.clear.ensures.items at c.feed-fed.ensures.feeds)
    (rw c.as_slice.ensures.value at c.in_ok-go_all.ensures.comes)
