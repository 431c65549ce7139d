use Rattle.std.proofs.Common.{refl, sym, ◌∙◌, arith}
use Rattle.hc_driver.proofs.Going.{size_within, written_none, written_more, written_end, written_last, written_lacking, comes_sink, comes_memory}
use Rattle.hc_driver.proofs.answering.Answering.go_all.Goals as goal

pub loop-timed-init : goal.loop-timed-init
loop-timed-init g c = written_none g.C.Course.reports g.C.Course.over g.C.Course.spent _ _ c.args.events.now _ c.requires.open c.requires.timed

pub go-requires-clause-few : goal.go-requires-clause-few
go-requires-clause-few g c =
    let counted = c.loop-timed.invariant.counted in
    let lt = c.loop-timed-test.true in
    let count = c.requires.count in
    omega arith

pub go-requires-clause-little : goal.go-requires-clause-little
go-requires-clause-little g c =
    let within = size_within
    g.C.Course.reports g.C.Course.over g.C.Course.spent c.args.events.now c.loop-timed.timed-index c.timed-item.result c.loop-timed-test.true c.timed-item.is in
    let few = c.requires.few in
    let size = c.loop-timed.invariant.size in
    omega arith

pub returns-in_err-go-clause-comes : goal.returns-in_err-go-clause-comes
returns-in_err-go-clause-comes g c =
    comes_memory g.C.Course.reports g.C.Course.over g.C.Course.spent _ _ _ _ _ c.args.events.now c.from_residual.result c.from_residual.ensures.1
    (written_lacking g.C.Course.reports g.C.Course.over g.C.Course.spent _ c.loop-timed.on c.go.new.on _ _ _ c.args.events.now c.loop-timed.timed-index _
    _ c.timed-item.result
    c.loop-timed.invariant c.loop-timed-test.true c.timed-item.is refl c.in_err-go.ensures.lacks)

pub returns-in_err-write-clause-comes : goal.returns-in_err-write-clause-comes
returns-in_err-write-clause-comes g c =
    comes_sink g.C.Course.reports g.C.Course.over g.C.Course.spent _ _ _ _ _ c.args.events.now c.in_err-write.field-0.0
    c.from_residual-in_err-write.result c.from_residual-in_err-write.ensures.1
    (written_last g.C.Course.reports g.C.Course.over g.C.Course.spent _ c.loop-timed.on c.go.new.on _ _ c.go.new.self.number c.args.events.now
    c.loop-timed.timed-index _ _ _ c.timed-item.result c.go.new.self.text.items
    c.loop-timed.invariant c.loop-timed-test.true c.timed-item.is c.in_ok-go.ensures.reported c.write.ensures.front c.in_ok-go.ensures.number)

pub returns-then-is_over-clause-comes : goal.returns-then-is_over-clause-comes
returns-then-is_over-clause-comes g c =
    written_end g.C.Course.reports g.C.Course.over g.C.Course.spent _ c.loop-timed.on c.go.new.on _ _ c.go.new.self.number c.args.events.now
    c.loop-timed.timed-index _ _ _ c.timed-item.result c.go.new.self.text.items
    c.loop-timed.invariant c.loop-timed-test.true c.timed-item.is c.in_ok-go.ensures.reported (sym c.is_over.ensures ∙ c.if-is_over.true)
    c.in_ok-write.ensures.ok c.in_ok-go.ensures.number

pub loop-timed-preserved : goal.loop-timed-preserved
loop-timed-preserved g c =
    written_more g.C.Course.reports g.C.Course.over g.C.Course.spent _ c.loop-timed.on c.go.new.on _ _ _ c.args.events.now c.loop-timed.timed-index _ _ _
    c.timed-item.result c.go.new.self.number c.go.new.self.text.items
    c.loop-timed.invariant c.loop-timed-test.true c.timed-item.is c.in_ok-go.ensures.reported (sym c.is_over.ensures ∙ c.if-is_over.false)
    c.in_ok-write.ensures.ok
    c.in_ok-go.ensures.number c.write.ensures.number c.in_ok-go.ensures.steps c.in_ok-go.ensures.received c.in_ok-go.ensures.moment c.in_ok-write.ensures.calm
