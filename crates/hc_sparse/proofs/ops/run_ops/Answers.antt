use Rattle.std.proofs.Common.{◌+◌, ap, ◌∙◌, sym, take}
use Rattle.hc_sparse.specs.Ops.{cells_after}
use Rattle.hc_sparse.proofs.OpLemmas.{answered-more, made-more, one-more, on_err}
use Rattle.hc_sparse.proofs.ops.run_ops.Goals as goal

pub returns-in_err-push-clause-err : goal.returns-in_err-push-clause-err
returns-in_err-push-clause-err g c =
    let more = one-more c.args.ops.now c.loop-op.op-index c.op-item.result c.loop-op-test.true c.op-item.is in
    let all = made-more (g.M.Presence.cells c.args.map.now) (g.M.Presence.cells c.loop-op.map) (g.M.Presence.cells c.answer_of.new.map)
    (take c.loop-op.op-index c.args.ops.now) c.op-item.result c.loop-op.invariant.makes c.in_ok-answer.ensures.ok in
    on_err c.from_residual-in_err-push.result (c.loop-op.op-index + 1, all ∙ ap (cells_after (g.M.Presence.cells c.args.map.now)) (sym more))

pub loop-op-preserved : goal.loop-op-preserved
loop-op-preserved g c =
    let more = one-more c.args.ops.now c.loop-op.op-index c.op-item.result c.loop-op-test.true c.op-item.is in
    rw (more, c.in_ok-push.ensures.items)
    (answered-more (g.M.Presence.cells c.args.map.now) (g.M.Presence.cells c.loop-op.map) (g.M.Presence.cells c.answer_of.new.map)
    (take c.loop-op.op-index c.args.ops.now) c.loop-op.items.items c.op-item.result c.in_ok-answer.answer c.loop-op.invariant
    c.in_ok-answer.ensures.answer c.in_ok-answer.ensures.ok)
