use Rattle.std.proofs.Common.{refl, ◌∙◌, arith}
use Rattle.hc_origin.specs.Going.{asking_in}
use Rattle.hc_origin.proofs.Ends.{turning-ends, turning-more, turning-none, turning-not, turning-stops}
use Rattle.hc_origin.proofs.serve.answer_all.Goals as goal

pub returns-in_err-origin-clause-answers : goal.returns-in_err-origin-clause-answers
returns-in_err-origin-clause-answers g c =
    turning-not (g.W.Wire.log c.args.wire.now) (g.W.Wire.stages c.args.wire.now) c.args.turns _ c.from_residual.result c.requires.fresh c.requires.shut
    c.from_residual.ensures.1

pub loop-turn-init : goal.loop-turn-init
loop-turn-init g c = (
  turning-none (g.W.Wire.log c.args.wire.now) (g.W.Wire.stages c.args.wire.now) (asking_in c.in_ok-origin.origin) c.in_ok-origin.origin.answering.items
      c.requires.fresh c.requires.shut
      c.in_ok-origin.ensures.nobody c.in_ok-origin.ensures.nothing,
  refl,
)

pub loop-turn-preserved : goal.loop-turn-preserved
loop-turn-preserved g c =
    let is = c.loop-turn.invariant.0 in (
      turning-more (g.W.Wire.log c.args.wire.now) (g.W.Wire.log c.loop-turn.wire) (g.W.Wire.log c.turn.new.wire) (g.W.Wire.stages c.loop-turn.wire)
          (g.W.Wire.stages c.turn.new.wire)
          c.loop-turn.origin c.turn.new.self c.loop-turn._turn is (c.in_ok-turn.ensures.turns is.reports is.log is.follows is.rests),
      c.in_ok-turn.ensures.cause.calm ∙ c.loop-turn.invariant.1,
    )

pub returns-in_err-turn-clause-answers : goal.returns-in_err-turn-clause-answers
returns-in_err-turn-clause-answers g c =
    let is = c.loop-turn.invariant.0 in
    turning-stops (g.W.Wire.log c.args.wire.now) (g.W.Wire.log c.loop-turn.wire) (g.W.Wire.log c.turn.new.wire) (g.W.Wire.stages c.loop-turn.wire)
    (g.W.Wire.stages c.turn.new.wire)
    c.loop-turn.origin c.turn.new.self c.loop-turn._turn c.args.turns c.in_err-turn.field-0.0 _ c.from_residual-in_err-turn.result is c.loop-turn-test.true
    (c.in_err-turn.ensures.turns is.reports is.log is.follows is.rests) c.from_residual-in_err-turn.ensures.1

pub returns-clause-answers : goal.returns-clause-answers
returns-clause-answers g c =
    let is = c.loop-turn.invariant.0 in
    turning-ends (g.W.Wire.log c.args.wire.now) (g.W.Wire.log c.loop-turn.wire) (g.W.Wire.log c.close_all.new.wire) (g.W.Wire.stages c.loop-turn.wire)
    (g.W.Wire.stages c.close_all.new.wire)
    (asking_in c.loop-turn.origin) c.loop-turn.origin.answering.items c.loop-turn._turn c.args.turns is (omega arith) c.close_all.ensures.goes
