use Rattle.std.proofs.{Common.{◌≡◌, take, Ok, refl, ◌∙◌, ap, arith}, lemmas.List.{length-take}}
use Rattle.hc_driver.proofs.Runs.{on_start, next_timed, next_small, next_few, on_more, breaks_source, breaks_as, few_on, over_as, read_out}
use Rattle.hc_driver.proofs.through.go_through_prefix.Goals as goal

pub loop-events-init : goal.loop-events-init
loop-events-init g c = (
  rw c.after-feed.ensures (on_start g.C.Course.reports g.C.Course.over g.C.Course.spent _ c.args.moment _ _ _ c.new-answering.ensures c.requires.new
      c.requires.later c.requires.open),
  refl,
  refl,
)

pub returns-in_err-n-clause-breaks : goal.returns-in_err-n-clause-breaks
returns-in_err-n-clause-breaks g c =
    breaks_source g.C.Course.reports g.C.Course.over g.C.Course.spent _ _ _ _ _ _ _ _ _ _ _ c.from_residual.result c.loop-events.invariant.0
    c.in_err-n.ensures.err c.from_residual.ensures.1

pub go_piece-requires-clause-timed : goal.go_piece-requires-clause-timed
go_piece-requires-clause-timed g c =
    next_timed g.C.Course.reports g.C.Course.over g.C.Course.spent _ _ _ _ _ _ _ _ _ _ (take c.in_ok-n.n c.read.new.into) c.requires.small
    c.loop-events.invariant.0

pub go_piece-requires-clause-few : goal.go_piece-requires-clause-few
go_piece-requires-clause-few g c =
    let piece = take c.in_ok-n.n c.read.new.into in
    let small = next_small g.C.Course.reports g.C.Course.over g.C.Course.spent _ _ _ _ _ _ _ _ _ _ piece c.loop-events.invariant.0 in
    let count = c.loop-events.invariant.0.count in
    let read = c.in_ok-n.ensures.count in
    let all = c.read.ensures.in_all in
    let len = length-take c.in_ok-n.n c.read.new.into in
    let most = c.in_ok-n.ensures.at_most in
    omega arith

pub go_piece-requires-clause-count : goal.go_piece-requires-clause-count
go_piece-requires-clause-count g c =
    let piece = take c.in_ok-n.n c.read.new.into in
    let few = next_few g.C.Course.reports g.C.Course.over g.C.Course.spent _ _ _ _ _ _ _ _ _ _ piece c.loop-events.invariant.0 in
    let count = c.loop-events.invariant.0.count in
    let read = c.in_ok-n.ensures.count in
    let all = c.read.ensures.in_all in
    let len = length-take c.in_ok-n.n c.read.new.into in
    let most = c.in_ok-n.ensures.at_most in
    omega arith

pub loop-events-preserved : goal.loop-events-preserved
loop-events-preserved g c =
    let piece = take c.in_ok-n.n c.read.new.into in
    let read = c.in_ok-n.ensures.count in
    let most = c.in_ok-n.ensures.at_most in (
      on_more g.C.Course.reports g.C.Course.over g.C.Course.spent _ c.loop-events.on c.go_piece.new.on _ _ _ _ c.loop-events.feed c.go_piece.new.feed
          piece _ _ _ _ _ _
          c.loop-events.invariant.0 c.in_ok-n.ensures.bytes c.in_ok-go_piece.ensures.goes c.in_ok-go_piece.ensures.reads
          (omega (arith, read, most, length-take c.in_ok-n.n c.read.new.into))
          c.go_piece.ensures.lines c.in_ok-go_piece.ensures.number c.in_ok-go_piece.ensures.steps c.in_ok-go_piece.ensures.size
          c.in_ok-go_piece.ensures.moment c.in_ok-go_piece.ensures.open,
      c.in_ok-n.ensures.calm ∙ c.loop-events.invariant.1,
      c.in_ok-go_piece.ensures.cause ∙ c.loop-events.invariant.2,
    )

pub returns-in_err-go_piece-clause-breaks : goal.returns-in_err-go_piece-clause-breaks
returns-in_err-go_piece-clause-breaks g c =
    let piece = take c.in_ok-n.n c.read.new.into in
    breaks_as g.C.Course.reports g.C.Course.over g.C.Course.spent _ c.loop-events.on c.go_piece.new.on _ _ _ c.loop-events.feed c.go_piece.new.feed piece
    _ _ _ _ _ _ c.in_err-go_piece.field-0.0 c.go_piece.result c.from_residual-in_err-go_piece.result
    c.loop-events.invariant.0 c.in_ok-n.ensures.bytes (omega (arith, c.in_ok-n.ensures.at_most, length-take c.in_ok-n.n c.read.new.into))
    c.go_piece.ensures.goes c.in_err-go_piece.was c.from_residual-in_err-go_piece.ensures.1

pub returns-clause-read : goal.returns-clause-read
returns-clause-read g c =
    let zero : c.in_ok-n.n ≡ 0 = c.if-n-eq0.true in
    read_out g.C.Course.reports g.C.Course.over g.C.Course.spent _ c.loop-events.on _ _ _ c.loop-events.feed _ _ _ _ _
    c.loop-events.invariant.0 (rw zero at c.in_ok-n.ensures.bytes) (c.read.ensures.end (c.in_ok-n.was ∙ ap Ok zero) (omega arith))

pub returns-in_err-go_piece-clause-over : goal.returns-in_err-go_piece-clause-over
returns-in_err-go_piece-clause-over g c =
    over_as g.C.Course.reports g.C.Course.over g.C.Course.spent c.loop-events.on c.go_piece.new.on c.loop-events.answering.number c.loop-events.feed
    c.go_piece.new.feed (take c.in_ok-n.n c.read.new.into)
    (g.K.Sink.taken c.loop-events.sink) (g.K.Sink.taken c.go_piece.new.sink) c.in_err-go_piece.field-0.0 c.go_piece.result
    c.from_residual-in_err-go_piece.result
    c.go_piece.ensures.goes c.in_err-go_piece.was c.from_residual-in_err-go_piece.ensures.1

pub returns-clause-few : goal.returns-clause-few
returns-clause-few g c =
    let most = c.read.ensures.in_all in
    let read = c.in_ok-n.ensures.count in
    (few_on g.C.Course.reports g.C.Course.over g.C.Course.spent _ _ _ _ _ _ _ _ _ _ (omega arith) c.loop-events.invariant.0).0

pub returns-clause-little : goal.returns-clause-little
returns-clause-little g c =
    let most = c.read.ensures.in_all in
    let read = c.in_ok-n.ensures.count in
    (few_on g.C.Course.reports g.C.Course.over g.C.Course.spent _ _ _ _ _ _ _ _ _ _ (omega arith) c.loop-events.invariant.0).1

pub returns-clause-lines : goal.returns-clause-lines
returns-clause-lines g c =
    let most = c.read.ensures.in_all in
    let read = c.in_ok-n.ensures.count in
    let count = c.loop-events.invariant.0.count in
    let lines = c.loop-events.invariant.0.lines in
    omega arith
