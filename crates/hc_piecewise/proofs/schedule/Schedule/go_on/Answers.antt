use Rattle.std.proofs.{Common.{◌≡◌, Option, Err, refl, sym, ap, ◌∙◌, rules}, Math.Logic.{∥∥₁_map}}
use Rattle.hc_sched.specs.declared.schedule.Refused.{Refused}
use Rattle.hc_driver.specs.declared.stop.Stop.TheVariants as stop
use Rattle.hc_piecewise.specs.Schedules.{progress_of}
use Rattle.hc_piecewise.proofs.Pieces.{no_refusal, reads, may_read, may_timed, may_numbered, more_lines, more_small, more_few, goes_more, stepped_none, stepped_on, stepped_refused}
use Rattle.hc_piecewise.proofs.schedule.Schedule.go_on.Goals as goal

pub returns-then-is_some-clause-stepped : goal.returns-then-is_some-clause-stepped
returns-then-is_some-clause-stepped g c =
    stepped_none g.T.Stepper.answers g.T.Stepper.spent c.args.self.now c.args.piece.now _ _ _ c.args.on.now (sym c.is_some.ensures ∙ c.if-is_some.true) refl
    c.new.ensures

pub go_piece-gone-requires-clause-lines : goal.go_piece-gone-requires-clause-lines
go_piece-gone-requires-clause-lines g c =
    more_lines _ _ _ c.args.self.now c.requires.may (no_refusal _ (sym c.is_some.ensures ∙ c.if-is_some.false)) c.args.piece.now c.requires.few

pub go_piece-gone-requires-clause-timed : goal.go_piece-gone-requires-clause-timed
go_piece-gone-requires-clause-timed g c =
    may_timed _ _ _ c.args.self.now c.requires.may (no_refusal _ (sym c.is_some.ensures ∙ c.if-is_some.false)) c.args.piece.now

pub go_piece-gone-requires-clause-few : goal.go_piece-gone-requires-clause-few
go_piece-gone-requires-clause-few g c =
    more_small _ _ _ c.args.self.now c.requires.may (no_refusal _ (sym c.is_some.ensures ∙ c.if-is_some.false)) c.args.piece.now c.requires.few

pub go_piece-gone-requires-clause-count : goal.go_piece-gone-requires-clause-count
go_piece-gone-requires-clause-count g c =
    more_few _ _ _ c.args.self.now c.requires.may (no_refusal _ (sym c.is_some.ensures ∙ c.if-is_some.false)) c.args.piece.now c.requires.few

pub go_piece-gone-requires-clause-numbered : goal.go_piece-gone-requires-clause-numbered
go_piece-gone-requires-clause-numbered g c = may_numbered _ _ _ c.args.self.now c.requires.may (no_refusal _ (sym c.is_some.ensures ∙ c.if-is_some.false))

pub go_piece-gone-requires-clause-reading : goal.go_piece-gone-requires-clause-reading
go_piece-gone-requires-clause-reading g c =
    reads c.args.self.now.feed (may_read _ _ _ c.args.self.now c.requires.may (no_refusal _ (sym c.is_some.ensures ∙ c.if-is_some.false)))

pub returns-in-Ok-clause-stepped : goal.returns-in-Ok-clause-stepped
returns-in-Ok-clause-stepped g c =
    let none = no_refusal c.args.self.now.stopped (sym c.is_some.ensures ∙ c.if-is_some.false) in
    stepped_on g.T.Stepper.answers g.T.Stepper.spent c.args.self.now c.args.piece.now _ _ _ c.args.on.now c.go_piece-gone.new.on c.new.result
    c.go_piece-gone.new.sink c.go_piece-gone.new.feed none c.new.ensures c.in-Ok.ensures.goes.0 c.in-Ok.ensures.goes.1 refl
    (sym (ap (λ (o : Option Refused). progress_of o c.go_piece-gone.new.feed) none)) (λ free. c.in-Ok.ensures.number)

pub returns-in-Err-Refused-clause-stepped : goal.returns-in-Err-Refused-clause-stepped
returns-in-Err-Refused-clause-stepped g c =
    let none = no_refusal c.args.self.now.stopped (sym c.is_some.ensures ∙ c.if-is_some.false) in
    let is : c.go_piece-gone.result ≡ Err (stop.Refused c.in-Err-Refused.refused) = search rules in
    stepped_refused g.T.Stepper.answers g.T.Stepper.spent c.args.self.now c.args.piece.now _ _ _ c.args.on.now c.go_piece-gone.new.on c.new.result
    c.go_piece-gone.new.sink c.go_piece-gone.new.feed c.go_piece-gone.result c.in-Err-Refused.refused is none c.new.ensures c.go_piece-gone.ensures.goes
    refl refl

pub returns-in-Ok-clause-may : goal.returns-in-Ok-clause-may
returns-in-Ok-clause-may g c =
    let none = no_refusal c.args.self.now.stopped (sym c.is_some.ensures ∙ c.if-is_some.false) in
    ∥∥₁_map c.requires.may (λ k. (
      (λ free. goes_more _ _ _ _ _ _ c.args.self.now _ c.args.piece.now (k.0 none) c.in-Ok.ensures.goes.0 c.in-Ok.ensures.reads
          c.go_piece-gone.ensures.lines refl
          c.in-Ok.ensures.steps c.in-Ok.ensures.size c.in-Ok.ensures.moment c.in-Ok.ensures.number),
      c.requires.few,
    ))
