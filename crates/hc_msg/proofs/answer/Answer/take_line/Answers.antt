use Rattle.std.proofs.Common.{◌≡◌, Err, ap, rules}
use Rattle.hc_msg.specs.{declared.answer.State.{State}, Taking.{reading_by}, Reading.{Done}}
use Rattle.hc_msg.proofs.Moves.{line_too_long, line_stays}
use Rattle.hc_msg.proofs.answer.Answer.take_line.Goals as goal

pub returns-in_err-at-clause-moves : goal.returns-in_err-at-clause-moves
returns-in_err-at-clause-moves c = λ most.
    let e = c.in_err-at.field-0.0 in
    let same : c.from_residual.result ≡ Err e = search rules in
    let tokens = rw c.as_slice.ensures.value at c.in_err-at.ensures in
    rw same (line_too_long c.args.self.now.held.items c.args.rest.now most e Done tokens.0 tokens.1)

pub returns-in_ok-extend_from_slice-in-None-clause-moves : goal.returns-in_ok-extend_from_slice-in-None-clause-moves
returns-in_ok-extend_from_slice-in-None-clause-moves c = λ most.
    let found = rw c.in-None.is at c.in_ok-at.ensures in
    let tokens = rw c.as_slice.ensures.value at found in
    line_stays c.args.self.now.held.items c.args.rest.now c.extend_from_slice.new.self.items most _ tokens.0 tokens.1 (search rules)
    (ap (λ (s : State). reading_by c.args.self.now.no_body s c.extend_from_slice.new.self.items) c.requires.sizing) c.requires.some
