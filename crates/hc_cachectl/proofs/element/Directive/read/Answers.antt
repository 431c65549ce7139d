use Rattle.std.proofs.Common.{sym, ◌+◌, refl}
use Rattle.hc_text.proofs.Basics.{rest_is as to_end}
use Rattle.hc_cachectl.specs.Directives.{is_equals}
use Rattle.hc_cachectl.proofs.Signs.{stands, stands_nowhere}
use Rattle.hc_cachectl.proofs.element.Directive.read.Goals as goal

pub returns-in-None-clause-argument : goal.returns-in-None-clause-argument
returns-in-None-clause-argument c =
    rw (stands_nowhere is_equals c.args.element.now (sym c.in-None.ensures)) refl

pub returns-in-Some-clause-argument : goal.returns-in-Some-clause-argument
returns-in-Some-clause-argument c =
    let at = stands is_equals c.args.element.now c.in-Some.at (sym c.in-Some.ensures) in
    let read = rw (to_end (c.in-Some.at + 1) c.args.element.now) at c.read.ensures in
    rw (at.0) (rw (← at.1) read)
