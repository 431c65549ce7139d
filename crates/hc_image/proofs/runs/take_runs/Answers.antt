use Rattle.std.proofs.{Common.{arith, ◌∷◌, [], length-append}, lemmas.List.Elements.{All-push}}
use Rattle.hc_image.specs.Images.{HasRunText}
use Rattle.hc_image.proofs.Lists.{no_runs, one_more_run}
use Rattle.hc_image.proofs.runs.take_runs.Goals as goal

pub returns-in_default : goal.returns-in_default
returns-in_default c = λ runs after are.
    let none = rw c.in_default.is at c.in_ok-run.ensures in
    let inv = c.loop.invariant in
    no_runs c.loop.runs c.args.count c.loop.rest c.args.rest.now inv.are.each (omega (arith, c.loop-test.true, inv.are.count_is)) inv.is none runs after are

pub loop-preserved : goal.loop-preserved
loop-preserved c =
    let some = rw c.in-Some.is at c.in_ok-run.ensures in
    let inv = c.loop.invariant in
    let pushed = c.in_ok-push.ensures.ok in
    rw pushed (record {
      are = record {
        each = All-push HasRunText c.loop.runs c.in-Some.run' inv.are.each some.0;
        count_is =
            omega (arith, inv.are.count_is, length-append c.loop.runs (c.in-Some.run' ∷ []));
      };
      is = one_more_run c.loop.runs c.in-Some.run' c.args.rest.now c.loop.rest c.take_run.new.rest inv.is some.1;
    })
