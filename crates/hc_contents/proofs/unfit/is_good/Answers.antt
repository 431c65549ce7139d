use Rattle.std.proofs.Common.{◌≡◌, ◌+◌, ◌∙◌, drop, true, false, ap, rules, arith}
use Rattle.hc_target.specs.Targets.{is_target}
use Rattle.hc_contents.specs.{declared.contents.Content.{Content}, PlainContents.{plain_contents, plain_item}}
use Rattle.hc_contents.proofs.Counting.{good_by, bad_by}
use Rattle.hc_contents.proofs.unfit.is_good.Goals as goal

pub returns-then-not-is_fit : goal.returns-then-not-is_fit
returns-then-not-is_fit c = λ earlier items knows below.
    let off : c.is_fit.result ≡ false = first_of (search (rules, c.if-not-is_fit.true), grind (arith, c.if-not-is_fit.true)) in
    bad_by c.args.limits (plain_contents c.args.contents.now) earlier (plain_item c.args.item.now) (drop (c.args.i + 1) items) c.is_fit.result
    (c.is_fit.ensures earlier items knows below) off

pub returns : goal.returns
returns c = λ earlier items knows below.
    let on : c.is_fit.result ≡ true = first_of (search (rules, c.if-not-is_fit.false), grind (arith, c.if-not-is_fit.false)) in
    good_by c.args.limits (plain_contents c.args.contents.now) earlier (plain_item c.args.item.now) (drop (c.args.i + 1) items) c.is_fit.result
    c.in_ok-has_target.has_target (c.is_fit.ensures earlier items knows below) on
    (c.in_ok-has_target.ensures.value ∙ ap is_target (c.as_slice.ensures.value ∙ ap (λ (z : Content). z.key) c.item.view_is))
