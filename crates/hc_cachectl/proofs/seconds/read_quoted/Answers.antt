use Rattle.std.proofs.Common.{◌<◌, length, ◌∙◌, sym, inl, inr, arith}
use Rattle.hc_cachectl.proofs.{Steps.{quoted_is, SaysNext, next_digit, next_other, closed_early, never_closed}, seconds.read_quoted.Goals.{then-text-at-eq92, else-text-at-eq92, then-loop-at-test+else-text-at-ne34, else-loop-at-test, else-at-text-via-then-at-text+else-text-at-eq34, else-at-text-via-else-at-text}}
use Rattle.hc_cachectl.proofs.seconds.read_quoted.Goals as goal

pub loop-at-init : goal.loop-at-init
loop-at-init c = record { inside = omega arith; small = omega arith; seconds = quoted_is c.args.text.now }

pub returns-in_err-with_digit : goal.returns-in_err-with_digit
returns-in_err-with_digit c =
    let text = c.args.text.now in
    let says : SaysNext text c.loop-at.at c.if-text-at-eq92.at = elim c.if-text-at-eq92.branch [
      | then-text-at-eq92 w ↦ inl (w.if-text-at-eq92.true, w.at-is)
      | else-text-at-eq92 w ↦ inr (w.if-text-at-eq92.false, w.at-is)
    ] in
    let other = next_other c.loop-at.seconds text c.loop-at.at c.if-text-at-eq92.at c.loop-at-test.true c.if-text-at-ne34.true says
    c.in_err-with_digit.ensures in
    c.from_residual.ensures ∙ sym other ∙ c.loop-at.invariant.seconds

pub loop-at-preserved : goal.loop-at-preserved
loop-at-preserved c =
    let text = c.args.text.now in
    let says : SaysNext text c.loop-at.at c.if-text-at-eq92.at = elim c.if-text-at-eq92.branch [
      | then-text-at-eq92 w ↦ inl (w.if-text-at-eq92.true, w.at-is)
      | else-text-at-eq92 w ↦ inr (w.if-text-at-eq92.false, w.at-is)
    ] in
    let inside : c.if-text-at-eq92.at < length text = elim c.if-text-at-eq92.branch [
      | then-text-at-eq92 w ↦ rw w.at-is c.loop-at-test.true
      | else-text-at-eq92 w ↦ let is = w.at-is in let lt = c.loop-at-test.true in omega arith
    ] in
    let digit = next_digit c.loop-at.seconds text c.loop-at.at c.if-text-at-eq92.at c.loop-at-test.true c.if-text-at-ne34.true says
    c.in_ok-with_digit.ensures.0 in
    let more = c.in_ok-with_digit.ensures.1 in
    record {
      inside = omega arith;
      small = omega (arith, more);
      seconds = rw (more, c.unwrap_or.ensures) (sym digit ∙ c.loop-at.invariant.seconds);
    }

pub returns-else-at-text : goal.returns-else-at-text
returns-else-at-text c =
    let text = c.args.text.now in
    let at = c.loop-at.at in
    sym (elim c.loop-at-test.branch [
      | then-loop-at-test+else-text-at-ne34 w ↦ closed_early c.loop-at.seconds text at w.loop-at-test.true w.if-text-at-ne34.false
      | else-loop-at-test w ↦ never_closed c.loop-at.seconds text at (omega arith) (λ last. elim c.else-at-text.branch [
        | else-at-text-via-then-at-text+else-text-at-eq34 v ↦ v.if-text-at-eq34.false
        | else-at-text-via-else-at-text v ↦ absurd (v.if-at-text.false last)
      ])
    ]) ∙ c.loop-at.invariant.seconds
