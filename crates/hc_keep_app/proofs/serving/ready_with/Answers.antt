use Rattle.std.proofs.Common.{refl, inl, inr}
use Rattle.hc_contents.specs.PlainContents.{plain_contents}
use Rattle.hc_keep_app.specs.Serving.{IsUnready}
use Rattle.hc_keep_app.specs.declared.serving.Unserved.TheVariants as why
use Rattle.hc_keep_app.proofs.Unserved.{by_error, no_value, unready_by}
use Rattle.hc_keep_app.proofs.serving.ready_with.Goals as goal

pub returns-then-kept-ge-NUMBERS-clause-err : goal.returns-then-kept-ge-NUMBERS-clause-err
returns-then-kept-ge-NUMBERS-clause-err c = inl c.if-kept-ge-NUMBERS.true

pub returns-then-last-ge-CONSUMERS-clause-err : goal.returns-then-last-ge-CONSUMERS-clause-err
returns-then-last-ge-CONSUMERS-clause-err c = inr (inl c.if-last-ge-CONSUMERS.true)

pub returns-in_err-image-clause-err : goal.returns-in_err-image-clause-err
returns-in_err-image-clause-err c =
    let kept = c.args.kept.now in
    by_error why.NoMemory (IsUnready c.args.limits (plain_contents kept.contents) kept.next) c.from_residual.result c.from_residual.ensures.1 tt

pub returns-in_err-image-clause-ok : goal.returns-in_err-image-clause-ok
returns-in_err-image-clause-ok c = no_value _ _ c.from_residual.result c.from_residual.ensures.1

pub returns-in-Ok-clause-ok : goal.returns-in-Ok-clause-ok
returns-in-Ok-clause-ok c = record {
  image = c.in_ok-image.ensures;
  next_is = refl;
  numbered = c.if-kept-ge-NUMBERS.false;
  stocked = record { stands = c.in-Ok.ensures.stands; last_is = refl };
  few = c.if-last-ge-CONSUMERS.false;
  unused = c.in-Ok.ensures.unused;
  limits_are = c.in-Ok.ensures.limits;
}

pub returns-in-Err-clause-err : goal.returns-in-Err-clause-err
returns-in-Err-clause-err c =
    let kept = c.args.kept.now in
    rw c.unserved_as.ensures
    (unready_by c.args.limits (plain_contents kept.contents) kept.next _ _ c.in-Err.refused.why c.in-Err.ensures.refused.cause)
