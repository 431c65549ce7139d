use Rattle.std.proofs.{Common.{length, refl, sym}, lemmas.Bool.{eqb-false}}
use Rattle.hc_binary.proofs.FieldReads.{rest_more, rest_refused, rest_cut, match_err}
use Rattle.hc_binary.proofs.fields.read_fields.Goals as goal

pub returns-in_err-read_line-clause-value : goal.returns-in_err-read_line-clause-value
returns-in_err-read_line-clause-value c =
    match_err _ c.in_err-read_line.field-0.0 _ _ c.from_residual-in_err-read_line.ensures.1 (λ other.
    let owed = c.in_err-read_line.ensures.read other in (
      owed.0,
      rest_refused c.args.text.now c.loop-line.fields c.loop-line.rest.now c.in-Some.line.now c.in-Some.after.now c.loop-line.invariant.0
          (sym c.in-Some.ensures.value) owed.1,
    ))

pub loop-line-preserved : goal.loop-line-preserved
loop-line-preserved c = (
  rest_more c.args.text.now c.loop-line.fields c.read_line.new.fields c.loop-line.rest.now c.in-Some.line.now c.in-Some.after.now c.loop-line.invariant.0
      (sym c.in-Some.ensures.value) c.in_ok-read_line.ensures.read,
  c.in_ok-read_line.ensures.within_limits,
)

pub returns-else-is_empty-clause-value : goal.returns-else-is_empty-clause-value
returns-else-is_empty-clause-value c = λ other. (
  refl,
  rest_cut c.args.text.now c.loop-line.fields c.loop-line.rest.now c.loop-line.invariant.0 (sym c.in_default.ensures.value)
      (eqb-false (length c.loop-line.rest.now) 0 (sym c.if-is_empty.ensures)),
)
