use Rattle.std.proofs.Common.{Some, refl, sym, ap, ◌∙◌, inl, inr}
use Rattle.hc_fields.specs.FieldList.{IsWithinLimits}
use Rattle.hc_binary.proofs.FieldTests.{line_is, with_allowed, with_refused}
use Rattle.hc_binary.proofs.fields.read_line.Goals as goal

pub returns-in-Err-clause-read : goal.returns-in-Err-clause-read
returns-in-Err-clause-read c = λ other. (
  c.refused_by.ensures.others (λ e. other (c.refused_by.ensures.memory e)),
  elim c.in-Err.ensures.answer [
    | inl memory ↦ absurd (other (c.refused_by.ensures.memory memory.0))
    | inr refused ↦
        line_is c.args.fields.now c.args.line.now (c.in-Some.name.now, c.in-Some.value.now) (sym c.in-Some.ensures)
        ∙ with_refused c.in-Err.e c.args.fields.now c.in-Some.name.now c.in-Some.value.now refused
  ],
)

pub returns-then-within_limits-clause-read : goal.returns-then-within_limits-clause-read
returns-then-within_limits-clause-read c =
    let is = c.in_default-append.ensures.ok in
    let within : IsWithinLimits c.append.new.self = c.if-within_limits.ensures.value.0 refl in
    line_is c.args.fields.now c.args.line.now (c.in-Some.name.now, c.in-Some.value.now) (sym c.in-Some.ensures)
    ∙ (with_allowed c.args.fields.now c.in-Some.name.now c.in-Some.value.now c.in_default-append.ensures.answer (rw is at within) ∙ ap Some (sym is))
