use Rattle.hc_fields.proofs.ReadLemmas.{cut_behind, begins_with_line}
use Rattle.hc_fields.proofs.reading.cut_line.Goals as goal

pub returns-in_err-value-clause-none : goal.returns-in_err-value-clause-none
returns-in_err-value-clause-none c = rw c.from_residual-in_err-value.ensures (λ f after cut same.
    c.in_err-value.ensures.none f.1 after cut.1
    (cut_behind f c.in_ok-name.name.now c.in_ok-name.rest.now after c.args.text.now cut c.in_ok-name.ensures.found.0 c.in_ok-name.ensures.found.1 same))

pub returns-clause-found : goal.returns-clause-found
returns-clause-found c =
    let name = c.in_ok-name.ensures.found in
    let value = c.in_ok-value.ensures.found in
    ((name.0, value.0), begins_with_line c.in_ok-name.name.now c.in_ok-value.value.now c.in_ok-name.rest.now _ c.args.text.now name.1 value.1)
