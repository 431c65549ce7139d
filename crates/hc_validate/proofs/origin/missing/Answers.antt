use Rattle.std.{proofs.Common.{◌≡◌, ◌∙◌, ap, []}, specs.{Prelude.{codes}, Fmt.{decimal}}}
use Rattle.hc_validate.specs.{Origin.{answer_of}, Updates.{FieldPairs, with_one}}
use Rattle.hc_validate.proofs.Names.{IsToken-content_length}
use Rattle.hc_validate.proofs.origin.missing.Goals as goal

pub set_number-requires-clause-name : goal.set_number-requires-clause-name
set_number-requires-clause-name c = IsToken-content_length

pub returns : goal.returns
returns c =
    let new = c.in_ok-fields.ensures in
    let empty : c.in_ok-fields.fields ≡ [] = cc in
    ap (λ (f : FieldPairs). answer_of 404 f 0 0)
    (c.in_ok-set_number.ensures.ok ∙ ap (with_one (codes "content-length") (decimal 0)) empty)
