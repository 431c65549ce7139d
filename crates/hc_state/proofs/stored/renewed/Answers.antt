use Rattle.std.proofs.Common.{sym, subst}
use Rattle.hc_fields.specs.FieldList.{IsFieldList}
use Rattle.hc_record.specs.{Head.{Head, IsHead}, Plain.{plain}}
use Rattle.hc_validate.specs.Updates.{FieldPairs}
use Rattle.hc_state.proofs.Renewing.{renewed_is}
use Rattle.hc_state.proofs.stored.renewed.Goals as goal

pub invariant_of-result : goal.invariant_of-result
invariant_of-result c =
    let old : Head = plain c.args.head in
    record {
      strong = c.args.head.strong;
      own = subst (λ (fields : FieldPairs). IsHead (record old { requested = c.args.requested; answered = c.args.answered; fields = fields }))
          (sym c.in_ok-fields.ensures)
          (renewed_is old c.args.requested c.args.answered c.args.from.now c.args.head.own c.requires.requested c.requires.answered
          (subst IsFieldList c.in_ok-fields.ensures c.len-count.ensures.list));
    }
