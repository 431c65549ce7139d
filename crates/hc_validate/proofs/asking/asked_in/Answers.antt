use Rattle.hc_validate.proofs.Asked.{asked_by}
use Rattle.hc_validate.proofs.asking.asked_in.Goals as goal

pub returns-clause-is : goal.returns-clause-is
returns-clause-is c = asked_by c.args.fields.now c.in_ok-only_value.field-0.now c.read_range.result c.in_ok-only_value.ensures c.read_range.ensures.found
    c.read_range.ensures.spelled
