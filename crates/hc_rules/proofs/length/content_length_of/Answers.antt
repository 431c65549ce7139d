use Rattle.std.{proofs.Common.{◌∙◌, sym}, specs.Prelude.{codes}}
use Rattle.hc_fields.specs.{FieldList.{values_of}, FirstValues.{elements_in}}
use Rattle.hc_rules.proofs.LengthFolds.{one_more, reported_is}
use Rattle.hc_rules.proofs.length.content_length_of.Goals as goal

pub loop-i-init : goal.loop-i-init
loop-i-init c = reported_is (elements_in (codes "content-length") c.args.fields.now)

pub loop-i-preserved : goal.loop-i-preserved
loop-i-preserved c =
    let value = rw c.unwrap.ensures at c.value.ensures in
    one_more c.loop-i.length c.with_list-length.result (values_of (codes "content-length") c.args.fields.now) c.loop-i.i c.unwrap.result.now (sym value)
    c.with_list-length.ensures ∙ c.loop-i.invariant
