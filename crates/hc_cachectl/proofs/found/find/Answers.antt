use Rattle.std.proofs.Common.{◌∙◌, sym}
use Rattle.http_header.specs.Token.{lowercase}
use Rattle.hc_fields.specs.FieldList.{values_of}
use Rattle.hc_cachectl.proofs.Folds.{one_more}
use Rattle.hc_cachectl.proofs.found.find.Goals as goal

pub loop-i-preserved : goal.loop-i-preserved
loop-i-preserved c =
    let value = rw c.unwrap.ensures at c.value.ensures in
    one_more c.loop-i.found c.take_list.new.self (values_of (lowercase c.args.name.now) c.args.fields.now) c.loop-i.i c.unwrap.result.now (sym value)
    c.take_list.ensures ∙ c.loop-i.invariant
