use Rattle.std.{proofs.Common.{◌≡◌, Some}, specs.Prelude.{codes}}
use Rattle.hc_fields.specs.FieldList.{joined_of, values_of}
use Rattle.hc_validate.proofs.Listed.{listed_in}
use Rattle.hc_validate.proofs.asking.is_listed.Goals as goal

pub returns-in-Some : goal.returns-in-Some
returns-in-Some c =
    let joined = joined_of (values_of (codes "if-none-match") c.args.fields.now) in
    let e = c.in_ok-text.ensures in
    let f = c.in-Some.is in
    let s = c.as_slice.ensures in
    let is : Some c.as_slice.result.now ≡ joined = cc in
    listed_in c.args.opaque.now c.as_slice.result.now joined c.lists.result is c.lists.ensures
