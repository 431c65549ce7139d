use Rattle.std.{proofs.Common.{◌∙◌, ap}, specs.Prelude.{Some}}
use Rattle.hc_etag.specs.{Tags.{values_of}, TagListTexts.{TheseTags}}
use Rattle.hc_validate.proofs.Listed.{any_of}
use Rattle.hc_condition.specs.NotModified.{lists}
use Rattle.hc_condition.proofs.not_modified.is_among.Goals as goal

pub returns-in-Some : goal.returns-in-Some
returns-in-Some c =
    c.has_opaque.ensures ∙ any_of c.in-Some.own.opaque.now c.args.tags.now
    ∙ ap (lists (Some (TheseTags (values_of c.args.tags.now)))) c.in-Some.ensures
