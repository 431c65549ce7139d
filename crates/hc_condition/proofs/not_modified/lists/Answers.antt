use Rattle.std.{proofs.Common.{◌∙◌, ap, sym}, specs.Prelude.{Option}}
use Rattle.hc_validate.specs.Selection.{tag_of}
use Rattle.hc_etag.specs.TagListTexts.{Listed}
use Rattle.hc_condition.specs.NotModified.{lists}
use Rattle.hc_etag.proofs.ListReads.{list_is}
use Rattle.hc_condition.proofs.not_modified.lists.Goals as goal

pub returns : goal.returns
returns c =
    c.is_listed.ensures
    ∙ ap (λ (o : Option Listed). lists o (tag_of c.args.fields.now))
    (sym (list_is c.args.text.now c.in_ok-list.list c.in_ok-list.ensures.found c.in_ok-list.ensures.none))
