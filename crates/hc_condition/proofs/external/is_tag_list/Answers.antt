use Rattle.std.{proofs.Common.{◌≡◌, ◌∙◌, Option, Some, None, refl, ap, sym}, specs.Prelude.{is_some, option_map}}
use Rattle.hc_etag.specs.{declared.list.TagList.{TagList}, TagListTexts.{plain_list}}
use Rattle.hc_etag.proofs.ListReads.{list_is}
use Rattle.hc_condition.proofs.external.is_tag_list.Goals as goal

some_same : (o : Option TagList) → is_some o ≡ is_some (option_map plain_list o)
some_same None = refl
some_same (Some list) = refl

pub returns : goal.returns
returns c = c.is_some.ensures ∙ some_same c.in_ok-list.list ∙
    ap is_some (sym (list_is c.args.text.now c.in_ok-list.list c.in_ok-list.ensures.found c.in_ok-list.ensures.none))
