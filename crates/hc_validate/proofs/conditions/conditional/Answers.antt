use Rattle.std.{proofs.Common.{◌≡◌, ◌∙◌, ap, arith, sym, refl}, specs.Prelude.{codes, is_some, Option, Some, None, option_map}}
use Rattle.hc_etag.specs.PlainTags.{plain_tag}
use Rattle.hc_fields.specs.FieldList.{size_of}
use Rattle.hc_validate.proofs.{Names.{IsToken-if_modified_since, IsToken-if_none_match}, Stored.{first_fits}}
use Rattle.hc_validate.proofs.conditions.conditional.Goals as goal

is_some-option_map : {A B : Type 0} (f : A → B) (o : Option A) → is_some (option_map f o) ≡ is_some o
is_some-option_map f None = refl
is_some-option_map f (Some a) = refl

pub add_condition-requires-clause-name : goal.add_condition-requires-clause-name
add_condition-requires-clause-name c = IsToken-if_none_match

pub add_condition-requires-2-clause-name : goal.add_condition-requires-2-clause-name
add_condition-requires-2-clause-name c = IsToken-if_modified_since

pub add_condition-requires-clause-value : goal.add_condition-requires-clause-value
add_condition-requires-clause-value c = λ value e.
    let fit = first_fits (codes "etag") c.args.head.now.fields value c.args.head.now.own.list (sym c.get.ensures ∙ e) in
    (fit.own, fit.short)

pub add_condition-requires-clause-small : goal.add_condition-requires-clause-small
add_condition-requires-clause-small c = λ applies value e.
    let fit = first_fits (codes "etag") c.args.head.now.fields value c.args.head.now.own.list (sym c.get.ensures ∙ e) in
    let same = ap size_of c.in_ok-fields.ensures in
    omega (arith, fit.short, c.requires.small, same)

pub add_condition-requires-2-clause-value : goal.add_condition-requires-2-clause-value
add_condition-requires-2-clause-value c = λ value e.
    let fit = first_fits (codes "last-modified") c.args.head.now.fields value c.args.head.now.own.list (sym c.get-modified.ensures ∙ e) in
    (fit.own, fit.short)

pub returns : goal.returns
returns c =
    let tag_applies = c.is_some-has_tag.ensures ∙ sym (is_some-option_map plain_tag c.tag_of.result) ∙ ap is_some c.tag_of.ensures in
    let date_applies = c.is_some-has_date.ensures ∙ ap is_some c.date_in.ensures.value in
    let tagged = c.in_ok-add_condition.ensures.ok ∙ rw (tag_applies, c.get.ensures, c.in_ok-fields.ensures) refl in
    let dated = c.in_ok-add_condition-2.ensures.ok ∙ rw (date_applies, c.get-modified.ensures, tagged) refl in
    rw (c.in_ok-copy.ensures, c.in_ok-copy-2.ensures, dated) refl
