use Rattle.std.{proofs.Common.{Bor, List, ℕ, refl, ap, sym, ◌∙◌, subst, arith}, specs.Prelude.{codes}}
use Rattle.hc_effects.proofs.Vocabulary.{Request}
use Rattle.hc_fields.specs.FieldList.{size_of}
use Rattle.hc_validate.proofs.{Names.{IsToken-range, IsToken-if_range}, Stored.{IsFit}}
use Rattle.hc_on_poll.proofs.HoleAsked.{IsRangeText, range_fits, lent_or, first_or_fits}
use Rattle.hc_on_poll.proofs.hole.hole_request.Goals as goal

range : (c : goal.After-as_slice) → IsRangeText c.as_slice.result.now
range c = range_fits c.args.head.now.total c.args.hole c.unwrap_or.result _ _ _ c.requires.within
    c.unwrap_or.ensures c.as_slice.ensures.value c.in_ok-write_range.ensures.ok c.new-range.ensures.items

pub set_field-requires-clause-name : goal.set_field-requires-clause-name
set_field-requires-clause-name c = IsToken-range

pub set_field-requires-clause-value : goal.set_field-requires-clause-value
set_field-requires-clause-value c = (range c).own

pub set_field-requires-clause-short : goal.set_field-requires-clause-short
set_field-requires-clause-short c = let most = (range c).short in omega (arith, most)

pub set_field-requires-clause-small : goal.set_field-requires-clause-small
set_field-requires-clause-small c =
    let most = (range c).short in
    let same = ap (λ (z : Request). size_of z.fields) c.in_ok-request.ensures in
    let within_limits = c.requires.within_limits.small in
    omega (arith, most, same, within_limits)

tag : (c : goal.After-set_field-arg-6-1) → IsFit c.unwrap_or-tag.result.now
tag c =
    let head = c.args.head.now in
    let same = ap (λ (z : Bor (List ℕ)). z.now) c.unwrap_or-tag.ensures ∙
    (lent_or c.get.result c.as_slice-2.result ∙ rw (c.get.ensures, c.as_slice-2.ensures) refl) in
    subst IsFit (sym same) (first_or_fits (codes "etag") head.fields head.own.list)

pub set_field-requires-2-clause-name : goal.set_field-requires-2-clause-name
set_field-requires-2-clause-name c = IsToken-if_range

pub set_field-requires-2-clause-value : goal.set_field-requires-2-clause-value
set_field-requires-2-clause-value c = (tag c).own

pub set_field-requires-2-clause-short : goal.set_field-requires-2-clause-short
set_field-requires-2-clause-short c = (tag c).short

pub set_field-requires-2-clause-small : goal.set_field-requires-2-clause-small
set_field-requires-2-clause-small c =
    let fits = range_fits c.args.head.now.total c.args.hole c.unwrap_or.result _ _ _ c.requires.within
    c.unwrap_or.ensures c.as_slice.ensures.value c.in_ok-write_range.ensures.ok c.new-range.ensures.items in
    let most = fits.short in
    let tagged = (tag c).short in
    let same = ap (λ (z : Request). size_of z.fields) c.in_ok-request.ensures in
    let within_limits = c.requires.within_limits.small in
    let set = c.in_ok-set_field.ensures.size in
    omega (arith, most, tagged, same, within_limits, set)
