use Rattle.std.proofs.Common.{◌≡◌, ◌<◌, List, length, get_or, ◌∙◌, subst}
use Rattle.hc_contents.specs.declared.contents.Content as coded
use Rattle.hc_contents.specs.PlainContents.{plain_contents}
use Rattle.hc_core.proofs.BegunItems.{item_fits, item_new, item_ends, item_small, item_light, one_more_kept, none_kept, calm_ok}
use Rattle.hc_core.proofs.rows.begin.begin_with.Goals as goal

pub loop-item-init : goal.loop-item-init
loop-item-init g c = none_kept c.args.rows.now (plain_contents c.args.contents.now) c.requires.start c.requires.none

pub begin_item-requires-clause-new : goal.begin_item-requires-clause-new
begin_item-requires-clause-new g c =
    let lt : c.loop-item.item-index < length c.args.contents.now.items =
    subst (λ (zs : List coded.Content). c.loop-item.item-index < length zs) c.as_slice-item-items.ensures c.loop-item-test.true in
    let is = subst (λ (zs : List coded.Content). c.item-item.result ≡ get_or zs c.loop-item.item-index c.item-item.result) c.as_slice-item-items.ensures
    c.item-item.is in
    item_new c.args.rows.now c.loop-item.rows c.args.contents.now c.loop-item.item-index c.item-item.result lt is c.requires.fit c.loop-item.invariant

pub begin_item-requires-clause-moments : goal.begin_item-requires-clause-moments
begin_item-requires-clause-moments g c =
    let lt : c.loop-item.item-index < length c.args.contents.now.items =
    subst (λ (zs : List coded.Content). c.loop-item.item-index < length zs) c.as_slice-item-items.ensures c.loop-item-test.true in
    let is = subst (λ (zs : List coded.Content). c.item-item.result ≡ get_or zs c.loop-item.item-index c.item-item.result) c.as_slice-item-items.ensures
    c.item-item.is in
    (item_fits c.args.rows.now c.loop-item.rows c.args.contents.now c.loop-item.item-index c.item-item.result lt is c.requires.fit
    c.loop-item.invariant).moments

pub begin_item-requires-clause-ascending : goal.begin_item-requires-clause-ascending
begin_item-requires-clause-ascending g c =
    let lt : c.loop-item.item-index < length c.args.contents.now.items =
    subst (λ (zs : List coded.Content). c.loop-item.item-index < length zs) c.as_slice-item-items.ensures c.loop-item-test.true in
    let is = subst (λ (zs : List coded.Content). c.item-item.result ≡ get_or zs c.loop-item.item-index c.item-item.result) c.as_slice-item-items.ensures
    c.item-item.is in
    (item_fits c.args.rows.now c.loop-item.rows c.args.contents.now c.loop-item.item-index c.item-item.result lt is c.requires.fit
    c.loop-item.invariant).ascending

pub begin_item-requires-clause-ends : goal.begin_item-requires-clause-ends
begin_item-requires-clause-ends g c =
    let lt : c.loop-item.item-index < length c.args.contents.now.items =
    subst (λ (zs : List coded.Content). c.loop-item.item-index < length zs) c.as_slice-item-items.ensures c.loop-item-test.true in
    let is = subst (λ (zs : List coded.Content). c.item-item.result ≡ get_or zs c.loop-item.item-index c.item-item.result) c.as_slice-item-items.ensures
    c.item-item.is in
    item_ends c.args.rows.now c.loop-item.rows c.args.contents.now c.loop-item.item-index c.item-item.result lt is c.requires.fit c.loop-item.invariant

pub begin_item-requires-clause-small : goal.begin_item-requires-clause-small
begin_item-requires-clause-small g c =
    let lt : c.loop-item.item-index < length c.args.contents.now.items =
    subst (λ (zs : List coded.Content). c.loop-item.item-index < length zs) c.as_slice-item-items.ensures c.loop-item-test.true in
    let is = subst (λ (zs : List coded.Content). c.item-item.result ≡ get_or zs c.loop-item.item-index c.item-item.result) c.as_slice-item-items.ensures
    c.item-item.is in
    item_small c.args.rows.now c.loop-item.rows c.args.contents.now c.loop-item.item-index c.item-item.result lt is c.requires.fit c.loop-item.invariant

pub begin_item-requires-clause-light : goal.begin_item-requires-clause-light
begin_item-requires-clause-light g c =
    let lt : c.loop-item.item-index < length c.args.contents.now.items =
    subst (λ (zs : List coded.Content). c.loop-item.item-index < length zs) c.as_slice-item-items.ensures c.loop-item-test.true in
    let is = subst (λ (zs : List coded.Content). c.item-item.result ≡ get_or zs c.loop-item.item-index c.item-item.result) c.as_slice-item-items.ensures
    c.item-item.is in
    item_light c.args.rows.now c.loop-item.rows c.args.contents.now c.loop-item.item-index c.item-item.result lt is c.requires.fit c.loop-item.invariant

pub loop-item-preserved : goal.loop-item-preserved
loop-item-preserved g c =
    let lt : c.loop-item.item-index < length c.args.contents.now.items =
    subst (λ (zs : List coded.Content). c.loop-item.item-index < length zs) c.as_slice-item-items.ensures c.loop-item-test.true in
    let is = subst (λ (zs : List coded.Content). c.item-item.result ≡ get_or zs c.loop-item.item-index c.item-item.result) c.as_slice-item-items.ensures
    c.item-item.is in
    let done = c.in_ok-begin_item.ensures in
    one_more_kept c.args.rows.now c.loop-item.rows c.args.contents.now c.loop-item.item-index c.item-item.result lt is c.requires.fit
    c.loop-item.invariant c.begin_item.new.rows done.ok done.used (calm_ok _ _ c.in_ok-begin_item.field-0 done.cause)
