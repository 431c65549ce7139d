use Rattle.std.proofs.Common.{rules, arith, ◌≡◌, List, [], map, reverse, take, true, false, ap, sym, ◌∙◌, subst}
use Rattle.hc_model.specs.Entries.{Content}
use Rattle.hc_contents.specs.declared.contents.Content as coded
use Rattle.hc_contents.specs.{Fit.{count_good}, Known.{Knows}, PlainContents.{plain_contents, plain_item}}
use Rattle.hc_contents.proofs.Counting.{stopped, goes_on, more_before, longer}
use Rattle.hc_contents.proofs.unfit.count_good.Goals as goal

pub returns-then-not-good : goal.returns-then-not-good
returns-then-not-good c =
    let items = c.as_slice-items.result.now in
    let i = c.loop-i.i in
    let reports = c.in_ok-good.ensures (reverse (take i (map plain_item items))) (map plain_item items) c.loop-i.invariant.knows
    (longer items i c.loop-i-test.true) in
    let off : c.in_ok-good.good ≡ false = first_of (search (rules, c.if-not-good.true), grind (arith, c.if-not-good.true)) in
    stopped c.args.limits (plain_contents c.args.contents.now) items i c.index-items-i.result c.loop-i.invariant.counted c.loop-i-test.true
    c.index-items-i.is c.in_ok-good.good off reports
    ∙ ap (λ (zs : List coded.Content). count_good c.args.limits (plain_contents c.args.contents.now) [] (map plain_item zs)) c.as_slice-items.ensures

pub loop-i-preserved : goal.loop-i-preserved
loop-i-preserved c =
    let items = c.as_slice-items.result.now in
    let i = c.loop-i.i in
    let item = c.index-items-i.result in
    let earlier = reverse (take i (map plain_item items)) in
    let reports = c.in_ok-good.ensures earlier (map plain_item items) c.loop-i.invariant.knows (longer items i c.loop-i-test.true) in
    let on : c.in_ok-good.good ≡ true = first_of (search (rules, c.if-not-good.false), grind (arith, c.if-not-good.false)) in
    let counted = c.loop-i.invariant.counted in
    record {
      knows =
          subst (λ (zs : List Content). Knows c.add.new.self zs (map plain_item items))
          (more_before c.args.limits (plain_contents c.args.contents.now) items i item counted c.loop-i-test.true c.index-items-i.is)
          (c.in_ok-add.ensures earlier (map plain_item items) c.loop-i.invariant.knows);
      counted = goes_on c.args.limits (plain_contents c.args.contents.now) items i item counted c.loop-i-test.true c.index-items-i.is (sym reports ∙ on);
    }
