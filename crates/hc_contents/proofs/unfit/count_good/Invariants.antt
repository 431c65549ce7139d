use Rattle.std.proofs.Common.{map, reverse, take}
use Rattle.hc_contents.specs.{Known.{Knows}, PlainContents.{plain_contents, plain_item}}
use Rattle.hc_contents.proofs.Counting.{IsCounted}
use Rattle.hc_contents.proofs.unfit.count_good.Given as goal

abbrev pub invariant-loop-i : goal.invariant-loop-i
invariant-loop-i l = record {
  knows : Knows l.seen (reverse (take l.i (map plain_item l.items))) (map plain_item l.items);
  counted : IsCounted l.limits (plain_contents l.contents) l.items l.i;
}
