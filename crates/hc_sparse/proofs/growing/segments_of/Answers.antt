use Rattle.std.proofs.Common.{◌≡◌, ◌+◌, ◌*◌, ◌-◌, ◌∙◌, arith, length, length-take, length-drop, take, drop}
use Rattle.hc_sparse.proofs.GrowingLemmas.{segment-more}
use Rattle.hc_sparse.proofs.growing.segments_of.Goals as goal

pub loop-n-preserved : goal.loop-n-preserved
loop-n-preserved c =
    let before = c.loop-n.invariant in
    let more = c.loop-n-test.true in
    let end = c.loop-n.auto.n-end in
    let at = c.loop-n.n * 16384 in
    let count : at + 16384 - at ≡ 16384 = omega arith in
    let is : c.shared.result ≡ take 16384 (drop at c.args.bytes.now) = c.shared.ensures ∙ rw count at c.in_ok-segment.ensures.items in
    let first = length-take 16384 (drop at c.args.bytes.now) in
    let rest = length-drop at c.args.bytes.now in
    let len : length c.shared.result ≡ 16384 = rw is (omega (arith, first, rest, more, end)) in
    rw c.in_ok-push.ensures.items (segment-more c.loop-n.segments.items c.args.bytes.now c.shared.result c.loop-n.n before.0 before.1 is len)
