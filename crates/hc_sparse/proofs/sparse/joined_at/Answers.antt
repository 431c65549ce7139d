use Rattle.std.proofs.Common.{refl, arith}
use Rattle.hc_sparse.specs.{Extents.{Follows}, Places.{marks_at}}
use Rattle.hc_sparse.proofs.{TailLemmas.{extents-join, ends-none, ends-other, whole-of}, sparse.joined_at.Goals.{else-loop-whole-test, then-loop-whole-test+in_default-2, then-loop-whole-test+in_default}}
use Rattle.hc_sparse.proofs.sparse.joined_at.Goals as goal

pub loop-whole-preserved : goal.loop-whole-preserved
loop-whole-preserved c =
    let follows : Follows c.loop-whole.whole c.in-Some.next = c.is_followed.ensures.0 c.if-is_followed.true in
    extents-join (marks_at c.args.places.now) c.args.p c.loop-whole.whole c.in-Some.next c.loop-whole.invariant c.in-Some.ensures.some follows

pub returns : goal.returns
returns c =
    let f = marks_at c.args.places.now in
    let whole = c.loop-whole.whole in
    let is = c.loop-whole.invariant in
    let some = is.some in
    let wanted = c.requires.wanted in
    let least = c.min.ensures in
    whole-of f c.args.p c.args.want c.min.result whole is wanted (omega (arith, least)) (omega (arith, least)) (λ lt. omega (arith, least))
    (omega (arith, least)) (λ lt. elim c.loop-whole-test.branch [
      | else-loop-whole-test w ↦ absurd (let reached = w.loop-whole-test.false in omega arith)
      | then-loop-whole-test+in_default-2 w ↦ ends-other f c.args.p whole w.in-Some.next is.at w.in-Some.ensures.some w.if-next-whole.false
      | then-loop-whole-test+in_default w ↦ ends-none f c.args.p whole is.at (w.extent-in-loop-whole.ensures.none (rw w.in_default.is refl))
    ])
