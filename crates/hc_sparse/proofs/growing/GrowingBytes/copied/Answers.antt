use Rattle.std.proofs.Common.{◌≡◌, ◌∙◌, arith, length, length-append, refl}
use Rattle.hc_sparse.proofs.GrowingLemmas.{begin-more}
use Rattle.hc_sparse.proofs.growing.GrowingBytes.copied.Goals as goal

pub overflow_add-from : goal.overflow_add-from
overflow_add-from c =
    let small = c.requires.small in
    let more = c.loop-bytes-test.true in
    let a = c.len.ensures in
    let b = c.len-in-loop-bytes.ensures in
    omega (arith, small, more, a, b)

pub loop-bytes-preserved : goal.loop-bytes-preserved
loop-bytes-preserved c =
    let before = c.loop-bytes.invariant in
    let few = before.0 in
    let more = c.first-more.result.now in
    let n : c.len-in-loop-bytes.result ≡ length c.loop-bytes.bytes.items =
    (let a = c.len-in-loop-bytes.ensures in let ok = c.loop-bytes.bytes.ok in omega (arith, a, ok)) in
    let m : c.len-in-loop-bytes-2.result ≡ length c.loop-bytes.bytes.items =
    (let a = c.len-in-loop-bytes-2.ensures in let ok = c.loop-bytes.bytes.ok in omega (arith, a, ok)) in
    let most = c.first-more.ensures.most in
    let len = length-append c.loop-bytes.bytes.items more in
    let is = begin-more c.loop-bytes.bytes.items more c.args.self.now (length c.loop-bytes.bytes.items) c.args.from before.1
    (rw n at c.first-more.ensures.begins) in
    rw c.in_ok-extend_from_slice.ensures.items (omega (arith, few, most, m, len), is ∙ rw len refl)
