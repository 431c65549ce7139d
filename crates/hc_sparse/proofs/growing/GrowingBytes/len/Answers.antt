use Rattle.std.{proofs.Common.{arith, length-append}, specs.List.{concat}}
use Rattle.hc_sparse.proofs.GrowingLemmas.{whole-length}
use Rattle.hc_sparse.proofs.growing.GrowingBytes.len.Goals as goal

pub overflow_mul-result : goal.overflow_mul-result
overflow_mul-result c =
    let len = whole-length c.self.inside.segments.items c.self.invariant.0 in
    let all = length-append (concat c.self.inside.segments.items) c.self.inside.last.items in
    let small = c.self.invariant.2 in
    let n = c.len.ensures in
    omega (arith, len, all, small, n)

pub overflow_add-result : goal.overflow_add-result
overflow_add-result c =
    let len = whole-length c.self.inside.segments.items c.self.invariant.0 in
    let all = length-append (concat c.self.inside.segments.items) c.self.inside.last.items in
    let small = c.self.invariant.2 in
    let n = c.len.ensures in
    let m = c.len-2.ensures in
    omega (arith, len, all, small, n, m)

pub returns : goal.returns
returns c =
    let len = whole-length c.self.inside.segments.items c.self.invariant.0 in
    let all = length-append (concat c.self.inside.segments.items) c.self.inside.last.items in
    let n = c.len.ensures in
    let m = c.len-2.ensures in
    rw (← c.self.view_is) (omega (arith, len, all, n, m))
