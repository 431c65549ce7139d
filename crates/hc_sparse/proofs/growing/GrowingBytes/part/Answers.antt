use Rattle.std.proofs.{Common.{◌≡◌, ◌+◌, ◌<◌, ◌≤◌, ◌/◌, ◌%◌, [], ◌∙◌, arith, length, get_or}, lemmas.List.{get_or_read}}
use Rattle.hc_sparse.proofs.GrowingLemmas.{whole-at, part-whole, ok-says}
use Rattle.hc_sparse.proofs.growing.GrowingBytes.part.Goals as goal

pub part-requires-clause-within : goal.part-requires-clause-within
part-requires-clause-within c =
    let lt : c.args.from / 16384 < length c.self.inside.segments.items = (let t = c.if-n-len.true in let n = c.len.ensures in omega (arith, t, n)) in
    let fits = c.if-len-o.true in
    let here : c.index.result.now ≡ get_or c.self.inside.segments.items (c.args.from / 16384) [] =
    get_or_read c.self.inside.segments.items (c.args.from / 16384) c.index.result.now lt c.index.ensures [] in
    let len = whole-at c.self.inside.segments.items (c.args.from / 16384) c.self.invariant.0 lt in
    rw here (omega (arith, len, fits))

pub returns-then-len-o : goal.returns-then-len-o
returns-then-len-o c =
    let lt : c.args.from / 16384 < length c.self.inside.segments.items = (let t = c.if-n-len.true in let n = c.len.ensures in omega (arith, t, n)) in
    let fits : c.args.from % 16384 + c.args.len ≤ 16384 = (let t = c.if-len-o.true in omega (arith, t)) in
    let here : c.index.result.now ≡ get_or c.self.inside.segments.items (c.args.from / 16384) [] =
    get_or_read c.self.inside.segments.items (c.args.from / 16384) c.index.result.now lt c.index.ensures [] in
    ok-says c.part.result _ _
    (λ part is. is ∙ rw (here, ← c.self.view_is)
    (part-whole c.self.inside.segments.items c.self.inside.last.items c.args.from c.args.len c.self.invariant.0 lt fits)) c.part.ensures
