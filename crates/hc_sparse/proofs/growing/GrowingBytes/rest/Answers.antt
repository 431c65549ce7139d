use Rattle.std.{proofs.{Common.{◌≡◌, ◌<◌, ◌≤◌, ◌/◌, ◌%◌, ◌++◌, [], ◌∙◌, arith, length, get_or, length-drop}, lemmas.List.{get_or_read}}, specs.List.{concat}}
use Rattle.hc_sparse.proofs.GrowingLemmas.{whole-at, begin-whole, last-place, begin-last}
use Rattle.hc_sparse.proofs.growing.GrowingBytes.rest.Goals as goal

pub behind-requires : goal.behind-requires
behind-requires c =
    let lt : c.args.from / 16384 < length c.self.inside.segments.items = (let t = c.if-n-len.true in let n = c.len.ensures in omega (arith, t, n)) in
    let here : c.as_slice.result.now ≡ get_or c.self.inside.segments.items (c.args.from / 16384) [] = c.as_slice.ensures ∙
    get_or_read c.self.inside.segments.items (c.args.from / 16384) c.index.result.now lt c.index.ensures [] in
    let len = whole-at c.self.inside.segments.items (c.args.from / 16384) c.self.invariant.0 lt in
    rw here (omega (arith, len))

pub behind-requires-else-n-len : goal.behind-requires-else-n-len
behind-requires-else-n-len c =
    let ge : length c.self.inside.segments.items ≤ c.args.from / 16384 = (let t = c.if-n-len.false in let n = c.len.ensures in omega (arith, t, n)) in
    let within : c.args.from < length (concat c.self.inside.segments.items ++ c.self.inside.last.items) = rw c.self.view_is c.requires in
    let there = last-place c.self.inside.segments.items c.self.inside.last.items c.args.from c.self.invariant.0 ge c.self.invariant.1 within in
    let lt = there.1 in
    rw c.deref.ensures.value (omega (arith, lt))

pub returns-then-n-len-clause-some : goal.returns-then-n-len-clause-some
returns-then-n-len-clause-some c =
    let lt : c.args.from / 16384 < length c.self.inside.segments.items = (let t = c.if-n-len.true in let n = c.len.ensures in omega (arith, t, n)) in
    let here : c.as_slice.result.now ≡ get_or c.self.inside.segments.items (c.args.from / 16384) [] = c.as_slice.ensures ∙
    get_or_read c.self.inside.segments.items (c.args.from / 16384) c.index.result.now lt c.index.ensures [] in
    let len = whole-at c.self.inside.segments.items (c.args.from / 16384) c.self.invariant.0 lt in
    let rest = length-drop (c.args.from % 16384) (get_or c.self.inside.segments.items (c.args.from / 16384) []) in
    rw (c.behind.ensures, here) (omega (arith, len, rest))

pub returns-then-n-len-clause-begins : goal.returns-then-n-len-clause-begins
returns-then-n-len-clause-begins c =
    let lt : c.args.from / 16384 < length c.self.inside.segments.items = (let t = c.if-n-len.true in let n = c.len.ensures in omega (arith, t, n)) in
    let here : c.as_slice.result.now ≡ get_or c.self.inside.segments.items (c.args.from / 16384) [] = c.as_slice.ensures ∙
    get_or_read c.self.inside.segments.items (c.args.from / 16384) c.index.result.now lt c.index.ensures [] in
    rw (c.behind.ensures, here, ← c.self.view_is) (begin-whole c.self.inside.segments.items c.self.inside.last.items c.args.from c.self.invariant.0 lt)

pub returns-else-n-len-clause-some : goal.returns-else-n-len-clause-some
returns-else-n-len-clause-some c =
    let ge : length c.self.inside.segments.items ≤ c.args.from / 16384 = (let t = c.if-n-len.false in let n = c.len.ensures in omega (arith, t, n)) in
    let within : c.args.from < length (concat c.self.inside.segments.items ++ c.self.inside.last.items) = rw c.self.view_is c.requires in
    let there = last-place c.self.inside.segments.items c.self.inside.last.items c.args.from c.self.invariant.0 ge c.self.invariant.1 within in
    let lt = there.1 in
    let rest = length-drop (c.args.from % 16384) c.self.inside.last.items in
    rw (c.behind-else-n-len.ensures, c.deref.ensures.value) (omega (arith, lt, rest))

pub returns-else-n-len-clause-begins : goal.returns-else-n-len-clause-begins
returns-else-n-len-clause-begins c =
    let ge : length c.self.inside.segments.items ≤ c.args.from / 16384 = (let t = c.if-n-len.false in let n = c.len.ensures in omega (arith, t, n)) in
    let within : c.args.from < length (concat c.self.inside.segments.items ++ c.self.inside.last.items) = rw c.self.view_is c.requires in
    rw (c.behind-else-n-len.ensures, c.deref.ensures.value, ← c.self.view_is)
    (begin-last c.self.inside.segments.items c.self.inside.last.items c.args.from c.self.invariant.0 ge c.self.invariant.1 within)
