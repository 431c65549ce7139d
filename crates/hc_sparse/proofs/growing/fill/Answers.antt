use Rattle.std.proofs.{Common.{rules, ◌≡◌, ◌++◌, ◌∙◌, ◌/◌, ◌*◌, ap, arith, length, length-append, drop}, lemmas.List.{take_rest}}
use Rattle.hc_sparse.proofs.GrowingLemmas.{filled-whole, filled}
use Rattle.hc_sparse.proofs.growing.fill.Goals as goal

pub returns-clause-whole : goal.returns-clause-whole
returns-clause-whole c =
    let ok = c.append.ensures.succeeds (search rules) in
    let full : c.shared.result ≡ c.args.last.now.items ++ c.args.first.now = c.shared.ensures ∙
    (ap (λ v. v.items) c.replace.ensures.value ∙ c.in_ok-extend_from_slice-2.ensures.items) in
    let fills = c.requires.fills in
    let len = length-append c.args.last.now.items c.args.first.now in
    rw (rw ok at c.append.ensures.items, c.push_reserved.ensures.items, c.in_ok-reserve.ensures.items)
    (filled-whole c.args.segments.now.items c.in_ok-others.others.items c.shared.result c.requires.whole c.in_ok-others.ensures.whole
    (rw full (omega (arith, len, fills))))

pub returns-clause-ok : goal.returns-clause-ok
returns-clause-ok c =
    let ok = c.append.ensures.succeeds (search rules) in
    let n = length c.args.more.now / 16384 * 16384 in
    let full : c.shared.result ≡ c.args.last.now.items ++ c.args.first.now = c.shared.ensures ∙
    (ap (λ v. v.items) c.replace.ensures.value ∙ c.in_ok-extend_from_slice-2.ensures.items) in
    let rest : c.replace.new.dest.items ≡ drop n c.args.more.now = ap (λ v. v.items) c.replace.ensures.after ∙
    (c.in_ok-extend_from_slice.ensures.items ∙ rw c.in_ok-behind.ensures.items (take_rest c.args.more.now n)) in
    rw (rw ok at c.append.ensures.items, c.push_reserved.ensures.items, c.in_ok-reserve.ensures.items)
    (filled c.args.segments.now.items c.in_ok-others.others.items c.args.last.now.items c.args.first.now c.args.more.now c.shared.result
    c.replace.new.dest.items n full c.in_ok-others.ensures.bytes rest)
