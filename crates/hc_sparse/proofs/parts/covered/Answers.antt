use Rattle.std.proofs.Common.{◌≡◌, refl, arith, false, true, rules}
use Rattle.hc_sparse.proofs.PartLemmas.{covers-on}
use Rattle.hc_sparse.proofs.parts.covered.Goals as goal

pub loop-p-preserved : goal.loop-p-preserved
loop-p-preserved g c =
    let before = c.loop-p.invariant in
    let start = before.0 in
    let on = c.in-Some.ensures.some in
    let past = on.past in
    (omega arith, covers-on (g.P.Parts.kept c.args.kept.now) c.args.span.lo c.loop-p.p c.in-Some.end on before.1)

pub loop-p-smaller : goal.loop-p-smaller
loop-p-smaller g c = let on = c.in-Some.ensures.some in let past = on.past in let more = c.loop-p-test.true in omega arith

pub returns-in-None : goal.returns-in-None
returns-in-None g c =
    let none = c.in-None.ensures.none refl in
    let before = c.loop-p.invariant in (
      λ t. absurd (search rules),
      λ covers. absurd (let here = covers c.loop-p.p before.0 c.loop-p-test.true in let never : false ≡ true = rw none at here in cc),
    )
