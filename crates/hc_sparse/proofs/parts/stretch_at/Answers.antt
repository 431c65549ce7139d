use Rattle.std.proofs.Common.{refl}
use Rattle.hc_sparse.specs.Stretch.{stretch}
use Rattle.hc_sparse.proofs.PartLemmas.{part-here}
use Rattle.hc_sparse.proofs.parts.stretch_at.Goals as goal

pub returns-in_default-clause-ok : goal.returns-in_default-clause-ok
unfolding stretch
returns-in_default-clause-ok g c =
    let none = c.in_default.ensures.none refl in
    rw none refl

pub returns-clause-ok : goal.returns-clause-ok
unfolding stretch
returns-clause-ok g c =
    let here = part-here (g.P.Parts.kept c.args.kept.now) c.args.p c.in-Some.x c.in-Some.field-0-1.now c.in-Some.ensures.some in
    rw (here, c.of.ensures, c.in_ok-append_from.ensures) refl
