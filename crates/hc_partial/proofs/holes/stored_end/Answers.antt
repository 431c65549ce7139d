use Rattle.std.proofs.Common.{◌≡◌, ◌+◌, arith}
use Rattle.hc_partial.proofs.HoleLemmas.{absent_from_is, not_covered}
use Rattle.hc_partial.proofs.holes.stored_end.Goals as goal

pub returns-then-covers : goal.returns-then-covers
returns-then-covers g c =
    absent_from_is (g.P.Presence.cells c.args.store.now) c.args.from c.args.hi c.args.hi c.requires (omega arith) (c.covers.ensures.0 c.if-covers.true)
    (λ lt. absurd (omega arith))

pub returns : goal.returns
returns g c =
    let i = c.loop-end.invariant in
    let low = i.from in
    let apart = i.apart in
    let within = i.within in
    let next : c.loop-end.end ≡ c.loop-end.lo + 1 = omega arith in
    absent_from_is (g.P.Presence.cells c.args.store.now) c.args.from c.args.hi c.loop-end.lo low (omega arith) i.covered
    (λ lt. not_covered (g.P.Presence.cells c.args.store.now) c.loop-end.lo c.loop-end.end next i.missing)
