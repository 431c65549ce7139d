use Rattle.hc_partial.proofs.HoleLemmas.{first_hole-empty, first_hole-none, first_hole-some}
use Rattle.hc_partial.proofs.holes.first_hole.Goals as goal

pub returns-then-span-lo : goal.returns-then-span-lo
returns-then-span-lo g c = first_hole-none (g.P.Presence.cells c.args.store.now) c.args.span c.stored_end-lo.result c.stored_end-lo.ensures c.if-span-lo.true

pub returns : goal.returns
returns g c =
    first_hole-some (g.P.Presence.cells c.args.store.now) c.args.span c.stored_end-lo.result c.hole_end.result c.stored_end-lo.ensures c.if-span-lo.false
    c.hole_end.ensures

pub returns-then-span : goal.returns-then-span
returns-then-span g c = first_hole-empty (g.P.Presence.cells c.args.store.now) c.args.span c.if-span.true
