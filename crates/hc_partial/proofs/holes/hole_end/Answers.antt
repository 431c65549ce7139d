use Rattle.std.proofs.Common.{◌∙◌}
use Rattle.hc_partial.proofs.HoleLemmas.{present_from-next, present_from-none}
use Rattle.hc_partial.proofs.holes.hole_end.Goals as goal

pub returns-in-Some : goal.returns-in-Some
returns-in-Some g c =
    c.min.ensures ∙ present_from-next (g.P.Presence.cells c.args.store.now) c.args.from c.args.hi c.in-Some.next c.requires c.in-Some.ensures.next

pub returns-in-None : goal.returns-in-None
returns-in-None g c = present_from-none (g.P.Presence.cells c.args.store.now) c.args.from c.args.hi c.requires c.in-None.ensures.next
