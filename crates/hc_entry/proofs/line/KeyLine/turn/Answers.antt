use Rattle.std.proofs.Common.{ap, ◌∙◌}
use Rattle.hc_entry.specs.Lines.{turn_of, holder_or}
use Rattle.hc_entry.proofs.{LineLemmas.{or-holder}, SeatLemmas.{turn-least}}
use Rattle.hc_entry.proofs.line.KeyLine.turn.Goals as goal

pub returns : goal.returns
returns c =
    let i = c.self.inside in
    c.or.ensures
    ∙ (or-holder i.holder c.least.result
    ∙ (ap (holder_or i.holder) (turn-least i.seats.entries i.places.slots i.in_line i.holder c.self.invariant c.least.result c.least.ensures)
    ∙ ap turn_of c.self.view_is))
