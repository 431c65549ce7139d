use Rattle.std.proofs.Common.{ap, ◌∙◌}
use Rattle.hc_entry.specs.Lines.{is_in}
use Rattle.hc_entry.proofs.SeatLemmas.{seat-in}
use Rattle.hc_entry.proofs.line.KeyLine.is_in.Goals as goal

pub returns : goal.returns
returns c =
    c.contains_key.ensures
    ∙ (seat-in c.args.c c.self.inside.seats.entries c.self.invariant.distinct ∙ ap (is_in c.args.c) c.self.view_is)
