use Rattle.std.proofs.Common.{ap, ◌∙◌}
use Rattle.hc_entry.specs.declared.seat.Stand.TheVariants as stand
use Rattle.hc_entry.specs.{Seats.{standing}, Lines.{turn_of}}
use Rattle.hc_entry.proofs.{LineLemmas.{stands-held}, SeatLemmas.{standing-is_sorted}}
use Rattle.hc_entry.proofs.line.KeyLine.hold.Goals as goal

pub invariant_of-self : goal.invariant_of-self
invariant_of-self c =
    let i = c.self.inside in
    let was = c.self.invariant in
    let rise = standing-is_sorted stand.InLine i.seats.entries was.distinct in
    record {
      distinct = was.distinct;
      placed = was.placed;
      seated = was.seated;
      plays = was.plays;
      room = was.room;
      holds = stands-held c.args.c i.holder (standing stand.InLine i.seats.entries) rise was.holds (ap turn_of c.self.view_is ∙ c.requires.turn);
    }
