use Rattle.std.proofs.Common.{sym, ap, ◌∙◌}
use Rattle.hc_entry.specs.{Seats.{seat_of}, Lines.{is_in, left_by}}
use Rattle.hc_entry.proofs.SeatLemmas.{seat-in, some-seat, seated-left, places-left, line-left}
use Rattle.hc_entry.proofs.line.KeyLine.leave.Goals as goal

pub unreachable-requires : goal.unreachable-requires
unreachable-requires c =
    let i = c.self.inside in
    let rise = c.self.invariant.distinct in
    let (seat, is) = some-seat (seat_of i.seats.entries c.args.c) (seat-in c.args.c i.seats.entries rise ∙ (ap (is_in c.args.c) c.self.view_is ∙ c.requires)) in
    c.in_default.not-Some seat (c.remove.ensures.value ∙ is)

pub invariant_of-self : goal.invariant_of-self
invariant_of-self c =
    let i = c.self.inside in
    let is = sym c.remove.ensures.value ∙ c.in-Some.is in
    seated-left i.seats.entries i.places.slots i.in_line i.holder c.self.invariant c.args.c c.in-Some.seat is
    c.remove.new.self.entries (record { changes = c.remove.ensures.updates.0; distinct = c.remove.ensures.unique })
    c.remove-2.new.self.slots c.set.new.self c.released-self-inside.result c.remove-2.ensures.slots c.set.ensures c.released-self-inside.ensures

pub returns : goal.returns
returns c =
    let i = c.self.inside in
    let is = sym c.remove.ensures.value ∙ c.in-Some.is in
    let rise = c.self.invariant.distinct in
    line-left i.seats.entries i.places.slots i.holder rise c.args.c c.in-Some.seat.place c.remove.new.self.entries c.released-self-inside.result
    c.released-self-inside.ensures
    c.remove-2.new.self.slots
    (c.remove-2.ensures.slots ∙
    sym (places-left i.seats.entries i.places.slots i.in_line i.holder c.self.invariant c.args.c c.in-Some.seat is c.remove.new.self.entries
    (record { changes = c.remove.ensures.updates.0; distinct = c.remove.ensures.unique })))
    (record { changes = c.remove.ensures.updates.0; distinct = c.remove.ensures.unique })
    ∙ ap (left_by c.args.c) c.self.view_is
