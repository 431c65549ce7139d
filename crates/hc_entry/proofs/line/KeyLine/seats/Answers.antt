use Rattle.std.proofs.Common.{sym, ap, ◌∙◌, arith}
use Rattle.hc_entry.specs.{Seats.{seat_of}, Lines.{Line, is_in, consumer_at}}
use Rattle.hc_entry.proofs.{SeatLemmas.{seat-in, some-seat}, StandLemmas.{place-within}}
use Rattle.hc_entry.proofs.line.KeyLine.seats.Goals as goal

pub returns : goal.returns
returns c = λ d is.
    let i = c.self.inside in
    let (seat, has) = some-seat (seat_of i.seats.entries d) (seat-in d i.seats.entries c.self.invariant.distinct ∙ (ap (is_in d) c.self.view_is ∙ is)) in
    let there = c.self.invariant.placed d seat has in
    let within = place-within i.places.slots seat.place d there in
    let slots = c.capacity.ensures.slots in
    (seat.place, omega arith, sym (ap (λ (l : Line). consumer_at l seat.place) c.self.view_is) ∙ there)
