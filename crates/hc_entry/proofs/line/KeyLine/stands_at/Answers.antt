use Rattle.std.proofs.Common.{ap, ◌∙◌}
use Rattle.hc_entry.specs.{Seats.{seat_of, moved_to}, Lines.{is_in}}
use Rattle.hc_entry.proofs.SeatLemmas.{seat-in, some-seat, place-room, seated-moved, line-moved}
use Rattle.hc_entry.proofs.line.KeyLine.stands_at.Goals as goal

pub reseat-place-requires : goal.reseat-place-requires
reseat-place-requires c =
    let i = c.self.inside in
    seat-in c.args.c i.seats.entries c.self.invariant.distinct ∙ (ap (is_in c.args.c) c.self.view_is ∙ c.requires)

pub set-requires : goal.set-requires
set-requires c =
    let i = c.self.inside in
    let rise = c.self.invariant.distinct in
    let (seat, is) = some-seat (seat_of i.seats.entries c.args.c) (seat-in c.args.c i.seats.entries rise ∙ (ap (is_in c.args.c) c.self.view_is ∙ c.requires)) in
    let at_place = rw is at c.reseat-place.ensures.place in
    rw (← at_place) (place-room i.seats.entries i.places.slots i.in_line i.holder c.self.invariant c.args.c seat is)

pub invariant_of-self : goal.invariant_of-self
invariant_of-self c =
    let i = c.self.inside in
    let rise = c.self.invariant.distinct in
    let (seat, is) = some-seat (seat_of i.seats.entries c.args.c) (seat-in c.args.c i.seats.entries rise ∙ (ap (is_in c.args.c) c.self.view_is ∙ c.requires)) in
    let at_place = rw is at c.reseat-place.ensures.place in
    seated-moved i.seats.entries i.places.slots i.in_line i.holder c.self.invariant c.args.c seat is c.args.stand c.reseat-place.result at_place
    c.reseat-place.new.seats.entries (record { changes = c.reseat-place.ensures.seats; distinct = c.reseat-place.ensures.distinct })
    c.set.new.self c.released-self-inside.result (rw c.calls.ensures at c.set.ensures) c.released-self-inside.ensures

pub returns : goal.returns
returns c =
    let i = c.self.inside in
    let rise = c.self.invariant.distinct in
    line-moved i.seats.entries i.places.slots i.holder rise c.args.c c.reseat-place.result c.reseat-place.new.seats.entries c.released-self-inside.result
    c.released-self-inside.ensures c.args.stand
    (record { changes = c.reseat-place.ensures.seats; distinct = c.reseat-place.ensures.distinct })
    ∙ ap (moved_to c.args.stand c.args.c) c.self.view_is
