use Rattle.std.proofs.Common.{Some, sym, ap, ◌∙◌}
use Rattle.hc_entry.specs.Lines.{turn_with}
use Rattle.hc_entry.proofs.{LineLemmas.{turn_with-first, turn_with-none}, SeatLemmas.{turn-least, line_of}}
use Rattle.hc_entry.proofs.line.KeyLine.turn_with.Goals as goal

pub returns-in-None-Some : goal.returns-in-None-Some
returns-in-None-Some c =
    let i = c.self.inside in
    let line = line_of i.seats.entries i.places.slots i.holder in
    let first = sym (turn-least i.seats.entries i.places.slots i.in_line i.holder c.self.invariant c.least.result c.least.ensures) ∙ c.in-None-Some.is-1 in
    ap Some c.min.ensures ∙ (turn_with-first c.args.c c.in-None-Some.first line c.in-None-Some.is-0 first ∙ ap (turn_with c.args.c) c.self.view_is)

pub returns-in-None-None : goal.returns-in-None-None
returns-in-None-None c =
    let i = c.self.inside in
    let line = line_of i.seats.entries i.places.slots i.holder in
    let none = sym (turn-least i.seats.entries i.places.slots i.in_line i.holder c.self.invariant c.least.result c.least.ensures) ∙ c.in-None-None.is-1 in
    turn_with-none c.args.c line c.in-None-None.is-0 none ∙ ap (turn_with c.args.c) c.self.view_is
