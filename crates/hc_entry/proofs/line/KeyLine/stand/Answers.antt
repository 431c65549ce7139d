use Rattle.std.proofs.Common.{sym, ap, ◌∙◌}
use Rattle.hc_entry.specs.Seats.{stand_in}
use Rattle.hc_entry.proofs.StandLemmas.{stand_of, stand-seat}
use Rattle.hc_entry.proofs.line.KeyLine.stand.Goals as goal

pub returns-in_err-get : goal.returns-in_err-get
returns-in_err-get c =
    let i = c.self.inside in
    c.from_residual.ensures
    ∙ (ap stand_of c.in_err-get.ensures.value
    ∙ (sym (stand-seat c.args.c i.seats.entries i.places.slots i.holder c.self.invariant.distinct) ∙ ap (stand_in c.args.c) c.self.view_is))

pub returns : goal.returns
returns c =
    let i = c.self.inside in
    ap stand_of c.in_ok-get.ensures.value
    ∙ (sym (stand-seat c.args.c i.seats.entries i.places.slots i.holder c.self.invariant.distinct) ∙ ap (stand_in c.args.c) c.self.view_is)
