use Rattle.std.proofs.Common.{sym, ap, ◌∙◌}
use Rattle.hc_entry.specs.declared.seat.Stand.TheVariants as stand
use Rattle.hc_entry.specs.Lines.{Line}
use Rattle.hc_text.specs.Sorted.{is_among}
use Rattle.hc_entry.proofs.SeatLemmas.{among-standing, stands_at}
use Rattle.hc_entry.proofs.line.KeyLine.has_passed.Goals as goal

pub returns-in-Some : goal.returns-in-Some
returns-in-Some c =
    c.is_passed.ensures
    ∙ (ap (stands_at stand.Passed) c.in-Some.ensures.value
    ∙ (sym (among-standing stand.Passed c.args.c c.self.inside.seats.entries c.self.invariant.distinct)
    ∙ ap (λ (l : Line). is_among c.args.c l.passed) c.self.view_is))

pub returns-in-None : goal.returns-in-None
returns-in-None c =
    ap (stands_at stand.Passed) c.in-None.ensures.value
    ∙ (sym (among-standing stand.Passed c.args.c c.self.inside.seats.entries c.self.invariant.distinct)
    ∙ ap (λ (l : Line). is_among c.args.c l.passed) c.self.view_is)
