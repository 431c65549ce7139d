use Rattle.std.proofs.Common.{◌+◌, subst, sym, ap, ◌∙◌, arith}
use Rattle.hc_text.proofs.Basics.{none_or as none-there}
use Rattle.hc_entry.specs.Lines.{Line, all_back}
use Rattle.hc_entry.proofs.{SeatLemmas.{line_of}, StandLemmas.{orderly-seated}, AllBackLemmas.{AreBackBelow, freed, back-none, back-next, back-empty, back-all}, line.KeyLine.all_back.Goals.{in-Some, in_default}}
use Rattle.hc_entry.proofs.line.KeyLine.all_back.Goals as goal

pub loop-i-init : goal.loop-i-init
loop-i-init c =
    let i = c.self.inside in
    subst (λ (l : Line). AreBackBelow 0 l (freed (line_of i.seats.entries i.places.slots i.holder))) c.self.view_is
    (back-none (line_of i.seats.entries i.places.slots i.holder) (orderly-seated i.seats.entries i.places.slots i.in_line i.holder c.self.invariant))

pub loop-i-preserved : goal.loop-i-preserved
loop-i-preserved c = elim c.match-seated.branch [
  | in-Some w ↦ subst (λ (l : Line). AreBackBelow (c.loop-i.i + 1) c.args.self.now l) (sym (w.self-is ∙ w.back.ensures))
      (back-next c.loop-i.i w.in-Some.c c.args.self.now c.loop-i.self c.loop-i.invariant (sym w.in-Some.ensures.there) w.in-Some.ensures.inside)
  | in_default w ↦ subst (λ (l : Line). AreBackBelow (c.loop-i.i + 1) c.args.self.now l) (sym w.self-is)
      (back-empty c.loop-i.i c.args.self.now c.loop-i.self c.loop-i.invariant (sym c.seated.ensures.there ∙ none-there c.seated.result w.in_default.not-Some))
]

pub returns : goal.returns
returns c =
    let i = c.self.inside in
    let start = line_of i.seats.entries i.places.slots i.holder in
    let o = orderly-seated i.seats.entries i.places.slots i.in_line i.holder c.self.invariant in
    let back = subst (λ (l : Line). AreBackBelow c.loop-i.i l c.loop-i.self) (sym c.self.view_is) c.loop-i.invariant in
    back-all c.loop-i.i start c.loop-i.self o back (λ d is. let (k, below, there) = c.seats-i-end.ensures d is in (k, omega arith, there))
    ∙ ap all_back c.self.view_is
