use Rattle.std.proofs.Common.{◌+◌, sym, ◌∙◌, subst}
use Rattle.hc_text.proofs.Basics.{none_or as none_is}
use Rattle.hc_state.specs.Changes.{over_if_passed}
use Rattle.hc_on_leave.proofs.{SeatLoops.{AreChangedBelow, none_changed, nobody_more, one_more, all_changed}, evict.start_passed_over.Goals.{in-Some, in_default}}
use Rattle.hc_on_leave.proofs.evict.start_passed_over.Goals as goal

pub loop-i-init : goal.loop-i-init
loop-i-init c = none_changed c.args.keys.now c.args.key.now (over_if_passed c.args.now) c.args.consumers.now

pub loop-i-preserved : goal.loop-i-preserved
loop-i-preserved c =
    let keys = c.args.keys.now in
    let key = c.args.key.now in
    let f = over_if_passed c.args.now in
    let old = c.args.consumers.now in
    let i = c.loop-i.i in
    elim c.match-seated.branch [
      | in-Some w ↦ subst (λ z. AreChangedBelow (i + 1) keys key f old z) (sym w.consumers-is)
          (one_more keys key f old i w.in-Some.c c.loop-i.consumers w.start_over_if_passed.new.consumers c.loop-i.invariant (sym w.in-Some.ensures.there)
          w.in-Some.ensures.inside w.in-Some.ensures.once w.start_over_if_passed.ensures)
      | in_default w ↦ subst (λ z. AreChangedBelow (i + 1) keys key f old z) (sym w.consumers-is)
          (nobody_more keys key f old i c.loop-i.consumers c.loop-i.invariant (sym c.seated.ensures.there ∙ none_is c.seated.result w.in_default.not-Some))
    ]

pub returns : goal.returns
returns c =
    all_changed c.args.keys.now c.args.key.now (over_if_passed c.args.now) c.args.consumers.now c.seats-i-end.result c.loop-i.i c.loop-i.consumers
    c.seats-i-end.ensures c.loop-i-test.false c.loop-i.invariant
