use Rattle.std.proofs.Common.{◌≡◌, ◌+◌, ℕ, Option, Some, subst, sym, ap, ◌∙◌, arith}
use Rattle.hc_entry.specs.Lines.{Line, passed_back, is_in, consumer_at}
use Rattle.hc_text.specs.Sorted.{is_among}
use Rattle.hc_entry.proofs.{SeatLemmas.{line_of}, StandLemmas.{orderly-seated}, AllBackLemmas.{ArePassedBackBelow, passed-back-none, passed-back-next, passed-back-stays, passed-back-all}, line.KeyLine.passed_back.Goals.{in-Some+then-has_passed, in-Some+else-has_passed, in_default}}
use Rattle.hc_entry.proofs.line.KeyLine.passed_back.Goals as goal

pub loop-place-init : goal.loop-place-init
loop-place-init c =
    let i = c.self.inside in
    subst (λ (l : Line). ArePassedBackBelow 0 l l) c.self.view_is
    (passed-back-none (line_of i.seats.entries i.places.slots i.holder) (orderly-seated i.seats.entries i.places.slots i.in_line i.holder c.self.invariant))

pub loop-place-preserved : goal.loop-place-preserved
loop-place-preserved c =
    let i = c.loop-place.place in
    let old = c.args.self.now in
    let now = c.loop-place.self in
    elim c.match-seated.branch [
      | in-Some+then-has_passed w ↦ subst (λ (l : Line). ArePassedBackBelow (i + 1) old l) (sym (w.self-is ∙ w.back.ensures))
          (passed-back-next i w.in-Some.c old now c.loop-place.invariant (sym w.in-Some.ensures.there) (sym w.has_passed.ensures ∙ w.if-has_passed.true))
      | in-Some+else-has_passed w ↦ subst (λ (l : Line). ArePassedBackBelow (i + 1) old l) (sym w.self-is)
          (passed-back-stays i old now c.loop-place.invariant (λ d is.
          let same : w.in-Some.c ≡ d = one (consumer_at now i) w.in-Some.c d (sym w.in-Some.ensures.there) is in
          ap (λ (n : ℕ). is_among n now.passed) (sym same) ∙ (sym w.has_passed.ensures ∙ w.if-has_passed.false)))
      | in_default w ↦ subst (λ (l : Line). ArePassedBackBelow (i + 1) old l) (sym w.self-is)
          (passed-back-stays i old now c.loop-place.invariant (λ d is. absurd (w.in_default.not-Some d (c.seated.ensures.there ∙ is))))
    ] where
      one : (o : Option ℕ) (a b : ℕ) → o ≡ Some a → o ≡ Some b → a ≡ b
      one o a b x y = cc

pub returns : goal.returns
returns c =
    let i = c.self.inside in
    let start = line_of i.seats.entries i.places.slots i.holder in
    let o = orderly-seated i.seats.entries i.places.slots i.in_line i.holder c.self.invariant in
    let back = subst (λ (l : Line). ArePassedBackBelow c.loop-place.place l c.loop-place.self) (sym c.self.view_is) c.loop-place.invariant in
    passed-back-all c.loop-place.place start c.loop-place.self o back
    (λ d is. let (k, below, there) = c.seats-place-end.ensures d (sym (ap (is_in d) c.self.view_is) ∙ is) in
    (k, omega arith, ap (λ (l : Line). consumer_at l k) c.self.view_is ∙ there))
    ∙ ap passed_back c.self.view_is
