use Rattle.std.{proofs.Common.{◌≡◌, Bool, true, false, length, None, refl, sym, ap, ◌∙◌}, specs.Bool.{OnTrue}}
use Rattle.hc_entry.specs.Lines.{Line, is_empty}
use Rattle.hc_entry.proofs.StandLemmas.{empty-seats, test-zero, free-seats, no-entries}
use Rattle.hc_entry.proofs.line.KeyLine.is_empty.Goals as goal

pub returns-clause-value : goal.returns-clause-value
returns-clause-value c =
    let i = c.self.inside in
    test-zero c.is_empty.result (length i.seats.entries) c.is_empty.ensures.0 c.is_empty.ensures.1
    ∙ (empty-seats i.seats.entries i.places.slots i.holder ∙ ap is_empty c.self.view_is)

pub returns-clause-free : goal.returns-clause-free
returns-clause-free c = free c.is_empty.result refl where
  free : (b : Bool) → c.is_empty.result ≡ b → OnTrue b (c.args.self.now.holder ≡ None)
  free true on =
      let i = c.self.inside in
      sym (ap (λ (l : Line). l.holder) c.self.view_is) ∙
      free-seats i.seats.entries i.holder (no-entries i.seats.entries (c.is_empty.ensures.0 on)) c.self.invariant.holds
  free false off = tt
