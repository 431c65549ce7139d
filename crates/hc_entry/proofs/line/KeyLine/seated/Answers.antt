use Rattle.std.{proofs.Common.{◌≡◌, ℕ, true, Option, Some, None, sym, ap, ◌∙◌}, specs.Prelude.{IfSome}}
use Rattle.hc_entry.specs.{Tournaments.{at}, Lines.{is_in}}
use Rattle.hc_entry.proofs.SeatLemmas.{seat-in, place-seat}
use Rattle.hc_entry.proofs.line.KeyLine.seated.Goals as goal

pub returns-clause-inside : goal.returns-clause-inside
returns-clause-inside c = inside c.copied.result (c.copied.ensures ∙ c.get.ensures) where
  inside : (o : Option ℕ) → o ≡ at c.self.inside.places.slots c.args.i → IfSome o (λ d. is_in d c.args.self.now ≡ true)
  inside None is = tt
  inside (Some d) is =
      let i = c.self.inside in
      sym (ap (is_in d) c.self.view_is) ∙ (sym (seat-in d i.seats.entries c.self.invariant.distinct)
      ∙ place-seat i.seats.entries i.places.slots i.in_line i.holder c.self.invariant c.args.i d (sym is))
