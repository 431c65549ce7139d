use Rattle.std.proofs.Common.{ℕ, List, subst, sym, not}
use Rattle.hc_event.specs.Filters.{leaves_in}
use Rattle.hc_generate.proofs.OrderLemmas.{AreStarted, AreStarted-filter}
use Rattle.hc_generate.proofs.generator.Generator.hear.Goals as goal

pub invariant_of-self-2 : goal.invariant_of-self-2
invariant_of-self-2 c =
    let P : List ℕ → Type 0 = AreStarted c.self.inside.last in
    record {
      live_rise = c.forget_gone.ensures.ordered;
      live_started = subst P (sym c.forget_gone.ensures.items)
          (AreStarted-filter (λ (n : ℕ). not (leaves_in n c.args.acts.now)) _ _ c.self.invariant.live_started);
      exchanges_rise = c.forget_closed.ensures.ordered;
    }
