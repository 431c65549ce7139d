use Rattle.std.proofs.Common.{ℕ, List, subst, sym, not}
use Rattle.hc_text.specs.Sorted.{is_at, itself}
use Rattle.hc_generate.proofs.OrderLemmas.{AreStarted, AreStarted-filter}
use Rattle.hc_generate.proofs.generator.Generator.cancel.Goals as goal

pub invariant_of-self-2 : goal.invariant_of-self-2
invariant_of-self-2 c =
    let P : List ℕ → Type 0 = AreStarted c.self.inside.last in
    record {
      live_rise = c.leave_out.ensures.ordered;
      live_started = subst P (sym c.leave_out.ensures.items)
          (AreStarted-filter (λ (d : ℕ). not (is_at itself c.in_ok-c.c d)) _ _ c.self.invariant.live_started);
      exchanges_rise = c.self.invariant.exchanges_rise;
    }
