use Rattle.std.proofs.Common.{ℕ, ◌+◌, List, subst, sym}
use Rattle.hc_generate.proofs.OrderLemmas.{AreStarted, AreStarted-with}
use Rattle.hc_generate.proofs.generator.Generator.start.Goals as goal

pub invariant_of-self-2 : goal.invariant_of-self-2
invariant_of-self-2 c =
    let P : List ℕ → Type 0 = AreStarted (c.self.inside.last + 1) in
    record {
      live_rise = c.in_ok-put_in.ensures.ordered;
      live_started = subst P (sym c.in_ok-put_in.ensures.ok) (AreStarted-with _ _ c.self.invariant.live_started);
      exchanges_rise = c.self.invariant.exchanges_rise;
    }
