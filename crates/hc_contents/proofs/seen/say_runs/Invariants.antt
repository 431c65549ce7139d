use Rattle.std.{proofs.Common.{◌≡◌, ℕ, take, nat_eq}, specs.{Prelude.{◌==◌, ◌||◌}, HashSet.{contains}, List.{list_any}}}
use Rattle.hc_sparse.specs.declared.run.Run.{Run}
use Rattle.hc_contents.proofs.seen.say_runs.Given as goal

abbrev pub invariant-loop-run : goal.invariant-loop-run
invariant-loop-run l = (x : ℕ) → contains nat_eq l.said x ≡ (list_any (λ (run : Run). run.x == x) (take l.run-index l.runs) || contains nat_eq l.initial.said x)
