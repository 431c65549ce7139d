use Rattle.std.proofs.Common.{◌≡◌, ℕ, ◌<◌, take}
use Rattle.hc_wire.specs.{Events.{Unseen}, Logs.{stage_in}}
use Rattle.hc_wire.proofs.connection.greatest_in.Given as goal

abbrev pub invariant-loop-c : goal.invariant-loop-c
invariant-loop-c l = record {
  above : (k : ℕ) → l.greatest < k → stage_in (take l.c-index l.connections) k ≡ Unseen;
  least : stage_in (take l.c-index l.connections) l.greatest ≡ Unseen → l.greatest ≡ 0;
}
