use Rattle.std.proofs.Common.{◌≡◌, ℕ, ◌+◌, ◌/◌, ◌<◌, ◌≤◌, length}
use Rattle.hc_entry.specs.Tournaments.{at, IsPlayedBut}
use Rattle.hc_entry.proofs.tournament.replay.Given as goal

abbrev pub invariant-loop-node : goal.invariant-loop-node
invariant-loop-node l = record {
  within : l.node < length l.nodes;
  same_length : length l.nodes ≡ length l.fn.nodes;
  played : IsPlayedBut (l.node / 2) l.nodes;
  places : (k : ℕ) → length l.fn.nodes ≤ k + k → at l.nodes k ≡ at l.fn.nodes k;
}

abbrev pub decreases-loop-node : goal.decreases-loop-node
decreases-loop-node l = l.node
