use Rattle.std.proofs.Common.{◌≡◌, ℕ, ◌+◌, ◌<◌, ◌≤◌, length, None}
use Rattle.hc_entry.specs.Tournaments.{at}
use Rattle.hc_entry.proofs.tournament.Tournament.grow.Given as goal

abbrev pub invariant-loop-place : goal.invariant-loop-place
invariant-loop-place l = record {
  size : length l.grown ≡ l.places;
  copied : (k : ℕ) → k < l.place → at l.grown k ≡ at l.self-inside.nodes.items (l.self-inside.places + k);
  others : (k : ℕ) → l.place ≤ k → at l.grown k ≡ None;
}
