use Rattle.std.proofs.{Common.{ℕ, ◌*◌, ◌/◌, ◌%◌, ◌^◌, ap}, Math.Nat.{mod-add-mod}}
use Rattle.hc_generate.specs.Draws.{draw_below, state_after_draw}
use Rattle.hc_generate.proofs.draws.Draws.below.Goals as goal

pub returns-clause-number : goal.returns-clause-number
unfolding draw_below state_after_draw
returns-clause-number c = ap (λ (s : ℕ). s / 2 ^ 33 % c.args.n) (mod-add-mod (c.args.self.now.state * 6364136223846793005) (2 ^ 64) 1442695040888963407)

pub returns-clause-state : goal.returns-clause-state
unfolding state_after_draw
returns-clause-state c = mod-add-mod (c.args.self.now.state * 6364136223846793005) (2 ^ 64) 1442695040888963407
