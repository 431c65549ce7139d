use Rattle.std.proofs.Common.{◌≡◌, ℕ, false, length}
use Rattle.hc_origin.specs.Replies.{Sends}
use Rattle.hc_origin.proofs.reply.Reply.send.Given as goal

abbrev pub invariant-loop-self : goal.invariant-loop-self
invariant-loop-self g l = Sends (g.W.Wire.log l.fn.wire) (g.W.Wire.log l.wire) l.fn.self.k l.fn.self.bytes l.self.bytes false × (l.self.k ≡ l.fn.self.k)
    × ((j : ℕ) → g.W.Wire.stages l.wire j ≡ g.W.Wire.stages l.fn.wire j) × (g.W.Wire.faults l.wire ≡ g.W.Wire.faults l.fn.wire)

abbrev pub decreases-loop-self : goal.decreases-loop-self
decreases-loop-self g l = length l.self.bytes
