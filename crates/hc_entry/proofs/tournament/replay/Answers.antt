use Rattle.std.proofs.Common.{ℕ, ◌/◌, arith, length-set, get_or-set_other, ◌∙◌, None}
use Rattle.hc_entry.proofs.TournamentLemmas.{round-open}
use Rattle.hc_entry.proofs.tournament.replay.Goals as goal

pub loop-node-preserved : goal.loop-node-preserved
loop-node-preserved c =
    let old = c.loop-node.invariant in
    let nodes = c.loop-node.nodes in
    let up : ℕ = c.loop-node.node / 2 in
    let size = length-set nodes up c.lesser_of.result in
    let within = old.within in
    let same = old.same_length in
    let more = c.loop-node-test.true in
    let even = c.requires.even in
    record {
      within = omega arith;
      same_length = omega arith;
      played = rw c.lesser_of.ensures (round-open nodes c.loop-node.node up (omega arith) (omega arith) (omega arith) old.played);
      places = λ k leaf. get_or-set_other nodes up k c.lesser_of.result None (omega arith) ∙ old.places k leaf;
    }
