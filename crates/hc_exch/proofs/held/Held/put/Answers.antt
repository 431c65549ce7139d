use Rattle.std.proofs.Common.{length, ◌∙◌, ap}
use Rattle.hc_exch.proofs.PieceLemmas.{IsCounted-push, view-push}
use Rattle.hc_exch.proofs.held.Held.put.Goals as goal

pub invariant_of-self-2 : goal.invariant_of-self-2
invariant_of-self-2 c =
    let same = c.in_ok-bytes.ensures.items_if_clones_equal (λ x y e. e) in
    IsCounted-push c.self.inside.pieces.items c.self.inside.read c.self.inside.len c.in_ok-bytes.bytes.items _ _ c.self.invariant
    (rw c.of.ensures at c.in_ok-push_back.ensures.items) (ap length same)

pub returns-clause-ok : goal.returns-clause-ok
returns-clause-ok c =
    let same = c.in_ok-bytes.ensures.items_if_clones_equal (λ x y e. e) in
    view-push c.self.inside.pieces.items c.self.inside.read c.in_ok-bytes.bytes.items _ c.self.invariant.front
    (rw c.of.ensures at c.in_ok-push_back.ensures.items) ∙ rw (same, c.self.view_is)
