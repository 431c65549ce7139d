use Rattle.std.{proofs.Common.{◌≡◌, ◌≤◌, length, sym, ap, ◌∙◌, arith}, specs.Prelude.{min}}
use Rattle.hc_exch.proofs.PieceLemmas.{IsCounted-take, take-min, drop-min, length-view}
use Rattle.hc_exch.proofs.held.Held.take.Goals as goal

-- what is wanted of what is left
count_is : (c : goal.After-self-2-1) → c.min-count.result ≡ min c.args.want (length c.args.self.now)
count_is c =
    c.min-count.ensures ∙ ap (λ k. min c.args.want k)
    (sym (length-view c.self.inside.pieces.items c.self.inside.read c.self.inside.len c.self.invariant) ∙ ap length c.self.view_is)

pub invariant_of-self-2 : goal.invariant_of-self-2
invariant_of-self-2 c =
    let few : c.min-count.result ≤ c.self.inside.len = let h = c.min-count.ensures in omega arith in
    IsCounted-take c.self.inside.pieces.items _ c.self.inside.read c.self.inside.len c.min-count.result _ _ c.self.invariant few c.in_ok-bytes.ensures.ok

pub returns-clause-bytes : goal.returns-clause-bytes
returns-clause-bytes c =
    c.in_ok-bytes.ensures.ok.bytes ∙ rw (c.self.view_is, count_is c) (take-min c.args.self.now c.args.want)

pub returns-clause-ok : goal.returns-clause-ok
returns-clause-ok c =
    c.in_ok-bytes.ensures.ok.rest ∙ rw (c.self.view_is, count_is c) (drop-min c.args.self.now c.args.want)
