use Rattle.std.proofs.Common.{ℕ, List, ap, ◌∙◌}
use Rattle.hc_msg.specs.Inputs.{look_of, next_in}
use Rattle.hc_peers.specs.Upstreams.{look_at}
use Rattle.hc_peers.proofs.{Outcomes.{if_ok-map}, Takings.{looks-alike}}
use Rattle.hc_peers.proofs.upstreams.Upstreams.look.Goals as goal

pub returns-in-Some : goal.returns-in-Some
returns-in-Some c =
    let u = c.in-Some.upstream.now in
    if_ok-map c.look.result _ _ (λ found is. is ∙ (ap (λ (i : List ℕ). look_of (next_in 1 u.reader i)) c.rest.ensures
    ∙ (looks-alike 1 16384 u.reader u.input ∙ ap look_at c.in-Some.ensures.value))) c.look.ensures
