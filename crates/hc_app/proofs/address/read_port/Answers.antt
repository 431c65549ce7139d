use Rattle.std.proofs.Common.{inl, inr, ◌≡◌, ◌⊎◌, ◌<◌}
use Rattle.hc_app.proofs.Addressing.{never_port}
use Rattle.hc_app.proofs.address.read_port.Goals as goal

pub returns-then-n-eq0-clause-none : goal.returns-then-n-eq0-clause-none
returns-then-n-eq0-clause-none c =
    let off : (c.in_ok-n.n ≡ 0) ⊎ (65535 < c.in_ok-n.n) = elim c.then-n-eq0.either [
      | inl zero ↦ inl zero
      | inr more ↦ inr more.1
    ] in
    never_port c.args.text.now c.in_ok-n.n c.in_ok-n.ensures.found off
