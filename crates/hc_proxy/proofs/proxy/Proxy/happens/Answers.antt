use Rattle.std.proofs.Math.Logic.{∥∥₁_map}
use Rattle.hc_proxy.proofs.HappenGoes.{happens_goes}
use Rattle.hc_proxy.proofs.proxy.Proxy.happens.Goals as goal
use Rattle.hc_peers.proofs.Outcomes.{ok-map}

pub network-requires-clause-stands : goal.network-requires-clause-stands
network-requires-clause-stands g c =
    ∥∥₁_map c.requires.begun (λ s. let h = c.in_ok-handle.ensures.goes s.0 s.1 s.2 in (s.0, h.q, h.keeps))

pub starts-requires-clause-stands : goal.starts-requires-clause-stands
starts-requires-clause-stands g c =
    ∥∥₁_map c.requires.begun (λ s.
    let h = c.in_ok-handle.ensures.goes s.0 s.1 s.2 in
    let n = c.in_ok-network.ensures.goes s.0 h.q h.keeps in
    (s.0, n.q, n.keeps))

pub polls-requires-clause-stands : goal.polls-requires-clause-stands
polls-requires-clause-stands g c =
    ∥∥₁_map c.requires.begun (λ s.
    let h = c.in_ok-handle.ensures.goes s.0 s.1 s.2 in
    let n = c.in_ok-network.ensures.goes s.0 h.q h.keeps in
    let r = c.in_ok-starts.ensures.goes s.0 n.q n.keeps in
    (s.0, r.q, r.keeps))

pub returns-clause-goes : goal.returns-clause-goes
returns-clause-goes g c t p b =
    let h = c.in_ok-handle.ensures.goes t p b in
    let n = c.in_ok-network.ensures.goes t h.q h.keeps in
    let r = c.in_ok-starts.ensures.goes t n.q n.keeps in
    ok-map c.polls.result _ _ (λ l. happens_goes t c.args.self.now c.handle.new.self c.network.new.self c.starts.new.self c.polls.new.self p h n r l)
    (c.polls.ensures.goes t r.q r.keeps)
