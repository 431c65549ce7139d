use Rattle.std.proofs.Common.{◌≡◌, ◌∙◌, ◌++◌, ap, ℕ, List}
use Rattle.hc_peers.specs.Clients.{touched_of}
use Rattle.hc_proxy.proofs.OfferedAll.{clients_begin, fails_here}
use Rattle.hc_proxy.proofs.proxy.Proxy.send_clients.Goals as goal
use Rattle.hc_record.proofs.JoiningLemmas.{on_err}

pub returns-in_err-list_touched-clause-err : goal.returns-in_err-list_touched-clause-err
returns-in_err-list_touched-clause-err g c =
    λ p log has follows. on_err c.from_residual.result _ (fails_here p log (g.W.Wire.log c.args.wire.now) follows.reported_is)

pub returns-clause-ok : goal.returns-clause-ok
returns-clause-ok g c = λ p log has follows.
    let listed : c.as_slice.result.now ≡ touched_of c.args.self.now.clients =
    c.as_slice.ensures.value ∙ (c.in_ok-list_touched.ensures.listed ∙ ap (λ (ks : List ℕ). ks ++ touched_of c.args.self.now.clients) c.clear.ensures.items) in
    c.offer_clients.ensures.ok p log c.args.self.now.upstreams
    (clients_begin p log c.args.self.now.upstreams c.args.self.now.clients (g.W.Wire.log c.args.wire.now) (g.W.Wire.stages c.args.wire.now)
    c.as_slice.result.now listed c.in_ok-list_touched.ensures.settled has follows)

pub returns-clause-err : goal.returns-clause-err
returns-clause-err g c = λ p log has follows.
    let listed : c.as_slice.result.now ≡ touched_of c.args.self.now.clients =
    c.as_slice.ensures.value ∙ (c.in_ok-list_touched.ensures.listed ∙ ap (λ (ks : List ℕ). ks ++ touched_of c.args.self.now.clients) c.clear.ensures.items) in
    c.offer_clients.ensures.err p log c.args.self.now.upstreams
    (clients_begin p log c.args.self.now.upstreams c.args.self.now.clients (g.W.Wire.log c.args.wire.now) (g.W.Wire.stages c.args.wire.now)
    c.as_slice.result.now listed c.in_ok-list_touched.ensures.settled has follows)
