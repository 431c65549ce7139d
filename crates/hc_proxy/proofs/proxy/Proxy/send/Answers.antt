use Rattle.std.proofs.Common.{refl, []}
use Rattle.hc_proxy.specs.Unsent.{SendsToClients}
use Rattle.hc_proxy.proofs.{OfferedAll.{fails_later}, RestsBehind.{carried_has, cache_kept, sent_both}}
use Rattle.hc_proxy.proofs.proxy.Proxy.send.Goals as goal
use Rattle.hc_peers.proofs.Outcomes.{err-map, ok-map}
use Rattle.hc_record.proofs.JoiningLemmas.{on_err}

pub returns-in_err-send_clients-clause-err : goal.returns-in_err-send_clients-clause-err
returns-in_err-send_clients-clause-err g c = λ t p log keeps on.
    on_err c.from_residual.result _
    (c.in_err-send_clients.ensures.err p log
    (carried_has t c.args.self.now p log (g.W.Wire.log c.args.wire.now) (g.W.Wire.stages c.args.wire.now) keeps on) on.follows)

pub returns-clause-ok : goal.returns-clause-ok
returns-clause-ok g c = λ t p log keeps on.
    let x = c.args.self.now in
    let one = c.send_clients.new.self in
    let s : SendsToClients p log [] one.clients one.upstreams (g.W.Wire.log c.send_clients.new.wire) (g.W.Wire.stages c.send_clients.new.wire) =
    c.in_ok-send_clients.ensures.ok p log (carried_has t x p log (g.W.Wire.log c.args.wire.now) (g.W.Wire.stages c.args.wire.now) keeps on) on.follows in
    ok-map c.send_upstreams.result _ _
    (λ all. sent_both t x p log (g.W.Wire.log c.args.wire.now) (g.W.Wire.stages c.args.wire.now) keeps on one c.send_upstreams.new.self _ _ _ _
    c.in_ok-send_clients.ensures.rest c.send_upstreams.ensures.rest s all)
    (c.send_upstreams.ensures.ok t.frame p s.log' (cache_kept t.frame x one p c.in_ok-send_clients.ensures.rest keeps.cache) s.has (λ k. s.sent k refl)
    s.follows)

pub returns-clause-err : goal.returns-clause-err
returns-clause-err g c = λ t p log keeps on.
    let x = c.args.self.now in
    let one = c.send_clients.new.self in
    let s : SendsToClients p log [] one.clients one.upstreams (g.W.Wire.log c.send_clients.new.wire) (g.W.Wire.stages c.send_clients.new.wire) =
    c.in_ok-send_clients.ensures.ok p log (carried_has t x p log (g.W.Wire.log c.args.wire.now) (g.W.Wire.stages c.args.wire.now) keeps on) on.follows in
    err-map c.send_upstreams.result _ _
    (λ some. fails_later p log s.log' (g.W.Wire.log c.send_upstreams.new.wire) s.sends some)
    (c.send_upstreams.ensures.err t.frame p s.log' (cache_kept t.frame x one p c.in_ok-send_clients.ensures.rest keeps.cache) s.has (λ k. s.sent k refl)
    s.follows)
