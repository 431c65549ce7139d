use Rattle.std.proofs.Common.{◌≡◌, ◌≤◌, ◌<◌, length, refl, arith}
use Rattle.hc_proxy.specs.Handling.{clients_here}
use Rattle.hc_proxy.proofs.{ClientComes.{refused_goes, come_goes, count_here}, EventComes.{come_free}}
use Rattle.hc_proxy.proofs.proxy.Proxy.client_comes.Goals as goal

pub come-requires : goal.come-requires
come-requires g c = come_free c.args.self.now c.args.k c.requires.begun _ refl

pub returns-then-len-ge-MOST_CLIENTS-clause-goes : goal.returns-then-len-ge-MOST_CLIENTS-clause-goes
returns-then-len-ge-MOST_CLIENTS-clause-goes g c t p slice b =
    let count : c.len.result ≡ length (clients_here p) = count_here t c.args.self.now p c.args.k slice b c.len.result c.len.ensures.all in
    let most : 512 ≤ c.len.result = c.if-len-ge-MOST_CLIENTS.true in
    refused_goes t c.args.self.now p c.args.k slice b (record c.args.self.now { closed = c.push.new.self }) c.in_ok-push.ensures.items refl (omega arith)

pub returns-clause-goes : goal.returns-clause-goes
returns-clause-goes g c t p slice b =
    let count : c.len.result ≡ length (clients_here p) = count_here t c.args.self.now p c.args.k slice b c.len.result c.len.ensures.all in
    let fewer : c.len.result < 512 = c.if-len-ge-MOST_CLIENTS.false in
    come_goes t c.args.self.now p c.args.k slice b c.come.new.self c.in_ok-come.ensures (omega arith)
