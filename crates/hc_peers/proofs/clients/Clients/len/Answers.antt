use Rattle.std.proofs.Common.{◌∙◌, arith}
use Rattle.hc_peers.proofs.Counting.{all-fits, live-fits, ready-fits}
use Rattle.hc_peers.proofs.clients.Clients.len.Goals as goal

pub returns-clause-all : goal.returns-clause-all
returns-clause-all c = λ ks order each. c.len.ensures.len ∙ all-fits c.args.self.now.rows ks c.len.ensures.unique order each

pub returns-clause-live : goal.returns-clause-live
returns-clause-live c =
    let s = c.args.self.now in
    let few = live-fits s.live s.rows c.len-live.ensures.ordered s.alive in
    let is = c.len.ensures.len in
    omega arith

pub returns-clause-ready : goal.returns-clause-ready
returns-clause-ready c =
    let s = c.args.self.now in
    let few = ready-fits s.ready s.rows c.len-ready.ensures.ordered s.due in
    let is = c.len.ensures.len in
    omega arith

pub returns-clause-live_order : goal.returns-clause-live_order
returns-clause-live_order c = c.len-live.ensures.ordered

pub returns-clause-ready_order : goal.returns-clause-ready_order
returns-clause-ready_order c = c.len-ready.ensures.ordered
