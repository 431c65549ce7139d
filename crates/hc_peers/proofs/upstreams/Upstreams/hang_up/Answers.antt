use Rattle.std.proofs.Common.{None, false}
use Rattle.hc_peers.proofs.{Changes.{changed-hash, changed-set}, UpstreamTables.{dialled-gone, there-gone}}
use Rattle.hc_peers.proofs.upstreams.Upstreams.hang_up.Goals as goal

pub invariant_of-self-2 : goal.invariant_of-self-2
invariant_of-self-2 c =
    let s = c.args.self.now in
    let x = c.args.x in
    let u = c.in_ok-upstream.upstream in
    let change = changed-hash x None s.rows c.remove-3.new.self c.remove-3.ensures.updates in
    record {
      inverse = dialled-gone s.rows c.remove-3.new.self s.dialled c.remove-4.new.self x u c.in_ok-upstream.ensures.value change
          (changed-hash u.k None s.dialled c.remove-4.new.self c.remove-4.ensures.updates) s.inverse;
      there = there-gone s.rows c.remove-3.new.self s.news c.remove.new.self x None change
          (changed-set x false s.news c.remove.new.self c.remove.ensures.updates) s.there;
    }
