use Rattle.std.proofs.Common.{None, sym, ap, ◌∙◌, refl}
use Rattle.hc_peers.specs.Agreement.{consumer_at}
use Rattle.hc_peers.proofs.{Changes.{changed-hash, changed-tree, changed-set}, ClientTables.{live-kept, live-gone, ready-now, touched-now}}
use Rattle.hc_peers.proofs.clients.Clients.leave.Goals as goal

pub invariant_of-self-in-Some : goal.invariant_of-self-in-Some
invariant_of-self-in-Some c =
    let s = c.args.self.now in
    let change = changed-hash c.args.k None s.rows c.remove.new.self c.remove.ensures.updates in
    let less = changed-set c.args.k _ s.touched c.remove-3.new.self c.remove-3.ensures.updates in
    record {
      alive = live-gone s.rows c.remove.new.self c.args.k None change c.in-Some.c s.live c.remove-in-Some.new.self s.alive
          (changed-tree c.in-Some.c None s.live c.remove-in-Some.new.self c.remove-in-Some.ensures.updates)
          (sym (ap consumer_at c.in_ok-client.ensures.value) ∙ c.in-Some.is) refl;
      due = ready-now s.rows c.remove.new.self c.args.k None change s.ready c.remove-2.new.self s.due
          (changed-set c.args.k _ s.ready c.remove-2.new.self c.remove-2.ensures.updates);
      unsettled = touched-now s.rows c.remove.new.self c.args.k None change s.touched c.remove-3.new.self s.unsettled
          (λ j ne off. sym (less.apart j ne) ∙ off) (λ off. refl);
    }

pub invariant_of-self-in_default : goal.invariant_of-self-in_default
invariant_of-self-in_default c =
    let s = c.args.self.now in
    let change = changed-hash c.args.k None s.rows c.remove.new.self c.remove.ensures.updates in
    let less = changed-set c.args.k _ s.touched c.remove-3.new.self c.remove-3.ensures.updates in
    record {
      alive = live-kept s.rows c.remove.new.self c.args.k None change s.live s.live s.alive
          (sym (sym (ap consumer_at c.in_ok-client.ensures.value) ∙ c.in_default.is)) (λ d. refl);
      due = ready-now s.rows c.remove.new.self c.args.k None change s.ready c.remove-2.new.self s.due
          (changed-set c.args.k _ s.ready c.remove-2.new.self c.remove-2.ensures.updates);
      unsettled = touched-now s.rows c.remove.new.self c.args.k None change s.touched c.remove-3.new.self s.unsettled
          (λ j ne off. sym (less.apart j ne) ∙ off) (λ off. refl);
    }
