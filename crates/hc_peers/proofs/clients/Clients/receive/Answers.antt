use Rattle.std.proofs.Common.{Some, ap, ◌∙◌, refl, rules}
use Rattle.hc_peers.specs.{declared.client.Client.{Client}, Agreement.{consumer_at, settled_at}}
use Rattle.hc_peers.proofs.{Changes.{changed-hash, changed-by}, ClientTables.{live-kept, ready-now, touched-now}}
use Rattle.hc_peers.proofs.clients.Clients.receive.Goals as goal

pub invariant_of-self-2 : goal.invariant_of-self-2
invariant_of-self-2 c =
    let s = c.args.self.now in
    let k = c.args.k in
    let w = c.list_ready.new.client in
    let now = c.get_mut.follows.lender w in
    let change = changed-hash k (Some w) s.rows now ((c.get_mut.follows.holds w).3 (search rules)) in
    let was = c.in-Some.ensures.value in
    record {
      alive = live-kept s.rows now k (Some w) change s.live s.live s.alive
          (ap (λ (x : Client). consumer_at (Some x)) c.list_ready.ensures.others ∙ ap consumer_at was) (λ d. refl);
      due = ready-now s.rows now k (Some w) change s.ready c.list_ready.new.ready s.due (changed-by k _ _ _ c.list_ready.ensures.listed);
      unsettled = touched-now s.rows now k (Some w) change s.touched s.touched s.unsettled (λ j ne off. off)
          (λ off. ap (λ (x : Client). settled_at (Some x)) c.list_ready.ensures.others ∙ (ap settled_at was ∙ s.unsettled k off));
    }
