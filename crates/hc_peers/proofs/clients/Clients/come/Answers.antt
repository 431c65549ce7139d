use Rattle.std.{proofs.Common.{Some, sym, ap, ◌∙◌, refl}, specs.Prelude.{nat_eq}}
use Rattle.std.specs.HashMap as hash
use Rattle.hc_peers.specs.{declared.client.Client.{Client}, Agreement.{consumer_at, ready_at, settled_at}}
use Rattle.hc_peers.proofs.{Changes.{changed-hash, changed-none, changed-same, hash-unchanged}, ClientTables.{live-kept, ready-now, touched-now}, Outcomes.{either}}
use Rattle.hc_peers.proofs.clients.Clients.come.Goals as goal

pub invariant_of-self : goal.invariant_of-self
invariant_of-self c =
    let s = c.args.self.now in
    let k = c.args.k in
    let now = c.insert.new.self in
    let n = c.new.result in
    either c.insert.result _ _ _ c.insert.ensures.updates c.insert.ensures.err
    (λ up. let change = changed-hash k (Some n) s.rows now up in
    record {
      alive = live-kept s.rows now k (Some n) change s.live s.live s.alive
          (ap (λ (x : Client). consumer_at (Some x)) c.new.ensures ∙ sym (ap consumer_at c.requires)) (λ d. refl);
      due = ready-now s.rows now k (Some n) change s.ready s.ready s.due
          (changed-none k _ _ (s.due k ∙ (ap ready_at c.requires ∙ sym (ap (λ (x : Client). ready_at (Some x)) c.new.ensures))));
      unsettled = touched-now s.rows now k (Some n) change s.touched s.touched s.unsettled (λ j ne off. off)
          (λ off. ap (λ (x : Client). settled_at (Some x)) c.new.ensures);
    })
    (λ same. let change = changed-same k _ _ (hash-unchanged s.rows now same) in
    record {
      alive = live-kept s.rows now k (hash.get nat_eq s.rows k) change s.live s.live s.alive refl (λ d. refl);
      due = ready-now s.rows now k (hash.get nat_eq s.rows k) change s.ready s.ready s.due (changed-none k _ _ (s.due k));
      unsettled = touched-now s.rows now k (hash.get nat_eq s.rows k) change s.touched s.touched s.unsettled (λ j ne off. off) (s.unsettled k);
    })
