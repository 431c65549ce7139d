-- What `offer` answers, and that the clients still agree, in each of its cases.
--
-- One client is offered what it is owed, so its row changes and no other. Where the wire fails, something is still
-- owed, so it is neither to be read nor settled (`owed-not-ready`, `owed-not-settled`). Where it is over it is to be
-- closed, and leaves (`offered-over`). Else it is listed if its next request is due, and the wire is told whether it is
-- read. Whoever is settled then isn't touched any more. The answers join what the calls said.
use Rattle.std.proofs.Common.{◌≡◌, List, Bool, true, false, None, Some, ℕ, refl, sym, ap, ◌∙◌, rules}
use Rattle.hc_peers.specs.{declared.client.Client.{Client}, Offering.{sent_more}, Agreement.{consumer_at, ready_at, settled_at}, Peers.{is_settled, is_idle}}
use Rattle.hc_peers.proofs.{Changes.{changed-hash, changed-set, changed-by, changed-none, by-changed}, ClientTables.{live-kept, ready-now, touched-now}, Offered.{offered-over, offered-stays}, Rows.{owed-not-ready, owed-not-settled, closing-not-ready, closing-not-settled, over-closing, settled-still, settled-sent}}
use Rattle.hc_peers.proofs.clients.Clients.offer.Goals as goal

pub invariant_of-self-in-Break-1 : goal.invariant_of-self-in-Break-1
invariant_of-self-in-Break-1 g c =
    let s = c.args.self.now in
    let k = c.args.k in
    let client = c.in-Some.client.now in
    let w : Client = record client { unsent = c.offer.new.self } in
    let now = c.get_mut.follows.lender w in
    let was = c.in-Some.ensures.value in
    let change = changed-hash k (Some w) s.rows now ((c.get_mut.follows.holds w).3 (search rules)) in
    record {
      alive = live-kept s.rows now k (Some w) change s.live s.live s.alive (ap consumer_at was) (λ d. refl);
      due = ready-now s.rows now k (Some w) change s.ready s.ready s.due
          (changed-none k _ _ (s.due k ∙
          (sym (ap ready_at was) ∙ (owed-not-ready client c.in_err-offer.ensures.some ∙ sym (owed-not-ready w c.in_err-offer.ensures.left)))));
      unsettled = touched-now s.rows now k (Some w) change s.touched s.touched s.unsettled (λ j ne off. off)
          (λ off. absurd (let on = ap settled_at was ∙ s.unsettled k off in let not_so = owed-not-settled client c.in_err-offer.ensures.some in cc));
    }

pub invariant_of-self-then-is_over : goal.invariant_of-self-then-is_over
invariant_of-self-then-is_over g c =
    let s = c.args.self.now in
    let k = c.args.k in
    let client = c.in-Some.client.now in
    let w : Client = record client { unsent = c.offer.new.self } in
    let now = c.get_mut.follows.lender w in
    let was = c.in-Some.ensures.value in
    let change = changed-hash k (Some w) s.rows now ((c.get_mut.follows.holds w).3 (search rules)) in
    let closes : client.closing ≡ true = over-closing w (sym c.is_over.ensures ∙ c.if-is_over.true) in
    record {
      alive = live-kept s.rows now k (Some w) change s.live s.live s.alive (ap consumer_at was) (λ d. refl);
      due = ready-now s.rows now k (Some w) change s.ready s.ready s.due
          (changed-none k _ _ (s.due k ∙ (sym (ap ready_at was) ∙ (closing-not-ready client closes ∙ sym (closing-not-ready w closes)))));
      unsettled = touched-now s.rows now k (Some w) change s.touched s.touched s.unsettled (λ j ne off. off)
          (λ off. absurd (let on = ap settled_at was ∙ s.unsettled k off in let not_so = closing-not-settled client closes in cc));
    }

pub returns-then-is_over-clause-ok : goal.returns-then-is_over-clause-ok
returns-then-is_over-clause-ok g c =
    let s = c.args.self.now in
    let k = c.args.k in
    let client = c.in-Some.client.now in
    let w : Client = record client { unsent = c.offer.new.self } in
    let now = c.get_mut.follows.lender w in
    let change = changed-hash k (Some w) s.rows now ((c.get_mut.follows.holds w).3 (search rules)) in
    let gone = changed-by k None _ _ c.leave.ensures.gone in
    offered-over g.W.Wire.stages g.W.Wire.log k client c.offer.new.self s c.leave.new.self c.args.wire.now c.offer.new.wire c.close.new.self
    c.in_ok-offer.ensures.ok c.in_ok-offer.ensures.stages (sym c.in-Some.ensures.value) (sym c.is_over.ensures ∙ c.if-is_over.true)
    (by-changed k None _ _ (record { here = gone.here; apart = λ j ne. gone.apart j ne ∙ change.apart j ne })) c.close.ensures.log c.close.ensures.stages

pub invariant_of-self-in_default-list_ready : goal.invariant_of-self-in_default-list_ready
invariant_of-self-in_default-list_ready g c =
    let s = c.args.self.now in
    let k = c.args.k in
    let client = c.in-Some.client.now in
    let w = c.list_ready.new.client in
    let now = c.get_mut.follows.lender w in
    let was = c.in-Some.ensures.value in
    let change = changed-hash k (Some w) s.rows now ((c.get_mut.follows.holds w).3 (search rules)) in
    let others = c.list_ready.ensures.others in
    let sent = c.in_ok-offer.ensures.ok in
    record {
      alive = live-kept s.rows now k (Some w) change s.live s.live s.alive (ap (λ (x : Client). consumer_at (Some x)) others ∙ ap consumer_at was) (λ d. refl);
      due = ready-now s.rows now k (Some w) change s.ready c.list_ready.new.ready s.due (changed-by k _ _ _ c.list_ready.ensures.listed);
      unsettled = touched-now s.rows now k (Some w) change s.touched s.touched s.unsettled (λ j ne off. off)
          (λ off. ap (λ (x : Client). settled_at (Some x)) others ∙
          settled-sent client c.offer.new.self sent.n sent.left (ap settled_at was ∙ s.unsettled k off));
    }

pub invariant_of-self-then-is_settled : goal.invariant_of-self-then-is_settled
invariant_of-self-then-is_settled g c =
    let s = c.args.self.now in
    let k = c.args.k in
    let l = c.list_ready.new.client in
    let w : Client = record l { reading = c.report_reading.new.reading } in
    let now = c.get_mut.follows.lender w in
    let was = c.in-Some.ensures.value in
    let change = changed-hash k (Some w) s.rows now ((c.get_mut.follows.holds w).3 (search rules)) in
    let others = c.list_ready.ensures.others in
    let less = changed-set k false s.touched c.remove.new.self c.remove.ensures.updates in
    record {
      alive = live-kept s.rows now k (Some w) change s.live s.live s.alive (ap (λ (x : Client). consumer_at (Some x)) others ∙ ap consumer_at was) (λ d. refl);
      due = ready-now s.rows now k (Some w) change s.ready c.list_ready.new.ready s.due (changed-by k _ _ _ c.list_ready.ensures.listed);
      unsettled = touched-now s.rows now k (Some w) change s.touched c.remove.new.self s.unsettled (λ j ne off. sym (less.apart j ne) ∙ off)
          (λ off. sym c.is_settled.ensures ∙ c.if-is_settled.true);
    }

pub invariant_of-self-else-is_settled : goal.invariant_of-self-else-is_settled
invariant_of-self-else-is_settled g c =
    let s = c.args.self.now in
    let k = c.args.k in
    let client = c.in-Some.client.now in
    let l = c.list_ready.new.client in
    let w : Client = record l { reading = c.report_reading.new.reading } in
    let now = c.get_mut.follows.lender w in
    let was = c.in-Some.ensures.value in
    let change = changed-hash k (Some w) s.rows now ((c.get_mut.follows.holds w).3 (search rules)) in
    let others = c.list_ready.ensures.others in
    let sent = c.in_ok-offer.ensures.ok in
    let reported : c.report_reading.new.reading ≡ is_idle l = c.report_reading.ensures.reading ∙ c.is_idle-on.ensures in
    let as_sent : l ≡ sent_more sent.n client = c.in-Ok.ensures.ok ∙ ap (λ (u : List ℕ). let x : Client = record client { unsent = u } in x) sent.left in
    record {
      alive = live-kept s.rows now k (Some w) change s.live s.live s.alive (ap (λ (x : Client). consumer_at (Some x)) others ∙ ap consumer_at was) (λ d. refl);
      due = ready-now s.rows now k (Some w) change s.ready c.list_ready.new.ready s.due (changed-by k _ _ _ c.list_ready.ensures.listed);
      unsettled = touched-now s.rows now k (Some w) change s.touched s.touched s.unsettled (λ j ne off. off)
          (λ off. absurd (
          let still = settled-still client l sent.n as_sent (ap settled_at was ∙ s.unsettled k off) in
          let on : is_settled w ≡ true = ap (λ (r : Bool). is_settled (record l { reading = r })) reported ∙ still in
          let not_so : is_settled w ≡ false = sym c.is_settled.ensures ∙ c.if-is_settled.false in
          cc));
    }

pub returns-then-is_settled-clause-ok : goal.returns-then-is_settled-clause-ok
returns-then-is_settled-clause-ok g c =
    let s = c.args.self.now in
    let k = c.args.k in
    let client = c.in-Some.client.now in
    let l = c.list_ready.new.client in
    let w : Client = record l { reading = c.report_reading.new.reading } in
    let now = c.get_mut.follows.lender w in
    let change = changed-hash k (Some w) s.rows now ((c.get_mut.follows.holds w).3 (search rules)) in
    let x : Client = record client { unsent = c.offer.new.self } in
    let same : l ≡ x = c.in-Ok.ensures.ok in
    let idle = c.is_idle-on.ensures ∙ ap is_idle same in
    let read = ap (λ (y : Client). y.reading) same in
    let is : Some w ≡ Some (record x { reading = c.is_idle-on.result }) = rw (same, c.report_reading.ensures.reading) refl in
    offered-stays g.W.Wire.stages g.W.Wire.log k client c.offer.new.self s _ c.args.wire.now c.offer.new.wire c.report_reading.new.wire
    c.in_ok-offer.ensures.ok c.in_ok-offer.ensures.stages (sym c.in-Some.ensures.value) c.is_idle-on.result (sym c.is_over.ensures ∙ c.if-is_over.false) idle
    (by-changed k _ _ _ (record { here = change.here ∙ is; apart = change.apart }))
    (rw read at c.report_reading.ensures.log) (rw read at c.report_reading.ensures.stages)

pub returns-else-is_settled-clause-ok : goal.returns-else-is_settled-clause-ok
returns-else-is_settled-clause-ok g c =
    let s = c.args.self.now in
    let k = c.args.k in
    let client = c.in-Some.client.now in
    let l = c.list_ready.new.client in
    let w : Client = record l { reading = c.report_reading.new.reading } in
    let now = c.get_mut.follows.lender w in
    let change = changed-hash k (Some w) s.rows now ((c.get_mut.follows.holds w).3 (search rules)) in
    let x : Client = record client { unsent = c.offer.new.self } in
    let same : l ≡ x = c.in-Ok.ensures.ok in
    let idle = c.is_idle-on.ensures ∙ ap is_idle same in
    let read = ap (λ (y : Client). y.reading) same in
    let is : Some w ≡ Some (record x { reading = c.is_idle-on.result }) = rw (same, c.report_reading.ensures.reading) refl in
    offered-stays g.W.Wire.stages g.W.Wire.log k client c.offer.new.self s _ c.args.wire.now c.offer.new.wire c.report_reading.new.wire
    c.in_ok-offer.ensures.ok c.in_ok-offer.ensures.stages (sym c.in-Some.ensures.value) c.is_idle-on.result (sym c.is_over.ensures ∙ c.if-is_over.false) idle
    (by-changed k _ _ _ (record { here = change.here ∙ is; apart = change.apart }))
    (rw read at c.report_reading.ensures.log) (rw read at c.report_reading.ensures.stages)
