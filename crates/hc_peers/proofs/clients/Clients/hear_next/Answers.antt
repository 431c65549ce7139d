-- That the clients still agree where `hear_next` ends, and what it answers for a request or for bad bytes.
--
-- One client is read, and leaves those that are to be read. Each case says that the lists agree with the rows again:
-- who is live, whose next request is due, and who isn't settled. Where nothing stands next, or memory is refused,
-- nothing is left of what came, so nothing is due (`empty-not-ready`). Where a request is asked for, its consumer is
-- new (`live-new`), since no client had it. The client whose bytes are bad is touched before it is refused.
use Rattle.std.{proofs.Common.{◌≡◌, true, false, Some, refl, sym, ap, ◌∙◌, rules}, specs.{Prelude.{nat_eq}, Ordering.{nat_cmp}}}
use Rattle.std.specs.HashMap as hash
use Rattle.std.specs.BTreeSet as set
use Rattle.hc_text.proofs.Basics.{falls as not-before}
use Rattle.hc_msg.specs.Inputs.{next_in}
use Rattle.hc_peers.specs.{declared.client.Client.{Client}, Agreement.{consumer_at, ready_at, settled_at}, Clients.{somebody, hearing}}
use Rattle.hc_peers.proofs.{Changes.{changed-hash, changed-set, changed-by, by-changed, set-unchanged}, ClientTables.{live-kept, live-new, ready-now, touched-now}, Rows.{empty-not-ready, closing-not-ready, ready-consumer, none-left, some-heard, error-heard, nobody-at}}
use Rattle.hc_peers.proofs.clients.Clients.hear_next.Goals as goal

pub invariant_of-self-in-Ok-None : goal.invariant_of-self-in-Ok-None
invariant_of-self-in-Ok-None c =
    let s = c.args.self.now in
    let k = c.in-Some.k in
    let w = c.read.new.self in
    let now = c.get_mut.follows.lender w in
    let was = c.in-Some-get_mut.ensures.value in
    let change = changed-hash k (Some w) s.rows now ((c.get_mut.follows.holds w).3 (search rules)) in
    let popped = changed-set k false s.ready c.pop_first.new.self c.in-Some.ensures.updates in
    let others = c.in-Ok-None.ensures.others in
    let empty = none-left c.args.front c.in-Some-get_mut.client.now w (rw c.in-Ok-None.field-0-is at c.in-Ok-None.ensures.reads) in
    record {
      alive = live-kept s.rows now k (Some w) change s.live s.live s.alive (ap (λ (x : Client). consumer_at (Some x)) others ∙ ap consumer_at was) (λ d. refl);
      due = ready-now s.rows now k (Some w) change s.ready c.pop_first.new.self s.due
          (record { here = popped.here ∙ sym (empty-not-ready w empty); apart = popped.apart });
      unsettled = touched-now s.rows now k (Some w) change s.touched s.touched s.unsettled (λ j ne off. off)
          (λ off. ap (λ (x : Client). settled_at (Some x)) others ∙ (ap settled_at was ∙ s.unsettled k off));
    }

pub invariant_of-self-in-Err-list_live : goal.invariant_of-self-in-Err-list_live
invariant_of-self-in-Err-list_live c =
    let s = c.args.self.now in
    let k = c.in-Some.k in
    let r = c.read.new.self in
    let w : Client = record r { input = c.clear.new.self } in
    let now = c.get_mut.follows.lender w in
    let was = c.in-Some-get_mut.ensures.value in
    let change = changed-hash k (Some w) s.rows now ((c.get_mut.follows.holds w).3 (search rules)) in
    let popped = changed-set k false s.ready c.pop_first.new.self c.in-Some.ensures.updates in
    let others = c.in-Ok-Some.ensures.others in
    record {
      alive = live-kept s.rows now k (Some w) change s.live c.list_live.new.live s.alive
          (ap (λ (x : Client). consumer_at (Some x)) others ∙ ap consumer_at was) c.in-Err-list_live.ensures.err;
      due = ready-now s.rows now k (Some w) change s.ready c.pop_first.new.self s.due
          (record { here = popped.here ∙ sym (empty-not-ready w c.clear.ensures); apart = popped.apart });
      unsettled = touched-now s.rows now k (Some w) change s.touched c.list_live.new.touched s.unsettled
          (λ j ne off. not-before (set.contains nat_cmp s.touched j) (set.contains nat_cmp c.list_live.new.touched j) (c.list_live.ensures.more j) off)
          (λ off. ap (λ (x : Client). settled_at (Some x)) others ∙ (ap settled_at was
          ∙ s.unsettled k (not-before (set.contains nat_cmp s.touched k) (set.contains nat_cmp c.list_live.new.touched k) (c.list_live.ensures.more k) off)));
    }

pub invariant_of-self-in-Ok-Some : goal.invariant_of-self-in-Ok-Some
invariant_of-self-in-Ok-Some c =
    let s = c.args.self.now in
    let k = c.in-Some.k in
    let w = c.ask.new.self in
    let now = c.get_mut.follows.lender w in
    let change = changed-hash k (Some w) s.rows now ((c.get_mut.follows.holds w).3 (search rules)) in
    let popped = changed-set k false s.ready c.pop_first.new.self c.in-Some.ensures.updates in
    let none = ready-consumer (hash.get nat_eq s.rows k) (sym (s.due k) ∙ c.in-Some.ensures.member) in
    record {
      alive = live-new s.rows now k (Some w) change c.args.c s.live c.list_live.new.live s.alive
          (changed-by c.args.c (Some k) _ _ c.in_default-list_live.ensures.ok) none
          (ap (λ (x : Client). consumer_at (Some x)) c.ask.ensures) (λ j. nobody-at c.args.c (hash.get nat_eq s.rows j) (λ x is. c.requires j x is));
      due = ready-now s.rows now k (Some w) change s.ready c.pop_first.new.self s.due
          (record { here = popped.here ∙ sym (ap (λ (x : Client). ready_at (Some x)) c.ask.ensures); apart = popped.apart });
      unsettled = touched-now s.rows now k (Some w) change s.touched c.list_live.new.touched s.unsettled
          (λ j ne off. not-before (set.contains nat_cmp s.touched j) (set.contains nat_cmp c.list_live.new.touched j) (c.list_live.ensures.more j) off)
          (λ off. absurd (let on = c.in_default-list_live.ensures.touched in cc));
    }

pub invariant_of-self-in-NoMemory : goal.invariant_of-self-in-NoMemory
invariant_of-self-in-NoMemory c =
    let s = c.args.self.now in
    let k = c.in-Some.k in
    let w = c.read.new.self in
    let now = c.get_mut.follows.lender w in
    let was = c.in-Some-get_mut.ensures.value in
    let change = changed-hash k (Some w) s.rows now ((c.get_mut.follows.holds w).3 (search rules)) in
    let popped = changed-set k false s.ready c.pop_first.new.self c.in-Some.ensures.updates in
    let others = c.in-Err.ensures.others in
    record {
      alive = live-kept s.rows now k (Some w) change s.live s.live s.alive (ap (λ (x : Client). consumer_at (Some x)) others ∙ ap consumer_at was) (λ d. refl);
      due = ready-now s.rows now k (Some w) change s.ready c.pop_first.new.self s.due
          (record { here = popped.here ∙ sym (empty-not-ready w c.in-Err.ensures.err); apart = popped.apart });
      unsettled = touched-now s.rows now k (Some w) change s.touched s.touched s.unsettled (λ j ne off. off)
          (λ off. ap (λ (x : Client). settled_at (Some x)) others ∙ (ap settled_at was ∙ s.unsettled k off));
    }

pub invariant_of-self-in-Break-1 : goal.invariant_of-self-in-Break-1
invariant_of-self-in-Break-1 c =
    let s = c.args.self.now in
    let k = c.in-Some.k in
    let w = c.read.new.self in
    let now = c.get_mut.follows.lender w in
    let was = c.in-Some-get_mut.ensures.value in
    let change = changed-hash k (Some w) s.rows now ((c.get_mut.follows.holds w).3 (search rules)) in
    let popped = changed-set k false s.ready c.pop_first.new.self c.in-Some.ensures.updates in
    let others = c.in-Err.ensures.others in
    let still = set-unchanged s.touched c.insert.new.self c.in_err-insert-in_default-e.ensures.err in
    record {
      alive = live-kept s.rows now k (Some w) change s.live s.live s.alive (ap (λ (x : Client). consumer_at (Some x)) others ∙ ap consumer_at was) (λ d. refl);
      due = ready-now s.rows now k (Some w) change s.ready c.pop_first.new.self s.due
          (record { here = popped.here ∙ sym (empty-not-ready w c.in-Err.ensures.err); apart = popped.apart });
      unsettled = touched-now s.rows now k (Some w) change s.touched c.insert.new.self s.unsettled (λ j ne off. sym (still j) ∙ off)
          (λ off. ap (λ (x : Client). settled_at (Some x)) others ∙ (ap settled_at was ∙ s.unsettled k (sym (still k) ∙ off)));
    }

pub invariant_of-self-in_default-e : goal.invariant_of-self-in_default-e
invariant_of-self-in_default-e c =
    let s = c.args.self.now in
    let k = c.in-Some.k in
    let w = c.refuse.new.self in
    let now = c.get_mut.follows.lender w in
    let was = c.in-Some-get_mut.ensures.value in
    let change = changed-hash k (Some w) s.rows now ((c.get_mut.follows.holds w).3 (search rules)) in
    let popped = changed-set k false s.ready c.pop_first.new.self c.in-Some.ensures.updates in
    let others = c.in-Err.ensures.others in
    let more = changed-set k true s.touched c.insert.new.self c.in_ok-insert-in_default-e.ensures.updates in
    record {
      alive = live-kept s.rows now k (Some w) change s.live s.live s.alive
          (c.refuse.ensures.consumer ∙ (ap (λ (x : Client). consumer_at (Some x)) others ∙ ap consumer_at was)) (λ d. refl);
      due = ready-now s.rows now k (Some w) change s.ready c.pop_first.new.self s.due
          (record { here = popped.here ∙ sym (closing-not-ready w c.refuse.ensures.closing); apart = popped.apart });
      unsettled = touched-now s.rows now k (Some w) change s.touched c.insert.new.self s.unsettled (λ j ne off. sym (more.apart j ne) ∙ off)
          (λ off. absurd (let on = more.here in cc));
    }

pub returns-in_default-list_live : goal.returns-in_default-list_live
returns-in_default-list_live c =
    let s = c.args.self.now in
    let k = c.in-Some.k in
    let client = c.in-Some-get_mut.client.now in
    let w = c.ask.new.self in
    let now = c.get_mut.follows.lender w in
    let change = changed-hash k (Some w) s.rows now ((c.get_mut.follows.holds w).3 (search rules)) in
    let h = some-heard c.args.c k c.args.front client c.read.new.self c.in-Ok-Some.asking (rw c.in-Ok-Some.field-0-is at c.in-Ok-Some.ensures.reads) in
    let is : Some w ≡ Some (hearing c.args.c c.args.front (next_in 1 client.reader client.input) client) = ap Some (c.ask.ensures ∙ h.0) in
    somebody (record {
      k = k;
      rest = c.pop_first.new.self.keys;
      client = client;
      first = c.in-Some.ensures.removal;
      row = sym c.in-Some-get_mut.ensures.value;
      others = refl;
      becomes = by-changed k _ _ _ (record { here = change.here ∙ is; apart = change.apart });
      result_is = h.1;
    })

pub returns-in_ok-refuse-in_default-e : goal.returns-in_ok-refuse-in_default-e
returns-in_ok-refuse-in_default-e c =
    let s = c.args.self.now in
    let k = c.in-Some.k in
    let client = c.in-Some-get_mut.client.now in
    let w = c.refuse.new.self in
    let now = c.get_mut.follows.lender w in
    let change = changed-hash k (Some w) s.rows now ((c.get_mut.follows.holds w).3 (search rules)) in
    let h = error-heard c.args.c k c.args.front client c.read.new.self c.in-Err.e c.in_default-e.not-NoMemory c.in-Err.ensures.reads in
    let is : Some w ≡ Some (hearing c.args.c c.args.front (next_in 1 client.reader client.input) client) =
    ap Some (c.in_ok-refuse-in_default-e.ensures.ok ∙ h.0) in
    somebody (record {
      k = k;
      rest = c.pop_first.new.self.keys;
      client = client;
      first = c.in-Some.ensures.removal;
      row = sym c.in-Some-get_mut.ensures.value;
      others = refl;
      becomes = by-changed k _ _ _ (record { here = change.here ∙ is; apart = change.apart });
      result_is = h.1;
    })
