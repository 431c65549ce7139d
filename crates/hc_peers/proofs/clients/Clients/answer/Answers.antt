use Rattle.std.{proofs.Common.{◌≡◌, true, None, Some, refl, sym, ap, ◌∙◌, rules}, specs.Prelude.{nat_eq}}
use Rattle.std.specs.HashMap as hash
use Rattle.hc_peers.specs.{declared.client.Client.{Client}, Agreement.{consumer_at}, Peers.{addressee}, Renderings.{is_last}, Clients.{answered_in}}
use Rattle.hc_peers.proofs.{Changes.{changed-hash, changed-set, changed-none, changed-by, at-each}, ClientTables.{live-kept, live-answered, ready-now, touched-now}, Outcomes.{ok-map}, Rows.{live-not-ready, answered-here, answered-apart}}
use Rattle.hc_peers.proofs.clients.Clients.answer.Goals as goal

pub returns-in_default-get : goal.returns-in_default-get
returns-in_default-get c = λ j.
    let s = c.args.self.now in
    let to : addressee c.args.act ≡ Some c.in-Some.c = sym c.addressee.ensures ∙ c.in-Some.is in
    sym (answered-apart c.args.act (hash.get nat_eq s.rows j) c.in-Some.c to
    (λ e. absurd (let n : None ≡ Some j = c.in_default-get.ensures.value ∙ s.alive.1 c.in-Some.c j e in cc)))

pub unreachable-requires : goal.unreachable-requires
unreachable-requires c =
    let s = c.args.self.now in
    let who = s.alive.0 c.in-Some.c c.in-Some-get.field-0.now (sym c.in-Some-get.ensures.value) in
    let n : None ≡ Some c.in-Some.c = ap consumer_at c.in_default-get_mut.ensures.value ∙ who in
    cc

pub list_ready-requires : goal.list_ready-requires
list_ready-requires c = λ off.
    let s = c.args.self.now in
    let k = c.in-Some-get.field-0.now in
    let who = s.alive.0 c.in-Some.c k (sym c.in-Some-get.ensures.value) in
    s.due k ∙ live-not-ready (hash.get nat_eq s.rows k) c.in-Some.c who

pub invariant_of-self-in-Break-branch-2 : goal.invariant_of-self-in-Break-branch-2
invariant_of-self-in-Break-branch-2 c =
    let s = c.args.self.now in
    let k = c.in-Some-get.field-0.now in
    let who = s.alive.0 c.in-Some.c k (sym c.in-Some-get.ensures.value) in
    let w = c.answer.new.self in
    let now = c.get_mut.follows.lender w in
    let change = changed-hash k (Some w) s.rows now ((c.get_mut.follows.holds w).3 (search rules)) in
    let kept : consumer_at (Some w) ≡ consumer_at (hash.get nat_eq s.rows k) = c.in_err-answer.ensures.err ∙ ap consumer_at c.in-Some-get_mut.ensures.value in
    let more = changed-set k true s.touched c.insert.new.self c.in_ok-insert.ensures.updates in
    record {
      alive = live-kept s.rows now k (Some w) change s.live s.live s.alive kept (λ d. refl);
      due = ready-now s.rows now k (Some w) change s.ready s.ready s.due
          (changed-none k _ _ (s.due k ∙ (live-not-ready (hash.get nat_eq s.rows k) c.in-Some.c who ∙ sym (live-not-ready (Some w) c.in-Some.c (kept ∙ who)))));
      unsettled = touched-now s.rows now k (Some w) change s.touched c.insert.new.self s.unsettled (λ j ne off. sym (more.apart j ne) ∙ off)
          (λ off. absurd (let on = more.here in cc));
    }

pub invariant_of-self-2 : goal.invariant_of-self-2
invariant_of-self-2 c =
    let s = c.args.self.now in
    let k = c.in-Some-get.field-0.now in
    let who = s.alive.0 c.in-Some.c k (sym c.in-Some-get.ensures.value) in
    let client = c.in-Some-get_mut.client.now in
    let w = c.list_ready.new.client in
    let now = c.get_mut.follows.lender w in
    let change = changed-hash k (Some w) s.rows now ((c.get_mut.follows.holds w).3 (search rules)) in
    let has : client.consumer ≡ Some c.in-Some.c = ap consumer_at c.in-Some-get_mut.ensures.value ∙ who in
    let same : consumer_at (Some w) ≡ c.answer.new.self.consumer = ap (λ (x : Client). x.consumer) c.list_ready.ensures.others in
    let is = ap (λ (x : Client). x.consumer) c.in_ok-answer.ensures.ok in
    let more = changed-set k true s.touched c.insert.new.self c.in_ok-insert.ensures.updates in
    record {
      alive = live-answered s.rows now k (Some w) change c.in-Some.c s.live c.leave_live.new.live s.alive who (is_last c.args.act)
          (same ∙ (rw has at is)) (rw (← same) at c.leave_live.ensures);
      due = ready-now s.rows now k (Some w) change s.ready c.list_ready.new.ready s.due (changed-by k _ _ _ c.list_ready.ensures.listed);
      unsettled = touched-now s.rows now k (Some w) change s.touched c.insert.new.self s.unsettled (λ j ne off. sym (more.apart j ne) ∙ off)
          (λ off. absurd (let on = more.here in cc));
    }

pub returns : goal.returns
returns c =
    let s = c.args.self.now in
    let k = c.in-Some-get.field-0.now in
    let at : hash.get nat_eq s.rows k ≡ Some c.in-Some-get_mut.client.now = sym c.in-Some-get_mut.ensures.value in
    let who = s.alive.0 c.in-Some.c k (sym c.in-Some-get.ensures.value) in
    let w = c.list_ready.new.client in
    let now = c.get_mut.follows.lender w in
    let change = changed-hash k (Some w) s.rows now ((c.get_mut.follows.holds w).3 (search rules)) in
    let to : addressee c.args.act ≡ Some c.in-Some.c = sym c.addressee.ensures ∙ c.in-Some.is in
    let client = c.in-Some-get_mut.client.now in
    let has : client.consumer ≡ Some c.in-Some.c = ap consumer_at (sym at) ∙ who in
    ok-map c.list_ready.result _ _ (λ same. at-each (λ j. hash.get nat_eq now j ≡ answered_in c.args.act (hash.get nat_eq s.rows j)) k
    (change.here ∙ (ap Some (same ∙ c.in_ok-answer.ensures.ok) ∙
    (sym (answered-here c.args.act client c.in-Some.c to has) ∙ ap (answered_in c.args.act) (sym at))))
    (λ j ne. change.apart j ne ∙ sym (answered-apart c.args.act (hash.get nat_eq s.rows j) c.in-Some.c to
    (λ e. absurd (let same_live : Some j ≡ Some k = sym (s.alive.1 c.in-Some.c j e) ∙ sym c.in-Some-get.ensures.value in ne (let g : j ≡ k = cc in g))))))
    c.list_ready.ensures.ok
