use Rattle.std.proofs.Common.{refl, sym, subst}
use Rattle.hc_core.specs.Steps.{faults_in}
use Rattle.hc_proxy.specs.{Handling.{client_leaves}, Keeping.{KeepsQuiet, Goes}}
use Rattle.hc_proxy.proofs.{GotBytes.{some_cache, small_bytes, small_consumer}, proxy.Proxy.client_leaves.Goals.{in-Some-consumer+in_ok-happen, in_default-consumer}, LeaveGoes.{leave_by, idle_by}}
use Rattle.hc_proxy.proofs.proxy.Proxy.client_leaves.Goals as goal

pub happen-requires-clause-stands : goal.happen-requires-clause-stands
happen-requires-clause-stands g c = some_cache c.args.self.now c.args.k _ refl refl refl refl refl c.requires.at

pub happen-requires-clause-spelled : goal.happen-requires-clause-spelled
happen-requires-clause-spelled g c =
    small_consumer c.args.self.now c.args.k c.requires.at c.requires.few c.in-Some.client c.in-Some-consumer.c (sym c.in-Some.ensures.found)
    c.in-Some-consumer.is

pub happen-requires-clause-small : goal.happen-requires-clause-small
happen-requires-clause-small g c = small_bytes c.args.self.now c.args.k c.requires.at

pub returns-clause-goes : goal.returns-clause-goes
returns-clause-goes g c = λ t p h none. elim c.match-client-3.branch [
  | in-Some-consumer+in_ok-happen w ↦ subst (λ x. Goes (KeepsQuiet t) (faults_in c.args.self.now.cache) x (client_leaves t.frame.limits c.args.k p))
      (sym w.self-is)
      (leave_by t c.args.self.now p c.args.k h none c.leave.new.self c.leave.ensures.gone c.in-Some.client w.in-Some-consumer.c
      (record c.args.self.now { closed = c.push.new.self }) w.happen.new.self
      (sym c.in-Some.ensures.found) w.in-Some-consumer.is w.in_ok-happen.ensures.stepped w.in_ok-happen.ensures.rest w.in_ok-happen.ensures.moved
      w.in_ok-happen.ensures.steps c.in_ok-push.ensures.items)
  | in_default-consumer w ↦ subst (λ x. Goes (KeepsQuiet t) (faults_in c.args.self.now.cache) x (client_leaves t.frame.limits c.args.k p)) (sym w.self-is)
      (idle_by t c.args.self.now p c.args.k h none c.leave.new.self c.leave.ensures.gone c.in-Some.client (record c.args.self.now { closed = c.push.new.self })
      (sym c.in-Some.ensures.found) (λ d is. w.in_default-consumer.not-Some d is) c.in_ok-push.ensures.items)
]
