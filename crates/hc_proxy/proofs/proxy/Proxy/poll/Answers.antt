use Rattle.std.proofs.{Common.{◌≡◌, ◌≤◌, ◌+◌, ◌^◌, true, false, length, ap, sym, ◌∙◌, arith, length-append}, Math.{Bridge.{le_prop}, Logic.{∥∥₁_elim}}}
use Rattle.hc_core.specs.Steps.{bytes_received}
use Rattle.hc_effects.proofs.Vocabulary.{act_list}
use Rattle.hc_proxy.specs.{Invariants.{unread}, Waiting.{pends}}
use Rattle.hc_proxy.proofs.PollOne.{appended, polled_waits, polled_moves}
use Rattle.hc_proxy.proofs.proxy.Proxy.poll.Goals as goal

pub step-requires-clause-small : goal.step-requires-clause-small
step-requires-clause-small g c = ∥∥₁_elim c.requires.stands le_prop (λ s.
    let small : unread s.1 + bytes_received c.args.self.now.cache ≤ s.0.bytes = s.2.small in
    let bounded : s.0.bytes ≤ 2 ^ 60 = s.2.bounded in
    omega arith)

pub pends-requires : goal.pends-requires
pends-requires g c = ∥∥₁_elim c.requires.stands le_prop (λ s.
    let made = c.in_ok-first.ensures.stepped s.0 s.1 s.2
    (let small : unread s.1 + bytes_received c.args.self.now.cache ≤ s.0.bytes = s.2.small in omega arith) in
    let first : c.in_ok-first.first ≡ length (act_list c.args.self.now.acts) = c.in_ok-first.ensures.first in
    let all : length (act_list c.step.new.self.acts) ≡ length (act_list c.args.self.now.acts) + length made.e.acts =
    ap length made.acts ∙ length-append (act_list c.args.self.now.acts) made.e.acts in
    omega arith)

pub returns-then-pends-clause-polled : goal.returns-then-pends-clause-polled
returns-then-pends-clause-polled g c f p h =
    let made = c.in_ok-first.ensures.stepped f p h (let small : unread p + bytes_received c.args.self.now.cache ≤ f.bytes = h.small in omega arith) in
    let waits : pends made.e.acts ≡ true =
    ap pends (sym (appended _ (act_list c.args.self.now.acts) (act_list c.step.new.self.acts) made.e.acts c.in_ok-first.ensures.first made.acts)) ∙
    (sym c.pends.ensures ∙ c.if-pends.true) in
    polled_waits f c.args.self.now c.step.new.self c.args.c p made c.in_ok-first.ensures.moved waits

pub returns-clause-polled : goal.returns-clause-polled
returns-clause-polled g c f p h =
    let made = c.in_ok-first.ensures.stepped f p h (let small : unread p + bytes_received c.args.self.now.cache ≤ f.bytes = h.small in omega arith) in
    let goes_on : pends made.e.acts ≡ false =
    ap pends (sym (appended _ (act_list c.args.self.now.acts) (act_list c.step.new.self.acts) made.e.acts c.in_ok-first.ensures.first made.acts)) ∙
    (sym c.pends.ensures ∙ c.if-pends.false) in
    polled_moves f c.args.self.now c.step.new.self c.args.c p made goes_on

pub returns-clause-rest : goal.returns-clause-rest
returns-clause-rest g c =
    let r = c.in_ok-first.ensures.rest in
    record { now = r.now; starts = r.starts; front = r.front; clients = r.clients; upstreams = r.upstreams; closed = r.closed; round = r.round }
