use Rattle.std.proofs.{Common.{◌≡◌, ◌≤◌, ◌+◌, ◌^◌, ◌∷◌, true, false, length, ap, subst, arith}, Math.Logic.{∥∥₁_map}}
use Rattle.hc_core.specs.Steps.{steps}
use Rattle.hc_peers.specs.Clients.{ready_of}
use Rattle.hc_proxy.specs.Keeping.{IsNext}
use Rattle.hc_proxy.proofs.StartsOn.{starts_next, starts_stop, starts_end, few_ready}
use Rattle.hc_proxy.proofs.proxy.Proxy.starts.Goals as goal

pub start_next-requires-clause-stands : goal.start_next-requires-clause-stands
start_next-requires-clause-stands g c =
    ∥∥₁_map c.requires.stands (λ s. let to = c.loop.invariant.goes s.0 s.1 s.2 in (s.0, to.q, to.keeps))

pub start_next-requires-clause-few : goal.start_next-requires-clause-few
start_next-requires-clause-few g c =
    let x = c.args.self.now in
    let most : length (ready_of x.clients) ≤ 512 = few_ready x c.requires.stands c.len-count.result c.len-count.ensures.all c.len-count.ensures.ready in
    let counted : steps c.loop.self.cache + length (ready_of c.loop.self.clients) ≤ steps x.cache + length (ready_of x.clients) = c.loop.invariant.counted in
    let few : steps x.cache + 512 ≤ 2 ^ 60 = c.requires.few in
    omega arith

pub loop-preserved : goal.loop-preserved
loop-preserved g c =
    let x = c.args.self.now in
    let next : IsNext true (ready_of c.loop.self.clients) (ready_of c.start_next.new.self.clients) =
    subst (λ b. IsNext b (ready_of c.loop.self.clients) (ready_of c.start_next.new.self.clients)) c.if-branch.true c.in_ok-start_next.ensures.next in
    record {
      goes = λ t p k.
          starts_next t x c.loop.self c.start_next.new.self p next.0 (ready_of c.start_next.new.self.clients) next.1 (c.loop.invariant.goes t p k)
          (λ q kq. c.in_ok-start_next.ensures.goes t q kq);
      counted =
          let one : steps c.start_next.new.self.cache ≤ steps c.loop.self.cache + 1 = c.in_ok-start_next.ensures.steps in
          let less : length (ready_of c.loop.self.clients) ≡ length (next.0 ∷ ready_of c.start_next.new.self.clients) = ap length next.1 in
          let counted : steps c.loop.self.cache + length (ready_of c.loop.self.clients) ≤ steps x.cache + length (ready_of x.clients) =
          c.loop.invariant.counted in
          omega arith;
    }

pub returns-clause-goes : goal.returns-clause-goes
returns-clause-goes g c t p k =
    let x = c.args.self.now in
    let none : IsNext false (ready_of c.loop.self.clients) (ready_of c.start_next.new.self.clients) =
    subst (λ b. IsNext b (ready_of c.loop.self.clients) (ready_of c.start_next.new.self.clients)) c.if-branch.false c.in_ok-start_next.ensures.next in
    starts_end t x c.start_next.new.self p k c.len-count.ensures.ready_order
    (starts_stop t x c.loop.self c.start_next.new.self p none (c.loop.invariant.goes t p k) (λ q kq. c.in_ok-start_next.ensures.goes t q kq))

pub returns-clause-steps : goal.returns-clause-steps
returns-clause-steps g c =
    let x = c.args.self.now in
    let most : length (ready_of x.clients) ≤ 512 = few_ready x c.requires.stands c.len-count.result c.len-count.ensures.all c.len-count.ensures.ready in
    let counted : steps c.loop.self.cache + length (ready_of c.loop.self.clients) ≤ steps x.cache + length (ready_of x.clients) = c.loop.invariant.counted in
    let same : steps c.start_next.new.self.cache ≡ steps c.loop.self.cache = ap steps (c.in_ok-start_next.ensures.none c.if-branch.false) in
    omega arith
