use Rattle.std.{proofs.{Common.{◌≡◌, ◌≤◌, ◌<◌, ◌+◌, ◌^◌, ◌++◌, ◌∷◌, [], ℕ, true, List, length, get_or, refl, ap, sym, ◌∙◌, subst, arith}, Math.Logic.{∥∥₁_map}, lemmas.List.{take_more, take_all}}, specs.Prelude.{take, filter}}
use Rattle.hc_core.specs.Steps.{steps}
use Rattle.hc_peers.specs.Clients.{consumers_of, takes_more}
use Rattle.hc_proxy.proofs.{Marked.{among_at}, PollsOn.{PollsTo, polls_begin, polls_next, polls_end, round_may, few_of, small_of, heard_round}, SkippedSteps.{among}}
use Rattle.hc_proxy.proofs.proxy.Proxy.polls.Goals as goal

pub loop-i-init : goal.loop-i-init
loop-i-init g c = record {
  goes = λ t p k. polls_begin t c.args.self.now _ p refl (heard_round t c.args.self.now (record c.args.self.now { round = c.list_taking.new.to }) p k);
  round = refl;
  counted = omega arith;
}

pub poll-requires-clause-stands : goal.poll-requires-clause-stands
poll-requires-clause-stands g c =
    ∥∥₁_map c.requires.stands (λ s. let to = c.loop-i.invariant.goes s.0 s.1 s.2 in (s.0.frame, to.q, to.keeps.cache))

pub returns-clause-goes : goal.returns-clause-goes
returns-clause-goes g c t p k =
    let to = c.loop-i.invariant.goes t p k in
    polls_end t c.args.self.now p k c.len-count.ensures.live_order c.loop-i.self
    (subst (PollsTo t c.args.self.now c.loop-i.self p)
    (take_all c.loop-i.i c.list_taking.new.to.items
    (let n : c.len-i-end.result ≡ length c.list_taking.new.to.items = omega (arith, c.len-i-end.ensures, c.list_taking.new.to.ok.0) in
    let over : c.len-i-end.result ≤ c.loop-i.i = c.loop-i-test.false in omega arith) ∙
    (c.in_ok-list_taking.ensures ∙
    ap (λ (xs : List ℕ). xs ++ filter (takes_more c.args.self.now.clients) (consumers_of c.args.self.now.clients)) c.clear.ensures.items)) to)

pub poll-requires-clause-few : goal.poll-requires-clause-few
poll-requires-clause-few g c =
    let x = c.args.self.now in
    let few : length (filter (takes_more x.clients) (consumers_of x.clients)) ≤ 512 =
    few_of x c.requires.stands c.len-count.ensures.live_order c.len-count.result c.len-count.ensures.all c.len-count.ensures.live in
    let same : length c.list_taking.new.to.items ≡ length (filter (takes_more x.clients) (consumers_of x.clients)) =
    ap length (c.in_ok-list_taking.ensures ∙
    ap (λ (xs : List ℕ). xs ++ filter (takes_more c.args.self.now.clients) (consumers_of c.args.self.now.clients)) c.clear.ensures.items) in
    let n : c.len-i-end.result ≡ length c.list_taking.new.to.items = omega (arith, c.len-i-end.ensures, c.list_taking.new.to.ok.0) in
    let counted : steps c.loop-i.self.cache ≡ steps x.cache + c.loop-i.i = c.loop-i.invariant.counted in
    omega arith

pub returns-clause-steps : goal.returns-clause-steps
returns-clause-steps g c =
    let x = c.args.self.now in
    let few : length (filter (takes_more x.clients) (consumers_of x.clients)) ≤ 512 =
    few_of x c.requires.stands c.len-count.ensures.live_order c.len-count.result c.len-count.ensures.all c.len-count.ensures.live in
    let same : length c.list_taking.new.to.items ≡ length (filter (takes_more x.clients) (consumers_of x.clients)) =
    ap length (c.in_ok-list_taking.ensures ∙
    ap (λ (xs : List ℕ). xs ++ filter (takes_more c.args.self.now.clients) (consumers_of c.args.self.now.clients)) c.clear.ensures.items) in
    let n : c.len-i-end.result ≡ length c.list_taking.new.to.items = omega (arith, c.len-i-end.ensures, c.list_taking.new.to.ok.0) in
    let counted : steps c.loop-i.self.cache ≡ steps x.cache + c.loop-i.i = c.loop-i.invariant.counted in
    omega arith

pub poll-requires-clause-numbered : goal.poll-requires-clause-numbered
poll-requires-clause-numbered g c =
    let x = c.args.self.now in
    let r0 = c.list_taking.new.to.items in
    let k0 = c.index-c.result.now in
    let n : c.len-i-end.result ≡ length c.list_taking.new.to.items = omega (arith, c.len-i-end.ensures, c.list_taking.new.to.ok.0) in
    let lt : c.loop-i.i < length r0 = (let test : c.loop-i.i < c.len-i-end.result = c.loop-i-test.true in omega arith) in
    let at : k0 ≡ get_or r0 c.loop-i.i k0 = c.index-c.ensures ∙ ap (λ v. get_or v.items c.loop-i.i k0) c.loop-i.invariant.round in
    let is : r0 ≡ filter (takes_more x.clients) (consumers_of x.clients) = c.in_ok-list_taking.ensures ∙
    ap (λ (xs : List ℕ). xs ++ filter (takes_more c.args.self.now.clients) (consumers_of c.args.self.now.clients)) c.clear.ensures.items in
    let there : among k0 (filter (takes_more x.clients) (consumers_of x.clients)) ≡ true =
    subst (λ (xs : List ℕ). among k0 xs ≡ true) is (subst (λ (m : ℕ). among m r0 ≡ true) (sym at) (among_at r0 c.loop-i.i k0 lt)) in
    let small : k0 < 2 ^ 61 + steps x.cache = small_of x c.requires.stands c.len-count.ensures.live_order k0 there in
    let few : steps x.cache + 512 ≤ 2 ^ 60 = c.requires.few in
    omega arith

pub loop-i-preserved : goal.loop-i-preserved
loop-i-preserved g c =
    let x = c.args.self.now in
    let r0 = c.list_taking.new.to.items in
    let k0 = c.index-c.result.now in
    let n : c.len-i-end.result ≡ length c.list_taking.new.to.items = omega (arith, c.len-i-end.ensures, c.list_taking.new.to.ok.0) in
    let lt : c.loop-i.i < length r0 = (let test : c.loop-i.i < c.len-i-end.result = c.loop-i-test.true in omega arith) in
    let at : k0 ≡ get_or r0 c.loop-i.i k0 = c.index-c.ensures ∙ ap (λ v. get_or v.items c.loop-i.i k0) c.loop-i.invariant.round in
    let is : r0 ≡ filter (takes_more x.clients) (consumers_of x.clients) = c.in_ok-list_taking.ensures ∙
    ap (λ (xs : List ℕ). xs ++ filter (takes_more c.args.self.now.clients) (consumers_of c.args.self.now.clients)) c.clear.ensures.items in
    let there : among k0 (filter (takes_more x.clients) (consumers_of x.clients)) ≡ true =
    subst (λ (xs : List ℕ). among k0 xs ≡ true) is (subst (λ (m : ℕ). among m r0 ≡ true) (sym at) (among_at r0 c.loop-i.i k0 lt)) in
    let more : take (c.loop-i.i + 1) r0 ≡ take c.loop-i.i r0 ++ k0 ∷ [] = take_more r0 c.loop-i.i k0 lt ∙
    ap (λ (m : ℕ). take c.loop-i.i r0 ++ m ∷ []) (sym at) in
    record {
      goes = λ t p k.
          subst (PollsTo t x c.poll.new.self p) (sym more)
          (polls_next t x c.loop-i.self c.poll.new.self p (take c.loop-i.i r0) k0 (round_may t x p k c.len-count.ensures.live_order k0 there)
          (c.loop-i.invariant.goes t p k)
          (λ q kq. c.in_ok-poll.ensures.polled t.frame q kq.cache) c.in_ok-poll.ensures.rest c.in_ok-poll.ensures.steps);
      round = c.in_ok-poll.ensures.rest.round ∙ c.loop-i.invariant.round;
      counted =
          let one : steps c.poll.new.self.cache ≡ steps c.loop-i.self.cache + 1 = c.in_ok-poll.ensures.steps in
          let all : steps c.loop-i.self.cache ≡ steps x.cache + c.loop-i.i = c.loop-i.invariant.counted in
          omega arith;
    }
