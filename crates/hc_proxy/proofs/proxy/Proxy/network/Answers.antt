use Rattle.std.{proofs.Common.{◌≡◌, ◌≤◌, ◌<◌, ℕ, ◌++◌, List, length, get_or, refl, ap, sym, ◌∙◌, subst, arith}, specs.{Ordering.{nat_cmp}, List.Sorted.{IsStrictlySortedBy}}}
use Rattle.hc_peers.specs.Upstreams.{is_news, news_of}
use Rattle.hc_proxy.specs.{Hearing.{HasHeard, MayStep, NewsOff}, Keeping.{Goes}, Network.{handed, closed}}
use Rattle.hc_core.specs.Steps.{faults_in, steps}
use Rattle.hc_proxy.proofs.NewsLoop.{at_first, listed_there, may_there, at_next, all_heard, few_steps}
use Rattle.hc_proxy.proofs.proxy.Proxy.network.Goals as goal

pub loop-i-init : goal.loop-i-init
loop-i-init g c = record {
  heard = at_first c.args.self.now (record c.args.self.now { round = c.list_news.new.to }) c.list_news.new.to.items
      (c.in_ok-list_news.ensures.listed ∙ ap (λ (xs : List ℕ). xs ++ news_of c.args.self.now.upstreams) c.clear.ensures.items);
  round = refl;
}

pub hear-requires-clause-may : goal.hear-requires-clause-may
hear-requires-clause-may g c =
    let x = c.args.self.now in
    let r0 = c.list_news.new.to.items in
    let k0 = c.index-x.result.now in
    let n : c.len-i-end.result ≡ length r0 = omega (arith, c.len-i-end.ensures, c.list_news.new.to.ok.0) in
    let lt : c.loop-i.i < length r0 = (let test : c.loop-i.i < c.len-i-end.result = c.loop-i-test.true in omega arith) in
    let at : k0 ≡ get_or r0 c.loop-i.i k0 = c.index-x.ensures ∙ ap (λ v. get_or v.items c.loop-i.i k0) c.loop-i.invariant.round in
    let is : r0 ≡ news_of x.upstreams = c.in_ok-list_news.ensures.listed ∙ ap (λ (xs : List ℕ). xs ++ news_of x.upstreams) c.clear.ensures.items in
    let order : IsStrictlySortedBy nat_cmp r0 = subst (IsStrictlySortedBy nat_cmp) (sym is) c.list_news.ensures.ordered in
    subst (λ (z : ℕ). ∥ MayStep 2 z c.loop-i.self ∥₁) (sym at)
    (may_there x c.loop-i.self r0 c.loop-i.i k0 lt order c.loop-i.invariant.heard c.requires.stands c.requires.few)

pub hear-requires-clause-listed : goal.hear-requires-clause-listed
hear-requires-clause-listed g c =
    let x = c.args.self.now in
    let r0 = c.list_news.new.to.items in
    let k0 = c.index-x.result.now in
    let n : c.len-i-end.result ≡ length r0 = omega (arith, c.len-i-end.ensures, c.list_news.new.to.ok.0) in
    let lt : c.loop-i.i < length r0 = (let test : c.loop-i.i < c.len-i-end.result = c.loop-i-test.true in omega arith) in
    let at : k0 ≡ get_or r0 c.loop-i.i k0 = c.index-x.ensures ∙ ap (λ v. get_or v.items c.loop-i.i k0) c.loop-i.invariant.round in
    let is : r0 ≡ news_of x.upstreams = c.in_ok-list_news.ensures.listed ∙ ap (λ (xs : List ℕ). xs ++ news_of x.upstreams) c.clear.ensures.items in
    let order : IsStrictlySortedBy nat_cmp r0 = subst (IsStrictlySortedBy nat_cmp) (sym is) c.list_news.ensures.ordered in
    ap (is_news c.loop-i.self.upstreams) at ∙ listed_there x c.loop-i.self r0 c.loop-i.i k0 lt order c.loop-i.invariant.heard

pub loop-i-preserved : goal.loop-i-preserved
loop-i-preserved g c =
    let x = c.args.self.now in
    let r0 = c.list_news.new.to.items in
    let k0 = c.index-x.result.now in
    let n : c.len-i-end.result ≡ length r0 = omega (arith, c.len-i-end.ensures, c.list_news.new.to.ok.0) in
    let lt : c.loop-i.i < length r0 = (let test : c.loop-i.i < c.len-i-end.result = c.loop-i-test.true in omega arith) in
    let at : k0 ≡ get_or r0 c.loop-i.i k0 = c.index-x.ensures ∙ ap (λ v. get_or v.items c.loop-i.i k0) c.loop-i.invariant.round in
    let is : r0 ≡ news_of x.upstreams = c.in_ok-list_news.ensures.listed ∙ ap (λ (xs : List ℕ). xs ++ news_of x.upstreams) c.clear.ensures.items in
    let order : IsStrictlySortedBy nat_cmp r0 = subst (IsStrictlySortedBy nat_cmp) (sym is) c.list_news.ensures.ordered in
    record {
      heard =
          at_next x c.loop-i.self r0 c.loop-i.i k0 lt order c.loop-i.invariant.heard c.hear.new.self
          (λ t q kq. subst (λ (z : ℕ). Goes (HasHeard z t q (steps c.loop-i.self.cache)) (faults_in c.loop-i.self.cache) c.hear.new.self
          (closed t.frame.limits z (handed t.frame.limits z q))) at (c.in_ok-hear.ensures.goes t q kq))
          (subst (λ (z : ℕ). NewsOff z c.loop-i.self c.hear.new.self) at c.in_ok-hear.ensures.news);
      round = c.in_ok-hear.ensures.round ∙ c.loop-i.invariant.round;
    }

pub returns-clause-goes : goal.returns-clause-goes
returns-clause-goes g c t p k =
    let x = c.args.self.now in
    let r0 = c.list_news.new.to.items in
    let n : c.len-i-end.result ≡ length r0 = omega (arith, c.len-i-end.ensures, c.list_news.new.to.ok.0) in
    let over : length r0 ≤ c.loop-i.i = (let test : c.len-i-end.result ≤ c.loop-i.i = c.loop-i-test.false in omega arith) in
    let is : r0 ≡ news_of x.upstreams = c.in_ok-list_news.ensures.listed ∙ ap (λ (xs : List ℕ). xs ++ news_of x.upstreams) c.clear.ensures.items in
    all_heard x c.loop-i.self r0 c.loop-i.i is over c.list_news.ensures.ordered c.loop-i.invariant.heard t p k

pub returns-clause-steps : goal.returns-clause-steps
returns-clause-steps g c =
    let x = c.args.self.now in
    let r0 = c.list_news.new.to.items in
    let n : c.len-i-end.result ≡ length r0 = omega (arith, c.len-i-end.ensures, c.list_news.new.to.ok.0) in
    let over : length r0 ≤ c.loop-i.i = (let test : c.len-i-end.result ≤ c.loop-i.i = c.loop-i-test.false in omega arith) in
    let is : r0 ≡ news_of x.upstreams = c.in_ok-list_news.ensures.listed ∙ ap (λ (xs : List ℕ). xs ++ news_of x.upstreams) c.clear.ensures.items in
    few_steps x c.loop-i.self r0 c.loop-i.i is over c.list_news.ensures.ordered c.loop-i.invariant.heard c.requires.stands
