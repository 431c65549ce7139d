use Rattle.std.{proofs.{Common.{◌≡◌, ◌≤◌, ◌<◌, ℕ, ◌+◌, ◌∷◌, [], ◌++◌, List, false, length, get_or, refl, ap, sym, ◌∙◌, arith}, lemmas.List.{take_more, take_all}}, specs.Prelude.{take}}
use Rattle.hc_peers.specs.Upstreams.{news_of}
use Rattle.hc_proxy.proofs.{Alike.{cache_moves}, HearsSome.{brings_same, some_heard, none_heard, none_more}, SkippedSteps.{among}, Waited.{brings}}
use Rattle.hc_proxy.proofs.proxy.Proxy.hears_something.Goals as goal

pub returns-then-branch-clause-answers : goal.returns-then-branch-clause-answers
returns-then-branch-clause-answers g c f p log r =
    let x = c.args.self.now in
    let k0 = c.index-x.result.now in
    some_heard f x p log r k0
    (sym (brings_same f x p log r k0)
    ∙ (sym (c.in_ok-hears.ensures f p (cache_moves f x (record x { round = c.list_news.new.to }) p refl refl refl refl refl r.cache)) ∙ c.if-branch.true))

pub loop-i-preserved : goal.loop-i-preserved
loop-i-preserved g c f p log r y there =
    let x = c.args.self.now in
    let r0 = c.list_news.new.to.items in
    let k0 = c.index-x.result.now in
    let n : c.len-i-end.result ≡ length r0 = omega (arith, c.len-i-end.ensures, c.list_news.new.to.ok.0) in
    let lt : c.loop-i.i < length r0 = (let test : c.loop-i.i < c.len-i-end.result = c.loop-i-test.true in omega arith) in
    let at : k0 ≡ get_or r0 c.loop-i.i k0 = c.index-x.ensures in
    let more : take (c.loop-i.i + 1) r0 ≡ take c.loop-i.i r0 ++ k0 ∷ [] = take_more r0 c.loop-i.i k0 lt ∙
    ap (λ (m : ℕ). take c.loop-i.i r0 ++ m ∷ []) (sym at) in
    let off : brings p k0 ≡ false =
    sym (brings_same f x p log r k0)
    ∙ (sym (c.in_ok-hears.ensures f p (cache_moves f x (record x { round = c.list_news.new.to }) p refl refl refl refl refl r.cache)) ∙ c.if-branch.false) in
    none_more (brings p) (take c.loop-i.i r0) k0 (c.loop-i.invariant f p log r) off y (ap (among y) (sym more) ∙ there)

pub returns-clause-answers : goal.returns-clause-answers
returns-clause-answers g c f p log r =
    let x = c.args.self.now in
    let r0 = c.list_news.new.to.items in
    let n : c.len-i-end.result ≡ length r0 = omega (arith, c.len-i-end.ensures, c.list_news.new.to.ok.0) in
    let over : length r0 ≤ c.loop-i.i = (let test : c.len-i-end.result ≤ c.loop-i.i = c.loop-i-test.false in omega arith) in
    let is : r0 ≡ news_of x.upstreams = c.in_ok-list_news.ensures.listed ∙ ap (λ (xs : List ℕ). xs ++ news_of x.upstreams) c.clear.ensures.items in
    none_heard f x p log r (λ y there. c.loop-i.invariant f p log r y (ap (among y) (take_all c.loop-i.i r0 over ∙ is) ∙ there))
