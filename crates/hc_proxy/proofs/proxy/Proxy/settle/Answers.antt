use Rattle.std.proofs.Common.{◌≡◌, sym, ◌∙◌, true, false, rules}
use Rattle.hc_effects.proofs.Vocabulary.{is_open}
use Rattle.hc_proxy.proofs.{HeardOne.{open_is, cache_over}, HungUp.{hung_up}, Outcomes.{on_both}, SettledOn.{wanted_settled, unwanted_settled}}
use Rattle.hc_proxy.proofs.proxy.Proxy.settle.Goals as goal

pub returns-then-not-is_open-clause-goes : goal.returns-then-not-is_open-clause-goes
returns-then-not-is_open-clause-goes g c = λ t p h heard listed.
    let x = c.args.self.now in
    let said : c.is_open.result ≡ false = search (rules, c.if-not-is_open.true) in
    let shut : is_open (p.tables.exchange c.args.x) ≡ false = open_is t.frame x p h.cache c.args.x c.is_open.result c.is_open.ensures ∙ said in
    on_both c.hang_up.result _ _ c.hang_up.ensures.ok (λ u. hung_up t c.args.x x c.hang_up.new.self p h shut u)

pub returns-then-is_wanted-clause-goes : goal.returns-then-is_wanted-clause-goes
returns-then-is_wanted-clause-goes g c = λ t p h heard listed.
    let x = c.args.self.now in
    let said : c.is_open.result ≡ true = search (rules, c.if-not-is_open.false) in
    let on : is_open (p.tables.exchange c.args.x) ≡ true = open_is t.frame x p h.cache c.args.x c.is_open.result c.is_open.ensures ∙ said in
    let e = c.in_ok-touch.ensures in
    wanted_settled c.args.x t x p h heard listed on c.touch.new.self e.ok e.news e.touched

pub returns-clause-goes : goal.returns-clause-goes
returns-clause-goes g c = λ t p h heard listed.
    let x = c.args.self.now in
    let said : c.is_open.result ≡ true = search (rules, c.if-not-is_open.false) in
    let on : is_open (p.tables.exchange c.args.x) ≡ true = open_is t.frame x p h.cache c.args.x c.is_open.result c.is_open.ensures ∙ said in
    let e = c.in_ok-touch.ensures in
    let f = c.forget_news.ensures in
    unwanted_settled c.args.x t x p h heard listed on c.touch.new.self e.ok e.news e.touched
    (sym (c.is_wanted.ensures t.frame p (cache_over t.frame x p c.touch.new.self h.cache)) ∙ c.if-is_wanted.false)
    c.forget_news.new.self f.stays f.news f.touched
