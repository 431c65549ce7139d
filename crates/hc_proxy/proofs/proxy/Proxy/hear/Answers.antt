use Rattle.std.proofs.Common.{◌≡◌, ◌∙◌, true}
use Rattle.hc_peers.specs.Upstreams.{is_news}
use Rattle.hc_proxy.proofs.{ClosedBy.{finish_may, hear_goes}, DoneFor.{but_it}, Outcomes.{on_both, ok_pair}}
use Rattle.hc_proxy.proofs.proxy.Proxy.hear.Goals as goal

pub finish-requires : goal.finish-requires
finish-requires g c = record { may = finish_may c.args.x c.args.self.now c.hand.new.self c.requires.may c.in_ok-hand.ensures.goes }

pub returns-clause-goes : goal.returns-clause-goes
returns-clause-goes g c = λ t p k.
    let a = c.in_ok-hand.ensures.goes t p (but_it c.args.x t c.args.self.now p k) in
    let b = c.in_ok-finish.ensures.goes t a.q a.keeps.keeps in
    let listed : is_news c.finish.new.self.upstreams c.args.x ≡ true = c.in_ok-finish.ensures.news c.args.x ∙
    (c.in_ok-hand.ensures.news c.args.x ∙ c.requires.listed) in
    let e = c.settle.ensures in
    on_both c.settle.result _ _ (ok_pair c.settle.result _ _ (e.goes t b.q b.keeps.keeps b.keeps.heard listed) e.cache) (λ m.
    hear_goes c.args.x t p c.args.self.now c.hand.new.self c.finish.new.self c.settle.new.self a b m.0 m.1)

pub returns-clause-news : goal.returns-clause-news
returns-clause-news g c =
    on_both c.settle.result _ _ c.settle.ensures.news (λ off y apart. off y apart ∙ (c.in_ok-finish.ensures.news y ∙ c.in_ok-hand.ensures.news y))

pub returns-clause-round : goal.returns-clause-round
returns-clause-round g c = on_both c.settle.result _ _ c.settle.ensures.round (λ is. is ∙ (c.in_ok-finish.ensures.round ∙ c.in_ok-hand.ensures.round))
