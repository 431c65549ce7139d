use Rattle.std.{proofs.Common.{◌≡◌, ap, true, false, refl, rules, arith}, specs.Result.{is_err}}
use Rattle.hc_proxy.proofs.{ClosedBy.{only_memory, cut_goes, whole_goes}, HeardOne.{here_stands, here_small, few_bytes}, Outcomes.{on_both, ok_pair}}
use Rattle.hc_proxy.proofs.proxy.Proxy.close.Goals as goal

pub unreachable-requires : goal.unreachable-requires
unreachable-requires g c =
    c.in_default.not-NoMemory
    (only_memory c.args.x c.args.self.now.upstreams c.take.new.self c.take.result c.in-Err.e c.requires.waits c.take.ensures.some
    (λ none. (c.take.ensures.none none).0) c.in-Err.is)

pub fail-requires-clause-stands : goal.fail-requires-clause-stands
fail-requires-clause-stands g c = here_stands c.args.x c.args.self.now _ refl refl refl refl refl c.requires.at

pub fail-requires-clause-small : goal.fail-requires-clause-small
fail-requires-clause-small g c = here_small c.args.x c.args.self.now c.requires.at c.requires.few

pub happen-requires-clause-stands : goal.happen-requires-clause-stands
happen-requires-clause-stands g c = here_stands c.args.x c.args.self.now _ refl refl refl refl refl c.requires.at

pub happen-requires-clause-spelled : goal.happen-requires-clause-spelled
happen-requires-clause-spelled g c = here_small c.args.x c.args.self.now c.requires.at c.requires.few

pub happen-requires-clause-small : goal.happen-requires-clause-small
happen-requires-clause-small g c =
    few_bytes c.args.self.now (here_stands c.args.x c.args.self.now c.args.self.now refl refl refl refl refl c.requires.at) 0 (omega arith)

pub returns-then-not-finish-clause-goes : goal.returns-then-not-finish-clause-goes
returns-then-not-finish-clause-goes g c = λ t p h on ended.
    let fine : is_err c.take.result ≡ false = ap is_err c.in-Ok.is in
    let cut : c.finish.result ≡ false = search (rules, c.if-not-finish.true) in
    let e = c.fail.ensures in
    on_both c.fail.result _ _ (ok_pair c.fail.result _ _ e.stepped (ok_pair c.fail.result _ _ e.rest (ok_pair c.fail.result _ _ e.moved e.steps))) (λ m.
    cut_goes c.args.x c.args.self.now c.take.new.self c.finish.new.self c.take.result c.take.ensures.some c.take.ensures.lists fine
    c.finish.ensures.row c.finish.ensures.lists c.finish.result c.finish.ensures.some t p h on ended c.requires.waits cut
    c.fail.new.self (m.0 t.frame) m.1.0 m.1.1.0 m.1.1.1)

pub returns-clause-goes : goal.returns-clause-goes
returns-clause-goes g c = λ t p h on ended.
    let fine : is_err c.take.result ≡ false = ap is_err c.in-Ok.is in
    let whole : c.finish.result ≡ true = search (rules, c.if-not-finish.false) in
    let e = c.in_ok-happen.ensures in
    whole_goes c.args.x c.args.self.now c.take.new.self c.finish.new.self c.take.result c.take.ensures.some c.take.ensures.lists fine
    c.finish.ensures.row c.finish.ensures.lists c.finish.result c.finish.ensures.some t p h on ended c.requires.waits whole
    c.happen.new.self (e.stepped t.frame) e.rest e.moved e.steps
