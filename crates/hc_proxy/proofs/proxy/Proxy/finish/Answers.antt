use Rattle.std.proofs.Common.{◌≡◌, ◌≤◌, ◌+◌, ◌^◌, sym, ◌∙◌, true, false, refl, rules, arith}
use Rattle.hc_core.specs.Steps.{steps}
use Rattle.hc_msg.specs.declared.message.Look.TheVariants as look
use Rattle.hc_peers.specs.Upstreams.{upstream_of, look_at}
use Rattle.hc_proxy.proofs.{FinishedOn.{shut_finished, unended_finished, part_finished, fails_finished}, HeardOne.{open_is, may_stands, may_here, may_few, here_small}, Outcomes.{on_both, ok_pair}}
use Rattle.hc_proxy.proofs.proxy.Proxy.finish.Goals as goal

pub returns-then-not-is_open-clause-goes : goal.returns-then-not-is_open-clause-goes
returns-then-not-is_open-clause-goes g c = λ t p h.
    let x = c.args.self.now in
    let said : c.is_open.result ≡ false = search (rules, c.if-not-is_open.true) in
    shut_finished c.args.x t x p h (open_is t.frame x p h.cache c.args.x c.is_open.result c.is_open.ensures ∙ said)

pub returns-then-not-has_ended-clause-goes : goal.returns-then-not-has_ended-clause-goes
returns-then-not-has_ended-clause-goes g c = λ t p h.
    let x = c.args.self.now in
    let said : c.is_open.result ≡ true = search (rules, c.if-not-is_open.false) in
    let unended : c.has_ended.result ≡ false = search (rules, c.if-not-has_ended.true) in
    unended_finished c.args.x t x p h (open_is t.frame x p h.cache c.args.x c.is_open.result c.is_open.ensures ∙ said) (sym c.has_ended.ensures ∙ unended)

pub fail-requires-clause-stands : goal.fail-requires-clause-stands
fail-requires-clause-stands g c = may_stands 1 c.args.x c.args.self.now _ refl refl refl refl refl c.requires.may

pub fail-requires-clause-few : goal.fail-requires-clause-few
fail-requires-clause-few g c =
    let x = c.args.self.now in
    let said : c.is_open.result ≡ true = search (rules, c.if-not-is_open.false) in
    let few : steps x.cache + 1 ≤ 2 ^ 60 =
    may_few 1 c.args.x x c.requires.may (λ t p h. open_is t.frame x p h.cache c.args.x c.is_open.result c.is_open.ensures ∙ said) in
    omega arith

pub fail-requires-clause-small : goal.fail-requires-clause-small
fail-requires-clause-small g c =
    let x = c.args.self.now in
    let said : c.is_open.result ≡ true = search (rules, c.if-not-is_open.false) in
    let few : steps x.cache + 1 ≤ 2 ^ 60 =
    may_few 1 c.args.x x c.requires.may (λ t p h. open_is t.frame x p h.cache c.args.x c.is_open.result c.is_open.ensures ∙ said) in
    here_small c.args.x x (may_here 1 c.args.x x c.requires.may (λ t p h. open_is t.frame x p h.cache c.args.x c.is_open.result c.is_open.ensures ∙ said))
    (omega arith)

pub close-requires-clause-at : goal.close-requires-clause-at
close-requires-clause-at g c =
    let x = c.args.self.now in
    let said : c.is_open.result ≡ true = search (rules, c.if-not-is_open.false) in
    may_here 1 c.args.x x c.requires.may (λ t p h. open_is t.frame x p h.cache c.args.x c.is_open.result c.is_open.ensures ∙ said)

pub close-requires-clause-waits : goal.close-requires-clause-waits
close-requires-clause-waits g c = sym c.in_ok-look.ensures ∙ c.in-Waits.is

pub close-requires-clause-few : goal.close-requires-clause-few
close-requires-clause-few g c =
    let x = c.args.self.now in
    let said : c.is_open.result ≡ true = search (rules, c.if-not-is_open.false) in
    let few : steps x.cache + 1 ≤ 2 ^ 60 =
    may_few 1 c.args.x x c.requires.may (λ t p h. open_is t.frame x p h.cache c.args.x c.is_open.result c.is_open.ensures ∙ said) in
    omega arith

pub returns-in-Part-clause-goes : goal.returns-in-Part-clause-goes
returns-in-Part-clause-goes g c = λ t p h.
    let x = c.args.self.now in
    let said : c.is_open.result ≡ true = search (rules, c.if-not-is_open.false) in
    let ended : c.has_ended.result ≡ true = search (rules, c.if-not-has_ended.false) in
    let looks : look_at (upstream_of x.upstreams c.args.x) ≡ look.Part = sym c.in_ok-look.ensures ∙ c.in-Part.is in
    part_finished c.args.x t x p h (open_is t.frame x p h.cache c.args.x c.is_open.result c.is_open.ensures ∙ said) (sym c.has_ended.ensures ∙ ended) looks

pub returns-in-Fails-clause-goes : goal.returns-in-Fails-clause-goes
returns-in-Fails-clause-goes g c = λ t p h.
    let x = c.args.self.now in
    let said : c.is_open.result ≡ true = search (rules, c.if-not-is_open.false) in
    let ended : c.has_ended.result ≡ true = search (rules, c.if-not-has_ended.false) in
    let looks : look_at (upstream_of x.upstreams c.args.x) ≡ look.Fails = sym c.in_ok-look.ensures ∙ c.in-Fails.is in
    let e = c.fail.ensures in
    on_both c.fail.result _ _ (ok_pair c.fail.result _ _ e.stepped (ok_pair c.fail.result _ _ e.rest (ok_pair c.fail.result _ _ e.moved e.steps))) (λ m.
    fails_finished c.args.x t x p h (open_is t.frame x p h.cache c.args.x c.is_open.result c.is_open.ensures ∙ said) (sym c.has_ended.ensures ∙ ended) looks
    c.fail.new.self (m.0 t.frame p h.cache) m.1.0 m.1.1.0 m.1.1.1)

pub returns-in-Waits-clause-goes : goal.returns-in-Waits-clause-goes
returns-in-Waits-clause-goes g c = λ t p h.
    let x = c.args.self.now in
    let said : c.is_open.result ≡ true = search (rules, c.if-not-is_open.false) in
    let ended : c.has_ended.result ≡ true = search (rules, c.if-not-has_ended.false) in
    c.close.ensures.goes t p h (open_is t.frame x p h.cache c.args.x c.is_open.result c.is_open.ensures ∙ said) (sym c.has_ended.ensures ∙ ended)
