use Rattle.std.proofs.Common.{◌≡◌, sym, ◌∙◌, true, false, refl, rules, arith}
use Rattle.hc_proxy.proofs.{HandedBy.{hand_few, hand_small, hand_fit, hand_take, hand_goes, none_goes, err_goes}, HandedOn.{none_handed}, HeardOne.{may_stands, still_news}, Outcomes.{on_both, ok_pair}}
use Rattle.hc_proxy.proofs.proxy.Proxy.hand.Goals as goal

pub returns-then-not-is_wanted-clause-goes : goal.returns-then-not-is_wanted-clause-goes
returns-then-not-is_wanted-clause-goes g c = λ t p h.
    let said : c.is_wanted.result ≡ false = search (rules, c.if-not-is_wanted.true) in
    none_handed c.args.x t c.args.self.now p h (sym (c.is_wanted.ensures t.frame p h.cache) ∙ said)

pub step_part-requires-clause-may : goal.step_part-requires-clause-may
step_part-requires-clause-may g c =
    let said : c.is_wanted.result ≡ true = search (rules, c.if-not-is_wanted.false) in
    hand_take c.args.x c.args.self.now (λ t p h. sym (c.is_wanted.ensures t.frame p h.cache) ∙ said)
    c.take.new.self c.take.result c.take.ensures.some c.take.ensures.lists c.in-Ok-Some.part
    (search (rules, c.in-Ok-Some.is, c.in-Ok-Some.field-0-is, c.in-Ok-Some.part-is)) c.requires.may

pub step_part-requires-clause-small : goal.step_part-requires-clause-small
step_part-requires-clause-small g c =
    let said : c.is_wanted.result ≡ true = search (rules, c.if-not-is_wanted.false) in
    hand_small c.args.x c.args.self.now (λ t p h. sym (c.is_wanted.ensures t.frame p h.cache) ∙ said) c.requires.may

pub step_part-requires-clause-fit : goal.step_part-requires-clause-fit
step_part-requires-clause-fit g c =
    let said : c.is_wanted.result ≡ true = search (rules, c.if-not-is_wanted.false) in
    hand_fit c.args.x c.args.self.now (λ t p h. sym (c.is_wanted.ensures t.frame p h.cache) ∙ said)
    c.take.new.self c.take.result c.take.ensures.some c.in-Ok-Some.part (search (rules, c.in-Ok-Some.is, c.in-Ok-Some.field-0-is, c.in-Ok-Some.part-is))
    (λ none. (c.take.ensures.none none).0)

pub step_part-requires-clause-few : goal.step_part-requires-clause-few
step_part-requires-clause-few g c =
    let said : c.is_wanted.result ≡ true = search (rules, c.if-not-is_wanted.false) in
    hand_few c.args.x c.args.self.now (λ t p h. sym (c.is_wanted.ensures t.frame p h.cache) ∙ said) c.requires.may

pub fail_by-requires : goal.fail_by-requires
fail_by-requires g c =
    let said : c.is_wanted.result ≡ true = search (rules, c.if-not-is_wanted.false) in
    record {
      stands = may_stands 2 c.args.x c.args.self.now _ refl refl refl refl refl c.requires.may;
      small = hand_small c.args.x c.args.self.now (λ t p h. sym (c.is_wanted.ensures t.frame p h.cache) ∙ said) c.requires.may;
      few = (let few = hand_few c.args.x c.args.self.now (λ t p h. sym (c.is_wanted.ensures t.frame p h.cache) ∙ said) c.requires.may in omega arith);
    }

pub returns-in-Ok-None-clause-goes : goal.returns-in-Ok-None-clause-goes
returns-in-Ok-None-clause-goes g c = λ t p h.
    let said : c.is_wanted.result ≡ true = search (rules, c.if-not-is_wanted.false) in
    none_goes c.args.x c.args.self.now (λ t p h. sym (c.is_wanted.ensures t.frame p h.cache) ∙ said)
    c.take.new.self c.take.result c.take.ensures.some c.take.ensures.lists t p h (search (rules, c.in-Ok-None.is, c.in-Ok-None.field-0-is))

pub returns-in-Ok-Some-clause-goes : goal.returns-in-Ok-Some-clause-goes
returns-in-Ok-Some-clause-goes g c = λ t p h.
    let said : c.is_wanted.result ≡ true = search (rules, c.if-not-is_wanted.false) in
    let e = c.step_part.ensures in
    on_both c.step_part.result _ _ (ok_pair c.step_part.result _ _ e.stepped (ok_pair c.step_part.result _ _ e.rest e.moved)) (λ m.
    hand_goes c.args.x c.args.self.now (λ t p h. sym (c.is_wanted.ensures t.frame p h.cache) ∙ said)
    c.take.new.self c.take.result c.take.ensures.some c.take.ensures.lists t p h c.in-Ok-Some.part
    (search (rules, c.in-Ok-Some.is, c.in-Ok-Some.field-0-is, c.in-Ok-Some.part-is))
    c.step_part.new.self (m.0 t.frame) m.1.0 m.1.1)

pub returns-in-Err-clause-goes : goal.returns-in-Err-clause-goes
returns-in-Err-clause-goes g c = λ t p h.
    let said : c.is_wanted.result ≡ true = search (rules, c.if-not-is_wanted.false) in
    let e = c.fail_by.ensures in
    on_both c.fail_by.result _ _
    (ok_pair c.fail_by.result _ _ (ok_pair c.fail_by.result _ _ e.other e.stepped)
    (ok_pair c.fail_by.result _ _ e.rest (ok_pair c.fail_by.result _ _ e.moved e.steps))) (λ m.
    err_goes c.args.x c.args.self.now (λ t p h. sym (c.is_wanted.ensures t.frame p h.cache) ∙ said)
    c.take.new.self c.take.result c.take.ensures.some c.take.ensures.lists t p h c.in-Err.e c.in-Err.is m.0.0
    c.fail_by.new.self (m.0.1 t.frame) m.1.0 m.1.1.0 m.1.1.1)

pub returns-in-Err-clause-news : goal.returns-in-Err-clause-news
returns-in-Err-clause-news g c =
    on_both c.fail_by.result _ _ c.fail_by.ensures.rest (λ rest. still_news c.args.self.now c.take.new.self c.fail_by.new.self c.take.ensures.lists.0 rest)

pub returns-in-Err-clause-round : goal.returns-in-Err-clause-round
returns-in-Err-clause-round g c = on_both c.fail_by.result _ _ c.fail_by.ensures.rest (λ rest. rest.round)
