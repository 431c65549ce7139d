use Rattle.std.proofs.{Common.{◌≡◌, ◌<◌, [], length, rules, sym, ◌∙◌, eqb-true}, lemmas.List.{nil_from_length}}
use Rattle.hc_peers.proofs.{Sends.{some-second, offers-second, some-third, offers-third}, Outcomes.{on-err, ok-map, err-map}}
use Rattle.hc_peers.proofs.outbox.Outbox.offer.Goals as goal

pub returns-in_err-offer-2-clause-err : goal.returns-in_err-offer-2-clause-err
returns-in_err-offer-2-clause-err g c =
    let none : c.offer.new.self ≡ [] =
    nil_from_length c.offer.new.self (eqb-true _ _ (sym c.is_empty.ensures ∙ (let on = c.if-not-is_empty.false in search rules))) in
    on-err c.from_residual-in_err-offer-2.result _ (rw (← c.self.view_is)
    (some-second c.args.k c.self.inside.front c.self.inside.body c.self.inside.back _ _ _ _ c.in_ok-offer.ensures.ok none c.in_err-offer-2.ensures.err))

pub returns-then-not-is_empty-2-clause-ok : goal.returns-then-not-is_empty-2-clause-ok
returns-then-not-is_empty-2-clause-ok g c =
    let none : c.offer.new.self ≡ [] =
    nil_from_length c.offer.new.self (eqb-true _ _ (sym c.is_empty.ensures ∙ (let on = c.if-not-is_empty.false in search rules))) in
    let some : 0 < length c.offer-2.new.self = let off = c.if-not-is_empty-2.true in let is = c.is_empty-2.ensures in search rules in
    rw (← c.self.view_is) (offers-second c.args.k c.self.inside.front c.self.inside.body c.self.inside.back _ _ _ _ c.in_ok-offer.ensures.ok none _
    c.in_ok-offer-2.ensures.ok some)

pub returns-clause-ok : goal.returns-clause-ok
returns-clause-ok g c =
    let none : c.offer.new.self ≡ [] =
    nil_from_length c.offer.new.self (eqb-true _ _ (sym c.is_empty.ensures ∙ (let on = c.if-not-is_empty.false in search rules))) in
    let none' : c.offer-2.new.self ≡ [] =
    nil_from_length c.offer-2.new.self (eqb-true _ _ (sym c.is_empty-2.ensures ∙ (let on = c.if-not-is_empty-2.false in search rules))) in
    ok-map c.offer-3.result _ _ (λ third. rw (← c.self.view_is)
    (offers-third c.args.k c.self.inside.front c.self.inside.body c.self.inside.back _ _ _ _ c.in_ok-offer.ensures.ok none _ _ _
    c.in_ok-offer-2.ensures.ok none' third))
    c.offer-3.ensures.ok

pub returns-clause-err : goal.returns-clause-err
returns-clause-err g c =
    let none : c.offer.new.self ≡ [] =
    nil_from_length c.offer.new.self (eqb-true _ _ (sym c.is_empty.ensures ∙ (let on = c.if-not-is_empty.false in search rules))) in
    let none' : c.offer-2.new.self ≡ [] =
    nil_from_length c.offer-2.new.self (eqb-true _ _ (sym c.is_empty-2.ensures ∙ (let on = c.if-not-is_empty-2.false in search rules))) in
    err-map c.offer-3.result _ _ (λ third. rw (← c.self.view_is)
    (some-third c.args.k c.self.inside.front c.self.inside.body c.self.inside.back _ _ _ _ c.in_ok-offer.ensures.ok none _ _ c.in_ok-offer-2.ensures.ok
    none' third))
    c.offer-3.ensures.err
