use Rattle.std.proofs.Common.{arith, rules, subst}
use Rattle.hc_proxy.specs.Hearing.{IsFit}
use Rattle.hc_proxy.proofs.{HeardOne.{few_bytes, take_stands, first_within, mid_stands, piece_passes, piece_denied}, Outcomes.{on_three}}
use Rattle.hc_proxy.proofs.proxy.Proxy.step_part.Goals as goal

pub happen-requires-clause-stands : goal.happen-requires-clause-stands
happen-requires-clause-stands g c = take_stands c.args.part c.args.self.now c.requires.may

pub happen-requires-clause-small : goal.happen-requires-clause-small
happen-requires-clause-small g c = few_bytes c.args.self.now (take_stands c.args.part c.args.self.now c.requires.may) 0 (omega arith)

pub happen-requires-in-Piece-clause-stands : goal.happen-requires-in-Piece-clause-stands
happen-requires-in-Piece-clause-stands g c = take_stands c.args.part c.args.self.now c.requires.may

pub happen-requires-in-Piece-clause-spelled : goal.happen-requires-in-Piece-clause-spelled
happen-requires-in-Piece-clause-spelled g c = (c.requires.small, subst IsFit c.in-Piece.is c.requires.fit, search rules)

pub happen-requires-in-Piece-clause-small : goal.happen-requires-in-Piece-clause-small
happen-requires-in-Piece-clause-small g c =
    few_bytes c.args.self.now (take_stands c.args.part c.args.self.now c.requires.may) _ (subst IsFit c.in-Piece.is c.requires.fit)

pub happen-requires-in-End-clause-stands : goal.happen-requires-in-End-clause-stands
happen-requires-in-End-clause-stands g c = take_stands c.args.part c.args.self.now c.requires.may

pub happen-requires-in-End-clause-small : goal.happen-requires-in-End-clause-small
happen-requires-in-End-clause-small g c = few_bytes c.args.self.now (take_stands c.args.part c.args.self.now c.requires.may) 0 (omega arith)

pub is_denied-requires : goal.is_denied-requires
is_denied-requires g c =
    let e = c.in_ok-first-in-Piece.ensures in
    first_within c.args.self.now c.happen-in-Piece.new.self c.args.x c.args.part c.in-Piece.bytes c.in-Piece.is e.stepped _ e.first c.requires.may

pub fail-requires-clause-stands : goal.fail-requires-clause-stands
fail-requires-clause-stands g c =
    let e = c.in_ok-first-in-Piece.ensures in
    mid_stands c.args.self.now c.happen-in-Piece.new.self c.args.x c.args.part c.in-Piece.bytes c.in-Piece.is e.stepped _ e.first c.requires.may

pub returns-then-is_denied-clause-stepped : goal.returns-then-is_denied-clause-stepped
returns-then-is_denied-clause-stepped g c =
    let e = c.in_ok-first-in-Piece.ensures in
    on_three c.fail.result _ _ _ _ c.fail.ensures.stepped c.fail.ensures.rest c.fail.ensures.steps (λ fault rest one.
    piece_denied c.args.self.now c.happen-in-Piece.new.self c.args.x c.args.part c.in-Piece.bytes c.in-Piece.is e.stepped _ e.first
    e.rest e.moved e.steps c.is_denied.result c.is_denied.ensures c.if-is_denied.true c.fail.new.self fault rest one)

pub returns-else-is_denied-clause-stepped : goal.returns-else-is_denied-clause-stepped
returns-else-is_denied-clause-stepped g c =
    let e = c.in_ok-first-in-Piece.ensures in
    piece_passes c.args.self.now c.happen-in-Piece.new.self c.args.x c.args.part c.in-Piece.bytes c.in-Piece.is e.stepped _ e.first
    e.rest e.moved e.steps c.is_denied.result c.is_denied.ensures c.if-is_denied.false
