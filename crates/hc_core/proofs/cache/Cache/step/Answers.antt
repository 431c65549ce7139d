use Rattle.std.proofs.{Common.{ℕ, ◌+◌, refl, sym, subst, arith}, Math.Logic.{∥∥₁_map}}
use Rattle.hc_effects.proofs.Vocabulary.{act_list, refusal_of}
use Rattle.hc_effects.proofs.Basics.{some_row}
use Rattle.hc_state.specs.{Good.{StandsAt}, Stands.{gate_of}}
use Rattle.hc_core.proofs.{Opened.{next_after}, Stepping.{small_part, fewer, until_at, some_after, small_starts, steps_on, keeps_promises}}
use Rattle.hc_core.proofs.cache.Cache.step.Goals as goal

pub answer-requires-clause-stands : goal.answer-requires-clause-stands
answer-requires-clause-stands g c =
    let good = c.args.self.now.good c.if-self.false in
    let later = c.requires.later in
    let small = small_part _ c.requires.small in
    ∥∥₁_map good.0 (λ at. (fewer at.0 (omega (arith, small)), (let before = at.1 in omega (arith, before, later))))

pub invariant_of-self-2 : goal.invariant_of-self-2
invariant_of-self-2 g c =
    let good = c.args.self.now.good c.if-self.false in
    let few = good.1 in
    let some = ∥∥₁_map good.0 (until_at c.args.self.now.rows c.args.self.now.received c.args.self.now.last_moment) in
    let done = c.in_ok-answer.ensures in
    let next = next_after c.args.self.now.rows c.answer.new.rows (act_list c.args.out.now) (act_list c.answer.new.out) c.args.now c.args.event.now
    done.denied done.accepted c.args.self.now.received (small_part _ c.requires.small) c.args.self.now.last_moment some in
    record {
      good = λ _. (
        subst (λ (n : ℕ). ∥ StandsAt c.answer.new.rows (c.args.self.now.received + n) c.args.now ∥₁) (sym c.received_in.ensures)
            (∥∥₁_map some (some_after c.args.self.now.rows c.answer.new.rows c.args.now c.args.event.now (act_list c.args.out.now) (act_list c.answer.new.out)
            done.denied done.accepted done.faults c.args.self.now.received (small_part _ c.requires.small) c.requires.within_limits
            c.args.self.now.last_moment c.requires.later)),
        omega (arith, few, next),
        c.requires.early,
        small_starts c.args.self.now.rows c.answer.new.rows c.args.now c.args.event.now (act_list c.args.out.now) (act_list c.answer.new.out) done.denied
            done.accepted done.faults c.args.self.now.received (small_part _ c.requires.small) c.requires.within_limits c.args.self.now.last_moment
            c.requires.later some good.3,
      );
    }

pub returns-clause-answered : goal.returns-clause-answered
returns-clause-answered g c =
    let good = c.args.self.now.good c.if-self.false in
    let done = c.in_ok-answer.ensures in
    steps_on c.args.self.now _ c.args.now c.args.event.now (act_list c.args.out.now) (act_list c.answer.new.out) done.denied done.accepted
    c.requires.later refl done.faults (small_part _ c.requires.small)
    (∥∥₁_map good.0 (until_at c.args.self.now.rows c.args.self.now.received c.args.self.now.last_moment)) refl

pub returns-clause-denied : goal.returns-clause-denied
returns-clause-denied g c = λ some.
    let (why, is) = some_row (refusal_of (gate_of c.args.self.now.rows c.args.event.now) c.args.event.now) some in
    (c.in_ok-answer.ensures.denied why is).0

pub returns-then-self-clause-promised : goal.returns-then-self-clause-promised
returns-then-self-clause-promised g c = keeps_promises c.args.self.now

pub returns-in_err-answer-clause-promised : goal.returns-in_err-answer-clause-promised
returns-in_err-answer-clause-promised g c = keeps_promises _

pub returns-clause-promised : goal.returns-clause-promised
returns-clause-promised g c = keeps_promises _
