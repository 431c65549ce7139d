use Rattle.std.proofs.Common.{◌++◌, refl, ◌∙◌, subst, ap}
use Rattle.hc_generate.specs.{Hearing.{state_after}, Rounds.{IsRound, IsShortIfMade}}
use Rattle.hc_replay.proofs.GoneOn.{stands_quietly, stands_on}
use Rattle.hc_replay.proofs.rounds.Rounds.go_on.Goals as goal

pub returns-in_default : goal.returns-in_default
returns-in_default c = λ limits seed n before.
    stands_quietly limits seed n c.args.self.now _ c.wanted.result.now before refl c.wanted.ensures.ascending c.wanted.ensures.wanted
    (subst (λ m. IsRound c.wanted.result.now c.args.self.now.generator m c.next.new.self) c.in_default.is c.in_ok-event.ensures.ok)
    c.next.ensures.later c.next.ensures.moment_grows c.next.ensures.last_grows

pub returns : goal.returns
returns c = λ limits seed n before.
    let reported = c.in_ok-step.ensures.answered in
    stands_on limits seed n c.args.self.now (record { cache = c.step.new.self; generator = c.hear.new.self; acts = c.step.new.out }) c.wanted.result.now
    c.in-Some.event reported.acts c.next.new.self c.moment-now.result before
    c.wanted.ensures.ascending c.wanted.ensures.wanted
    (subst (λ m. IsRound c.wanted.result.now c.args.self.now.generator m c.next.new.self) c.in-Some.is c.in_ok-event.ensures.ok)
    (subst IsShortIfMade c.in-Some.is c.in_ok-event.ensures.short)
    c.next.ensures.later c.next.ensures.moment_grows c.next.ensures.last_grows
    c.moment-now.ensures reported.answered c.in_ok-step.ensures.moment c.in_ok-step.ensures.steps c.in_ok-step.ensures.received
    (c.in_ok-hear.ensures.ok ∙
    ap (λ l. state_after l c.next.new.self) (c.list.ensures ∙ (reported.reported ∙ ap (λ l. l ++ reported.acts) c.clear.ensures.acts)))
