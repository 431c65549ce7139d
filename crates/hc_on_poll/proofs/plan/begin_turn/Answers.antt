use Rattle.std.{proofs.Common.{nat_eq, ap, ◌∙◌}, specs.HashMap.{get}}
use Rattle.hc_exch.specs.Exchanges.{next_of}
use Rattle.hc_state.specs.Plans.{IsIdle, IsOfItsKey}
use Rattle.hc_on_poll.specs.Ready.{MayAsk}
use Rattle.hc_state.proofs.{Maps.{known_of, some_that, merely_true, merely_number}, Words.{there}}
use Rattle.hc_on_poll.proofs.{PlanHandlers.{may_queue}, FetchHandler.{holds_inside, holds_turn, stands_turned}}
use Rattle.hc_on_poll.proofs.plan.begin_turn.Goals as goal

pub hold-requires-clause-inside : goal.hold-requires-clause-inside
hold-requires-clause-inside g c =
    let r = c.args.rows.now in
    let row = get nat_eq r.consumers c.args.c in
    let (k, at, asks) = there row (MayAsk r.keys c.args.c) c.requires.asks in
    merely_true _ c.requires.opens.stands (λ s.
    holds_inside r c.queue_again.new.rows s.t s.facts.law c.args.c c.args.request.now k s.rows at
    asks.idle asks.next (known_of row k (IsOfItsKey c.args.request.now) at c.requires.key) c.queue_again.ensures.stands)

pub hold-requires-clause-turn : goal.hold-requires-clause-turn
hold-requires-clause-turn g c =
    let r = c.args.rows.now in
    let row = get nat_eq r.consumers c.args.c in
    let (k, at, asks) = there row (MayAsk r.keys c.args.c) c.requires.asks in
    merely_number _ c.args.c c.requires.opens.stands (λ s.
    holds_turn r c.queue_again.new.rows s.t s.facts.law c.args.c c.args.request.now k s.rows at
    asks.idle asks.next (known_of row k (IsOfItsKey c.args.request.now) at c.requires.key) c.queue_again.ensures.stands)

pub queue_again-requires : goal.queue_again-requires
queue_again-requires g c =
    let r = c.args.rows.now in
    let row = get nat_eq r.consumers c.args.c in
    let (k, at, asks) = there row (MayAsk r.keys c.args.c) c.requires.asks in
    record { queues = may_queue r c.requires.opens.stands c.args.now c.args.c (some_that row k IsIdle at asks.idle) }

pub returns-clause-begun : goal.returns-clause-begun
returns-clause-begun g c =
    let r = c.args.rows.now in
    let row = get nat_eq r.consumers c.args.c in
    let (k, at, asks) = there row (MayAsk r.keys c.args.c) c.requires.asks in
    let queued = c.queue_again.ensures in
    let launch = c.in_ok-x.ensures in
    let number = launch.number ∙ ap (λ e. next_of e) queued.rest.exchanges in
    record {
      number = number;
      rows = λ limits t v facts stands row_is.
          stands_turned r c.queue_again.new.rows c.launch.new.self c.hold.new.self c.take_turn.new.consumers t facts.law c.args.now c.args.c c.in_ok-x.x
          c.args.need c.args.request.now c.current-aim.result k v stands at row_is
          asks.idle asks.next c.requires.turns (known_of row k (IsOfItsKey c.args.request.now) at c.requires.key) number c.current-aim.ensures
          queued.stands queued.consumer queued.rest.last_start queued.rest.entries queued.rest.exchanges launch.next launch.ok c.hold.ensures
          c.take_turn.ensures;
    }
