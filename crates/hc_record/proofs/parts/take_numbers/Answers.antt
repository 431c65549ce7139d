use Rattle.hc_record.proofs.Once.{no_second, no_third, no_fourth, no_fifth}
use Rattle.hc_record.proofs.parts.take_numbers.Goals as goal

pub returns-in_err-requested : goal.returns-in_err-requested
returns-in_err-requested c = rw c.from_residual-in_err-requested.ensures (λ n after small.
    no_second n c.in_ok-status.status c.args.text.now c.take_number.new.self after c.in_ok-status.ensures.0 c.in_ok-status.ensures.1
    c.in_err-requested.ensures small)

pub returns-in_err-answered : goal.returns-in_err-answered
returns-in_err-answered c = rw c.from_residual-in_err-answered.ensures (λ n after small.
    no_third n c.in_ok-status.status c.in_ok-requested.requested c.args.text.now c.take_number.new.self c.take_number-2.new.self after
    c.in_ok-status.ensures.0 c.in_ok-status.ensures.1 c.in_ok-requested.ensures.0 c.in_ok-requested.ensures.1 c.in_err-answered.ensures small)

pub returns-in_err-vary_count : goal.returns-in_err-vary_count
returns-in_err-vary_count c = rw c.from_residual-in_err-vary_count.ensures (λ n after small.
    no_fourth n c.in_ok-status.status c.in_ok-requested.requested c.in_ok-answered.answered c.args.text.now c.take_number.new.self
    c.take_number-2.new.self c.take_number-3.new.self after c.in_ok-status.ensures.0 c.in_ok-status.ensures.1 c.in_ok-requested.ensures.0
    c.in_ok-requested.ensures.1 c.in_ok-answered.ensures.0 c.in_ok-answered.ensures.1 c.in_err-vary_count.ensures small)

pub returns-in_err-count : goal.returns-in_err-count
returns-in_err-count c = rw c.from_residual-in_err-count.ensures (λ n after small.
    no_fifth n c.in_ok-status.status c.in_ok-requested.requested c.in_ok-answered.answered c.in_ok-vary_count.vary_count c.args.text.now
    c.take_number.new.self c.take_number-2.new.self c.take_number-3.new.self c.take_number-4.new.self after c.in_ok-status.ensures.0
    c.in_ok-status.ensures.1 c.in_ok-requested.ensures.0 c.in_ok-requested.ensures.1 c.in_ok-answered.ensures.0 c.in_ok-answered.ensures.1
    c.in_ok-vary_count.ensures.0 c.in_ok-vary_count.ensures.1 c.in_err-count.ensures small)
