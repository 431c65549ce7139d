use Rattle.hc_record.proofs.Stages.{no_numbers, no_status}
use Rattle.hc_record.proofs.parts.take_first_lines.Goals as goal

pub returns-in_err-numbers : goal.returns-in_err-numbers
returns-in_err-numbers c = rw c.from_residual-in_err-numbers.ensures (λ first after fit.
    no_numbers c.in_ok-version.version c.in_ok-seal.seal c.args.text.now c.take_version.new.self c.take_seal.new.text c.in_ok-version.ensures.1
    c.in_ok-seal.ensures.0 c.in_ok-seal.ensures.1 c.in_err-numbers.ensures first after fit)

pub returns-in_err-status : goal.returns-in_err-status
returns-in_err-status c = rw c.from_residual-in_err-status.ensures (λ first after fit.
    no_status c.in_ok-version.version c.in_ok-seal.seal c.in_ok-numbers.numbers c.args.text.now c.take_version.new.self c.take_seal.new.text
    c.take_numbers.new.text c.in_ok-version.ensures.1 c.in_ok-seal.ensures.0 c.in_ok-seal.ensures.1 c.in_ok-numbers.ensures.0 c.in_ok-numbers.ensures.1
    c.in_err-status.ensures first after fit)
