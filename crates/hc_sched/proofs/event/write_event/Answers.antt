use Rattle.hc_sched.proofs.Spelled.{read_back}
use Rattle.hc_sched.proofs.event.write_event.Goals as goal

pub returns-then-is_err-clause-read_back : goal.returns-then-is_err-clause-read_back
returns-then-is_err-clause-read_back c =
    read_back c.args.last c.args.timed.now c.requires.event c.requires.moment c.requires.later

pub returns-else-is_err-clause-read_back : goal.returns-else-is_err-clause-read_back
returns-else-is_err-clause-read_back c =
    read_back c.args.last c.args.timed.now c.requires.event c.requires.moment c.requires.later
