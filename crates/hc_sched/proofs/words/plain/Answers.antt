use Rattle.hc_sched.proofs.Plain.{plain_short}
use Rattle.hc_sched.proofs.words.plain.Goals as goal

pub returns-clause-short : goal.returns-clause-short
returns-clause-short c = plain_short c.args.text.now c.read_plain.result c.read_plain.ensures.found
