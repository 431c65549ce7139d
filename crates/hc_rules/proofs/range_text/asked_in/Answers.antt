use Rattle.hc_rules.proofs.RangeReads.{asked_in-read}
use Rattle.hc_rules.proofs.range_text.asked_in.Goals as goal

pub returns-clause-value : goal.returns-clause-value
returns-clause-value c = asked_in-read c.args.text.now c.read_range.result c.read_range.ensures.found c.read_range.ensures.spelled
