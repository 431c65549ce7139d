use Rattle.hc_rules.proofs.Numbers.{number_of-read}
use Rattle.hc_head.proofs.lengths.number_of.Goals as goal

pub returns : goal.returns
returns c = number_of-read c.args.text.now c.read_number.result c.read_number.ensures.found c.read_number.ensures.none
