use Rattle.hc_validate.proofs.Sizes.{large, plain}
use Rattle.hc_validate.proofs.asking.size_in.Goals as goal

pub returns-then-n-le-MOST-clause-value : goal.returns-then-n-le-MOST-clause-value
returns-then-n-le-MOST-clause-value c = plain c.args.text.now c.in_ok-n.n c.in_ok-n.ensures.found c.if-n-le-MOST.true

pub returns-else-n-le-MOST-clause-value : goal.returns-else-n-le-MOST-clause-value
returns-else-n-le-MOST-clause-value c = large c.args.text.now c.in_ok-n.n c.in_ok-n.ensures.found c.if-n-le-MOST.false
