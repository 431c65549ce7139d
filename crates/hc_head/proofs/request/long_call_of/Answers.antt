use Rattle.hc_head.proofs.Calls.{over_call}
use Rattle.hc_head.proofs.request.long_call_of.Goals as goal

pub returns-in-None : goal.returns-in-None
returns-in-None c = over_call c.args.text.now c.in-None.ensures.none
