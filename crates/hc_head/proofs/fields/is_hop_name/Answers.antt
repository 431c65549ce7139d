use Rattle.hc_head.proofs.HopNames.{hop_of_16}
use Rattle.hc_head.proofs.fields.is_hop_name.Goals as goal

pub returns-in-16 : goal.returns-in-16
returns-in-16 c = hop_of_16 c.args.name.now _ c.in-16.is c.is_name-in-16.ensures
