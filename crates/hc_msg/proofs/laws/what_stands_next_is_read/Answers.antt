use Rattle.hc_msg.proofs.NextParts.{stands_next}
use Rattle.hc_msg.proofs.laws.what_stands_next_is_read.Goals as goal

pub returns : goal.returns
returns c = stands_next
