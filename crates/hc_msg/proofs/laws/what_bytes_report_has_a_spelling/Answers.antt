use Rattle.hc_msg.proofs.Spelled.{tokens_spelled}
use Rattle.hc_msg.proofs.laws.what_bytes_report_has_a_spelling.Goals as goal

pub returns : goal.returns
returns c = tokens_spelled
