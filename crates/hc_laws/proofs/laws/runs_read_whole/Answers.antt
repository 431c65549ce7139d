use Rattle.hc_laws.proofs.ReadWhole.{runs_read_whole}
use Rattle.hc_laws.proofs.laws.runs_read_whole.Goals as goal

pub returns : goal.returns
returns c = runs_read_whole
