use Rattle.hc_folder.specs.Sums.{number_bytes}
use Rattle.hc_folder.proofs.sum.bytes_of.Goals as goal

pub returns : goal.returns
unfolding number_bytes
returns c = c.to_le_bytes.ensures
