use Rattle.hc_msg.proofs.Sizes.{size_in_is}
use Rattle.hc_msg.proofs.laws.chunk_lines_are_read_by_equations.Goals as goal

pub returns : goal.returns
returns c = size_in_is
