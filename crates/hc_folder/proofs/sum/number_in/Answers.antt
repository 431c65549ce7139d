use Rattle.std.proofs.lemmas.Nat.{le_bytes_8}
use Rattle.hc_folder.specs.Sums.{number_bytes}
use Rattle.hc_folder.proofs.sum.number_in.Goals as goal

pub returns-clause-bytes : goal.returns-clause-bytes
unfolding number_bytes
returns-clause-bytes c = le_bytes_8 c.args.bytes.now c.from_le_bytes.result c.requires (λ i. (c.type_inv.bytes i).fits) c.from_le_bytes.ensures
