-- Where runs end and how many bytes they have, told run by run.
use Rattle.std.proofs.Common.{◌≡◌, ℕ, ◌+◌, ◌≤◌, max, List}
use Rattle.hc_sparse.specs.declared.run.Run.{Run}
use Rattle.hc_model.specs.{Beginnings.{ascend_from}, Tables.{last_end, bytes_in}}

-- all that was seen of the runs, before these
pub record IsSeen (runs rest : List Run) (end bytes x total : ℕ) : Type 0 where
  pub is_sorted : ascend_from 0 0 runs ≡ ascend_from end x rest
  pub ends : last_end runs ≡ max end (last_end rest)
  pub counts : bytes_in runs ≡ bytes + bytes_in rest
  pub within : bytes ≤ end
  pub below : end ≤ total
