use Rattle.std.proofs.Common.{rules}
use Rattle.hc_handle.proofs.Coming.{reads_none}
use Rattle.hc_handle.proofs.calls.schedule.Goals as goal

pub returns-in_default-clause-read : goal.returns-in_default-clause-read
returns-in_default-clause-read c = reads_none _ _ _ (search rules) (search rules)
