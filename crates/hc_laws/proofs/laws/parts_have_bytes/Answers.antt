-- A range that is read has bytes.
use Rattle.hc_laws.proofs.PartRuns.{parts_in_runs}
use Rattle.hc_laws.proofs.laws.parts_have_bytes.Goals as goal

pub returns : goal.returns
returns c = parts_in_runs
