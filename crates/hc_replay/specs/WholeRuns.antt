-- A run in which each consumer reads one answer whole.
use Rattle.hc_model.specs.Entries.{Contents, History}
use Rattle.hc_model.specs.Reads.{ReadsWhole}
use Rattle.hc_model.specs.Runs.{IsRun}
use Rattle.hc_rules.specs.declared.room.Limits.{Limits}

-- It is a run over these limits from these contents, in which each consumer reads one answer whole.
pub record IsWholeRun (limits : Limits) (contents : Contents) (h : History) : Type 0 where
  pub run : IsRun limits contents h
  pub reads : ReadsWhole contents h
