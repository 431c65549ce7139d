-- What the serving loop comes to, in the terms of the cache's laws.
use Rattle.std.specs.Prelude.{◌≡◌, true}
use Rattle.hc_rules.specs.declared.room.Limits.{Limits}
use Rattle.hc_model.specs.Beginnings.{may_begin}
use Rattle.hc_model.specs.Reads.{ReadsWhole}
use Rattle.hc_model.specs.Runs.{IsRun}
use Rattle.hc_model.specs.Tables.{tables}
use Rattle.hc_wire.specs.Logs.{Log}
use Rattle.hc_proxy.specs.Rows.{Proxy, Setting}
use Rattle.hc_proxy.specs.Turns.{behind_all}

-- What was stepped is a run of a store that begins with these contents, and the tables are those behind it. Each
-- consumer reads one answer whole.
pub record IsRunOfLoop (limits : Limits) (setting : Setting) (p : Proxy) : Type 0 where
  pub run : IsRun limits setting.contents p.history
  pub behind : p.tables ≡ tables setting.contents p.history
  pub whole : ReadsWhole setting.contents p.history

-- So it is whatever a log says, from all contents with which a store may begin.
abbrev pub LoopsAreRuns : Type 0
LoopsAreRuns =
    (limits : Limits) (setting : Setting) (log : Log) → may_begin limits setting.contents ≡ true →
    IsRunOfLoop limits setting (behind_all limits setting log)
