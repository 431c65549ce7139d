-- What serving promises: what happened is a run, in which each consumer reads one answer whole.
use Rattle.std.specs.Prelude.{◌≡◌, ℕ, false, List, Option, Some, None, IfSome}
use Rattle.hc_model.specs.Entries.{no_contents}
use Rattle.hc_rules.specs.declared.room.Limits.{Limits}
use Rattle.hc_sched.specs.declared.schedule.Ended.{Ended}
use Rattle.hc_wire.specs.Logs.{Log}
use Rattle.hc_proxy.specs.Endings.{Serves}
use Rattle.hc_proxy.specs.Laws.{IsRunOfLoop}
use Rattle.hc_proxy.specs.Turns.{behind_all}
use Rattle.hc_proxy.specs.Rows.{Setting, setting_of}

-- The same of what the wire tells, if it tells anything, where the store begins with these contents: what was bound
-- stays, and what happened is a run from them, in which each consumer reads one answer whole.
abbrev pub ServesWith : Limits → Setting → ℕ → Option Log → Option Log → Option (List ℕ) → Option (List ℕ) → Ended → Type 0
ServesWith limits setting turns reported None out out' end = Unit {0}
ServesWith limits setting turns reported (Some log) out out' end =
    Serves limits setting turns log out out' end
    × IsRunOfLoop limits setting (behind_all limits setting log)
    × IfSome reported (λ old. log.bound ≡ old.bound)

-- where it begins empty
abbrev pub ServesAs : Limits → ℕ → Option Log → Option Log → Option (List ℕ) → Option (List ℕ) → Ended → Type 0
ServesAs limits turns reported reported' out out' end =
    ServesWith limits (setting_of no_contents false) turns reported reported' out out' end
