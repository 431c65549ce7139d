-- Laws of texts: however one is cut, its report is one, and it is the one that a replay has.
use Rattle.std.specs.Prelude.{◌≡◌, ℕ, List, [], ◌++◌, false, Some, None}
use Rattle.hc_core.specs.Steps.{last_moment}
use Rattle.hc_driver.specs.Endings.{Ends}
use Rattle.hc_replay.specs.Replays.{Replays}
use Rattle.hc_sched.specs.Reading.{refusal_at}
use Rattle.hc_sched.specs.declared.schedule.Ended.TheVariants as ended
use Rattle.hc_sched.specs.declared.schedule.Refused.{Refused}
use Rattle.hc_handle.specs.Sessions.{has_text}
use Rattle.hc_handle.specs.Texts.{IsReported, IsReadOn, progress_at, report_at}
use Rattle.hc_handle.specs.declared.session.Session.{Session}

-- Two pieces are as one. So the reports of any number of pieces, one after another, are the report of the whole text.
abbrev pub AreTextsAsOne : Type 0
AreTextsAsOne =
    (s t u : Session) (text piece report : List ℕ) → IsReported s t text report → IsReadOn t u piece →
    IsReported s u (text ++ piece) (report ++ report_at u)

-- A whole text that isn't refused: its report is the one that `replay` makes of it over this cache, and leads to the same.
abbrev pub AreReplayed : Type 0
AreReplayed =
    (s u : Session) (text report : List ℕ) → has_text s ≡ false → IsReported s u text report → refusal_at (progress_at u) ≡ None →
    Ends (Replays s.cache u.cache (Some []) (Some report)) (last_moment s.cache) (Some text) (Some []) ended.Done

-- A text that is refused, at a line or since it is cut short at its end: its report is the one that `replay` makes of it over this cache,
-- which refuses it so too, and leads to the same.
abbrev pub AreRefusedAlike : Type 0
AreRefusedAlike =
    (s u : Session) (text report : List ℕ) (refused : Refused) → has_text s ≡ false → IsReported s u text report →
    refusal_at (progress_at u) ≡ Some refused →
    (rest : List ℕ) × Ends (Replays s.cache u.cache (Some []) (Some report)) (last_moment s.cache) (Some text) (Some rest) (ended.Refused refused)
