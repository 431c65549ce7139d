-- What a session keeps of a text: the schedule that goes on, if events come by one.
use Rattle.std.specs.Prelude.{ℕ, List, [], Option, Some, None}
use Rattle.hc_piecewise.specs.Schedules.{MayGoOn, progress_in, entries_in, report_in, given_in, refusal_in}
use Rattle.hc_piecewise.specs.declared.schedule.Schedule.{Schedule}
use Rattle.hc_sched.specs.Reading.{Progress, beginning}
use Rattle.hc_sched.specs.declared.schedule.Refused.{Refused}

-- where the reading stands: before the first piece at the beginning, at this moment
abbrev pub progress_of : ℕ → Option Schedule → Progress
progress_of moment None = beginning moment
progress_of moment (Some t) = progress_in t

-- how many entries its report has so far
abbrev pub entries_of : Option Schedule → ℕ
entries_of None = 0
entries_of (Some t) = entries_in t

-- the report of its last piece
abbrev pub report_of : Option Schedule → List ℕ
report_of None = []
report_of (Some t) = report_in t

-- how many bytes were handed in
abbrev pub given_of : Option Schedule → ℕ
given_of None = 0
given_of (Some t) = given_in t

-- where it is refused, if it is
abbrev pub refusal_of : Option Schedule → Option Refused
refusal_of None = None
refusal_of (Some t) = refusal_in t

-- whatever comes next of it may be stepped by who has taken so many steps and bytes, up to this moment
abbrev pub MayReadOn : Option Schedule → ℕ → ℕ → ℕ → Type 0
MayReadOn None moment steps received = Unit {0}
MayReadOn (Some t) moment steps received = MayGoOn moment steps received t
