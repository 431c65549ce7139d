-- What is to be done for a consumer that reads nothing yet (RFC 9111 section 4): the first row that applies.
use Rattle.std.specs.Prelude.{ℕ, ◌+◌, Bool, Option, Some, None, is_none, if◌then◌else◌, ◌==◌, ◌||◌, ◌&&◌, not, nat_le, unwrap_or}
use Rattle.hc_range.specs.declared.range.Span.{Span}
use Rattle.hc_event.specs.declared.act.Need.TheVariants as need
use Rattle.hc_event.specs.declared.act.Why.{Why}
use Rattle.hc_event.specs.declared.act.Why.TheVariants as why
use Rattle.hc_rules.specs.declared.request.Wanted.{Wanted}
use Rattle.hc_rules.specs.declared.request.Wanted.TheVariants as wants
use Rattle.hc_rules.specs.declared.plan.Plan.{Plan}
use Rattle.hc_rules.specs.declared.plan.Plan.TheVariants as plan
use Rattle.hc_rules.specs.declared.plan.Candidate.{Candidate}
use Rattle.hc_rules.specs.declared.plan.PlanView.{PlanView}

-- rows "total unknown" and "waits for the writer group": no consumer has the number 0
abbrev pub busy : PlanView → Option ℕ → Plan
busy v least = plan.Busy (unwrap_or least 0) v.kept

-- row "a hole": whoever comes first fills it alone
abbrev pub by_bound : PlanView → Span → Span → Option ℕ → Plan
by_bound v span hole (Some d) = plan.Busy d v.kept
by_bound v span hole None = plan.FirstHole span hole

-- row "all stored"
abbrev pub by_hole : PlanView → Candidate → Why → Span → Option Span → Plan
by_hole v s why span None = plan.Bind why (Some span)
by_hole v s why span (Some hole) = by_bound v span hole s.least_bound

-- row "waits for the exclusive writer"
abbrev pub by_exclusive : PlanView → Candidate → Why → Span → Option ℕ → Plan
by_exclusive v s why span (Some d) = plan.Busy d v.kept
by_exclusive v s why span None = by_hole v s why span s.hole

-- an interval of it, while its writer group isn't on
abbrev pub alone_on : PlanView → Candidate → Why → Span → Plan
alone_on v s why span = by_exclusive v s why span s.exclusive

-- rows "total unknown", "unsatisfiable" and "waits for the writer group"
abbrev pub by_wanted : PlanView → Candidate → Why → Wanted → Plan
by_wanted v s why wants.TotalUnknown = busy v s.least_bound
by_wanted v s why wants.Unsatisfiable = plan.Direct need.Unsatisfied
by_wanted v s why (wants.Interval span) =
    if s.writer_group then busy v s.least_bound else alone_on v s why span

-- row "joins the writer group": without a range, so none of the rows above it apply
abbrev pub plan_on : PlanView → Candidate → Why → Plan
plan_on v s why =
    if is_none v.class.range && s.writer_group then plan.Bind why None
    else by_wanted v s why s.span

-- why it may read: the 304 that it kept, or what freshness allows
abbrev pub why_by : Option ℕ → Option Why → Option Why
why_by (Some x) allowed = Some (why.Validated x)
why_by None allowed = allowed

-- row "needs validation"
abbrev pub by_why : PlanView → Candidate → Option Why → Plan
by_why v s None = plan.Fetch need.Validate
by_why v s (Some why) = plan_on v s why

-- rows "nothing stored" and "Vary differs"
abbrev pub by_current : PlanView → Option Candidate → Plan
by_current v None = plan.Fetch need.Miss
by_current v (Some s) =
    if s.vary then by_why v s (why_by v.kept s.allowed) else plan.Fetch need.Vary

abbrev pub allowed_by : Option Candidate → Option Why
allowed_by None = None
allowed_by (Some s) = s.allowed

-- row "back in line": it may not read any more, and kept no 304
abbrev pub is_back : PlanView → Bool
is_back v = is_none v.kept && is_none (allowed_by v.current)

-- row "waits for the turn"
abbrev pub queues : PlanView → Bool
queues v = (not v.passed || is_back v) && not (v.turn == v.c) && not v.class.only

-- rows "disabled" to "bypasses", and the others
abbrev pub bare_plan : PlanView → Plan
bare_plan v =
    if v.class.disabled then plan.Direct need.Disabled
    else if queues v then plan.Turn v.turn
    else if v.class.bypassing then plan.Fetch need.Bypass
    else by_current v v.current

-- after so many seconds nobody waits for another any more
abbrev pub longest_wait : ℕ
longest_wait = 20

-- whoever waited so long goes past the store
abbrev pub in_time : PlanView → Plan → Plan
in_time v (plan.Turn d) = if nat_le (v.since + longest_wait) v.moment then plan.Direct need.TimedOut else plan.Turn d
in_time v (plan.Busy d kept) = if nat_le (v.since + longest_wait) v.moment then plan.Direct need.TimedOut else plan.Busy d kept
in_time v p = p

-- without asking the origin
abbrev pub from_store : Plan → Plan
from_store (plan.Bind why span) = plan.Bind why span
from_store _ = plan.Miss

unfoldable pub plan_of : PlanView → Plan
plan_of v = if v.class.only then from_store (bare_plan v) else in_time v (bare_plan v)
