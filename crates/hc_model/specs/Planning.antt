-- What is done for a consumer that reads nothing yet (RFC 9111 section 4): the plan, and the move of each plan.
use Rattle.std.specs.Prelude.{ℕ, Bool, true, false, Option, Some, None, is_some, option_and_then, option_map}
use Rattle.hc_range.specs.declared.range.Span.{Span}
use Rattle.hc_event.specs.declared.event.Request.{Request}
use Rattle.hc_event.specs.declared.act.Need.{Need}
use Rattle.hc_event.specs.declared.act.Need.TheVariants as need
use Rattle.hc_event.specs.declared.act.Wait.TheVariants as wait
use Rattle.hc_event.specs.declared.act.Why.{Why}
use Rattle.hc_event.specs.declared.act.Cause.TheVariants as cause
use Rattle.hc_rules.specs.declared.request.Wanted.{Wanted}
use Rattle.hc_rules.specs.declared.request.Wanted.TheVariants as wanted
use Rattle.hc_rules.specs.declared.plan.Plan.{Plan}
use Rattle.hc_rules.specs.declared.plan.Plan.TheVariants as plan
use Rattle.hc_rules.specs.declared.plan.Candidate.{Candidate}
use Rattle.hc_rules.specs.declared.plan.PlanView.{PlanView}
use Rattle.hc_rules.specs.Plans.{plan_of}
use Rattle.hc_rules.specs.Requests.{class_of, range_of, wanted_of}
use Rattle.hc_rules.specs.Admissions.{least}
use Rattle.hc_fresh.specs.Facts.{allowed}
use Rattle.hc_fresh.specs.Vary.{matches_vary}
use Rattle.hc_validate.specs.Conditions.{conditional}
use Rattle.hc_event.specs.declared.place.Place.{Place}
use Rattle.hc_event.specs.declared.place.Place.TheVariants as place
use Rattle.hc_model.specs.Rows.{Tables, Representation, Consumer}
use Rattle.hc_model.specs.Currents.{current, row_of, total_in}
use Rattle.hc_model.specs.Holes.{first_hole}
use Rattle.hc_model.specs.Reading.{bound, is_written}
use Rattle.hc_model.specs.Writers.{exclusive}
use Rattle.hc_model.specs.Lines.{turn_with}
use Rattle.hc_model.specs.ConsumerRows.{kept_by}
use Rattle.hc_model.specs.Moves.{Move, Nothing, Waits, Fails, opens, opens_hole, shows_stored}

-- WHAT THE PLAN LOOKS AT

abbrev pub hole_of : Representation → Wanted → Option Span
hole_of v (wanted.Interval span) = first_hole v.stored v.reach span
hole_of v _ = None

-- a representation as the plan for a request sees it
abbrev pub candidate : Tables → ℕ → ℕ → Request → Representation → Candidate
candidate t now r request v =
    let span = wanted_of (range_of request) v.head.total in
    record {
      allowed = allowed v.head request now;
      vary = matches_vary v.head request;
      span = span;
      hole = hole_of v span;
      writer_group = is_written t v;
      exclusive = exclusive t r v;
      least_bound = least (bound t r);
    }

abbrev pub candidate_at : Tables → ℕ → Request → ℕ → Option Candidate
candidate_at t now request r =
    option_map (λ v. candidate t now r request v) (t.representation r)

abbrev pub has_passed : Place → Bool
has_passed (place.Passed r kept) = true
has_passed _ = false

abbrev pub plan_view : Tables → ℕ → ℕ → Consumer → PlanView
plan_view t now c k = record {
  moment = now;
  since = k.since;
  c = c;
  class = class_of k.request;
  passed = has_passed k.place;
  kept = kept_by k.place;
  turn = turn_with t k.request.key c;
  current = option_and_then (candidate_at t now k.request) (current t k.request.key);
}

-- WHAT IS DONE

-- the current representation of the consumer's key
abbrev pub current_row : Tables → Consumer → Option Representation
current_row t k = row_of t (current t k.request.key)

abbrev pub conditional_on : Option Representation → Request → Request
conditional_on None request = request
conditional_on (Some v) request = conditional v.head request

-- what is asked of the origin: on conditions that are made of what is current, or as it is
abbrev pub origin_request : Tables → Consumer → Need → Request
origin_request t k need.Validate = conditional_on (current_row t k) k.request
origin_request t k _ = k.request

abbrev pub is_ranged : Consumer → Bool
is_ranged k = is_some (range_of k.request)

-- it is shown what is current: all that its writing brings, or an interval of it
abbrev pub binds : Tables → Consumer → Why → ℕ → Option Span → Move
binds t k why r None =
    shows_stored r why (is_ranged k) 0 (total_in (t.representation r)) (t.representation r)
binds t k why r (Some span) =
    shows_stored r why (is_ranged k) span.lo (Some span.hi) (t.representation r)

abbrev pub binds_current : Tables → Consumer → Why → Option Span → Option ℕ → Move
binds_current t k why span None = Nothing
binds_current t k why span (Some r) = binds t k why r span

-- the move of a plan
abbrev pub plan_move : Tables → Consumer → Plan → Move
plan_move t k (plan.Direct need) = opens t need k.request
plan_move t k (plan.Turn d) = Waits (wait.Turn d)
plan_move t k (plan.Fetch need) = opens t need (origin_request t k need)
plan_move t k (plan.Bind why span) = binds_current t k why span (current t k.request.key)
plan_move t k (plan.FirstHole span hole) = opens_hole t k.request (current_row t k) hole
plan_move t k (plan.Busy d kept) = Waits (wait.Busy d)
plan_move t k plan.Miss = Fails cause.Miss

abbrev pub planned_move : Tables → ℕ → ℕ → Consumer → Move
planned_move t now c k = plan_move t k (plan_of (plan_view t now c k))
