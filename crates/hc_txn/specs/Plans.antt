-- What the plan of a transaction looks at: what is current, and how one more may be bound to that.
use Rattle.std.specs.Prelude.{◌≡◌, ℕ, List, Bool, true, false, Option, Some, None, is_some}
use Rattle.hc_event.specs.declared.act.Why.{Why}
use Rattle.hc_range.specs.declared.range.Span.{Span}
use Rattle.hc_sparse.specs.Cells.{Cells}
use Rattle.hc_record.specs.Head.{Head}
use Rattle.hc_rules.specs.declared.admission.Admission.{Admission}
use Rattle.hc_rules.specs.declared.admission.Admission.TheVariants as admission
use Rattle.hc_rules.specs.declared.admission.Bound.{Bound}
use Rattle.hc_rules.specs.declared.plan.Candidate.{Candidate}
use Rattle.hc_rules.specs.declared.plan.PlanView.{PlanView}
use Rattle.hc_rules.specs.declared.request.Wanted.{Wanted}
use Rattle.hc_rules.specs.declared.request.Wanted.TheVariants as wanted
use Rattle.hc_rules.specs.Admissions.{admission_of}
use Rattle.hc_rules.specs.Laws.{SeesBound}
use Rattle.hc_rules.specs.Plans.{plan_of}
use Rattle.hc_rules.specs.Requests.{wanted_of}
use Rattle.hc_fresh.specs.Facts.{allowed}
use Rattle.hc_fresh.specs.Vary.{matches_vary}
use Rattle.hc_partial.specs.Holes.{first_hole}
use Rattle.hc_txn.specs.declared.plan.Current.{Current}
use Rattle.hc_txn.specs.declared.transaction.Transaction.{Transaction}
use Rattle.hc_txn.specs.Transactions.{has_passed, kept_by}

-- WHAT IS CURRENT

-- the first hole of what is wanted, in what is stored
abbrev pub hole_in : Cells → Wanted → Option Span
hole_in cells (wanted.Interval span) = first_hole cells span
hole_in cells _ = None

-- as the plan of k sees it
abbrev pub current_by : ℕ → Cells → Head → Transaction → Current
current_by now cells head k =
    let span = wanted_of k.class.range head.total in
    record {
      allowed = allowed head k.request now;
      vary = matches_vary head k.request;
      wanted = span;
      hole = hole_in cells span;
    }

-- a byte of what is wanted isn't stored, or it isn't known how far that goes
abbrev pub has_holes_by : Wanted → Option Span → Bool
has_holes_by wanted.TotalUnknown hole = true
has_holes_by _ hole = is_some hole

abbrev pub has_holes : Current → Bool
has_holes current = has_holes_by current.wanted current.hole

-- HOW ONE MORE MAY BE BOUND

abbrev pub is_shared : Admission → Bool
is_shared admission.Shared = true
is_shared _ = false

-- for whom one waits
abbrev pub behind : Admission → Option ℕ
behind (admission.Behind d) = Some d
behind _ = None

-- in the words of the table of plans
abbrev pub candidate_by : Admission → Current → Candidate
candidate_by a current = record {
  allowed = current.allowed;
  vary = current.vary;
  span = current.wanted;
  hole = current.hole;
  writer_group = is_shared a;
  exclusive = behind a;
  least_bound = behind a;
}

abbrev pub plan_view_by : ℕ → ℕ → ℕ → Candidate → Transaction → PlanView
plan_view_by now c turn current k = record {
  moment = now;
  since = k.since;
  c = c;
  class = k.class;
  passed = has_passed k.place;
  kept = kept_by k.place;
  turn = turn;
  current = Some current;
}

-- THE SAME BY WHO IS BOUND

abbrev pub current_of : Candidate → Current
current_of s = record { allowed = s.allowed; vary = s.vary; wanted = s.span; hole = s.hole }

-- The table sees the same of what is current, and these are bound to it, beside whom one more may be bound so. Who
-- writes it alone is the least of them.
pub record SeesUsers (ranged : Bool) (current : Current) (a : Admission) (s : Candidate) (bound : List Bound) : Type 0 where
  pub current_is : current ≡ current_of s
  pub sees : SeesBound s bound
  pub alone : (d : ℕ) → s.exclusive ≡ Some d → s.least_bound ≡ Some d
  pub admission_is : a ≡ admission_of bound ranged (has_holes current)

-- what is planned by how one more may be bound is what is planned by who is bound
abbrev pub AreAdmissionsPlanned : Type 0
AreAdmissionsPlanned = (v : PlanView) (current : Current) (a : Admission) (s : Candidate) (bound : List Bound)
    → SeesUsers (is_some v.class.range) current a s bound
    → plan_of (record v { current = Some (candidate_by a current) }) ≡ plan_of (record v { current = Some s })
