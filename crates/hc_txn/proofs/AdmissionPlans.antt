-- What is planned by how one more may be bound is what is planned by who is bound.
use Rattle.std.{proofs.Common.{◌≡◌, ℕ, List, Bool, true, false, cond, Option, Some, None, refl, ap, sym, ◌∙◌}, specs.Prelude.{◌&&◌, is_some, is_none, unwrap_or}}
use Rattle.hc_range.specs.declared.range.{RangeSpec.{RangeSpec}, Span.{Span}}
use Rattle.hc_event.specs.declared.act.Why.{Why}
use Rattle.hc_rules.specs.{declared.{admission.{Admission.{Admission}, Bound.{Bound}}, plan.{Plan.{Plan}, Candidate.{Candidate}, PlanView.{PlanView}}, request.Wanted.{Wanted}}, Admissions.{admission_of, beside_group, beside_exclusive, with_holes, least_of, least_bound}, Laws.{SeesBound}, Plans.{bare_plan, by_current, by_wanted, by_why, from_store, in_time, plan_of, plan_on, queues, why_by}}
use Rattle.hc_rules.specs.declared.admission.Admission.TheVariants as admission
use Rattle.hc_rules.specs.declared.admission.BoundKind.TheVariants as kind
use Rattle.hc_rules.specs.declared.plan.Plan.TheVariants as plan
use Rattle.hc_rules.specs.declared.request.Wanted.TheVariants as wanted
use Rattle.hc_event.specs.declared.act.Need.TheVariants as need
use Rattle.hc_txn.specs.{declared.plan.Current.{Current}, Plans.{AreAdmissionsPlanned, SeesUsers, behind, candidate_by, current_of, has_holes, has_holes_by, is_shared}}

-- OF AN INTERVAL THAT MAY BE READ

abbrev seen_with : Candidate → Bool → Option ℕ → Option ℕ → Candidate
seen_with s group exclusive least = record s { writer_group = group; exclusive = exclusive; least_bound = least }

abbrev admitted : Option ℕ → Option ℕ → Option ℕ → Option RangeSpec → Wanted → Option Span → Admission
admitted shared exclusive least range w hole =
    beside_group shared (is_some range) (beside_exclusive exclusive (cond (has_holes_by w hole) (with_holes least) admission.Reader))

-- what is planned of this interval where there is this range
abbrev planned : PlanView → Why → Option RangeSpec → Wanted → Option Span → Bool → Option ℕ → Option ℕ → Plan
planned v why range w hole group exclusive least =
    let s : Candidate = record {
      allowed = None;
      vary = true;
      span = w;
      hole = hole;
      writer_group = group;
      exclusive = exclusive;
      least_bound = least;
    } in
    cond (is_none range && group) (plan.Bind why None) (by_wanted v s why w)

abbrev IsPlanned : PlanView → Why → Option RangeSpec → Wanted → Option Span → Option ℕ → Option ℕ → Option ℕ → Type 0
IsPlanned v why range w hole shared exclusive least =
    let a = admitted shared exclusive least range w hole in
    planned v why range w hole (is_shared a) (behind a) (behind a) ≡ planned v why range w hole (is_some shared) exclusive least

abbrev LeadTo : Option ℕ → Option ℕ → Type 0
LeadTo o least = (d : ℕ) → o ≡ Some d → least ≡ Some d

module _ (v : PlanView) (why : Why) where
  waits-for : (d : ℕ) (least : Option ℕ) → least ≡ Some d → plan.Busy d v.kept ≡ plan.Busy (unwrap_or least 0) v.kept
  waits-for d least is = rw is refl

  beside-group : (d : ℕ) (range : Option RangeSpec) (w : Wanted) (hole : Option Span) (exclusive least : Option ℕ) → least ≡ Some d →
      IsPlanned v why range w hole (Some d) exclusive least
  beside-group d None w hole exclusive least is = refl
  beside-group d (Some range) wanted.TotalUnknown hole exclusive least is = waits-for d least is
  beside-group d (Some range) wanted.Unsatisfiable hole exclusive least is = refl
  beside-group d (Some range) (wanted.Interval span) hole exclusive least is = waits-for d least is

  beside-writer : (d : ℕ) (range : Option RangeSpec) (w : Wanted) (hole : Option Span) (least : Option ℕ) → least ≡ Some d →
      IsPlanned v why range w hole None (Some d) least
  beside-writer d None wanted.TotalUnknown hole least is = waits-for d least is
  beside-writer d None wanted.Unsatisfiable hole least is = refl
  beside-writer d None (wanted.Interval span) hole least is = refl
  beside-writer d (Some range) wanted.TotalUnknown hole least is = waits-for d least is
  beside-writer d (Some range) wanted.Unsatisfiable hole least is = refl
  beside-writer d (Some range) (wanted.Interval span) hole least is = refl

  beside-readers : (range : Option RangeSpec) (w : Wanted) (hole : Option Span) (least : Option ℕ) → IsPlanned v why range w hole None None least
  beside-readers None wanted.TotalUnknown hole None = refl
  beside-readers None wanted.TotalUnknown hole (Some d) = refl
  beside-readers None wanted.Unsatisfiable None least = refl
  beside-readers None wanted.Unsatisfiable (Some hole) None = refl
  beside-readers None wanted.Unsatisfiable (Some hole) (Some d) = refl
  beside-readers None (wanted.Interval span) None least = refl
  beside-readers None (wanted.Interval span) (Some hole) None = refl
  beside-readers None (wanted.Interval span) (Some hole) (Some d) = refl
  beside-readers (Some range) wanted.TotalUnknown hole None = refl
  beside-readers (Some range) wanted.TotalUnknown hole (Some d) = refl
  beside-readers (Some range) wanted.Unsatisfiable None least = refl
  beside-readers (Some range) wanted.Unsatisfiable (Some hole) None = refl
  beside-readers (Some range) wanted.Unsatisfiable (Some hole) (Some d) = refl
  beside-readers (Some range) (wanted.Interval span) None least = refl
  beside-readers (Some range) (wanted.Interval span) (Some hole) None = refl
  beside-readers (Some range) (wanted.Interval span) (Some hole) (Some d) = refl

  beside-all : (range : Option RangeSpec) (w : Wanted) (hole : Option Span) (shared exclusive least : Option ℕ) → LeadTo shared least →
      LeadTo exclusive least → IsPlanned v why range w hole shared exclusive least
  beside-all range w hole (Some d) exclusive least group alone = beside-group d range w hole exclusive least (group d refl)
  beside-all range w hole None (Some d) least group alone = beside-writer d range w hole least (alone d refl)
  beside-all range w hole None None least group alone = beside-readers range w hole least

  -- by who is bound
  plans-on : (s : Candidate) (bound : List Bound) → SeesBound s bound → LeadTo s.exclusive s.least_bound →
      let a = admission_of bound (is_some v.class.range) (has_holes (current_of s)) in
      plan_on v (candidate_by a (current_of s)) why ≡ plan_on v s why
  unfolding admission_of
  plans-on s bound sees alone =
      let shared = least_of kind.Shared bound in
      let exclusive = least_of kind.Exclusive bound in
      let least = least_bound bound in
      let on : Bool → Option ℕ → Option ℕ → Plan = planned v why v.class.range s.span s.hole in
      beside-all v.class.range s.span s.hole shared exclusive least
      (λ d is. sym sees.least ∙ sees.together d is)
      (λ d is. sym sees.least ∙ alone d (sees.exclusive ∙ is))
      ∙ (ap (λ (g : Bool). on g exclusive least) (sym sees.writer_group)
      ∙ (ap (λ (o : Option ℕ). on s.writer_group o least) (sym sees.exclusive)
      ∙ ap (λ (o : Option ℕ). on s.writer_group s.exclusive o) (sym sees.least)))

-- OF ALL

-- where of what is current the same is seen but for who is bound
module _ (v : PlanView) (s : Candidate) (group : Bool) (exclusive least : Option ℕ)
    (same : (why : Why) → plan_on v (seen_with s group exclusive least) why ≡ plan_on v s why) where
  abbrev va : PlanView
  va = record v { current = Some (seen_with s group exclusive least) }

  abbrev vs : PlanView
  vs = record v { current = Some s }

  whys-same : (o : Option Why) → by_why va (seen_with s group exclusive least) o ≡ by_why vs s o
  whys-same None = refl
  whys-same (Some why) = same why

  bare-same : bare_plan va ≡ bare_plan vs
  bare-same =
      ap (λ (p : Plan). cond v.class.disabled (plan.Direct need.Disabled)
      (cond (queues vs) (plan.Turn v.turn) (cond v.class.bypassing (plan.Fetch need.Bypass) (cond s.vary p (plan.Fetch need.Vary)))))
      (whys-same (why_by v.kept s.allowed))

  all-same : plan_of va ≡ plan_of vs
  unfolding plan_of
  all-same = ap (λ (p : Plan). cond v.class.only (from_store p) (in_time vs p)) bare-same

pub admissions-planned : AreAdmissionsPlanned
admissions-planned v current a s bound h =
    let a' = admission_of bound (is_some v.class.range) (has_holes (current_of s)) in
    let at : a ≡ a' = h.admission_is ∙ ap (λ (z : Current). admission_of bound (is_some v.class.range) (has_holes z)) h.current_is in
    ap (λ (z : Current). plan_of (record v { current = Some (candidate_by a z) })) h.current_is
    ∙ (ap (λ (z : Admission). plan_of (record v { current = Some (candidate_by z (current_of s)) })) at
    ∙ all-same v s (is_shared a') (behind a') (behind a') (λ why. plans-on v why s bound h.sees h.alone))
