-- Who is admitted beside others is planned so.
use Rattle.std.{proofs.{lemmas.Bool.Decides.{nat_tests}, Common.{arith, ◌≡◌, ℕ, Bool, cond, Option, Some, None, ap, ◌∙◌}}, specs.Prelude.{◌&&◌, is_some, is_none}}
use Rattle.hc_range.specs.declared.range.{RangeSpec.{RangeSpec}, Span.{Span}}
use Rattle.hc_event.specs.declared.act.Why.{Why}
use Rattle.hc_rules.specs.{declared.{request.Wanted.{Wanted}, plan.{Plan.{Plan, TheVariants.{Bind}}, Candidate.{Candidate}, PlanView.{PlanView}}, admission.Admission.{Admission, TheVariants.{Reader}}}, Plans.{by_wanted, by_exclusive, busy}, Admissions.{admission_of, beside_group, beside_exclusive, with_holes, least_of}, Laws.{carried_out, AdmitsAsPlanned}}
use Rattle.hc_rules.specs.declared.admission.BoundKind.TheVariants as kind

-- beside the exclusive writer, if there is one
abbrev others : Candidate → Option ℕ → Admission
others s exclusive = beside_exclusive exclusive (cond (is_some s.hole) (with_holes s.least_bound) Reader)

writer_group-planned : (v : PlanView) (s : Candidate) (why : Why) (span : Span) (range : Option RangeSpec) (writer_group : Bool) (shared : Option ℕ) →
    writer_group ≡ is_some shared
    → ((d : ℕ) → shared ≡ Some d → s.least_bound ≡ Some d)
    → cond (is_none range && writer_group) (Bind why None) (cond writer_group (busy v s.least_bound) (by_exclusive v s why span s.exclusive))
    ≡ carried_out v why span s.hole (beside_group shared (is_some range) (others s s.exclusive))
writer_group-planned v s why span range writer_group shared is together = grind (arith, nat_tests)

pub admits-as-planned : AdmitsAsPlanned
unfolding admission_of
admits-as-planned v s why span bound sees wanted =
    let range = v.class.range in
    let shared = least_of kind.Shared bound in
    let carried : Admission → Plan = λ a. carried_out v why span s.hole (beside_group shared (is_some range) a) in
    ap (λ (w : Wanted). cond (is_none range && s.writer_group) (Bind why None) (by_wanted v s why w)) wanted
    ∙ writer_group-planned v s why span range s.writer_group shared sees.writer_group sees.together
    ∙ ap (λ (d : Option ℕ). carried (others s d)) sees.exclusive
    ∙ ap (λ (l : Option ℕ). carried (beside_exclusive (least_of kind.Exclusive bound) (cond (is_some s.hole) (with_holes l) Reader))) sees.least
