-- Behind whom a plan waits: behind who is bound to what is current, or behind the one who writes it.
use Rattle.std.{proofs.{lemmas.Bool.Decides.{nat_tests}, Common.{arith, ◌≡◌, ◌⊎◌, inl, inr, ℕ, true, Option, Some, None, refl, ap, ◌∙◌}}, specs.Prelude.{is_none, ◌&&◌, unwrap_or}}
use Rattle.hc_text.proofs.Basics.{either}
use Rattle.hc_effects.proofs.Vocabulary.{Why, Candidate, Plan, PlanView, Wanted, plan_of, bare_plan, in_time, from_store, by_current, by_why, by_wanted, by_exclusive, by_hole, by_bound, plan_on, why_by, plan, wanted}
use Rattle.hc_range.specs.declared.range.Span.{Span}
use Rattle.hc_effects.proofs.Joining.{mix}

-- of what is current: d is the least one bound, or the one who writes alone; or nobody is bound while its length isn't known, or it is written together
pub data BusyBy (v : PlanView) (d : ℕ) : Type 0 where
  least : (s : Candidate) → v.current ≡ Some s → s.least_bound ≡ Some d → BusyBy v d
  writer : (s : Candidate) → v.current ≡ Some s → s.exclusive ≡ Some d → BusyBy v d
  nobody : (s : Candidate) → v.current ≡ Some s → s.least_bound ≡ None → (s.span ≡ wanted.TotalUnknown) ⊎ (s.writer_group ≡ true) → BusyBy v d

module _ (v : PlanView) where
  abbrev Fine : Plan → Type 0
  Fine p = (d : ℕ) (kept : Option ℕ) → p ≡ plan.Busy d kept → BusyBy v d

  busy_inj : (a b : ℕ) (e f : Option ℕ) → plan.Busy a e ≡ plan.Busy b f → a ≡ b
  busy_inj a b e f is = cc

  module _ (s : Candidate) (current : v.current ≡ Some s) where
    busy_least : (o : Option ℕ) → s.least_bound ≡ o → (s.span ≡ wanted.TotalUnknown) ⊎ (s.writer_group ≡ true) → Fine (plan.Busy (unwrap_or o 0) v.kept)
    busy_least None none why = λ d kept is. nobody s current none why
    busy_least (Some a) some why = λ d kept is. least s current (some ∙ ap Some (busy_inj a d v.kept kept is))

    bound_fine : (span hole : Span) (o : Option ℕ) → s.least_bound ≡ o → Fine (by_bound v span hole o)
    bound_fine span hole None at = λ d kept is. absurd (let never : plan.FirstHole span hole ≡ plan.Busy d kept = is in cc)
    bound_fine span hole (Some a) at = λ d kept is. least s current (at ∙ ap Some (busy_inj a d v.kept kept is))

    hole_fine : (why : Why) (span : Span) (o : Option Span) → Fine (by_hole v s why span o)
    hole_fine why span None = λ d kept is. absurd (let never : plan.Bind why (Some span) ≡ plan.Busy d kept = is in cc)
    hole_fine why span (Some hole) = bound_fine span hole s.least_bound refl

    exclusive_fine : (why : Why) (span : Span) (o : Option ℕ) → s.exclusive ≡ o → Fine (by_exclusive v s why span o)
    exclusive_fine why span None at = hole_fine why span s.hole
    exclusive_fine why span (Some a) at = λ d kept is. writer s current (at ∙ ap Some (busy_inj a d v.kept kept is))

    wanted_fine : (why : Why) (w : Wanted) → s.span ≡ w → Fine (by_wanted v s why w)
    wanted_fine why wanted.TotalUnknown at = busy_least s.least_bound refl (inl at)
    wanted_fine why wanted.Unsatisfiable at = λ d kept is. absurd (let never : plan.Direct _ ≡ plan.Busy d kept = is in cc)
    wanted_fine why (wanted.Interval span) at =
        either Fine s.writer_group _ _ (λ on. busy_least s.least_bound refl (inr on)) (λ off. exclusive_fine why span s.exclusive refl)

    on_fine : (why : Why) → Fine (plan_on v s why)
    on_fine why = mix Fine (is_none v.class.range && s.writer_group) _ _
        (λ d kept is. absurd (let never : plan.Bind why None ≡ plan.Busy d kept = is in cc)) (wanted_fine why s.span refl)

    why_fine : (o : Option Why) → Fine (by_why v s o)
    why_fine None = λ d kept is. absurd (let never : plan.Fetch _ ≡ plan.Busy d kept = is in cc)
    why_fine (Some why) = on_fine why

  current_fine : (o : Option Candidate) → v.current ≡ o → Fine (by_current v o)
  current_fine None current = λ d kept is. absurd (let never : plan.Fetch _ ≡ plan.Busy d kept = is in cc)
  current_fine (Some s) current =
      mix Fine s.vary _ _ (why_fine s current (why_by v.kept s.allowed)) (λ d kept is. absurd (let never : plan.Fetch _ ≡ plan.Busy d kept = is in cc))

  bare_fine : Fine (bare_plan v)
  bare_fine =
      mix Fine v.class.disabled _ _ (λ d kept is. absurd (let never : plan.Direct _ ≡ plan.Busy d kept = is in cc))
      (mix Fine _ _ _ (λ d kept is. absurd (let never : plan.Turn _ ≡ plan.Busy d kept = is in cc))
      (mix Fine v.class.bypassing _ _ (λ d kept is. absurd (let never : plan.Fetch _ ≡ plan.Busy d kept = is in cc)) (current_fine v.current refl)))

  in_time_fine : (p : Plan) → Fine p → Fine (in_time v p)
  in_time_fine (plan.Turn a) f = mix Fine _ _ _ (λ d kept is. absurd (let never : plan.Direct _ ≡ plan.Busy d kept = is in cc)) f
  in_time_fine (plan.Busy a b) f = mix Fine _ _ _ (λ d kept is. absurd (let never : plan.Direct _ ≡ plan.Busy d kept = is in cc)) f
  in_time_fine _ f = f

  from_store_fine : (p : Plan) → Fine (from_store p)
  from_store_fine p d kept is = grind (arith, nat_tests)

  pub busy_by : (d : ℕ) (kept : Option ℕ) → plan_of v ≡ plan.Busy d kept → BusyBy v d
  unfolding plan_of
  busy_by = mix Fine v.class.only _ _ (from_store_fine (bare_plan v)) (in_time_fine (bare_plan v) bare_fine)
