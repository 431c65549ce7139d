-- What a plan may open: a first hole alone of what is current, with nobody bound to it.
use Rattle.std.proofs.Common.{◌≡◌, ◌≢◌, ℕ, Option, Some, None, refl}
use Rattle.hc_range.specs.declared.range.Span.{Span}
use Rattle.hc_effects.proofs.Vocabulary.{Need, Why, Wanted, Plan, Candidate, PlanView, plan_of, bare_plan, in_time, from_store, by_current, by_why, by_wanted, by_exclusive, by_hole, by_bound, why_by, need, plan}
use Rattle.hc_rules.specs.declared.request.Wanted.TheVariants as wanted
use Rattle.hc_effects.proofs.Joining.{mix}

-- the hole is the first of the span that is wanted of what is current, and nobody is bound to that
pub record IsFree (v : PlanView) (hole : Span) : Type 0 where
  pub s : Candidate
  pub current : v.current ≡ Some s
  pub span : Span
  pub wanted : s.span ≡ wanted.Interval span
  pub first : s.hole ≡ Some hole
  pub nobody : s.least_bound ≡ None

-- a need that isn't a hole
abbrev pub IsNoHole : Need → Type 0
IsNoHole n = (from to : ℕ) → n ≢ need.Hole from to

pub data Fine (v : PlanView) : Plan → Type 0 where
  waits_turn : (d : ℕ) → Fine v (plan.Turn d)
  waits_busy : (d : ℕ) (kept : Option ℕ) → Fine v (plan.Busy d kept)
  fails : Fine v plan.Miss
  passes_by : (n : Need) → IsNoHole n → Fine v (plan.Direct n)
  fetches : (n : Need) → IsNoHole n → Fine v (plan.Fetch n)
  binds : (why : Why) (span : Option Span) → Fine v (plan.Bind why span)
  opens : (span hole : Span) → IsFree v hole → Fine v (plan.FirstHole span hole)

module _ (v : PlanView) (s : Candidate) (current : v.current ≡ Some s) where
  fine_bound : (span hole : Span) (o : Option ℕ) → s.span ≡ wanted.Interval span → s.hole ≡ Some hole → s.least_bound ≡ o → Fine v (by_bound v span hole o)
  fine_bound span hole None at found nobody = opens span hole (record { s = s; current = current; span = span; wanted = at; first = found; nobody = nobody })
  fine_bound span hole (Some d) at found nobody = waits_busy d v.kept

  fine_hole : (why : Why) (span : Span) (o : Option Span) → s.span ≡ wanted.Interval span → s.hole ≡ o → Fine v (by_hole v s why span o)
  fine_hole why span None at found = binds why (Some span)
  fine_hole why span (Some hole) at found = fine_bound span hole s.least_bound at found refl

  fine_exclusive : (why : Why) (span : Span) (o : Option ℕ) → s.span ≡ wanted.Interval span → Fine v (by_exclusive v s why span o)
  fine_exclusive why span None at = fine_hole why span s.hole at refl
  fine_exclusive why span (Some d) at = waits_busy d v.kept

  fine_wanted : (why : Why) (w : Wanted) → s.span ≡ w → Fine v (by_wanted v s why w)
  fine_wanted why wanted.TotalUnknown at = waits_busy _ _
  fine_wanted why wanted.Unsatisfiable at = passes_by need.Unsatisfied (λ from to e. cc)
  fine_wanted why (wanted.Interval span) at = mix (Fine v) s.writer_group _ _ (waits_busy _ _) (fine_exclusive why span s.exclusive at)

  fine_why : (o : Option Why) → Fine v (by_why v s o)
  fine_why None = fetches need.Validate (λ from to e. cc)
  fine_why (Some why) = mix (Fine v) _ _ _ (binds why None) (fine_wanted why s.span refl)

fine_current : (v : PlanView) (o : Option Candidate) → v.current ≡ o → Fine v (by_current v o)
fine_current v None is = fetches need.Miss (λ from to e. cc)
fine_current v (Some s) is = mix (Fine v) s.vary _ _ (fine_why v s is (why_by v.kept s.allowed)) (fetches need.Vary (λ from to e. cc))

fine_bare : (v : PlanView) → Fine v (bare_plan v)
fine_bare v =
    mix (Fine v) _ _ _ (passes_by need.Disabled (λ from to e. cc))
    (mix (Fine v) _ _ _ (waits_turn _)
    (mix (Fine v) _ _ _ (fetches need.Bypass (λ from to e. cc)) (fine_current v v.current refl)))

fine_in_time : (v : PlanView) (p : Plan) → Fine v p → Fine v (in_time v p)
fine_in_time v (plan.Turn d) fine = mix (Fine v) _ _ _ (passes_by need.TimedOut (λ from to e. cc)) (waits_turn d)
fine_in_time v (plan.Busy d kept) fine = mix (Fine v) _ _ _ (passes_by need.TimedOut (λ from to e. cc)) (waits_busy d kept)
fine_in_time v _ fine = fine

fine_from_store : (v : PlanView) (p : Plan) → Fine v (from_store p)
fine_from_store v (plan.Bind why span) = binds why span
fine_from_store v _ = fails

pub fine_plan : (v : PlanView) → Fine v (plan_of v)
unfolding plan_of
fine_plan v = mix (Fine v) v.class.only _ _ (fine_from_store v (bare_plan v)) (fine_in_time v (bare_plan v) (fine_bare v))
