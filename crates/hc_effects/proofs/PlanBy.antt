-- Why a plan is what it is, in all that binds its consumer or opens an exchange for it.
use Rattle.std.{proofs.Common.{◌≡◌, ℕ, true, false, Option, Some, None, refl}, specs.Prelude.{is_none, ◌&&◌}}
use Rattle.hc_text.proofs.Basics.{and_left, and_right, either}
use Rattle.hc_range.specs.declared.range.Span.{Span}
use Rattle.hc_effects.proofs.Vocabulary.{Need, Why, Wanted, Plan, Candidate, PlanView, route_of, plan_of, bare_plan, in_time, from_store, by_current, by_why, by_wanted, by_exclusive, by_hole, by_bound, plan_on, why_by, need, route, wanted, plan}
use Rattle.hc_effects.proofs.Joining.{mix}

-- what is current is read whole, as it is written
pub record JoinsGroup (v : PlanView) : Type 0 where
  pub s : Candidate
  pub current : v.current ≡ Some s
  pub unranged : is_none v.class.range ≡ true
  pub writer_group : s.writer_group ≡ true

-- an interval is wanted of what is current, which nobody writes, alone or for several, and is stored but for this hole
pub record IsAlone (v : PlanView) (span : Span) (hole : Option Span) : Type 0 where
  pub s : Candidate
  pub current : v.current ≡ Some s
  pub wanted_is : s.span ≡ wanted.Interval span
  pub unwritten : s.writer_group ≡ false
  pub hole_is : s.hole ≡ hole
  pub nobody : s.exclusive ≡ None

pub data PlanBy (v : PlanView) : Plan → Type 0 where
  turn : (d : ℕ) → PlanBy v (plan.Turn d)
  busy : (d : ℕ) (kept : Option ℕ) → v.class.bypassing ≡ false → PlanBy v (plan.Busy d kept)
  misses : PlanBy v plan.Miss
  passes_by : (n : Need) → route_of n ≡ route.Direct → PlanBy v (plan.Direct n)
  fetches : (n : Need) → route_of n ≡ route.Turn → (n ≡ need.Validate → v.class.bypassing ≡ false) → (n ≡ need.Bypass → v.class.bypassing ≡ true) →
      v.class.disabled ≡ false → PlanBy v (plan.Fetch n)
  joins : (why : Why) → v.class.disabled ≡ false → JoinsGroup v → PlanBy v (plan.Bind why None)
  reads : (why : Why) (span : Span) → v.class.disabled ≡ false → IsAlone v span None → PlanBy v (plan.Bind why (Some span))
  fills : (span hole : Span) → v.class.disabled ≡ false → (a : IsAlone v span (Some hole)) → a.s.least_bound ≡ None → PlanBy v (plan.FirstHole span hole)

bypass_is : need.Bypass ≡ need.Validate → ⊥
bypass_is is = cc

validate_bypass : need.Validate ≡ need.Bypass → ⊥
validate_bypass is = cc

miss_bypass : need.Miss ≡ need.Bypass → ⊥
miss_bypass is = cc

vary_bypass : need.Vary ≡ need.Bypass → ⊥
vary_bypass is = cc

module _ (v : PlanView) (cached : v.class.disabled ≡ false) (plain : v.class.bypassing ≡ false) (s : Candidate) (current : v.current ≡ Some s) where
  bound_by : (span hole : Span) (o : Option ℕ) → s.span ≡ wanted.Interval span → s.writer_group ≡ false → s.exclusive ≡ None → s.hole ≡ Some hole →
      s.least_bound ≡ o → PlanBy v (by_bound v span hole o)
  bound_by span hole None at off free found nobody =
      fills span hole cached (record { s = s; current = current; wanted_is = at; unwritten = off; hole_is = found; nobody = free }) nobody
  bound_by span hole (Some d) at off free found nobody = busy d v.kept plain

  hole_by : (why : Why) (span : Span) (o : Option Span) → s.span ≡ wanted.Interval span → s.writer_group ≡ false → s.exclusive ≡ None → s.hole ≡ o →
      PlanBy v (by_hole v s why span o)
  hole_by why span None at off free found =
      reads why span cached (record { s = s; current = current; wanted_is = at; unwritten = off; hole_is = found; nobody = free })
  hole_by why span (Some hole) at off free found = bound_by span hole s.least_bound at off free found refl

  exclusive_by : (why : Why) (span : Span) (o : Option ℕ) → s.span ≡ wanted.Interval span → s.writer_group ≡ false → s.exclusive ≡ o →
      PlanBy v (by_exclusive v s why span o)
  exclusive_by why span None at off free = hole_by why span s.hole at off free refl
  exclusive_by why span (Some d) at off taken = busy d v.kept plain

  wanted_by : (why : Why) (w : Wanted) → s.span ≡ w → PlanBy v (by_wanted v s why w)
  wanted_by why wanted.TotalUnknown at = busy _ _ plain
  wanted_by why wanted.Unsatisfiable at = passes_by need.Unsatisfied refl
  wanted_by why (wanted.Interval span) at = either (PlanBy v) s.writer_group _ _ (λ on. busy _ _ plain) (λ off. exclusive_by why span s.exclusive at off refl)

  on_by : (why : Why) → PlanBy v (plan_on v s why)
  on_by why = either (PlanBy v) (is_none v.class.range && s.writer_group) _ _
      (λ h. joins why cached (record {
        s = s;
        current = current;
        unranged = and_left (is_none v.class.range) s.writer_group h;
        writer_group =
            and_right (is_none v.class.range) s.writer_group h;
      })) (λ h. wanted_by why s.span refl)

  why_then : (o : Option Why) → PlanBy v (by_why v s o)
  why_then None = fetches need.Validate refl (λ is. plain) (λ is. absurd (validate_bypass is)) cached
  why_then (Some why) = on_by why

current_by : (v : PlanView) (o : Option Candidate) → v.class.disabled ≡ false → v.class.bypassing ≡ false → v.current ≡ o → PlanBy v (by_current v o)
current_by v None cached plain is = fetches need.Miss refl (λ at. plain) (λ at. absurd (miss_bypass at)) cached
current_by v (Some s) cached plain is =
    mix (PlanBy v) s.vary _ _ (why_then v cached plain s is (why_by v.kept s.allowed))
    (fetches need.Vary refl (λ at. plain) (λ at. absurd (vary_bypass at)) cached)

bare_by : (v : PlanView) → PlanBy v (bare_plan v)
bare_by v =
    either (PlanBy v) v.class.disabled _ _ (λ on. passes_by need.Disabled refl) (λ cached.
    mix (PlanBy v) _ _ _ (turn _)
    (either (PlanBy v) v.class.bypassing _ _ (λ on. fetches need.Bypass refl (λ is. absurd (bypass_is is)) (λ is. on) cached)
    (λ off. current_by v v.current cached off refl)))

in_time_by : (v : PlanView) (p : Plan) → PlanBy v p → PlanBy v (in_time v p)
in_time_by v (plan.Turn d) is = mix (PlanBy v) _ _ _ (passes_by need.TimedOut refl) (turn d)
in_time_by v (plan.Busy d kept) is = mix (PlanBy v) _ _ _ (passes_by need.TimedOut refl) is
in_time_by v _ is = is

from_store_by : (v : PlanView) (p : Plan) → PlanBy v p → PlanBy v (from_store p)
from_store_by v (plan.Bind why span) is = is
from_store_by v _ is = misses

pub plan_by : (v : PlanView) → PlanBy v (plan_of v)
unfolding plan_of
plan_by v = mix (PlanBy v) v.class.only _ _ (from_store_by v (bare_plan v) (bare_by v)) (in_time_by v (bare_plan v) (bare_by v))
