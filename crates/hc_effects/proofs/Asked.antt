-- What the need of a plan says of what is current.
use Rattle.std.proofs.{lemmas.Bool.Decides.{nat_tests}, Common.{arith, ◌≡◌, Option, Some, None, refl}}
use Rattle.hc_effects.proofs.Vocabulary.{Need, Why, Wanted, Plan, Candidate, PlanView, plan_of, bare_plan, in_time, from_store, by_current, by_why, by_wanted, why_by, need, plan}
use Rattle.hc_effects.proofs.Joining.{mix}

-- something is current
abbrev pub HasCandidate : PlanView → Type 0
HasCandidate v = (s : Candidate) × (v.current ≡ Some s)

-- what is so where this is asked of the origin
abbrev pub Asked : PlanView → Need → Type 0
Asked v need.Miss = v.current ≡ None
Asked v need.Vary = HasCandidate v
Asked v need.Validate = HasCandidate v
Asked v (need.Hole from to) = HasCandidate v
Asked v need.Unsatisfied = HasCandidate v
Asked v need.Disabled = Unit {0}
Asked v need.TimedOut = Unit {0}
Asked v need.Bypass = Unit {0}

abbrev pub AskedBy : PlanView → Plan → Type 0
AskedBy v (plan.Direct n) = Asked v n
AskedBy v (plan.Fetch n) = Asked v n
AskedBy v _ = Unit {0}

module _ (v : PlanView) (s : Candidate) (current : v.current ≡ Some s) where
  wanted_asks : (why : Why) (w : Wanted) → AskedBy v (by_wanted v s why w)
  wanted_asks why w = grind (arith, nat_tests)

  why_asks : (o : Option Why) → AskedBy v (by_why v s o)
  why_asks None = (s, current)
  why_asks (Some why) = mix (AskedBy v) _ (plan.Bind why None) _ tt (wanted_asks why s.span)

current_asks : (v : PlanView) (o : Option Candidate) → v.current ≡ o → AskedBy v (by_current v o)
current_asks v None is = is
current_asks v (Some s) is = mix (AskedBy v) s.vary _ (plan.Fetch need.Vary) (why_asks v s is (why_by v.kept s.allowed)) (s, is)

bare_asks : (v : PlanView) → AskedBy v (bare_plan v)
bare_asks v =
    mix (AskedBy v) v.class.disabled (plan.Direct need.Disabled) _ tt
    (mix (AskedBy v) _ (plan.Turn v.turn) _ tt
    (mix (AskedBy v) v.class.bypassing (plan.Fetch need.Bypass) _ tt (current_asks v v.current refl)))

in_time_asks : (v : PlanView) (p : Plan) → AskedBy v p → AskedBy v (in_time v p)
in_time_asks v p is = grind (arith, nat_tests)

from_store_asks : (v : PlanView) (p : Plan) → AskedBy v (from_store p)
from_store_asks v p = grind (arith, nat_tests)

pub plan_asks : (v : PlanView) → AskedBy v (plan_of v)
unfolding plan_of
plan_asks v = mix (AskedBy v) v.class.only _ _ (from_store_asks v (bare_plan v)) (in_time_asks v (bare_plan v) (bare_asks v))
