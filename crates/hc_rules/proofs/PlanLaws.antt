-- What plans say of their views.
--
-- A plan is the first row of the table that applies, and then has exceptions. From the first row on it is said what the
-- view has where it applies: what is current, why it may be used, who has the turn (`IsBare`, `bare-right`). Whoever
-- doesn't wait has the turn, or was let through and may still read (`turn_held`). Then the exceptions: a wait that took
-- too long (`timed-right`), and a request for what is stored alone (`stored-right`). `plans-right` joins both.
use Rattle.std.{proofs.{Common.{◌≡◌, ◌≢◌, ℕ, ◌+◌, ◌<◌, ◌⊎◌, Bool, true, false, eqb, leb, Option, Some, None, refl, inl, inr, arith}, lemmas.Bool.{cases_Bool, eqb-true, Decides.{nat_tests}}}, specs.Prelude.{IsSome, ◌&&◌, ◌||◌, not, is_none}}
use Rattle.hc_text.proofs.Basics.{either, leb-lt}
use Rattle.hc_range.specs.declared.range.Span.{Span}
use Rattle.hc_event.specs.declared.act.Why.{Why}
use Rattle.hc_rules.specs.declared.need.Route.TheVariants as route
use Rattle.hc_rules.specs.{declared.{request.Wanted.{Wanted}, plan.{Plan.{Plan, TheVariants.{Direct, Turn, Fetch, Bind, FirstHole, Busy, Miss}}, Candidate.{Candidate}, PlanView.{PlanView}}}, Needs.{route_of}, Plans.{plan_of, bare_plan, by_current, by_why, by_wanted, by_exclusive, why_by, allowed_by, longest_wait, in_time, from_store}, Laws.{IsRightPlan, HasTurn, MayRead, PlansAreRight}}
use Rattle.hc_rules.specs.declared.request.Wanted.TheVariants as wants

-- what the first row that applies says, before the exceptions
abbrev IsBare : PlanView → Plan → Type 0
IsBare v (Direct n) = route_of n ≡ route.Direct
IsBare v (Turn d) = d ≢ v.c
IsBare v (Fetch n) = (route_of n ≡ route.Turn) × (v.class.only ≡ false → HasTurn v)
IsBare v (Bind why span) = MayRead v why
IsBare v (FirstHole span hole) = v.class.only ≡ false → HasTurn v
IsBare v (Busy d kept) = kept ≡ v.kept
IsBare v Miss = ⊥

some_why : (kept : Option ℕ) (allowed : Option Why) → (is_none kept && is_none allowed) ≡ false → IsSome (why_by kept allowed)
some_why kept allowed h = grind (arith, nat_tests)

-- whoever doesn't wait for the turn of another has it, or has passed and may still read
turn_held : (passed only : Bool) (kept : Option ℕ) (allowed : Option Why) (turn c : ℕ) → only ≡ false
    → ((not passed || (is_none kept && is_none allowed)) && not (eqb turn c) && not only) ≡ false →
    (turn ≡ c) ⊎ ((passed ≡ true) × IsSome (why_by kept allowed))
turn_held passed true kept allowed turn c plain h = absurd (cc)
turn_held true false kept allowed turn c plain h = elim (cases_Bool (eqb turn c)) [
  | inl same ↦ inl (eqb-true turn c same)
  | inr differs ↦ elim (cases_Bool (is_none kept && is_none allowed)) [
    | inl lapsed ↦ let e : true ≡ false = rw (lapsed, differs) at h in absurd (cc)
    | inr may ↦ inr (refl, some_why kept allowed may)
  ]
]
turn_held false false kept allowed turn c plain h = elim (cases_Bool (eqb turn c)) [
  | inl same ↦ inl (eqb-true turn c same)
  | inr differs ↦ let e : true ≡ false = rw differs at h in absurd (cc)
]

turn_other : (waits : Bool) (turn c : ℕ) (only : Bool) → (waits && not (eqb turn c) && not only) ≡ true → turn ≢ c
turn_other waits turn c only h same = grind (arith, nat_tests)

exclusive-right : (v : PlanView) (s : Candidate) (why : Why) (span : Span) (d : Option ℕ) → (v.class.only ≡ false → HasTurn v) → MayRead v why →
    IsBare v (by_exclusive v s why span d)
exclusive-right v s why span d turn may = grind (arith, nat_tests)

wanted-right : (v : PlanView) (s : Candidate) (why : Why) (want : Wanted) → (v.class.only ≡ false → HasTurn v) → MayRead v why →
    IsBare v (by_wanted v s why want)
wanted-right v s why (wants.Interval span) turn may = either (IsBare v) s.writer_group _ _ (λ _. refl) (λ _. exclusive-right v s why span s.exclusive turn may)
wanted-right v s why _ turn may = refl

why-right : (v : PlanView) (s : Candidate) (why : Option Why) → (v.class.only ≡ false → HasTurn v) → why_by v.kept (allowed_by v.current) ≡ why →
    IsBare v (by_why v s why)
why-right v s None turn is = (refl, turn)
why-right v s (Some why) turn is = either (IsBare v) (is_none v.class.range && s.writer_group) _ _ (λ _. is) (λ _. wanted-right v s why s.span turn is)

current-right : (v : PlanView) (current : Option Candidate) → (v.class.only ≡ false → HasTurn v) → v.current ≡ current → IsBare v (by_current v current)
current-right v current turn is = search (arith, either, why-right)

bare-right : (v : PlanView) → IsBare v (bare_plan v)
bare-right v = search (arith, either, turn_other, turn_held, current-right)

timed-right : (v : PlanView) (p : Plan) → v.class.only ≡ false → IsBare v p → IsRightPlan v (in_time v p)
timed-right v (Direct n) plain h = (plain, h)
timed-right v (Fetch n) plain h = (plain, h.0, h.1 plain)
timed-right v (Bind why span) plain h = h
timed-right v (FirstHole span hole) plain h = (plain, h plain)
timed-right v Miss plain h = absurd h
timed-right v _ plain h =
    either (IsRightPlan v) (leb (v.since + longest_wait) v.moment) _ _ (λ _. (plain, refl)) (λ early. (plain, h, leb-lt (v.since + longest_wait) v.moment early))

stored-right : (v : PlanView) (p : Plan) → v.class.only ≡ true → IsBare v p → IsRightPlan v (from_store p)
stored-right v (Bind why span) only h = h
stored-right v _ only h = only

pub plans-right : PlansAreRight
unfolding plan_of
plans-right v =
    either (IsRightPlan v) v.class.only _ _ (λ only. stored-right v (bare_plan v) only (bare-right v))
    (λ plain. timed-right v (bare_plan v) plain (bare-right v))
