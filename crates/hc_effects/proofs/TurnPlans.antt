-- What a plan comes to, and why: who fetches has the turn, and who waits for a body may read what is current.
--
-- `Planned` has a constructor for each plan, with what is known by it. A plan is gone through as it is made: past the
-- store, from the store alone, and else in the line (`by_queue`). There what is current is looked at, by whether it
-- answers the request too (`by_vary`). Who isn't let through has the turn (`turn_by`), and who was let through and goes
-- back kept no 304 (`kept_none`). `plan_is` joins these.
use Rattle.std.{proofs.{lemmas.Bool.Decides.{nat_tests}, Common.{arith, ◌≡◌, ℕ, Bool, true, false, Option, Some, None, refl, ap, sym, ◌∙◌}}, specs.Prelude.{◌&&◌, ◌||◌, ◌==◌, not, is_none, if◌then◌else◌}}
use Rattle.hc_text.proofs.Basics.{and_left, and_right as and_then, eq_reports as eq_is, not_true as not_same}
use Rattle.hc_effects.proofs.Vocabulary.{Need, Why, Candidate, Plan, PlanView, Wanted, route_of, plan_of, bare_plan, queues, is_back, by_current, by_why, why_by, by_wanted, by_exclusive, by_hole, by_bound, in_time, from_store, need, route, plan, wanted}
use Rattle.hc_range.specs.declared.range.Span.{Span}
use Rattle.hc_rules.specs.Plans.{allowed_by}
use Rattle.hc_effects.proofs.Joining.{mix}

-- what is current answers the request too
pub record IsVaried (v : PlanView) : Type 0 where
  pub s : Candidate
  pub current : v.current ≡ Some s
  pub vary : s.vary ≡ true

-- neither past the store, nor from the store alone
pub record IsQueueing (v : PlanView) : Type 0 where
  pub cached : v.class.disabled ≡ false
  pub asks : v.class.only ≡ false

pub data Planned (v : PlanView) : Plan → Type 0 where
  past : (n : Need) → route_of n ≡ route.Direct → v.class.only ≡ false → Planned v (plan.Direct n)
  waits_turn : (d : ℕ) → (v.turn == v.c) ≡ false → v.class.only ≡ false → (v.passed ≡ true → v.kept ≡ None) → Planned v (plan.Turn d)
  fetches : (n : Need) → route_of n ≡ route.Turn → IsQueueing v → v.turn ≡ v.c → (n ≡ need.Validate → (v.class.bypassing ≡ false) × IsVaried v) →
      (n ≡ need.Bypass → v.class.bypassing ≡ true) → Planned v (plan.Fetch n)
  binds : (why : Why) (span : Option Span) → Planned v (plan.Bind why span)
  first : (span hole : Span) (s : Candidate) → v.class.only ≡ false → v.current ≡ Some s → s.span ≡ wanted.Interval span → Planned v (plan.FirstHole span hole)
  busy : (d : ℕ) (kept : Option ℕ) → IsQueueing v → v.class.bypassing ≡ false → IsVaried v → Planned v (plan.Busy d kept)
  misses : Planned v plan.Miss

never_true : {A : Type 0} (b : Bool) → b ≡ true → b ≡ false → A
never_true b p q = absurd (let no_one : true ≡ false = sym p ∙ q in cc)

never_none : {A B : Type 0} (o : Option A) (a : A) → o ≡ Some a → o ≡ None → B
never_none o a p q = absurd (let no_one : Some a ≡ None = sym p ∙ q in cc)

-- who isn't let through has the turn
turn_by : (through same only : Bool) → through ≡ true → only ≡ false → (through && not same && not only) ≡ false → same ≡ true
turn_by through same only a b h = grind (arith, nat_tests)

-- who was let through and goes back in line kept no 304
kept_none : (passed : Bool) (kept : Option ℕ) (none : Bool) → passed ≡ true → (not passed || (is_none kept && none)) ≡ true → kept ≡ None
kept_none passed kept none is h = grind (arith, nat_tests)

-- v is let through with what it has passed for
module _ (v : PlanView) (through : v.passed ≡ true → (v.class.bypassing ≡ false) × IsVaried v) where
  module _ (queueing : IsQueueing v) (goes : queues v ≡ false) where
    -- it has the turn, unless it passed
    turn_or : (b : Bool) → v.passed ≡ b → (b ≡ true → v.turn ≡ v.c) → v.turn ≡ v.c
    turn_or true is passed = passed refl
    turn_or false is passed = eq_is v.turn v.c (turn_by (not v.passed || is_back v) (v.turn == v.c) v.class.only (rw is refl) queueing.asks goes)

    module _ (s : Candidate) (current : v.current ≡ Some s) (vary : s.vary ≡ true) (plain : v.class.bypassing ≡ false) where
      varied : IsVaried v
      varied = record { s = s; current = current; vary = vary }

      by_bound_is : (span hole : Span) (o : Option ℕ) → s.span ≡ wanted.Interval span → Planned v (by_bound v span hole o)
      by_bound_is span hole None at = first span hole s queueing.asks current at
      by_bound_is span hole (Some d) at = busy d v.kept queueing plain varied

      by_hole_is : (why : Why) (span : Span) (o : Option Span) → s.span ≡ wanted.Interval span → Planned v (by_hole v s why span o)
      by_hole_is why span None at = binds why (Some span)
      by_hole_is why span (Some hole) at = by_bound_is span hole s.least_bound at

      by_exclusive_is : (why : Why) (span : Span) (o : Option ℕ) → s.span ≡ wanted.Interval span → Planned v (by_exclusive v s why span o)
      by_exclusive_is why span None at = by_hole_is why span s.hole at
      by_exclusive_is why span (Some d) at = busy d v.kept queueing plain varied

      by_wanted_is : (why : Why) (w : Wanted) → s.span ≡ w → Planned v (by_wanted v s why w)
      by_wanted_is why wanted.TotalUnknown at = busy _ _ queueing plain varied
      by_wanted_is why wanted.Unsatisfiable at = past need.Unsatisfied refl queueing.asks
      by_wanted_is why (wanted.Interval span) at = mix (Planned v) s.writer_group _ _ (busy _ _ queueing plain varied) (by_exclusive_is why span s.exclusive at)

      validates : why_by v.kept s.allowed ≡ None → v.turn ≡ v.c
      validates none = grind (arith, nat_tests)

      by_why_is : (o : Option Why) → why_by v.kept s.allowed ≡ o → Planned v (by_why v s o)
      by_why_is None none = fetches need.Validate refl queueing (validates none) (λ is. (plain, varied))
          (λ is. absurd (let no_one : need.Validate ≡ need.Bypass = is in cc))
      by_why_is (Some why) some = mix (Planned v) _ _ _ (binds why None) (by_wanted_is why s.span refl)

    by_vary : (s : Candidate) (b : Bool) → v.current ≡ Some s → s.vary ≡ b → v.class.bypassing ≡ false →
        Planned v (if b then by_why v s (why_by v.kept s.allowed) else plan.Fetch need.Vary)
    by_vary s true current vary plain = by_why_is s current vary plain (why_by v.kept s.allowed) refl
    by_vary s false current vary plain =
        fetches need.Vary refl queueing (turn_or v.passed refl (λ passed.
        let t = (through passed).1 in
        let same : t.s ≡ s = (let is : Some t.s ≡ Some s = sym t.current ∙ current in cc) in
        never_true s.vary (ap (λ (z : Candidate). z.vary) (sym same) ∙ t.vary) vary)) (λ is. absurd (let no_one : need.Vary ≡ need.Validate = is in cc))
        (λ is. absurd (let no_one : need.Vary ≡ need.Bypass = is in cc))

    by_current_is : (o : Option Candidate) → v.current ≡ o → v.class.bypassing ≡ false → Planned v (by_current v o)
    by_current_is None none plain =
        fetches need.Miss refl queueing (turn_or v.passed refl (λ passed. let t = (through passed).1 in never_none v.current t.s t.current none))
        (λ is. absurd (let no_one : need.Miss ≡ need.Validate = is in cc)) (λ is. absurd (let no_one : need.Miss ≡ need.Bypass = is in cc))
    by_current_is (Some s) some plain = by_vary s s.vary some refl plain

    by_class : (b : Bool) → v.class.bypassing ≡ b → Planned v (if b then plan.Fetch need.Bypass else by_current v v.current)
    by_class true bypass =
        fetches need.Bypass refl queueing (turn_or v.passed refl (λ passed. never_true v.class.bypassing bypass (through passed).0))
        (λ is. absurd (let no_one : need.Bypass ≡ need.Validate = is in cc)) (λ _. bypass)
    by_class false is = by_current_is v.current refl is

  by_queue : (b : Bool) → IsQueueing v → queues v ≡ b →
      Planned v (if b then plan.Turn v.turn else if v.class.bypassing then plan.Fetch need.Bypass else by_current v v.current)
  by_queue true queueing is =
      let let_back : (not v.passed || is_back v) ≡ true = and_left _ _ (and_left _ _ is) in
      waits_turn v.turn (not_same (v.turn == v.c) (and_then (not v.passed || is_back v) _ (and_left _ _ is))) queueing.asks
      (λ passed. kept_none v.passed v.kept (is_none (allowed_by v.current)) passed let_back)
  by_queue false queueing is = by_class queueing is v.class.bypassing refl

  bare_is : (b : Bool) → v.class.only ≡ false → v.class.disabled ≡ b →
      Planned v (if b then plan.Direct need.Disabled else if queues v then plan.Turn v.turn else if v.class.bypassing then plan.Fetch need.Bypass else
      by_current v v.current)
  bare_is true asks is = past need.Disabled refl asks
  bare_is false asks is = by_queue (queues v) (record { cached = is; asks = asks }) refl

  in_time_is : (p : Plan) → v.class.only ≡ false → Planned v p → Planned v (in_time v p)
  in_time_is (plan.Turn d) asks is = mix (Planned v) _ _ _ (past need.TimedOut refl asks) is
  in_time_is (plan.Busy d kept) asks is = mix (Planned v) _ _ _ (past need.TimedOut refl asks) is
  in_time_is _ asks is = is

  stored_is : (p : Plan) → Planned v (from_store p)
  stored_is (plan.Bind why span) = binds why span
  stored_is _ = misses

  by_only : (b : Bool) → v.class.only ≡ b → Planned v (if b then from_store (bare_plan v) else in_time v (bare_plan v))
  by_only true is = stored_is (bare_plan v)
  by_only false is = in_time_is (bare_plan v) is (bare_is v.class.disabled is refl)

  pub plan_is : Planned v (plan_of v)
  unfolding plan_of
  plan_is = by_only v.class.only refl
