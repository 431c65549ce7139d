-- Why a consumer is shown a head: it came for it, its first hole joined, freshness allows it, or it kept a 304.
--
-- A plan that binds does so for a reason: each plan is gone through (`bare_why`, `plan_why`), and the reason is
-- freshness, or the 304 that is kept (`by_kept`). Who stands where it is shown a head was brought it by its own
-- exchange, or by its first hole that joined (`bound_shown`). A poll shows by where its consumer stands
-- or by its plan (`by_moves`). `shown_why` says so of the move of a poll.
use Rattle.std.{proofs.{lemmas.Bool.Decides.{nat_tests}, Common.{arith, ◌≡◌, inl, inr, ℕ, Bool, true, false, Option, Some, None, refl, ap, sym, ◌∙◌}}, specs.{Prelude.{is_none, ◌&&◌}, Option.{option_map}}}
use Rattle.hc_text.proofs.Basics.{bool_cases, not_some as none_some, some_inj}
use Rattle.hc_range.specs.declared.range.Span.{Span}
use Rattle.hc_effects.proofs.Vocabulary.{Request, Response, Why, Candidate, Plan, PlanView, plan_of, bare_plan, in_time, from_store, by_current, why_by, queues, BoundBy, Place, kept_by, current, total_in, Move, Nothing, Shows, shows_stored, opens_hole, plan_view, plan_move, candidate, binds_current, move_of, shows_at, shows_bound, shows_direct, has_joined, hi_of, Tables, Exchange, Representation, Consumer, Sound, need, plan, by, place}
use Rattle.hc_event.specs.declared.act.Why.TheVariants as why_is
use Rattle.hc_fresh.specs.Facts.{allowed}
use Rattle.hc_effects.proofs.{Joining.{mix}, MoveBy.{shows, reads, plans, MoveBy, move_by}, ShownOnce.{is_showing, shown_shows}}

-- A PLAN

-- a plan that binds does so for a reason
abbrev IsWhy : PlanView → Plan → Type 0
IsWhy v (plan.Bind why span) = (s : Candidate) × (v.current ≡ Some s) × (why_by v.kept s.allowed ≡ Some why)
IsWhy v _ = Unit {0}

module _ (v : PlanView) where
  current_why : (o : Option Candidate) → v.current ≡ o → IsWhy v (by_current v o)
  current_why o is = grind (arith, nat_tests)

  bare_why : IsWhy v (bare_plan v)
  bare_why =
      mix (IsWhy v) v.class.disabled (plan.Direct need.Disabled) _ tt
      (mix (IsWhy v) (queues v) (plan.Turn v.turn) _ tt
      (mix (IsWhy v) v.class.bypassing (plan.Fetch need.Bypass) (by_current v v.current) tt (current_why v.current refl)))

  in_time_why : (p : Plan) → IsWhy v p → IsWhy v (in_time v p)
  in_time_why p is = grind (arith, nat_tests)

  from_store_why : (p : Plan) → IsWhy v p → IsWhy v (from_store p)
  from_store_why p is = grind (arith, nat_tests)

  plan_why : IsWhy v (plan_of v)
  unfolding plan_of
  plan_why = mix (IsWhy v) v.class.only (from_store (bare_plan v)) (in_time v (bare_plan v)) (from_store_why (bare_plan v) bare_why)
      (in_time_why (bare_plan v) bare_why)

-- A HEAD THAT IS SHOWN

module _ (t : Tables) (now c : ℕ) (k : Consumer) (r lo : ℕ) (hi : Option ℕ) (why : Why) (head : Response) where
  abbrev show : Move
  show = Shows r why head lo hi

  pub data ShownWhy : Type 0 where
    fetched : why ≡ why_is.Fetched r → ShownWhy
    first : (a y : ℕ) (b : Option ℕ) → k.place ≡ place.Bound r a b (by.FirstHole y) → has_joined (t.exchange y) ≡ true → why ≡ why_is.Validated y → ShownWhy
    allows : (v : Representation) → t.representation r ≡ Some v → allowed v.head k.request now ≡ Some why → ShownWhy
    keeps : (x : ℕ) → kept_by k.place ≡ Some x → current t k.request.key ≡ Some r → why ≡ why_is.Validated x → ShownWhy

  stored_why : (q : ℕ) (y : Why) (ranged : Bool) (a : ℕ) (b : Option ℕ) (z : Option Representation) → shows_stored q y ranged a b z ≡ show → (q ≡ r) × (y ≡ why)
  stored_why q y ranged a b z is = grind (arith, nat_tests)

  bound_shown : (q a : ℕ) (b d : Option ℕ) (how : BoundBy) → k.place ≡ place.Bound q a b how → shows_bound t k q a d how ≡ Some show → ShownWhy
  bound_shown q a b d by.Founding at is = grind (arith, nat_tests)
  bound_shown q a b d (by.FirstHole y) at is = elim (bool_cases (has_joined (t.exchange y))) [
    | inr off ↦ absurd (none_some show (rw off at is))
    | inl joined ↦
        let got = stored_why q _ _ a d (t.representation q) (some_inj _ show (rw joined at is)) in
        first a y b (at ∙ ap (λ n. place.Bound n a b (by.FirstHole y)) got.0) joined (sym got.1)
  ]
  bound_shown q a b d by.Plan at is = absurd (none_some show is)

  direct_shown : (x : ℕ) (z : Option Exchange) → shows_direct t x z ≡ Some show → ShownWhy
  direct_shown x z is = grind (arith, nat_tests)

  at_shown : (p : Place) → k.place ≡ p → shows_at t k p ≡ Some show → ShownWhy
  at_shown (place.Bound q a b how) at is = bound_shown q a b (hi_of t k.place) how at is
  at_shown (place.Direct x) at is = direct_shown x (t.exchange x) is
  at_shown _ at is = absurd (none_some show is)

  -- BY ITS PLAN

  candidate_allows : (q : ℕ) (o : Option Representation) (s : Candidate) → t.representation q ≡ o →
      option_map (λ v. candidate t now q k.request v) o ≡ Some s → (v : Representation) × (t.representation q ≡ Some v) ×
      (s.allowed ≡ allowed v.head k.request now)
  candidate_allows q o s row is = grind (arith, nat_tests)

  by_kept : (s : Candidate) (y : Why) (o : Option ℕ) → kept_by k.place ≡ o → (plan_view t now c k).current ≡ Some s → why_by o s.allowed ≡ Some y →
      y ≡ why → current t k.request.key ≡ Some r → ShownWhy
  by_kept s y (Some x) kept at is same number = keeps x kept number (sym same ∙ sym (some_inj (why_is.Validated x) y is))
  by_kept s y None kept at is same number =
      let got = candidate_allows r (t.representation r) s refl (rw number at at) in
      allows got.0 got.1 (sym got.2 ∙ (is ∙ ap Some same))

  bind_by : (y : Why) (span : Option Span) (o : Option ℕ) → current t k.request.key ≡ o → IsWhy (plan_view t now c k) (plan.Bind y span) →
      binds_current t k y span o ≡ show → ShownWhy
  bind_by y span None at reason is = absurd (let no : Nothing ≡ show = is in cc)
  bind_by y None (Some q) at reason is =
      let got = stored_why q y _ 0 (total_in (t.representation q)) (t.representation q) is in
      by_kept reason.0 y (kept_by k.place) refl reason.1 reason.2 got.1 (at ∙ ap Some got.0)
  bind_by y (Some span) (Some q) at reason is =
      let got = stored_why q y _ span.lo (Some span.hi) (t.representation q) is in
      by_kept reason.0 y (kept_by k.place) refl reason.1 reason.2 got.1 (at ∙ ap Some got.0)

  hole_shows : (request : Request) (o : Option Representation) (hole : Span) → opens_hole t request o hole ≡ show → ⊥
  hole_shows request o hole is = grind (arith, nat_tests)

  by_plan : (p : Plan) → IsWhy (plan_view t now c k) p → plan_move t k p ≡ show → ShownWhy
  by_plan (plan.Bind y span) reason is = bind_by y span (current t k.request.key) refl reason is
  by_plan (plan.FirstHole span hole) reason is = absurd (hole_shows k.request _ hole is)
  by_plan _ reason is = cc

  by_moves : (want : ℕ) (m : Move) → MoveBy t now want c k m → m ≡ move_of t now want c k → m ≡ show → ShownWhy
  by_moves want m (shows _ unshown at) here is = at_shown k.place refl (at ∙ ap Some is)
  by_moves want _ (reads on heard) here is =
      absurd (let none : is_showing (move_of t now want c k) ≡ false = shown_shows t now want c k on in let no : true ≡ false =
      sym (ap is_showing (sym here ∙ is)) ∙ none in cc)
  by_moves want _ (plans unshown free none heard) here is = by_plan (plan_of (plan_view t now c k)) (plan_why (plan_view t now c k)) is
  by_moves want _ _ here is = cc

  pub shown_why : (want : ℕ) → Sound t → t.consumer c ≡ Some k → move_of t now want c k ≡ show → ShownWhy
  shown_why want s row is = by_moves want (move_of t now want c k) (move_by t now want c k s row) refl is
