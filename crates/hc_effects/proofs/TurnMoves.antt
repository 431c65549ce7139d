-- What a poll does, and why: who opens for the turn has it, who waits for a body may read what is current.
--
-- A poll shows a head, waits for one, reads or plans (`move_as`). Who reads was shown a head and is bound where it
-- opens a hole. Who plans is bound to nothing and was shown nothing; the plan says what it found, and each plan is one
-- case of `Does`. What is current, as the plan sees it, has its row, and answers the request where the plan says so.
-- Who was let through may read what is current, by `Turns`.
use Rattle.std.{proofs.{lemmas.Bool.Decides.{nat_tests}, Common.{arith, ◌≡◌, ℕ, ◌+◌, Bool, true, false, Option, Some, None, refl, ap, sym, ◌∙◌, subst}}, specs.{Prelude.{◌==◌, if◌then◌else◌}, Option.{option_and_then, option_map}}}
use Rattle.hc_text.proofs.Basics.{not_some as none_some, some_inj}
use Rattle.hc_range.specs.declared.range.Span.{Span}
use Rattle.hc_sparse.specs.declared.run.Run.{Run}
use Rattle.hc_effects.proofs.Vocabulary.{Request, Response, Need, Why, Cause, Candidate, Plan, PlanView, route_of, plan_of, class_of, is_bypassing, is_disabled, is_only, wanted_of, range_of, Place, BoundBy, opened_place, place_for_hole, bound_to_wanted, kept_by, current, row_of, HasPassed, Turns, turn_with, Move, Nothing, Asks, Opens, Shows, Gives, Ends, Fails, opens_hole, plan_view, plan_move, planned_move, has_passed, candidate, candidate_at, current_row, shows_head, has_joined, if_headless, by_place, poll_move, bound_to, hi_of, own_open, Tables, Representation, Consumer, Sound, bound_row, later_hole, reading, need, wait, route, wanted, place, by}
use Rattle.hc_fresh.specs.Vary.{matches_vary}
use Rattle.hc_model.specs.Moves as moves
use Rattle.hc_effects.proofs.{MoveWords.{at_as, binds_as, move_as, never_plans, reading_as, waits_as}, TurnPlans.{Planned, IsVaried, IsQueueing, plan_is}}
use Rattle.hc_effects.proofs.TurnPlans as plans

-- what is current answers the consumer's request too
pub record MayRead (t : Tables) (k : Consumer) (r : ℕ) : Type 0 where
  pub current : current t k.request.key ≡ Some r
  pub v : Representation
  pub row : t.representation r ≡ Some v
  pub agrees : matches_vary v.head k.request ≡ true
  pub plain : is_bypassing k.request ≡ false

-- neither past the store, nor from the store alone
pub record Queues (k : Consumer) : Type 0 where
  pub cached : is_disabled k.request ≡ false
  pub asks : is_only k.request ≡ false

-- where a plan is made: in the line or let through, or, before its head came, with the turn or past the store
abbrev pub Plans : Place → Type 0
Plans place.Line = Unit {0}
Plans (place.Passed r kept) = Unit {0}
Plans (place.Turn x) = Unit {0}
Plans (place.Direct x) = Unit {0}
Plans _ = ⊥

-- it was shown nothing and is bound to nothing
record IsUnread (k : Consumer) : Type 0 where
  shown : k.shown ≡ false
  bound : bound_to k.place ≡ None
  plans : Plans k.place

-- and may ask the origin
pub record IsNew (k : Consumer) : Type 0 where
  pub shown : k.shown ≡ false
  pub bound : bound_to k.place ≡ None
  pub plans : Plans k.place
  pub asks : is_only k.request ≡ false

-- if it was let through, it kept no 304
abbrev pub KeptNone : Place → Type 0
KeptNone (place.Passed r (Some x)) = ⊥
KeptNone _ = Unit {0}

pub kept_none : (p : Place) → (has_passed p ≡ true → kept_by p ≡ None) → KeptNone p
kept_none p none = grind (arith, nat_tests)

pub data Does (t : Tables) (c : ℕ) (k : Consumer) : Move → Type 0 where
  nothing : Does t c k Nothing
  waits_turn : (d : ℕ) → IsNew k → (turn_with t k.request.key c == c) ≡ false → KeptNone k.place → Does t c k (moves.Waits (wait.Turn d))
  passes : (d r : ℕ) → IsNew k → Queues k → MayRead t k r → Does t c k (moves.Waits (wait.Busy d))
  waits_head : (x : ℕ) → Does t c k (moves.Waits (wait.Head x))
  waits_body : (x : ℕ) → Does t c k (moves.Waits (wait.Body x))
  asks : (x : ℕ) → Does t c k (Asks x)
  past : (n : Need) (request : Request) → route_of n ≡ route.Direct → IsNew k → Does t c k (Opens (t.opened + 1) n request)
  fetches : (n : Need) (request : Request) → route_of n ≡ route.Turn → IsNew k → Queues k → turn_with t k.request.key c ≡ c →
      (n ≡ need.Validate → (r : ℕ) × MayRead t k r) → (n ≡ need.Bypass → is_bypassing k.request ≡ true) → Does t c k (Opens (t.opened + 1) n request)
  first : (n : Need) (request : Request) (r lo : ℕ) (hi : Option ℕ) → route_of n ≡ route.Hole → IsNew k →
      opened_place t (t.opened + 1) k route.Hole ≡ place.Bound r lo hi (by.FirstHole (t.opened + 1)) → Does t c k (Opens (t.opened + 1) n request)
  later : (n : Need) (request : Request) (r lo : ℕ) (hi : Option ℕ) (how : BoundBy) → route_of n ≡ route.Hole → k.shown ≡ true →
      k.place ≡ place.Bound r lo hi how → Does t c k (Opens (t.opened + 1) n request)
  shows : (r : ℕ) (why : Why) (head : Response) (lo : ℕ) (hi : Option ℕ) →
      ((q low y : ℕ) (high : Option ℕ) → k.place ≡ place.Bound q low high (by.FirstHole y) → has_joined (t.exchange y) ≡ true) →
      Does t c k (Shows r why head lo hi)
  given : (run : Run) → Does t c k (Gives run)
  ends : Does t c k Ends
  fails : (cause : Cause) → Does t c k (Fails cause)

module _ (t : Tables) (c : ℕ) (k : Consumer) where
  -- READING

  module _ (want : ℕ) (shown : k.shown ≡ true) where
    later_row : (p : Place) (hole : Span) (o : Option Representation) → k.place ≡ p → row_of t (bound_to p) ≡ o → Does t c k (opens_hole t k.request o hole)
    later_row p hole None at row = nothing
    later_row (place.Bound r lo hi how) hole (Some v) at row = later _ _ r lo hi how refl shown at
    later_row _ hole (Some v) at row = absurd (none_some v row)

    does_later : (hole : Span) (o : Option ℕ) → Does t c k (later_hole t k hole o)
    does_later hole None = nothing
    does_later hole (Some hi) = later_row k.place hole (bound_row t k) refl refl

    does_reading : Does t c k (reading t want c k)
    does_reading = reading_as (Does t c k) nothing t want c k ends given (λ cause due. fails cause)
        (λ x from. waits_as (Does t c k) nothing x (waits_body _) (asks x) (t.exchange x)) (λ hole. does_later hole (hi_of t k.place))

  -- PLANS

  module _ (s : Sound t) (turns : Turns t) (row : t.consumer c ≡ Some k) (now : ℕ) where
    abbrev view : PlanView
    view = plan_view t now c k

    record IsCandidate (z : Candidate) : Type 0 where
      r : ℕ
      current_is : current t k.request.key ≡ Some r
      v : Representation
      there : t.representation r ≡ Some v
      is : z ≡ candidate t now r k.request v

    candidate_row : (r : ℕ) (o : Option Representation) (z : Candidate) → current t k.request.key ≡ Some r → t.representation r ≡ o →
        option_map (λ v. candidate t now r k.request v) o ≡ Some z → IsCandidate z
    candidate_row r None z at there h = absurd (none_some z h)
    candidate_row r (Some v) z at there h = record { r = r; current_is = at; v = v; there = there; is = sym (some_inj _ z h) }

    candidate_is : (o : Option ℕ) (z : Candidate) → current t k.request.key ≡ o → option_and_then (candidate_at t now k.request) o ≡ Some z → IsCandidate z
    candidate_is None z at h = absurd (none_some z h)
    candidate_is (Some r) z at h = candidate_row r (t.representation r) z at refl h

    may_read : IsVaried view → is_bypassing k.request ≡ false → (r : ℕ) × MayRead t k r
    may_read varied plain = grind (arith, nat_tests)

    passed_by_place : (p : Place) → k.place ≡ p → has_passed p ≡ true → (r : ℕ) × HasPassed t r k
    passed_by_place (place.Passed r kept) at h = (r, turns.passed c r kept k row at)
    passed_by_place _ at h = absurd (let no_one : false ≡ true = h in cc)

    through : view.passed ≡ true → (view.class.bypassing ≡ false) × IsVaried view
    unfolding class_of
    through passed =
        let both = passed_by_place k.place refl passed in
        let h = both.1 in
        let z = candidate t now both.0 k.request h.v in (
          h.plain,
          record {
            s = z;
            current = ap (option_and_then (candidate_at t now k.request)) h.current_is ∙ ap (option_map (λ v. candidate t now both.0 k.request v)) h.row;
            vary = h.agrees;
          },
        )

    queueing : IsQueueing view → Queues k
    unfolding class_of
    queueing q = record { cached = q.cached; asks = q.asks }

    plain_is : view.class.bypassing ≡ false → is_bypassing k.request ≡ false
    unfolding class_of
    plain_is h = h

    asks_is : view.class.only ≡ false → is_only k.request ≡ false
    unfolding class_of
    asks_is h = h

    asking : IsUnread k → view.class.only ≡ false → IsNew k
    asking u only = record { shown = u.shown; bound = u.bound; plans = u.plans; asks = asks_is only }

    bypass_is : view.class.bypassing ≡ true → is_bypassing k.request ≡ true
    unfolding class_of
    bypass_is h = h

    -- a first hole binds to what is current
    binds_first : (hole span : Span) (z : Candidate) → IsNew k → z.span ≡ wanted.Interval span → IsCandidate z →
        Does t c k (opens_hole t k.request (current_row t k) hole)
    binds_first hole span z is_new at found =
        let wants : wanted_of (range_of k.request) found.v.head.total ≡ wanted.Interval span = ap (λ (y : Candidate). y.span) (sym found.is) ∙ at in
        let here : row_of t (current t k.request.key) ≡ Some found.v = ap (row_of t) found.current_is ∙ found.there in
        let bound : opened_place t (t.opened + 1) k route.Hole ≡ place.Bound found.r span.lo (Some span.hi) (by.FirstHole (t.opened + 1)) =
        ap (place_for_hole (t.opened + 1) k.request (current t k.request.key)) here
        ∙ (ap (λ o. place_for_hole (t.opened + 1) k.request o (Some found.v)) found.current_is
        ∙ ap (bound_to_wanted found.r (by.FirstHole (t.opened + 1)) place.Line) wants) in
        rw here (first _ _ found.r span.lo (Some span.hi) refl is_new bound)

    does_plan : IsUnread k → (p : Plan) → Planned view p → Does t c k (plan_move t k p)
    does_plan u _ (plans.past n way only) = past n _ way (asking u only)
    does_plan u _ (plans.waits_turn d other only back) = waits_turn d (asking u only) other (kept_none k.place back)
    does_plan u _ (plans.fetches n way queue turn_is varied bypass) =
        fetches n _ way (asking u queue.asks) (queueing queue) turn_is (λ is. may_read (varied is).1 (plain_is (varied is).0)) (λ is. bypass_is (bypass is))
    does_plan u _ (plans.binds why span) =
        binds_as (Does t c k) nothing t k why span (current t k.request.key)
        (λ r head lo hi now. shows r why head lo hi (λ q low y high at. absurd (none_some q (sym u.bound ∙ ap bound_to at))))
    does_plan u _ (plans.first span hole z only current_is at) =
        binds_first hole span z (asking u only) at (candidate_is (current t k.request.key) z refl current_is)
    does_plan u _ (plans.busy d kept queue plain varied) =
        let m = may_read varied (plain_is plain) in passes d m.0 (asking u queue.asks) (queueing queue) m.1
    does_plan u _ plans.misses = fails _

    does_planned : IsUnread k → Does t c k (planned_move t now c k)
    does_planned u = does_plan u (plan_of view) (plan_is view through)

    by_shown : (want : ℕ) (b : Bool) → k.shown ≡ b → (b ≡ false → (bound_to k.place ≡ None) × Plans k.place) →
        Does t c k (if b then reading t want c k else planned_move t now c k)
    by_shown want true shown free = does_reading want shown
    by_shown want false shown free = let both = free refl in does_planned (record { shown = shown; bound = both.0; plans = both.1 })

    does_place : (want : ℕ) (p : Place) → k.place ≡ p → shows_head t k ≡ None → option_and_then (if_headless t) (own_open t k) ≡ None →
        Does t c k (by_place t now want c k p)
    does_place want (place.Down cause) at none not_waiting = fails cause
    does_place want place.Over at none not_waiting = nothing
    does_place want (place.Bound r lo hi how) at none not_waiting =
        by_shown want k.shown refl (λ shown. absurd (never_plans t k r lo hi how at shown (s.unshown c r lo hi how k row at shown) none not_waiting))
    does_place want _ at none not_waiting = by_shown want k.shown refl (λ _. (ap bound_to at, subst Plans (sym at) tt))

    -- every move of a poll is such
    pub does_polled : (want : ℕ) → Does t c k (poll_move t now want c (Some k))
    does_polled want =
        move_as (Does t c k) nothing t now want c k
        (λ m shown is. at_as (Does t c k) nothing t k k.place m is (λ r why head lo hi at. shows r why head lo hi at.joined))
        waits_head (does_place want k.place refl)
