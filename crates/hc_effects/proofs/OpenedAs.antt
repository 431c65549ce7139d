-- What an exchange is opened as: past the store, with the turn, for a first hole, or for a later one of who is bound.
--
-- By the move of the poll (`by_move`). A plan opens past the store, with the turn, or for a first hole (`by_plan`,
-- `first_by`), and a reader for a later one (`later_by`, `step_opens`). Moves of other kinds open nothing. `OpenedAs`
-- has what each tells of its need and its request: the key and the method are those of its consumer, and where that
-- stands. `opened_as` says so of the move of any poll.
use Rattle.std.proofs.{lemmas.Bool.Decides.{nat_tests}, Common.{arith, ◌≡◌, ℕ, ◌+◌, true, false, Option, Some, None, refl, ap, sym, ◌∙◌, subst}}
use Rattle.hc_range.specs.declared.range.Span.{Span}
use Rattle.hc_effects.proofs.Vocabulary.{Opening, Request, Need, Why, Plan, ReadStep, route_of, plan_of, read_step, class_of, is_bypassing, is_disabled, range_of, wanted_of, Place, BoundBy, current, row_of, first_hole, Move, Nothing, Fails, Opens, opens_hole, plan_view, plan_move, origin_request, current_row, binds_current, hole_of, shows_at, move_of, bound_to, Tables, Representation, Consumer, Sound, read_view, step_move, later_hole, bound_row, cause, need, wait, route, wanted, place}
use Rattle.hc_rules.specs.declared.reading.ReadStep.TheVariants as step
use Rattle.hc_model.specs.Moves as moves
use Rattle.hc_effects.proofs.{Asked.{Asked, AskedBy, plan_asks}, MoveBy.{MoveBy, IsHeard, move_by}, PlanBy.{PlanBy, plan_by}, Said.{IsOpening}, ShownFrom.{candidate_is}, MoveWords.{at_as, binds_as, gives_as, waits_as}}
use Rattle.hc_effects.proofs.MoveBy as by
use Rattle.hc_effects.proofs.PlanBy as plans
use Rattle.hc_effects.proofs.Said as said

pub bypassing_is : (request : Request) → (class_of request).bypassing ≡ is_bypassing request
unfolding class_of
bypassing_is request = refl

module _ (t : Tables) (now c : ℕ) (k : Consumer) where
  pub data Way (n : Need) : Type 0 where
    passes_by : bound_to k.place ≡ None → route_of n ≡ route.Direct → Way n
    fetches : bound_to k.place ≡ None → route_of n ≡ route.Turn → is_disabled k.request ≡ false → Way n
    fills : (r : ℕ) (v : Representation) (span hole : Span) → bound_to k.place ≡ None → route_of n ≡ route.Hole → current t k.request.key ≡ Some r →
        t.representation r ≡ Some v → wanted_of (range_of k.request) v.head.total ≡ wanted.Interval span → first_hole v.stored v.reach span ≡ Some hole →
        n ≡ need.Hole hole.lo hole.hi → is_disabled k.request ≡ false → Way n
    goes_on : (r lo : ℕ) (hi : Option ℕ) (how : BoundBy) → k.place ≡ place.Bound r lo hi how → route_of n ≡ route.Hole → Way n

  -- who doesn't open for a hole is bound to nothing
  pub free_by : (n : Need) → Way n → (route_of n ≡ route.Hole → ⊥) → bound_to k.place ≡ None
  free_by n it1 off = grind (arith, nat_tests)

  pub record OpenedAs (n : Need) (request : Request) : Type 0 where
    pub key_is : request.key ≡ k.request.key
    pub method_is : request.method ≡ k.request.method
    pub plain : n ≡ need.Validate → is_bypassing k.request ≡ false
    pub bypasses : n ≡ need.Bypass → is_bypassing k.request ≡ true
    pub heard : IsHeard t k
    pub unread : bound_to k.place ≡ None → shows_at t k k.place ≡ None
    pub unshown : bound_to k.place ≡ None → k.shown ≡ false
    pub asked : bound_to k.place ≡ None → Asked (plan_view t now c k) n
    pub way : Way n

  module _ (x : ℕ) (n : Need) (request : Request) where
    abbrev open_it : Move
    open_it = Opens x n request

    -- a move that doesn't open it
    abbrev Other : Move → Type 0
    Other m = m ≡ open_it → ⊥

    record IsForHole (asked : Request) (hole : Span) : Type 0 where
      need_is : n ≡ need.Hole hole.lo hole.hi
      key_is : request.key ≡ asked.key
      method_is : request.method ≡ asked.method

    hole_opens : (asked : Request) (o : Option Representation) (hole : Span) → opens_hole t asked o hole ≡ open_it → (v : Representation) × (o ≡ Some v) ×
        IsForHole asked hole
    hole_opens asked o hole is = grind (arith, nat_tests)

    -- READING

    later_at : (hole : Span) (p : Place) (o : Option Representation) (hi : Option ℕ) → k.place ≡ p → row_of t (bound_to p) ≡ o → bound_row t k ≡ o →
        later_hole t k hole hi ≡ open_it → (bound_to k.place ≡ bound_to p) × IsForHole k.request hole ×
        ((v : Representation) × (row_of t (bound_to p) ≡ Some v))
    later_at hole p o hi at row bound is = grind (arith, nat_tests)

    hole_other : need.Validate ≡ n → (hole : Span) → n ≡ need.Hole hole.lo hole.hi → ⊥
    hole_other a hole b = let never : need.Validate ≡ need.Hole hole.lo hole.hi = a ∙ b in cc

    hole_bypass : need.Bypass ≡ n → (hole : Span) → n ≡ need.Hole hole.lo hole.hi → ⊥
    hole_bypass a hole b = let never : need.Bypass ≡ need.Hole hole.lo hole.hi = a ∙ b in cc

    none_row : (v : Representation) → row_of t None ≡ Some v → ⊥
    none_row v is = let never : None ≡ Some v = is in cc

    later_by : (hole : Span) (p : Place) → IsHeard t k → k.place ≡ p → IsForHole k.request hole → (v : Representation) → row_of t (bound_to p) ≡ Some v →
        OpenedAs n request
    later_by hole (place.Bound r lo hi how) heard at h v row = record {
      key_is = h.key_is;
      method_is = h.method_is;
      plain = λ is. absurd (hole_other (sym is) hole h.need_is);
      bypasses = λ is. absurd (hole_bypass (sym is) hole h.need_is);
      heard = heard;
      unread = λ free. absurd (let no : Some r ≡ None = sym (ap bound_to at) ∙ free in cc);
      unshown = λ free. absurd (let no : Some r ≡ None = sym (ap bound_to at) ∙ free in cc);
      asked = λ free. absurd (let no : Some r ≡ None = sym (ap bound_to at) ∙ free in cc);
      way = goes_on r lo hi how at (ap route_of h.need_is);
    }
    later_by hole _ heard at h v row = absurd (none_row v row)

    step_opens : (want : ℕ) (s : ReadStep) → IsHeard t k → step_move t want c k s ≡ open_it → OpenedAs n request
    step_opens want step.Ended heard is = absurd (let never : moves.Ends ≡ open_it = is in cc)
    step_opens want (step.Failed why) heard is = absurd (let never : Fails why ≡ open_it = is in cc)
    step_opens want (step.Waits y) heard is = absurd (waits_as Other (λ is. cc) y (λ is. cc) (λ is. cc) (t.exchange y) is)
    step_opens want (step.Hole hole) heard is =
        let all = later_at hole k.place (bound_row t k) _ refl refl refl is in
        later_by hole k.place heard refl all.1 all.2.0 all.2.1
    step_opens want _ heard is = absurd (gives_as Other (λ is. cc) (λ run is. cc) _ is)

    -- PLANS

    fetched_key : (m : Need) → (origin_request t k m).key ≡ k.request.key
    fetched_key m = grind (arith, nat_tests)

    fetched_method : (m : Need) → (origin_request t k m).method ≡ k.request.method
    fetched_method m = grind (arith, nat_tests)

    cached_is : (plan_view t now c k).class.disabled ≡ false → is_disabled k.request ≡ false
    unfolding class_of
    cached_is h = h

    opens_same : (y : ℕ) (m : Need) (asked : Request) → Opens y m asked ≡ open_it → (m ≡ n) × (asked ≡ request)
    opens_same y m asked is = (cc, cc)

    direct_other : (m : Need) → route_of m ≡ route.Direct → m ≡ need.Validate → ⊥
    direct_other m way is = let never : route.Turn ≡ route.Direct = sym (ap route_of is) ∙ way in cc

    direct_bypass : (m : Need) → route_of m ≡ route.Direct → m ≡ need.Bypass → ⊥
    direct_bypass m way is = let never : route.Turn ≡ route.Direct = sym (ap route_of is) ∙ way in cc

    binds_opens : (why : Why) (span : Option Span) (o : Option ℕ) → Other (binds_current t k why span o)
    binds_opens why span o = binds_as Other (λ is. cc) t k why span o (λ r head lo hi now is. cc)

    first_by : (span hole : Span) → is_disabled k.request ≡ false → (j : plans.IsAlone (plan_view t now c k) span (Some hole)) → bound_to k.place ≡ None →
        k.shown ≡ false → shows_at t k k.place ≡ None → IsHeard t k → IsForHole k.request hole → OpenedAs n request
    first_by span hole cached j free off none heard h =
        let a = candidate_is t now c k j.s j.current in
        record {
          key_is = h.key_is;
          method_is = h.method_is;
          plain = λ is. absurd (hole_other (sym is) hole h.need_is);
          bypasses = λ is. absurd (hole_bypass (sym is) hole h.need_is);
          heard = heard;
          unread = λ is. none;
          unshown = λ is. off;
          asked = λ is. subst (Asked (plan_view t now c k)) (sym h.need_is) (j.s, j.current);
          way = fills a.r a.v span hole free (ap route_of h.need_is) a.current_is a.row (sym a.span_is ∙ j.wanted_is)
              (sym (ap (hole_of a.v) j.wanted_is) ∙ (sym a.hole_is ∙ j.hole_is)) h.need_is cached;
        }

    by_plan : (p : Plan) → PlanBy (plan_view t now c k) p → AskedBy (plan_view t now c k) p → bound_to k.place ≡ None → k.shown ≡ false →
        shows_at t k k.place ≡ None → IsHeard t k → plan_move t k p ≡ open_it → OpenedAs n request
    by_plan _ (plans.turn d) asks free off none heard is = absurd (let never : moves.Waits (wait.Turn d) ≡ open_it = is in cc)
    by_plan _ (plans.busy d kept plain) asks free off none heard is = absurd (let never : moves.Waits (wait.Busy d) ≡ open_it = is in cc)
    by_plan _ plans.misses asks free off none heard is = absurd (let never : Fails cause.Miss ≡ open_it = is in cc)
    by_plan _ (plans.passes_by m way) asks free off none heard is =
        let same = opens_same (t.opened + 1) m k.request is in
        record {
          key_is = sym (ap (λ (z : Request). z.key) same.1);
          method_is = sym (ap (λ (z : Request). z.method) same.1);
          plain =
              λ at. absurd (direct_other m way (same.0 ∙ at));
          bypasses = λ at. absurd (direct_bypass m way (same.0 ∙ at));
          heard = heard;
          unread = λ is. none;
          unshown = λ is. off;
          asked = λ at. subst (Asked (plan_view t now c k)) same.0 asks;
          way = passes_by free (sym (ap route_of same.0) ∙ way);
        }
    by_plan _ (plans.fetches m way plain bypass cached) asks free off none heard is =
        let same = opens_same (t.opened + 1) m (origin_request t k m) is in
        record {
          key_is = sym (ap (λ (z : Request). z.key) same.1) ∙ fetched_key m;
          method_is = sym (ap (λ (z : Request). z.method) same.1) ∙
              fetched_method m;
          plain = λ at. sym (bypassing_is k.request) ∙ plain (same.0 ∙ at);
          bypasses = λ at. sym (bypassing_is k.request) ∙
              bypass (same.0 ∙ at);
          heard = heard;
          unread = λ is. none;
          unshown = λ is. off;
          asked = λ at. subst (Asked (plan_view t now c k)) same.0 asks;
          way = fetches free (sym (ap route_of same.0) ∙ way) (cached_is cached);
        }
    by_plan _ (plans.joins why cached j) asks free off none heard is = absurd (binds_opens why None (current t k.request.key) is)
    by_plan _ (plans.reads why span cached j) asks free off none heard is = absurd (binds_opens why (Some span) (current t k.request.key) is)
    by_plan _ (plans.fills span hole cached j nobody) asks free off none heard is =
        first_by span hole (cached_is cached) j free off none heard ((hole_opens k.request (current_row t k) hole is).2)

    by_move : (want : ℕ) (m : Move) → MoveBy t now want c k m → m ≡ open_it → OpenedAs n request
    by_move want m (by.shows _ shown at) is = absurd (at_as Other (λ is. cc) t k k.place m at (λ r why head lo hi there is. cc) is)
    by_move want _ (by.waits y own bare) is = absurd (let never : moves.Waits (wait.Head y) ≡ open_it = is in cc)
    by_move want _ (by.down why at) is = absurd (let never : Fails why ≡ open_it = is in cc)
    by_move want _ (by.over at) is = absurd (let never : Nothing ≡ open_it = is in cc)
    by_move want _ (by.reads shown heard) is = step_opens want (read_step (read_view t want c k)) heard is
    by_move want _ (by.plans shown free none heard) is =
        by_plan (plan_of (plan_view t now c k)) (plan_by (plan_view t now c k)) (plan_asks (plan_view t now c k)) free shown none heard is

  pub opening_is : (o : Opening) (m : Move) → IsOpening o m → m ≡ Opens o.x o.need o.request
  opening_is o _ said.opens = refl

  pub opened_as : (want : ℕ) (o : Opening) → Sound t → t.consumer c ≡ Some k → IsOpening o (move_of t now want c k) → OpenedAs o.need o.request
  opened_as want o s row opening =
      by_move o.x o.need o.request want (move_of t now want c k) (move_by t now want c k s row) (opening_is o (move_of t now want c k) opening)
