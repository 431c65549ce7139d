-- Whoever waits for its turn, or for one who reads, is bound to nothing, and has no open exchange that waits for its
-- head.
use Rattle.std.proofs.{lemmas.Bool.Decides.{nat_tests}, Common.{arith, ◌≡◌, ℕ, false, Option, Some, None, sym, ◌∙◌}}
use Rattle.hc_range.specs.declared.range.Span.{Span}
use Rattle.hc_effects.proofs.Vocabulary.{Request, Wait, Why, Plan, ReadStep, plan_of, read_step, is_bypassing, current, Move, Nothing, Fails, opens_hole, plan_view, plan_move, origin_request, binds_current, current_row, shows_at, move_of, bound_to, Tables, Representation, Consumer, Sound, read_view, step_move, later_hole, bound_row, wait, plan}
use Rattle.hc_event.specs.declared.act.Cause.TheVariants as cause
use Rattle.hc_model.specs.Moves as moves
use Rattle.hc_effects.proofs.{MoveBy.{MoveBy, IsHeard, move_by}, PlanBy.{PlanBy, plan_by}, Said.{WaitsAs}, OpenedAs.{bypassing_is}, MoveWords.{at_as, binds_as, hole_as, step_as, waits_as}}
use Rattle.hc_effects.proofs.MoveBy as by
use Rattle.hc_effects.proofs.PlanBy as plans

-- the waits that aren't for an exchange
pub data IsForOthers : Wait → Type 0 where
  turn : (d : ℕ) → IsForOthers (wait.Turn d)
  busy : (d : ℕ) → IsForOthers (wait.Busy d)

module _ (t : Tables) (now c : ℕ) (k : Consumer) where
  -- its plan is to wait behind d
  pub record IsBusy (d : ℕ) : Type 0 where
    pub kept : Option ℕ
    pub is : plan_of (plan_view t now c k) ≡ plan.Busy d kept

  pub record WaitedAs (z : Wait) : Type 0 where
    pub heard : IsHeard t k
    pub free : bound_to k.place ≡ None
    pub unshown : k.shown ≡ false
    pub none : shows_at t k k.place ≡ None
    pub plain : (d : ℕ) → z ≡ wait.Busy d → is_bypassing k.request ≡ false
    pub plan_is : (d : ℕ) → z ≡ wait.Busy d → IsBusy d
    pub turn_is : (d : ℕ) → z ≡ wait.Turn d → plan_of (plan_view t now c k) ≡ plan.Turn d

  module _ (z : Wait) (others : IsForOthers z) where
    abbrev wait_it : Move
    wait_it = moves.Waits z

    head_other : (x : ℕ) (w : Wait) → IsForOthers w → wait.Head x ≡ w → ⊥
    head_other x w it2 is = grind (arith, nat_tests)

    body_other : (x : ℕ) (w : Wait) → IsForOthers w → wait.Body x ≡ w → ⊥
    body_other x w it2 is = grind (arith, nat_tests)

    wait_inj : (w : Wait) → moves.Waits w ≡ wait_it → w ≡ z
    wait_inj w is = cc

    -- a move that isn't this wait
    abbrev Other : Move → Type 0
    Other m = m ≡ wait_it → ⊥

    hole_waits : (asked : Request) (o : Option Representation) (hole : Span) → Other (opens_hole t asked o hole)
    hole_waits asked o hole = hole_as Other (λ is. cc) t asked hole o (λ v row is. cc)

    later_waits : (hole : Span) (hi : Option ℕ) → Other (later_hole t k hole hi)
    later_waits hole None is = cc
    later_waits hole (Some hi) is = hole_waits k.request (bound_row t k) hole is

    step_waits : (want : ℕ) (s : ReadStep) → Other (step_move t want c k s)
    step_waits want s = step_as Other (λ is. cc) t want c k (λ is. cc) (λ run is. cc) s (λ cause is. cc)
        (λ x. waits_as Other (λ is. cc) x (λ is. body_other x z others (wait_inj (wait.Body x) is)) (λ is. cc) (t.exchange x)) (λ hole at. later_waits hole _)

    binds_waits : (why : Why) (span : Option Span) (o : Option ℕ) → Other (binds_current t k why span o)
    binds_waits why span o = binds_as Other (λ is. cc) t k why span o (λ r head lo hi now is. cc)

    by_plan : (p : Plan) → PlanBy (plan_view t now c k) p → plan_move t k p ≡ wait_it → (d : ℕ) → z ≡ wait.Busy d → is_bypassing k.request ≡ false
    by_plan _ (plans.turn d) is b at = absurd (let same : wait.Turn d ≡ wait.Busy b = wait_inj (wait.Turn d) is ∙ at in cc)
    by_plan _ (plans.busy d kept plain) is b at = sym (bypassing_is k.request) ∙ plain
    by_plan _ plans.misses is b at = absurd (let never : Fails cause.Miss ≡ wait_it = is in cc)
    by_plan _ (plans.passes_by m way) is b at = absurd (let never : moves.opens t m k.request ≡ wait_it = is in cc)
    by_plan _ (plans.fetches m way plain bypass cached) is b at = absurd (let never : moves.opens t m (origin_request t k m) ≡ wait_it = is in cc)
    by_plan _ (plans.joins why cached j) is b at = absurd (binds_waits why None (current t k.request.key) is)
    by_plan _ (plans.reads why span cached j) is b at = absurd (binds_waits why (Some span) (current t k.request.key) is)
    by_plan _ (plans.fills span hole cached j nobody) is b at = absurd (hole_waits k.request (current_row t k) hole is)

    busy_at : (p : Plan) → PlanBy (plan_view t now c k) p → plan_move t k p ≡ wait_it → (d : ℕ) → z ≡ wait.Busy d → (kept : Option ℕ) × (p ≡ plan.Busy d kept)
    busy_at p it1 is b at = grind (arith, nat_tests)

    busy_is : plan_move t k (plan_of (plan_view t now c k)) ≡ wait_it → (d : ℕ) → z ≡ wait.Busy d → IsBusy d
    busy_is is d at = let all = busy_at (plan_of (plan_view t now c k)) (plan_by (plan_view t now c k)) is d at in record { kept = all.0; is = all.1 }

    turn_at : (p : Plan) → plan_move t k p ≡ wait_it → (d : ℕ) → z ≡ wait.Turn d → p ≡ plan.Turn d
    turn_at p is b at = grind (arith, nat_tests)

    by_move : (want : ℕ) (m : Move) → MoveBy t now want c k m → m ≡ wait_it → WaitedAs z
    by_move want m (by.shows _ shown at) is = absurd (at_as Other (λ is. cc) t k k.place m at (λ r why head lo hi there is. cc) is)
    by_move want _ (by.waits y own bare) is = absurd (head_other y z others (wait_inj (wait.Head y) is))
    by_move want _ (by.down why at) is = absurd (let never : Fails why ≡ wait_it = is in cc)
    by_move want _ (by.over at) is = absurd (let never : Nothing ≡ wait_it = is in cc)
    by_move want _ (by.reads shown heard) is = absurd (step_waits want (read_step (read_view t want c k)) is)
    by_move want _ (by.plans shown free none heard) is =
        record {
          heard = heard;
          free = free;
          unshown = shown;
          none = none;
          plain =
              by_plan (plan_of (plan_view t now c k)) (plan_by (plan_view t now c k)) is;
          plan_is = busy_is is;
          turn_is = turn_at (plan_of (plan_view t now c k)) is;
        }

    by_as : (m : Move) → WaitsAs z m → m ≡ wait_it
    by_as m it1 = grind (arith, nat_tests)

    pub waited_as : (want : ℕ) → Sound t → t.consumer c ≡ Some k → WaitsAs z (move_of t now want c k) → WaitedAs z
    waited_as want s row because = by_move want (move_of t now want c k) (move_by t now want c k s row) (by_as (move_of t now want c k) because)
