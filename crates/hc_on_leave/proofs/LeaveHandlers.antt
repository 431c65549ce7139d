-- Who is cancelled, ends or fails: the event is answered.
--
-- `HasLeft` has two cases. Either nothing failed: the effect of the event says its acts, which show no flaw
-- (`flawless`, `shows`), and the rows represent its tables. Or a seal failed: then it is the effect with that loss, and
-- what is lost is what the event seals, which was kept before. A cancel tells nothing first, the two polls tell an end
-- or a failure (`poll_answered`). The functions `cancel`, `end_reading` and `fail` use these.
use Rattle.std.{proofs.{lemmas.{Bool.Decides.{nat_tests}, List.{append_assoc}}, Common.{arith, ◌≡◌, ℕ, List, [], ◌∷◌, ◌++◌, Bool, true, false, Some, None, refl, ap, sym, ◌∙◌}}, specs.Prelude.{nat_eq, map, ◌||◌}}
use Rattle.hc_text.proofs.Basics.{false_true}
use Rattle.hc_store.specs.declared.backend.Backend.{Ghosts}
use Rattle.hc_effects.proofs.Vocabulary.{Act, Cause, Limits, Does, with_event, let_some_go, let_go, left_by, going_with, with_leave, with_representation, lost_to, family, NoFlaw, Loses, flaw_in, Lawful, Ends, Fails, is_failed_read, move_of, Tables, Representation, is_kept, with_item_first, written_representation, exclusive, act, cause, kind, place, event}
use Rattle.hc_model.specs.Rows as rows
use Rattle.hc_effects.proofs.{FailsReported.{fails_reported}, SealEffects.{seal_cancels, seal_ends, seal_fails}}
use Rattle.hc_effects.proofs.LeaveEffects as effects
use Rattle.hc_state.specs.{declared.rows.Rows.{Rows}, Left.{HasLeft, quietly, unsealed}, Stands.{Answered}}
use Rattle.hc_state.proofs.{Answering.{does_answered, lossy_answered}, Counting.{stands_counted}, SealWritten.{sealed_leaving}}

-- who is down fails by that
pub down_fails : (t : Tables) (law : Lawful t) (now want c : ℕ) (k : rows.Consumer) (why : Cause) → t.consumer c ≡ Some k → k.place ≡ place.Down why →
    move_of t now want c k ≡ Fails why
down_fails t law now want c k why row at = let a = law.places.down c why k row at in rw (a.idle.unshown, a.unowned, at) refl

-- WHAT THE ACTS SHOW

-- before what is closed
pub data ReportsOf (front : List Act) : Type 0 where
  nothing : front ≡ [] → ReportsOf front
  ended : (c : ℕ) → front ≡ act.Ended c ∷ [] → ReportsOf front
  failed : (c : ℕ) (why : Cause) → is_failed_read (Some why) ≡ false → front ≡ act.Failed c why ∷ [] → ReportsOf front

pub flawless : (xs : List ℕ) → flaw_in (map act.Close xs) ≡ NoFlaw
flawless [] = refl
flawless (x ∷ xs) = flawless xs

by_cause : (c : ℕ) (why : Cause) (acts : List Act) → is_failed_read (Some why) ≡ false → flaw_in (act.Failed c why ∷ acts) ≡ flaw_in acts
by_cause c why acts reported = grind (arith, nat_tests)

shows : (front acts : List Act) → ReportsOf front → flaw_in (front ++ acts) ≡ flaw_in acts
shows front acts it2 = grind (arith, nat_tests)

-- THE EVENT

module _ {B : Type 0} {g : Ghosts B} (limits : Limits) (faults : ℕ) (u : Rows B g) (t : Tables) (law : Lawful t) (now c : ℕ) (k : rows.Consumer)
    (row : t.consumer c ≡ Some k) where
  -- it is kept until the seal fails
  not_lost : (r : ℕ) (v : Representation) → t.representation r ≡ Some v → v.is_gone ≡ false → v.is_lost ≡ false
  not_lost r v there stays = grind (arith, nat_tests)

  kept_by : (r : ℕ) (v : Representation) → t.representation r ≡ Some v → v.is_gone ≡ false → is_kept (t.representation r) ≡ true
  kept_by r v there stays = rw (there, not_lost r v there stays) refl

  pub cancel_answered : (before out : List Act) → HasLeft limits faults u t before out now c k → Answered limits faults u t before out now (event.Cancel c)
  unfolding written_representation
  cancel_answered before out (quietly acts rows) =
      let s : Tables = let_some_go now (going_with t (left_by t c k)) (with_leave c k t) in
      does_answered limits faults u t (with_event now (event.Cancel c) s) before out (map act.Close (with_item_first (left_by t c k) [])) now
      (event.Cancel c) (effects.cancels limits t law now c k row) refl
      (flawless (with_item_first (left_by t c k) [])) acts (stands_counted u s now (event.Cancel c) refl rows)
  cancel_answered before out (unsealed f) =
      let q = f.sealed in
      let s : Tables = let_go now q.r (with_representation q.r (Some (lost_to (exclusive t q.r q.v) q.v)) (with_leave c k t)) in
      let does = seal_cancels limits t law now c k row f.x q.w q.r q.v kind.Fault f.left q.row q.of_r q.there (not_lost q.r q.v q.there q.stays) in
      lossy_answered limits faults u t (with_event now (event.Cancel c) s) before out (act.Close f.x ∷ act.Lost q.r kind.Fault ∷ []) now (event.Cancel c)
      q.r does
      (ap (λ acts. written_representation t (record { now = now; event = event.Cancel c; acts = acts })) does.acts_are
      ∙ sealed_leaving t law (record { now = now; event = event.Cancel c; acts = act.Close f.x ∷ [] }) f.x q.w q.r q.v q.row q.of_r q.there q.stays q.kept
      (λ y. refl) (λ y z. refl) (λ y. or_off (nat_eq f.x y)))
      (kept_by q.r q.v q.there q.stays) refl f.failed f.acts (stands_counted u s now (event.Cancel c) refl f.rows)
    where
      or_off : (b : Bool) → (b || false) ≡ b
      or_off true = refl
      or_off false = refl

  module _ (want : ℕ) (front : List Act) (reports : ReportsOf front) where
    or_off : (b : Bool) → (b || false) ≡ b
    or_off b = grind (arith, nat_tests)

    -- what is sealed is what the poll writes
    writes : (x : ℕ) (w : rows.Exchange) (r : ℕ) (v : Representation) → t.exchange x ≡ Some w → family x w ≡ r → t.representation r ≡ Some v →
        v.is_gone ≡ false → going_with t (Some x) ≡ None
        → written_representation t (record { now = now; event = event.Poll c want; acts = front ++ (act.Close x ∷ act.Lost r kind.Fault ∷ []) }) ≡ Some r
    unfolding written_representation
    writes x w r v ex of_r there stays kept = by_front reports
      where
        by_front : ReportsOf front →
            written_representation t (record { now = now; event = event.Poll c want; acts = front ++ (act.Close x ∷ act.Lost r kind.Fault ∷ []) }) ≡ Some r
        by_front (nothing is) = rw is
            (sealed_leaving t law (record { now = now; event = event.Poll c want; acts = act.Close x ∷ [] }) x w r v ex of_r there stays kept (λ y. refl)
            (λ y z. refl) (λ y. or_off (nat_eq x y)))
        by_front (ended d is) = rw is
            (sealed_leaving t law (record { now = now; event = event.Poll c want; acts = act.Ended d ∷ act.Close x ∷ [] }) x w r v ex of_r there stays
            kept (λ y. refl) (λ y z. refl) (λ y. or_off (nat_eq x y)))
        by_front (failed d why reported is) =
            rw is (sealed_leaving t law (record { now = now; event = event.Poll c want; acts = act.Failed d why ∷ act.Close x ∷ [] }) x w r v ex of_r
            there stays kept (λ y. refl) (λ y z. refl) (λ y. or_off (nat_eq x y)))

    then_reported : (before mid out acts : List Act) → mid ≡ before ++ front → out ≡ mid ++ acts → out ≡ before ++ (front ++ acts)
    then_reported before mid out acts first second = second ∙ (ap (λ (z : List Act). z ++ acts) first ∙ append_assoc before front acts)

    pub poll_answered : (before mid out : List Act) → mid ≡ before ++ front →
        Does limits t now (event.Poll c want) NoFlaw (front ++ map act.Close (with_item_first (left_by t c k) []))
        (with_event now (event.Poll c want) (let_some_go now (going_with t (left_by t c k)) (with_leave c k t)))
        → ((x : ℕ) (w : rows.Exchange) (r : ℕ) (v : Representation) → left_by t c k ≡ Some x → t.exchange x ≡ Some w → family x w ≡ r →
        t.representation r ≡ Some v → v.is_lost ≡ false
        → Does limits t now (event.Poll c want) (Loses r kind.Fault) (front ++ (act.Close x ∷ act.Lost r kind.Fault ∷ []))
        (with_event now (event.Poll c want) (let_go now r (with_representation r (Some (lost_to (exclusive t r v) v)) (with_leave c k t)))))
        → HasLeft limits faults u t mid out now c k → Answered limits faults u t before out now (event.Poll c want)
    poll_answered before mid out first quiet_does seal_does (quietly acts rows) =
        let s : Tables = let_some_go now (going_with t (left_by t c k)) (with_leave c k t) in
        does_answered limits faults u t (with_event now (event.Poll c want) s) before out (front ++ map act.Close (with_item_first (left_by t c k) []))
        now (event.Poll c want) quiet_does refl
        (shows front (map act.Close (with_item_first (left_by t c k) [])) reports ∙ flawless (with_item_first (left_by t c k) []))
        (then_reported before mid out (map act.Close (with_item_first (left_by t c k) [])) first acts) (stands_counted u s now (event.Poll c want) refl rows)
    poll_answered before mid out first quiet_does seal_does (unsealed f) =
        let q = f.sealed in
        let s : Tables = let_go now q.r (with_representation q.r (Some (lost_to (exclusive t q.r q.v) q.v)) (with_leave c k t)) in
        let does = seal_does f.x q.w q.r q.v f.left q.row q.of_r q.there (not_lost q.r q.v q.there q.stays) in
        lossy_answered limits faults u t (with_event now (event.Poll c want) s) before out (front ++ (act.Close f.x ∷ act.Lost q.r kind.Fault ∷ [])) now
        (event.Poll c want) q.r does
        (ap (λ acts. written_representation t (record { now = now; event = event.Poll c want; acts = acts })) does.acts_are ∙
        writes f.x q.w q.r q.v q.row q.of_r q.there q.stays q.kept)
        (kept_by q.r q.v q.there q.stays) (shows front (act.Close f.x ∷ act.Lost q.r kind.Fault ∷ []) reports) f.failed
        (then_reported before mid out (act.Close f.x ∷ act.Lost q.r kind.Fault ∷ []) first f.acts) (stands_counted u s now (event.Poll c want) refl f.rows)

  pub end_answered : (want : ℕ) (before mid out : List Act) → move_of t now want c k ≡ Ends → mid ≡ before ++ (act.Ended c ∷ []) →
      HasLeft limits faults u t mid out now c k → Answered limits faults u t before out now (event.Poll c want)
  end_answered want before mid out is first left =
      poll_answered want (act.Ended c ∷ []) (ended c refl) before mid out first (effects.ends limits t law now c k row want is)
      (λ x w r v out_of ex of_r there kept. seal_ends limits t law now c k row x w r v kind.Fault out_of ex of_r there kept want is) left

  pub fail_answered : (want : ℕ) (why : Cause) (before mid out : List Act) → move_of t now want c k ≡ Fails why → mid ≡ before ++
      (act.Failed c why ∷ []) → HasLeft limits faults u t mid out now c k → Answered limits faults u t before out now (event.Poll c want)
  fail_answered want why before mid out is first left =
      poll_answered want (act.Failed c why ∷ []) (failed c why (fails_reported t now want c k why law.sound law.places row is) refl) before mid out first
      (effects.fails limits t law now c k row want why is)
      (λ x w r v out_of ex of_r there kept. seal_fails limits t law now c k row x w r v kind.Fault out_of ex of_r there kept want why is) left
