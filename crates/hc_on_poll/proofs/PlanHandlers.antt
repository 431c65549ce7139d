-- A plan is carried out: what its handlers ask for, and that what they answer is owed.
--
-- First the code's plan is the one of the tables: it sees the same of what is current, and the rest by `PlanTies`
-- (`some_plan_at`). By the effects of their moves, who asks with the turn is next in line, and who waits for another
-- waits with others (`next_by`, `busy_by`). For each plan a lemma `.._answers` joins its move with the handler's
-- answer. A head that is read changes no rows, or only counts a fault.
use Rattle.std.{proofs.{Math.Logic.{∥∥₁_map}, Common.{◌≡◌, ◌≢◌, ℕ, ◌+◌, ◌<◌, ◌≤◌, arith, List, Bool, true, false, Option, Some, None, Result, Err, refl, ap, sym, ◌∙◌, subst}}, specs.{Prelude.{nat_eq, is_some, not, unwrap_or, IfSome, IsSomeAnd, ◌&&◌, ◌||◌, if◌then◌else◌}, Option.{option_and_then, option_map}, HashMap.{get}}}
use Rattle.hc_text.proofs.Basics.{false_true}
use Rattle.hc_effects.proofs.Vocabulary.{Limits, Act, Need, Why, Response, Request, Route, Candidate, Plan, PlanView, least, lesser, route_of, plan_of, bare_plan, from_store, in_time, by_current, RequestClass, class_of, is_bypassing, is_disabled, is_only, Place, current, row_of, denial, gate, is_live, is_in_line, Move, Opens, Fails, Shows, span_to, plan_move, has_passed, candidate, candidate_at, move_of, is_bound, is_bound_place, Tables, Representation, need, event, route, plan, place, cause, wait}
use Rattle.hc_store.specs.{declared.{backend.Backend.{Ghosts}, error.StoreError.{StoreError, TheVariants.{the_data as errors}}}, Causes.{HasNoLimit}}
use Rattle.hc_text.specs.Sorted.{has, itself, is_among}
use Rattle.hc_stored.specs.{declared.entries.Entries.{Entries}, Entries.{shelf_of}, Kept.{Kept}, Shelf.{is_kept, head_at, Stays}, Views.{admits}}
use Rattle.hc_entry.specs.{declared.keys.KeyTable.{KeyTable}, Keys.{kept_of, line_of}, Kept.{line_in}, Lines.{Line, is_in, turn_with}}
use Rattle.hc_range.specs.declared.range.Span.{Span}
use Rattle.hc_validate.specs.{Showing.{shown_response}, Conditions.{conditional}}
use Rattle.hc_rules.specs.Plans as rules
use Rattle.hc_exch.specs.Exchanges.{next_of}
use Rattle.hc_record.specs.{declared.head.StoredHead.{StoredHead}, Head.{Head}, Plain.{plain}}
use Rattle.hc_model.specs.Lines as lines
use Rattle.hc_model.specs.Moves.{Waits, opens}
use Rattle.hc_model.specs.Planning as planning
use Rattle.hc_model.specs.Rows as rows
use Rattle.hc_effects.proofs.{Joining.{mix}, PlanBy.{PlanBy, plan_by}, TurnMoves.{Does, Queues, does_polled}, Tests.{none_some}, OpenedAs.{bypassing_is as bypassing_as}}
use Rattle.hc_effects.proofs.PlanBy as plans
use Rattle.hc_effects.proofs.TurnMoves as does
use Rattle.hc_state.specs.{declared.rows.Rows.{Rows}, Facts.{Facts}, Good.{StandsBy}, Kept.{IsKept, KeepsConsumer}, Lines.{is_passed}, Plans.{plan_view, looks_at_stored, is_idle_at, IsIdle, IsLookedAt, IsNext, IsWaiting, IsKeptPassed, HasCurrent, IsPlanOf, shows_part, AnswersShowing, AnswersOpening, AnswersValidating, AnswersPoll}, Reads.{AnswersMisread}, Stands.{Answered, Answers, AnswersMove, RowsStand, Stands}}
use Rattle.hc_txn.specs.{declared.transaction.Transaction.{Transaction as Consumer}, Transactions.{queues}}
use Rattle.hc_state.specs.Reads as reads
use Rattle.hc_on_poll.specs.{declared.carry.Stored.{Stored}, Ready.{IsCurrentWith, MayAsk, MayLeaveLine, MayPass, MayQueue, uses_stored}}
use Rattle.hc_on_poll.proofs.{Accepted.{poll_lives}, CandidateTies.{head_at_is}, PassesHandler.{current_as}, PastHandler.{queues_as}, PlanTies.{plans_are, unlooked}, WaitHandlers.{plans_move}}
use Rattle.hc_state.proofs.{CurrentTies.{now_kept, total_reported}, KeySteps.{lined}, Maps.{known_of, some_that, merely_true, merely_number}, ReaderSteps.{stands_read}, Ties.{kept_row}, TurnTies.{turn_with_is}, Words.{there}, Classes.{class_is}}
use Rattle.hc_rules.proofs.RangeReads.{bytes_eq-same}

-- WHO WAITS FOR ITS KEY

pub or_first : (a b d : Bool) → a ≡ true → (a || b || d) ≡ true
or_first true b d on = refl
or_first false b d on = false_true on

or_second : (a b d : Bool) → b ≡ true → (a || b || d) ≡ true
or_second true b d on = refl
or_second false true d on = refl
or_second false false d on = false_true on

both_off : (a b : Bool) → (not a && not b) ≡ true → (a ≡ false) × (b ≡ false)
both_off false false on = (refl, refl)
both_off _ _ on = cc

module _ {B : Type 0} {g : Ghosts B} {limits : Limits} (r : Rows B g) (t : Tables) (facts : Facts limits t) (stands : RowsStand limits r t) (c : ℕ)
    (k : Consumer) (v : rows.Consumer) (row : t.consumer c ≡ Some v) (kept : IsKept t k v) (idle : is_idle_at k.place ≡ true) where
  abbrev its : List ℕ
  its = v.request.key

  same_key : k.request.key ≡ its
  same_key = ap (λ (z : Request). z.key) kept.request

  its_line : is_in c (line_of r.keys its) ≡ true → IsWaiting r.keys c k
  its_line on = ap (λ (key : List ℕ). is_in c (line_of r.keys key)) same_key ∙ on

  v_idle : is_idle_at v.place ≡ true
  v_idle = sym (ap is_idle_at kept.place) ∙ idle

  -- who waits with others stands in line, or has passed
  pub idle_waits : queues k ≡ true → IsWaiting r.keys c k
  idle_waits on = by_place v.place refl
    where
      asks : (is_disabled v.request ≡ false) × (is_only v.request ≡ false)
      asks = both_off (is_disabled v.request) (is_only v.request) (sym (queues_as t k v kept) ∙ on)

      by_place : (p : Place) → v.place ≡ p → IsWaiting r.keys c k
      by_place place.Line at =
          let line : is_in_line its (t.consumer c) ≡ true = ap (is_in_line its) row ∙ lined v (ap lines.stands_in_line at) asks.0 asks.1 in
          its_line (or_first (is_among c (kept_of r.keys its).in_line) (is_among c (kept_of r.keys its).passed) (is_among c (kept_of r.keys its).away)
          ((stands.keys its).in_line c ∙ line))
      by_place (place.Passed q how) at = its_line (passed_in (ap has_passed at))
        where
          passed_in : has_passed v.place ≡ true → is_in c (line_of r.keys its) ≡ true
          passed_in through =
              let passed : is_passed its (t.consumer c) ≡ true = ap (is_passed its) row ∙ rw (bytes_eq-same its its refl) through in
              or_second (is_among c (kept_of r.keys its).in_line) (is_among c (kept_of r.keys its).passed) (is_among c (kept_of r.keys its).away)
              ((stands.keys its).passed c ∙ passed)
      by_place _ at = false_true (sym (ap is_idle_at at) ∙ v_idle)

  -- and who has passed, waits with others
  pub passed_queues : has_passed k.place ≡ true → queues k ≡ true
  passed_queues through = by_place v.place refl
    where
      by_place : (p : Place) → v.place ≡ p → queues k ≡ true
      by_place (place.Passed q how) at = let queued = facts.law.places.passed_queues c q how v row at in queues_as t k v kept ∙
          rw (queued.cached, queued.asks) refl
      by_place _ at = false_true (sym (ap has_passed (kept.place ∙ at)) ∙ through)

  -- WHICH MOVE IT IS

  pub planned : (now want : ℕ) (p : Plan) → plan_of (planning.plan_view t now c v) ≡ p → move_of t now want c v ≡ plan_move t v p
  planned now want p is = plans_move t facts.law now want c v row v_idle ∙ ap (plan_move t v) is

  -- who asks the origin with the turn is next
  by_does : (now : ℕ) (x : ℕ) (n : Need) (request : Request) (m : Move) → m ≡ Opens x n request → route_of n ≡ route.Turn → Does t c v m →
      (lines.turn_with t its c ≡ c) × Queues v
  by_does now x n request _ is turns (does.fetches n2 asked way new queued turn validates bypasses) = (turn, queued)
  by_does now x n request _ is turns (does.past n2 asked way new) = absurd (direct_turn (sym way ∙ (ap route_of (opened_need is) ∙ turns)))
    where
      direct_turn : route.Direct ≡ route.Turn → ⊥
      direct_turn h = cc

      opened_need : {x2 : ℕ} {n3 : Need} {a : Request} → Opens x2 n3 a ≡ Opens x n request → n3 ≡ n
      opened_need h = cc
  by_does now x n request _ is turns (does.first n2 asked q lo hi way new at) = absurd (hole_turn (sym way ∙ (ap route_of (opened_need is) ∙ turns)))
    where
      hole_turn : route.Hole ≡ route.Turn → ⊥
      hole_turn h = cc

      opened_need : {x2 : ℕ} {n3 : Need} {a : Request} → Opens x2 n3 a ≡ Opens x n request → n3 ≡ n
      opened_need h = cc
  by_does now x n request _ is turns (does.later n2 asked q lo hi how way shown_response at) =
      absurd (hole_turn (sym way ∙ (ap route_of (opened_need is) ∙ turns)))
    where
      hole_turn : route.Hole ≡ route.Turn → ⊥
      hole_turn h = cc

      opened_need : {x2 : ℕ} {n3 : Need} {a : Request} → Opens x2 n3 a ≡ Opens x n request → n3 ≡ n
      opened_need h = cc
  by_does now x n request _ is turns _ = absurd (cc)

  lesser_there : (o : Option ℕ) (n : ℕ) → (m : ℕ) × (lesser o n ≡ Some m)
  lesser_there None n = (n, refl)
  lesser_there (Some a) n = (_, refl)

  turn_there : (l : Line) → unwrap_or (turn_with c l) c ≡ c → turn_with c l ≡ Some c
  turn_there l is = by_holder l.holder refl
    where
      by_some : (o : Option ℕ) (m : ℕ) → o ≡ Some m → unwrap_or o c ≡ c → o ≡ Some c
      by_some o m some one = some ∙ ap Some (sym (ap (λ (z : Option ℕ). unwrap_or z c) some) ∙ one)

      by_holder : (h : Option ℕ) → l.holder ≡ h → turn_with c l ≡ Some c
      by_holder None free = (let (m, some) = lesser_there (least l.in_line) c in by_some (turn_with c l) m (rw free some) is)
      by_holder (Some d) held = by_some (turn_with c l) d (rw held refl) is

  pub next_by : (now : ℕ) (n : Need) → route_of n ≡ route.Turn → plan_of (planning.plan_view t now c v) ≡ plan.Fetch n → IsNext r.keys c k
  next_by now n turns is =
      let move = planned now 0 (plan.Fetch n) is in
      let both = by_does now (t.opened + 1) n (planning.origin_request t v n) (move_of t now 0 c v) move turns
      (does_polled t c v facts.law.sound facts.turns row now 0) in
      let lists = facts.law.sound.numbered.lists in
      let reported = turn_with_is t its (kept_of r.keys its) lists (stands.keys its) c ∙ both.0 in (
        queues_as t k v kept ∙ rw (both.1.cached, both.1.asks) refl,
        ap (λ (key : List ℕ). turn_with c (line_of r.keys key)) same_key ∙ turn_there (line_in (kept_of r.keys its)) reported,
      )

  -- who waits for another that uses what is current, by its plan, waits with others
  busy_does : (now d : ℕ) (m : Move) → m ≡ Waits (wait.Busy d) → Does t c v m → Queues v
  busy_does now d _ is (does.passes e q new queued may) = queued
  busy_does now d _ is _ = absurd (cc)

  pub busy_by : (now d : ℕ) (how : Option ℕ) → plan_of (planning.plan_view t now c v) ≡ plan.Busy d how → queues k ≡ true
  busy_by now d how is =
      let queued = busy_does now d (move_of t now 0 c v) (planned now 0 (plan.Busy d how) is) (does_polled t c v facts.law.sound facts.turns row now 0) in
      queues_as t k v kept ∙ rw (queued.cached, queued.asks) refl

  -- WHICH PLAN IT IS

  -- where nothing stored matters
  pub bare_plan_is : (now : ℕ) → looks_at_stored (plan_view r now c k) ≡ false → plan_of (planning.plan_view t now c v) ≡ plan_of (plan_view r now c k)
  bare_plan_is now off =
      let lists = facts.law.sound.numbered.lists in
      let o = (planning.plan_view t now c v).current in
      sym (plans_are r t now c k v stands lists kept o) ∙ unlooked (plan_view r now c k) o off unpassed
    where
      unpassed : k.class.bypassing ≡ true → has_passed k.place ≡ false
      unpassed on = by_place v.place refl
        where
          v_bypassing : is_bypassing v.request ≡ true
          v_bypassing = sym (bypassing_as v.request) ∙ (sym (ap (λ (z : RequestClass). z.bypassing) (class_is kept)) ∙ on)

          by_place : (p : Place) → v.place ≡ p → has_passed k.place ≡ false
          by_place (place.Passed q how) at = false_true (sym (facts.law.owned.passed c q how v row at) ∙ v_bypassing)
          by_place _ at = ap has_passed (kept.place ∙ at)

  -- where nothing is current
  pub none_plan_is : (now : ℕ) → (kept_of r.keys k.request.key).current ≡ None → plan_of (planning.plan_view t now c v) ≡ plan_of (plan_view r now c k)
  none_plan_is now none =
      let lists = facts.law.sound.numbered.lists in
      let no : current t its ≡ None = sym (stands.keys its).current ∙ (ap (λ (key : List ℕ). (kept_of r.keys key).current) (sym same_key) ∙ none) in
      let bare : (planning.plan_view t now c v).current ≡ None = ap (option_and_then (candidate_at t now v.request)) no in
      sym (plans_are r t now c k v stands lists kept None ∙
      ap (λ (o : Option Candidate). plan_of (record (planning.plan_view t now c v) { current = o })) (sym bare))

  -- with what is current
  some_plan_is : (now q : ℕ) → HasCurrent r.keys q k → (p : Representation) → t.representation q ≡ Some p →
      plan_of (planning.plan_view t now c v) ≡ plan_of (record (plan_view r now c k) { current = Some (candidate t now q v.request p) })
  some_plan_is now q held p here =
      let lists = facts.law.sound.numbered.lists in
      let seen = candidate t now q v.request p in
      let at : current t its ≡ Some q = current_as r t k v q stands kept held in
      let reported : (planning.plan_view t now c v).current ≡ Some seen =
      ap (option_and_then (candidate_at t now v.request)) at ∙ ap (option_map (λ (z : Representation). candidate t now q v.request z)) here in
      sym (plans_are r t now c k v stands lists kept (Some seen) ∙
      ap (λ (o : Option Candidate). plan_of (record (planning.plan_view t now c v) { current = o })) (sym reported))

  -- the plan with what is current, as the code makes it
  pub some_plan_at : (now : ℕ) (view : PlanView) → view ≡ plan_view r now c k → (q : ℕ) → HasCurrent r.keys q k → (made : Plan)
      → ((p : Representation) → t.representation q ≡ Some p → made ≡ plan_of (record view { current = Some (candidate t now q v.request p) }))
      → plan_of (planning.plan_view t now c v) ≡ made
  some_plan_at now view viewed q held made decides =
      let at = now_kept r t stands its q (current_as r t k v q stands kept held) in
      some_plan_is now q held at.p at.row ∙
      (ap (λ (z : PlanView). plan_of (record z { current = Some (candidate t now q v.request at.p) })) (sym viewed) ∙ sym (decides at.p at.row))

  -- where nothing that is current is looked at
  pub unlooked_plan : (now : ℕ) (view : PlanView) → view ≡ plan_view r now c k → (seen : Option ℕ) →
      seen ≡ (if looks_at_stored view then (kept_of r.keys k.request.key).current else None) → seen ≡ None →
      plan_of (planning.plan_view t now c v) ≡ plan_of view
  unlooked_plan now view viewed seen is none = by_test (looks_at_stored view) refl ∙ ap plan_of (sym viewed)
    where
      by_test : (b : Bool) → looks_at_stored view ≡ b → plan_of (planning.plan_view t now c v) ≡ plan_of (plan_view r now c k)
      by_test false off = bare_plan_is now (sym (ap looks_at_stored viewed) ∙ off)
      by_test true on = none_plan_is now (sym (is ∙ rw on refl) ∙ none)

-- what its plan looks at is current
pub looked_current : (k : Consumer) (keys : KeyTable) (view : PlanView) (seen : Option ℕ) (q : ℕ) → IsLookedAt keys view seen k → seen ≡ Some q →
    HasCurrent keys q k
looked_current k keys view seen q looked some = by_test (looks_at_stored view) (sym looked ∙ some)
  where
    by_test : (b : Bool) → (if b then (kept_of keys k.request.key).current else None) ≡ Some q → HasCurrent keys q k
    by_test true is = is
    by_test false is = none_some q is

-- WHAT IS ANSWERED

-- a plan that its move answers is answered
pub plan_answers : {B : Type 0} {g : Ghosts B} (r u : Rows B g) (before out : List Act) (now c : ℕ) (k : Consumer) (p : Plan) →
    get nat_eq r.consumers c ≡ Some k → is_idle_at k.place ≡ true → IsPlanOf r now c p
    → ((want : ℕ) (limits : Limits) (t : Tables) (v : rows.Consumer) → Facts limits t → RowsStand limits r t → t.consumer c ≡ Some v → IsKept t k v →
    move_of t now want c v ≡ plan_move t v p → Answered limits (shelf_of r.entries).faults u t before out now (event.Poll c want))
    → (want : ℕ) → Answers r u before out now (event.Poll c want)
plan_answers r u before out now c k p there idle is answers = λ want limits t facts stands accepted.
    let (v, row, kept) = kept_row t k (t.consumer c) (subst (λ o. KeepsConsumer t o (t.consumer c)) there (stands.consumers c)) in
    answers want _ t v facts stands row kept (planned r t facts stands c k v row kept idle now want p (is _ t v facts stands row))

-- the next exchange has the next number, and the request is the consumer's
pub opens_next : {B : Type 0} {g : Ghosts B} {limits : Limits} (r : Rows B g) (t : Tables) (k : Consumer) (v : rows.Consumer) (n : Need) →
    RowsStand limits r t → IsKept t k v → opens t n v.request ≡ Opens (next_of r.exchanges) n k.request
opens_next r t k v n stands kept = ap (λ (x : ℕ). Opens x n v.request) (sym stands.next) ∙
    ap (λ (z : Request). Opens (next_of r.exchanges) n z) (sym kept.request)

-- who goes past the store has a need for that
pub past_route : (view : PlanView) (n : Need) → plan_of view ≡ plan.Direct n → route_of n ≡ route.Direct
past_route view n is = by_plan (plan_of view) (plan_by view) is
  where
    by_plan : (p : Plan) → PlanBy view p → p ≡ plan.Direct n → route_of n ≡ route.Direct
    by_plan _ (plans.passes_by m way) same = ap route_of (let one : n ≡ m = cc in one) ∙ way
    by_plan _ _ same = absurd (cc)

pub fetch_route : (view : PlanView) (n : Need) → plan_of view ≡ plan.Fetch n → route_of n ≡ route.Turn
fetch_route view n is = by_plan (plan_of view) (plan_by view) is
  where
    by_plan : (p : Plan) → PlanBy view p → p ≡ plan.Fetch n → route_of n ≡ route.Turn
    by_plan _ (plans.fetches m way validates bypasses cached) same = ap route_of (let one : n ≡ m = cc in one) ∙ way
    by_plan _ _ same = absurd (cc)

-- what is told of a head depends on its length and fields
shown_alike : (a b : Head) (why : Why) (span : Option Span) (ranged : Bool) → a.total ≡ b.total → a.fields ≡ b.fields →
    shown_response a why span ranged ≡ shown_response b why span ranged
shown_alike a b why span ranged total fields = rw (total, fields) refl

ranged_as : (k : Consumer) (v : rows.Consumer) (t : Tables) → IsKept t k v → planning.is_ranged v ≡ is_some k.class.range
unfolding class_of
ranged_as k v t kept = sym (ap (λ (z : RequestClass). is_some z.range) (class_is kept))

binds_shows : (t : Tables) (v : rows.Consumer) (q : ℕ) (p : Representation) (why : Why) (head : Head) (span : Option Span) (k : Consumer) →
    t.representation q ≡ Some p → p.head.total ≡ head.total → p.head.fields ≡ head.fields → planning.is_ranged v ≡ is_some k.class.range →
    planning.binds t v why q span ≡ shows_part q head why span k
binds_shows t v q p why head None k here total fields range =
    rw (here, range) (ap (λ (h : Response). Shows q why h 0 p.head.total)
    (shown_alike p.head head why (span_to 0 p.head.total) (is_some k.class.range) total fields)
    ∙ ap (λ (n : Option ℕ). Shows q why (shown_response head why (span_to 0 n) (is_some k.class.range)) 0 n) total)
binds_shows t v q p why head (Some span) k here total fields range =
    rw (here, range) (ap (λ (h : Response). Shows q why h span.lo (Some span.hi))
    (shown_alike p.head head why (span_to span.lo (Some span.hi)) (is_some k.class.range) total fields))

-- WHAT THE HANDLERS ASK FOR

module _ {B : Type 0} {g : Ghosts B} (r : Rows B g) (some : ∥ Stands r ∥₁) (now c : ℕ) (idle : IsSomeAnd (get nat_eq r.consumers c) IsIdle) where
  abbrev pub its_row : Option Consumer
  its_row = get nat_eq r.consumers c

  abbrev pub found : (k : Consumer) × (its_row ≡ Some k) × IsIdle k
  found = there its_row IsIdle idle

  pub waits_there : queues found.0 ≡ true → IsWaiting r.keys c found.0
  waits_there on = merely_true (is_in c (line_of r.keys found.0.request.key)) some (λ s.
      let t = s.t in
      let (v, row, kept) = kept_row t found.0 (t.consumer c) (subst (λ o. KeepsConsumer t o (t.consumer c)) found.1 (s.rows.consumers c)) in
      idle_waits r t s.facts s.rows c found.0 v row kept found.2 on)

  pub may_leave_line : IsSomeAnd its_row (MayLeaveLine r.keys c)
  may_leave_line = some_that its_row found.0 (MayLeaveLine r.keys c) found.1 (record { idle = found.2; queued = waits_there })

  passed_there : IsKeptPassed r.keys c found.0
  passed_there = λ through. waits_there (merely_true (queues found.0) some (λ s.
      let t = s.t in
      let (v, row, kept) = kept_row t found.0 (t.consumer c) (subst (λ o. KeepsConsumer t o (t.consumer c)) found.1 (s.rows.consumers c)) in
      passed_queues r t s.facts s.rows c found.0 v row kept found.2 through))

  pub may_queue : IsSomeAnd its_row (MayQueue r.keys c)
  may_queue = some_that its_row found.0 (MayQueue r.keys c) found.1 (record { idle = found.2; passed = passed_there })

  next_some : (n : Need) → route_of n ≡ route.Turn → IsPlanOf r now c (plan.Fetch n) → Stands r → IsNext r.keys c found.0
  next_some n turns is s =
      let t = s.t in
      let facts = s.facts in
      let (v, row, kept) = kept_row t found.0 (t.consumer c) (subst (λ o. KeepsConsumer t o (t.consumer c)) found.1 (s.rows.consumers c)) in
      next_by r t facts s.rows c found.0 v row kept found.2 now n turns (is _ t v facts s.rows row)

  pub may_ask : (n : Need) → route_of n ≡ route.Turn → IsPlanOf r now c (plan.Fetch n) → IsSomeAnd its_row (MayAsk r.keys c)
  may_ask n turns is =
      some_that its_row found.0 (MayAsk r.keys c) found.1 (record {
        idle = found.2;
        next = (
          merely_true (queues found.0) some (λ s. (next_some n turns is s).0),
          merely_number (turn_with c (line_of r.keys found.0.request.key)) c some (λ s. (next_some n turns is s).1),
        );
      })

  busy_queues : (d : ℕ) (how : Option ℕ) → IsPlanOf r now c (plan.Busy d how) → Stands r → queues found.0 ≡ true
  busy_queues d how is s =
      let t = s.t in
      let facts = s.facts in
      let (v, row, kept) = kept_row t found.0 (t.consumer c) (subst (λ o. KeepsConsumer t o (t.consumer c)) found.1 (s.rows.consumers c)) in
      busy_by r t facts s.rows c found.0 v row kept found.2 now d how (is _ t v facts s.rows row)

  -- who waits for another that uses what is current waits for its key
  pub may_pass : (d : ℕ) (how : Option ℕ) → IsPlanOf r now c (plan.Busy d how) → IsSomeAnd its_row (MayPass r.keys c)
  may_pass d how is = some_that its_row found.0 (MayPass r.keys c) found.1
      (record { idle = found.2; waits = waits_there (merely_true (queues found.0) some (busy_queues d how is)) })

  -- what is current is kept
  pub current_kept : (q : ℕ) → IsSomeAnd its_row (HasCurrent r.keys q) → is_kept (shelf_of r.entries) q ≡ true
  current_kept q held = merely_true (is_kept (shelf_of r.entries) q) some (λ s.
      let t = s.t in
      let (v, row, kept) = kept_row t found.0 (t.consumer c) (subst (λ o. KeepsConsumer t o (t.consumer c)) found.1 (s.rows.consumers c)) in
      let at = now_kept r t s.rows v.request.key q (current_as r t found.0 v q s.rows kept (known_of its_row found.0 (HasCurrent r.keys q) found.1 held)) in
      ap (λ (o : Option Kept). is_some o) at.kept)

  -- and admits who reads nothing
  pub current_admits : (q : ℕ) → IsSomeAnd its_row (HasCurrent r.keys q) → admits c ((shelf_of r.entries).kept q) ≡ true
  current_admits q held = merely_true (admits c ((shelf_of r.entries).kept q)) some (λ s.
      let t = s.t in
      let (v, row, kept) = kept_row t found.0 (t.consumer c) (subst (λ o. KeepsConsumer t o (t.consumer c)) found.1 (s.rows.consumers c)) in
      let at = now_kept r t s.rows v.request.key q (current_as r t found.0 v q s.rows kept (known_of its_row found.0 (HasCurrent r.keys q) found.1 held)) in
      let unbound : has itself c at.e.bound ≡ false = at.is.bound c ∙
      (ap (is_bound q) row ∙ idle_unbound q v.place (sym (ap is_idle_at kept.place) ∙ found.2)) in
      let stays : at.e.is_gone ≡ false = at.is.is_gone ∙ at.stays in
      ap (admits c) at.kept ∙ rw (stays, unbound) refl)
    where
      idle_unbound : (n : ℕ) (p : Place) → is_idle_at p ≡ true → is_bound_place n p ≡ false
      idle_unbound n place.Line on = refl
      idle_unbound n (place.Passed a how) on = refl
      idle_unbound n _ on = false_true on

  -- WHAT THEY ANSWER

  module _ (u : Rows B g) (before out : List Act) where
    pub direct_answers : (n : Need) → IsPlanOf r now c (plan.Direct n) → IsSomeAnd its_row (AnswersOpening r u before out now c n) →
        AnswersPoll r u before out now c
    direct_answers n is answers = plan_answers r u before out now c found.0 (plan.Direct n) found.1 found.2 is (λ want limits t v facts stands row kept move.
        known_of its_row found.0 (AnswersOpening r u before out now c n) found.1 answers want _ t v facts stands row
        (move ∙ opens_next r t found.0 v n stands kept))

    pub turn_answers : (d : ℕ) → IsPlanOf r now c (plan.Turn d) → ((moment want : ℕ) → AnswersMove r u before out moment c want (Waits (wait.Turn d))) →
        AnswersPoll r u before out now c
    turn_answers d is answers =
        plan_answers r u before out now c found.0 (plan.Turn d) found.1 found.2 is
        (λ want limits t v facts stands row kept move. answers now want _ t v facts stands row move)

    pub busy_answers : (d : ℕ) (how : Option ℕ) → IsPlanOf r now c (plan.Busy d how) →
        ((moment want : ℕ) → AnswersMove r u before out moment c want (Waits (wait.Busy d))) → AnswersPoll r u before out now c
    busy_answers d how is answers =
        plan_answers r u before out now c found.0 (plan.Busy d how) found.1 found.2 is
        (λ want limits t v facts stands row kept move. answers now want _ t v facts stands row move)

    pub miss_answers : IsPlanOf r now c plan.Miss → ((want : ℕ) → AnswersMove r u before out now c want (Fails cause.Miss)) → AnswersPoll r u before out now c
    miss_answers is answers =
        plan_answers r u before out now c found.0 plan.Miss found.1 found.2 is
        (λ want limits t v facts stands row kept move. answers want _ t v facts stands row move)

    fetched_plain : (t : Tables) (v : rows.Consumer) (n : Need) → n ≢ need.Validate → planning.origin_request t v n ≡ v.request
    fetched_plain t v need.Validate other = absurd (other refl)
    fetched_plain t v _ other = refl

    pub fetch_answers : (n : Need) → n ≢ need.Validate → IsPlanOf r now c (plan.Fetch n) → IsSomeAnd its_row (AnswersOpening r u before out now c n) →
        AnswersPoll r u before out now c
    fetch_answers n other is answers =
        plan_answers r u before out now c found.0 (plan.Fetch n) found.1 found.2 is (λ want limits t v facts stands row kept move.
        known_of its_row found.0 (AnswersOpening r u before out now c n) found.1 answers want _ t v facts stands row
        (move ∙ (ap (opens t n) (fetched_plain t v n other) ∙ opens_next r t found.0 v n stands kept)))

    pub validate_answers : (q : ℕ) (head : StoredHead) → IsSomeAnd its_row (HasCurrent r.keys q) → head_at (shelf_of r.entries) q ≡ Some (plain head) →
        IsPlanOf r now c (plan.Fetch need.Validate) → IsSomeAnd its_row (AnswersValidating r u before out now c (plain head)) → AnswersPoll r u before out now c
    validate_answers q head held read is answers =
        plan_answers r u before out now c found.0 (plan.Fetch need.Validate) found.1 found.2 is (λ want limits t v facts stands row kept move.
        let current_is = current_as r t found.0 v q stands kept (known_of its_row found.0 (HasCurrent r.keys q) found.1 held) in
        let at = now_kept r t stands v.request.key q current_is in
        let same : at.e.head ≡ plain head = head_at_is ((shelf_of r.entries).kept q) at.e head at.kept read in
        let asked : planning.origin_request t v need.Validate ≡ conditional (plain head) v.request =
        ap (λ (o : Option Representation). planning.conditional_on o v.request) (ap (row_of t) current_is ∙ at.row)
        ∙ (ap (λ (z : Head). conditional z v.request) (sym at.is.head) ∙ ap (λ (z : Head). conditional z v.request) same) in
        known_of its_row found.0 (AnswersValidating r u before out now c (plain head)) found.1 answers want _ t v facts stands row
        (move ∙ (ap (opens t need.Validate) asked
        ∙ (ap (λ (x : ℕ). Opens x need.Validate (conditional (plain head) v.request)) (sym stands.next) ∙
        ap (λ (z : Request). Opens (next_of r.exchanges) need.Validate (conditional (plain head) z)) (sym kept.request)))))

    -- what it is shown is what its plan says of what is stored
    pub bind_answers : (why : Why) (span : Option Span) (q : ℕ) (head : StoredHead) → IsSomeAnd its_row (HasCurrent r.keys q) →
        head_at (shelf_of r.entries) q ≡ Some (plain head) → IsPlanOf r now c (plan.Bind why span) →
        IsSomeAnd its_row (AnswersShowing r u before out c q (plain head) why span) → AnswersPoll r u before out now c
    bind_answers why span q head held read is answers =
        plan_answers r u before out now c found.0 (plan.Bind why span) found.1 found.2 is (λ want limits t v facts stands row kept move.
        let current_is = current_as r t found.0 v q stands kept (known_of its_row found.0 (HasCurrent r.keys q) found.1 held) in
        let at = now_kept r t stands v.request.key q current_is in
        let same = head_at_is ((shelf_of r.entries).kept q) at.e head at.kept read in
        let total = sym (total_reported t q at.e at.p at.is at.stays) ∙ ap (λ (h : Head). h.total) same in
        let fields = sym (ap (λ (h : Head). h.fields) at.is.head) ∙ ap (λ (h : Head). h.fields) same in
        known_of its_row found.0 (AnswersShowing r u before out c q (plain head) why span) found.1 answers now want _ t v facts stands row
        (move ∙ (ap (planning.binds_current t v why span) current_is ∙
        binds_shows t v q at.p why (plain head) span found.0 at.row total fields (ranged_as found.0 v t kept))))

-- the same plan
pub plan_same : {B : Type 0} {g : Ghosts B} (r : Rows B g) (now c : ℕ) (p q : Plan) → IsPlanOf r now c p → p ≡ q → IsPlanOf r now c q
plan_same r now c p q is same = λ limits t v facts stands row. is _ t v facts stands row ∙ same

-- a plan that looks at nothing stored needs none of that
pub bare_uses : (view : PlanView) → view.current ≡ None → uses_stored (plan_of view) ≡ false
unfolding plan_of
bare_uses view bare = mix (λ p. uses_stored p ≡ false) view.class.only (from_store (bare_plan view)) (in_time view (bare_plan view))
    (stored (bare_plan view) bare_all) (timed (bare_plan view) bare_all)
  where
    by_now : (o : Option Candidate) → o ≡ None → uses_stored (by_current view o) ≡ false
    by_now None none = refl
    by_now (Some seen) none = none_some seen (sym none)

    bare_all : uses_stored (bare_plan view) ≡ false
    bare_all =
        mix (λ p. uses_stored p ≡ false) view.class.disabled (plan.Direct need.Disabled) _ refl
        (mix (λ p. uses_stored p ≡ false) (rules.queues view) (plan.Turn view.turn) _ refl
        (mix (λ p. uses_stored p ≡ false) view.class.bypassing (plan.Fetch need.Bypass) (by_current view view.current) refl (by_now view.current bare)))

    stored : (p : Plan) → uses_stored p ≡ false → uses_stored (from_store p) ≡ false
    stored (plan.Bind why span) off = off
    stored _ off = refl

    timed : (p : Plan) → uses_stored p ≡ false → uses_stored (in_time view p) ≡ false
    timed (plan.Turn d) off = mix (λ p. uses_stored p ≡ false) _ (plan.Direct need.TimedOut) (plan.Turn d) refl refl
    timed (plan.Busy d how) off = false_true (sym off)
    timed (plan.Fetch n) off = off
    timed (plan.Bind why span) off = off
    timed (plan.FirstHole span hole) off = off
    timed _ off = refl

-- what is passed with it is current
pub passed_current : {B : Type 0} {g : Ghosts B} (r : Rows B g) (c : ℕ) (o : Option Stored) (s : Stored) → o ≡ Some s →
    IfSome o (λ (z : Stored). IsCurrentWith r c z.r (plain z.head)) → IsCurrentWith r c s.r (plain s.head)
passed_current r c o s is all = subst (λ (z : Option Stored). IfSome z (λ (y : Stored). IsCurrentWith r c y.r (plain y.head))) is all

-- of what is read, only the store's own failure is left
pub fault_only : {T : Type 0} (result : Result T StoreError) (e : StoreError) → result ≡ Err e → HasNoLimit result → e ≢ errors.NoMemory →
    result ≡ Err errors.Fault
fault_only result e is none other = by_error e is other
  where
    by_error : (z : StoreError) → result ≡ Err z → z ≢ errors.NoMemory → result ≡ Err errors.Fault
    by_error errors.Fault at off = at
    by_error errors.TooLarge at off = absurd (none.not_too_large at)
    by_error errors.Full at off = absurd (none.not_full at)
    by_error errors.NoMemory at off = absurd (off refl)

-- A HEAD THAT IS READ

-- who is polled is there
polled_row : (t : Tables) (c want : ℕ) → denial t (event.Poll c want) ≡ None → (v : rows.Consumer) × (t.consumer c ≡ Some v)
polled_row t c want accepted = by_row (t.consumer c) refl (poll_lives (gate t (event.Poll c want)) c want accepted)
  where
    by_row : (o : Option rows.Consumer) → t.consumer c ≡ o → is_live o ≡ true → (v : rows.Consumer) × (t.consumer c ≡ Some v)
    by_row None at on = false_true on
    by_row (Some v) at on = (v, at)

-- nothing changes but the count of faults
module _ {B : Type 0} {g : Ghosts B} (r : Rows B g) (a : Entries B g) (stays : Stays (shelf_of r.entries) (shelf_of a)) where
  abbrev read : Rows B g
  read = record r { entries = a }

  pub read_stands : {limits : Limits} (t : Tables) → RowsStand limits r t → RowsStand limits read t
  read_stands t stands = stands_read r read t refl refl refl refl stays stands

  -- what is current has the head that was read
  pub read_current : (c q : ℕ) (head : Head) → IsSomeAnd (get nat_eq r.consumers c) (HasCurrent r.keys q) → head_at (shelf_of r.entries) q ≡ Some head →
      IsCurrentWith read c q head
  read_current c q head held is = record { current = held; head = ap (option_map (λ (e : Kept). e.head)) (stays.kept q) ∙ is }

  pub read_until : (now : ℕ) → ∥ StandsBy r now ∥₁ → ∥ StandsBy read now ∥₁
  read_until now some = ∥∥₁_map some (λ u.
      let s = u.0 in (
        record {
          limits = s.limits;
          t = s.t;
          facts = s.facts;
          numbers = s.numbers;
          within_limits = s.within_limits;
          received = s.received;
          rows = read_stands s.t s.rows;
        },
        u.1,
      ))

  pub read_some : (now : ℕ) → ∥ StandsBy r now ∥₁ → ∥ Stands read ∥₁
  read_some now some = ∥∥₁_map (read_until now some) (λ u. u.0)

  pub read_answers : (shelf_of r.entries).faults ≤ (shelf_of a).faults → (u : Rows B g) (before out : List Act) (now c : ℕ) →
      AnswersPoll read u before out now c → AnswersPoll r u before out now c
  read_answers later u before out now c answers = λ want limits t facts stands accepted.
      let is = answers want _ t facts (read_stands t stands) accepted in
      record {
        flaw = is.flaw;
        acts = is.acts;
        shown = is.shown;
        may = is.may;
        caused = λ on. (let less = is.caused on in omega (arith, later, less));
        rows = is.rows;
      }

  -- it failed, for who reads nothing yet
  pub read_fault : (shelf_of r.entries).faults < (shelf_of a).faults → (u : Rows B g) (before out : List Act) (now c q : ℕ) →
      IsSomeAnd (get nat_eq r.consumers c) IsIdle → IsSomeAnd (get nat_eq r.consumers c) (HasCurrent r.keys q)
      → AnswersMisread read u before out now c q → AnswersPoll r u before out now c
  read_fault failed u before out now c q idle held answers = λ want limits t facts stands accepted.
      let (v, row) = polled_row t c want accepted in
      let (k, at, resting) = there (get nat_eq r.consumers c) IsIdle idle in
      let kept = subst (KeepsConsumer t (Some k)) row (subst (λ o. KeepsConsumer t o (t.consumer c)) at (stands.consumers c)) in
      let now_is = current_as r t k v q stands kept (known_of (get nat_eq r.consumers c) k (HasCurrent r.keys q) at held) in
      answers want (shelf_of r.entries).faults _ t v failed facts (read_stands t stands) row (reads.planned (sym (ap is_idle_at kept.place) ∙ resting) now_is)

-- who asks the origin with the turn has a need for that, also by the plan of the tables
pub planned_route : {B : Type 0} {g : Ghosts B} (r : Rows B g) (some : ∥ Stands r ∥₁) (now c : ℕ) → IsSomeAnd (get nat_eq r.consumers c) IsIdle →
    (n : Need) → IsPlanOf r now c (plan.Fetch n) → route_of n ≡ route.Turn
planned_route r some now c idle n is = turn_is (route_of n) on
  where
    is_turn : Route → Bool
    is_turn route.Turn = true
    is_turn _ = false

    turn_is : (w : Route) → is_turn w ≡ true → w ≡ route.Turn
    turn_is route.Turn on = refl
    turn_is _ on = false_true on

    on : is_turn (route_of n) ≡ true
    on = merely_true (is_turn (route_of n)) some (λ s.
        let t = s.t in
        let (k, at, resting) = there (get nat_eq r.consumers c) IsIdle idle in
        let (v, row, kept) = kept_row t k (t.consumer c) (subst (λ o. KeepsConsumer t o (t.consumer c)) at (s.rows.consumers c)) in
        ap is_turn (fetch_route (planning.plan_view t now c v) n (is _ t v s.facts s.rows row)))

-- and its turn is next
pub planned_asks : {B : Type 0} {g : Ghosts B} (r : Rows B g) (some : ∥ Stands r ∥₁) (now c : ℕ) → IsSomeAnd (get nat_eq r.consumers c) IsIdle →
    (p : Plan) (n : Need) → IsPlanOf r now c p → p ≡ plan.Fetch n → IsSomeAnd (get nat_eq r.consumers c) (MayAsk r.keys c)
planned_asks r some now c idle p n is same =
    let fetch = plan_same r now c p (plan.Fetch n) is same in
    may_ask r some now c idle n (planned_route r some now c idle n fetch) fetch

pub planned_past : {B : Type 0} {g : Ghosts B} (r : Rows B g) (some : ∥ Stands r ∥₁) (now c : ℕ) → IsSomeAnd (get nat_eq r.consumers c) IsIdle →
    (n : Need) → IsPlanOf r now c (plan.Direct n) → route_of n ≡ route.Direct
planned_past r some now c idle n is = past_is (route_of n) on
  where
    is_past : Route → Bool
    is_past route.Direct = true
    is_past _ = false

    past_is : (w : Route) → is_past w ≡ true → w ≡ route.Direct
    past_is route.Direct on = refl
    past_is _ on = false_true on

    on : is_past (route_of n) ≡ true
    on = merely_true (is_past (route_of n)) some (λ s.
        let t = s.t in
        let (k, at, resting) = there (get nat_eq r.consumers c) IsIdle idle in
        let (v, row, kept) = kept_row t k (t.consumer c) (subst (λ o. KeepsConsumer t o (t.consumer c)) at (s.rows.consumers c)) in
        ap is_past (past_route (planning.plan_view t now c v) n (is _ t v s.facts s.rows row)))
