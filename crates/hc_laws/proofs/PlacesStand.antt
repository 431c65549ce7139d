-- Who stands in the line owns nothing, and who asks, or fails for what it asked, may ask the origin: at each entry.
--
-- `Stands` says what holds at each place. The head or the fault of its exchange moves a consumer (`head_stands`,
-- `fault_stands`), and each case of a head is looked at (`by_case`). A poll moves it by what it waits for, opens or is
-- shown (`waits_stands`, `opens_stands`, `shows_stands`); why it opened tells that it may ask (`OpensFor`). Who starts
-- over owns nothing. `kept_stands` joins these, and `standing_kept` is of all consumers.
use Rattle.std.{proofs.{Common.{◌≡◌, ◌⊎◌, inl, inr, ℕ, Bool, true, false, Option, Some, None, refl, ap, sym, ◌∙◌, subst, arith}, lemmas.Bool.Decides.{nat_tests}}, specs.Prelude.{if◌then◌else◌, is_some, is_none, ◌==◌, ◌&&◌, not}}
use Rattle.hc_text.proofs.Basics.{none_by, and_left, and_right, bool_cases, not_some as none_some, same_some as same_row}
use Rattle.hc_effects.proofs.Vocabulary.{Opening, opening_in, leaves_in, Wait, Event, Request, Response, HeadCase, Route, Wanted, head_case, route_of, is_only, range_of, wanted_of, Place, BoundBy, has_loss, wait_in, Showing, showing_in, case_at, head_view, consumer_heard, consumer_acted, consumer_settled, by_head, by_fault, by_opening, becomes_shared, own_after, waiting, waiting_place, passed_by, kept_by, opened_place, unless_bound, shown_place, due_after, place_by_case, passed_on, bound_to_wanted, current, denial, Entry, is_headless, founded_total, entry_of, Turns, StandsFor, Move, move_of, bound_to, reads, Tables, Exchange, Consumer, starts_over, after_accepted, wait, event, case, route, wanted, place, by}
use Rattle.hc_model.specs.Laws as laws
use Rattle.hc_model.specs.Moves as moves
use Rattle.hc_effects.proofs.{Basics.{false_true}, BoundFrom.{IsRow}, FirstKeeps.{is_new, case_is, is_opener}, Forward.{is_kept}, FoundBy.{CaseBy, case_by}, MoveBy.{IsHeard}, PieceKeeps.{eq_cases}, Said.{WaitsAs, waiting_by}, ShownStays.{IsFallback, unless_same}, ToBeShown.{heard_place}, TurnMoves.{waits_turn, passes, Does, IsNew, Plans, KeptNone, kept_none, does_polled}, WaitedAs.{turn, busy, WaitedAs, waited_as}, Waiters.{fault_open_of}, Step.{Step}}
use Rattle.hc_effects.proofs.FoundBy as cases
use Rattle.hc_laws.proofs.{PlacesKept.{AreOwn, waits_not, past_not, own_poll, own_is, unopened, poll_of, new_is, turn_bare}, PlacesShown.{AreReaders, head_same}, TurnFacts.{IsTaken}, TurnHeads.{valid_aim}, TurnOpens.{past, later, first, fetches, OpensFor, opened_at}}
use Rattle.hc_effects.proofs.Said as said

-- what holds of a consumer's own exchange and request by its place
abbrev pub Stands : Place → Option ℕ → Request → Type 0
Stands place.Line own request = own ≡ None
Stands (place.Passed r None) own request = own ≡ None
Stands (place.Passed r (Some x)) own request = own ≡ Some x
Stands (place.Bound r lo hi by.Founding) own request = Unit {0}
Stands (place.Bound r lo hi by.Plan) own request = Unit {0}
Stands place.Over own request = Unit {0}
Stands _ own request = is_only request ≡ false

pub record AreStanding (t : Tables) : Type 0 where
  pub stands : (c : ℕ) (k : Consumer) → t.consumer c ≡ Some k → Stands k.place k.own k.request

-- who is bound may own anything
any_bound : (r lo : ℕ) (hi : Option ℕ) (how : BoundBy) (own other : Option ℕ) (request : Request) → Stands (place.Bound r lo hi how) own request →
    Stands (place.Bound r lo hi how) other request
any_bound r lo hi (by.FirstHole y) own other request st = st
any_bound r lo hi _ own other request st = tt

-- and whoever owns something, but keeps no 304 of it, may own nothing
less : (b : Bool) (p : Place) (own : Option ℕ) (request : Request) → KeptNone p → Stands p own request → Stands p (if b then None else own) request
less false p own request bare st = st
less true place.Line own request bare st = refl
less true (place.Passed r None) own request bare st = refl
less true (place.Passed r (Some x)) own request bare st = absurd bare
less true (place.Turn x) own request bare st = st
less true (place.Bound r lo hi how) own request bare st = any_bound r lo hi how own None request st
less true (place.Direct x) own request bare st = st
less true (place.Down why) own request bare st = st
less true place.Over own request bare st = tt

-- who waits for a head keeps none
stands_bare : (x : ℕ) (k : Consumer) (way : Route) → StandsFor x k way → KeptNone k.place
stands_bare x k _ (laws.direct at) = subst KeptNone (sym at) tt
stands_bare x k _ (laws.has_turn at off) = subst KeptNone (sym at) tt
stands_bare x k _ (laws.first r lo hi at off) = subst KeptNone (sym at) tt
stands_bare x k _ (laws.later r lo hi how at on) = subst KeptNone (sym at) tt

-- WHO WAITS FOR OTHERS

abbrev is_turn : Move → Bool
is_turn (moves.Waits (wait.Turn d)) = true
is_turn _ = false

abbrev is_busy : Move → Bool
is_busy (moves.Waits (wait.Busy d)) = true
is_busy _ = false

turn_reported : (t : Tables) (c d : ℕ) (k : Consumer) (m : Move) → Does t c k m → m ≡ moves.Waits (wait.Turn d) → IsNew k × KeptNone k.place
turn_reported t c d k _ (waits_turn z is_new other back) is = (is_new, back)
turn_reported t c d k _ _ is = absurd (false_true (ap is_turn is))

busy_reported : (t : Tables) (c d : ℕ) (k : Consumer) (m : Move) → Does t c k m → m ≡ moves.Waits (wait.Busy d) → IsNew k ×
    ((r : ℕ) × (current t k.request.key ≡ Some r))
busy_reported t c d k _ (passes z r is_new queues may) is = (is_new, (r, may.current))
busy_reported t c d k _ _ is = absurd (false_true (ap is_busy is))

turn_waits : (d : ℕ) (m : Move) → WaitsAs (wait.Turn d) m → m ≡ moves.Waits (wait.Turn d)
turn_waits d _ said.waits = refl
turn_waits d _ (said.asks x is) = absurd (let no : wait.Turn d ≡ wait.Body x = is in cc)
turn_waits d _ (said.opens x n request is) = absurd (let no : wait.Turn d ≡ wait.Head x = is in cc)

busy_waits : (d : ℕ) (m : Move) → WaitsAs (wait.Busy d) m → m ≡ moves.Waits (wait.Busy d)
busy_waits d _ said.waits = refl
busy_waits d _ (said.asks x is) = absurd (let no : wait.Busy d ≡ wait.Body x = is in cc)
busy_waits d _ (said.opens x n request is) = absurd (let no : wait.Busy d ≡ wait.Head x = is in cc)

module _ (step : Step) (a : IsFallback step.tables) (g : AreOwn step.tables) (turns : Turns step.tables) (readers : AreReaders step.tables)
    (was : AreStanding step.tables) where
  open step use {limits, tables as t, now, flaw, sound as s, owners as o, event as ev, accepted as goes}

  abbrev e : Entry
  e = entry_of limits t now ev flaw

  abbrev now_on : Tables
  now_on = after_accepted t e

  module _ (taken : IsTaken limits t e) (c : ℕ) (k : Consumer) (row : t.consumer c ≡ Some k) where
    abbrev On : Place → Option ℕ → Type 0
    On p own = Stands p own k.request

    st : On k.place k.own
    st = was.stands c k row

    -- WHO WAITS FOR A HEAD

    by_stands : (x : ℕ) (way : Route) → StandsFor x k way → (is_only k.request ≡ false) ⊎ (k.shown ≡ true)
    by_stands x _ (laws.direct at) = inl (subst (λ p. On p k.own) at st)
    by_stands x _ (laws.has_turn at off) = inl (subst (λ p. On p k.own) at st)
    by_stands x _ (laws.first r lo hi at off) = inl (subst (λ p. On p k.own) at st)
    by_stands x _ (laws.later r lo hi how at on) = inr on

    awaits : (x : ℕ) (w : Exchange) → t.exchange x ≡ Some w → is_headless (Some w) ≡ true → w.c ≡ c → StandsFor x k (route_of w.need) × (k.own ≡ Some x)
    awaits x w exchange_row bare mine =
        let it = turns.awaited x w exchange_row bare in
        subst (λ (q : Consumer). StandsFor x q (route_of w.need) × (q.own ≡ Some x))
        (same_row (t.consumer c) it.k k (sym (ap t.consumer mine) ∙ it.row) row) (it.stands, it.own)

    asks_or_shown : (x : ℕ) (w : Exchange) → t.exchange x ≡ Some w → is_headless (Some w) ≡ true → w.c ≡ c → (is_only k.request ≡ false) ⊎ (k.shown ≡ true)
    asks_or_shown x w exchange_row bare mine = by_stands x (route_of w.need) (awaits x w exchange_row bare mine).0

    bare_is : (w : Exchange) → w.is_open ≡ true → w.head ≡ None → is_headless (Some w) ≡ true
    bare_is w on bare = rw (on, bare) refl

    -- AS THE EVENT LEAVES IT

    module _ (x : ℕ) (response : Response) (w : Exchange) (here : ev ≡ event.Head x response) (exchange_row : t.exchange x ≡ Some w) (mine : w.c ≡ c) where
      abbrev view : Rattle.hc_rules.specs.declared.heads.HeadView.HeadView
      view = head_view t (has_loss e.acts) w response

      abbrev own_then : Option ℕ
      own_then = if becomes_shared t e response w (case_at t e) then None else k.own

      waits : StandsFor x k (route_of w.need) × (k.own ≡ Some x)
      waits =
          let new = is_new limits t now flaw s ev goes x response w here exchange_row in
          awaits x w exchange_row (bare_is w new.is_open new.bare) mine

      kept_there : On k.place own_then
      kept_there = less (becomes_shared t e response w (case_at t e)) k.place k.own k.request (stands_bare x k (route_of w.need) waits.0) st

      -- its 304 came from its own exchange
      passed_there : (q : Option ℕ) → is_some q ≡ true → case_at t e ≡ Some case.Validated → On (passed_on x q) own_then
      passed_there None some is = absurd (false_true some)
      passed_there (Some r) some is = ap (λ (q : Option HeadCase). if becomes_shared t e response w q then None else k.own) is ∙ waits.1

      wanted_there : (q : Wanted) → is_only k.request ≡ false → On (bound_to_wanted x by.Founding (place.Direct x) q) own_then
      wanted_there (wanted.Interval span) asks = tt
      wanted_there _ asks = asks

      by_case : is_only k.request ≡ false → (q : HeadCase) → CaseBy view q → case_at t e ≡ Some q → On (place_by_case x response w k (Some q)) own_then
      by_case asks _ (cases.direct_taken way) is = kept_there
      by_case asks _ (cases.validated way h d l) is = passed_there w.aim (valid_aim t e x response w here exchange_row is) is
      by_case asks _ (cases.not_validated way h) is = kept_there
      by_case asks _ (cases.founds_whole way h l f) is = tt
      by_case asks _ (cases.founds_range way h f l d) is = wanted_there (wanted_of (range_of k.request) (founded_total w response)) asks
      by_case asks _ (cases.first_joins way off h f) is = kept_there
      by_case asks _ (cases.first_changed way off) is = kept_there
      by_case asks _ (cases.first_replaced way off h l f) is = tt
      by_case asks _ (cases.later_bad way on h) is = kept_there
      by_case asks _ (cases.later_joins way on h f) is = kept_there
      by_case asks _ (cases.later_changed way on) is = kept_there
      by_case asks _ _ is = asks

      case_here : case_at t e ≡ Some (head_case view)
      case_here = case_is t e x response w here exchange_row

      head_stands : On (place_by_case x response w k (case_at t e)) own_then
      head_stands =
          let new = is_new limits t now flaw s ev goes x response w here exchange_row in
          elim (asks_or_shown x w exchange_row (bare_is w new.is_open new.bare) mine) [
            | inl asks ↦ subst (λ q. On (place_by_case x response w k q) own_then) (sym case_here) (by_case asks (head_case view) (case_by view) case_here)
            | inr shown ↦ subst (λ p. On p own_then) (sym (head_same step a g turns readers c k row shown x response w here exchange_row mine)) kept_there
          ]

    row_stands : (x : ℕ) (response : Response) (z : Option Exchange) → ev ≡ event.Head x response → t.exchange x ≡ z →
        On (by_head t e c x response z k).place (by_head t e c x response z k).own
    row_stands x response None here exchange_row = st
    row_stands x response (Some w) here exchange_row = elim (eq_cases w.c c) [
      | inr off ↦ rw off.0 st
      | inl mine ↦ rw mine.0 (head_stands x response w here exchange_row mine.1)
    ]

    fault_stands : (x : ℕ) (z : Option Exchange) → ev ≡ event.Fault x → t.exchange x ≡ z → On (by_fault c x z k).place (by_fault c x z k).own
    fault_stands x None here exchange_row = st
    fault_stands x (Some w) here exchange_row = elim (bool_cases (w.c == c && is_none w.head && not k.shown)) [
      | inr off ↦ rw off st
      | inl hit ↦
          let on = fault_open_of step x w (sym (ap (denial t) here) ∙ goes) exchange_row in
          elim (asks_or_shown x w exchange_row (bare_is w on (none_by w.head (and_right (w.c == c) _ (and_left _ (not k.shown) hit))))
          (grind (arith, nat_tests))) [
            | inl asks ↦ rw hit asks
            | inr shown ↦ absurd (false_true (sym (ap not shown) ∙ and_right _ (not k.shown) hit))
          ]
    ]

    heard_stands : (v : Event) → ev ≡ v → On (consumer_heard t e c v k).place (consumer_heard t e c v k).own
    heard_stands (event.Head x response) here = row_stands x response (t.exchange x) here refl
    heard_stands (event.Fault x) here = fault_stands x (t.exchange x) here refl
    heard_stands (event.Cancel d) here = elim (bool_cases (d == c)) [
      | inl hit ↦ rw hit tt
      | inr off ↦ rw off st
    ]
    heard_stands _ here = st

    own_stands : (p : Place) (own : Option ℕ) → On p own → On p (own_after t e c p own)
    own_stands (place.Bound r lo hi how) own on = any_bound r lo hi how own _ k.request on
    own_stands _ own on = on

    quiet_stands : (u : Consumer) → IsRow t e c 0 0 None by.Plan k u → ((d want : ℕ) → ev ≡ event.Poll d want → ⊥) → On u.place u.own
    quiet_stands u r unpolled =
        let h = consumer_heard t e c ev k in
        subst (λ p. On p u.own) (sym (heard_place step c 0 0 None by.Plan k u unpolled r))
        (subst (λ z. On h.place z) (sym (own_is step a g c k u r (unopened step a g unpolled c))) (own_stands h.place h.own (heard_stands ev refl)))

    -- AS A POLL LEAVES IT

    turn_not : (x : ℕ) → k.place ≡ place.Turn x → IsHeard t k → ⊥
    turn_not x at heard =
        let i = g.turn c x k row at in
        let bare : i.its.w.head ≡ None = turn_bare step a g c x k i.its.w row at i.its.own i.its.row i.is_open in
        waits_not step a g x k i.its.w i.its.own i.its.row i.is_open bare heard

    unowned : IsNew k → (z : Wait) → WaitedAs t now c k z → KeptNone k.place → k.own ≡ None
    unowned new z w kept = by_place k.place refl kept new.plans
      where
        by_place : (p : Place) → k.place ≡ p → KeptNone p → Plans p → k.own ≡ None
        by_place place.Line at none plans = subst (λ p. On p k.own) at st
        by_place (place.Passed r None) at none plans = subst (λ p. On p k.own) at st
        by_place (place.Passed r (Some x)) at none plans = absurd none
        by_place (place.Turn x) at none plans = absurd (turn_not x at w.heard)
        by_place (place.Direct x) at none plans = absurd (past_not step a g x k at w.none w.heard (o.past c x k row at w.unshown))
        by_place _ at none plans = absurd plans

    module _ (z : Wait) (reported : wait_in c e.acts ≡ Some z) where
      abbrev at_it : Rattle.hc_effects.proofs.Said.WaitsBy t now ev c z
      at_it = waiting_by limits t now flaw s ev goes c z reported

      waits_as : WaitsAs z (move_of t now at_it.want c k)
      waits_as = subst (λ (q : Consumer). WaitsAs z (move_of t now at_it.want c q)) (same_row (t.consumer c) at_it.k k at_it.poll.row row) at_it.move

      does_so : Does t c k (move_of t now at_it.want c k)
      does_so = does_polled t c k s turns row now at_it.want

    passed_stands : (q : Option ℕ) (r : ℕ) → current t k.request.key ≡ Some r → q ≡ kept_by k.place → (KeptNone k.place → k.own ≡ None) →
        On (passed_by q (current t k.request.key)) k.own
    passed_stands q r is kept none = subst (λ z. On (passed_by q z) k.own) (sym is) (by_kept q kept)
      where
        kept_own : (x : ℕ) (p : Place) → Some x ≡ kept_by p → On p k.own → k.own ≡ Some x
        kept_own x (place.Passed q (Some y)) h on = on ∙ sym h
        kept_own x _ h on = absurd (none_some x (sym h))

        by_kept : (y : Option ℕ) → y ≡ kept_by k.place → On (place.Passed r y) k.own
        by_kept None h = none (kept_none k.place (λ passed. sym h))
        by_kept (Some x) h = kept_own x k.place h st

    waits_stands : (z : Option Wait) → wait_in c e.acts ≡ z → On (waiting_place t k z) k.own
    waits_stands (Some (wait.Turn d)) reported =
        let both = turn_reported t c d k _ (does_so (wait.Turn d) reported) (turn_waits d _ (waits_as (wait.Turn d) reported)) in
        unowned both.0 (wait.Turn d) (waited_as t now c k (wait.Turn d) (turn d) _ s row (waits_as (wait.Turn d) reported)) both.1
    waits_stands (Some (wait.Busy d)) reported =
        let both = busy_reported t c d k _ (does_so (wait.Busy d) reported) (busy_waits d _ (waits_as (wait.Busy d) reported)) in
        passed_stands (kept_by k.place) both.1.0 both.1.1 refl
        (unowned both.0 (wait.Busy d) (waited_as t now c k (wait.Busy d) (busy d) _ s row (waits_as (wait.Busy d) reported)))
    waits_stands _ reported = st

    module _ (d want : ℕ) (here : ev ≡ event.Poll d want) where
      heard_is : consumer_heard t e c ev k ≡ k
      heard_is = ap (λ v. consumer_heard t e c v k) here

      abbrev stood : Consumer
      stood = waiting t e c (consumer_heard t e c ev k)

      stood_stands : On stood.place stood.own
      stood_stands = subst (λ (q : Consumer). On (waiting_place t q (wait_in c e.acts)) q.own) (sym heard_is) (waits_stands (wait_in c e.acts) refl)

      by_why : (p : Opening) → stood.place ≡ k.place → OpensFor t c k p.x p.need →
          On (unless_bound (bound_to stood.place) stood.place (opened_place t p.x stood (route_of p.need))) (Some p.x)
      by_why p same (past way new) = let free : bound_to stood.place ≡ None = ap bound_to same ∙ new.bound in rw (free, way) new.asks
      by_why p same (fetches way new queues turn_is varied bypass) = let free : bound_to stood.place ≡ None = ap bound_to same ∙ new.bound in
          rw (free, way) new.asks
      by_why p same (first r lo hi way new bound) =
          let free : bound_to stood.place ≡ None = ap bound_to same ∙ new.bound in
          let there : opened_place t p.x stood route.Hole ≡ place.Bound r lo hi (by.FirstHole p.x) =
          ap (λ (q : Consumer). opened_place t p.x q route.Hole) heard_is ∙ bound in
          subst (λ z. On z (Some p.x))
          (sym (ap (λ z. unless_bound z stood.place (opened_place t p.x stood (route_of p.need))) free ∙ (ap (opened_place t p.x stood) way ∙ there))) new.asks
      by_why p same (later r lo hi how way shown at) =
          let there : stood.place ≡ place.Bound r lo hi how = same ∙ at in
          subst (λ z. On z (Some p.x)) (sym (unless_same (bound_to stood.place) r stood.place _ (ap bound_to there) ∙ there))
          (any_bound r lo hi how k.own (Some p.x) k.request (subst (λ z. On z k.own) at st))

      opens_stands : (z : Option Opening) → opening_in e.acts ≡ z → On (by_opening t c z stood).place (by_opening t c z stood).own
      opens_stands None is = stood_stands
      opens_stands (Some p) is = elim (eq_cases p.c c) [
        | inr off ↦ rw off.0 stood_stands
        | inl mine ↦
            let op = is_opener limits t now flaw s ev goes c k p row is mine.1 in
            let it = opened_at limits t e taken s turns p is in
            let one : it.k ≡ k = same_row (t.consumer c) it.k k (sym (ap t.consumer mine.1) ∙ it.row) row in
            let why : OpensFor t c k p.x p.need =
            subst (λ n. OpensFor t n k p.x p.need) mine.1 (subst (λ (q : Consumer). OpensFor t p.c q p.x p.need) one it.why) in
            rw mine.0 (by_why p op.place_is why)
      ]

      shows_stands : (p : Place) (own : Option ℕ) (z : Option Showing) → On p own → On (shown_place c z p) own
      shows_stands p own None on = on
      shows_stands p own (Some z) on = elim (bool_cases (z.c == c && not (reads p))) [
        | inl hit ↦ rw hit tt
        | inr off ↦ rw off on
      ]

      left_stands : (b : Bool) (p : Place) (own : Option ℕ) → On p own → On (if b then place.Over else p) own
      left_stands true p own on = tt
      left_stands false p own on = on

      acted_stands : On (consumer_acted t e c (consumer_heard t e c ev k)).place (consumer_acted t e c (consumer_heard t e c ev k)).own
      acted_stands =
          let q = by_opening t c (opening_in e.acts) stood in
          subst (λ z. On (consumer_acted t e c (consumer_heard t e c ev k)).place z)
          (sym (own_poll step a g d want here c (consumer_heard t e c ev k).place q.own))
          (left_stands (leaves_in c e.acts) _ q.own (shows_stands q.place q.own (showing_in e.acts) (opens_stands (opening_in e.acts) refl)))

    -- AFTER IT

    went_on : (u : Consumer) → starts_over t e c k ≡ false → due_after t e c k (consumer_acted t e c (consumer_heard t e c ev k)) ≡ u → (b : Bool) →
        leaves_in c e.acts ≡ b → On u.place u.own
    went_on u stays is b leaves = elim (poll_of ev) [
      | inl poll ↦ subst (λ (q : Consumer). On q.place q.own) is (acted_stands poll.0 poll.1 poll.2)
      | inr unpolled ↦ by_left b leaves unpolled
    ]
      where
        by_left : (b : Bool) → leaves_in c e.acts ≡ b → ((d want : ℕ) → ev ≡ event.Poll d want → ⊥) → On u.place u.own
        by_left false off unpolled = quiet_stands u (record { row = row; stays = stays; leaves = off; is = is }) unpolled
        by_left true on unpolled =
            let over : u.place ≡ place.Over = sym (ap (λ (q : Consumer). q.place) is) ∙ rw on refl in
            subst (λ p. On p u.own) (sym over) tt

    settled_stands : (u : Consumer) (b : Bool) → starts_over t e c k ≡ b →
        consumer_settled t e c k (consumer_acted t e c (consumer_heard t e c ev k)) ≡ u → On u.place u.own
    settled_stands u true over is = subst (λ (q : Consumer). On q.place q.own) (rw over at is) refl
    settled_stands u false stays is = went_on u stays (rw stays at is) (leaves_in c e.acts) refl

    kept_stands : (u : Consumer) → now_on.consumer c ≡ Some u → Stands u.place u.own u.request
    kept_stands u after =
        let on = is_kept t e c k row in
        let one : on.u ≡ u = same_row (now_on.consumer c) on.u u on.row after in
        subst (λ r. Stands u.place u.own r) (sym (ap (λ (q : Consumer). q.request) (sym one) ∙ on.request_is))
        (settled_stands u (starts_over t e c k) refl (on.is ∙ one))

  module _ (taken : IsTaken limits t e) where
    by_row : (c : ℕ) (u : Consumer) (q : Option Consumer) → t.consumer c ≡ q → now_on.consumer c ≡ Some u → Stands u.place u.own u.request
    by_row c u None none after = subst (λ (q : Consumer). Stands q.place q.own q.request) (new_is step a g c (t.consumer c) u none after).1 refl
    by_row c u (Some k) row after = kept_stands taken c k row u after

    pub standing_kept : AreStanding now_on
    standing_kept = record { stands = λ c u after. by_row c u (t.consumer c) refl after }
