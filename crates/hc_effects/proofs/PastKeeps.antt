-- Who reads past the store and wasn't shown a head may be shown it, or waits for it.
--
-- It stood there before, its head put it there, or the exchange is opened now (`PlaceFrom`, `direct_from`). No other
-- head can put it there, as each case shows (`case_place`). Who stood there keeps what it had (`was_past`). Who waited
-- for the head waits on, or the head came (`still_waits`): a cancel or a fault would have moved it, and a piece or an
-- end without a head is denied (`unmet`). `by_place` joins these for `past_kept`.
use Rattle.std.{proofs.{Common.{◌≡◌, ◌⊎◌, inl, inr, ℕ, Bool, true, false, Option, Some, None, refl, ap, sym, ◌∙◌, subst, arith}, lemmas.Bool.Decides.{nat_tests}}, specs.Prelude.{if◌then◌else◌, is_some, is_none, ◌==◌, ◌&&◌, ◌||◌, not, nat_eq}}
use Rattle.hc_text.proofs.Basics.{bool_cases, not_some as none_some, same_some as same_row, some_inj}
use Rattle.hc_effects.proofs.Vocabulary.{Opening, opening_in, leaves_in, shows_in, Event, Response, Wait, HeadCase, Route, Wanted, route_of, range_of, wanted_of, Place, BoundBy, Showing, showing_in, wait_in, case_at, consumer_heard, consumer_acted, consumer_settled, consumer_made, consumer_after, by_head, by_fault, by_opening, shown_place, waiting, waiting_place, due_after, place_by_case, passed_on, bound_to_wanted, opened_place, unless_bound, denial, Entry, exchange_opened, exchange_in, founded_total, entry_of, IsPast, bound_to, Tables, Exchange, Consumer, may_stand, starts_over, after_accepted, event, cause, case, wanted, place, by}
use Rattle.hc_rules.specs.Refusals as refusals
use Rattle.hc_model.specs.Owners as owners
use Rattle.hc_effects.proofs.{Basics.{or_false}, ConsumerFilters.{acted}, ExchangeFrom.{IsSame}, Forward.{is_on, opened_on, is_untouched}, Once.{never}, OwnersKeep.{new_number}, PieceKeeps.{eq_cases}, ToBeShown.{heard_place}, Waiters.{IsWaiter, waiter_of, unclosed}, WaitingKeeps.{waiting_kept}, Step.{Step}}

-- WHERE A DIRECT PLACE IS FROM

module _ (t : Tables) (e : Entry) (c y : ℕ) where
  abbrev there : Place
  there = place.Direct y

  line_not : place.Line ≡ there → ⊥
  line_not is = cc

  over_not : place.Over ≡ there → ⊥
  over_not is = cc

  down_not : (why : Rattle.hc_event.specs.declared.act.Cause.Cause) → place.Down why ≡ there → ⊥
  down_not why is = cc

  bound_not : (r lo : ℕ) (hi : Option ℕ) (how : BoundBy) → place.Bound r lo hi how ≡ there → ⊥
  bound_not r lo hi how is = cc

  direct_inj : (x : ℕ) → place.Direct x ≡ there → x ≡ y
  direct_inj x is = cc

  passed_on_not : (x : ℕ) (o : Option ℕ) → passed_on x o ≡ there → ⊥
  passed_on_not x o is = grind (arith, nat_tests)

  -- it stood there, a head came, or it is opened
  pub data PlaceFrom (p : Place) : Type 0 where
    stood : p ≡ there → PlaceFrom p
    heads : (response : Response) → e.event ≡ event.Head y response → PlaceFrom p
    opens : (o : Opening) → opening_in e.acts ≡ Some o → o.c ≡ c → o.x ≡ y → PlaceFrom p

  wanted_by : (x : ℕ) (v : Wanted) → bound_to_wanted x by.Founding (place.Direct x) v ≡ there → x ≡ y
  wanted_by x (wanted.Interval span) is = absurd (bound_not x span.lo (Some span.hi) by.Founding is)
  wanted_by x _ is = direct_inj x is

  case_place : (x : ℕ) (response : Response) (w : Exchange) (k : Consumer) (g : Option HeadCase) → place_by_case x response w k g ≡ there →
      (k.place ≡ there) ⊎ (x ≡ y)
  case_place x response w k None is = inl is
  case_place x response w k (Some case.DirectBad) is = absurd (down_not _ is)
  case_place x response w k (Some case.DirectTaken) is = inl is
  case_place x response w k (Some case.TurnBad) is = absurd (down_not _ is)
  case_place x response w k (Some case.Validated) is = absurd (passed_on_not x w.aim is)
  case_place x response w k (Some case.NotValidated) is = inl is
  case_place x response w k (Some case.TurnServerError) is = inr (direct_inj x is)
  case_place x response w k (Some case.FoundsWhole) is = absurd (bound_not _ _ _ _ is)
  case_place x response w k (Some case.FoundsRange) is = inr (wanted_by x (wanted_of (range_of k.request) (founded_total w response)) is)
  case_place x response w k (Some case.PassesBy) is = inr (direct_inj x is)
  case_place x response w k (Some case.FirstBad) is = absurd (down_not _ is)
  case_place x response w k (Some case.FirstJoins) is = inl is
  case_place x response w k (Some case.FirstServerError) is = inr (direct_inj x is)
  case_place x response w k (Some case.FirstChanged) is = inl is
  case_place x response w k (Some case.FirstReplaced) is = absurd (bound_not _ _ _ _ is)
  case_place x response w k (Some case.FirstPassesBy) is = inr (direct_inj x is)
  case_place x response w k (Some case.LaterBad) is = inl is
  case_place x response w k (Some case.LaterJoins) is = inl is
  case_place x response w k (Some case.LaterChanged) is = inl is

  head_place : (x : ℕ) (response : Response) (o : Option Exchange) (k : Consumer) → e.event ≡ event.Head x response →
      (by_head t e c x response o k).place ≡ there → PlaceFrom k.place
  head_place x response None k at is = stood is
  head_place x response (Some w) k at is = elim (eq_cases w.c c) [
    | inr off ↦ stood (rw off.0 at is)
    | inl here ↦ elim (case_place x response w k (case_at t e) (rw here.0 at is)) [
      | inl old ↦ stood old
      | inr number ↦ heads response (at ∙ ap (λ n. event.Head n response) number)
    ]
  ]

  fault_place : (x : ℕ) (o : Option Exchange) (k : Consumer) → (by_fault c x o k).place ≡ there → k.place ≡ there
  fault_place x o k is = grind (arith, nat_tests)

  heard_place_from : (v : Event) (k : Consumer) → e.event ≡ v → (consumer_heard t e c v k).place ≡ there → PlaceFrom k.place
  heard_place_from (event.Head x response) k at is = head_place x response (t.exchange x) k at is
  heard_place_from (event.Fault x) k at is = stood (fault_place x (t.exchange x) k is)
  heard_place_from (event.Cancel d) k at is = elim (bool_cases (d == c)) [
    | inl here ↦ absurd (over_not (rw here at is))
    | inr off ↦ stood (rw off at is)
  ]
  heard_place_from _ k at is = stood is

  waited : (k : Consumer) (o : Option Wait) → waiting_place t k o ≡ there → k.place ≡ there
  waited k o is = grind (arith, nat_tests)

  route_place : (x : ℕ) (k : Consumer) (way : Route) → opened_place t x k way ≡ there → x ≡ y
  route_place x k way is = grind (arith, nat_tests)

  unless : (o : Opening) (k : Consumer) (q : Option ℕ) → opening_in e.acts ≡ Some o → o.c ≡ c →
      unless_bound q k.place (opened_place t o.x k (route_of o.need)) ≡ there → PlaceFrom k.place
  unless o k None row here is = opens o row here (route_place o.x k (route_of o.need) is)
  unless o k (Some r) row here is = stood is

  opened : (o : Option Opening) (k : Consumer) → opening_in e.acts ≡ o → (by_opening t c o k).place ≡ there → PlaceFrom k.place
  opened None k row is = stood is
  opened (Some o) k row is = elim (eq_cases o.c c) [
    | inr off ↦ stood (rw off.0 at is)
    | inl here ↦ unless o k (bound_to k.place) row here.1 (rw here.0 at is)
  ]

  shown : (o : Option Showing) (p : Place) → shown_place c o p ≡ there → p ≡ there
  shown o p is = grind (arith, nat_tests)

  -- the row before, and where it stood
  pub record IsFrom (k u : Consumer) : Type 0 where
    pub row : t.consumer c ≡ Some k
    pub stays : starts_over t e c k ≡ false
    pub leaves : leaves_in c e.acts ≡ false
    pub is : due_after t e c k (consumer_acted t e c (consumer_heard t e c e.event k)) ≡ u
    pub at : PlaceFrom k.place

  from_opened : (k : Consumer) → PlaceFrom (waiting t e c (consumer_heard t e c e.event k)).place → PlaceFrom k.place
  from_opened k (heads response at) = heads response at
  from_opened k (opens o is here number) = opens o is here number
  from_opened k (stood is) = heard_place_from e.event k refl (waited (consumer_heard t e c e.event k) (wait_in c e.acts) is)

  settled : (k q u : Consumer) (b : Bool) → starts_over t e c k ≡ b → consumer_settled t e c k q ≡ u → u.place ≡ there → (b ≡ false) ×
      (due_after t e c k q ≡ u) × (q.place ≡ there)
  settled k q u true over is stands = absurd (line_not (ap (λ (z : Consumer). z.place) (rw over at is) ∙ stands))
  settled k q u false over is stands = let one : due_after t e c k q ≡ u = rw over at is in (refl, one, ap (λ (z : Consumer). z.place) one ∙ stands)

  stays_in : (p : Place) (b : Bool) → (if b then place.Over else p) ≡ there → (b ≡ false) × (p ≡ there)
  stays_in p true is = absurd (over_not is)
  stays_in p false is = (refl, is)

  by_row : (k u : Consumer) → t.consumer c ≡ Some k → consumer_settled t e c k (consumer_acted t e c (consumer_heard t e c e.event k)) ≡ u →
      u.place ≡ there → IsFrom k u
  by_row k u row is stands =
      let h = consumer_heard t e c e.event k in
      let all = settled k (consumer_acted t e c h) u (starts_over t e c k) refl is stands in
      let left = stays_in (shown_place c (showing_in e.acts) (by_opening t c (opening_in e.acts) (waiting t e c h)).place) (leaves_in c e.acts) all.2 in
      record {
        row = row;
        stays = all.0;
        leaves = left.0;
        is = all.1;
        at = from_opened k (opened (opening_in e.acts) (waiting t e c h) refl (shown (showing_in e.acts) _ left.1));
      }

  made : (v : Event) (u : Consumer) → consumer_made c e.now v ≡ Some u → u.place ≡ there → ⊥
  made v u h stands = grind (arith, nat_tests)

  pub direct_from : (o : Option Consumer) (u : Consumer) → t.consumer c ≡ o → consumer_after t e c o ≡ Some u → u.place ≡ there → (k : Consumer) × IsFrom k u
  unfolding consumer_after
  direct_from None u row is stands = absurd (made e.event u is stands)
  direct_from (Some k) u row is stands = (k, by_row k u row (some_inj _ u is) stands)

-- IT STAYS SO

module _ (step : Step) (stand : may_stand step.limits step.tables (entry_of step.limits step.tables step.now step.event step.flaw) ≡ true) where
  open step use {limits, tables as t, now, flaw, owners as o, event as ev, accepted as goes}

  abbrev e : Entry
  e = entry_of limits t now ev flaw

  abbrev now_on : Tables
  now_on = after_accepted t e

  module _ (c y : ℕ) (k u : Consumer) (after : now_on.consumer c ≡ Some u) (stands : u.place ≡ place.Direct y) (is : IsFrom t e c y k u) where
    -- whose an exchange without a head is
    own_by : (z : Exchange) → now_on.exchange y ≡ Some z → z.is_open ≡ true → z.head ≡ None → z.c ≡ c → IsPast now_on y u
    own_by z row on bare mine =
        let a = waiting_kept step stand y z row on bare in
        let one : a.k ≡ u = same_row (now_on.consumer c) a.k u (sym (ap now_on.consumer mine) ∙ a.row) after in
        owners.waits z (sym (ap (λ (q : Consumer). q.own) one) ∙ a.own) row on bare

    head_by : (z : Exchange) → now_on.exchange y ≡ Some z → (q : Option Response) → z.head ≡ q → (z.head ≡ None → IsPast now_on y u) → IsPast now_on y u
    head_by z row None bare rest = rest bare
    head_by z row (Some response) some rest = owners.answered z row (ap (λ (q : Option Response). is_some q) some)

    some_kept : (w z : Exchange) → IsSame t e y w z → is_some w.head ≡ true → is_some z.head ≡ true
    some_kept w z same headed = grind (arith, nat_tests)

    piece_refused : (bytes : Rattle.std.specs.Prelude.List ℕ) (w : Exchange) → t.exchange y ≡ Some w → w.head ≡ None → denial t (event.Piece y bytes) ≡ None → ⊥
    unfolding refusals.refusal_of
    piece_refused bytes w row bare h = grind (arith, nat_tests)

    head_refused : (response : Response) → t.exchange y ≡ None → denial t (event.Head y response) ≡ None → ⊥
    unfolding refusals.refusal_of
    head_refused response row h = never _ (rw row at h)

    end_refused : (w : Exchange) → t.exchange y ≡ Some w → w.is_open ≡ true → w.head ≡ None → denial t (event.End y) ≡ None → ⊥
    unfolding refusals.refusal_of
    end_refused w row on bare h = never _ (rw (row, on, bare) at h)

    -- an exchange for whose head it waited
    module _ (w : Exchange) (waiter : IsWaiter t c y k w) (unshown : k.shown ≡ false) where
      fault_not : ev ≡ event.Fault y → ⊥
      fault_not here =
          let heard : u.place ≡ (consumer_heard t e c ev k).place =
          heard_place step c 0 0 None by.Plan k u (λ d want polls. let no : event.Fault y ≡ event.Poll d want = sym here ∙ polls in cc)
          (record { row = is.row; stays = is.stays; leaves = is.leaves; is = is.is }) in
          let test : nat_eq w.c c ≡ true = (let m : w.c ≡ c = waiter.for_it in grind (arith, nat_tests)) in
          let down : (by_fault c y (Some w) k).place ≡ place.Down (cause.Net y) = rw (test, waiter.bare, unshown) refl in
          let no : place.Down (cause.Net y) ≡ place.Direct y = sym down ∙
          (sym (ap (λ v. (consumer_heard t e c v k).place) here ∙ ap (λ z. (by_fault c y z k).place) waiter.exchange_row) ∙ (sym heard ∙ stands)) in
          down_not t e c y (cause.Net y) no

      cancel_not : ev ≡ event.Cancel c → ⊥
      cancel_not here =
          let heard : u.place ≡ (consumer_heard t e c ev k).place =
          heard_place step c 0 0 None by.Plan k u (λ d want polls. let no : event.Cancel c ≡ event.Poll d want = sym here ∙ polls in cc)
          (record { row = is.row; stays = is.stays; leaves = is.leaves; is = is.is }) in
          let over : (consumer_heard t e c (event.Cancel c) k).place ≡ place.Over = (let test : nat_eq c c ≡ true = grind (arith, nat_tests) in rw test refl) in
          over_not t e c y (sym over ∙ (sym (ap (λ v. (consumer_heard t e c v k).place) here) ∙ (sym heard ∙ stands)))

      unmet : (z : Exchange) → IsSame t e y w z → z.head ≡ None → (v : Event) → ev ≡ v → exchange_in v ≡ Some y → ⊥
      unmet z same bare (event.Head x response) here h = same.unheard bare response (here ∙ ap (λ n. event.Head n response) (some_inj x y h))
      unmet z same bare (event.Piece x bytes) here h =
          piece_refused bytes w waiter.exchange_row waiter.bare (sym (ap (denial t) (here ∙ ap (λ n. event.Piece n bytes) (some_inj x y h))) ∙ goes)
      unmet z same bare (event.End x) here h =
          end_refused w waiter.exchange_row waiter.was_open waiter.bare (sym (ap (denial t) (here ∙ ap event.End (some_inj x y h))) ∙ goes)
      unmet z same bare (event.Fault x) here h = fault_not (here ∙ ap event.Fault (some_inj x y h))
      unmet z same bare _ here h = none_some y h

      still_waits : IsPast now_on y u
      still_waits =
          let on = is_on t e y w waiter.exchange_row in
          head_by on.u on.row on.u.head refl (λ bare.
          let other = unmet on.u on.same bare ev refl in
          let shut = unclosed step c y k w waiter other cancel_not is.leaves is.stays in
          let un = is_untouched t e y w waiter.exchange_row other shut in
          let one : un.u ≡ on.u = same_row (now_on.exchange y) un.u on.u un.row on.row in
          own_by on.u on.row (sym (ap (λ (q : Exchange). q.is_open) one) ∙ (un.open_is ∙ waiter.was_open)) bare (on.same.c_is ∙ waiter.for_it))

    was_past : k.shown ≡ false → IsPast t y k → IsPast now_on y u
    was_past unshown (owners.answered w row headed) = let on = is_on t e y w row in owners.answered on.u on.row (some_kept w on.u on.same headed)
    was_past unshown (owners.waits w mine row opened bare) =
        let got = waiter_of step y w row opened bare in
        let here : w.c ≡ c = o.one w.c c y got.0 k got.1.row is.row got.1.own mine in
        let one : got.0 ≡ k = same_row (t.consumer c) got.0 k (sym (ap t.consumer here) ∙ got.1.row) is.row in
        still_waits w (subst (λ (q : Consumer). IsWaiter t c y q w) one (subst (λ d. IsWaiter t d y got.0 w) here got.1)) unshown

    by_place : u.shown ≡ false → PlaceFrom t e c y k.place → IsPast now_on y u
    by_place off (stood at) =
        let shown_is : u.shown ≡ (shows_in c e.acts || k.shown) = sym (ap (λ (q : Consumer). q.shown) is.is) ∙ (acted t e c k).shown_is in
        let unshown : k.shown ≡ false = (or_false (shows_in c e.acts) k.shown (sym shown_is ∙ off)).1 in
        was_past unshown (o.past c y k is.row at unshown)
    by_place off (heads response here) = by_row_of (t.exchange y) refl
      where
        by_row_of : (q : Option Exchange) → t.exchange y ≡ q → IsPast now_on y u
        by_row_of None row = absurd (head_refused response row (sym (ap (denial t) here) ∙ goes))
        by_row_of (Some w) row =
            let on = is_on t e y w row in
            head_by on.u on.row on.u.head refl (λ bare. absurd (on.same.unheard bare response here))
    by_place off (opens p opening mine number) =
        let none = new_number step p y opening number in
        let row : now_on.exchange y ≡ Some (exchange_opened t e p) = opened_on t e y p (t.exchange y) none opening number in
        own_by (exchange_opened t e p) row refl refl mine

  -- Who reads past the store and wasn't shown a head may be shown it, or waits for it.
  pub past_kept : (c y : ℕ) (u : Consumer) → now_on.consumer c ≡ Some u → u.place ≡ place.Direct y → u.shown ≡ false → IsPast now_on y u
  past_kept c y u after stands off =
      let got = direct_from t e c y (t.consumer c) u refl after stands in
      by_place c y got.0 u after stands got.1 off got.1.at
