-- Who reads past the store was given no more than came, and has nothing due while its exchange is open: at each entry.
--
-- A poll gives what is next of the answer, and that came (`given_most`); a body only grows (`grown`). For what is due
-- it counts how the consumer came there (`PlaceFrom`). Before that nothing was due to it (`IsBefore`). Its source is
-- its own exchange (`source_is`), so just the stop of that could make a failure due, and a stop closes it. A new
-- exchange is short (`new_undue`). `past_kept` joins both.
use Rattle.std.{proofs.{Common.{◌≡◌, inl, inr, ℕ, ◌+◌, ◌-◌, ◌<◌, ◌≤◌, List, length, length-append, Bool, true, false, Option, Some, None, refl, ap, sym, ◌∙◌, subst, arith}, lemmas.Bool.Decides.{nat_tests}}, specs.{Prelude.{if◌then◌else◌, is_some, ◌&&◌, nat_le, nat_lt}, Option.{option_or}}}
use Rattle.hc_text.proofs.Basics.{and_right, bool_cases, not_some as none_some, never_true as not_so, same_some as same_row, some_inj}
use Rattle.hc_sparse.specs.{Cells.{Cell}, declared.run.Run.{Run}}
use Rattle.hc_effects.proofs.Vocabulary.{Opening, opening_in, given_in, leaves_in, Cause, Event, Response, is_same_number, Place, BoundBy, Showing, showing_in, case_at, consumer_heard, consumer_acted, by_head, by_opening, shown_place, waiting, due_after, Entry, base, front, exchange_in, is_for, cause_of_loss, cause_of_head, cause_by_case, stop_cause, entry_of, Gives, IsAwaiting, move_of, bound_to, reads, base_in, lo_of, own_open, source, shared_exchange, answer_cell, direct_cell, cell_by, body_of, Tables, Exchange, Representation, Consumer, may_stand, starts_over, after_accepted, loses_group, event, place, by}
use Rattle.hc_model.specs.Owners as owners
use Rattle.hc_model.specs.Sound as sound
use Rattle.hc_effects.proofs.{ShownOnce.{by_event}, Basics.{false_true}, Bounded.{IsBounded}, ConsumerFilters.{acted, given_by}, Dues.{undue_of, loss_at, due_none}, ExchangeFrom.{ExchangeFrom, exchange_from, IsSame}, Fills.{Brings, brings}, FirstKeeps.{is_new, is_opener}, Forward.{is_kept}, GivenNext.{read_of, given_next}, Givers.{some_want, gives_of}, MoveBy.{move_by}, OwnersKeep.{is_opened, new_number}, PastKeeps.{IsFrom, PlaceFrom, direct_from}, PieceKeeps.{eq_cases}, PollActs.{ToOne, to_one}, ShownStays.{IsFallback, StaysOrIdle, shown_stays, unless_same}, ToBeShown.{heard_place}, Waiters.{unwritten, IsWaiter, waiter_as, waits_undue}, PastApart.{bound_direct}, Step.{Step}}
use Rattle.hc_effects.proofs.ExchangeFrom as exchange
use Rattle.hc_effects.proofs.Fills as fills_by
use Rattle.hc_laws.proofs.{FirstDues.{poll_undue}, PlacesKept.{AreOwn, IsOwnPast, past_unopened, left_past, head_poll, over_direct}}
use Rattle.hc_effects.proofs.PastKeeps as past
use Rattle.hc_effects.proofs.PollActs as acts_to
use Rattle.hc_effects.proofs.ShownStays as stands

-- of who reads the answer of an exchange past the store
pub record ArePast (t : Tables) : Type 0 where
  pub given : (c x : ℕ) (k : Consumer) (w : Exchange) → t.consumer c ≡ Some k → k.place ≡ place.Direct x → t.exchange x ≡ Some w → k.given ≤ length w.body
  pub undue : (c x : ℕ) (k : Consumer) (w : Exchange) → t.consumer c ≡ Some k → k.place ≡ place.Direct x → t.exchange x ≡ Some w → w.is_open ≡ true →
      k.due ≡ None

none_if : (q : Bool) → (let none : Option Cause = None in if q then none else none) ≡ None
none_if true = refl
none_if false = refl

-- a byte of an answer is one that came
pub answer_below : (x p : ℕ) (w : Exchange) (cell : Cell) → answer_cell x p w ≡ Some cell → p < front w
answer_below x p w cell is = elim (bool_cases (nat_le (base w) p && nat_lt p (front w))) [
  | inl on ↦ let test : nat_lt p (front w) ≡ true = and_right (nat_le (base w) p) (nat_lt p (front w)) on in grind (arith, nat_tests)
  | inr off ↦ absurd (none_some cell (rw off at is))
]

module _ (step : Step) (a : IsFallback step.tables) (b : IsBounded step.tables) (g : AreOwn step.tables) (p : ArePast step.tables)
    (stand : may_stand step.limits step.tables (entry_of step.limits step.tables step.now step.event step.flaw) ≡ true) where
  open step use {limits, tables as t, now, flaw, sound as s, owners as o, event as ev, accepted as goes}

  abbrev e : Entry
  e = entry_of limits t now ev flaw

  abbrev now_on : Tables
  now_on = after_accepted t e

  -- HOW MUCH IT WAS GIVEN

  given_is : (c : ℕ) (k u : Consumer) → t.consumer c ≡ Some k → now_on.consumer c ≡ Some u → u.given ≡ k.given + length (given_in c e.acts)
  given_is c k u row after =
      let on = is_kept t e c k row in
      let one : on.u ≡ u = same_row (now_on.consumer c) on.u u on.row after in
      sym (ap (λ (z : Consumer). z.given) (on.is ∙ one)) ∙
      (given_by (starts_over t e c k) t e c k (consumer_acted t e c (consumer_heard t e c ev k)) ∙ (acted t e c k).given_is)

  -- a body only grows
  grown : (y : ℕ) (w z : Exchange) → t.exchange y ≡ Some w → now_on.exchange y ≡ Some z → length w.body ≤ length z.body
  grown y w z row after = by_brings (brings t e y w z row after)
    where
      by_brings : Brings t e y w z → length w.body ≤ length z.body
      by_brings (fills_by.still none same) = let count : length z.body ≡ length w.body = ap (λ (xs : List ℕ). length xs) same in omega arith
      by_brings (fills_by.more bytes here more) = let count : length z.body ≡ length w.body + length bytes = ap (λ (xs : List ℕ). length xs) more ∙
          length-append w.body bytes in omega arith

  module _ (c y : ℕ) (k : Consumer) (row : t.consumer c ≡ Some k) (at : k.place ≡ place.Direct y) (on : k.shown ≡ true) where
    abbrev w : Exchange
    w = (g.direct c y k row at).its.w

    exchange_row : t.exchange y ≡ Some w
    exchange_row = (g.direct c y k row at).its.row

    had : k.given ≤ length w.body
    had = p.given c y k w row at exchange_row

    given_most : (want : ℕ) (run : Run) → ev ≡ event.Poll c want → move_of t now want c k ≡ Gives run → k.given + length run.bytes ≤ length w.body
    given_most want run is_at move =
        let got = given_next t want c k run s (some_want t c want ev goes is_at) (λ x stood. a.apart.unfounded c x k row stood)
        (gives_of t now c want k run (move_of t now want c k) (move_by t now want c k s row) move on) in
        let i = got.1 in
        let number : y ≡ got.0 = some_inj y got.0 (sym (ap read_of at) ∙ i.number) in
        let cell : cell_by t y (run.at + (length run.bytes - 1)) (t.representation y) ≡ Some _ =
        ap (λ n. body_of t n (run.at + (length run.bytes - 1))) number ∙ i.delivered (length run.bytes - 1) (omega arith) in
        let apart : t.representation y ≡ None = a.apart.unfounded c y k row at in
        let direct : direct_cell y (run.at + (length run.bytes - 1)) (t.exchange y) ≡ Some _ =
        sym (ap (cell_by t y (run.at + (length run.bytes - 1))) apart) ∙ cell in
        let answer : answer_cell y (run.at + (length run.bytes - 1)) w ≡ Some _ =
        sym (ap (direct_cell y (run.at + (length run.bytes - 1))) exchange_row) ∙ direct in
        let lo : lo_of t k.place ≡ base w = ap (lo_of t) at ∙ ap base_in exchange_row in
        by_numbers (base w) (length w.body) run.at (length run.bytes) (lo_of t k.place) k.given (answer_below y _ w _ answer) lo i.at_is i.some
      where
        by_numbers : (base body at n lo given : ℕ) → at + (n - 1) < base + body → lo ≡ base → at ≡ lo + given → 0 < n → given + n ≤ body
        by_numbers base body at n lo given below same start some = omega arith

    given_on : ToOne t now c ev e.acts → k.given + length (given_in c e.acts) ≤ length w.body
    given_on (acts_to.quiet none quiet off) = let zero : length (given_in c e.acts) ≡ 0 = ap (λ (xs : List ℕ). length xs) none in
        let le : k.given ≤ length w.body = had in omega arith
    given_on (acts_to.shows want q r why head lo hi is_at there move none some showing) = let zero : length (given_in c e.acts) ≡ 0 =
        ap (λ (xs : List ℕ). length xs) none in let le : k.given ≤ length w.body = had in omega arith
    given_on (acts_to.gives want q run is_at there move bytes quiet off) =
        let most : k.given + length run.bytes ≤ length w.body =
        given_most want run is_at (sym (ap (move_of t now want c) (same_row (t.consumer c) q k there row)) ∙ move) in
        let count : length (given_in c e.acts) ≡ length run.bytes = ap (λ (xs : List ℕ). length xs) bytes in
        omega arith

    given_then : (u : Consumer) (z : Exchange) → now_on.consumer c ≡ Some u → now_on.exchange y ≡ Some z → u.given ≤ length z.body
    given_then u z after after_row =
        let sum : u.given ≡ k.given + length (given_in c e.acts) = given_is c k u row after in
        let most : k.given + length (given_in c e.acts) ≤ length w.body = given_on (to_one t now c limits flaw ev) in
        let more : length w.body ≤ length z.body = grown y w z exchange_row after_row in
        omega arith

  given_by_shown : (c y : ℕ) (k u : Consumer) (z : Exchange) (q : Bool) → t.consumer c ≡ Some k → k.shown ≡ q → now_on.consumer c ≡ Some u →
      u.place ≡ place.Direct y → now_on.exchange y ≡ Some z → u.given ≤ length z.body
  given_by_shown c y k u z false row off after stands after_row =
      let none : length (given_in c e.acts) ≡ 0 = ap (λ (xs : List ℕ). length xs) ((by_event limits t now c flaw ev).before k row off) in
      let had : k.given ≡ 0 = b.fresh c k row off in
      let sum : u.given ≡ k.given + length (given_in c e.acts) = given_is c k u row after in
      omega arith
  given_by_shown c y k u z true row on after there after_row = by_place (shown_stays step a c k row on u after)
    where
      by_place : StaysOrIdle k.place u.place → u.given ≤ length z.body
      by_place (stands.idle i) = absurd (subst stands.IsIdle there i)
      by_place (stands.same is) = given_then c y k row (sym is ∙ there) on u z after after_row

  -- WHAT IS DUE

  -- who is bound isn't moved by an opening
  bound_not : (c y r lo : ℕ) (hi : Option ℕ) (how : BoundBy) (k u : Consumer) (q : Opening) → t.consumer c ≡ Some k → k.place ≡ place.Bound r lo hi how →
      opening_in e.acts ≡ Some q → q.c ≡ c → due_after t e c k (consumer_acted t e c (consumer_heard t e c ev k)) ≡ u → u.place ≡ place.Direct y → ⊥
  bound_not c y r lo hi how k u q row at opens mine is stands =
      left (leaves_in c e.acts) _ (ap (λ (z : Consumer). z.place) is ∙ stands)
      (shown (showing_in e.acts) _ (opened (opening_in e.acts) ∙ there) ∙ (opened (opening_in e.acts) ∙ there))
    where
      there : (waiting t e c (consumer_heard t e c ev k)).place ≡ place.Bound r lo hi how
      there = (is_opener limits t now flaw s ev goes c k q row opens mine).place_is ∙ at

      opened : (z : Option Opening) → (by_opening t c z (waiting t e c (consumer_heard t e c ev k))).place ≡ (waiting t e c (consumer_heard t e c ev k)).place
      opened None = refl
      opened (Some z) = elim (eq_cases z.c c) [
        | inr off ↦ rw off.0 refl
        | inl hit ↦ rw hit.0 (unless_same (bound_to (waiting t e c (consumer_heard t e c ev k)).place) r (waiting t e c (consumer_heard t e c ev k)).place
            _ (ap bound_to there))
      ]

      shown : (z : Option Showing) (x : Place) → x ≡ place.Bound r lo hi how → shown_place c z x ≡ x
      shown None x here = refl
      shown (Some z) x here = elim (eq_cases z.c c) [
        | inr off ↦ rw off.0 refl
        | inl hit ↦ rw (hit.0, ap reads here) refl
      ]

      left : (leaves : Bool) (x : Place) → (if leaves then place.Over else x) ≡ place.Direct y → x ≡ place.Bound r lo hi how → ⊥
      left true x gone here = over_direct y gone
      left false x gone here = bound_direct r lo hi how y (sym here ∙ gone)

  idle_before : (c y : ℕ) (k u : Consumer) (q : Opening) → t.consumer c ≡ Some k → opening_in e.acts ≡ Some q → q.c ≡ c →
      due_after t e c k (consumer_acted t e c (consumer_heard t e c ev k)) ≡ u → u.place ≡ place.Direct y → (x : Place) → k.place ≡ x → k.due ≡ None
  idle_before c y k u q row opens mine is stands (place.Bound r lo hi how) at = absurd (bound_not c y r lo hi how k u q row at opens mine is stands)
  idle_before c y k u q row opens mine is stands (place.Direct x) at = absurd (past_unopened step a g c x k row at q opens mine)
  idle_before c y k u q row opens mine is stands _ at = o.idle_due c k row (ap reads at)

  module _ (c y : ℕ) (k u : Consumer) (f : IsFrom t e c y k u) (stands : u.place ≡ place.Direct y) (i : IsOwnPast now_on c y u) where
    reading : reads u.place ≡ true
    reading = ap reads stands

    -- a new one
    new_undue : (q : Opening) → opening_in e.acts ≡ Some q → t.exchange y ≡ None → PlaceFrom t e c y k.place → u.due ≡ None
    new_undue q opens none (past.stood at) = absurd (none_some _ (sym none ∙ (g.direct c y k f.row at).its.row))
    new_undue q opens none (past.heads response here) = absurd (let op = is_opened step q opens in head_poll step a g y q.c op.want response (sym here ∙ op.at))
    new_undue q opens none (past.opens z is mine number) =
        let op = is_opened step z is in
        due_none t e c k (consumer_acted t e c (consumer_heard t e c ev k)) u f.is reading (idle_before c y k u z f.row is mine f.is stands k.place refl)
        (undue_of t e c k (poll_undue step c z.c op.want k op.at))

    module _ (w z : Exchange) (row : t.exchange y ≡ Some w) (after_row : now_on.exchange y ≡ Some z) (same : IsSame t e y w z) (opened : z.is_open ≡ true) where
      was_open : w.is_open ≡ true
      was_open = same.was_open opened

      mine : w.c ≡ c
      mine = sym same.c_is ∙ (ap (λ (q : Exchange). q.c) (same_row (now_on.exchange y) z i.its.w after_row i.its.row) ∙ i.its.for_it)

      -- before its head it waits for it
      got : (response : Response) → ev ≡ event.Head y response → IsWaiter t c y k w
      got response here = let new = is_new limits t now flaw s ev goes y response w here row in waiter_as step c y k w f.row row mine new.is_open new.bare

      record IsBefore : Type 0 where
        own : k.own ≡ Some y
        due : k.due ≡ None
        loss : cause_of_loss t e c k.place ≡ None

      direct_before : k.place ≡ place.Direct y → IsBefore
      direct_before at = record {
        own = (g.direct c y k f.row at).its.own;
        due = p.undue c y k w f.row at row was_open;
        loss = ap (cause_of_loss t e c) at;
      }

      hole_before : (r lo : ℕ) (hi : Option ℕ) (how : BoundBy) (v : IsWaiter t c y k w) → k.place ≡ place.Bound r lo hi how →
          (q : Option Representation) → t.representation r ≡ q → IsBefore
      hole_before r lo hi how v at None there =
          absurd (false_true (sym (ap (λ (z : Option Representation). is_some z) there) ∙ s.numbered.bound_to r c k (sound.is_bound lo hi how f.row at)))
      hole_before r lo hi how v at (Some x) there = record {
        own = v.own;
        due = (waits_undue step r c y lo hi how x k w v at there).0;
        loss = loss_at t e c r lo hi how k x at there
            (not_so (loses_group t e r x) (λ losing. unwritten step c y k w v r lo hi how x x.writer at there (and_right _ _ losing) refl));
      }

      head_before : (v : IsWaiter t c y k w) → IsAwaiting y w k.place → IsBefore
      head_before v (owners.direct way at) = direct_before at
      head_before v (owners.turn way at) = record { own = v.own; due = o.idle_due c k f.row (ap reads at); loss = ap (cause_of_loss t e c) at }
      head_before v (owners.hole r lo hi how way aim at) = hole_before r lo hi how v at (t.representation r) refl

      before_by : PlaceFrom t e c y k.place → IsBefore
      before_by (past.stood at) = direct_before at
      before_by (past.heads response here) = let v = got response here in head_before v v.at
      before_by (past.opens q is own number) = absurd (none_some w (sym (new_number step q y is number) ∙ row))

      before : IsBefore
      before = before_by f.at

      source_is : source t k ≡ Some y
      source_is =
          let mine_is : k.own ≡ Some y = before.own in
          let on : w.is_open ≡ true = was_open in
          let own : own_open t k ≡ Some y = rw (mine_is, row, on) refl in
          ap (λ q. option_or q (shared_exchange t k.place)) own

      other : (x : ℕ) (cause : Option Cause) → (x ≡ y → ⊥) → (if is_same_number (source t k) (Some x) then cause else None) ≡ None
      other x cause apart = ap (λ q. if is_same_number q (Some x) then cause else None) source_is ∙ elim (eq_cases y x) [
        | inl hit ↦ absurd (apart (sym hit.1))
        | inr off ↦ rw off.0 refl
      ]

      stop_by : (v : Event) → ev ≡ v → (if is_same_number (source t k) (exchange_in v) then stop_cause t v else None) ≡ None
      stop_by (event.End x) here = other x (stop_cause t (event.End x)) (λ is. same.unended opened (here ∙ ap event.End is))
      stop_by (event.Fault x) here = other x (stop_cause t (event.Fault x)) (λ is. same.unfaulted opened (here ∙ ap event.Fault is))
      stop_by _ here = none_if _

      heard_at : (x : ℕ) (response : Response) → ev ≡ event.Head x response → (by_head t e c x response (t.exchange x) k).place ≡ place.Direct y
      heard_at x response here = sym (ap (λ v. (consumer_heard t e c v k).place) here) ∙
          (sym (heard_place step c 0 0 None by.Plan k u (λ d want polls. head_poll step a g x d want response (sym here ∙ polls))
          (record { row = f.row; stays = f.stays; leaves = f.leaves; is = f.is })) ∙ stands)

      head_row : (x : ℕ) (response : Response) (q : Option Exchange) → ev ≡ event.Head x response → t.exchange x ≡ q →
          (by_head t e c x response q k).place ≡ place.Direct y → (if is_for q c then cause_by_case (case_at t e) x else None) ≡ None
      head_row x response None here exchange_row at = refl
      head_row x response (Some q) here exchange_row at = elim (eq_cases q.c c) [
        | inr off ↦ rw off.0 refl
        | inl hit ↦ rw hit.0 ((left_past step a g c x response k q here exchange_row hit.1 f.row y (rw hit.0 at at)).3)
      ]

      head_by : (v : Event) → ev ≡ v → cause_of_head t e c v ≡ None
      head_by (event.Head x response) here = head_row x response (t.exchange x) here refl (heard_at x response here)
      head_by _ here = refl

      was_undue : u.due ≡ None
      was_undue = due_none t e c k (consumer_acted t e c (consumer_heard t e c ev k)) u f.is reading before.due
          (undue_of t e c k (record { stop = stop_by ev refl; loss = before.loss; head = head_by ev refl }))

    undue_by : (z : Exchange) → now_on.exchange y ≡ Some z → ExchangeFrom t e y z → z.is_open ≡ true → u.due ≡ None
    undue_by z after_row (exchange.was w row same) opened = was_undue w z row after_row same opened
    undue_by z after_row (exchange.new q none opens here made) opened = new_undue q opens none f.at

  given_row : (c y : ℕ) (u : Consumer) (z : Exchange) (q : Option Consumer) → t.consumer c ≡ q → now_on.consumer c ≡ Some u → u.place ≡ place.Direct y →
      now_on.exchange y ≡ Some z → u.given ≤ length z.body
  given_row c y u z None none after stands after_row =
      absurd (let from = direct_from t e c y (t.consumer c) u refl after stands in none_some from.0 (sym none ∙ from.1.row))
  given_row c y u z (Some k) row after stands after_row = given_by_shown c y k u z k.shown row refl after stands after_row

  pub past_kept : AreOwn now_on → ArePast now_on
  past_kept own = record {
    given = λ c y u z after stands after_row. given_row c y u z (t.consumer c) refl after stands after_row;
    undue = λ c y u z after stands after_row opened. let from = direct_from t e c y (t.consumer c) u refl after stands in
        undue_by c y from.0 u from.1 stands (own.direct c y u after stands) z after_row (exchange_from t e y (t.exchange y) z refl after_row) opened;
  }
