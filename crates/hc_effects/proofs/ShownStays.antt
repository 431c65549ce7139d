-- Whoever was shown a head stays where it stands or is idle; and where who is shown one comes to stand.
--
-- Who was shown one is followed through an entry. A head of its exchange leaves it or makes it idle (`by_case`): those
-- cases that would move a reader are of the turn, or of who wasn't shown one. A wait and an opening leave it too
-- (`waits_stays`, `opens_stays`), and no other head is shown to it (`shows_not`). Hence `shown_stays`. Who is shown one
-- by its poll gets no other act (`acted_lands`, `shown_at`).
use Rattle.std.{proofs.{Common.{◌≡◌, inl, inr, ℕ, Bool, true, false, cond, Option, Some, None, refl, ap, sym, ◌∙◌, subst, arith}, lemmas.Bool.Decides.{nat_tests}}, specs.Prelude.{if◌then◌else◌, ◌==◌}}
use Rattle.hc_text.proofs.Basics.{bool_cases, same_some as same_row}
use Rattle.hc_effects.proofs.Vocabulary.{Opening, opening_in, leaves_in, Event, Response, Wait, Why, HeadCase, head_case, route_of, Place, Showing, showing_in, wait_in, has_loss, case_at, head_view, was_shown, consumer_heard, consumer_acted, by_head, by_fault, by_opening, place_by_case, passed_on, passed_by, kept_by, waiting, waiting_place, unless_bound, shown_place, due_after, back_in_line, current, Entry, entry_of, Move, Shows, IsAwaiting, move_of, bound_to, reads, Tables, Exchange, Consumer, starts_over, after_accepted, event, wait, route, by, place}
use Rattle.hc_effects.proofs.{Basics.{false_true}, FirstKeeps.{is_new, case_is, is_opener}, Forward.{is_kept}, FoundBy.{CaseBy, case_by}, OpenedAs.{Way, opened_as}, PastApart.{IsApart}, PieceKeeps.{eq_cases}, Said.{IsShowing, IsOpening, WaitsAs, opening_by, showing_by, waiting_by}, ShownOnce.{is_showing, shown_shows}, Waiters.{IsWaiter, waiter_of}, Step.{Step}}
use Rattle.hc_effects.proofs.FoundBy as cases
use Rattle.hc_effects.proofs.Said as said

-- it reads nothing there and doesn't have the turn
abbrev pub IsIdle : Place → Type 0
IsIdle place.Line = Unit {0}
IsIdle (place.Passed r kept) = Unit {0}
IsIdle (place.Down why) = Unit {0}
IsIdle place.Over = Unit {0}
IsIdle _ = ⊥

pub data StaysOrIdle (p q : Place) : Type 0 where
  same : q ≡ p → StaysOrIdle p q
  idle : IsIdle q → StaysOrIdle p q

-- from where to where its head takes whom that is shown
pub data Lands (p q : Place) (r lo : ℕ) (hi : Option ℕ) : Type 0 where
  back : IsIdle q → Lands p q r lo hi
  stays : reads p ≡ true → q ≡ p → Lands p q r lo hi
  planned : reads p ≡ false → q ≡ place.Bound r lo hi by.Plan → Lands p q r lo hi

-- what is carried besides: an answer past the store stands apart, who was shown a head hasn't the turn, and what ended isn't open
pub record IsFallback (t : Tables) : Type 0 where
  pub apart : IsApart t
  pub unturned : (c x : ℕ) (k : Consumer) → t.consumer c ≡ Some k → k.place ≡ place.Turn x → k.shown ≡ true → ⊥
  pub ended : (x : ℕ) (w : Exchange) → t.exchange x ≡ Some w → w.is_ended ≡ true → w.is_open ≡ false

passed_on_idle : (x : ℕ) (o : Option ℕ) → IsIdle (passed_on x o)
passed_on_idle x o = grind (arith, nat_tests)

passed_by_idle : (kept o : Option ℕ) → IsIdle (passed_by kept o)
passed_by_idle kept o = grind (arith, nat_tests)

pub unless_same : (b : Option ℕ) (r : ℕ) (old new : Place) → b ≡ Some r → unless_bound b old new ≡ old
unless_same b r old new is = grind (arith, nat_tests)

module _ (step : Step) where
  open step use {limits, tables as t, now, flaw, sound as s, event as ev, accepted as goes}

  abbrev e : Entry
  e = entry_of limits t now ev flaw

  abbrev now_on : Tables
  now_on = after_accepted t e

  -- WHO WAS SHOWN A HEAD

  module _ (a : IsFallback t) (c : ℕ) (k : Consumer) (row : t.consumer c ≡ Some k) (shown : k.shown ≡ true) where
    abbrev Stays : Place → Type 0
    Stays q = StaysOrIdle k.place q

    module _ (x : ℕ) (response : Response) (w : Exchange) (here : ev ≡ event.Head x response) (exchange_row : t.exchange x ≡ Some w) (mine : w.c ≡ c) where
      got : (q : Consumer) × IsWaiter t w.c x q w
      got = let new = is_new limits t now flaw s ev goes x response w here exchange_row in waiter_of step x w exchange_row new.is_open new.bare

      at : IsAwaiting x w k.place
      at = subst (λ (q : Consumer). IsAwaiting x w q.place) (same_row (t.consumer c) got.0 k (sym (ap t.consumer mine) ∙ got.1.row) row) got.1.at

      turn_not : route_of w.need ≡ route.Turn → IsAwaiting x w k.place → ⊥
      turn_not way it1 = grind (arith, nat_tests)

      unshown_not : was_shown (t.consumer w.c) ≡ false → ⊥
      unshown_not off = false_true (sym off ∙ (ap was_shown (ap t.consumer mine ∙ row) ∙ shown))

      by_case : (g : HeadCase) → CaseBy (head_view t (has_loss e.acts) w response) g → Stays (place_by_case x response w k (Some g))
      by_case _ (cases.direct_bad way h) = idle tt
      by_case _ (cases.turn_bad way h) = idle tt
      by_case _ (cases.validated way h d l) = idle (passed_on_idle x w.aim)
      by_case _ (cases.turn_server_error way) = absurd (turn_not way at)
      by_case _ (cases.founds_whole way h l g) = absurd (turn_not way at)
      by_case _ (cases.founds_range way h f l g) = absurd (turn_not way at)
      by_case _ (cases.passes_by way) = absurd (turn_not way at)
      by_case _ (cases.first_bad way off h) = idle tt
      by_case _ (cases.first_server_error way off) = absurd (unshown_not off)
      by_case _ (cases.first_replaced way off h l g) = absurd (unshown_not off)
      by_case _ (cases.first_passes_by way off) = absurd (unshown_not off)
      by_case _ _ = same refl

      headed_stays : Stays (place_by_case x response w k (case_at t e))
      headed_stays = rw (case_is t e x response w here exchange_row)
          (by_case (head_case (head_view t (has_loss e.acts) w response)) (case_by (head_view t (has_loss e.acts) w response)))

    head_stays : (x : ℕ) (response : Response) (z : Option Exchange) → ev ≡ event.Head x response → t.exchange x ≡ z →
        Stays (by_head t e c x response z k).place
    head_stays x response None here exchange_row = same refl
    head_stays x response (Some w) here exchange_row = elim (eq_cases w.c c) [
      | inr off ↦ rw off.0 (same refl)
      | inl mine ↦ rw mine.0 (headed_stays x response w here exchange_row mine.1)
    ]

    fault_stays : (x : ℕ) (z : Option Exchange) → Stays (by_fault c x z k).place
    fault_stays x z = grind (arith, nat_tests)

    heard_stays : (v : Event) → ev ≡ v → Stays (consumer_heard t e c v k).place
    heard_stays (event.Head x response) here = head_stays x response (t.exchange x) here refl
    heard_stays (event.Fault x) here = fault_stays x (t.exchange x)
    heard_stays (event.Cancel d) here = elim (bool_cases (d == c)) [
      | inl hit ↦ rw hit (idle tt)
      | inr off ↦ rw off (same refl)
    ]
    heard_stays _ here = same refl

    waits_stays : (q : Consumer) (z : Option Wait) → Stays q.place → Stays (waiting_place t q z)
    waits_stays q None st = st
    waits_stays q (Some (wait.Turn d)) st = idle tt
    waits_stays q (Some (wait.Busy d)) st = idle (passed_by_idle (kept_by q.place) (current t q.request.key))
    waits_stays q (Some (wait.Head x)) st = st
    waits_stays q (Some (wait.Body x)) st = st

    abbrev waited : Consumer
    waited = waiting t e c (consumer_heard t e c ev k)

    pub way_bound : (p : Opening) → Way t now c k p.need → (bound_to k.place ≡ None → k.shown ≡ false) → (r : ℕ) × (bound_to k.place ≡ Some r)
    way_bound p it1 off = grind (arith, nat_tests)

    opens_stays : (z : Option Opening) → opening_in e.acts ≡ z → Stays waited.place → Stays (by_opening t c z waited).place
    opens_stays None is st = st
    opens_stays (Some p) is st = elim (eq_cases p.c c) [
      | inr off ↦ rw off.0 st
      | inl mine ↦
          let op = is_opener limits t now flaw s ev goes c k p row is mine.1 in
          let way = opened_as t now c k op.want p s row op.opening in
          let b = way_bound p way.way way.unshown in
          rw mine.0 (same (unless_same (bound_to waited.place) b.0 waited.place _ (ap bound_to op.place_is ∙ b.1) ∙ op.place_is))
    ]

    pub shows_not : (z : Showing) → showing_in e.acts ≡ Some z → z.c ≡ c → ⊥
    shows_not z is mine =
        let by_poll = showing_by limits t now flaw s ev goes z is in
        let one : by_poll.k ≡ k = same_row (t.consumer c) by_poll.k k (sym (ap t.consumer mine) ∙ by_poll.poll.row) row in
        let its : by_poll.k.shown ≡ true = ap (λ (q : Consumer). q.shown) one ∙ shown in
        let none : is_showing (move_of t now by_poll.want z.c by_poll.k) ≡ false = shown_shows t now by_poll.want z.c by_poll.k its in
        of_move (move_of t now by_poll.want z.c by_poll.k) by_poll.move none
      where
        of_move : (m : Move) → IsShowing z m → is_showing m ≡ false → ⊥
        of_move _ (said.shows why head) off = let never : true ≡ false = off in cc

    shows_stays : (p : Place) (z : Option Showing) → showing_in e.acts ≡ z → Stays p → Stays (shown_place c z p)
    shows_stays p None is st = st
    shows_stays p (Some z) is st = elim (eq_cases z.c c) [
      | inr off ↦ rw off.0 st
      | inl mine ↦ absurd (shows_not z is mine.1)
    ]

    left_stays : (leaves : Bool) (p : Place) → Stays p → Stays (if leaves then place.Over else p)
    left_stays true p st = idle tt
    left_stays false p st = st

    acted_stays : Stays (consumer_acted t e c (consumer_heard t e c ev k)).place
    acted_stays = left_stays (leaves_in c e.acts) _
        (shows_stays _ (showing_in e.acts) refl
        (opens_stays (opening_in e.acts) refl (waits_stays (consumer_heard t e c ev k) (wait_in c e.acts) (heard_stays ev refl))))

    settled_stays : (over : Bool) (q : Consumer) → Stays q.place → Stays (cond over (back_in_line e.now q) (due_after t e c k q)).place
    settled_stays true q st = idle tt
    settled_stays false q st = st

    pub shown_stays : (u : Consumer) → now_on.consumer c ≡ Some u → StaysOrIdle k.place u.place
    shown_stays u after =
        let on_row = is_kept t e c k row in
        let one : on_row.u ≡ u = same_row (now_on.consumer c) on_row.u u on_row.row after in
        subst (λ (q : Consumer). Stays q.place) (on_row.is ∙ one)
        (settled_stays (starts_over t e c k) (consumer_acted t e c (consumer_heard t e c ev k)) acted_stays)

  -- WHO IS SHOWN ONE

  module _ (c want : ℕ) (k : Consumer) (row : t.consumer c ≡ Some k) (at : ev ≡ event.Poll c want) (r : ℕ) (why : Why) (head : Response) (lo : ℕ)
      (hi : Option ℕ) (move_is : move_of t now want c k ≡ Shows r why head lo hi)
      (reported : showing_in e.acts ≡ Some (record { c = c; r = r; lo = lo; hi = hi })) where
    one_move : (d n : ℕ) (q : Consumer) → ev ≡ event.Poll d n → t.consumer d ≡ Some q → (c ≡ d) × (move_of t now n d q ≡ Shows r why head lo hi)
    one_move d n q is there = grind (arith, nat_tests)

    waits_not : (z : Wait) (m : Move) → WaitsAs z m → m ≡ Shows r why head lo hi → ⊥
    waits_not z _ (said.waits) is = cc
    waits_not z _ _ is = cc

    waits_none : (z : Option Wait) → wait_in c e.acts ≡ z → z ≡ None
    waits_none None is = refl
    waits_none (Some z) is =
        absurd (let w = waiting_by limits t now flaw s ev goes c z is in waits_not z _ w.move (one_move c w.want w.k w.poll.at w.poll.row).1)

    opens_not : (p : Opening) (m : Move) → IsOpening p m → m ≡ Shows r why head lo hi → ⊥
    opens_not p _ said.opens is = cc

    opens_none : (z : Option Opening) → opening_in e.acts ≡ z → z ≡ None
    opens_none None is = refl
    opens_none (Some p) is =
        absurd (let w = opening_by limits t now flaw s ev goes p is in opens_not p _ w.move (one_move p.c w.want w.k w.poll.at w.poll.row).1)

    abbrev lands : Place → Type 0
    lands q = Lands k.place q r lo hi

    shown_lands : (p : Place) → p ≡ k.place → lands (shown_place c (Some (record { c = c; r = r; lo = lo; hi = hi })) p)
    shown_lands p is = grind (arith, nat_tests)

    left_lands : (leaves : Bool) (p : Place) → lands p → lands (if leaves then place.Over else p)
    left_lands true p st = back tt
    left_lands false p st = st

    acted_lands : lands (consumer_acted t e c (consumer_heard t e c ev k)).place
    acted_lands =
        let heard : consumer_heard t e c ev k ≡ k = ap (λ v. consumer_heard t e c v k) at in
        let no_wait : wait_in c e.acts ≡ None = waits_none (wait_in c e.acts) refl in
        let no_opening : opening_in e.acts ≡ None = opens_none (opening_in e.acts) refl in
        let waits : waiting_place t (consumer_heard t e c ev k) (wait_in c e.acts) ≡ k.place = ap (waiting_place t (consumer_heard t e c ev k)) no_wait ∙
        ap (λ (q : Consumer). q.place) heard in
        let opened_as : (by_opening t c (opening_in e.acts) (waiting t e c (consumer_heard t e c ev k))).place ≡ k.place =
        ap (λ z. (by_opening t c z (waiting t e c (consumer_heard t e c ev k))).place) no_opening ∙ waits in
        left_lands (leaves_in c e.acts) _ (rw reported (shown_lands _ opened_as))

    settled_lands : (over : Bool) (q : Consumer) → lands q.place → lands (cond over (back_in_line e.now q) (due_after t e c k q)).place
    settled_lands true q st = back tt
    settled_lands false q st = st

    pub shown_at : (u : Consumer) → now_on.consumer c ≡ Some u → Lands k.place u.place r lo hi
    shown_at u after =
        let on_row = is_kept t e c k row in
        let one : on_row.u ≡ u = same_row (now_on.consumer c) on_row.u u on_row.row after in
        subst (λ (q : Consumer). lands q.place) (on_row.is ∙ one)
        (settled_lands (starts_over t e c k) (consumer_acted t e c (consumer_heard t e c ev k)) acted_lands)
