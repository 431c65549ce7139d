-- Who was shown a head reads, or is over, at each entry.
--
-- Who was shown a head before stays: the head of its exchange leaves it where it is (`head_same`), it doesn't start
-- over (`not_over`), and no wait for others is told (`reported_not`). So event and acts leave it where it reads
-- (`heard_reader`, `opens_reader`, `shows_reader`). Who is shown one now has just polled, and is put where it reads
-- (`landed`). `readers_kept` joins both.
use Rattle.std.{proofs.Common.{◌≡◌, inl, inr, ℕ, ◌++◌, Bool, true, false, Option, Some, None, refl, ap, sym, ◌∙◌, subst}, specs.Prelude.{if◌then◌else◌, is_none, is_some, ◌==◌, ◌&&◌, not}}
use Rattle.hc_text.proofs.Basics.{all_false, and_left, and_off, and_right, bool_cases, never_true as not_so, or_cases, same_some as same_row}
use Rattle.hc_effects.proofs.Vocabulary.{Opening, opening_in, leaves_in, shows_in, Event, Response, Wait, Why, HeadCase, head_case, route_of, Route, case_on, first_case, later_case, Place, has_loss, fails_in, misreads_in, leaver_in, Showing, showing_in, wait_in, loss_acts, case_at, case_of, head_view, was_shown, consumer_heard, by_head, by_fault, by_opening, shown_place, waiting, waiting_place, place_by_case, doomed_key_of, bypassed_by, is_key, Entry, exchange_at, is_for, is_headless, flaw_in, becomes_gone, goes_in, entry_of, Turns, Shows, acts_of, IsAwaiting, move_of, bound_to, reads, Tables, Exchange, Representation, Consumer, starts_over, sends_back, waits_at, loses_what_it_waits_for, after_accepted, event, wait, route, place, by}
use Rattle.hc_model.specs.Owners as owners
use Rattle.hc_laws.proofs.{TurnOpens.{goes_none, doom_none}, FallbackKeeps.{landing, new_unshown}, PlacesKept.{AreOwn, settled}, TurnFacts.{moves_on, misreads, IsTaken, AtPoll, seen, behind, far_behind, opens_behind, misreads_behind, at_poll, eq-refl}}
use Rattle.hc_effects.proofs.{ActParts.{leaver_lost}, Basics.{false_true}, Joining.{mix}, FirstKeeps.{is_new, case_is, is_opener}, OpenedAs.{opened_as}, PieceKeeps.{eq_cases}, Said.{WaitsAs, waiting_by}, ShownStays.{IsFallback, way_bound, shows_not, unless_same}, TurnPlaces.{is_after}, WaitedAs.{turn, busy, IsForOthers, waited_as}, Waiters.{IsWaiter, waiter_of}, Step.{Step}}

-- it reads there, or is over
abbrev pub IsReader : Place → Type 0
IsReader (place.Bound r lo hi how) = Unit {0}
IsReader (place.Direct x) = Unit {0}
IsReader place.Over = Unit {0}
IsReader _ = ⊥

pub record AreReaders (t : Tables) : Type 0 where
  pub shown : (c : ℕ) (k : Consumer) → t.consumer c ≡ Some k → k.shown ≡ true → IsReader k.place

reads_reader : (p : Place) → reads p ≡ true → IsReader p
reads_reader (place.Bound r lo hi how) h = tt
reads_reader (place.Direct x) h = tt
reads_reader place.Over h = tt
reads_reader _ h = false_true h

module _ (step : Step) (a : IsFallback step.tables) (g : AreOwn step.tables) (turns : Turns step.tables) (readers : AreReaders step.tables) where
  open step use {limits, tables as t, now, flaw, sound as s, event as ev, accepted as goes}

  abbrev e : Entry
  e = entry_of limits t now ev flaw

  abbrev now_on : Tables
  now_on = after_accepted t e

  -- WHO WAS SHOWN ONE

  module _ (c : ℕ) (k : Consumer) (row : t.consumer c ≡ Some k) (shown : k.shown ≡ true) where
    module _ (x : ℕ) (response : Response) (w : Exchange) (here : ev ≡ event.Head x response) (exchange_row : t.exchange x ≡ Some w) (mine : w.c ≡ c) where
      got : (q : Consumer) × IsWaiter t w.c x q w
      got = let new = is_new limits t now flaw s ev goes x response w here exchange_row in waiter_of step x w exchange_row new.is_open new.bare

      at : IsAwaiting x w k.place
      at = subst (λ (q : Consumer). IsAwaiting x w q.place) (same_row (t.consumer c) got.0 k (sym (ap t.consumer mine) ∙ got.1.row) row) got.1.at

      turn_not : route_of w.need ≡ route.Turn → IsAwaiting x w k.place → ⊥
      turn_not way (owners.direct it stands) = let no : route.Direct ≡ route.Turn = sym it ∙ way in cc
      turn_not way (owners.turn it stands) = a.unturned c x k row stands shown
      turn_not way (owners.hole r lo hi how it aim stands) = let no : route.Hole ≡ route.Turn = sym it ∙ way in cc

      direct_not : route_of w.need ≡ route.Direct → IsAwaiting x w k.place → ⊥
      direct_not way (owners.direct it stands) =
          let h = a.apart.headed c x k row stands shown in
          false_true (sym (ap (λ (q : Option Response). is_some q)
          (ap (λ (q : Exchange). q.head) (same_row (t.exchange x) h.w w h.row exchange_row) ∙ got.1.bare)) ∙ h.headed)
      direct_not way (owners.turn it stands) = let no : route.Turn ≡ route.Direct = sym it ∙ way in cc
      direct_not way (owners.hole r lo hi how it aim stands) = let no : route.Hole ≡ route.Direct = sym it ∙ way in cc

      abbrev view : Rattle.hc_rules.specs.declared.heads.HeadView.HeadView
      view = head_view t (has_loss e.acts) w response

      -- its head leaves it where it is, and doesn't send it back
      abbrev Leaves : HeadCase → Type 0
      Leaves q = (place_by_case x response w k (Some q) ≡ k.place) × (sends_back (Some q) ≡ false)

      by_way : (way : Route) → route_of w.need ≡ way → Leaves (case_on way view)
      by_way route.Direct is = absurd (direct_not is at)
      by_way route.Turn is = absurd (turn_not is at)
      by_way route.Hole is =
          let was : was_shown (t.consumer w.c) ≡ true = ap was_shown (ap t.consumer mine ∙ row) ∙ shown in
          subst (λ b. Leaves (if b then later_case view else first_case view)) (sym was)
          (mix Leaves view.bad _ _ (refl, refl) (mix Leaves view.joins _ _ (refl, refl) (refl, refl)))

      leaves : Leaves (head_case view)
      unfolding head_case
      leaves = by_way (route_of w.need) refl

      case_here : case_at t e ≡ Some (head_case view)
      case_here = case_is t e x response w here exchange_row

      pub head_same : place_by_case x response w k (case_at t e) ≡ k.place
      head_same = ap (place_by_case x response w k) case_here ∙ leaves.0

      unsent : sends_back (case_at t e) ≡ false
      unsent = ap sends_back case_here ∙ leaves.1

    reader : IsReader k.place
    reader = readers.shown c k row shown

    -- IT DOESN'T START OVER

    waits_not : (p : Place) → k.place ≡ p → IsReader p → waits_at t p ≡ false
    waits_not (place.Bound r lo hi (by.FirstHole y)) is on = let f = turns.first_hole c r lo y hi k row is shown in ap is_headless f.1 ∙ f.2
    waits_not (place.Bound r lo hi _) is on = refl
    waits_not (place.Direct x) is on = refl
    waits_not place.Over is on = refl
    waits_not _ is on = absurd on

    loses_not : (p : Place) → IsReader p → loses_what_it_waits_for t e c p ≡ false
    loses_not (place.Bound r lo hi how) on = refl
    loses_not (place.Direct x) on = refl
    loses_not place.Over on = refl
    loses_not _ on = absurd on

    sent_by : (v : Event) → ev ≡ v → sends_back (case_of t (has_loss e.acts) v) ≡ true → is_for (exchange_at t v) c ≡ true → sends_back (case_at t e) ≡ true → ⊥
    unfolding case_of
    sent_by (event.Head x response) here sends it also = by_row (t.exchange x) refl it
      where
        by_row : (z : Option Exchange) → t.exchange x ≡ z → is_for z c ≡ true → ⊥
        by_row None exchange_row h = false_true h
        by_row (Some q) exchange_row h = elim (eq_cases q.c c) [
          | inl hit ↦ false_true (sym (unsent x response q here exchange_row hit.1) ∙ also)
          | inr off ↦ false_true (sym off.0 ∙ h)
        ]
    sent_by _ here sends it also = false_true sends

    not_over : starts_over t e c k ≡ false
    unfolding starts_over
    not_over = all_false _ _ _
        (and_off (is_key (doomed_key_of t e) k.request.key) (waits_at t k.place) (waits_not k.place refl reader))
        (not_so _ (λ h. sent_by ev refl (and_left _ _ h) (and_right _ _ h) (and_left _ _ h)))
        (loses_not k.place reader)

    -- WHERE IT STANDS

    head_reader : (x : ℕ) (response : Response) (z : Option Exchange) → ev ≡ event.Head x response → t.exchange x ≡ z →
        IsReader (by_head t e c x response z k).place
    head_reader x response None here exchange_row = reader
    head_reader x response (Some w) here exchange_row = elim (eq_cases w.c c) [
      | inr off ↦ rw off.0 reader
      | inl mine ↦ rw mine.0 (subst IsReader (sym (head_same x response w here exchange_row mine.1)) reader)
    ]

    fault_reader : (x : ℕ) (z : Option Exchange) → IsReader (by_fault c x z k).place
    fault_reader x None = reader
    fault_reader x (Some w) = elim (bool_cases (w.c == c && is_none w.head && not k.shown)) [
      | inl hit ↦ absurd (false_true (sym (ap not shown) ∙ and_right _ _ hit))
      | inr off ↦ rw off reader
    ]

    heard_reader : (v : Event) → ev ≡ v → IsReader (consumer_heard t e c v k).place
    heard_reader (event.Head x response) here = head_reader x response (t.exchange x) here refl
    heard_reader (event.Fault x) here = fault_reader x (t.exchange x)
    heard_reader (event.Cancel d) here = elim (bool_cases (d == c)) [
      | inl hit ↦ rw hit tt
      | inr off ↦ rw off reader
    ]
    heard_reader _ here = reader

    reported_not : (q : Wait) → IsForOthers q → wait_in c e.acts ≡ Some q → ⊥
    reported_not q others reported =
        let by_poll = waiting_by limits t now flaw s ev goes c q reported in
        let one : by_poll.k ≡ k = same_row (t.consumer c) by_poll.k k by_poll.poll.row row in
        false_true (sym (waited_as t now c k q others by_poll.want s row
        (subst (λ (p : Consumer). WaitsAs q (move_of t now by_poll.want c p)) one by_poll.move)).unshown ∙ shown)

    waits_reader : (h : Consumer) (q : Option Wait) → wait_in c e.acts ≡ q → IsReader h.place → IsReader (waiting_place t h q)
    waits_reader h (Some (wait.Turn d)) reported on = absurd (reported_not (wait.Turn d) (turn d) reported)
    waits_reader h (Some (wait.Busy d)) reported on = absurd (reported_not (wait.Busy d) (busy d) reported)
    waits_reader h _ reported on = on

    abbrev stood : Consumer
    stood = waiting t e c (consumer_heard t e c ev k)

    opens_reader : (z : Option Opening) → opening_in e.acts ≡ z → IsReader stood.place → IsReader (by_opening t c z stood).place
    opens_reader None is on = on
    opens_reader (Some p) is on = elim (eq_cases p.c c) [
      | inr off ↦ rw off.0 on
      | inl mine ↦
          let op = is_opener limits t now flaw s ev goes c k p row is mine.1 in
          let way = opened_as t now c k op.want p s row op.opening in
          let b = way_bound step a c k row shown p way.way way.unshown in
          rw mine.0 (subst IsReader (sym (unless_same (bound_to stood.place) b.0 stood.place _ (ap bound_to op.place_is ∙ b.1))) on)
    ]

    shows_reader : (p : Place) (z : Option Showing) → showing_in e.acts ≡ z → IsReader p → IsReader (shown_place c z p)
    shows_reader p None is on = on
    shows_reader p (Some z) is on = elim (eq_cases z.c c) [
      | inr off ↦ rw off.0 on
      | inl mine ↦ absurd (shows_not step a c k row shown z is mine.1)
    ]

    left_reader : (leaves : Bool) (p : Place) → IsReader p → IsReader (if leaves then place.Over else p)
    left_reader true p on = tt
    left_reader false p on = on

    shown_reader : (u : Consumer) → now_on.consumer c ≡ Some u → IsReader u.place
    shown_reader u after =
        subst (λ (q : Consumer). IsReader q.place) (settled step a g c k u row after not_over)
        (left_reader (leaves_in c e.acts) _
        (shows_reader _ (showing_in e.acts) refl
        (opens_reader (opening_in e.acts) refl (waits_reader (consumer_heard t e c ev k) (wait_in c e.acts) refl (heard_reader ev refl)))))

  -- WHO IS SHOWN ONE

  module _ (taken : IsTaken limits t e) (c : ℕ) (k : Consumer) (row : t.consumer c ≡ Some k) where
    module _ (want r lo : ℕ) (hi : Option ℕ) (why : Why) (head : Response) (at : ev ≡ event.Poll c want)
        (all : e.acts ≡ acts_of c (Shows r why head lo hi) ++ behind limits t e taken)
        (saw : (seen limits t e taken).acts ≡ acts_of c (Shows r why head lo hi) ++ loss_acts (flaw_in e.acts)) where
      nobody : leaver_in (seen limits t e taken).acts ≡ None
      nobody = ap leaver_in saw ∙ leaver_lost (flaw_in e.acts)

      stays_there : (q : ℕ) (v : Representation) → becomes_gone t e q v ≡ false
      stays_there q v = goes_none limits t e taken c want at nobody q v (ap bypassed_by (ap opening_in all ∙ opens_behind limits t e taken))
          (ap (misreads_in q) all ∙ misreads_behind limits t e taken q)

      goes_not : (q : ℕ) (z : Option Representation) → goes_in t e q z ≡ false
      goes_not q None = refl
      goes_not q (Some v) = stays_there q v

      loses_none : (p : Place) → loses_what_it_waits_for t e c p ≡ false
      loses_none (place.Passed q kept) = ap (λ b. b && not (fails_in c e.acts)) (goes_not q (t.representation q))
      loses_none _ = refl

      sends_none : sends_back (case_at t e) ≡ false
      unfolding case_of
      sends_none = ap (λ v. sends_back (case_of t (has_loss e.acts) v)) at

      stays : starts_over t e c k ≡ false
      unfolding starts_over
      stays = all_false _ _ _
          (ap (λ z. is_key z k.request.key && waits_at t k.place) (doom_none limits t e taken c want at nobody))
          (ap (λ b. b && is_for (exchange_at t ev) c) sends_none)
          (loses_none k.place)

      showing : showing_in e.acts ≡ Some (record { c = c; r = r; lo = lo; hi = hi })
      showing = ap showing_in all

      shown_by : (p : Place) → IsReader (shown_place c (Some (record { c = c; r = r; lo = lo; hi = hi })) p)
      shown_by p = elim (bool_cases (reads p)) [
        | inl old ↦ rw (eq-refl c, old) (reads_reader p old)
        | inr free ↦ rw (eq-refl c, free) tt
      ]

      lands : (u : Consumer) → now_on.consumer c ≡ Some u → IsReader u.place
      lands u after =
          subst (λ (q : Consumer). IsReader q.place) (settled step a g c k u row after stays)
          (left_or (leaves_in c e.acts) _
          (subst (λ z. IsReader (shown_place c z (by_opening t c (opening_in e.acts) (waiting t e c (consumer_heard t e c ev k))).place)) (sym showing)
          (shown_by _)))
        where
          left_or : (leaves : Bool) (p : Place) → IsReader p → IsReader (if leaves then place.Over else p)
          left_or true p on = tt
          left_or false p on = on

    landed : (u : Consumer) → now_on.consumer c ≡ Some u → k.shown ≡ false → u.shown ≡ true → IsReader u.place
    landed u after off on =
        let l = landing step c k u row after off on in
        by_poll l.want l.r l.lo l.hi l.why l.head l.at l.move_is (at_poll limits t e taken c l.want k s turns row l.at)
      where
        shows : shows_in c e.acts ≡ true
        shows = elim (or_cases (shows_in c e.acts) k.shown (sym (is_after t e c k u row after).shown ∙ on)) [
          | inl here ↦ here
          | inr before ↦ absurd (false_true (sym off ∙ before))
        ]

        by_poll : (want r lo : ℕ) (hi : Option ℕ) (why : Why) (head : Response) → ev ≡ event.Poll c want →
            move_of t now want c k ≡ Shows r why head lo hi → AtPoll limits t e taken c k → IsReader u.place
        by_poll want r lo hi why head at move_is (moves_on n m here m_is does all saw) =
            let is : m ≡ Shows r why head lo hi = m_is ∙ (sym (ap (λ z. move_of t now z c k) cc) ∙ move_is) in
            lands want r lo hi why head at (all ∙ ap (λ z. acts_of c z ++ behind limits t e taken) is)
            (saw ∙ ap (λ z. acts_of c z ++ loss_acts (flaw_in e.acts)) is) u after
        by_poll want r lo hi why head at move_is (misreads n q here all saw) =
            absurd (false_true (sym (ap (shows_in c) all ∙ (far_behind limits t e taken c).shows) ∙ shows))

  module _ (taken : IsTaken limits t e) where
    by_shown : (c : ℕ) (k u : Consumer) (b : Bool) → t.consumer c ≡ Some k → k.shown ≡ b → now_on.consumer c ≡ Some u → u.shown ≡ true → IsReader u.place
    by_shown c k u true row shown after on = shown_reader c k row shown u after
    by_shown c k u false row off after on = landed taken c k row u after off on

    by_row : (c : ℕ) (u : Consumer) (q : Option Consumer) → t.consumer c ≡ q → now_on.consumer c ≡ Some u → u.shown ≡ true → IsReader u.place
    by_row c u None none after on = absurd (false_true (sym (new_unshown t e c (t.consumer c) u none after) ∙ on))
    by_row c u (Some k) row after on = by_shown c k u k.shown row refl after on

    pub readers_kept : AreReaders now_on
    readers_kept = record { shown = λ c u after on. by_row c u (t.consumer c) refl after on }
