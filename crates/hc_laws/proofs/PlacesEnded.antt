-- Of an answer past the store that is over without a failure all came, at each entry.
--
-- Its consumer stood there before, or came there by its head (`IsFrom`). The cache doesn't close the exchange itself,
-- since this consumer reads it (`past_unclosed`, `unclosed`). So an event ended it, and each is looked at (`all_come`):
-- a head or a piece with which all came that was promised, or a clean end. A fault or a short end would be a failure
-- that is due. The acts change nothing of that (`acted_come`).
use Rattle.std.{proofs.{Common.{◌≡◌, inl, inr, ℕ, ◌+◌, ◌≤◌, List, ◌++◌, length, Bool, true, false, Option, Some, None, refl, ap, sym, ◌∙◌, subst, arith}, lemmas.Bool.Decides.{nat_tests}}, specs.{Prelude.{if◌then◌else◌, ◌==◌, ◌&&◌, not, nat_eq, nat_lt, unwrap_or}, Option.{option_or}}}
use Rattle.hc_text.proofs.Basics.{and_left, and_right, bool_cases, not_some as none_some, never_true as not_so, or_cases, same_some as same_row, some_inj}
use Rattle.hc_effects.proofs.Vocabulary.{closes_in, Act, Event, Response, case_at, must_close, is_refused, brings_head, is_doomed, awaits, has_no_survivor, is_left, leaver, consumer_heard, consumer_acted, by_head, is_number, denial, Entry, exchange_in, base, front, promised_bytes, family, is_reached, exchange_heard, exchange_acted, with_head, with_piece, promise_in, stop_cause, short_of, short_cause, entry_of, Measures, end_of_direct, own_open, source, shared_exchange, reads, Tables, Exchange, Consumer, awaited_exchange, after_accepted, event, place, by}
use Rattle.hc_effects.proofs.{Basics.{false_true}, Bounded.{IsBounded}, Closed.{before}, Dues.{due_before, undue_parts}, ExchangeFrom.{ExchangeFrom, exchange_from}, FirstKeeps.{is_new}, Forward.{after_is}, MeasuresKeep.{piece_taken, ender}, Once.{never}, OwnersKeep.{new_number}, PastKeeps.{IsFrom, PlaceFrom, direct_from}, PieceKeeps.{eq_cases}, ShownStays.{IsFallback}, ToBeShown.{heard_place}, Unclosed.{had_to}, Waiters.{IsWaiter, waiter_as, case_same, unclosed_unless, unleft, fault_open_of}, Step.{Step}}
use Rattle.hc_effects.proofs.ExchangeFrom as exchange
use Rattle.hc_effects.proofs.PastKeeps as past
use Rattle.hc_laws.proofs.{PlacesKept.{AreOwn, left_past, head_poll, over_direct}, ReadEnds.{no_base}}

-- all of it came, and where it ends is known
abbrev pub IsAllCome : Exchange → Type 0
IsAllCome w = end_of_direct (promised_bytes w) w ≡ Some (front w)

pub record AreEnded (t : Tables) : Type 0 where
  pub past : (c x : ℕ) (k : Consumer) (w : Exchange) → t.consumer c ≡ Some k → k.place ≡ place.Direct x → t.exchange x ≡ Some w → w.is_open ≡ false →
      k.due ≡ None → IsAllCome w

-- as many bytes as were promised
reported_come : (w : Exchange) (n : ℕ) → promised_bytes w ≡ Some n → n ≡ length w.body → IsAllCome w
reported_come w n promise count = ap (λ q. end_of_direct q w) promise ∙ ap (λ m. Some (base w + m)) count

reached_come : (w : Exchange) → is_reached (promised_bytes w) (length w.body) ≡ true → IsAllCome w
reached_come w reached = by_promise (promised_bytes w) refl
  where
    by_promise : (q : Option ℕ) → promised_bytes w ≡ q → IsAllCome w
    by_promise None is = absurd (false_true (sym (ap (λ q. is_reached q (length w.body)) is) ∙ reached))
    by_promise (Some n) is = reported_come w n is (grind (arith, nat_tests))

-- or up to a clean end, where none were
ended_come : (w : Exchange) → w.is_ended ≡ true → ((n : ℕ) → promised_bytes w ≡ Some n → n ≡ length w.body) → IsAllCome w
ended_come w ended enough = by_promise (promised_bytes w) refl
  where
    by_promise : (q : Option ℕ) → promised_bytes w ≡ q → IsAllCome w
    by_promise (Some n) is = reported_come w n is (enough n is)
    by_promise None is =
        let first : base w ≡ 0 = no_base _ is in
        ap (λ q. end_of_direct q w) is ∙ (ap (λ b. if b then Some (length w.body) else None) ended ∙ ap Some (omega arith))

-- what the acts say of it changes nothing of that
acted_come : (x : ℕ) (acts : List Act) (w : Exchange) → IsAllCome w → IsAllCome (exchange_acted x acts w)
acted_come x acts w came = by_promise (promised_bytes w) came
  where
    by_promise : (q : Option ℕ) → end_of_direct q w ≡ Some (front w) → end_of_direct q (exchange_acted x acts w) ≡ Some (front w)
    by_promise None h = h
    by_promise (Some n) h = h

module _ (step : Step) (m : Measures step.tables) (a : IsFallback step.tables) (bounds : IsBounded step.tables) (g : AreOwn step.tables)
    (ended : AreEnded step.tables) where
  open step use {limits, tables as t, now, flaw, sound as s, event as ev, accepted as goes}

  abbrev e : Entry
  e = entry_of limits t now ev flaw

  -- as it is before it closes any
  abbrev b : Entry
  b = before limits t now flaw s ev

  abbrev now_on : Tables
  now_on = after_accepted t e

  module _ (c y : ℕ) (k u : Consumer) (f : IsFrom t e c y k u) (stands : u.place ≡ place.Direct y) (w : Exchange) (row : t.exchange y ≡ Some w)
      (mine : w.c ≡ c) where
    own_test : (w.c == c) ≡ true
    own_test = elim (eq_cases w.c c) [
      | inl hit ↦ hit.0
      | inr off ↦ absurd (off.1 mine)
    ]

    heard_at : (v : Event) → ((d want : ℕ) → ev ≡ event.Poll d want → ⊥) → ev ≡ v → (consumer_heard t e c v k).place ≡ place.Direct y
    heard_at v unpolled here = sym (ap (λ z. (consumer_heard t e c z k).place) here) ∙
        (sym (heard_place step c 0 0 None by.Plan k u unpolled (record { row = f.row; stays = f.stays; leaves = f.leaves; is = f.is })) ∙ stands)

    -- IT ISN'T CLOSED

    cancelled : ev ≡ event.Cancel c → ⊥
    cancelled here = elim (eq_cases c c) [
      | inl hit ↦ over_direct y
          (rw hit.0 at (heard_at (event.Cancel c) (λ d want polls. let no : event.Cancel c ≡ event.Poll d want = sym here ∙ polls in cc) here))
      | inr off ↦ off.1 refl
    ]

    head_left : (response : Response) → ev ≡ event.Head y response → is_refused (case_at t e) ≡ false
    head_left response here =
        let at : (by_head t e c y response (t.exchange y) k).place ≡ place.Direct y =
        heard_at (event.Head y response) (λ d want polls. head_poll step a g y d want response (sym here ∙ polls)) here in
        let there : (by_head t e c y response (Some w) k).place ≡ place.Direct y = ap (λ z. (by_head t e c y response z k).place) (sym row) ∙ at in
        (left_past step a g c y response k w here row mine f.row y (rw own_test at there)).4

    unrefused : (is_refused (case_at t b) && brings_head y ev) ≡ true → ⊥
    unrefused h = by_event ev refl (and_right _ _ h)
      where
        by_event : (v : Event) → ev ≡ v → brings_head y v ≡ true → ⊥
        by_event (event.Head x response) here test =
            let same : x ≡ y = grind (arith, nat_tests) in
            false_true (sym (head_left response (here ∙ ap (λ n. event.Head n response) same)) ∙
            (ap is_refused (case_same step) ∙ and_left _ (brings_head y ev) h))
        by_event _ here test = false_true test

    module _ (at : k.place ≡ place.Direct y) where
      own : k.own ≡ Some y
      own = (g.direct c y k f.row at).its.own

      family_is : family y w ≡ y
      family_is = let all = g.direct c y k f.row at in
          ap (λ (q : Option ℕ). unwrap_or q y) (ap (λ (q : Exchange). q.joined) (same_row (t.exchange y) w all.its.w row all.its.row) ∙ all.unjoined)

      awaits_not : awaits (t.consumer w.c) y ≡ false
      awaits_not = ap (λ z. awaits z y) (ap t.consumer mine ∙ f.row) ∙ ap (λ p. is_number (awaited_exchange p) y) at

      past_unclosed : must_close t b y w ≡ true → ⊥
      past_unclosed must = elim (or_cases _ (is_left t y (leaver b)) must) [
        | inr left ↦ unleft step c y k f.row own cancelled f.leaves left
        | inl more ↦ elim (or_cases _ (has_no_survivor t b y (family y w) (t.representation (family y w))) more) [
          | inr lost ↦ false_true (sym (ap (has_no_survivor t b y (family y w)) (ap t.representation family_is ∙ a.apart.unfounded c y k f.row at)) ∙ lost)
          | inl less ↦ elim (or_cases (is_refused (case_at t b) && brings_head y ev) (is_doomed t b y w) less) [
            | inl refused ↦ unrefused refused
            | inr doomed ↦ false_true (sym awaits_not ∙ and_right _ (awaits (t.consumer w.c) y) doomed)
          ]
        ]
      ]

    -- who waits for its head
    waits : (response : Response) → ev ≡ event.Head y response → IsWaiter t c y k w
    waits response here = let new = is_new limits t now flaw s ev goes y response w here row in waiter_as step c y k w f.row row mine new.is_open new.bare

    unclosed : closes_in y e.acts ≡ false
    unclosed = by_from f.at
      where
        by_from : PlaceFrom t e c y k.place → closes_in y e.acts ≡ false
        by_from (past.stood at) = not_so (closes_in y e.acts) (λ closed. past_unclosed at (had_to limits t now flaw s ev y w row closed))
        by_from (past.heads response here) = unclosed_unless step c y k w (waits response here) unrefused cancelled f.leaves f.stays
        by_from (past.opens q is own number) = absurd (none_some w (sym (new_number step q y is number) ∙ row))

    -- ALL OF IT CAME

    stood_at : ((response : Response) → ev ≡ event.Head y response → ⊥) → k.place ≡ place.Direct y
    stood_at unheaded = by_from f.at
      where
        by_from : PlaceFrom t e c y k.place → k.place ≡ place.Direct y
        by_from (past.stood at) = at
        by_from (past.heads response here) = absurd (unheaded response here)
        by_from (past.opens q is own number) = absurd (none_some w (sym (new_number step q y is number) ∙ row))

    module _ (none : u.due ≡ None) where
      before_due : k.due ≡ None
      before_due = (due_before t e c k (consumer_acted t e c (consumer_heard t e c ev k)) u f.is (ap reads stands) none).0

      -- its stop made no failure due
      stop_none : k.place ≡ place.Direct y → w.is_open ≡ true → exchange_in ev ≡ Some y → stop_cause t ev ≡ None
      stop_none at on brings =
          let mine_is : k.own ≡ Some y = own at in
          let open_is : own_open t k ≡ Some y = rw (mine_is, row, on) refl in
          let from : source t k ≡ Some y = ap (λ q. option_or q (shared_exchange t k.place)) open_is in
          let self : nat_eq y y ≡ true = grind (arith, nat_tests) in
          let undue = (due_before t e c k (consumer_acted t e c (consumer_heard t e c ev k)) u f.is (ap reads stands) none).1 in
          rw (from, brings, self) at (undue_parts t e c k undue).stop

      was_over : ((response : Response) → ev ≡ event.Head y response → ⊥) → w.is_open ≡ false → IsAllCome w
      was_over unheaded off = ended.past c y k w f.row (stood_at unheaded) row off before_due

      head_come : (response : Response) → ev ≡ event.Head y response → (with_head t e response w).is_open ≡ false → IsAllCome (with_head t e response w)
      head_come response here off =
          let new = is_new limits t now flaw s ev goes y response w here row in
          let reached : is_reached (promise_in w response) 0 ≡ true =
          by_test _ (sym (ap (λ q. not (is_reached (promise_in w response) 0) && q) new.is_open) ∙ off) in
          reached_come (with_head t e response w)
          (ap (λ (xs : List ℕ). is_reached (promise_in w response) (length xs)) ((s.waits.headless y w row new.bare).0) ∙ reached)
        where
          by_test : (q : Bool) → (not q && true) ≡ false → q ≡ true
          by_test true h = refl
          by_test false h = absurd (false_true (sym h))

      piece_come : (bytes : List ℕ) → ev ≡ event.Piece y bytes → (with_piece bytes w).is_open ≡ false → IsAllCome (with_piece bytes w)
      piece_come bytes here off = elim (bool_cases (is_reached (promised_bytes w) (length (w.body ++ bytes)))) [
        | inl reached ↦ reached_come (with_piece bytes w) reached
        | inr short ↦ absurd (false_true (sym (rw short at off) ∙ (piece_taken step m y bytes w here row).is_open))
      ]

      end_come : ev ≡ event.End y → IsAllCome (record w { is_ended = true; is_open = false })
      end_come here = ended_come (record w { is_ended = true; is_open = false }) refl enough
        where
          on : w.is_open ≡ true
          on = let z = ender step m y here in ap (λ (q : Exchange). q.is_open) (same_row (t.exchange y) w z.w row z.row) ∙ z.ending.is_open

          unstopped : short_of y w (promised_bytes w) ≡ None
          unstopped =
              sym (ap (stop_cause t) here ∙ ap (short_cause y) row)
              ∙ stop_none (stood_at (λ response is. let no : event.End y ≡ event.Head y response = sym here ∙ is in cc)) on (ap exchange_in here)

          enough : (n : ℕ) → promised_bytes w ≡ Some n → n ≡ length w.body
          enough n promise = elim (bool_cases (nat_lt (length w.body) n)) [
            | inl less ↦ absurd (never _ (rw (promise, less) at unstopped))
            | inr reached ↦
                let most : length w.body ≤ n = bounds.promise y n w row promise in
                let least : n ≤ length w.body = grind (arith, nat_tests) in
                omega arith
          ]

      fault_not : ev ≡ event.Fault y → w.is_open ≡ true → ⊥
      fault_not here on = none_some _
          (sym (sym (ap (stop_cause t) here) ∙
          stop_none (stood_at (λ response is. let no : event.Fault y ≡ event.Head y response = sym here ∙ is in cc)) on (ap exchange_in here)))

      all_come : (v : Event) → ev ≡ v → (exchange_heard t e y v w).is_open ≡ false → IsAllCome (exchange_heard t e y v w)
      all_come (event.Start d request) here off = was_over (λ response is. let no : event.Start d request ≡ event.Head y response = sym here ∙ is in cc) off
      all_come (event.Poll d want) here off = was_over (λ response is. let no : event.Poll d want ≡ event.Head y response = sym here ∙ is in cc) off
      all_come (event.Head x response) here off = elim (eq_cases x y) [
        | inl hit ↦ rw hit.0 (head_come response (here ∙ ap (λ n. event.Head n response) hit.1) (rw hit.0 at off))
        | inr other ↦ rw other.0 (was_over (λ answer is. other.1 (some_inj x y (ap exchange_in (sym here ∙ is)))) (rw other.0 at off))
      ]
      all_come (event.Piece x bytes) here off = elim (eq_cases x y) [
        | inl hit ↦ rw hit.0 (piece_come bytes (here ∙ ap (λ n. event.Piece n bytes) hit.1) (rw hit.0 at off))
        | inr other ↦ rw other.0 (was_over (λ answer is. let no : event.Piece x bytes ≡ event.Head y answer = sym here ∙ is in cc) (rw other.0 at off))
      ]
      all_come (event.End x) here off = elim (eq_cases x y) [
        | inl hit ↦ rw hit.0 (end_come (here ∙ ap event.End hit.1))
        | inr other ↦ rw other.0 (was_over (λ answer is. let no : event.End x ≡ event.Head y answer = sym here ∙ is in cc) (rw other.0 at off))
      ]
      all_come (event.Fault x) here off = elim (eq_cases x y) [
        | inl hit ↦ absurd (fault_not (here ∙ ap event.Fault hit.1) (fault_open_of step y w (sym (ap (denial t) (here ∙ ap event.Fault hit.1)) ∙ goes) row))
        | inr other ↦ rw other.0 (was_over (λ answer is. let no : event.Fault x ≡ event.Head y answer = sym here ∙ is in cc) (rw other.0 at off))
      ]
      all_come (event.Cancel d) here off = was_over (λ response is. let no : event.Cancel d ≡ event.Head y response = sym here ∙ is in cc) off
      all_come (event.Doom key) here off = was_over (λ response is. let no : event.Doom key ≡ event.Head y response = sym here ∙ is in cc) off

      still_come : (z : Exchange) → now_on.exchange y ≡ Some z → z.is_open ≡ false → IsAllCome z
      still_come z after_row off =
          let is : exchange_acted y e.acts (exchange_heard t e y ev w) ≡ z = some_inj _ z (sym (after_is t e y w (t.exchange y) row) ∙ after_row) in
          let shut : (not (closes_in y e.acts) && (exchange_heard t e y ev w).is_open) ≡ false = ap (λ (q : Exchange). q.is_open) is ∙ off in
          subst IsAllCome is (acted_come y e.acts _ (all_come ev refl (rw unclosed at shut)))

  pub ended_kept : AreOwn now_on → AreEnded now_on
  ended_kept owned = record {
    past = λ c y u z after stands after_row off none.
        let from = direct_from t e c y (t.consumer c) u refl after stands in
        by_from c y from.0 u z after stands from.1 after_row off none (exchange_from t e y (t.exchange y) z refl after_row);
  }
    where
      by_from : (c y : ℕ) (k u : Consumer) (z : Exchange) → now_on.consumer c ≡ Some u → u.place ≡ place.Direct y → IsFrom t e c y k u →
          now_on.exchange y ≡ Some z → z.is_open ≡ false → u.due ≡ None → ExchangeFrom t e y z → IsAllCome z
      by_from c y k u z after stands f after_row off none (exchange.was w row same) =
          let i = owned.direct c y u after stands in
          let mine : w.c ≡ c = sym same.c_is ∙ (ap (λ (q : Exchange). q.c) (same_row (now_on.exchange y) z i.its.w after_row i.its.row) ∙ i.its.for_it) in
          still_come c y k u f stands w row mine none z after_row off
      by_from c y k u z after stands f after_row off none (exchange.new q before opens here made) =
          absurd (false_true (sym off ∙ ap (λ (w : Exchange). w.is_open) (sym made)))
