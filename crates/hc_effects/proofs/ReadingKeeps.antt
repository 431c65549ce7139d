-- Whose open exchange has a head reads it, or what it is bound to, and stands there until it leaves.
--
-- A reader stays there: its exchange needn't be closed (`not_must`), so it doesn't leave (`left_by`). Neither an event
-- nor an opening is for it (`heard_same`, `no_opening`), and what it is shown leaves it (`shows_on`). Hence
-- `reader_stays`. If the head comes now, each case that leaves its exchange open puts it where it reads that.
-- `kept_reading` joins both, and `by_from` adds an exchange that is opened or left to it.
use Rattle.std.{proofs.{Common.{◌≡◌, ◌⊎◌, inl, inr, ℕ, Bool, true, false, Option, Some, None, refl, ap, sym, ◌∙◌, subst, arith}, lemmas.Bool.Decides.{nat_tests}}, specs.{Prelude.{if◌then◌else◌, is_some, is_none, ◌&&◌, ◌==◌, not, nat_eq}, Option.{option_and_then}}}
use Rattle.hc_text.proofs.Basics.{and_left, and_right, bool_cases, not_some as none_some, never_true as not_so, or_left, or_right, same_some as same_row, some_inj}
use Rattle.hc_effects.proofs.Vocabulary.{Opening, opening_in, leaves_in, Event, Response, Wait, Place, Showing, showing_in, wait_in, must_close, is_left, is_left_by, leaver, leaver_by, consumer_heard, consumer_acted, by_head, by_fault, by_opening, own_after, shown_place, waiting, denial, Entry, exchange_heard, is_open, entry_of, IsReading, shows_at, move_of, own_open, if_open, bound_to, Tables, Exchange, Consumer, after_accepted, brings_body, event}
use Rattle.hc_model.specs.Owners as owners
use Rattle.hc_effects.proofs.{Basics.{false_true, number_yes}, Closed.{before, closes}, ExchangeFrom.{ExchangeFrom, IsSame, IsHeaded, exchange_from}, FirstKeeps.{is_new}, Forward.{after_is}, HeadedAs.{HeadedAs, headed_as, heard_at}, OwnFrom.{OwnFrom, IsRow, IsLeft, own_from, after_by}, OwnersKeep.{is_opened, new_number}, PieceKeeps.{eq_cases}, Said.{WaitsAs, waiting_by}, SaidActs.{leaves_leaver}, WaitedAs.{IsForOthers, waited_as}, Waiters.{waiter_of, fault_open_of}, BoundStays.{none_of}, StaysOn.{plain_place, unopened, waits_where}, Step.{Step}}
use Rattle.hc_effects.proofs.ExchangeFrom as exchange
use Rattle.hc_effects.proofs.HeadedAs as head
use Rattle.hc_effects.proofs.OwnFrom as own

pub some_of : (q : Option Response) → is_some q ≡ true → (response : Response) × (q ≡ Some response)
some_of None g = absurd (false_true g)
some_of (Some response) g = (response, refl)

module _ (step : Step) where
  open step use {limits, tables as t, now, flaw, sound as s, owners as o, event as ev, accepted as goes}

  abbrev e : Entry
  e = entry_of limits t now ev flaw

  abbrev b : Entry
  b = before limits t now flaw s ev

  abbrev now_on : Tables
  now_on = after_accepted t e

  -- a lost writing is left to nobody by a poll
  pub unpolled : (d want : ℕ) → ev ≡ event.Poll d want → brings_body ev ≡ true → ⊥
  unpolled d want polls brings = false_true (sym (ap brings_body polls) ∙ brings)

  pub left_body : (c x : ℕ) (p : Place) → IsLeft t e c x p → brings_body ev ≡ true
  left_body c x p l = let losing : (brings_body ev && _) ≡ true = and_left _ _ l.loses in and_left (brings_body ev) _ losing

  -- A READER WITH A HEAD STANDS WHERE IT STOOD

  module _ (c x : ℕ) (k u : Consumer) (w z : Exchange) (row : IsRow t e c x k u) (mine : k.own ≡ Some x) (still : u.own ≡ Some x)
      (is_row : t.exchange x ≡ Some w) (headed : is_some w.head ≡ true) (after_row : now_on.exchange x ≡ Some z) (same : IsSame t e x w z)
      (opened : z.is_open ≡ true) where
    -- it waits for no head
    no_waiter : (y : ℕ) (q : Exchange) → t.exchange y ≡ Some q → q.is_open ≡ true → q.head ≡ None → q.c ≡ c → ⊥
    no_waiter y q exchange_row on bare theirs =
        let got = waiter_of step y q exchange_row on bare in
        let one : got.0 ≡ k = same_row (t.consumer c) got.0 k (sym (ap t.consumer theirs) ∙ got.1.row) row.row in
        let number : y ≡ x = some_inj y x (sym got.1.own ∙ (ap (λ (p : Consumer). p.own) one ∙ mine)) in
        let it : q ≡ w = same_row (t.exchange x) q w (sym (ap t.exchange number) ∙ exchange_row) is_row in
        false_true (sym (ap (λ (p : Option Response). is_some p) bare) ∙ (ap (λ (p : Exchange). is_some p.head) it ∙ headed))

    own_is : own_open t k ≡ Some x
    own_is = ap (option_and_then (if_open t)) mine ∙ ap (λ (v : Bool). if v then Some x else None) (ap is_open is_row ∙ same.was_open opened)

    heard_on : (v : Event) → ev ≡ v → (exchange_heard t e x v w).is_open ≡ (exchange_heard t b x v w).is_open
    heard_on (event.Head y response) here = elim (eq_cases y x) [ inl hit ↦ rw hit.0 refl | inr off ↦ rw off.0 refl ]
    heard_on _ here = refl

    not_must : must_close t b x w ≡ true → ⊥
    not_must must =
        let is = some_inj _ z (sym (after_is t e x w (t.exchange x) is_row) ∙ after_row) in
        let on : (exchange_heard t e x ev w).is_open ≡ true = and_right _ _ (ap (λ (q : Exchange). q.is_open) is ∙ opened) in
        false_true (sym (same.unclosed opened) ∙ closes limits t now flaw s ev x w is_row must (sym (heard_on ev refl) ∙ on))

    left_by : leaver b ≡ Some c → ⊥
    left_by at =
        let left : is_left_by t x c (Some k) ≡ true = or_left _ _ (number_yes (own_open t k) x own_is) in
        let leaves : is_left t x (leaver b) ≡ true = ap (is_left t x) at ∙ (ap (is_left_by t x c) row.row ∙ left) in
        not_must (or_right _ _ leaves)

    stays_in : leaves_in c e.acts ≡ false
    stays_in = not_so (leaves_in c e.acts) (λ leaves. left_by (leaves_leaver limits t now flaw s ev c leaves))

    not_cancelled : ev ≡ event.Cancel c → ⊥
    not_cancelled at = left_by (ap (λ v. leaver_by v b.acts) at)

    heard_same : (v : Event) → ev ≡ v → consumer_heard t e c v k ≡ k
    heard_same (event.Head y response) here = by_row (t.exchange y) refl
      where
        by_row : (q : Option Exchange) → t.exchange y ≡ q → by_head t e c y response q k ≡ k
        by_row None exchange_row = refl
        by_row (Some q) exchange_row = elim (eq_cases q.c c) [
          | inl hit ↦ absurd (let new = is_new limits t now flaw s ev goes y response q here exchange_row in
              no_waiter y q exchange_row new.is_open new.bare hit.1)
          | inr off ↦ rw off.0 refl
        ]
    heard_same (event.Fault y) here = by_row (t.exchange y) refl
      where
        of_it : (q : Exchange) → t.exchange y ≡ Some q → (q.c == c) ≡ true → is_none q.head ≡ true → ⊥
        of_it q exchange_row theirs none =
            let test : nat_eq q.c c ≡ true = theirs in
            let it : q.c ≡ c = grind (arith, nat_tests) in
            no_waiter y q exchange_row (fault_open_of step y q (sym (ap (denial t) here) ∙ goes) exchange_row) (none_of q.head none) it

        by_row : (q : Option Exchange) → t.exchange y ≡ q → by_fault c y q k ≡ k
        by_row None exchange_row = refl
        by_row (Some q) exchange_row = elim (bool_cases (q.c == c && is_none q.head && not k.shown)) [
          | inl hit ↦ absurd (of_it q exchange_row (and_left _ _ (and_left _ _ hit)) (and_right _ _ (and_left _ _ hit)))
          | inr off ↦ rw off refl
        ]
    heard_same (event.Cancel d) here = elim (eq_cases d c) [
      | inl hit ↦ absurd (not_cancelled (here ∙ ap event.Cancel hit.1))
      | inr off ↦ rw off.0 refl
    ]
    heard_same _ here = refl

    -- nothing is opened for it
    no_opening : (p : Opening) → opening_in e.acts ≡ Some p → p.c ≡ c → ⊥
    no_opening p opens hit =
        let by_poll = is_opened step p opens in
        let test : nat_eq p.c c ≡ true = grind (arith, nat_tests) in
        let h = consumer_heard t e c ev k in
        let owned : (by_opening t c (opening_in e.acts) (waiting t e c h)).own ≡ Some p.x = ap (λ q. (by_opening t c q (waiting t e c h)).own) opens ∙
        rw test refl in
        let is : own_after t e c h.place (Some p.x) ≡ Some x = ap (own_after t e c h.place) (sym owned) ∙ (ap (λ (q : Consumer). q.own) row.is ∙ still) in
        elim (after_by t e c x h.place (Some p.x) is) [
          | inl number ↦ none_some w (sym (new_number step p x opens (some_inj p.x x number)) ∙ is_row)
          | inr left ↦ unpolled p.c by_poll.want by_poll.at (left_body c x h.place left)
        ]

    shown_here : (p : Place) → k.place ≡ p → IsReading x p → bound_to p ≡ None → shows_at t k p ≡ None → ⊥
    shown_here p at it2 free none = grind (arith, nat_tests)

    module _ (reading : IsReading x k.place) where
      reported_not : (q : Wait) → IsForOthers q → wait_in c e.acts ≡ Some q → ⊥
      reported_not q others reported =
          let by_poll = waiting_by limits t now flaw s ev goes c q reported in
          let one : by_poll.k ≡ k = same_row (t.consumer c) by_poll.k k by_poll.poll.row row.row in
          let waits : WaitsAs q (move_of t now by_poll.want c k) = subst (λ (p : Consumer). WaitsAs q (move_of t now by_poll.want c p)) one by_poll.move in
          let why = waited_as t now c k q others by_poll.want s row.row waits in
          shown_here k.place refl reading why.free why.none

      shows_on : (q : Option Showing) → shown_place c q k.place ≡ k.place
      shows_on q = grind (arith, nat_tests)

      pub reader_stays : u.place ≡ k.place
      reader_stays =
          let placed : (consumer_acted t e c k).place ≡ k.place =
          plain_place t e c k (leaves_in c e.acts) (showing_in e.acts) (opening_in e.acts) (wait_in c e.acts) stays_in
          (unopened t e c (waiting t e c k) (opening_in e.acts) no_opening) (waits_where t k (wait_in c e.acts) reported_not) (shows_on (showing_in e.acts)) in
          sym (ap (λ (q : Consumer). q.place) row.is) ∙ (ap (λ (h : Consumer). (consumer_acted t e c h).place) (heard_same ev refl) ∙ placed)

  -- AFTER AN ENTRY

  reading_as : (c x : ℕ) (k u : Consumer) (w z : Exchange) (response : Response) → HeadedAs step x response w k.place u.place z → IsReading x u.place
  reading_as c x k u w z response (head.direct is) = owners.direct is
  reading_as c x k u w z response (head.founds lo hi how is on off) = owners.bound x lo hi how is
  reading_as c x k u w z response (head.joins r lo hi how was is aim on joined) = owners.bound r lo hi how is

  moved : (x : ℕ) (p q : Place) → q ≡ p → IsReading x p → IsReading x q
  moved x p q same (owners.direct stands) = owners.direct (same ∙ stands)
  moved x p q same (owners.bound r lo hi how stands) = owners.bound r lo hi how (same ∙ stands)

  pub head_some : (w z : Exchange) → z.head ≡ w.head → is_some z.head ≡ true → is_some w.head ≡ true
  head_some w z same headed = sym (ap (λ (p : Option Response). is_some p) same) ∙ headed

  kept_reading : (c x : ℕ) (k u : Consumer) (w z : Exchange) → IsRow t e c x k u → k.own ≡ Some x → u.own ≡ Some x → t.exchange x ≡ Some w →
      now_on.exchange x ≡ Some z → IsSame t e x w z → z.is_open ≡ true → is_some z.head ≡ true → IsReading x u.place
  kept_reading c x k u w z row mine still is_row after_row same opened headed = by_heard same.heard_or
    where
      by_heard : ((z.head ≡ w.head) × (z.joined ≡ w.joined)) ⊎ IsHeaded t e x w z → IsReading x u.place
      by_heard (inl all) =
          let was : is_some w.head ≡ true = head_some w z all.0 headed in
          let reading = o.reading c x k w row.row mine is_row (same.was_open opened) was in
          moved x k.place u.place (reader_stays c x k u w z row mine still is_row was after_row same opened reading) reading
      by_heard (inr got) = reading_as c x k u w z got.response (headed_as step c x k u w z got.response got.at row mine is_row after_row same opened)

  by_from : (c x : ℕ) (u : Consumer) (z : Exchange) → u.own ≡ Some x → now_on.exchange x ≡ Some z → z.is_open ≡ true → is_some z.head ≡ true →
      ExchangeFrom t e x z → OwnFrom t e c x u → IsReading x u.place
  by_from c x u z still after_row opened headed (exchange.was w is_row same) (own.kept k row mine heard) =
      kept_reading c x k u w z row mine still is_row after_row same opened headed
  by_from c x u z still after_row opened headed (exchange.new p none opens here made) (own.kept k row mine heard) =
      absurd (false_true (ap is_some (sym none) ∙ o.there c x k row.row mine))
  by_from c x u z still after_row opened headed (exchange.was w is_row same) (own.opened k p row opens here this) =
      absurd (none_some w (sym (new_number step p x opens this) ∙ is_row))
  by_from c x u z still after_row opened headed (exchange.new q none opens here made) (own.opened k p row also mine this) =
      absurd (false_true (ap (λ (a : Exchange). is_some a.head) made ∙ headed))
  by_from c x u z still after_row opened headed from (own.left k row l) =
      owners.bound l.r l.lo l.hi l.how (heard_at step c x k u (λ d want polls. unpolled d want polls (left_body c x _ l)) row ∙ l.at)

  -- Whose open exchange has a head reads.
  pub reading_kept : (c x : ℕ) (u : Consumer) (z : Exchange) → now_on.consumer c ≡ Some u → u.own ≡ Some x → now_on.exchange x ≡ Some z →
      z.is_open ≡ true → is_some z.head ≡ true → IsReading x u.place
  reading_kept c x u z row still after_row opened headed =
      by_from c x u z still after_row opened headed (exchange_from t e x (t.exchange x) z refl after_row) (own_from t e c x (t.consumer c) u refl row still)
