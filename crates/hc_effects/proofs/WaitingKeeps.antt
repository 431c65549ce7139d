-- Whoever waits for the head of its own exchange goes on waiting as long as that is open.
--
-- Since its exchange needn't be closed, its consumer doesn't leave (`left_by`, `stays_in`), nor does it start over: a
-- doom of its key would close the exchange (`doomed_must`, `stays_on`). No act moves it: it is told no wait for others,
-- and shown nothing where it reads nothing (`reported_not`, `shows_on`). So it stands as it stood (`stands`). An exchange
-- without a head was so (`was_waiting`), or is new (`new_waiting`).
use Rattle.std.{proofs.{Common.{◌≡◌, inl, inr, ℕ, List, Bool, true, false, Option, Some, None, refl, ap, sym, ◌∙◌, subst, arith}, lemmas.Bool.Decides.{nat_tests}}, specs.Prelude.{nat_eq}}
use Rattle.hc_text.proofs.Basics.{both_true as and_both, bool_cases, not_some as none_some, never_true as not_so, or_left, or_right, same_some as same_row, some_inj}
use Rattle.hc_effects.proofs.Vocabulary.{Opening, opening_in, leaves_in, closes_in, Event, Response, Wait, route_of, Place, BoundBy, Showing, showing_in, wait_in, case_of, must_close, is_doomed, awaits, is_left, is_left_by, leaver, leaver_by, consumer_heard, consumer_acted, shown_place, waiting, due_after, denial, doomed_key_of, is_key, Entry, exchange_heard, exchange_opened, exchange_in, exchange_at, is_for, is_headless, entry_of, IsAwaiting, Awaits, poll_move, move_of, own_open, reads, Tables, Exchange, Consumer, starts_over, waits_at, awaited_exchange, sends_back, after_accepted, Opens, may_stand, event, place, by}
use Rattle.hc_rules.specs.Refusals as refusals
use Rattle.hc_model.specs.Owners as owners
use Rattle.hc_effects.proofs.{Basics.{false_true, number_yes}, Closed.{before, closes}, ExchangeFrom.{ExchangeFrom, IsSame, exchange_from}, Forward.{heard_other, is_kept}, PieceKeeps.{eq_cases}, Said.{IsShowing, WaitsAs, showing_by, waiting_by, opening_by}, SaidActs.{leaves_leaver}, ShownFrom.{shown_from}, WaitedAs.{IsForOthers, waited_as}, WaitingNew.{awaits as new_awaits}, OpenedAs.{opened_as, opening_is}, Waiters.{IsWaiter, waiter_of, heard_same, own_acted, own_open_is, not_heard, head_is_own, opening_stays, doomed_same, headless_is}, BoundStays.{headless_parts}, StaysOn.{awaiting_keeps, plain_place, settled, stays_by, waits_where}, Step.{Step}}
use Rattle.hc_effects.proofs.ExchangeFrom as exchange

module _ (step : Step) where
  open step use {limits, tables as t, now, flaw, sound as s, owners as o, event as ev, accepted as goes}

  abbrev e : Entry
  e = entry_of limits t now ev flaw

  abbrev b : Entry
  b = before limits t now flaw s ev

  abbrev now_on : Tables
  now_on = after_accepted t e

  module _ (c y : ℕ) (k : Consumer) (w : Exchange) (is : IsWaiter t c y k w) (other : exchange_in ev ≡ Some y → ⊥) (shut : closes_in y e.acts ≡ false) where
    -- it had not to be closed
    not_must : must_close t b y w ≡ true → ⊥
    not_must must =
        let on : (exchange_heard t b y ev w).is_open ≡ true = ap (λ (z : Exchange). z.is_open) (heard_other t b y ev w other) ∙ is.was_open in
        false_true (sym shut ∙ closes limits t now flaw s ev y w is.exchange_row must on)

    left_by : (z : Option ℕ) → leaver b ≡ z → z ≡ Some c → ⊥
    left_by z at mine =
        let left : is_left_by t y c (Some k) ≡ true = or_left _ _ (number_yes (own_open t k) y (own_open_is step c y k w is)) in
        let leaves : is_left t y (leaver b) ≡ true = ap (is_left t y) (at ∙ mine) ∙ (ap (is_left_by t y c) is.row ∙ left) in
        not_must (or_right _ _ leaves)

    pub stays_in : leaves_in c e.acts ≡ false
    stays_in = not_so (leaves_in c e.acts) (λ leaves. left_by (leaver b) refl (leaves_leaver limits t now flaw s ev c leaves))

    pub not_cancelled : ev ≡ event.Cancel c → ⊥
    not_cancelled at = left_by (leaver b) refl (ap (λ v. leaver_by v b.acts) at)

    -- IT DOESN'T START OVER

    awaited_at : (p : Place) → k.place ≡ p → IsAwaiting y w p → waits_at t p ≡ true → awaited_exchange p ≡ Some y
    awaited_at p at (owners.direct way stands) waits = absurd (false_true (sym (ap (waits_at t) stands) ∙ waits))
    awaited_at p at (owners.turn way stands) waits = ap awaited_exchange stands
    awaited_at p at (owners.hole r lo hi how way aim stands) waits = ap awaited_exchange stands ∙
        by_how how (at ∙ stands) (sym (ap (waits_at t) stands) ∙ waits)
      where
        by_how : (g : BoundBy) → k.place ≡ place.Bound r lo hi g → waits_at t (place.Bound r lo hi g) ≡ true → awaited_exchange (place.Bound r lo hi g) ≡ Some y
        by_how (by.FirstHole z) at h =
            let all = headless_parts (t.exchange z) h in
            let f = o.first_own c r lo z hi k is.row at in
            let for_it : all.0.c ≡ c = ap (λ (q : Exchange). q.c) (same_row (t.exchange z) all.0 f.w all.1 f.row) ∙ f.for_it in
            let a = o.waiting z all.0 all.1 all.2 all.3 in
            let one : a.k ≡ k = same_row (t.consumer c) a.k k (sym (ap t.consumer for_it) ∙ a.row) is.row in
            sym a.own ∙ (ap (λ (q : Consumer). q.own) one ∙ is.own)
        by_how _ at h = absurd (false_true h)

    doomed_must : is_key (doomed_key_of t e) k.request.key ≡ true → waits_at t k.place ≡ true → ⊥
    doomed_must key waits =
        let at_it : awaited_exchange k.place ≡ Some y = awaited_at k.place refl is.at waits in
        let keyed : is_key (doomed_key_of t b) w.request.key ≡ true = ap (is_key (doomed_key_of t b)) is.key_is ∙
        (ap (λ z. is_key z k.request.key) (sym (doomed_same step)) ∙ key) in
        let bare : is_headless (Some w) ≡ true = sym (ap is_headless is.exchange_row) ∙ headless_is step c y k w is in
        let awaiting : awaits (t.consumer w.c) y ≡ true = ap (λ z. awaits z y) (ap t.consumer is.for_it ∙ is.row) ∙
        number_yes (awaited_exchange k.place) y at_it in
        let doomed_it : is_doomed t b y w ≡ true = and_both _ _ (and_both _ _ keyed bare) awaiting in
        not_must (or_left _ _ (or_left _ _ (or_right _ _ doomed_it)))

    none_sends : sends_back None ≡ true → ⊥
    none_sends h = false_true h

    headed_back : (x : ℕ) (response : Response) (z : Option Exchange) → ev ≡ event.Head x response → t.exchange x ≡ z → is_for z c ≡ true → ⊥
    headed_back x response None at row mine = false_true mine
    headed_back x response (Some q) at row mine =
        let test : nat_eq q.c c ≡ true = mine in
        let here : q.c ≡ c = grind (arith, nat_tests) in
        let same : x ≡ y = head_is_own step c y k w is x response q at row here in
        other (ap exchange_in at ∙ ap Some same)

    unheaded : (v : Event) (lost : Bool) → ev ≡ v → sends_back (case_of t lost v) ≡ true → is_for (exchange_at t v) c ≡ true → ⊥
    unfolding case_of
    unheaded (event.Head x response) lost at sends mine = headed_back x response (t.exchange x) at refl mine
    unheaded _ lost at sends mine = none_sends sends

    pub stays_on : starts_over t e c k ≡ false
    stays_on = stays_by t e c k (awaiting_keeps t e c y w k.place is.at) doomed_must (unheaded ev _ refl)

    -- WHAT THE ACTS SAY TO IT

    reported_not : (z : Wait) → IsForOthers z → wait_in c e.acts ≡ Some z → ⊥
    reported_not z others at =
        let by_poll = waiting_by limits t now flaw s ev goes c z at in
        let one : by_poll.k ≡ k = same_row (t.consumer c) by_poll.k k by_poll.poll.row is.row in
        let waits : WaitsAs z (move_of t now by_poll.want c k) = subst (λ (q : Consumer). WaitsAs z (move_of t now by_poll.want c q)) one by_poll.move in
        not_heard step c y k w is (waited_as t now c k z others by_poll.want s is.row waits).heard

    shown_not : (z : Showing) → showing_in e.acts ≡ Some z → z.c ≡ c → reads k.place ≡ false → ⊥
    shown_not z at here free =
        let by_poll = showing_by limits t now flaw s ev goes z at in
        let row : t.consumer z.c ≡ Some k = ap t.consumer here ∙ is.row in
        let one : by_poll.k ≡ k = same_row (t.consumer z.c) by_poll.k k by_poll.poll.row row in
        let show : IsShowing z (move_of t now by_poll.want z.c k) = subst (λ (q : Consumer). IsShowing z (move_of t now by_poll.want z.c q)) one by_poll.move in
        not_heard step c y k w is (shown_from t now z.c k by_poll.want z s row show free).heard

    shows_on : (z : Option Showing) → showing_in e.acts ≡ z → shown_place c z k.place ≡ k.place
    shows_on None at = refl
    shows_on (Some z) at = elim (eq_cases z.c c) [
      | inr off ↦ rw off.0 refl
      | inl here ↦ elim (bool_cases (reads k.place)) [
        | inl reading ↦ rw (here.0, reading) refl
        | inr free ↦ absurd (shown_not z at here.1 free)
      ]
    ]

    -- THE ROW AFTER THE ENTRY

    -- it stands where it stood, and keeps its exchange
    pub record Stands : Type 0 where
      pub u : Consumer
      pub row : now_on.consumer c ≡ Some u
      pub place_is : u.place ≡ k.place
      pub own_is : u.own ≡ Some y

    pub stands : Stands
    stands =
        let on = is_kept t e c k is.row in
        let same : consumer_heard t e c ev k ≡ k = heard_same step c y k w is ev refl other not_cancelled in
        let q = consumer_acted t e c (consumer_heard t e c ev k) in
        let made : due_after t e c k q ≡ on.u = sym (settled t e c k q stays_on) ∙ on.is in
        let placed : (consumer_acted t e c k).place ≡ k.place =
        plain_place t e c k (leaves_in c e.acts) (showing_in e.acts) (opening_in e.acts) (wait_in c e.acts) stays_in
        (opening_stays step c y k w is (waiting t e c k) (opening_in e.acts) refl) (waits_where t k (wait_in c e.acts) reported_not)
        (shows_on (showing_in e.acts) refl) in
        record {
          u = on.u;
          row = on.row;
          place_is = sym (ap (λ (z : Consumer). z.place) made) ∙ (ap (λ (h : Consumer). (consumer_acted t e c h).place) same ∙ placed);
          own_is = sym (ap (λ (z : Consumer). z.own) made) ∙ (ap (λ (h : Consumer). (consumer_acted t e c h).own) same ∙ own_acted step c y k w is);
        }

  -- HEADLESS EXCHANGES AFTER AN ENTRY

  piece_refused : (x : ℕ) (bytes : List ℕ) (w : Exchange) → t.exchange x ≡ Some w → w.head ≡ None → denial t (event.Piece x bytes) ≡ None → ⊥
  unfolding refusals.refusal_of
  piece_refused x bytes w row bare h = grind (arith, nat_tests)

  -- no event is of an exchange that waits for its head and goes on waiting
  pub unmet : (v : Event) (x : ℕ) (w u : Exchange) → ev ≡ v → t.exchange x ≡ Some w → IsSame t e x w u → u.is_open ≡ true → u.head ≡ None → exchange_in
      v ≡ Some x → ⊥
  unmet (event.Head z response) x w u at row same on bare h = same.unheard bare response (at ∙ ap (λ n. event.Head n response) (some_inj z x h))
  unmet (event.Piece z bytes) x w u at row same on bare h =
      piece_refused x bytes w row (same.bare bare) (sym (ap (denial t) (at ∙ ap (λ n. event.Piece n bytes) (some_inj z x h))) ∙ goes)
  unmet (event.End z) x w u at row same on bare h = same.unended on (at ∙ ap event.End (some_inj z x h))
  unmet (event.Fault z) x w u at row same on bare h = same.unfaulted on (at ∙ ap event.Fault (some_inj z x h))
  unmet _ x w u at row same on bare h = none_some x h

  awaiting_same : (x : ℕ) (w u : Exchange) (p q : Place) → u.need ≡ w.need → u.aim ≡ w.aim → q ≡ p → IsAwaiting x w p → IsAwaiting x u q
  awaiting_same x w u p q need_is aim_is same (owners.direct way stands) = owners.direct (ap route_of need_is ∙ way) (same ∙ stands)
  awaiting_same x w u p q need_is aim_is same (owners.turn way stands) = owners.turn (ap route_of need_is ∙ way) (same ∙ stands)
  awaiting_same x w u p q need_is aim_is same (owners.hole r lo hi how way aim stands) =
      owners.hole r lo hi how (ap route_of need_is ∙ way) (aim_is ∙ aim) (same ∙ stands)

  was_waiting : (x : ℕ) (w u : Exchange) → t.exchange x ≡ Some w → IsSame t e x w u → u.is_open ≡ true → u.head ≡ None → Awaits now_on x u
  was_waiting x w u row same on bare =
      let got = waiter_of step x w row (same.was_open on) (same.bare bare) in
      let st = stands w.c x got.0 w got.1 (unmet ev x w u refl row same on bare) (same.unclosed on) in
      record {
        k = st.u;
        row = ap now_on.consumer same.c_is ∙ st.row;
        own = st.own_is;
        at = awaiting_same x w u got.0.place st.u.place same.need_is same.aim_is st.place_is got.1.at;
      }

  new_waiting : (p : Opening) → opening_in e.acts ≡ Some p → may_stand limits t e ≡ true → Awaits now_on p.x (exchange_opened t e p)
  new_waiting p opens stand =
      let by_poll = opening_by limits t now flaw s ev goes p opens in
      let way = opened_as t now p.c by_poll.k by_poll.want p s by_poll.poll.row by_poll.move in
      let move_is : poll_move t now by_poll.want p.c (t.consumer p.c) ≡ Opens p.x p.need p.request =
      ap (poll_move t now by_poll.want p.c) by_poll.poll.row ∙ opening_is t now p.c by_poll.k p (move_of t now by_poll.want p.c by_poll.k) by_poll.move in
      subst (λ v. (denial t v ≡ None) → opening_in (entry_of limits t now v flaw).acts ≡ Some p →
      may_stand limits t (entry_of limits t now v flaw) ≡ true →
      Awaits (after_accepted t (entry_of limits t now v flaw)) p.x (exchange_opened t (entry_of limits t now v flaw) p)) (sym by_poll.poll.at)
      (λ going opening standing. new_awaits limits t now flaw s o p.c by_poll.want going p by_poll.k refl opening by_poll.poll.row way move_is standing)
      goes opens stand

  waiting_from : (x : ℕ) (u : Exchange) → may_stand limits t e ≡ true → u.is_open ≡ true → u.head ≡ None → ExchangeFrom t e x u → Awaits now_on x u
  waiting_from x u stand on bare (exchange.was w row same) = was_waiting x w u row same on bare
  waiting_from x u stand on bare (exchange.new p none opens here made) =
      subst (λ (z : Exchange). Awaits now_on x z) made (subst (λ n. Awaits now_on n (exchange_opened t e p)) here (new_waiting p opens stand))

  -- An exchange that waits for its head is its consumer's own, and that one stands where it waits.
  pub waiting_kept : may_stand limits t e ≡ true → (x : ℕ) (u : Exchange) → now_on.exchange x ≡ Some u → u.is_open ≡ true → u.head ≡ None → Awaits now_on x u
  waiting_kept stand x u row on bare = waiting_from x u stand on bare (exchange_from t e x (t.exchange x) u refl row)
