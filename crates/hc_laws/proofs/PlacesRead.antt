-- What an open exchange brings that is of no representation is read past the store, at each entry.
--
-- Its reader stands there already, or its head comes now. One that stands there doesn't start over (`stays`), and no
-- head for it comes any more (`heard_own`); so it reads on (`goes_on`). Of a head that comes each case is known: what
-- founds or joins is of a representation, and all else that stays open puts its consumer past the store (`reads_it`). A
-- doom is of a reader past the store (`dooms_by`). `read_kept` joins both.
use Rattle.std.{proofs.Common.{◌≡◌, ◌⊎◌, inl, inr, ℕ, true, false, Option, Some, None, refl, ap, sym, ◌∙◌}, specs.Prelude.{is_some, is_none, ◌==◌, ◌&&◌, not, unwrap_or}}
use Rattle.hc_text.proofs.Basics.{none_or, all_false, and_left, and_off, and_right, bool_cases, never_true as not_so, same_some as same_row, some_inj}
use Rattle.hc_effects.proofs.Vocabulary.{opening_in, Event, Response, HeadCase, head_case, route_of, has_loss, case_at, case_of, head_view, consumer_heard, by_head, by_fault, waiting, own_after, doomed_key_of, doomed_in, doomed_by_head, doomed_by_case, is_key, Entry, exchange_at, is_for, family, entry_of, IsAwaiting, bound_to, Tables, Exchange, Representation, Consumer, Sound, starts_over, sends_back, waits_at, loses_what_it_waits_for, after_accepted, event, route, place}
use Rattle.hc_model.specs.Owners as owners
use Rattle.hc_model.specs.Places.{IsReadPast}
use Rattle.hc_model.specs.Sound as sound
use Rattle.hc_effects.proofs.{Basics.{false_true}, ExchangeFrom.{ExchangeFrom, exchange_from, IsSame, IsHeaded}, FirstKeeps.{is_new, case_is}, Forward.{is_kept}, FoundBy.{not_validated, first_changed, direct_taken, direct_bad, CaseBy, case_by}, HeadedAs.{HeadedAs, headed_as, not_refused, not_unmodified}, OwnFrom.{IsRow}, PieceKeeps.{eq_cases}, ReadingKeeps.{reader_stays}, ShownStays.{IsFallback}, Waiters.{IsWaiter, waiter_of}, Step.{Step}}
use Rattle.hc_effects.proofs.ExchangeFrom as exchange
use Rattle.hc_effects.proofs.HeadedAs as head
use Rattle.hc_laws.proofs.PlacesKept.{AreOwn, past_unopened, opening_stays, own_free, settled}
use Rattle.hc_effects.proofs.RepFrom as rep

-- who reads what is open and of no representation
pub record AreRead (t : Tables) : Type 0 where
  pub read : (x : ℕ) (w : Exchange) → t.exchange x ≡ Some w → w.is_open ≡ true → is_some w.head ≡ true → t.representation (family x w) ≡ None → IsReadPast t x w

module _ (step : Step) (a : IsFallback step.tables) (g : AreOwn step.tables) where
  open step use {limits, tables as t, now, flaw, sound as s, event as ev, accepted as goes}

  abbrev e : Entry
  e = entry_of limits t now ev flaw

  abbrev now_on : Tables
  now_on = after_accepted t e

  -- WHO READS IT ALREADY

  module _ (c y : ℕ) (k : Consumer) (w : Exchange) (row : t.consumer c ≡ Some k) (at : k.place ≡ place.Direct y) (is_row : t.exchange y ≡ Some w)
      (headed : is_some w.head ≡ true) where
    mine : k.own ≡ Some y
    mine = (g.direct c y k row at).its.own

    no_waiter : (x : ℕ) (q : Exchange) → t.exchange x ≡ Some q → q.is_open ≡ true → q.head ≡ None → q.c ≡ c → ⊥
    no_waiter x q exchange_row on bare theirs =
        let got = waiter_of step x q exchange_row on bare in
        let one : got.0 ≡ k = same_row (t.consumer c) got.0 k (sym (ap t.consumer theirs) ∙ got.1.row) row in
        let it : q ≡ w = same_row (t.exchange y) q w (sym (ap t.exchange (some_inj x y (sym got.1.own ∙ (ap (λ (p : Consumer). p.own) one ∙ mine)))) ∙
        exchange_row) is_row in
        false_true (sym (ap (λ (p : Option Response). is_some p) bare) ∙ (ap (λ (p : Exchange). is_some p.head) it ∙ headed))

    head_not : (x : ℕ) (response : Response) (q : Exchange) → ev ≡ event.Head x response → t.exchange x ≡ Some q → q.c ≡ c → ⊥
    head_not x response q here exchange_row theirs = let new = is_new limits t now flaw s ev goes x response q here exchange_row in
        no_waiter x q exchange_row new.is_open new.bare theirs

    sent_by : (v : Event) → ev ≡ v → sends_back (case_of t (has_loss e.acts) v) ≡ true → is_for (exchange_at t v) c ≡ true → ⊥
    unfolding case_of
    sent_by (event.Head x response) here sends it = by_row (t.exchange x) refl it
      where
        by_row : (z : Option Exchange) → t.exchange x ≡ z → is_for z c ≡ true → ⊥
        by_row None exchange_row h = false_true h
        by_row (Some q) exchange_row h = elim (eq_cases q.c c) [
          | inl hit ↦ head_not x response q here exchange_row hit.1
          | inr off ↦ false_true (sym off.0 ∙ h)
        ]
    sent_by _ here sends it = false_true sends

    -- it doesn't start over
    stays : starts_over t e c k ≡ false
    unfolding starts_over
    stays = all_false _ _ _
        (and_off (is_key (doomed_key_of t e) k.request.key) (waits_at t k.place) (ap (waits_at t) at))
        (not_so _ (λ h. sent_by ev refl (and_left _ _ h) (and_right _ _ h)))
        (ap (loses_what_it_waits_for t e c) at)

    free : bound_to k.place ≡ None
    free = ap bound_to at

    heard_own : (v : Event) → ev ≡ v → ((consumer_heard t e c v k).own ≡ k.own) × (bound_to (consumer_heard t e c v k).place ≡ None)
    heard_own (event.Head x response) here = by_row (t.exchange x) refl
      where
        by_row : (z : Option Exchange) → t.exchange x ≡ z → ((by_head t e c x response z k).own ≡ k.own) ×
            (bound_to (by_head t e c x response z k).place ≡ None)
        by_row None exchange_row = (refl, free)
        by_row (Some q) exchange_row = elim (eq_cases q.c c) [
          | inl hit ↦ absurd (head_not x response q here exchange_row hit.1)
          | inr off ↦ rw off.0 (refl, free)
        ]
    heard_own (event.Fault x) here = by_row (t.exchange x)
      where
        by_row : (z : Option Exchange) → ((by_fault c x z k).own ≡ k.own) × (bound_to (by_fault c x z k).place ≡ None)
        by_row None = (refl, free)
        by_row (Some q) = elim (bool_cases (q.c == c && is_none q.head && not k.shown)) [
          | inl hit ↦ rw hit (refl, refl)
          | inr off ↦ rw off (refl, free)
        ]
    heard_own (event.Cancel d) here = elim (bool_cases (d == c)) [
      | inl hit ↦ rw hit (refl, refl)
      | inr off ↦ rw off (refl, free)
    ]
    heard_own _ here = (refl, free)

    module _ (u : Consumer) (after : now_on.consumer c ≡ Some u) where
      its : IsRow t e c y k u
      its = record { row = row; stays = stays; is = settled step a g c k u row after stays }

      still : u.own ≡ Some y
      still =
          let h = consumer_heard t e c ev k in
          let all = heard_own ev refl in
          sym (ap (λ (z : Consumer). z.own) its.is)
          ∙ (ap (λ (q : Consumer). own_after t e c h.place q.own)
          (opening_stays step a g c (waiting t e c h) (opening_in e.acts) refl (past_unopened step a g c y k row at))
          ∙ (own_free step a g c h.place h.own all.1 ∙ (all.0 ∙ mine)))

      pub goes_on : (z : Exchange) → now_on.exchange y ≡ Some z → IsSame t e y w z → z.is_open ≡ true → u.place ≡ place.Direct y
      goes_on z after_row same opened = reader_stays step c y k u w z its mine still is_row headed after_row same opened (owners.direct at) ∙ at

  -- WHOSE HEAD COMES

  module _ (x : ℕ) (w z : Exchange) (response : Response) (here : ev ≡ event.Head x response) (is_row : t.exchange x ≡ Some w)
      (after_row : now_on.exchange x ≡ Some z) (same : IsSame t e x w z) (opened : z.is_open ≡ true) where
    got : (q : Consumer) × IsWaiter t w.c x q w
    got = let new = is_new limits t now flaw s ev goes x response w here is_row in waiter_of step x w is_row new.is_open new.bare

    abbrev k : Consumer
    k = got.0

    abbrev view : Rattle.hc_rules.specs.declared.heads.HeadView.HeadView
    view = head_view t (has_loss e.acts) w response

    case_here : case_at t e ≡ Some (head_case view)
    case_here = case_is t e x response w here is_row

    -- it dooms only where it is read past the store
    dooms_by : (q : HeadCase) → CaseBy view q → (route_of w.need ≡ route.Direct) ⊎ (doomed_by_case (Some q) w response ≡ None)
    dooms_by _ (direct_bad way h) = inl way
    dooms_by _ (direct_taken way) = inl way
    dooms_by _ _ = inr refl

    doomed_none : doomed_by_case (Some (head_case view)) w response ≡ None → doomed_key_of t e ≡ None
    unfolding doomed_key_of
    doomed_none none = ap (doomed_in t e) here ∙ (ap (doomed_by_head t e response) is_row ∙ (ap (λ q. doomed_by_case q w response) case_here ∙ none))

    waits_past : route_of w.need ≡ route.Direct → IsAwaiting x w k.place → waits_at t k.place ≡ false
    waits_past way (owners.direct it stands) = ap (waits_at t) stands
    waits_past way (owners.turn it stands) = absurd (let no : route.Turn ≡ route.Direct = sym it ∙ way in cc)
    waits_past way (owners.hole r lo hi how it aim stands) = absurd (let no : route.Hole ≡ route.Direct = sym it ∙ way in cc)

    undoomed : (is_key (doomed_key_of t e) k.request.key && waits_at t k.place) ≡ false
    undoomed = elim (dooms_by (head_case view) (case_by view)) [
      | inl way ↦ and_off (is_key (doomed_key_of t e) k.request.key) (waits_at t k.place) (waits_past way got.1.at)
      | inr none ↦ ap (λ q. is_key q k.request.key && waits_at t k.place) (doomed_none none)
    ]

    sends_by : (q : HeadCase) → CaseBy view q → case_at t e ≡ Some q → sends_back (Some q) ≡ false
    sends_by _ (not_validated way h) is = absurd (not_unmodified step x w z response here is_row after_row same opened h)
    sends_by _ (first_changed way off) is =
        absurd (not_refused step x w z response here is_row after_row same opened (ap Rattle.hc_model.specs.Closings.is_refused is))
    sends_by _ _ is = refl

    unsent : sends_back (case_at t e) ≡ false
    unsent = ap sends_back case_here ∙ sends_by (head_case view) (case_by view) case_here

    loses_not : IsAwaiting x w k.place → loses_what_it_waits_for t e w.c k.place ≡ false
    loses_not (owners.direct it stands) = ap (loses_what_it_waits_for t e w.c) stands
    loses_not (owners.turn it stands) = ap (loses_what_it_waits_for t e w.c) stands
    loses_not (owners.hole r lo hi how it aim stands) = ap (loses_what_it_waits_for t e w.c) stands

    head_stays : starts_over t e w.c k ≡ false
    unfolding starts_over
    head_stays = all_false _ _ _ undoomed (ap (λ q. q && is_for (exchange_at t ev) w.c) unsent) (loses_not got.1.at)

    module _ (later : Sound now_on) (u : Consumer) (after : now_on.consumer w.c ≡ Some u) (none : now_on.representation (family x z) ≡ None) where
      its_row : IsRow t e w.c x k u
      its_row = record { row = got.1.row; stays = head_stays; is = settled step a g w.c k u got.1.row after head_stays }

      -- what founds or joins is of a representation
      reads_it : HeadedAs step x response w k.place u.place z → u.place ≡ place.Direct x
      reads_it (head.direct is) = is
      reads_it (head.founds lo hi how is on unjoined) =
          let there : is_some (now_on.representation x) ≡ true = later.numbered.bound_to x w.c u (sound.is_bound lo hi how after is) in
          absurd (false_true (sym (ap (λ (q : Option Representation). is_some q)
          (sym (ap now_on.representation (ap (λ (q : Option ℕ). unwrap_or q x) unjoined)) ∙ none)) ∙ there))
      reads_it (head.joins r lo hi how was is aim on joined) =
          let there : is_some (now_on.representation r) ≡ true = later.numbered.bound_to r w.c u (sound.is_bound lo hi how after is) in
          absurd (false_true (sym (ap (λ (q : Option Representation). is_some q)
          (sym (ap now_on.representation (ap (λ (q : Option ℕ). unwrap_or q x) joined)) ∙ none)) ∙ there))

      pub read_now : u.place ≡ place.Direct x
      read_now = reads_it (headed_as step w.c x k u w z response here its_row got.1.own is_row after_row same opened)

  -- AFTER AN ENTRY

  module _ (later : Sound now_on) (reads : AreRead t) where
    none_before : (r : ℕ) → now_on.representation r ≡ None → t.representation r ≡ None
    none_before r none = none_or (t.representation r)
        (λ v row. false_true (sym (ap (λ (q : Option Representation). is_some q) none) ∙
        rep.stays t e r (t.representation r) (ap (λ (q : Option Representation). is_some q) row)))

    on_as : (x c : ℕ) (z : Exchange) (k u : Consumer) → z.c ≡ c → now_on.consumer c ≡ Some u → u.place ≡ place.Direct x → IsReadPast now_on x z
    on_as x c z k u c_is after at = record { k = u; row = ap now_on.consumer c_is ∙ after; place_is = at }

    was_read : (x : ℕ) (w z : Exchange) → t.exchange x ≡ Some w → now_on.exchange x ≡ Some z → IsSame t e x w z → z.is_open ≡ true →
        is_some z.head ≡ true → now_on.representation (family x z) ≡ None → IsReadPast now_on x z
    was_read x w z row after_row same opened headed none = by_heard same.heard_or
      where
        by_heard : ((z.head ≡ w.head) × (z.joined ≡ w.joined)) ⊎ IsHeaded t e x w z → IsReadPast now_on x z
        by_heard (inl all) =
            let had : is_some w.head ≡ true = sym (ap (λ (q : Option Response). is_some q) all.0) ∙ headed in
            let r = reads.read x w row (same.was_open opened) had
            (none_before (family x w) (sym (ap now_on.representation (ap (λ (q : Option ℕ). unwrap_or q x) all.1)) ∙ none)) in
            let on = is_kept t e w.c r.k r.row in
            on_as x w.c z r.k on.u same.c_is on.row (goes_on w.c x r.k w r.row r.place_is row had on.u on.row z after_row same opened)
        by_heard (inr came) =
            let it = got x w z came.response came.at row after_row same opened in
            let on = is_kept t e w.c it.0 it.1.row in
            on_as x w.c z it.0 on.u same.c_is on.row (read_now x w z came.response came.at row after_row same opened later on.u on.row none)

    by_from : (x : ℕ) (z : Exchange) → ExchangeFrom t e x z → now_on.exchange x ≡ Some z → z.is_open ≡ true → is_some z.head ≡ true →
        now_on.representation (family x z) ≡ None → IsReadPast now_on x z
    by_from x z (exchange.was w row same) after_row opened headed none = was_read x w z row after_row same opened headed none
    by_from x z (exchange.new p before opens here made) after_row opened headed none = absurd (false_true (ap (λ (q : Exchange). is_some q.head) made ∙ headed))

    pub read_kept : AreRead now_on
    read_kept = record {
      read =
          λ x z after_row opened headed none. by_from x z (exchange_from t e x (t.exchange x) z refl after_row) after_row opened headed none;
    }
