-- Whoever is bound and waits for no head goes on reading until it leaves.
--
-- Each event is looked at: a head for it would be one for which it waits, so none of them is for it (`heard_same`). It
-- doesn't start over, since it waits for no head (`waits_not`) and is sent back by none (`back_by`). Of the acts none
-- tells it to wait for others (`reported_not`), and an opening or a showing leaves who is bound where it is (`shows_on`).
-- `bound_stays` joins these, unless it is cancelled or leaves.
use Rattle.std.{proofs.{Common.{◌≡◌, inl, inr, ℕ, Bool, true, false, Option, Some, None, refl, ap, sym, ◌∙◌, arith}, lemmas.Bool.Decides.{nat_tests}}, specs.Prelude.{if◌then◌else◌, is_none, ◌&&◌, ◌==◌, not, nat_eq}}
use Rattle.hc_text.proofs.Basics.{and_left, and_right, bool_cases, not_some as none_some, same_some as same_row}
use Rattle.hc_effects.proofs.Vocabulary.{Opening, opening_in, leaves_in, Event, Response, Wait, Place, BoundBy, Showing, showing_in, wait_in, case_of, consumer_heard, consumer_acted, by_head, by_fault, by_opening, shown_place, waiting, due_after, denial, Entry, exchange_at, is_for, is_headless, entry_of, bound_to, Tables, Exchange, Consumer, starts_over, waits_at, sends_back, loses_what_it_waits_for, after_accepted, event, place, by}
use Rattle.hc_effects.proofs.{Basics.{false_true}, FirstKeeps.{is_new}, Forward.{is_kept}, PieceKeeps.{eq_cases}, Said.{waiting_by}, WaitedAs.{IsForOthers, waited_as}, Waiters.{fault_open_of}, StaysOn.{settled, stays_by, waits_where}, Step.{Step}}

pub none_of : (q : Option Response) → is_none q ≡ true → q ≡ None
none_of q g = grind (arith, nat_tests)

pub headless_parts : (z : Option Exchange) → is_headless z ≡ true → (w : Exchange) × (z ≡ Some w) × (w.is_open ≡ true) × (w.head ≡ None)
headless_parts None h = absurd (false_true h)
headless_parts (Some w) h = (w, refl, and_left _ _ h, none_of w.head (and_right w.is_open _ h))

module _ (step : Step) where
  open step use {limits, tables as t, now, flaw, sound as s, owners as o, event as ev, accepted as goes}

  abbrev e : Entry
  e = entry_of limits t now ev flaw

  abbrev now_on : Tables
  now_on = after_accepted t e

  module _ (c r lo : ℕ) (hi : Option ℕ) (how : BoundBy) (k : Consumer) (row : t.consumer c ≡ Some k) (at : k.place ≡ place.Bound r lo hi how)
      (no_waiter : (y : ℕ) (w : Exchange) → t.exchange y ≡ Some w → w.is_open ≡ true → w.head ≡ None → w.c ≡ c → ⊥) where
    pub head_not : (x : ℕ) (response : Response) (w : Exchange) → ev ≡ event.Head x response → t.exchange x ≡ Some w → w.c ≡ c → ⊥
    head_not x response w here exchange_row mine = let new = is_new limits t now flaw s ev goes x response w here exchange_row in
        no_waiter x w exchange_row new.is_open new.bare mine

    heard_same : (u : Event) → ev ≡ u → (u ≡ event.Cancel c → ⊥) → consumer_heard t e c u k ≡ k
    heard_same (event.Head x response) here stays = by_row (t.exchange x) refl
      where
        by_row : (z : Option Exchange) → t.exchange x ≡ z → by_head t e c x response z k ≡ k
        by_row None exchange_row = refl
        by_row (Some w) exchange_row = elim (eq_cases w.c c) [
          | inl mine ↦ absurd (head_not x response w here exchange_row mine.1)
          | inr off ↦ rw off.0 refl
        ]
    heard_same (event.Fault x) here stays = by_row (t.exchange x) refl
      where
        of_it : (w : Exchange) → t.exchange x ≡ Some w → (w.c == c) ≡ true → is_none w.head ≡ true → ⊥
        of_it w exchange_row mine none =
            let test : nat_eq w.c c ≡ true = mine in
            let same : w.c ≡ c = grind (arith, nat_tests) in
            no_waiter x w exchange_row (fault_open_of step x w (sym (ap (denial t) here) ∙ goes) exchange_row) (none_of w.head none) same

        by_row : (z : Option Exchange) → t.exchange x ≡ z → by_fault c x z k ≡ k
        by_row None exchange_row = refl
        by_row (Some w) exchange_row = elim (bool_cases (w.c == c && is_none w.head && not k.shown)) [
          | inl hit ↦ absurd (of_it w exchange_row (and_left _ _ (and_left _ _ hit)) (and_right _ _ (and_left _ _ hit)))
          | inr off ↦ rw off refl
        ]
    heard_same (event.Cancel d) here stays = elim (eq_cases d c) [
      | inl mine ↦ absurd (stays (ap event.Cancel mine.1))
      | inr off ↦ rw off.0 refl
    ]
    heard_same _ here stays = refl

    -- IT DOESN'T START OVER

    waits_not : (g : BoundBy) → how ≡ g → waits_at t (place.Bound r lo hi g) ≡ true → ⊥
    waits_not (by.FirstHole y) is h =
        let all = headless_parts (t.exchange y) h in
        let f = o.first_own c r lo y hi k row (at ∙ ap (place.Bound r lo hi) is) in
        no_waiter y all.0 all.1 all.2 all.3 (ap (λ (z : Exchange). z.c) (same_row (t.exchange y) all.0 f.w all.1 f.row) ∙ f.for_it)
    waits_not _ is h = false_true h

    back_by : (x : ℕ) (response : Response) (z : Option Exchange) → ev ≡ event.Head x response → t.exchange x ≡ z → is_for z c ≡ true → ⊥
    back_by x response None here exchange_row mine = false_true mine
    back_by x response (Some w) here exchange_row mine =
        let test : nat_eq w.c c ≡ true = mine in
        let same : w.c ≡ c = grind (arith, nat_tests) in
        head_not x response w here exchange_row same

    none_sends : sends_back None ≡ true → ⊥
    none_sends h = false_true h

    unheaded : (u : Event) (lost : Bool) → ev ≡ u → sends_back (case_of t lost u) ≡ true → is_for (exchange_at t u) c ≡ true → ⊥
    unfolding case_of
    unheaded (event.Head x response) lost here sends mine = back_by x response (t.exchange x) here refl mine
    unheaded _ lost here sends mine = none_sends sends

    stays_on : starts_over t e c k ≡ false
    stays_on = stays_by t e c k (λ lost. false_true (sym (ap (loses_what_it_waits_for t e c) at) ∙ lost))
        (λ doom waits. waits_not how refl (sym (ap (waits_at t) at) ∙ waits)) (unheaded ev _ refl)

    -- THE ACTS

    reported_not : (z : Wait) → IsForOthers z → wait_in c e.acts ≡ Some z → ⊥
    reported_not z others reported =
        let by_poll = waiting_by limits t now flaw s ev goes c z reported in
        let one : by_poll.k ≡ k = same_row (t.consumer c) by_poll.k k by_poll.poll.row row in
        let free = (waited_as t now c by_poll.k z others by_poll.want s by_poll.poll.row by_poll.move).free in
        none_some r (sym free ∙ (ap (λ (q : Consumer). bound_to q.place) one ∙ ap bound_to at))

    -- an opening and a showing leave it where it is bound
    opens_on : (q : Consumer) (z : Option Opening) → q.place ≡ place.Bound r lo hi how → (by_opening t c z q).place ≡ place.Bound r lo hi how
    opens_on q z stands = grind (arith, nat_tests)

    shows_on : (p : Place) (z : Option Showing) → p ≡ place.Bound r lo hi how → shown_place c z p ≡ place.Bound r lo hi how
    shows_on p z stands = grind (arith, nat_tests)

    stays_put : (p : Place) (leaves : Bool) → leaves ≡ false → (if leaves then place.Over else p) ≡ p
    stays_put p leaves off = rw off refl

    -- it stands where it stood
    pub record Stays : Type 0 where
      pub u : Consumer
      pub after : now_on.consumer c ≡ Some u
      pub heard_is : consumer_heard t e c ev k ≡ k
      pub is : due_after t e c k (consumer_acted t e c (consumer_heard t e c ev k)) ≡ u
      pub stands : u.place ≡ place.Bound r lo hi how

    pub bound_stays : (ev ≡ event.Cancel c → ⊥) → leaves_in c e.acts ≡ false → Stays
    bound_stays uncancelled stays =
        let on_row = is_kept t e c k row in
        let same : consumer_heard t e c ev k ≡ k = heard_same ev refl uncancelled in
        let made : due_after t e c k (consumer_acted t e c (consumer_heard t e c ev k)) ≡ on_row.u =
        sym (settled t e c k (consumer_acted t e c (consumer_heard t e c ev k)) stays_on) ∙ on_row.is in
        let waits : (waiting t e c k).place ≡ place.Bound r lo hi how = waits_where t k (wait_in c e.acts) reported_not ∙ at in
        let shown : shown_place c (showing_in e.acts) (by_opening t c (opening_in e.acts) (waiting t e c k)).place ≡ place.Bound r lo hi how =
        shows_on _ (showing_in e.acts) (opens_on (waiting t e c k) (opening_in e.acts) waits) in
        let acted : (consumer_acted t e c k).place ≡ place.Bound r lo hi how = stays_put _ (leaves_in c e.acts) stays ∙ shown in
        record {
          u = on_row.u;
          after = on_row.row;
          heard_is = same;
          is = made;
          stands = sym (ap (λ (z : Consumer). z.place) made) ∙ (ap (λ (h : Consumer). (consumer_acted t e c h).place) same ∙ acted);
        }
