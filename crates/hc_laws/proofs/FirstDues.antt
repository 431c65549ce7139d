-- As long as nothing is due for the one that became bound alone, nothing is due for whoever reads beside it.
--
-- Who isn't bound and reads nothing has nothing due (`idle_kept`), and a poll makes nothing due (`poll_undue`). Beside
-- who came alone another has no open exchange of its own (`no_own`), and waits for no head (`no_waiter`). So it reads
-- from the writing, as the first one does, to which nothing becomes due; or from nothing (`stop_by`). Nothing is lost
-- either. `beside` joins these.
use Rattle.std.{proofs.Common.{◌≡◌, inl, inr, ℕ, Bool, true, false, cond, Option, Some, None, refl, ap, sym, ◌∙◌}, specs.{Prelude.{if◌then◌else◌, ◌&&◌}, Option.{option_or}}}
use Rattle.hc_text.proofs.Basics.{and_left, and_right, not_some as none_some, never_true as not_so, same_some as same_row, some_inj}
use Rattle.hc_effects.proofs.Vocabulary.{Event, Response, Cause, is_same_number, Place, loses_in, case_at, consumer_heard, consumer_acted, consumer_made, consumer_after, back_in_line, Entry, exchange_in, is_for, is_open, becomes_due, cause_of_stop, cause_of_loss, cause_by_loss, cause_of_head, cause_by_case, stop_cause, entry_of, is_written, own_open, source, shared_exchange, group_in, reads, Tables, Exchange, Representation, Consumer, IsBound, IsFirst, IsExclusiveWriter, starts_over, after_accepted, loses_group, brings_body, event, place}
use Rattle.hc_model.specs.Sound as sound
use Rattle.hc_effects.proofs.{Basics.{false_true, or_false}, Dues.{IsUndue, undue_parts, undue_of, stop_none, loss_at}, FirstKeeps.{is_new}, PieceKeeps.{eq_cases}, ExclusiveWriters.{writer_some}, RepFrom.{was, founded, RepFrom, rep_from}, Stops.{source_is}, Waiters.{waiter_of, own_open_is}, Step.{Step}}

module _ (step : Step) where
  open step use {limits, tables as t, now, flaw, sound as s, owners as o, event as ev, accepted as goes}

  abbrev e : Entry
  e = entry_of limits t now ev flaw

  abbrev now_on : Tables
  now_on = after_accepted t e

  -- IDLE CONSUMERS

  idle_by : (q u : Consumer) (cause : Option Cause) (over reading : Bool) → reads q.place ≡ reading →
      (cond over (back_in_line e.now q) (record q { due = if reading then cause else None })) ≡ u → reads u.place ≡ false → u.due ≡ None
  idle_by q u cause true reading at is idle = sym (ap (λ (z : Consumer). z.due) is)
  idle_by q u cause false true at is idle = absurd (false_true (sym idle ∙ (sym (ap (λ (z : Consumer). reads z.place) is) ∙ at)))
  idle_by q u cause false false at is idle = sym (ap (λ (z : Consumer). z.due) is)

  started : (c : ℕ) (v : Event) (u : Consumer) → consumer_made c e.now v ≡ Some u → u.due ≡ None
  started c (event.Start d request) u is = elim (eq_cases d c) [
    | inl here ↦ sym (ap (λ (z : Consumer). z.due) (some_inj _ u (rw here.0 at is)))
    | inr off ↦ absurd (none_some u (rw off.0 at is))
  ]
  started c _ u is = absurd (none_some u is)

  idle_row : (c : ℕ) (z : Option Consumer) (u : Consumer) → consumer_after t e c z ≡ Some u → reads u.place ≡ false → u.due ≡ None
  unfolding consumer_after
  idle_row c None u is idle = started c ev u is
  idle_row c (Some k) u is idle = let q = consumer_acted t e c (consumer_heard t e c ev k) in
      idle_by q u (option_or k.due (becomes_due t e c k)) (starts_over t e c k) (reads q.place) refl (some_inj _ u is) idle

  pub idle_kept : (c : ℕ) (u : Consumer) → now_on.consumer c ≡ Some u → reads u.place ≡ false → u.due ≡ None
  idle_kept c u row idle = idle_row c (t.consumer c) u row idle

  -- AT A POLL NOTHING BECOMES DUE

  pub poll_undue : (c d want : ℕ) (k : Consumer) → ev ≡ event.Poll d want → IsUndue t e c k
  poll_undue c d want k here = record {
    stop = stop_none t e k (ap (stop_cause t) here);
    loss = loss_poll k.place;
    head = ap (cause_of_head t e c) here;
  }
    where
      off : (r : ℕ) (v : Representation) → loses_group t e r v ≡ false
      off r v = ap (λ z. brings_body z && loses_in r e.acts && is_written t v) here

      by_row : (r : ℕ) (z : Option Representation) → cause_by_loss t e c r z ≡ None
      by_row r None = refl
      by_row r (Some v) = rw (off r v) refl

      loss_poll : (p : Place) → cause_of_loss t e c p ≡ None
      loss_poll (place.Bound r lo hi how) = by_row r (t.representation r)
      loss_poll _ = refl

  -- A READER BESIDE THE FIRST ONE

  -- what isn't lost after the entry wasn't before
  pub unlost : (r : ℕ) (v u : Representation) → t.representation r ≡ Some v → now_on.representation r ≡ Some u → u.is_lost ≡ false → (v.is_lost ≡ false) ×
      (loses_in r e.acts ≡ false)
  unlost r v u row after kept = by_from (rep_from t e r (t.representation r) u refl after)
    where
      by_from : RepFrom t e r u → (v.is_lost ≡ false) × (loses_in r e.acts ≡ false)
      by_from (was q is) =
          let all = or_false (loses_in r e.acts) q.is_lost (sym is.lost_is ∙ kept) in
          (ap (λ (z : Representation). z.is_lost) (same_row (t.representation r) v q row is.row) ∙ all.1, all.0)
      by_from (founded response w none at exchange on is) = absurd (let never : None ≡ Some v = sym none ∙ row in cc)

  row_of : (r c : ℕ) (k : Consumer) → IsBound t r c k → t.consumer c ≡ Some k
  row_of r c k (sound.is_bound lo hi how row at) = row

  own_of : (k : Consumer) (x : ℕ) (z : Option ℕ) → k.own ≡ z → own_open t k ≡ Some x → k.own ≡ Some x
  own_of k x None is h = absurd (none_some x (rw is at h))
  own_of k x (Some y) is h = by_open (is_open (t.exchange y)) refl
    where
      by_open : (b : Bool) → is_open (t.exchange y) ≡ b → k.own ≡ Some x
      by_open true on = is ∙ (let h1 : Some y ≡ Some x = rw (is, on) at h in h1)
      by_open false off = absurd (none_some x (rw (is, off) at h))

  module _ (r c d : ℕ) (v : Representation) (k u : Consumer) (there : t.representation r ≡ Some v) (fresh : v.is_lost ≡ false)
      (kept : loses_in r e.acts ≡ false) (first : IsFirst t r c) (reader_c : IsBound t r c k) (none_c : k.due ≡ None)
      (undue_c : becomes_due t e c k ≡ None) (reader_d : IsBound t r d u) (apart : d ≡ c → ⊥) where
    -- another reader has no open exchange of its own
    no_own : (x : ℕ) → own_open t u ≡ Some x → ⊥
    no_own x own = elim (s.writes.had r x v there (s.writes.own_about r d x u reader_d own)) [
      | sound.shared on writer ↦ o.apart r x d v u there on writer (row_of r d u reader_d) (own_of u x u.own refl own)
      | sound.own g z reader theirs none exclusive_writer ↦ by_exclusive_writer g z reader theirs exclusive_writer
    ]
      where
        by_exclusive_writer : (g : ℕ) (z : Consumer) → IsBound t r g z → own_open t z ≡ Some x → IsExclusiveWriter t r v g → ⊥
        by_exclusive_writer g z reader theirs (sound.alone lost is) = false_true (sym fresh ∙ lost)
        by_exclusive_writer g z reader theirs (sound.first kept_too is) =
            apart (o.one d g x u z (row_of r d u reader_d) (row_of r g z reader) (own_of u x u.own refl own) (own_of z x z.own refl theirs) ∙
            s.writes.one_first r g c is first)

    no_waiter : (x : ℕ) (w : Exchange) → t.exchange x ≡ Some w → w.is_open ≡ true → w.head ≡ None → w.c ≡ d → ⊥
    no_waiter x w row opened bare mine =
        let got = waiter_of step x w row opened bare in
        let one : got.0 ≡ u = same_row (t.consumer d) got.0 u (sym (ap t.consumer mine) ∙ got.1.row) (row_of r d u reader_d) in
        no_own x (sym (ap (own_open t) one) ∙ own_open_is step w.c x got.0 w got.1)

    head_by : (x : ℕ) (response : Response) (z : Option Exchange) → ev ≡ event.Head x response → t.exchange x ≡ z →
        (if is_for z d then cause_by_case (case_at t e) x else None) ≡ None
    head_by x response None here row = refl
    head_by x response (Some w) here row = elim (eq_cases w.c d) [
      | inr off ↦ rw off.0 refl
      | inl mine ↦ absurd (let new = is_new limits t now flaw s ev goes x response w here row in no_waiter x w row new.is_open new.bare mine.1)
    ]

    head_none : (z : Event) → ev ≡ z → cause_of_head t e d z ≡ None
    head_none (event.Head x response) here = head_by x response (t.exchange x) here refl
    head_none _ here = refl

    loss_none : IsBound t r d u → cause_of_loss t e d u.place ≡ None
    loss_none (sound.is_bound lo hi how row at) =
        loss_at t e d r lo hi how u v at there (not_so _ (λ h. false_true (sym kept ∙ and_right _ _ (and_left _ _ h))))

    -- what stops for it stops for the first one
    source_same : (z y : Option ℕ) → own_open t u ≡ z → is_written t v ≡ true → v.writer ≡ y → (source t u ≡ source t k)
    source_same z None own on writer = absurd (writer_some t v on writer)
    source_same z (Some x) own on writer = source_is t r d x v u s there reader_d on writer ∙ sym (source_is t r c x v k s there reader_c on writer)

    shared_off : IsBound t r d u → is_written t v ≡ false → shared_exchange t u.place ≡ None
    shared_off (sound.is_bound lo hi how row at) off = ap (shared_exchange t) at ∙ (ap (group_in t) there ∙ rw off refl)

    stop_by : (z : Option ℕ) (b : Bool) → own_open t u ≡ z → is_written t v ≡ b → cause_of_stop t e u ≡ None
    stop_by (Some x) b own on = absurd (no_own x own)
    stop_by None true own on =
        let same = source_same None v.writer own on refl in
        ap (λ (z : Option ℕ). if is_same_number z (exchange_in e.event) then stop_cause t e.event else None) same ∙ (undue_parts t e c k undue_c).stop
    stop_by None false own off =
        let none : source t u ≡ None = ap (λ z. option_or z (shared_exchange t u.place)) own ∙ shared_off reader_d off in
        ap (λ (z : Option ℕ). if is_same_number z (exchange_in e.event) then stop_cause t e.event else None) none

    pub beside : (u.due ≡ None) × (becomes_due t e d u ≡ None)
    beside = (
      o.first_due r c d v k u there fresh first (row_of r c k reader_c) none_c reader_d,
      undue_of t e d u (record { stop = stop_by (own_open t u) (is_written t v) refl refl; loss = loss_none reader_d; head = head_none ev refl }),
    )
