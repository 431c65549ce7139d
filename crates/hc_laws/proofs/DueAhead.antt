-- Up to where its own exchange goes on the detached reader has all, or that brought nothing: also with a failure due.
--
-- As long as nothing is due this is known (`undue_ahead`). Where a failure was due already, an exclusive writer has no
-- open exchange of its own (`closed`). Where it becomes due now, no piece came of that exchange (`unpieced`), and what
-- was there still is (`covers`); so what was ahead is so still (`step`). Who wrote alone what is lost now had all
-- (`wrote_ahead`). `ahead_kept` joins these.
use Rattle.std.{proofs.Common.{◌≡◌, ◌⊎◌, inl, inr, ℕ, ◌≤◌, List, [], length, Bool, true, false, Option, Some, None, refl, ap, sym, ◌∙◌, subst, arith}, specs.Prelude.{if◌then◌else◌}}
use Rattle.hc_text.proofs.Basics.{and_off, not_some as none_some, same_some as same_row, some_inj}
use Rattle.hc_sparse.specs.Cells.{Covers}
use Rattle.hc_effects.proofs.Vocabulary.{Cause, Response, base_of, HeadCase, BoundBy, case_at, consumer_heard, consumer_acted, becomes_shared, Entry, base, front, is_for, becomes_due, stop_cause, cause_of_head, cause_by_case, entry_of, Measures, is_written, offset, own_open, reads, Tables, Exchange, Representation, Consumer, Sound, IsBound, IsExclusiveWriter, IsHad, after_accepted, has_more, event, case, place}
use Rattle.hc_model.specs.Sound as sound
use Rattle.hc_effects.proofs.{Forward.{is_on}, AboutKeeps.{own_open_is}, Basics.{false_true, some_row}, Beside.{IsBeside}, BoundFrom.{IsRow}, Covers.{grown, offset_more, headed_at}, Dues.{due_none, undue_of, stop_none, loss_at}, Exclusives.{IsExclusive}, ExchangeFrom.{IsSame, IsHeaded}, Fills.{Brings, brings, length_same}, FirstKeeps.{IsNew, is_new}, LossBy.{IsReal}, MeasuresKeep.{piece_taken}, OwnFrom.{OwnFrom, own_from}, ExclusiveWriters.{one_exclusive_writer}, RepFrom.{IsKept}, Survives.{goes_on}, Waiters.{waiter_as}, Step.{Step}}
use Rattle.hc_effects.proofs.Fills as fills_by
use Rattle.hc_laws.proofs.{GoAlone.{lost_of, was_there, opens_undue, left_loses, unwritten_lost, rest_more}, OwnNone.{IsShared, own_none}, ExclusiveWriterFrom.{ExclusiveWriterFrom, alone_from}}
use Rattle.hc_effects.proofs.OwnFrom as own
use Rattle.hc_laws.proofs.ExclusiveWriterFrom as exclusive_writers

-- its own exchange brought nothing, or all is there up to where that goes on
pub record IsAhead (t : Tables) (v : Representation) (k : Consumer) : Type 0 where
  pub x : ℕ
  pub w : Exchange
  pub own : k.own ≡ Some x
  pub row : t.exchange x ≡ Some w
  pub covered : (w.body ≡ []) ⊎ Covers v.body (offset t k) (front w)

pub record AreAhead (t : Tables) : Type 0 where
  pub ahead : (r c : ℕ) (v : Representation) (k : Consumer) → t.representation r ≡ Some v → v.alone ≡ Some c → IsBound t r c k → IsAhead t v k

-- as long as nothing is due
pub undue_ahead : (t : Tables) (r c : ℕ) (v : Representation) (k : Consumer) → Sound t → t.representation r ≡ Some v → v.alone ≡ Some c →
    IsBound t r c k → k.due ≡ None → IsAhead t v k
undue_ahead t r c v k s there alone reader none =
    let a = s.alone r c v k there alone reader none in
    record { x = a.x; w = a.w; own = a.own; row = a.row; covered = inr a.covered }

-- a head by which an exchange is written together makes nothing due
shared_undue : (t : Tables) (e : Entry) (response : Response) (w : Exchange) (x : ℕ) (g : Option HeadCase) → becomes_shared t e response w g ≡ true →
    cause_by_case g x ≡ None
shared_undue t e response w x (Some case.LaterBad) h = absurd (false_true h)
shared_undue t e response w x (Some case.LaterChanged) h = absurd (false_true h)
shared_undue t e response w x _ h = refl

module _ (step : Step) (m : Measures step.tables) (i : IsBeside step.tables) (real : IsReal step.limits step.tables step.now step.event step.flaw) where
  open step use {limits, tables as t, now, flaw, sound as s, owners as o, event as ev, accepted as goes}

  abbrev e : Entry
  e = entry_of limits t now ev flaw

  abbrev now_on : Tables
  now_on = after_accepted t e

  module _ (r c lo : ℕ) (hi : Option ℕ) (how : BoundBy) (u : Consumer) (p : Representation) (after : now_on.representation r ≡ Some p)
      (after_row : now_on.consumer c ≡ Some u) (stands : u.place ≡ place.Bound r lo hi how) (lost_now : p.is_lost ≡ true) (is_alone : p.alone ≡ Some c)
      (cause : Cause) (due : u.due ≡ Some cause) where
    module _ (k : Consumer) (v : Representation) (row : IsRow t e c r lo hi how k u) (at : k.place ≡ place.Bound r lo hi how)
        (there : t.representation r ≡ Some v) (kept : IsKept t e r v p) where
      reader : IsBound t r c k
      reader = sound.is_bound lo hi how row.row at

      -- it is the exclusive writer, of what isn't written together
      module _ (off : is_written t v ≡ false) (exclusive_writer : IsExclusiveWriter t r v c) (was : IsAhead t v k) where
        -- where something was due before, its own exchange was closed
        closed : (d : Cause) → k.due ≡ Some d → (x : ℕ) → own_open t k ≡ Some x → ⊥
        closed d was_due x opened = by_had (s.writes.had r x v there (s.writes.own_about r c x k reader opened))
          where
            by_row : (b : ℕ) (q : Consumer) → IsBound t r b q → b ≡ c → q.due ≡ None → ⊥
            by_row b q (sound.is_bound l h g q_row q_at) same none_due =
                none_some d (sym none_due ∙ (ap (λ (z : Consumer). z.due) (same_row (t.consumer c) q k (sym (ap t.consumer same) ∙ q_row) row.row) ∙ was_due))

            by_had : IsHad t r v x → ⊥
            by_had (sound.shared on writer) = false_true (sym off ∙ on)
            by_had (sound.own b q theirs own_opened none_due their_exclusive_writer) =
                by_row b q theirs (one_exclusive_writer t r v b c s their_exclusive_writer exclusive_writer) none_due

        -- else it becomes due now
        due_now : k.due ≡ None → becomes_due t e c k ≡ None → ⊥
        due_now none quiet = none_some cause
            (sym (due_none t e c k (consumer_acted t e c (consumer_heard t e c ev k)) u row.is (ap reads stands) none quiet) ∙ due)

        quiet_by : stop_cause t ev ≡ None → cause_of_head t e c ev ≡ None → becomes_due t e c k ≡ None
        quiet_by stop head = undue_of t e c k
            (record { stop = stop_none t e k stop; loss = loss_at t e c r lo hi how k v at there (and_off _ (is_written t v) off); head = head })

        -- an open one of its own stays as it is, or nothing becomes due
        unpieced : (x : ℕ) (bytes : List ℕ) → own_open t k ≡ Some x → ev ≡ event.Piece x bytes → ⊥
        unpieced x bytes opened here = by_due k.due refl
          where
            by_due : (z : Option Cause) → k.due ≡ z → ⊥
            by_due None none = due_now none (quiet_by (ap (stop_cause t) here) (ap (cause_of_head t e c) here))
            by_due (Some d) is = closed d is x opened

        unshared : IsShared t e c → ⊥
        unshared sh = by_due k.due refl
          where
            new : IsNew limits t now flaw s ev goes sh.x sh.w
            new = is_new limits t now flaw s ev goes sh.x sh.response sh.w sh.at sh.row

            mine : k.own ≡ Some sh.x
            mine = (waiter_as step c sh.x k sh.w row.row sh.row sh.mine new.is_open new.bare).own

            head_if : (b : Bool) → (if b then cause_by_case (case_at t e) sh.x else None) ≡ None
            head_if true = shared_undue t e sh.response sh.w sh.x (case_at t e) sh.shared
            head_if false = refl

            by_due : (z : Option Cause) → k.due ≡ z → ⊥
            by_due None none = due_now none (quiet_by (ap (stop_cause t) sh.at) (ap (cause_of_head t e c) sh.at ∙ head_if (is_for (t.exchange sh.x) c)))
            by_due (Some d) is = closed d is sh.x (own_open_is t k sh.x (record { own = mine; w = sh.w; row = sh.row; opened = new.is_open }))

        -- what came is still there
        covers : (a : ℕ) → Covers v.body (offset t k) a → Covers p.body (offset now_on u) a
        covers a all d from_u lt =
            let more : offset t k ≤ offset now_on u = offset_more step m i real r c lo hi how k u row at stands in
            grown step m i real r v p (offset t k) a there after all d (let begins : offset now_on u ≤ d = from_u in omega arith) lt

        still : (z : Exchange) → front z ≡ front was.w → z.body ≡ was.w.body → (z.body ≡ []) ⊎ Covers p.body (offset now_on u) (front z)
        still z ends body = elim was.covered [
          | inl empty ↦ inl (body ∙ empty)
          | inr all ↦ inr (subst (Covers p.body (offset now_on u)) (sym ends) (covers (front was.w) all))
        ]

        by_brings : (z : Exchange) → IsSame t e was.x was.w z → (z.head ≡ was.w.head) × (z.joined ≡ was.w.joined) → Brings t e was.x was.w z →
            (z.body ≡ []) ⊎ Covers p.body (offset now_on u) (front z)
        by_brings z same heard (fills_by.still none body_is) =
            let first : base z ≡ base was.w = ap base_of (length_same was.w z same.need_is same.request_is heard.0) in
            let count : length z.body ≡ length was.w.body = ap (λ (b : List ℕ). length b) body_is in
            still z (omega arith) body_is
        by_brings z same heard (fills_by.more bytes here body_is) =
            let taken = piece_taken step m was.x bytes was.w here was.row in
            absurd (unpieced was.x bytes (own_open_is t k was.x (record { own = was.own; w = was.w; row = was.row; opened = taken.is_open })) here)

        by_heard : (z : Exchange) → IsSame t e was.x was.w z → now_on.exchange was.x ≡ Some z →
            ((z.head ≡ was.w.head) × (z.joined ≡ was.w.joined)) ⊎ IsHeaded t e was.x was.w z → (z.body ≡ []) ⊎ Covers p.body (offset now_on u) (front z)
        by_heard z same after_x (inl heard) = by_brings z same heard (brings t e was.x was.w z was.row after_x)
        by_heard z same after_x (inr got) =
            inl (got.body_is ∙ (s.waits.headless was.x was.w was.row ((is_new limits t now flaw s ev goes was.x got.response was.w got.at was.row).bare)).0)

        kept_ahead : (x : ℕ) → u.own ≡ Some x → k.own ≡ Some x → IsAhead now_on p u
        kept_ahead x owned mine =
            let g = is_on t e was.x was.w was.row in
            record {
              x = was.x;
              w = g.u;
              own = owned ∙ ap Some (sym (some_inj was.x x (sym was.own ∙ mine)));
              row = g.row;
              covered =
                  by_heard g.u g.same g.row g.same.heard_or;
            }

        by_from : (x : ℕ) → u.own ≡ Some x → OwnFrom t e c x u → IsAhead now_on p u
        by_from x owned (own.kept q its mine heard_mine) =
            kept_ahead x owned (ap (λ (b : Consumer). b.own) (same_row (t.consumer c) k q row.row its.row) ∙ mine)
        by_from x owned (own.opened q g its opens mine number) =
            absurd (none_some cause (sym
            (opens_undue step m i real r c lo hi how u p after after_row stands lost_now is_alone k v row at there kept g opens mine) ∙ due))
        by_from x owned (own.left q its l) =
            absurd (false_true (sym off ∙
            (left_loses step m i real r c lo hi how u p after after_row stands lost_now is_alone k v row at there kept x q its.row l).0))

        by_none : (k.own ≡ None) ⊎ IsShared t e c → IsAhead now_on p u
        by_none (inl none) = absurd (none_some was.x (sym none ∙ was.own))
        by_none (inr sh) = absurd (unshared sh)

        steps_to : IsAhead now_on p u
        steps_to = by_own u.own refl
          where
            by_own : (z : Option ℕ) → u.own ≡ z → IsAhead now_on p u
            by_own None is = by_none (own_none t e c k u row.is is)
            by_own (Some x) is = by_from x is (own_from t e c x (t.consumer c) u refl after_row is)

      -- who wrote alone what is lost now
      wrote_ahead : v.is_lost ≡ false → IsExclusive t r c v → IsAhead t v k
      wrote_ahead fresh writes = by_own k.own refl
        where
          by_row : (q : Consumer) → IsBound t r c q → q ≡ k
          by_row q (sound.is_bound l h g q_row q_at) = same_row (t.consumer c) q k q_row row.row

          same : writes.k ≡ k
          same = by_row writes.k writes.reader

          none_due : k.due ≡ None
          none_due = ap (λ (z : Consumer). z.due) (sym same) ∙ writes.none_due

          by_head : (x : ℕ) (w : Exchange) → k.own ≡ Some x → t.exchange x ≡ Some w → (a : Option Response) → w.head ≡ a →
              (w.body ≡ []) ⊎ Covers v.body (offset t k) (front w)
          by_head x w mine w_row None bare = inl (s.waits.headless x w w_row bare).0
          by_head x w mine w_row (Some response) is =
              inr (subst (Covers v.body (offset t k)) (headed_at w (Some response) is refl)
              (i.covered r c x v k w there (sound.first fresh writes.first) reader none_due mine w_row))

          by_own : (z : Option ℕ) → k.own ≡ z → IsAhead t v k
          by_own None none = absurd
              (rest_more t r v k s there none (i.rested r c v k there fresh writes.first reader none_due none writes.unwritten)
              (ap (has_more t v) (sym same) ∙ writes.more))
          by_own (Some x) mine =
              let w = some_row (t.exchange x) (o.there c x k row.row mine) in
              record { x = x; w = w.0; own = mine; row = w.1; covered = by_head x w.0 mine w.1 w.0.head refl }

      by_exclusive_writer : AreAhead t → ExclusiveWriterFrom step m real r c v → IsAhead now_on p u
      by_exclusive_writer was (exclusive_writers.first fresh quiet is) = absurd (false_true (sym (kept.lost_is ∙ rw (quiet, fresh) refl) ∙ lost_now))
      by_exclusive_writer was (exclusive_writers.alone lost quiet is) =
          steps_to (unwritten_lost step m i real r c lo hi how u p after after_row stands lost_now is_alone k v row at there kept lost)
          (sound.alone lost is) (was.ahead r c v k there is reader)
      by_exclusive_writer was (exclusive_writers.wrote fresh loses writes) =
          steps_to writes.unwritten (sound.first fresh writes.first) (wrote_ahead fresh writes)
      by_exclusive_writer was (exclusive_writers.survives losing is) =
          let g = goes_on step m real r c v p u there losing is after after_row in
          record { x = g.is.x; w = g.is.w; own = g.is.own; row = g.is.row; covered = inr g.is.covered }

    due_ahead : AreAhead t → IsAhead now_on p u
    due_ahead was =
        let b = was_there step m i real r c lo hi how u p after after_row stands lost_now is_alone in
        by_exclusive_writer b.k b.v b.row b.at b.kept.row b.kept was (alone_from step m real r c b.v p b.kept.row b.kept lost_now is_alone)

  pub ahead_kept : AreAhead t → Sound now_on → AreAhead now_on
  ahead_kept was later = record { ahead = λ r c p u after is_alone reader. by_reader r c p u after is_alone reader u.due refl }
    where
      by_reader : (r c : ℕ) (p : Representation) (u : Consumer) → now_on.representation r ≡ Some p → p.alone ≡ Some c → IsBound now_on r c u →
          (z : Option Cause) → u.due ≡ z → IsAhead now_on p u
      by_reader r c p u after is_alone reader None none = undue_ahead now_on r c p u later after is_alone reader none
      by_reader r c p u after is_alone (sound.is_bound lo hi how after_row stands) (Some cause) due =
          due_ahead r c lo hi how u p after after_row stands (lost_of step m i real r c p after is_alone) is_alone cause due was
