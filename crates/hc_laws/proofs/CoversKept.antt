-- After an entry the exclusive writer has all up to where its exchange goes on.
--
-- By how the exclusive writer became bound (`by_way`). Who was bound keeps its exchange (`kept_own`), opens one
-- (`opened_own`), or is left that of a writing, to whose front it was given all (`left_own`, `survived`). Who founds
-- has the exchange of the head, which begins no later than it reads (`founded`). Before a first hole all is stored
-- (`opens_first`). Who is shown what is current doesn't write alone (`shown`). `covered_kept` joins these.
use Rattle.std.{proofs.Common.{◌≡◌, ◌⊎◌, inl, inr, ℕ, ◌+◌, ◌≤◌, true, false, Option, Some, None, refl, ap, sym, ◌∙◌, subst, arith}, specs.Prelude.{is_some, nat_eq}}
use Rattle.hc_text.proofs.Basics.{and_left, not_some as none_some, same_some as same_row, some_inj}
use Rattle.hc_sparse.specs.Cells.{Covers}
use Rattle.hc_effects.proofs.Vocabulary.{Opening, opening_in, Response, route_of, BoundBy, Showing, showing_in, case_at, consumer_heard, consumer_acted, by_opening, waiting, due_after, Entry, exchange_opened, front, entry_of, Measures, bound_to, offset, lo_of, reads, hole_start, Tables, Exchange, Representation, Consumer, IsBound, IsExclusiveWriter, after_accepted, brings_body, came_alone, loses_group, survivor, event, route, place, by}
use Rattle.hc_model.specs.Sound as sound
use Rattle.hc_effects.proofs.{Forward.{opened_on, is_on}, Basics.{false_true, some_row}, Beside.{IsBeside, goes_on_at}, BoundFrom.{BoundFrom, IsRow, IsFounded, IsFirstHole, IsShown, bound_from, place_inj}, BoundKeeps.{planned_at}, Covers.{own_covers, grown, offset_more, later_start, headed_at}, ExchangeFrom.{IsSame, IsHeaded}, FirstKeeps.{is_new}, LossBy.{IsReal}, OwnFrom.{OwnFrom, IsLeft, own_from, after_by}, OwnersKeep.{is_opened, new_number}, PieceKeeps.{eq_cases}, PollKeeps.{current_stays}, RepFrom.{RepFrom, rep_from, IsKept}, Said.{ShowsBy, showing_by}, ShownFrom.{stored, joins, ShownAs, IsPlanned}, Survives.{goes_on}, ToBeShown.{heard_place}, Waiters.{IsWaiter, waiter_of}, Step.{Step}}
use Rattle.hc_effects.proofs.BoundFrom as from
use Rattle.hc_laws.proofs.{CoversNew.{founds_within, hole_covers}, ExclusiveWriterFrom.{wrote, survives, first, alone, ExclusiveWriterFrom, alone_from, exclusive_writer_from, had_exclusive_writer}}
use Rattle.hc_effects.proofs.OwnFrom as own
use Rattle.hc_effects.proofs.RepFrom as rep

module _ (step : Step) (m : Measures step.tables) (i : IsBeside step.tables) (real : IsReal step.limits step.tables step.now step.event step.flaw) where
  open step use {limits, tables as t, now, flaw, sound as s, owners as o, event as ev, accepted as goes}

  abbrev e : Entry
  e = entry_of limits t now ev flaw

  abbrev now_on : Tables
  now_on = after_accepted t e

  brings_group : (r : ℕ) (v : Representation) → loses_group t e r v ≡ true → brings_body ev ≡ true
  brings_group r v h = and_left _ _ (and_left _ _ h)

  -- who isn't bound to what is there and isn't gone doesn't go on with it
  pub not_alone : (r c : ℕ) (v p : Representation) (k : Consumer) → t.consumer c ≡ Some k → bound_to k.place ≡ None → t.representation r ≡ Some v →
      v.is_gone ≡ false → brings_body ev ≡ false → IsKept t e r v p → p.is_lost ≡ true → p.alone ≡ Some c → ⊥
  not_alone r c v p k row free there not_gone quiet_event kept lost is = by_exclusive_writer (alone_from step m real r c v p there kept lost is)
    where
      bound_not : (q : Consumer) → IsBound t r c q → ⊥
      bound_not q (sound.is_bound lo hi how q_row at) =
          none_some r (sym free ∙ ap bound_to (ap (λ (z : Consumer). z.place) (same_row (t.consumer c) k q row q_row) ∙ at))

      by_exclusive_writer : ExclusiveWriterFrom step m real r c v → ⊥
      by_exclusive_writer (first fresh quiet is) = false_true (sym (kept.lost_is ∙ rw (quiet, fresh) refl) ∙ lost)
      by_exclusive_writer (alone was quiet is) = false_true (sym not_gone ∙ (s.rows r v there).store.lost_is_gone was)
      by_exclusive_writer (wrote fresh loses x) = bound_not x.k x.reader
      by_exclusive_writer (survives losing is) = false_true (sym quiet_event ∙ brings_group r v losing)

  -- what is opened for it is its own
  pub own_opened : (c x : ℕ) (k u : Consumer) (q : Opening) → due_after t e c k (consumer_acted t e c (consumer_heard t e c ev k)) ≡ u → opening_in
      e.acts ≡ Some q → q.c ≡ c → u.own ≡ Some x → q.x ≡ x
  own_opened c x k u q made opens mine owned =
      let h = consumer_heard t e c ev k in
      let w = waiting t e c h in
      let test : nat_eq q.c c ≡ true = eq_true q.c c mine in
      let opened : (by_opening t c (opening_in e.acts) w).own ≡ Some q.x = ap (λ z. (by_opening t c z w).own) opens ∙ rw test refl in
      by_after (by_opening t c (opening_in e.acts) w).own opened
      (after_by t e c x h.place (by_opening t c (opening_in e.acts) w).own (ap (λ (z : Consumer). z.own) made ∙ owned))
    where
      eq_true : (a b : ℕ) → a ≡ b → nat_eq a b ≡ true
      eq_true a b is = elim (eq_cases a b) [ inl here ↦ here.0 | inr other ↦ absurd (other.1 is) ]

      by_after : (a : Option ℕ) → a ≡ Some q.x → (a ≡ Some x) ⊎ IsLeft t e c x (consumer_heard t e c ev k).place → q.x ≡ x
      by_after a is (inl same) = some_inj q.x x (sym is ∙ same)
      by_after a is (inr left) = let by_poll = is_opened step q opens in
          absurd (false_true (sym (ap brings_body by_poll.at) ∙ brings_group left.r left.v left.loses))

  -- an exchange that was opened
  pub opened_row : (x : ℕ) (q : Opening) (z : Exchange) → opening_in e.acts ≡ Some q → q.x ≡ x → now_on.exchange x ≡ Some z → exchange_opened t e q ≡ z
  opened_row x q z opens this after_x =
      same_row (now_on.exchange x) (exchange_opened t e q) z (opened_on t e x q (t.exchange x) (new_number step q x opens this) opens this) after_x

  module _ (r c x lo : ℕ) (hi : Option ℕ) (how : BoundBy) (u : Consumer) (p : Representation) (z : Exchange) (after : now_on.representation r ≡ Some p)
      (after_row : now_on.consumer c ≡ Some u) (stands : u.place ≡ place.Bound r lo hi how) (none : u.due ≡ None) (owned : u.own ≡ Some x)
      (after_x : now_on.exchange x ≡ Some z) (exclusive_writer : IsExclusiveWriter now_on r p c) where
    abbrev IsCovered : Type 0
    IsCovered = Covers p.body (offset now_on u) (goes_on_at z z.head)

    offset_is : offset now_on u ≡ lo + u.given
    offset_is = ap (λ q. lo_of now_on q + u.given) stands

    nothing_before : goes_on_at z z.head ≤ offset now_on u → IsCovered
    nothing_before le d from_u lt = absurd (let begins : offset now_on u ≤ d = from_u in omega arith)

    -- IT WAS BOUND

    survived : (v : Representation) → t.representation r ≡ Some v → loses_group t e r v ≡ true → survivor t r v ≡ Some c → IsCovered
    survived v there losing is =
        let g = goes_on step m real r c v p u there losing is after after_row in
        let one : g.is.w ≡ z = same_row (now_on.exchange x) g.is.w z (sym (ap now_on.exchange (some_inj g.is.x x (sym g.is.own ∙ owned))) ∙ g.is.row) after_x in
        let front_is : front g.is.w ≡ front z = ap (λ (a : Exchange). front a) one in
        let at : goes_on_at z z.head ≡ front z = headed_at z z.head refl (ap (λ (a : Exchange). is_some a.head) (sym one) ∙ g.headed) in
        (λ d from_u lt. g.is.covered d from_u (omega arith))

    module _ (k : Consumer) (v : Representation) (row : IsRow t e c r lo hi how k u) (at : k.place ≡ place.Bound r lo hi how)
        (there : t.representation r ≡ Some v) (kept : IsKept t e r v p) where
      one_k : (q : Consumer) → t.consumer c ≡ Some q → q ≡ k
      one_k q q_row = same_row (t.consumer c) q k q_row row.row

      kept_own : k.own ≡ Some x → IsCovered
      kept_own mine = elim (had_exclusive_writer step m real r c v
          (exclusive_writer_from step m real r c lo hi how k u v p row.row at there kept after_row stands exclusive_writer)) [
            | inr both ↦ survived v there both.0 both.1
            | inl was ↦
                let w = some_row (t.exchange x) (o.there c x k row.row mine) in
                let g = is_on t e x w.0 w.1 in
                let one : g.u ≡ z = same_row (now_on.exchange x) g.u z g.row after_x in
                own_covers step m i real r c lo hi how k u row at stands x w.0 z v p there kept after none mine w.1 (subst (IsSame t e x w.0) one g.same)
                after_x was
          ]

      opened_own : (q : Opening) → opening_in e.acts ≡ Some q → q.c ≡ c → q.x ≡ x → IsCovered
      opened_own q opens mine this =
          let start : goes_on_at z z.head ≡ hole_start q.need = ap (λ (a : Exchange). goes_on_at a a.head) (sym (opened_row x q z opens this after_x)) in
          let le : hole_start q.need ≤ offset t k = later_start step m i real r c lo hi how k u row at stands q opens mine in
          let more : offset t k ≤ offset now_on u = offset_more step m i real r c lo hi how k u row at stands in
          nothing_before (omega arith)

      left_own : IsLeft t e c x (consumer_heard t e c ev k).place → IsCovered
      left_own l =
          let placed : u.place ≡ (consumer_heard t e c ev k).place =
          heard_place step c r lo hi how k u (λ d want polls. false_true (sym (ap brings_body polls) ∙ brings_group l.r l.v l.loses)) row in
          let number : l.r ≡ r = (place_inj l.r l.lo l.hi l.how r lo hi how (sym l.at ∙ (sym placed ∙ stands))).number in
          let row_r : t.representation r ≡ Some l.v = sym (ap t.representation number) ∙ l.row in
          survived l.v row_r (subst (λ n. loses_group t e n l.v ≡ true) number l.loses) (subst (λ n. survivor t n l.v ≡ Some c) number l.survives)

      was_bound : OwnFrom t e c x u → IsCovered
      was_bound (own.kept q q_row mine heard_mine) = kept_own (ap (λ (a : Consumer). a.own) (sym (one_k q q_row.row)) ∙ mine)
      was_bound (own.opened q p_open q_row opens mine this) = opened_own p_open opens mine this
      was_bound (own.left q q_row l) = left_own (subst (λ (a : Consumer). IsLeft t e c x (consumer_heard t e c ev a).place) (one_k q q_row.row) l)

    -- IT FOUNDS

    founded : (k : Consumer) (y : ℕ) (response : Response) (w : Exchange) → IsRow t e c r lo hi how k u → ev ≡ event.Head y response →
        t.exchange y ≡ Some w → w.c ≡ c → y ≡ r → IsFounded t e c r lo hi how y response w k (case_at t e) → OwnFrom t e c x u → IsCovered
    founded k y response w row here exchange_row mine of_r all own_of = by_own own_of
      where
        unfounded : t.representation r ≡ None
        unfounded = sym (ap t.representation of_r) ∙ (is_new limits t now flaw s ev goes y response w here exchange_row).unfounded

        waits : (q : Consumer) × IsWaiter t w.c y q w
        waits = let new = is_new limits t now flaw s ev goes y response w here exchange_row in waiter_of step y w exchange_row new.is_open new.bare

        own_k : k.own ≡ Some y
        own_k = let got = waits in ap (λ (q : Consumer). q.own) (sym (same_row (t.consumer c) got.0 k (sym (ap t.consumer mine) ∙ got.1.row) row.row)) ∙
            got.1.own

        by_number : x ≡ y → IsCovered
        by_number number =
            let g = is_on t e y w exchange_row in
            by_heard g.u g.same (same_row (now_on.exchange y) g.u z g.row (sym (ap now_on.exchange number) ∙ after_x)) g.same.heard_or
          where
            by_heard : (a : Exchange) (same : IsSame t e y w a) → a ≡ z → ((a.head ≡ w.head) × (a.joined ≡ w.joined)) ⊎ IsHeaded t e y w a → IsCovered
            by_heard a same one (inl still) =
                absurd (same.unheard (still.0 ∙ (is_new limits t now flaw s ev goes y response w here exchange_row).bare) response here)
            by_heard a same one (inr got) =
                let le : front a ≤ lo = founds_within step c r lo hi how y response w a k here exchange_row mine row.row same got all in
                let at_a : goes_on_at a a.head ≡ front a = headed_at a (Some got.response) got.head_is refl in
                let at_z : goes_on_at a a.head ≡ goes_on_at z z.head = ap (λ (b : Exchange). goes_on_at b b.head) one in
                let begins : offset now_on u ≡ lo + u.given = offset_is in
                nothing_before (omega arith)

        by_own : OwnFrom t e c x u → IsCovered
        by_own (own.kept q q_row theirs heard_theirs) =
            by_number (some_inj x y (sym (ap (λ (a : Consumer). a.own) (same_row (t.consumer c) k q row.row q_row.row) ∙ theirs) ∙ own_k))
        by_own (own.opened q p_open q_row opens theirs this) = let by_poll = is_opened step p_open opens in
            absurd (let no : event.Head y response ≡ event.Poll p_open.c by_poll.want = sym here ∙ by_poll.at in cc)
        by_own (own.left q q_row l) =
            let one : q ≡ k = same_row (t.consumer c) q k q_row.row row.row in
            let placed : u.place ≡ (consumer_heard t e c ev k).place =
            heard_place step c r lo hi how k u (λ d want polls. let no : event.Head y response ≡ event.Poll d want = sym here ∙ polls in cc) row in
            let at_l : (consumer_heard t e c ev k).place ≡ place.Bound l.r l.lo l.hi l.how =
            ap (λ (a : Consumer). (consumer_heard t e c ev a).place) (sym one) ∙ l.at in
            absurd (none_some l.v (sym unfounded ∙
            (sym (ap t.representation ((place_inj l.r l.lo l.hi l.how r lo hi how (sym at_l ∙ (sym placed ∙ stands))).number)) ∙ l.row)))

    -- ITS FIRST HOLE IS OPENED

    opens_first : (k : Consumer) (q : Opening) → IsRow t e c r lo hi how k u → opening_in e.acts ≡ Some q → q.c ≡ c →
        bound_to (waiting t e c (consumer_heard t e c ev k)).place ≡ None → route_of q.need ≡ route.Hole →
        IsFirstHole t e c r lo hi how q (waiting t e c (consumer_heard t e c ev k)) → IsCovered
    opens_first k q row opens mine free way hole d from_u lt =
        let made = opened_row x q z opens (own_opened c x k u q row.is opens mine owned) after_x in
        let start : goes_on_at z z.head ≡ hole_start q.need = ap (λ (a : Exchange). goes_on_at a a.head) (sym made) in
        let covers_v = hole_covers step c r lo hi how k u q row opens mine free way hole in
        let begins : offset now_on u ≡ lo + u.given = offset_is in
        let after_lo : lo ≤ d = (let at_u : offset now_on u ≤ d = from_u in omega arith) in
        grown step m i real r hole.v p lo (hole_start q.need) hole.row after covers_v d after_lo (omega arith)

    -- IT IS SHOWN WHAT IS CURRENT

    shown : (k : Consumer) (a : Showing) → IsRow t e c r lo hi how k u → showing_in e.acts ≡ Some a →
        IsShown t e c r lo hi how a (by_opening t c (opening_in e.acts) (waiting t e c (consumer_heard t e c ev k))).place → RepFrom t e r p → IsCovered
    shown k a row is all from_rep = by_exclusive_writer exclusive_writer
      where
        planned : IsPlanned t now a.c k a
        planned = planned_at limits t now flaw s ev goes a k (ap t.consumer all.at ∙ row.row) is
            (subst (λ d. reads (by_opening t d (opening_in e.acts) (waiting t e d (consumer_heard t e d ev k))).place ≡ false) (sym all.at) all.free)

        shows : ShowsBy t now ev a
        shows = showing_by limits t now flaw s ev goes a is

        current_v : ShownAs t now a.c k a.r a.lo a.hi → (v : Representation) → t.representation r ≡ Some v → v.is_gone ≡ false
        current_v (joins q current_is q_row on from_is to) v there = current_stays t _ r v (current_is ∙ ap Some all.of_r) there
        current_v (stored q span current_is q_row off wanted_is none_is from_is to) v there = current_stays t _ r v (current_is ∙ ap Some all.of_r) there

        by_rep : p.is_lost ≡ true → p.alone ≡ Some c → RepFrom t e r p → ⊥
        by_rep lost is (rep.founded response w none_there here exchange_row on made) = false_true (ap (λ (q : Representation). q.is_lost) made ∙ lost)
        by_rep lost is (rep.was v kept) =
            not_alone r c v p k row.row planned.free kept.row (current_v planned.shown_as v kept.row) (ap brings_body shows.poll.at) kept lost is

        by_exclusive_writer : IsExclusiveWriter now_on r p c → IsCovered
        by_exclusive_writer (sound.alone lost is) = absurd (by_rep lost is from_rep)
        by_exclusive_writer (sound.first fresh (sound.first q b d g q_row q_at came)) =
            let one : q ≡ u = same_row (now_on.consumer c) q u q_row after_row in
            let plan : g ≡ by.Plan = (place_inj r b d g r lo hi how (sym q_at ∙ (ap (λ (w : Consumer). w.place) one ∙ stands))).by_is ∙ all.by_is in
            absurd (false_true (subst (λ w. came_alone now_on (place.Bound r b d w) ≡ true) plan came))

    by_way : BoundFrom t e c r lo hi how u → RepFrom t e r p → OwnFrom t e c x u → IsCovered
    by_way (from.stays k row at) (rep.was v kept) own_of = was_bound k v row at kept.row kept own_of
    by_way (from.stays k row at) (rep.founded response w none_there here exchange_row on made) own_of =
        absurd (let there = s.numbered.bound_to r c k (sound.is_bound lo hi how row.row at) in false_true (sym (ap is_some none_there) ∙ there))
    by_way (from.founds k y response w row here exchange_row mine of_r by_is all) from_rep own_of =
        founded k y response w row here exchange_row mine of_r all own_of
    by_way (from.opens k q row opens mine free way hole) from_rep own_of = opens_first k q row opens mine free way hole
    by_way (from.shows k a row is all) from_rep own_of = shown k a row is all from_rep

  pub covered_kept : (r c x : ℕ) (p : Representation) (u : Consumer) (z : Exchange) → now_on.representation r ≡ Some p → IsExclusiveWriter now_on r p c →
      IsBound now_on r c u → u.due ≡ None → u.own ≡ Some x → now_on.exchange x ≡ Some z → Covers p.body (offset now_on u) (goes_on_at z z.head)
  covered_kept r c x p u z after exclusive_writer (sound.is_bound lo hi how after_row stands) none owned after_x =
      by_way r c x lo hi how u p z after after_row stands none owned after_x exclusive_writer
      (bound_from t e c r lo hi how (t.consumer c) u refl after_row stands) (rep_from t e r (t.representation r) p refl after)
      (own_from t e c x (t.consumer c) u refl after_row owned)
