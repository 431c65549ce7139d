-- Whose an exchange is that is opened for a hole, or whose head comes.
--
-- At a poll nothing becomes due. Who opens for a later hole is the exclusive writer of what it reads already, and stays
-- so (`later`, `exclusive_writer_quiet`). Who opens for a first hole opens it where nobody is bound, so it becomes the
-- only one (`first`); it had nothing due, and didn't read past the store (`idle`, `by_past`). `opened_had` joins the
-- two by how it is bound, and `new_had` is of any exchange that is opened for a hole.
use Rattle.std.{proofs.Common.{◌≡◌, ℕ, Bool, true, false, Option, Some, None, refl, ap, sym, ◌∙◌, subst}, specs.Prelude.{is_some}}
use Rattle.hc_text.proofs.Basics.{never_true, not_some as none_some, same_some as same_row, some_inj}
use Rattle.hc_effects.proofs.Vocabulary.{Opening, opening_in, route_of, Place, BoundBy, loses_in, consumer_heard, consumer_acted, waiting, due_after, Entry, exchange_opened, aim_from, is_headless, becomes_due, entry_of, Measures, IsAwaiting, Awaits, IsPast, shows_at, shows_direct, move_of, if_headless, bound, bound_to, own_open, reads, Tables, Exchange, Representation, Consumer, IsBound, IsAbout, IsHad, IsExclusiveWriter, IsFirst, after_accepted, brings_body, came_alone, event, route, place}
use Rattle.hc_model.specs.Owners as owners
use Rattle.hc_model.specs.Sound as sound
use Rattle.hc_effects.proofs.{AboutKeeps.{own_open_is}, Basics.{false_true, some_none}, BoundFrom.{BoundFrom, IsRow, bound_from}, BoundKeeps.{opens_none}, Dues.{undue_of, due_none}, FirstKeeps.{came_kept, is_opener, open_free}, LossBy.{IsReal, IsSealing, sealed_loss}, OpensFrom.{opens_hole, hole_is}, OwnersKeep.{is_opened}, ExclusiveWriters.{bound_some, none_about, has_exclusive_writer, none_about_hole}, PollKeeps.{current_stays}, RepFrom.{was, founded, RepFrom, rep_from, IsKept}, Said.{IsOpening, opening_by, showing_by}, ServedKeeps.{kept_alone}, WaitingKeeps.{waiting_kept}, ReadingKeeps.{some_of}, Step.{Step}}
use Rattle.hc_effects.proofs.BoundFrom as from
use Rattle.hc_laws.proofs.FirstDues.{poll_undue}
use Rattle.hc_effects.proofs.PollTree as tree

module _ (step : Step) (m : Measures step.tables) (real : IsReal step.limits step.tables step.now step.event step.flaw) where
  open step use {limits, tables as t, now, flaw, sound as s, owners as o, event as ev, accepted as goes}

  abbrev e : Entry
  e = entry_of limits t now ev flaw

  abbrev now_on : Tables
  now_on = after_accepted t e

  -- OPENED

  module _ (r x c want lo : ℕ) (hi : Option ℕ) (how : BoundBy) (q : Opening) (u : Consumer) (z : Exchange) (p : Representation)
      (after : now_on.representation r ≡ Some p) (after_row : now_on.consumer c ≡ Some u) (stands : u.place ≡ place.Bound r lo hi how)
      (opens : opening_in e.acts ≡ Some q) (mine : q.c ≡ c) (polls : ev ≡ event.Poll c want) (own_u : own_open now_on u ≡ Some x)
      (hole : route_of q.need ≡ route.Hole) where
    undue_poll : (k : Consumer) → becomes_due t e c k ≡ None
    undue_poll k = undue_of t e c k (poll_undue step c c want k polls)

    none_after : (k : Consumer) → due_after t e c k (consumer_acted t e c (consumer_heard t e c ev k)) ≡ u → k.due ≡ None → u.due ≡ None
    none_after k is none = due_none t e c k (consumer_acted t e c (consumer_heard t e c ev k)) u is (ap reads stands) none (undue_poll k)

    quiet : (v : Representation) → t.representation r ≡ Some v → (IsSealing step m real r → ⊥) → loses_in r e.acts ≡ false
    quiet v there none = never_true (loses_in r e.acts) (λ loses. none (sealed_loss step m real r v there loses (ap brings_body polls)))

    had : u.due ≡ None → IsExclusiveWriter now_on r p c → IsHad now_on r p x
    had none exclusive_writer = sound.own c u (sound.is_bound lo hi how after_row stands) own_u none exclusive_writer

    -- A LATER HOLE

    exclusive_writer_quiet : (k : Consumer) (v : Representation) → t.consumer c ≡ Some k → k.place ≡ place.Bound r lo hi how →
        t.representation r ≡ Some v → IsKept t e r v p → loses_in r e.acts ≡ false → IsExclusiveWriter t r v c → IsExclusiveWriter now_on r p c
    exclusive_writer_quiet k v row at there kept still (sound.first new is) =
        sound.first ((kept_alone step m real r v p kept still).0 ∙ new)
        (sound.first u lo hi how after_row stands (came_kept limits t now flaw s ev goes r lo hi how (ap is_some there) ∙ first_same is))
      where
        first_same : IsFirst t r c → came_alone t (place.Bound r lo hi how) ≡ true
        first_same (sound.first a l h g a_row a_at alone) =
            subst (λ y. came_alone t y ≡ true) (sym a_at ∙ (ap (λ (y : Consumer). y.place) (same_row (t.consumer c) a k a_row row) ∙ at)) alone
    exclusive_writer_quiet k v row at there kept still (sound.alone lost is) = let all = kept_alone step m real r v p kept still in
        sound.alone (all.0 ∙ lost) (all.1 ∙ is)

    same_place : (n : ℕ) (k a : Consumer) → k.place ≡ place.Bound r lo hi how → t.consumer c ≡ Some k → IsBound t n c a → n ≡ r
    same_place n k a at row (sound.is_bound l h g a_row a_at) =
        (from.place_inj n l h g r lo hi how (sym a_at ∙ (ap (λ (y : Consumer). y.place) (same_row (t.consumer c) a k a_row row) ∙ at))).number

    opening_of : (k : Consumer) → t.consumer c ≡ Some k → (n : ℕ) × IsOpening q (move_of t now n c k)
    opening_of k row =
        let poll = opening_by limits t now flaw s ev goes q opens in
        let same_k : poll.k ≡ k = same_row (t.consumer c) poll.k k (sym (ap t.consumer mine) ∙ poll.poll.row) row in (
          poll.want,
          subst (λ (a : Consumer). IsOpening q (move_of t now poll.want c a)) same_k
              (subst (λ d. IsOpening q (move_of t now poll.want d poll.k)) mine poll.move),
        )

    later : (k : Consumer) → IsRow t e c r lo hi how k u → k.place ≡ place.Bound r lo hi how → RepFrom t e r p → IsHad now_on r p x
    later k row at (founded response w none here exchange_row on made) =
        absurd (let is_there = s.numbered.bound_to r c k (sound.is_bound lo hi how row.row at) in false_true (sym (ap is_some none) ∙ is_there))
    later k row at (was v kept) =
        let opening = opening_of k row.row in
        let h = hole_is q.need hole in
        by_hole h.from h.to (opens_hole t c k q now opening.0 s row.row opening.1 h.from h.to h.is)
      where
        by_hole : (from_at to_at : ℕ) → tree.OpensHole t c k from_at to_at → IsHad now_on r p x
        by_hole from_at to_at (tree.first n v2 span gap is aims there2 nobody found from_is to) =
            absurd (bound_some t r c k s.numbered (sound.is_bound lo hi how row.row at)
            (ap (bound t) (some_inj r n (sym (ap (aim_from t k.request.key) at) ∙ aims)) ∙ nobody))
        by_hole from_at to_at (tree.later n top count v2 at_hole none from_is to) =
            let number : n ≡ r = same_place n k k at row.row at_hole.is_reader in
            let one : v2 ≡ v = same_row (t.representation r) v2 v (sym (ap t.representation number) ∙ at_hole.row) kept.row in
            let exclusive_writer : IsExclusiveWriter t r v c =
            subst (λ (a : Representation). IsExclusiveWriter t r a c) one
            (subst (λ i. IsExclusiveWriter t i v2 c) number (has_exclusive_writer t n c top v2 k s at_hole)) in
            let still = quiet v kept.row
            (λ y. none_about_hole t n c top y.y v2 k s at_hole
            (subst (λ i. IsAbout t i y.y) (sym number) (sound.headed y.w y.row y.was_open y.headed y.of_r (ap is_some kept.row)))) in
            had (none_after k row.is at_hole.none_due) (exclusive_writer_quiet k v row.row at kept.row kept still exclusive_writer)

    -- A FIRST HOLE

    idle : (k : Consumer) → t.consumer c ≡ Some k → bound_to k.place ≡ None → k.due ≡ None
    idle k row free = by_place k.place refl free
      where
        got : Rattle.hc_effects.proofs.OwnersKeep.IsOpened step q
        got = is_opened step q opens

        one : got.k ≡ k
        one = same_row (t.consumer c) got.k k (sym (ap t.consumer mine) ∙ got.row) row

        free_got : bound_to got.k.place ≡ None
        free_got = ap (λ (a : Consumer). bound_to a.place) one ∙ free

        unread : shows_at t k k.place ≡ None
        unread = sym (ap (λ (a : Consumer). shows_at t a a.place) one) ∙ got.way.unread free_got

        by_past : (y : ℕ) → k.place ≡ place.Direct y → IsPast t y k → ⊥
        by_past y at (owners.answered w is_row headed_w) =
            let response = some_of w.head headed_w in
            let no : shows_direct t y (Some w) ≡ None = sym (ap (shows_at t k) at ∙ ap (shows_direct t y) is_row) ∙ unread in
            some_none _ (rw response.1 at no)
        by_past y at (owners.waits w own is_row on bare) =
            let open_own : own_open t k ≡ Some y = own_open_is t k y (record { own = own; w = w; row = is_row; opened = on }) in
            let headless : is_headless (t.exchange y) ≡ true = ap is_headless is_row ∙ rw (on, bare) refl in
            let heard : Rattle.std.specs.Option.option_and_then (if_headless t) (own_open t k) ≡ None =
            subst (λ (a : Consumer). Rattle.std.specs.Option.option_and_then (if_headless t) (own_open t a) ≡ None) one got.way.heard in
            some_none y (rw (open_own, headless) at heard)

        by_place : (a : Place) → k.place ≡ a → bound_to a ≡ None → k.due ≡ None
        by_place (place.Bound n l h g) at free_a = absurd (some_none n free_a)
        by_place (place.Direct y) at free_a = absurd (by_past y at (o.past c y k row at (sym (ap (λ (a : Consumer). a.shown) one) ∙ got.way.unshown free_got)))
        by_place _ at free_a = o.idle_due c k row (ap reads at)

    not_lost : (v : Representation) → v.is_gone ≡ false → (v.is_lost ≡ true → v.is_gone ≡ true) → (a : Bool) → v.is_lost ≡ a → a ≡ false
    not_lost v off goes_too false is = refl
    not_lost v off goes_too true is = absurd (false_true (sym off ∙ goes_too is))

    first : (k : Consumer) (a : Opening) → IsRow t e c r lo hi how k u → opening_in e.acts ≡ Some a → a.c ≡ c →
        bound_to (waiting t e c (consumer_heard t e c ev k)).place ≡ None → route_of a.need ≡ route.Hole →
        from.IsFirstHole t e c r lo hi how a (waiting t e c (consumer_heard t e c ev k)) → RepFrom t e r p → IsHad now_on r p x
    first k a row a_opens a_mine free way gap (founded response w none here exchange_row on made) = absurd (none_some gap.v (sym none ∙ gap.row))
    first k a row a_opens a_mine free way gap (was v kept) =
        let nobody = open_free limits t now flaw s ev goes c r k a row.row a_opens a_mine free way gap.current_is in
        let placed = (is_opener limits t now flaw s ev goes c k a row.row a_opens a_mine).place_is in
        let one : gap.v ≡ v = same_row (t.representation r) gap.v v gap.row kept.row in
        let not_gone : v.is_gone ≡ false = ap (λ (y : Representation). y.is_gone) (sym one) ∙ current_stays t _ r gap.v gap.current_is gap.row in
        let still = quiet v kept.row (λ y. none_about t r y.y v s kept.row nobody (sound.headed y.w y.row y.was_open y.headed y.of_r (ap is_some kept.row))) in
        let kept_p : p.is_lost ≡ false = (kept_alone step m real r v p kept still).0 ∙
        not_lost v not_gone (s.rows r v kept.row).store.lost_is_gone v.is_lost refl in
        had (none_after k row.is (idle k row.row (sym (ap bound_to placed) ∙ free)))
        (sound.first kept_p (sound.first u lo hi how after_row stands (ap (λ g. came_alone now_on (place.Bound r lo hi g)) gap.by_is)))

    pub opened_had : IsHad now_on r p x
    opened_had = by_way (bound_from t e c r lo hi how (t.consumer c) u refl after_row stands) (rep_from t e r (t.representation r) p refl after)
      where
        by_way : BoundFrom t e c r lo hi how u → RepFrom t e r p → IsHad now_on r p x
        by_way (from.stays k row at) from_it = later k row at from_it
        by_way (from.founds k y response w row here exchange_row theirs of_r by_is all) from_it =
            absurd (let no : event.Head y response ≡ event.Poll c want = sym here ∙ polls in cc)
        by_way (from.opens k a row a_opens a_mine free way gap) from_it = first k a row a_opens a_mine free way gap from_it
        by_way (from.shows k y row is all) from_it =
            absurd (some_none q (opens_none limits t now flaw s ev goes y (showing_by limits t now flaw s ev goes y is) (Some q) opens))

  pub new_had : (r x : ℕ) (q : Opening) (z : Exchange) (p : Representation) → opening_in e.acts ≡ Some q → exchange_opened t e q ≡ z →
      now_on.exchange x ≡ Some z → z.is_open ≡ true → z.head ≡ None → z.aim ≡ Some r → route_of z.need ≡ route.Hole → now_on.representation r ≡ Some p →
      IsHad now_on r p x
  new_had r x q z p opens made after_x on bare aim hole after = by_place a.at
    where
      a : Awaits now_on x z
      a = waiting_kept step real.stand x z after_x on bare

      mine : q.c ≡ z.c
      mine = ap (λ (y : Exchange). y.c) made

      by_place : IsAwaiting x z a.k.place → IsHad now_on r p x
      by_place (owners.direct way at) = absurd (let no : route.Direct ≡ route.Hole = sym way ∙ hole in cc)
      by_place (owners.turn way at) = absurd (let no : route.Turn ≡ route.Hole = sym way ∙ hole in cc)
      by_place (owners.hole n lo hi how way aimed at) =
          let number : n ≡ r = some_inj n r (sym aimed ∙ aim) in
          let got = is_opened step q opens in
          opened_had r x z.c got.want lo hi how q a.k z p after a.row (at ∙ ap (λ y. place.Bound y lo hi how) number) opens mine
          (got.at ∙ ap (λ y. event.Poll y got.want) mine) (own_open_is now_on a.k x (record { own = a.own; w = z; row = after_x; opened = on }))
          (ap (λ (y : Exchange). route_of y.need) made ∙ hole)
