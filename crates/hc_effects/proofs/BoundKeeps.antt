-- Whoever is bound is bound to what is there, one at most became bound as the only one, and that one knows its end.
use Rattle.std.{proofs.{lemmas.Bool.Decides.{nat_tests}, Common.{arith, ◌≡◌, ℕ, true, false, Option, Some, None, refl, ap, sym, ◌∙◌, subst}}, specs.Prelude.{is_some}}
use Rattle.hc_text.proofs.Basics.{same_some as same_row}
use Rattle.hc_effects.proofs.Vocabulary.{Opening, opening_in, Event, Response, HeadCase, Limits, BoundBy, Showing, showing_in, wait_in, case_at, is_founding, consumer_heard, by_opening, waiting, waiting_place, denial, Entry, Flaw, entry_of, reads, Tables, Exchange, Consumer, Sound, IsBound, after_accepted, Wait, Move, move_of, event}
use Rattle.hc_model.specs.Sound as sound
use Rattle.hc_effects.proofs.{BoundFrom.{BoundFrom, IsFounded, bound_from}, RepFrom.{stays, founds}, Said.{ShowsBy, IsPoll, IsOpening, IsShowing, WaitsAs, opening_by, showing_by, waiting_by}, ShownFrom.{IsPlanned, ShownAs, shown_from}}
use Rattle.hc_effects.proofs.BoundFrom as from
use Rattle.hc_effects.proofs.Said as said
use Rattle.hc_effects.proofs.ShownFrom as shown

-- a founding head is one
pub founding_is : (t : Tables) (e : Entry) (c r lo : ℕ) (hi : Option ℕ) (how : BoundBy) (x : ℕ) (response : Response) (w : Exchange) (k : Consumer)
    (o : Option HeadCase) → IsFounded t e c r lo hi how x response w k o → is_founding o ≡ true
founding_is t e c r lo hi how x response w k o it12 = grind (arith, nat_tests)

module _ (limits : Limits) (t : Tables) (now : ℕ) (flaw : Flaw) (s : Sound t) (ev : Event) (goes : denial t ev ≡ None) where
  abbrev pub e : Entry
  e = entry_of limits t now ev flaw

  abbrev pub now_on : Tables
  now_on = after_accepted t e

  -- a move shows nothing else than a head
  shows_opens : (o : Opening) (z : Showing) (m : Move) → IsOpening o m → IsShowing z m → ⊥
  shows_opens o z _ said.opens show = elim show [ ]

  shows_waits : (w : Wait) (z : Showing) (m : Move) → WaitsAs w m → IsShowing z m → ⊥
  shows_waits w z _ said.waits show = elim show [ ]
  shows_waits w z _ _ show = elim show [ ]

  -- two polls of one event are one
  same_poll : (c d want more : ℕ) (k u : Consumer) → IsPoll t ev c want k → IsPoll t ev d more u → (c ≡ d) × (want ≡ more) × (k ≡ u)
  same_poll c d want more k u a b = grind (arith, nat_tests)

  pub opens_none : (z : Showing) → ShowsBy t now ev z → (o : Option Opening) → opening_in e.acts ≡ o → o ≡ None
  opens_none z shows None is = refl
  opens_none z shows (Some o) is =
      let opens = opening_by limits t now flaw s ev goes o is in
      let one = same_poll o.c z.c opens.want shows.want opens.k shows.k opens.poll shows.poll in
      absurd (shows_opens o z (move_of t now shows.want z.c shows.k)
      (subst (λ (u : Consumer). IsOpening o (move_of t now shows.want z.c u)) one.2
      (subst (λ n. IsOpening o (move_of t now n z.c opens.k)) one.1 (subst (λ d. IsOpening o (move_of t now opens.want d opens.k)) one.0 opens.move)))
      shows.move)

  waits_none : (z : Showing) → ShowsBy t now ev z → (o : Option Wait) → wait_in z.c e.acts ≡ o → o ≡ None
  waits_none z shows None is = refl
  waits_none z shows (Some w) is =
      let waits = waiting_by limits t now flaw s ev goes z.c w is in
      let one = same_poll z.c z.c waits.want shows.want waits.k shows.k waits.poll shows.poll in
      absurd (shows_waits w z (move_of t now shows.want z.c shows.k)
      (subst (λ (u : Consumer). WaitsAs w (move_of t now shows.want z.c u)) one.2 (subst (λ n. WaitsAs w (move_of t now n z.c waits.k)) one.1 waits.move))
      shows.move)

  quiet_place : (c : ℕ) (k : Consumer) → opening_in e.acts ≡ None → wait_in c e.acts ≡ None →
      (by_opening t c (opening_in e.acts) (waiting t e c k)).place ≡ k.place
  quiet_place c k none quiet = ap (λ (o : Option Opening). (by_opening t c o (waiting t e c k)).place) none ∙
      ap (λ (o : Option Wait). waiting_place t k o) quiet

  -- who is shown a head stands where it stood
  pub shown_place_is : (z : Showing) (k : Consumer) → showing_in e.acts ≡ Some z →
      (by_opening t z.c (opening_in e.acts) (waiting t e z.c (consumer_heard t e z.c ev k))).place ≡ k.place
  shown_place_is z k is =
      let shows = showing_by limits t now flaw s ev goes z is in
      let heard : consumer_heard t e z.c ev k ≡ k = ap (λ v. consumer_heard t e z.c v k) shows.poll.at in
      quiet_place z.c (consumer_heard t e z.c ev k) (opens_none z shows (opening_in e.acts) refl) (waits_none z shows (wait_in z.c e.acts) refl) ∙
      ap (λ (u : Consumer). u.place) heard

  -- who is shown a head, and read nothing, was shown it by its plan
  pub planned_at : (z : Showing) (k : Consumer) → t.consumer z.c ≡ Some k → showing_in e.acts ≡ Some z →
      reads (by_opening t z.c (opening_in e.acts) (waiting t e z.c (consumer_heard t e z.c ev k))).place ≡ false → IsPlanned t now z.c k z
  planned_at z k row is free =
      let shows = showing_by limits t now flaw s ev goes z is in
      let one : shows.k ≡ k = same_row (t.consumer z.c) shows.k k shows.poll.row row in
      let heard : consumer_heard t e z.c ev k ≡ k = ap (λ v. consumer_heard t e z.c v k) shows.poll.at in
      let placed : (by_opening t z.c (opening_in e.acts) (waiting t e z.c (consumer_heard t e z.c ev k))).place ≡ k.place =
      quiet_place z.c (consumer_heard t e z.c ev k) (opens_none z shows (opening_in e.acts) refl) (waits_none z shows (wait_in z.c e.acts) refl) ∙
      ap (λ (u : Consumer). u.place) heard in
      shown_from t now z.c k shows.want z s row (subst (λ (u : Consumer). IsShowing z (move_of t now shows.want z.c u)) one shows.move)
      (sym (ap reads placed) ∙ free)

  -- IT IS THERE

  shown_there : (c : ℕ) (k : Consumer) (r lo : ℕ) (hi : Option ℕ) → ShownAs t now c k r lo hi → is_some (t.representation r) ≡ true
  shown_there c k r lo hi (shown.joins v is row on from to) = ap is_some row
  shown_there c k r lo hi (shown.stored v span is row off wanted hole from to) = ap is_some row

  there : (r : ℕ) → is_some (t.representation r) ≡ true → is_some (now_on.representation r) ≡ true
  there r old = stays t e r (t.representation r) old

  bound_there : (c r lo : ℕ) (hi : Option ℕ) (how : BoundBy) (u : Consumer) → BoundFrom t e c r lo hi how u → is_some (now_on.representation r) ≡ true
  bound_there c r lo hi how u (from.stays k row at) = there r (s.numbered.bound_to r c k (sound.is_bound lo hi how row.row at))
  bound_there c r lo hi how u (from.founds k x response w row at exchange here of_r by_is all) =
      founds t e r response w (t.representation r) (at ∙ ap (λ n. event.Head n response) of_r) (sym (ap t.exchange of_r) ∙ exchange)
      (founding_is t e c r lo hi how x response w k (case_at t e) all)
  bound_there c r lo hi how u (from.opens k o row is here free way hole) = there r (ap is_some hole.row)
  bound_there c r lo hi how u (from.shows k z row is all) =
      let planned = planned_at z k (ap t.consumer all.at ∙ row.row) is
      (subst (λ d. reads (by_opening t d (opening_in e.acts) (waiting t e d (consumer_heard t e d ev k))).place ≡ false) (sym all.at) all.free) in
      there r (sym (ap (λ q. is_some (t.representation q)) all.of_r) ∙ shown_there z.c k z.r z.lo z.hi planned.shown_as)

  pub binds_kept : (r c : ℕ) (u : Consumer) → IsBound now_on r c u → is_some (now_on.representation r) ≡ true
  binds_kept r c u (sound.is_bound lo hi how row at) = bound_there c r lo hi how u (bound_from t e c r lo hi how (t.consumer c) u refl row at)
