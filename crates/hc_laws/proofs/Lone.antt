-- Others are bound beside who came alone only where it has no open exchange of its own and no hole: at each entry.
--
-- Where both were bound before, the first rested already, or a writing that was on is over: it rests on (`stays_lone`).
-- Where the other is shown what is current now, nobody writes that alone, so the first rests (`shown_lone`). No other
-- way leads beside somebody: what is founded is new (`unfounded`), and who opens a first hole opens it where nobody is
-- bound (`nobody`). `by_ways` joins them.
use Rattle.std.{proofs.Common.{◌≡◌, ℕ, true, false, Option, Some, None, refl, ap, sym, ◌∙◌, subst}, specs.Prelude.{is_some}}
use Rattle.hc_text.proofs.Basics.{same_some as same_row}
use Rattle.hc_effects.proofs.Vocabulary.{Opening, opening_in, Response, route_of, BoundBy, Showing, showing_in, consumer_heard, by_opening, waiting, current, Entry, entry_of, Measures, move_of, is_written, bound_to, reads, Tables, Exchange, Representation, Consumer, IsBound, IsFirst, after_accepted, came_alone, exclusive, event, route, place}
use Rattle.hc_model.specs.Sound as sound
use Rattle.hc_effects.proofs.{Basics.{false_true}, BoundFrom.{BoundFrom, IsRow, IsShown, bound_from}, BoundKeeps.{shown_place_is}, FirstKeeps.{is_new, came_kept, open_free}, LossBy.{IsReal}, OwnersKeep.{is_opened}, ExclusiveWriters.{bound_some}, RepFrom.{RepFrom, rep_from, IsKept}, Said.{IsShowing, showing_by}, RestsOn.{IsResting, resting_is, parts, before, comes_to_rest}, ShownFrom.{shown_from}, Step.{Step}}
use Rattle.hc_effects.proofs.BoundFrom as from
use Rattle.hc_effects.proofs.RepFrom as rep

pub record AreLone (t : Tables) : Type 0 where
  pub lone : (r c d : ℕ) (v : Representation) (k u : Consumer) → t.representation r ≡ Some v → v.is_lost ≡ false → is_written t v ≡ false →
      IsFirst t r c → t.consumer c ≡ Some k → k.due ≡ None → IsBound t r d u → (d ≡ c → ⊥) → IsResting t v k

module _ (step : Step) (m : Measures step.tables) (was : AreLone step.tables) (real : IsReal step.limits step.tables step.now step.event step.flaw) where
  open step use {limits, tables as t, now, flaw, sound as s, owners as o, event as ev, accepted as goes}

  abbrev e : Entry
  e = entry_of limits t now ev flaw

  abbrev now_on : Tables
  now_on = after_accepted t e

  module _ (r : ℕ) (p : Representation) (after : now_on.representation r ≡ Some p) (fresh_now : p.is_lost ≡ false)
      (unwritten : is_written now_on p ≡ false) (c lo : ℕ) (hi : Option ℕ) (how : BoundBy) (k : Consumer) (after_row : now_on.consumer c ≡ Some k)
      (stands : k.place ≡ place.Bound r lo hi how) (none : k.due ≡ None) (came : came_alone now_on (place.Bound r lo hi how) ≡ true) where
    -- IT WAS BOUND

    module _ (a : Consumer) (v : Representation) (row : IsRow t e c r lo hi how a k) (at : a.place ≡ place.Bound r lo hi how)
        (there : t.representation r ≡ Some v) (kept : IsKept t e r v p) where
      before_is : (v.is_lost ≡ false) × (a.due ≡ None)
      before_is = (
        (parts step m real r c lo hi how a k v p there after kept fresh_now row at after_row stands none).1,
        (before step m real r c lo hi how a k v p there after kept fresh_now row at after_row stands none).0,
      )

      came_was : came_alone t (place.Bound r lo hi how) ≡ true
      came_was = sym (came_kept limits t now flaw s ev goes r lo hi how (ap is_some there)) ∙ came

      stays_lone : (is_written t v ≡ false → IsResting t v a) → IsResting now_on p k
      stays_lone rests = comes_to_rest step m real r c lo hi how a k v p there after kept fresh_now row at after_row stands none unwritten rests

      -- IN EACH WAY THE OTHER IS BOUND

      old_lone : (d : ℕ) (b : Consumer) → IsBound t r d b → (d ≡ c → ⊥) → IsResting now_on p k
      old_lone d b other apart =
          stays_lone (λ off. was.lone r c d v a b there before_is.0 off (sound.first a lo hi how row.row at came_was) row.row before_is.1 other apart)

      shown_lone : (d lo_d : ℕ) (hi_d : Option ℕ) (how_d : BoundBy) (b : Consumer) (z : Showing) → t.consumer d ≡ Some b → showing_in e.acts ≡ Some z →
          IsShown t e d r lo_d hi_d how_d z (by_opening t d (opening_in e.acts) (waiting t e d (consumer_heard t e d ev b))).place → IsResting now_on p k
      shown_lone d lo_d hi_d how_d b z d_row is all =
          let shows = showing_by limits t now flaw s ev goes z is in
          let placed : (by_opening t d (opening_in e.acts) (waiting t e d (consumer_heard t e d ev b))).place ≡ b.place =
          subst (λ f. (by_opening t f (opening_in e.acts) (waiting t e f (consumer_heard t e f ev b))).place ≡ b.place) all.at
          (shown_place_is limits t now flaw s ev goes z b is) in
          let row_z : t.consumer z.c ≡ Some b = ap t.consumer all.at ∙ d_row in
          let one : shows.k ≡ b = same_row (t.consumer z.c) shows.k b shows.poll.row row_z in
          let show : IsShowing z (move_of t now shows.want z.c b) = subst (λ (q : Consumer). IsShowing z (move_of t now shows.want z.c q)) one shows.move in
          let plan = shown_from t now z.c b shows.want z s row_z show (sym (ap reads placed) ∙ all.free) in
          stays_lone (λ off. resting_is t r c lo hi how v a s row.row at came_was before_is.1 off
          (subst (λ n. exclusive t n v ≡ None) all.of_r (plan.lone v (ap t.representation all.of_r ∙ there) off)))

    -- a head founds what wasn't there
    unfounded : (x d : ℕ) (response : Response) (w : Exchange) (b : Consumer) → ev ≡ event.Head x response → t.exchange x ≡ Some w → x ≡ r → IsBound t r d b → ⊥
    unfounded x d response w b here row of_r reader =
        let no_row = sym (ap t.representation of_r) ∙ (is_new limits t now flaw s ev goes x response w here row).unfounded in
        false_true (sym (ap (λ (z : Option Representation). is_some z) no_row) ∙ s.numbered.bound_to r d b reader)

    head_opens : (x : ℕ) (response : Response) (g : Opening) → ev ≡ event.Head x response → opening_in e.acts ≡ Some g → ⊥
    head_opens x response g here opens = let by_poll = is_opened step g opens in let no : event.Head x response ≡ event.Poll g.c by_poll.want = sym here ∙
        by_poll.at in cc

    nobody : (a : Consumer) (g : Opening) (f : ℕ) → t.consumer f ≡ Some a → opening_in e.acts ≡ Some g → g.c ≡ f →
        bound_to (waiting t e f (consumer_heard t e f ev a)).place ≡ None → route_of g.need ≡ route.Hole →
        current t (consumer_heard t e f ev a).request.key ≡ Some r → (d : ℕ) (b : Consumer) → IsBound t r d b → ⊥
    nobody a g f row opens mine free way is d b reader =
        bound_some t r d b s.numbered reader (open_free limits t now flaw s ev goes f r a g row opens mine free way is)

    shown_poll : (z : Showing) → showing_in e.acts ≡ Some z → (want : ℕ) × (ev ≡ event.Poll z.c want)
    shown_poll z is = let shows = showing_by limits t now flaw s ev goes z is in (shows.want, shows.poll.at)

    poll_inj : (b d f g : ℕ) → event.Poll b f ≡ event.Poll d g → b ≡ d
    poll_inj b d f g is = cc

    module _ (d lo_d : ℕ) (hi_d : Option ℕ) (how_d : BoundBy) (u : Consumer) (apart : d ≡ c → ⊥) where
      by_stays : (a : Consumer) (v : Representation) → IsRow t e c r lo hi how a k → a.place ≡ place.Bound r lo hi how → t.representation r ≡ Some v →
          IsKept t e r v p → BoundFrom t e d r lo_d hi_d how_d u → IsResting now_on p k
      by_stays a v row at there kept (from.stays b also at_too) = old_lone a v row at there kept d b (sound.is_bound lo_d hi_d how_d also.row at_too) apart
      by_stays a v row at there kept (from.founds b x response w also here x_row mine of_r by_is all) =
          absurd (unfounded x c response w a here x_row of_r (sound.is_bound lo hi how row.row at))
      by_stays a v row at there kept (from.opens b g also opens mine free way hole) =
          absurd (nobody b g d also.row opens mine free way hole.current_is c a (sound.is_bound lo hi how row.row at))
      by_stays a v row at there kept (from.shows b z also is all) = shown_lone a v row at there kept d lo_d hi_d how_d b z also.row is all

      by_rep : (a : Consumer) → IsRow t e c r lo hi how a k → a.place ≡ place.Bound r lo hi how → RepFrom t e r p → BoundFrom t e d r lo_d hi_d how_d u →
          IsResting now_on p k
      by_rep a row at (rep.was v kept) other = by_stays a v row at kept.row kept other
      by_rep a row at (rep.founded response w no_row here x_row on made) other =
          absurd (unfounded r c response w a here x_row refl (sound.is_bound lo hi how row.row at))

      by_ways : BoundFrom t e c r lo hi how k → BoundFrom t e d r lo_d hi_d how_d u → IsResting now_on p k
      by_ways (from.stays a row at) other = by_rep a row at (rep_from t e r (t.representation r) p refl after) other
      by_ways (from.shows a z row is all) other = absurd (false_true (subst (λ (g : BoundBy). came_alone now_on (place.Bound r lo hi g) ≡ true) all.by_is came))
      by_ways (from.founds a x response w row here x_row mine of_r by_is all) (from.stays b also at_too) =
          absurd (unfounded x d response w b here x_row of_r (sound.is_bound lo_d hi_d how_d also.row at_too))
      by_ways (from.founds a x response w row here x_row mine of_r by_is all) (from.founds b y answer z also here_too y_row mine_too of_too by_too all_too) =
          absurd (apart (sym mine_too ∙
          (ap (λ (q : Exchange). q.c) (same_row (t.exchange x) z w (sym (ap t.exchange (of_too ∙ sym of_r)) ∙ y_row) x_row) ∙ mine)))
      by_ways (from.founds a x response w row here x_row mine of_r by_is all) (from.opens b g also opens mine_too free way hole) =
          absurd (head_opens x response g here opens)
      by_ways (from.founds a x response w row here x_row mine of_r by_is all) (from.shows b z also is all_too) = let polls = shown_poll z is in
          absurd (let no : event.Head x response ≡ event.Poll z.c polls.0 = sym here ∙ polls.1 in cc)
      by_ways (from.opens a g row opens mine free way hole) (from.stays b also at_too) =
          absurd (nobody a g c row.row opens mine free way hole.current_is d b (sound.is_bound lo_d hi_d how_d also.row at_too))
      by_ways (from.opens a g row opens mine free way hole) (from.founds b x response w also here x_row mine_too of_r by_is all) =
          absurd (head_opens x response g here opens)
      by_ways (from.opens a g row opens mine free way hole) (from.opens b q also opens_too mine_too free_too way_too hole_too) =
          absurd (apart (sym mine_too ∙ (ap (λ (z : Opening). z.c) (same_row (opening_in e.acts) q g opens_too opens) ∙ mine)))
      by_ways (from.opens a g row opens mine free way hole) (from.shows b z also is all) =
          let polls = shown_poll z is in
          let by_poll = is_opened step g opens in
          absurd (apart (sym all.at ∙ (poll_inj z.c g.c polls.0 by_poll.want (sym polls.1 ∙ by_poll.at) ∙ mine)))

  by_number : (r c d : ℕ) (p : Representation) (k u : Consumer) → now_on.representation r ≡ Some p → p.is_lost ≡ false → is_written now_on p ≡ false →
      IsFirst now_on r c → now_on.consumer c ≡ Some k → k.due ≡ None → IsBound now_on r d u → (d ≡ c → ⊥) → IsResting now_on p k
  by_number r c d p k u after fresh off (sound.first q lo hi how row at alone) row_k none (sound.is_bound lo_d hi_d how_d row_d at_d) apart =
      let at_k : k.place ≡ place.Bound r lo hi how = sym (ap (λ (z : Consumer). z.place) (same_row (now_on.consumer c) q k row row_k)) ∙ at in
      by_ways r p after fresh off c lo hi how k row_k at_k none alone d lo_d hi_d how_d u apart
      (bound_from t e c r lo hi how (t.consumer c) k refl row_k at_k) (bound_from t e d r lo_d hi_d how_d (t.consumer d) u refl row_d at_d)

  pub lone_kept : AreLone now_on
  lone_kept = record { lone = by_number }
