-- As long as nothing is due for the one that became bound alone, nothing is due for whoever reads beside it: after each
-- accepted event too.
use Rattle.std.{proofs.{lemmas.Bool.Decides.{nat_tests}, Common.{arith, ◌≡◌, inl, inr, ℕ, true, false, Option, Some, None, refl, ap, sym, ◌∙◌, subst}}, specs.Prelude.{is_some}}
use Rattle.hc_text.proofs.Basics.{same_some as same_row}
use Rattle.hc_effects.proofs.Vocabulary.{Opening, opening_in, Response, BoundBy, Showing, showing_in, consumer_heard, consumer_acted, by_opening, waiting, route_of, current, Entry, entry_of, bound_to, reads, Tables, Exchange, Representation, Consumer, IsBound, IsFirst, after_accepted, came_alone, event, place, route}
use Rattle.hc_model.specs.Sound as sound
use Rattle.hc_effects.proofs.{Basics.{false_true}, BoundFrom.{BoundFrom, IsRow, IsShown, bound_from}, BoundKeeps.{shown_place_is}, Dues.{undue_of, due_none, due_before}, FirstKeeps.{is_new, came_kept, open_free}, OwnersKeep.{is_opened}, PieceKeeps.{eq_cases}, ExclusiveWriters.{bound_some}, Said.{showing_by}, Step.{Step}}
use Rattle.hc_effects.proofs.BoundFrom as from
use Rattle.hc_laws.proofs.FirstDues.{beside, poll_undue, unlost}

module _ (step : Step) where
  open step use {limits, tables as t, now, flaw, sound as s, owners as o, event as ev, accepted as goes}

  abbrev e : Entry
  e = entry_of limits t now ev flaw

  abbrev now_on : Tables
  now_on = after_accepted t e

  reading : (r lo : ℕ) (hi : Option ℕ) (how : BoundBy) (u : Consumer) → u.place ≡ place.Bound r lo hi how → reads u.place ≡ true
  reading r lo hi how u at = ap reads at

  -- who is shown a head by its plan had nothing due, and gets nothing due
  pub shown_due : (c r lo : ℕ) (hi : Option ℕ) (how : BoundBy) (k u : Consumer) (z : Showing) → IsRow t e c r lo hi how k u →
      u.place ≡ place.Bound r lo hi how → showing_in e.acts ≡ Some z →
      IsShown t e c r lo hi how z (by_opening t c (opening_in e.acts) (waiting t e c (consumer_heard t e c ev k))).place → u.due ≡ None
  shown_due c r lo hi how k u z row at is all =
      let shows = showing_by limits t now flaw s ev goes z is in
      let here : ev ≡ event.Poll z.c shows.want = shows.poll.at in
      let placed : (by_opening t c (opening_in e.acts) (waiting t e c (consumer_heard t e c ev k))).place ≡ k.place =
      subst (λ d. (by_opening t d (opening_in e.acts) (waiting t e d (consumer_heard t e d ev k))).place ≡ k.place) all.at
      (shown_place_is limits t now flaw s ev goes z k is) in
      let idle : k.due ≡ None = o.idle_due c k row.row (sym (ap reads placed) ∙ all.free) in
      due_none t e c k (consumer_acted t e c (consumer_heard t e c ev k)) u row.is (reading r lo hi how u at) idle
      (undue_of t e c k (poll_undue step c z.c shows.want k here))

  module _ (r : ℕ) (new : Representation) (after : now_on.representation r ≡ Some new) (kept : new.is_lost ≡ false) where
    -- a representation that was there has its row
    row_by : (z : Option Representation) → t.representation r ≡ z → is_some z ≡ true → (v : Representation) × (t.representation r ≡ Some v)
    row_by z row there = grind (arith, nat_tests)

    unfounded : (x c : ℕ) (response : Response) (w : Exchange) (k : Consumer) → ev ≡ event.Head x response → t.exchange x ≡ Some w → x ≡ r → IsBound t r c k → ⊥
    unfounded x c response w k here row of_r reader =
        let none = sym (ap t.representation of_r) ∙ (is_new limits t now flaw s ev goes x response w here row).unfounded in
        false_true (sym (ap (λ (z : Option Representation). is_some z) none) ∙ s.numbered.bound_to r c k reader)

    pub head_opens : (x : ℕ) (response : Response) (p : Opening) → ev ≡ event.Head x response → opening_in e.acts ≡ Some p → ⊥
    head_opens x response p here opens = let opened = is_opened step p opens in let no : event.Head x response ≡ event.Poll p.c opened.want = sym here ∙
        opened.at in cc

    module _ (c d : ℕ) (k u : Consumer) (apart : d ≡ c → ⊥) (lo : ℕ) (hi : Option ℕ) (how : BoundBy) (at_c : k.place ≡ place.Bound r lo hi how)
        (none_c : k.due ≡ None) (alone : came_alone now_on (place.Bound r lo hi how) ≡ true) (lo_d : ℕ) (hi_d : Option ℕ) (how_d : BoundBy)
        (at_d : u.place ≡ place.Bound r lo_d hi_d how_d) where
      both_stay : (a b : Consumer) → IsRow t e c r lo hi how a k → a.place ≡ place.Bound r lo hi how → IsRow t e d r lo_d hi_d how_d b u →
          b.place ≡ place.Bound r lo_d hi_d how_d → u.due ≡ None
      both_stay a b row at also at_too =
          let reader_c : IsBound t r c a = sound.is_bound lo hi how row.row at in
          let there = s.numbered.bound_to r c a reader_c in
          let v = row_by (t.representation r) refl there in
          let fresh = unlost step r v.0 new v.1 after kept in
          let first : IsFirst t r c = sound.first a lo hi how row.row at (sym (came_kept limits t now flaw s ev goes r lo hi how there) ∙ alone) in
          let was = due_before t e c a (consumer_acted t e c (consumer_heard t e c ev a)) k row.is (reading r lo hi how k at_c) none_c in
          let got = beside step r c d v.0 a b v.1 fresh.0 fresh.1 first reader_c was.0 was.1 (sound.is_bound lo_d hi_d how_d also.row at_too) apart in
          due_none t e d b (consumer_acted t e d (consumer_heard t e d ev b)) u also.is (reading r lo_d hi_d how_d u at_d) got.0 got.1

      nobody : (a : Consumer) (p : Opening) (g : ℕ) (b : Consumer) → t.consumer g ≡ Some a → opening_in e.acts ≡ Some p → p.c ≡ g →
          bound_to (waiting t e g (consumer_heard t e g ev a)).place ≡ None → route_of p.need ≡ route.Hole →
          current t (consumer_heard t e g ev a).request.key ≡ Some r → (f : ℕ) → IsBound t r f b → ⊥
      nobody a p g b row opens mine free way is f reader =
          bound_some t r f b s.numbered reader (open_free limits t now flaw s ev goes g r a p row opens mine free way is)

      by_ways : BoundFrom t e c r lo hi how k → BoundFrom t e d r lo_d hi_d how_d u → u.due ≡ None
      by_ways first (from.shows b z row is all) = shown_due d r lo_d hi_d how_d b u z row at_d is all
      by_ways (from.shows a z row is all) second =
          absurd (false_true (subst (λ (g : BoundBy). came_alone now_on (place.Bound r lo hi g) ≡ true) all.by_is alone))
      by_ways (from.stays a row at) (from.stays b also at_too) = both_stay a b row at also at_too
      by_ways (from.stays a row at) (from.founds b x response w also here exchange mine of_r by_is all) =
          absurd (unfounded x c response w a here exchange of_r (sound.is_bound lo hi how row.row at))
      by_ways (from.stays a row at) (from.opens b p also opens mine free way hole) =
          absurd (nobody b p d a also.row opens mine free way hole.current_is c (sound.is_bound lo hi how row.row at))
      by_ways (from.founds a x response w row here exchange mine of_r by_is all) (from.stays b also at_too) =
          absurd (unfounded x d response w b here exchange of_r (sound.is_bound lo_d hi_d how_d also.row at_too))
      by_ways (from.founds a x response w row here exchange mine of_r by_is all)
          (from.founds b y answer z also here_too exchange_too mine_too of_too by_too all_too) =
          absurd (apart (sym mine_too ∙
          (ap (λ (q : Exchange). q.c) (same_row (t.exchange x) z w (sym (ap t.exchange (of_too ∙ sym of_r)) ∙ exchange_too) exchange) ∙ mine)))
      by_ways (from.founds a x response w row here exchange mine of_r by_is all) (from.opens b p also opens mine_too free way hole) =
          absurd (head_opens x response p here opens)
      by_ways (from.opens a p row opens mine free way hole) (from.stays b also at_too) =
          absurd (nobody a p c b row.row opens mine free way hole.current_is d (sound.is_bound lo_d hi_d how_d also.row at_too))
      by_ways (from.opens a p row opens mine free way hole) (from.founds b x response w also here exchange mine_too of_r by_is all) =
          absurd (head_opens x response p here opens)
      by_ways (from.opens a p row opens mine free way hole) (from.opens b q also opens_too mine_too free_too way_too hole_too) = grind (arith, nat_tests)

    by_number : (c d : ℕ) (k u : Consumer) → IsFirst now_on r c → now_on.consumer c ≡ Some k → k.due ≡ None → IsBound now_on r d u → u.due ≡ None
    by_number c d k u (sound.first q lo hi how row at alone) row_k none_c (sound.is_bound lo_d hi_d how_d row_d at_d) =
        elim (eq_cases d c) [
          | inl same ↦ let mine : u ≡ k = same_row (now_on.consumer c) u k (sym (ap now_on.consumer same.1) ∙ row_d) row_k in
              ap (λ (z : Consumer). z.due) mine ∙ none_c
          | inr off ↦
              let at_k : k.place ≡ place.Bound r lo hi how = sym (ap (λ (z : Consumer). z.place) (same_row (now_on.consumer c) q k row row_k)) ∙ at in
              by_ways c d k u off.1 lo hi how at_k none_c alone lo_d hi_d how_d at_d (bound_from t e c r lo hi how (t.consumer c) k refl row_k at_k)
              (bound_from t e d r lo_d hi_d how_d (t.consumer d) u refl row_d at_d)
        ]

  pub first_due_kept : (r c d : ℕ) (v : Representation) (k u : Consumer) → now_on.representation r ≡ Some v → v.is_lost ≡ false → IsFirst now_on r c →
      now_on.consumer c ≡ Some k → k.due ≡ None → IsBound now_on r d u → u.due ≡ None
  first_due_kept r c d v k u after kept is_first row none reader = by_number r v after kept c d k u is_first row none reader
