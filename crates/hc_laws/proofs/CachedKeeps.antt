-- Who waits for its head with the turn, or is bound, isn't past the store.
--
-- Who starts stands in the line (`starts_line`). An exchange with another route than past the store is opened for a
-- request that isn't disabled (`opens_cached`); so that of who has the turn isn't (`turn_from`). By how it
-- became bound: it was, it founds and waited so before (`founds_cached`), its first hole is opened, or a plan shows it
-- what is current. `bound_cached` goes by these, and `cached_kept` joins both.
use Rattle.std.proofs.{lemmas.Bool.Decides.{nat_tests}, Common.{arith, ◌≡◌, ℕ, true, false, Option, Some, None, refl, ap, sym, ◌∙◌, subst}}
use Rattle.hc_text.proofs.Basics.{same_some as same_row}
use Rattle.hc_effects.proofs.Vocabulary.{Opening, opening_in, Event, Response, head_case, route_of, is_disabled, Place, BoundBy, has_loss, case_at, head_view, is_founding, consumer_after, consumer_made, Entry, entry_of, IsAwaiting, reads, Tables, Exchange, Consumer, after_accepted, event, route, place}
use Rattle.hc_effects.proofs.{Forward.{is_kept}, Basics.{false_true}, Beside.{IsBeside, is_cached_place}, BoundFrom.{BoundFrom, bound_from}, BoundKeeps.{planned_at, founding_is}, FirstKeeps.{case_is, is_new}, FoundBy.{founding_by, founds_way}, OwnersKeep.{is_opened}, TurnPlaces.{ComesFrom, IsPlain, is_after}, Waiters.{waiter_of}, Step.{Step}}
use Rattle.hc_effects.proofs.BoundFrom as from
use Rattle.hc_effects.proofs.TurnPlaces as turn

-- who starts stands in the line
starts_line : (c now : ℕ) (ev : Event) (u : Consumer) → consumer_made c now ev ≡ Some u → u.place ≡ place.Line
starts_line c now ev u is = grind (arith, nat_tests)

module _ (step : Step) (i : IsBeside step.tables) where
  open step use {limits, tables as t, now, flaw, sound as s, event as ev, accepted as goes}

  abbrev e : Entry
  e = entry_of limits t now ev flaw

  abbrev now_on : Tables
  now_on = after_accepted t e

  at_place : (c : ℕ) (k : Consumer) (p : Place) → t.consumer c ≡ Some k → k.place ≡ p → is_cached_place p ≡ true → is_disabled k.request ≡ false
  at_place c k p row at on = i.cached c k row (ap is_cached_place at ∙ on)

  -- WHAT IS OPENED

  opens_cached : (p : Opening) (c : ℕ) (k : Consumer) → opening_in e.acts ≡ Some p → p.c ≡ c → t.consumer c ≡ Some k →
      (route_of p.need ≡ route.Direct → ⊥) → is_disabled k.request ≡ false
  opens_cached p c k is mine row past =
      let by_poll = is_opened step p is in
      grind (arith, nat_tests)

  -- WITH THE TURN

  turn_from : (c : ℕ) (k : Consumer) (p : Place) → t.consumer c ≡ Some k → ComesFrom t e c k p → (x : ℕ) → p ≡ place.Turn x → is_disabled k.request ≡ false
  turn_from c k _ row turn.kept x at = at_place c k (place.Turn x) row at refl
  turn_from c k p row (turn.plain _ is) x at = absurd (subst IsPlain at is)
  turn_from c k _ row (turn.turned p is mine way) x at = opens_cached p c k is mine row (λ past. let no : route.Turn ≡ route.Direct = sym way ∙ past in cc)
  turn_from c k _ row _ x at = cc

  -- BOUND

  awaits_cached : (c x : ℕ) (k : Consumer) (w : Exchange) → t.consumer c ≡ Some k → (route_of w.need ≡ route.Direct → ⊥) → IsAwaiting x w k.place →
      is_disabled k.request ≡ false
  awaits_cached c x k w row past it6 = grind (arith, nat_tests)

  founds_cached : (c x : ℕ) (response : Response) (w : Exchange) (k : Consumer) → ev ≡ event.Head x response → t.exchange x ≡ Some w → w.c ≡ c →
      t.consumer c ≡ Some k → is_founding (case_at t e) ≡ true → is_disabled k.request ≡ false
  founds_cached c x response w k here exchange_row mine row founding =
      let new = is_new limits t now flaw s ev goes x response w here exchange_row in
      let got = waiter_of step x w exchange_row new.is_open new.bare in
      let one : got.0 ≡ k = same_row (t.consumer c) got.0 k (sym (ap t.consumer mine) ∙ got.1.row) row in
      let view = head_view t (has_loss e.acts) w response in
      awaits_cached c x k w row
      (founds_way view (head_case view) (founding_by view (sym (ap is_founding (case_is t e x response w here exchange_row)) ∙ founding)))
      (subst (λ (z : Consumer). IsAwaiting x w z.place) one got.1.at)

  bound_cached : (c r lo : ℕ) (hi : Option ℕ) (how : BoundBy) (u k : Consumer) → t.consumer c ≡ Some k → BoundFrom t e c r lo hi how u →
      is_disabled k.request ≡ false
  bound_cached c r lo hi how u k there (from.stays z row at) = grind (arith, nat_tests)
  bound_cached c r lo hi how u k there (from.founds z x response w row here exchange_row mine of_r by_is all) =
      founds_cached c x response w k here exchange_row mine there (founding_is t e c r lo hi how x response w z (case_at t e) all)
  bound_cached c r lo hi how u k there (from.opens z p row opens mine free way hole) =
      opens_cached p c k opens mine there (λ past. let no : route.Hole ≡ route.Direct = sym way ∙ past in cc)
  bound_cached c r lo hi how u k there (from.shows z p row is all) = grind (arith, nat_tests, planned_at, reads, same_row)

  -- EITHER

  was_cached : (c : ℕ) (k u : Consumer) (p : Place) → t.consumer c ≡ Some k → now_on.consumer c ≡ Some u → u.place ≡ p → is_cached_place p ≡ true →
      is_disabled k.request ≡ false
  was_cached c k u (place.Turn x) row after at on = turn_from c k u.place row (is_after t e c k u row after).from x at
  was_cached c k u (place.Bound r lo hi how) row after at on = bound_cached c r lo hi how u k row (bound_from t e c r lo hi how (t.consumer c) u refl after at)
  was_cached c k u _ row after at on = absurd (false_true on)

  made_not : (c : ℕ) (u : Consumer) → t.consumer c ≡ None → now_on.consumer c ≡ Some u → is_cached_place u.place ≡ true → ⊥
  unfolding consumer_after
  made_not c u none after on = false_true (sym (ap is_cached_place (starts_line c now ev u (ap (consumer_after t e c) (sym none) ∙ after))) ∙ on)

  by_row : (c : ℕ) (u : Consumer) (z : Option Consumer) → t.consumer c ≡ z → now_on.consumer c ≡ Some u → is_cached_place u.place ≡ true →
      is_disabled u.request ≡ false
  by_row c u None row after on = absurd (made_not c u row after on)
  by_row c u (Some k) row after on =
      let kept = is_kept t e c k row in
      ap is_disabled (sym (ap (λ (q : Consumer). q.request) (same_row (now_on.consumer c) kept.u u kept.row after)) ∙ kept.request_is) ∙
      was_cached c k u u.place row after refl on

  pub cached_kept : (c : ℕ) (u : Consumer) → now_on.consumer c ≡ Some u → is_cached_place u.place ≡ true → is_disabled u.request ≡ false
  cached_kept c u after on = by_row c u (t.consumer c) refl after on
