-- What an exchange joined is what it is about, and the exchange of a first hole is about what its consumer is bound to.
use Rattle.std.proofs.Common.{◌≡◌, ◌⊎◌, inl, inr, ℕ, Bool, true, false, cond, Option, Some, None, refl, ap, sym, ◌∙◌}
use Rattle.hc_text.proofs.Basics.{not_some as none_some, same_some as same_row}
use Rattle.hc_effects.proofs.Vocabulary.{Request, case_at, is_joining, consumer_heard, waiting, current, Entry, Contents, exchange_opened, aim_of, entry_of, bound_to, Tables, Exchange, Consumer, first_tables, after_accepted, after_denied, by, place}
use Rattle.hc_effects.proofs.{BoundFrom.{BoundFrom, bound_from}, ExchangeFrom.{ExchangeFrom, IsHeaded, exchange_from}, FirstKeeps.{is_new, is_opener}, Forward.{is_on, opened_on}, OwnersKeep.{new_number}, WaitingNew.{aim_free}, Step.{Step}}
use Rattle.hc_effects.proofs.BoundFrom as from
use Rattle.hc_effects.proofs.ExchangeFrom as exchange

pub record IsAimed (t : Tables) : Type 0 where
  pub first : (c r lo y : ℕ) (hi : Option ℕ) (k : Consumer) (w : Exchange) → t.consumer c ≡ Some k → k.place ≡ place.Bound r lo hi (by.FirstHole y) →
      t.exchange y ≡ Some w → w.aim ≡ Some r
  pub joins : (x q : ℕ) (w : Exchange) → t.exchange x ≡ Some w → w.joined ≡ Some q → w.aim ≡ Some q

joined_if : (b : Bool) (aim : Option ℕ) (q : ℕ) → cond b aim None ≡ Some q → aim ≡ Some q
joined_if true aim q is = is
joined_if false aim q is = absurd (none_some q is)

module _ (step : Step) (a : IsAimed step.tables) where
  open step use {limits, tables as t, now, flaw, sound as s, owners as o, event as ev, accepted as goes}

  abbrev e : Entry
  e = entry_of limits t now ev flaw

  abbrev now_on : Tables
  now_on = after_accepted t e

  joins_by : (x q : ℕ) (z : Exchange) → z.joined ≡ Some q → ExchangeFrom t e x z → z.aim ≡ Some q
  joins_by x q z is (exchange.was w row same) = by_heard same.heard_or
    where
      by_heard : ((z.head ≡ w.head) × (z.joined ≡ w.joined)) ⊎ IsHeaded t e x w z → z.aim ≡ Some q
      by_heard (inl still) = same.aim_is ∙ a.joins x q w row (sym still.1 ∙ is)
      by_heard (inr got) =
          let none : w.joined ≡ None = (s.waits.headless x w row ((is_new limits t now flaw s ev goes x got.response w got.at row).bare)).1 in
          same.aim_is ∙ joined_if (is_joining (case_at t e)) w.aim q (sym (got.joined_is ∙ ap (λ z1. cond (is_joining (case_at t e)) w.aim z1) none) ∙ is)
  joins_by x q z is (exchange.new p none opens here made) = absurd (none_some q (ap (λ (w : Exchange). w.joined) made ∙ is))

  aim_on : (y r : ℕ) (w z : Exchange) → t.exchange y ≡ Some w → now_on.exchange y ≡ Some z → w.aim ≡ Some r → z.aim ≡ Some r
  aim_on y r w z row after is =
      let on = is_on t e y w row in
      sym (ap (λ (q : Exchange). q.aim) (same_row (now_on.exchange y) on.u z on.row after)) ∙ (on.same.aim_is ∙ is)

  first_by : (c r lo y : ℕ) (hi : Option ℕ) (u : Consumer) (z : Exchange) → now_on.exchange y ≡ Some z → BoundFrom t e c r lo hi (by.FirstHole y) u →
      z.aim ≡ Some r
  first_by c r lo y hi u z after (from.stays k row at) =
      let f = o.first_own c r lo y hi k row.row at in
      aim_on y r f.w z f.row after (a.first c r lo y hi k f.w row.row at f.row)
  first_by c r lo y hi u z after (from.founds k x response w row here exchange_row mine of_r by_is all) =
      absurd (let no : by.FirstHole y ≡ by.Founding = by_is in cc)
  first_by c r lo y hi u z after (from.opens k p row opens mine free way hole) =
      let op = is_opener limits t now flaw s ev goes c k p row.row opens mine in
      let same : p.x ≡ y = cc in
      let made : now_on.exchange y ≡ Some (exchange_opened t e p) = opened_on t e y p (t.exchange y) (new_number step p y opens same) opens same in
      let unbound : bound_to k.place ≡ None = sym (ap bound_to op.place_is) ∙ free in
      let asked : (waiting t e c (consumer_heard t e c ev k)).request ≡ k.request = ap (λ (q : Consumer). q.request) op.heard_is in
      let aims : aim_of t (t.consumer p.c) ≡ Some r = ap (aim_of t) (ap t.consumer mine ∙ row.row) ∙
      (aim_free t k.request.key k.place unbound ∙ (sym (ap (λ (q : Request). current t q.key) asked) ∙ hole.current_is)) in
      sym (ap (λ (q : Exchange). q.aim) (same_row (now_on.exchange y) (exchange_opened t e p) z made after)) ∙ aims
  first_by c r lo y hi u z after (from.shows k p row is all) = absurd (let no : by.FirstHole y ≡ by.Plan = all.by_is in cc)

  pub aimed_kept : IsAimed now_on
  aimed_kept = record {
    first = λ c r lo y hi u z row at after. first_by c r lo y hi u z after (bound_from t e c r lo hi (by.FirstHole y) (t.consumer c) u refl row at);
    joins = λ x q z after is. joins_by x q z is (exchange_from t e x (t.exchange x) z refl after);
  }

pub aimed_begun : (contents : Contents) → IsAimed (first_tables contents)
aimed_begun contents = record {
  first = λ c r lo y hi k w row at there. absurd (none_some k row);
  joins = λ x q w row is. absurd (none_some w row);
}

pub aimed_denied : (t : Tables) (e : Entry) → IsAimed t → IsAimed (after_denied t e)
aimed_denied t e a = record { first = a.first; joins = a.joins }
