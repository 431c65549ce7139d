-- The exchange that founded a representation joined no other.
use Rattle.std.{proofs.{lemmas.Bool.Decides.{nat_tests}, Common.{arith, ◌≡◌, ◌⊎◌, inl, inr, ℕ, Bool, true, false, Some, None, refl, ap, sym, ◌∙◌}}, specs.Prelude.{if◌then◌else◌}}
use Rattle.hc_text.proofs.Basics.{not_some as none_some}
use Rattle.hc_effects.proofs.Vocabulary.{Response, case_at, is_founding, is_joining, Entry, entry_of, Tables, Exchange, Representation, after_accepted, event}
use Rattle.hc_effects.proofs.{ExchangeFrom.{ExchangeFrom, IsHeaded, exchange_from}, FirstKeeps.{is_new}, RepFrom.{RepFrom, rep_from}, Step.{Step}}
use Rattle.hc_effects.proofs.ExchangeFrom as exchange
use Rattle.hc_effects.proofs.RepFrom as rep

module _ (step : Step) where
  open step use {limits, tables as t, now, flaw, sound as s, owners as o, event as ev, accepted as goes}

  abbrev e : Entry
  e = entry_of limits t now ev flaw

  abbrev now_on : Tables
  now_on = after_accepted t e

  -- what founds doesn't join
  founds_alone : (r : ℕ) (response : Response) (w : Exchange) → ev ≡ event.Head r response → t.exchange r ≡ Some w → is_founding (case_at t e) ≡ true →
      is_joining (case_at t e) ≡ false
  founds_alone r response w here row on = grind (arith, nat_tests)

  -- an exchange without a head joined nothing
  bare_joined : (r : ℕ) (response : Response) (w : Exchange) → ev ≡ event.Head r response → t.exchange r ≡ Some w → w.joined ≡ None
  bare_joined r response w here row = (s.waits.headless r w row (is_new limits t now flaw s ev goes r response w here row).bare).1

  was_founder : (r : ℕ) (w u : Exchange) (v : Representation) → t.exchange r ≡ Some w → ((u.head ≡ w.head) × (u.joined ≡ w.joined)) ⊎ IsHeaded t e r w u →
      RepFrom t e r v → u.joined ≡ None
  was_founder r w u v row (inl still) (rep.was q kept) = still.1 ∙ o.founders r w q row kept.row
  was_founder r w u v row (inl still) (rep.founded response z none here also on made) = still.1 ∙ bare_joined r response w here row
  was_founder r w u v row (inr got) (rep.was q kept) =
      absurd (none_some q (sym (is_new limits t now flaw s ev goes r got.response w got.at row).unfounded ∙ kept.row))
  was_founder r w u v row (inr got) (rep.founded response z none here also on made) =
      got.joined_is ∙ (ap (λ (b : Bool). if b then w.aim else w.joined) (founds_alone r response w here row on) ∙ bare_joined r response w here row)

  founder_from : (r : ℕ) (u : Exchange) (v : Representation) → ExchangeFrom t e r u → RepFrom t e r v → u.joined ≡ None
  founder_from r u v (exchange.was w row same) from = was_founder r w u v row same.heard_or from
  founder_from r u v (exchange.new p none opens here made) from = sym (ap (λ (z : Exchange). z.joined) made)

  pub founders_kept : (r : ℕ) (u : Exchange) (v : Representation) → now_on.exchange r ≡ Some u → now_on.representation r ≡ Some v → u.joined ≡ None
  founders_kept r u v row also = founder_from r u v (exchange_from t e r (t.exchange r) u refl row) (rep_from t e r (t.representation r) v refl also)
