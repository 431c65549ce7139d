-- The rows of a consumer that opens an exchange, and of that exchange.
use Rattle.std.proofs.Common.{◌≡◌, ℕ, Bool, true, false, Option, Some, None, refl, ap, sym, ◌∙◌}
use Rattle.hc_text.proofs.Basics.{eqb-same, false_true}
use Rattle.hc_effects.proofs.Vocabulary.{Need, Request, route_of, Place, is_live_place, with_consumer, with_opening, just_opened, reads, lo_of, hi_of, Tables, place}
use Rattle.hc_exch.specs.{declared.role.Role.{Role}, Known.{exchange_at_opening}}
use Rattle.hc_model.specs.Rows as rows
use Rattle.hc_state.specs.Kept.{IsKept, IsRunning, answer_for, role_awaited}
use Rattle.hc_txn.specs.declared.transaction.Transaction.{Transaction as Consumer}
use Rattle.hc_state.proofs.Fallbacks.{answer_fallback}
use Rattle.hc_on_poll.proofs.OpenHandler.{WaitsFor, past, turned}

module _ (t : Tables) (now c x : ℕ) (n : Need) (request : Request) (aim : Option ℕ) (v : rows.Consumer) (p : Place) (idle : reads v.place ≡ false)
    (at : WaitsFor x p) where
  abbrev pub w : rows.Consumer
  w = record v { own = Some x; place = p }

  abbrev pub s : Tables
  s = with_consumer c (Some w) (with_opening x (just_opened now c n request aim) t)

  pub runs : (role : Role) (copied : Request) → copied ≡ request → role ≡ role_awaited (route_of n) aim →
      IsRunning s x (exchange_at_opening c role n copied now) (just_opened now c n request aim)
  runs role copied copies is = assumption (copies, is)

  pub live_then : {y : ℕ} {q : Place} → WaitsFor y q → is_live_place q ≡ true
  live_then past = refl
  live_then turned = refl

  answer_none : (b : Bool) → v.shown ≡ b → {q : Place} → WaitsFor x q → p ≡ q → answer_for s w ≡ None
  answer_none true is to same = rw is refl
  answer_none false is past same = rw (is, same, eqb-same x) refl
  answer_none false is turned same = rw (is, same) refl

  lo_idle : (q : Place) → v.place ≡ q → lo_of t v.place ≡ 0
  lo_idle (place.Bound a lo hi by) same = false_true (sym idle ∙ ap reads same)
  lo_idle (place.Direct y) same = false_true (sym idle ∙ ap reads same)
  lo_idle _ same = rw same refl

  hi_idle : (q : Place) → v.place ≡ q → hi_of t v.place ≡ None
  hi_idle (place.Bound a lo hi by) same = false_true (sym idle ∙ ap reads same)
  hi_idle (place.Direct y) same = false_true (sym idle ∙ ap reads same)
  hi_idle _ same = rw same refl

  lo_then : {q : Place} → WaitsFor x q → lo_of s q ≡ 0
  lo_then past = rw (eqb-same x) refl
  lo_then turned = refl

  hi_then : {q : Place} → WaitsFor x q → hi_of s q ≡ None
  hi_then past = rw (eqb-same x) refl
  hi_then turned = refl

  pub opener_kept : (k : Consumer) → IsKept t k v → IsKept s (record k { place = p; own = Some x }) w
  opener_kept k kept =
      let unanswered = answer_fallback t v idle ∙ sym (answer_none v.shown refl at refl) in
      assumption (
        kept,
        live_then at,
        kept.answer ∙ unanswered,
        kept.begins ∙ (lo_idle v.place refl ∙ sym (lo_then at)),
        kept.ends ∙ (hi_idle v.place refl ∙ sym (hi_then at)),
      )
