-- Events that are accepted: a fault of an open exchange, the end of one that has its head, a start; and what becomes of
-- whom they name.
use Rattle.std.{proofs.{Common.{◌≡◌, ◌<◌, ℕ, Bool, true, false, Option, Some, None, refl, ap, ◌∙◌, arith}, lemmas.Bool.Decides.{nat_tests}}, specs.Prelude.{is_some, if◌then◌else◌}}
use Rattle.hc_text.proofs.Basics.{eq_itself as itself, and_off as shut_by}
use Rattle.hc_effects.proofs.Vocabulary.{is_denied, Request, Response, Limits, answer, consumer_after, denial, is_live, live, as_open, Entry, exchange_after, exchange_heard, exchange_acted, is_open, Tables, Exchange, IsOwed, after, after_accepted, event}
use Rattle.hc_rules.specs.Refusals as refusals
use Rattle.hc_model.specs.Denials.{open_exchange}
use Rattle.hc_laws.proofs.Undenied.{undenied}

module _ (limits : Limits) (t : Tables) (e : Entry) (is : IsOwed limits t e) where
  -- an event that no refusal applies to
  pub is_accepted : denial t e.event ≡ None → is_denied e.acts ≡ false
  unfolding answer
  is_accepted none = grind (arith, nat_tests, undenied)

  pub after_is : denial t e.event ≡ None → after t e ≡ after_accepted t e
  unfolding after
  after_is none = rw (is_accepted none) refl

-- OPEN EXCHANGES

opened_as : (w : Exchange) → w.is_open ≡ true → as_open (Some w) ≡ Some (open_exchange w)
opened_as w h = rw h refl

module _ (limits : Limits) (t : Tables) (e : Entry) (is : IsOwed limits t e) (x : ℕ) (w : Exchange) (row : t.exchange x ≡ Some w)
    (runs : w.is_open ≡ true) where
  row_behind : denial t e.event ≡ None → (after t e).exchange x ≡ Some (exchange_acted x e.acts (exchange_heard t e x e.event w))
  unfolding exchange_after
  row_behind none = ap (λ (u : Tables). u.exchange x) (after_is limits t e is none) ∙ ap (exchange_after t e x) row

  -- a fault closes it
  fault_goes : e.event ≡ event.Fault x → denial t e.event ≡ None
  unfolding refusals.refusal_of
  fault_goes at = ap (denial t) at ∙ (ap (λ (o : Option Exchange). refusals.fault_refusal (as_open o)) row ∙ ap refusals.fault_refusal (opened_as w runs))

  pub fault_closes : e.event ≡ event.Fault x → is_open ((after t e).exchange x) ≡ false
  fault_closes at = grind (arith, nat_tests, is_open, row_behind, fault_goes, shut_by, itself)

  -- so does its end, where it has its head
  end_goes : e.event ≡ event.End x → is_some w.head ≡ true → denial t e.event ≡ None
  unfolding refusals.refusal_of
  end_goes at headed = ap (denial t) at ∙
      (ap (λ (o : Option Exchange). refusals.end_refusal (as_open o)) row ∙ (ap refusals.end_refusal (opened_as w runs) ∙ rw headed refl))

  pub end_closes : e.event ≡ event.End x → is_some w.head ≡ true → is_open ((after t e).exchange x) ≡ false
  end_closes at headed = grind (arith, nat_tests, is_open, row_behind, end_goes, shut_by, itself)

  -- behind a head it has one
  head_of : Option Exchange → Bool
  head_of None = true
  head_of (Some u) = is_some u.head

  pub has_head : (response : Response) → e.event ≡ event.Head x response → (u : Exchange) → (after t e).exchange x ≡ Some u → is_some u.head ≡ true
  unfolding after exchange_after refusals.refusal_of head_of
  has_head response at u behind = by_head (is_some w.head) refl
    where
      by_head : (b : Bool) → is_some w.head ≡ b → is_some u.head ≡ true
      by_head b headed = grind (arith, nat_tests, head_of, row_behind, itself)

-- STARTS

module _ (limits : Limits) (t : Tables) (e : Entry) (is : IsOwed limits t e) (c : ℕ) (request : Request) (at : e.event ≡ event.Start c request)
    (later : t.last_start < c) (few : live t < 1024) where
  start_goes : denial t e.event ≡ None
  unfolding refusals.refusal_of
  start_goes = grind (arith, nat_tests)

  -- who starts is live
  pub starts_live : t.consumer c ≡ None → is_live ((after t e).consumer c) ≡ true
  unfolding consumer_after
  starts_live none = grind (arith, nat_tests, after_is, start_goes, itself)
