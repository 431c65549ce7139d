-- What becomes due for whom: nothing where a writing goes on, and nothing for who isn't told so.
use Rattle.std.{proofs.{lemmas.Bool.Decides.{nat_tests}, Common.{arith, ◌≡◌, ℕ, true, false, Option, Some, None, refl, ap, ◌∙◌}}, specs.Option.{option_or}}
use Rattle.hc_effects.proofs.Vocabulary.{Cause, is_same_number, Place, BoundBy, due_after, Entry, exchange_in, becomes_due, cause_of_stop, cause_of_loss, cause_by_loss, cause_of_head, stop_cause, source, reads, Tables, Representation, Consumer, loses_group, place}

-- the parts of what becomes due
pub record IsUndue (t : Tables) (e : Entry) (c : ℕ) (k : Consumer) : Type 0 where
  pub stop : cause_of_stop t e k ≡ None
  pub loss : cause_of_loss t e c k.place ≡ None
  pub head : cause_of_head t e c e.event ≡ None

parts : (a b c : Option Cause) → option_or a (option_or b c) ≡ None → (a ≡ None) × (b ≡ None) × (c ≡ None)
parts a b c h = grind (arith, nat_tests)

pub undue_parts : (t : Tables) (e : Entry) (c : ℕ) (k : Consumer) → becomes_due t e c k ≡ None → IsUndue t e c k
unfolding becomes_due
undue_parts t e c k h = let all = parts (cause_of_stop t e k) (cause_of_loss t e c k.place) (cause_of_head t e c e.event) h in
    record { stop = all.0; loss = all.1; head = all.2 }

pub undue_of : (t : Tables) (e : Entry) (c : ℕ) (k : Consumer) → IsUndue t e c k → becomes_due t e c k ≡ None
unfolding becomes_due
undue_of t e c k u = rw (u.stop, u.loss, u.head) refl

-- what stops for nobody
pub stop_none : (t : Tables) (e : Entry) (k : Consumer) → stop_cause t e.event ≡ None → cause_of_stop t e k ≡ None
stop_none t e k none = grind (arith, nat_tests)

pub other_stop : (t : Tables) (e : Entry) (k : Consumer) → is_same_number (source t k) (exchange_in e.event) ≡ false → cause_of_stop t e k ≡ None
other_stop t e k off = rw off refl

pub loss_at : (t : Tables) (e : Entry) (c r lo : ℕ) (hi : Option ℕ) (how : BoundBy) (k : Consumer) (v : Representation) →
    k.place ≡ place.Bound r lo hi how → t.representation r ≡ Some v → loses_group t e r v ≡ false → cause_of_loss t e c k.place ≡ None
loss_at t e c r lo hi how k v at row kept = ap (cause_of_loss t e c) at ∙ (ap (cause_by_loss t e c r) row ∙ rw kept refl)

pub loss_free : (t : Tables) (e : Entry) (c : ℕ) (p : Place) → ((r lo : ℕ) (hi : Option ℕ) (how : BoundBy) → p ≡ place.Bound r lo hi how → ⊥) →
    cause_of_loss t e c p ≡ None
loss_free t e c p free = grind (arith, nat_tests)

-- a row's due failure after an entry
pub due_is : (t : Tables) (e : Entry) (c : ℕ) (k q u : Consumer) → due_after t e c k q ≡ u → reads u.place ≡ true →
    u.due ≡ option_or k.due (becomes_due t e c k)
due_is t e c k q u is reading = grind (arith, nat_tests)

pub due_none : (t : Tables) (e : Entry) (c : ℕ) (k q u : Consumer) → due_after t e c k q ≡ u → reads u.place ≡ true → k.due ≡ None →
    becomes_due t e c k ≡ None → u.due ≡ None
due_none t e c k q u is reading before none = due_is t e c k q u is reading ∙ (ap (λ (z : Option Cause). option_or z (becomes_due t e c k)) before ∙ none)

-- and what wasn't due after it wasn't before, nor became so
pub due_before : (t : Tables) (e : Entry) (c : ℕ) (k q u : Consumer) → due_after t e c k q ≡ u → reads u.place ≡ true → u.due ≡ None → (k.due ≡ None) ×
    (becomes_due t e c k ≡ None)
due_before t e c k q u is reading none = grind (arith, nat_tests)
