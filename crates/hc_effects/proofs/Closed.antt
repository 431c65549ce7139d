-- What must be closed is closed: what is the own exchange of who leaves, or that of a writing whose last reader leaves.
use Rattle.std.{proofs.{lemmas.Bool.Decides.{nat_tests}, Common.{arith, ◌≡◌, inl, inr, ℕ, List, [], ◌∷◌, ◌++◌, Bool, true, Some, refl, ap, sym, ◌∙◌, subst}}, specs.Prelude.{map, filter, reverse, nat_eq, is_some}}
use Rattle.hc_text.proofs.Basics.{both_true as and_both, bool_cases, eq_itself as eq_refl, or_right, reverse_is as reversed_is}
use Rattle.hc_effects.proofs.Vocabulary.{closes_in, Event, Act, Limits, accepted_acts, poll_acts, answer_acts, loss_acts, closing, closes_row, must_close, Entry, exchange_heard, Flaw, Tables, Exchange, Sound, Among, evicted, act}
use Rattle.hc_event.specs.declared.event.Event.TheVariants as event

-- LISTS

pub among_append_left : (x : ℕ) (xs ys : List ℕ) → Among x xs → Among x (xs ++ ys)
among_append_left x [] ys there = absurd there
among_append_left x (z ∷ xs) ys (inl here) = inl here
among_append_left x (z ∷ xs) ys (inr there) = inr (among_append_left x xs ys there)

pub among_append_right : (x : ℕ) (xs ys : List ℕ) → Among x ys → Among x (xs ++ ys)
among_append_right x [] ys there = there
among_append_right x (z ∷ xs) ys there = inr (among_append_right x xs ys there)

pub among_filter : (x : ℕ) (test : ℕ → Bool) (xs : List ℕ) → test x ≡ true → Among x xs → Among x (filter test xs)
among_filter x test [] passes there = absurd there
among_filter x test (z ∷ xs) passes (inl here) = let also : test z ≡ true = ap test here ∙ passes in rw also (inl here)
among_filter x test (z ∷ xs) passes (inr there) = elim (bool_cases (test z)) [
  | inl taken ↦ rw taken (inr (among_filter x test xs passes there))
  | inr left ↦ rw left (among_filter x test xs passes there)
]

pub reversed : (x : ℕ) (xs : List ℕ) → Among x xs → Among x (reverse xs)
reversed x [] there = absurd there
reversed x (z ∷ xs) (inl here) = subst (Among x) (sym (reversed_is z xs)) (among_append_right x (reverse xs) (z ∷ []) (inl here))
reversed x (z ∷ xs) (inr there) = subst (Among x) (sym (reversed_is z xs)) (among_append_left x (reverse xs) (z ∷ []) (reversed x xs there))

-- ACTS

closes_evicted : (x : ℕ) (rs : List ℕ) (rest : List Act) → closes_in x rest ≡ true → closes_in x (map act.Evicted rs ++ rest) ≡ true
closes_evicted x [] rest closes = closes
closes_evicted x (r ∷ rs) rest closes = closes_evicted x rs rest closes

closes_lost : (x : ℕ) (flaw : Flaw) (rest : List Act) → closes_in x rest ≡ true → closes_in x (loss_acts flaw ++ rest) ≡ true
closes_lost x flaw rest closes = grind (arith, nat_tests)

closes_list : (x : ℕ) (xs : List ℕ) (rest : List Act) → Among x xs → closes_in x (map act.Close xs ++ rest) ≡ true
closes_list x [] rest there = absurd there
closes_list x (z ∷ xs) rest (inl here) = let test : nat_eq z x ≡ true = rw here (eq_refl x) in rw test refl
closes_list x (z ∷ xs) rest (inr there) = or_right (nat_eq z x) _ (closes_list x xs rest there)

closes_all : (x : ℕ) (xs : List ℕ) → Among x xs → closes_in x (map act.Close xs) ≡ true
closes_all x [] there = absurd there
closes_all x (z ∷ xs) (inl here) = let test : nat_eq z x ≡ true = rw here (eq_refl x) in rw test refl
closes_all x (z ∷ xs) (inr there) = or_right (nat_eq z x) _ (closes_all x xs there)

closes_after : (x : ℕ) (front rest : List Act) → closes_in x rest ≡ true → closes_in x (front ++ rest) ≡ true
closes_after x [] rest closes = closes
closes_after x (act.Close y ∷ acts) rest closes = or_right (nat_eq y x) _ (closes_after x acts rest closes)
closes_after x (act.Opened y c need request ∷ acts) rest closes = closes_after x acts rest closes
closes_after x (act.Ask y ∷ acts) rest closes = closes_after x acts rest closes
closes_after x (act.Shown c r why status fields lo hi ∷ acts) rest closes = closes_after x acts rest closes
closes_after x (act.Given c y at bytes ∷ acts) rest closes = closes_after x acts rest closes
closes_after x (act.Ended c ∷ acts) rest closes = closes_after x acts rest closes
closes_after x (act.Failed c cause ∷ acts) rest closes = closes_after x acts rest closes
closes_after x (act.Pending c wait ∷ acts) rest closes = closes_after x acts rest closes
closes_after x (act.Lost r kind ∷ acts) rest closes = closes_after x acts rest closes
closes_after x (act.Evicted r ∷ acts) rest closes = closes_after x acts rest closes
closes_after x (act.Denied refusal ∷ acts) rest closes = closes_after x acts rest closes

-- WHAT MUST BE CLOSED

module _ (limits : Limits) (t : Tables) (now : ℕ) (flaw : Flaw) (s : Sound t) where
  -- the entry as the closings see it
  abbrev pub before : Event → Entry
  before ev = record { now = now; event = ev; acts = answer_acts t now ev flaw ++ loss_acts flaw }

  closes_by : (ev : Event) (x : ℕ) → Among x (closing t (before ev)) → closes_in x (accepted_acts limits t now ev flaw) ≡ true
  closes_by (event.Poll c want) x there =
      closes_after x (poll_acts t now want c flaw) _ (closes_list x (closing t (before (event.Poll c want))) (loss_acts flaw) there)
  closes_by (event.Cancel c) x there = closes_list x (closing t (before (event.Cancel c))) (loss_acts flaw) there
  closes_by ev x there = closes_evicted x (evicted limits t now ev) _ (closes_lost x flaw _ (closes_all x (closing t (before ev)) there))

  -- an exchange that must be closed, and that the event leaves open, is closed
  pub closes : (ev : Event) (x : ℕ) (w : Exchange) → t.exchange x ≡ Some w → must_close t (before ev) x w ≡ true →
      (exchange_heard t (before ev) x ev w).is_open ≡ true → closes_in x (accepted_acts limits t now ev flaw) ≡ true
  unfolding closing
  closes ev x w row must on =
      let test : closes_row t (before ev) x (t.exchange x) ≡ true = ap (closes_row t (before ev) x) row ∙ and_both _ _ must on in
      closes_by ev x (among_filter x (λ y. closes_row t (before ev) y (t.exchange y)) (reverse t.openings) test
      (reversed x t.openings (s.numbered.lists.opened x (ap is_some row))))
