-- What is closed had to be.
use Rattle.std.{proofs.{Common.{◌≡◌, ◌⊎◌, inl, inr, ℕ, List, [], ◌∷◌, ◌++◌, Bool, true, Option, Some, None, ap, sym, ◌∙◌, arith}, lemmas.Bool.Decides.{nat_tests}}, specs.Prelude.{map, filter, reverse, nat_eq}}
use Rattle.hc_text.proofs.Basics.{and_left, and_right, bool_cases, or_cases}
use Rattle.hc_effects.proofs.Vocabulary.{closes_in, Event, Act, Limits, accepted_acts, poll_acts, loss_acts, closing, closes_row, must_close, exchange_heard, Flaw, NoFlaw, Misreads, Move, acts_of, poll_move, Tables, Exchange, Sound, Among, evicted, act}
use Rattle.hc_event.specs.declared.event.Event.TheVariants as event
use Rattle.hc_effects.proofs.{Basics.{false_true}, Closed.{before}}

among_test : (x : ℕ) (test : ℕ → Bool) (xs : List ℕ) → Among x (filter test xs) → test x ≡ true
among_test x test [] there = absurd there
among_test x test (z ∷ xs) there = elim (bool_cases (test z)) [
  | inl taken ↦
      let either : (z ≡ x) ⊎ Among x (filter test xs) = rw taken at there in
      elim either [
        | inl here ↦ sym (ap test here) ∙ taken
        | inr more ↦ among_test x test xs more
      ]
  | inr off ↦ among_test x test xs (rw off at there)
]

-- ACTS

lost_closes : (x : ℕ) (flaw : Flaw) → closes_in x (loss_acts flaw) ≡ true → ⊥
lost_closes x NoFlaw h = false_true h
lost_closes x _ h = false_true h

in_closes : (x : ℕ) (xs : List ℕ) (rest : List Act) → closes_in x (map act.Close xs ++ rest) ≡ true → (closes_in x rest ≡ true → ⊥) → Among x xs
in_closes x [] rest h off = absurd (off h)
in_closes x (z ∷ xs) rest h off = elim (or_cases (nat_eq z x) _ h) [
  | inl here ↦ inl (grind (arith, nat_tests))
  | inr more ↦ inr (in_closes x xs rest more off)
]

in_all : (x : ℕ) (xs : List ℕ) → closes_in x (map act.Close xs) ≡ true → Among x xs
in_all x [] h = absurd (false_true h)
in_all x (z ∷ xs) h = elim (or_cases (nat_eq z x) _ h) [
  | inl here ↦ inl (grind (arith, nat_tests))
  | inr more ↦ inr (in_all x xs more)
]

in_evicted : (x : ℕ) (rs : List ℕ) (rest : List Act) → closes_in x (map act.Evicted rs ++ rest) ≡ true → closes_in x rest ≡ true
in_evicted x [] rest h = h
in_evicted x (r ∷ rs) rest h = in_evicted x rs rest h

in_lost : (x : ℕ) (flaw : Flaw) (rest : List Act) → closes_in x (loss_acts flaw ++ rest) ≡ true → closes_in x rest ≡ true
in_lost x flaw rest h = grind (arith, nat_tests)

in_move : (x c : ℕ) (m : Move) (rest : List Act) → closes_in x (acts_of c m ++ rest) ≡ true → closes_in x rest ≡ true
in_move x c m rest h = grind (arith, nat_tests)

in_poll : (t : Tables) (now want c x : ℕ) (flaw : Flaw) (rest : List Act) → closes_in x (poll_acts t now want c flaw ++ rest) ≡ true → closes_in x rest ≡ true
in_poll t now want c x (Misreads r) rest h = h
in_poll t now want c x _ rest h = in_move x c (poll_move t now want c (t.consumer c)) rest h

module _ (limits : Limits) (t : Tables) (now : ℕ) (flaw : Flaw) (s : Sound t) where
  reported : (ev : Event) (x : ℕ) → closes_in
      x (map act.Evicted (evicted limits t now ev) ++
      (loss_acts flaw ++ map act.Close (closing t (record { now = now; event = ev; acts = loss_acts flaw })))) ≡ true →
      Among x (closing t (record { now = now; event = ev; acts = loss_acts flaw }))
  reported ev x h = in_all x (closing t (record { now = now; event = ev; acts = loss_acts flaw }))
      (in_lost x flaw _ (in_evicted x (evicted limits t now ev) _ h))

  closed_by : (ev : Event) (x : ℕ) → closes_in x (accepted_acts limits t now ev flaw) ≡ true → Among x (closing t (before limits t now flaw s ev))
  closed_by (event.Poll c want) x h =
      in_closes x (closing t (before limits t now flaw s (event.Poll c want))) (loss_acts flaw) (in_poll t now want c x flaw _ h) (lost_closes x flaw)
  closed_by (event.Cancel c) x h = in_closes x (closing t (before limits t now flaw s (event.Cancel c))) (loss_acts flaw) h (lost_closes x flaw)
  closed_by ev x h = reported ev x h

  -- what is closed had to be
  pub had_to : (ev : Event) (x : ℕ) (w : Exchange) → t.exchange x ≡ Some w → closes_in x (accepted_acts limits t now ev flaw) ≡ true →
      must_close t (before limits t now flaw s ev) x w ≡ true
  unfolding closing
  had_to ev x w row h =
      let test = among_test x (λ y. closes_row t (before limits t now flaw s ev) y (t.exchange y)) (reverse t.openings) (closed_by ev x h) in
      and_left _ _ (sym (ap (closes_row t (before limits t now flaw s ev) x) row) ∙ test)

  none_test : (ev : Event) (x : ℕ) (o : Option Exchange) → closes_row t (before limits t now flaw s ev) x o ≡ true → o ≡ None → ⊥
  none_test ev x None h none = false_true h
  none_test ev x (Some w) h none = let never : Some w ≡ None = none in cc

  -- and there
  pub had_row : (ev : Event) (x : ℕ) → closes_in x (accepted_acts limits t now ev flaw) ≡ true → t.exchange x ≡ None → ⊥
  unfolding closing
  had_row ev x h none = none_test ev x (t.exchange x)
      (among_test x (λ y. closes_row t (before limits t now flaw s ev) y (t.exchange y)) (reverse t.openings) (closed_by ev x h)) none

  row_test : (ev : Event) (x : ℕ) (w : Exchange) (o : Option Exchange) → o ≡ Some w → closes_row t (before limits t now flaw s ev) x o ≡ true →
      (exchange_heard t (before limits t now flaw s ev) x ev w).is_open ≡ true
  row_test ev x w None is h = absurd (false_true h)
  row_test ev x w (Some z) is h = let same : z ≡ w = (let is_it : Some z ≡ Some w = is in cc) in
      ap (λ (q : Exchange). (exchange_heard t (before limits t now flaw s ev) x ev q).is_open) (sym same) ∙ and_right _ _ h

  -- and the event left it open
  pub had_open : (ev : Event) (x : ℕ) (w : Exchange) → t.exchange x ≡ Some w → closes_in x (accepted_acts limits t now ev flaw) ≡ true →
      (exchange_heard t (before limits t now flaw s ev) x ev w).is_open ≡ true
  unfolding closing
  had_open ev x w row h = row_test ev x w (t.exchange x) row
      (among_test x (λ y. closes_row t (before limits t now flaw s ev) y (t.exchange y)) (reverse t.openings) (closed_by ev x h))
