-- What the acts of a turn close isn't open behind them.
--
-- An accepted entry closes what had a row, and the row is shut behind it. No entry opens it again: what an entry opens
-- is the next exchange, whose number wasn't given out.
use Rattle.std.{proofs.{Common.{◌≡◌, inl, inr, ◌≤◌, ℕ, ◌+◌, List, [], ◌∷◌, ◌++◌, Bool, true, false, Option, Some, None, refl, ap, sym, ◌∙◌, arith}, lemmas.Bool.Decides.{nat_tests}}, specs.Prelude.{◌||◌, nat_eq, nat_lt}}
use Rattle.hc_text.proofs.Basics.{or_cases, true_false}
use Rattle.hc_effects.proofs.Vocabulary.{closes_in, is_denied, Act, Limits, Entry, exchange_after, is_open, flaw_in, Exchange, IsOwed, after, act}
use Rattle.hc_effects.proofs.{Owed.{acts_are, is_denial, IsDenied, denied}, Unclosed.{had_row}}
use Rattle.hc_proxy.specs.{Invariants.{AreClosed}, Rows.{Proxy}}
use Rattle.hc_proxy.proofs.{OpenAfter.{was_open}, Stands.{Stands, is_sound}, StepOn.{opens_behind, opened_grows}}

-- LISTS OF ACTS

pub turn_or : (a b c : Bool) → (a || (b || c)) ≡ ((a || b) || c)
turn_or true b c = refl
turn_or false b c = refl

pub closes_both : (x : ℕ) (xs ys : List Act) → closes_in x (xs ++ ys) ≡ (closes_in x xs || closes_in x ys)
closes_both x [] ys = refl
closes_both x (act.Close y ∷ xs) ys = ap (λ (b : Bool). nat_eq y x || b) (closes_both x xs ys) ∙ turn_or (nat_eq y x) (closes_in x xs) (closes_in x ys)
closes_both x (act.Denied refusal ∷ xs) ys = closes_both x xs ys
closes_both x (act.Opened y c need request ∷ xs) ys = closes_both x xs ys
closes_both x (act.Ask y ∷ xs) ys = closes_both x xs ys
closes_both x (act.Shown c r why status fields lo hi ∷ xs) ys = closes_both x xs ys
closes_both x (act.Given c y at bytes ∷ xs) ys = closes_both x xs ys
closes_both x (act.Ended c ∷ xs) ys = closes_both x xs ys
closes_both x (act.Failed c cause ∷ xs) ys = closes_both x xs ys
closes_both x (act.Pending c wait ∷ xs) ys = closes_both x xs ys
closes_both x (act.Lost r kind ∷ xs) ys = closes_both x xs ys
closes_both x (act.Evicted r ∷ xs) ys = closes_both x xs ys

denied_closes : (y : ℕ) (acts : List Act) → IsDenied acts → closes_in y acts ≡ false
denied_closes y _ (denied refusal) = refl

-- AN ENTRY

module _ (limits : Limits) (p : Proxy) (s : Stands limits p) (e : Entry) (is : IsOwed limits p.tables e) where
  -- what has a row has a number that was given out
  within : (y : ℕ) (w : Exchange) → p.tables.exchange y ≡ Some w → (b : Bool) → nat_lt p.tables.opened y ≡ b → y ≤ p.tables.opened
  within y w row true past =
      let none : p.tables.exchange y ≡ None = (is_sound limits p s).numbered.lists.new_exchanges y (grind (arith, nat_tests)) in
      absurd (let never : None ≡ Some w = sym none ∙ row in cc)
  within y w row false past = grind (arith, nat_tests)

  shut_row : (y : ℕ) (w : Exchange) → closes_in y e.acts ≡ true → is_open (exchange_after p.tables e y (Some w)) ≡ false
  unfolding exchange_after
  shut_row y w closes = rw closes refl

  accepted_row : (y : ℕ) → is_denied e.acts ≡ false → (after p.tables e).exchange y ≡ exchange_after p.tables e y (p.tables.exchange y)
  unfolding after
  accepted_row y taken = rw taken refl

  shut_by : (b : Bool) → is_denied e.acts ≡ b → (y : ℕ) → closes_in y e.acts ≡ true → (is_open ((after p.tables e).exchange y) ≡ false) × (y ≤ p.tables.opened)
  shut_by true deny y closes = true_false (sym closes ∙ denied_closes y e.acts (is_denial e.acts deny))
  shut_by false taken y closes = by_row (p.tables.exchange y) refl
    where
      by_row : (o : Option Exchange) → p.tables.exchange y ≡ o → (is_open ((after p.tables e).exchange y) ≡ false) × (y ≤ p.tables.opened)
      by_row None row =
          absurd (had_row limits p.tables e.now (flaw_in e.acts) (is_sound limits p s) e.event y
          (ap (closes_in y) (sym (acts_are limits p.tables e is taken)) ∙ closes) row)
      by_row (Some w) row = (
        ap is_open (accepted_row y taken) ∙ (ap (λ (o : Option Exchange). is_open (exchange_after p.tables e y o)) row ∙ shut_row y w closes),
        within y w row (nat_lt p.tables.opened y) refl,
      )

  -- what it closes isn't open behind it
  pub shuts : (y : ℕ) → closes_in y e.acts ≡ true → (is_open ((after p.tables e).exchange y) ≡ false) × (y ≤ p.tables.opened)
  shuts y closes = shut_by (is_denied e.acts) refl y closes

  -- nor is what wasn't open, of those that were given out
  stays_shut : (y : ℕ) → is_open (p.tables.exchange y) ≡ false → y ≤ p.tables.opened → (b : Bool) → is_open ((after p.tables e).exchange y) ≡ b →
      is_open ((after p.tables e).exchange y) ≡ false
  stays_shut y off le false now = now
  stays_shut y off le true now = elim (was_open p.tables e y now) as (λ _. is_open ((after p.tables e).exchange y) ≡ false) [
    | inl was ↦ true_false (sym was ∙ off)
    | inr opens ↦ absurd (
        let next : opens.q.x ≡ p.tables.opened + 1 = opens_behind limits p s e is opens.q opens.opens in
        let same : opens.q.x ≡ y = opens.number in
        omega arith)
  ]

  pub closed_behind : (acts : List Act) → AreClosed acts p.tables → AreClosed (acts ++ e.acts) (after p.tables e)
  closed_behind acts was y closes =
      let grows : p.tables.opened ≤ (after p.tables e).opened = opened_grows limits p s e is in
      elim (or_cases (closes_in y acts) (closes_in y e.acts) (sym (closes_both y acts e.acts) ∙ closes)) as
      (λ _. (is_open ((after p.tables e).exchange y) ≡ false) × (y ≤ (after p.tables e).opened)) [
        | inl first ↦
            let old = was y first in
            let le : y ≤ p.tables.opened = old.1 in
            (stays_shut y old.0 old.1 (is_open ((after p.tables e).exchange y)) refl, omega arith)
        | inr second ↦
            let now = shuts y second in
            let le : y ≤ p.tables.opened = now.1 in
            (now.0, omega arith)
      ]
