-- The live consumers and the open exchanges stand in ascending order, and are just those that are live, that are open.
--
-- In the tables of a run the numbers of who started fall, and so do those of what was opened. A part of a list that
-- falls, chosen by a test, falls too, and turned round it ascends. Whoever has a row is in the list. So in the part is
-- whoever passes the test, and nobody else.
use Rattle.std.{proofs.{Common.{◌≡◌, inl, inr, ◌<◌, ℕ, ◌+◌, List, [], ◌∷◌, Bool, true, false, Option, Some, None, refl, ap, sym, ◌∙◌, arith}, lemmas.Bool.Decides.{nat_tests}}, specs.Prelude.{◌||◌, filter, is_some, nat_eq, reverse, if◌then◌else◌}}
use mathlib.Core.List.{reverse_aux}
use Rattle.hc_text.proofs.Basics.{or_false as or_none}
use Rattle.hc_effects.proofs.Vocabulary.{is_live, is_open, Lawful, Descends, Tables, Exchange, Consumer, Among}
use Rattle.hc_proxy.specs.{Network.{open_exchanges}, Polls.{live_consumers}}
use Rattle.hc_proxy.proofs.SkippedSteps.{among, Ascends, weaken}
use Rattle.hc_laws.proofs.OpenRuns.{filter_falls}

-- A LIST THAT FALLS, turned round

-- behind these, which all stand from n on, the ascending ones
up_behind : (n : ℕ) (xs ys : List ℕ) → Descends n xs → Ascends n ys → Ascends 0 (reverse_aux xs ys)
up_behind n [] ys down up = weaken 0 n ys (omega arith) up
up_behind n (x ∷ xs) ys down up =
    let lt : x < n = down.0 in
    up_behind x xs (x ∷ ys) down.1 (omega arith, weaken (x + 1) n ys (omega arith) up)

pub falls_up : (n : ℕ) (xs : List ℕ) → Descends n xs → Ascends 0 (reverse xs)
falls_up n xs down = up_behind n xs [] down tt

-- WHO IS AMONG

among_aux : (x : ℕ) (xs ys : List ℕ) → among x (reverse_aux xs ys) ≡ (among x xs || among x ys)
among_aux x [] ys = refl
among_aux x (y ∷ xs) ys = among_aux x xs (y ∷ ys) ∙ turn (nat_eq x y) (among x xs) (among x ys)
  where
    turn : (a b c : Bool) → (b || (a || c)) ≡ ((a || b) || c)
    turn true true c = refl
    turn true false c = refl
    turn false b c = refl

pub among_reverse : (x : ℕ) (xs : List ℕ) → among x (reverse xs) ≡ among x xs
among_reverse x xs = among_aux x xs [] ∙ or_none (among x xs)

-- of two numbers one passes the test
apart : (test : ℕ → Bool) (x y : ℕ) (b : Bool) → test x ≡ b → (test y ≡ b → ⊥) → nat_eq x y ≡ false
apart test x y b on fails = by_number (nat_eq x y) refl
  where
    by_number : (z : Bool) → nat_eq x y ≡ z → nat_eq x y ≡ false
    by_number false off = off
    by_number true here =
        let same : y ≡ x = grind (arith, nat_tests) in
        absurd (fails (ap test same ∙ on))

-- who passes it
among_filter : (test : ℕ → Bool) (x : ℕ) (xs : List ℕ) → test x ≡ true → among x (filter test xs) ≡ among x xs
among_filter test x [] on = refl
among_filter test x (y ∷ xs) on = by_test (test y) refl (among_filter test x xs on)
  where
    by_test : (b : Bool) → test y ≡ b → among x (filter test xs) ≡ among x xs →
        among x (if b then y ∷ filter test xs else filter test xs) ≡ (nat_eq x y || among x xs)
    by_test true passes rest = ap (λ b. nat_eq x y || b) rest
    by_test false fails rest =
        let other : nat_eq x y ≡ false = apart test x y true on (λ is. let never : false ≡ true = sym fails ∙ is in cc) in
        rest ∙ sym (ap (λ b. b || among x xs) other)

-- who doesn't
not_among : (test : ℕ → Bool) (x : ℕ) (xs : List ℕ) → test x ≡ false → among x (filter test xs) ≡ false
not_among test x [] off = refl
not_among test x (y ∷ xs) off = by_test (test y) refl (not_among test x xs off)
  where
    by_test : (b : Bool) → test y ≡ b → among x (filter test xs) ≡ false → among x (if b then y ∷ filter test xs else filter test xs) ≡ false
    by_test false fails rest = rest
    by_test true passes rest =
        let other : nat_eq x y ≡ false = apart test x y false off (λ is. let never : true ≡ false = sym passes ∙ is in cc) in
        ap (λ b. b || among x (filter test xs)) other ∙ rest

among_is : (x : ℕ) (xs : List ℕ) → Among x xs → among x xs ≡ true
among_is x [] there = absurd there
among_is x (y ∷ xs) (inl here) = let test : nat_eq x y ≡ true = (let same : y ≡ x = here in grind (arith, nat_tests)) in rw test refl
among_is x (y ∷ xs) (inr more) = or_yes (nat_eq x y) (among x xs) (among_is x xs more)
  where
    or_yes : (a b : Bool) → b ≡ true → (a || b) ≡ true
    or_yes true b h = refl
    or_yes false b h = h

-- of a list that has whoever passes
just_these : (test : ℕ → Bool) (xs : List ℕ) → ((x : ℕ) → test x ≡ true → Among x xs) → (x : ℕ) → among x (reverse (filter test xs)) ≡ test x
just_these test xs all x = among_reverse x (filter test xs) ∙ by_test (test x) refl
  where
    by_test : (b : Bool) → test x ≡ b → among x (filter test xs) ≡ test x
    by_test true on = among_filter test x xs on ∙ (among_is x xs (all x on) ∙ sym on)
    by_test false off = not_among test x xs off ∙ sym off

-- THE TABLES

module _ (t : Tables) (law : Lawful t) where
  pub lives_ascend : Ascends 0 (live_consumers t)
  lives_ascend = falls_up (t.last_start + 1) (filter (λ c. is_live (t.consumer c)) t.starts)
      (filter_falls (λ c. is_live (t.consumer c)) (t.last_start + 1) t.starts law.order.starts)

  live_some : (o : Option Consumer) → is_live o ≡ true → is_some o ≡ true
  live_some None h = h
  live_some (Some k) h = refl

  pub lives_are : (c : ℕ) → among c (live_consumers t) ≡ is_live (t.consumer c)
  lives_are = just_these (λ c. is_live (t.consumer c)) t.starts (λ c on. law.sound.numbered.lists.started c (live_some (t.consumer c) on))

  pub opens_ascend : Ascends 0 (open_exchanges t)
  opens_ascend = falls_up (t.opened + 1) (filter (λ x. is_open (t.exchange x)) t.openings)
      (filter_falls (λ x. is_open (t.exchange x)) (t.opened + 1) t.openings law.order.openings)

  open_some : (o : Option Exchange) → is_open o ≡ true → is_some o ≡ true
  open_some None h = h
  open_some (Some w) h = refl

  pub opens_are : (x : ℕ) → among x (open_exchanges t) ≡ is_open (t.exchange x)
  opens_are = just_these (λ x. is_open (t.exchange x)) t.openings (λ x on. law.sound.numbered.lists.opened x (open_some (t.exchange x) on))
