-- Moves of polls, and runs of what is held.
use Rattle.std.{proofs.{Common.{◌≡◌, ℕ, zero, suc, ◌<◌, ◌≤◌, List, [], ◌∷◌, length, take, Bool, true, false, Option, Some, None, refl, ap, sym, ◌∙◌, arith}, lemmas.Bool.Decides.{nat_tests}}, specs.Prelude.{is_some, nat_le, nat_lt}}
use Rattle.hc_effects.proofs.Vocabulary.{is_at_end, Move, or_else, run_of}
use Rattle.hc_state.specs.Handlers.{most}

-- WHICH MOVE IT IS

pub first_is : (a : Option Move) (rest m : Move) → a ≡ Some m → or_else a rest ≡ m
first_is a rest m is = rw is refl

pub second_is : (a b : Option Move) (rest m : Move) → a ≡ None → b ≡ Some m → or_else a (or_else b rest) ≡ m
second_is a b rest m none is = rw (none, is) refl

pub third_is : (a b : Option Move) (rest : Move) → a ≡ None → b ≡ None → or_else a (or_else b rest) ≡ rest
third_is a b rest none also = rw (none, also) refl

-- RUNS

abbrev no_bytes : List ℕ
no_bytes = []

zero_below : (n : ℕ) → nat_lt 0 (suc n) ≡ true
zero_below n = let lt : 0 < suc n = omega arith in grind (arith, nat_tests, lt)

never_below : {P : Type 0} → 0 < 0 → P
never_below lt = absurd (let none : ⊥ = omega arith in none)

run_want : (x o n b : ℕ) (bytes : List ℕ) → 0 < n → is_some (run_of x o (take n (b ∷ bytes))) ≡ true
run_want x o zero b bytes lt = never_below lt
run_want x o (suc n) b bytes lt = refl

take_none : (n : ℕ) → take n no_bytes ≡ []
take_none zero = refl
take_none (suc n) = refl

-- there is one where there are bytes
pub run_some : (x o want : ℕ) (bytes : List ℕ) → 0 < want → is_some (run_of x o (take want bytes)) ≡ nat_lt 0 (length bytes)
run_some x o want [] lt = ap (λ zs. is_some (run_of x o zs)) (take_none want)
run_some x o want (b ∷ bytes) lt = run_want x o want b bytes lt ∙ sym (zero_below (length bytes))

pub run_is : (x o : ℕ) (bytes : List ℕ) → 0 < length bytes → run_of x o bytes ≡ Some (record { x = x; at = o; bytes = bytes })
run_is x o [] lt = never_below lt
run_is x o (b ∷ bytes) lt = refl

-- who isn't at the end takes some
pub some_more : (want : ℕ) → 0 < want → (hi : Option ℕ) (o : ℕ) → is_at_end hi o ≡ false → 0 < most hi o want
some_more want wants None o off = omega (arith, wants)
some_more want wants (Some hi) o off = let below : o < hi = grind (arith, nat_tests) in omega (arith, wants, below)

-- who takes none is at the end
pub none_more : (want : ℕ) → 0 < want → (hi : Option ℕ) (o : ℕ) → most hi o want ≡ 0 → is_at_end hi o ≡ true
none_more want wants None o none = absurd (omega (arith, wants, none))
none_more want wants (Some h) o none = let le : h ≤ o = omega (arith, wants, none) in grind (arith, nat_tests, le)

-- who takes some isn't
pub before_end : (want : ℕ) (hi : Option ℕ) (o : ℕ) → (most hi o want ≡ 0 → ⊥) → is_at_end hi o ≡ false
before_end want None o some = refl
before_end want (Some h) o some = by_test (nat_le h o) refl
  where
    by_test : (b : Bool) → nat_le h o ≡ b → b ≡ false
    by_test false is = refl
    by_test true is = absurd (some (let le : h ≤ o = grind (arith, nat_tests, is) in omega (arith, le)))
