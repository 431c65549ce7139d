-- Whose the connections are, where more are dialled: those before keep their exchanges, and one whose number is new is
-- that of the next.
--
-- The exchange of a connection is the place at which that first stands in the list, and the connection of an exchange
-- is what stands there. What is appended changes no place before it. One more connection stands at the next place, and
-- nowhere before, since its number is new: so each number still names one exchange.
use Rattle.std.{proofs.{Common.{◌≡◌, ◌⊎◌, inl, inr, ℕ, zero, suc, ◌+◌, ◌-◌, List, [], ◌∷◌, ◌++◌, length, drop, Bool, true, false, Option, Some, None, refl, ap, sym, ◌∙◌, subst, arith, append_assoc}, lemmas.{Bool.Decides.{nat_tests}, List.{map-append}}}, specs.Prelude.{nat_eq, map, replicate, if◌then◌else◌}}
use Rattle.hc_text.proofs.Basics.{eq_itself as same_number, some_same}
use Rattle.hc_proxy.specs.{Connections.{dials_from, is_dialled, place_from, exchange_of, first_of, connection_of}, Invariants.{NamesOne}, Rows.{Setting}}

none_some : {A : Type 0} (k : ℕ) → None ≡ Some k → A
none_some k h = absurd (let never : None ≡ Some k = h in cc)

-- THE EXCHANGE OF A CONNECTION

place_more : (n k x : ℕ) (xs more : List (Option ℕ)) → place_from n k xs ≡ Some x → place_from n k (xs ++ more) ≡ Some x
place_more n k x [] more h = none_some x h
place_more n k x (j ∷ xs) more h = by_test (is_dialled k j) h (place_more (n + 1) k x xs more)
  where
    by_test : (b : Bool) → (if b then Some n else place_from (n + 1) k xs) ≡ Some x →
        (place_from (n + 1) k xs ≡ Some x → place_from (n + 1) k (xs ++ more) ≡ Some x) → (if b then Some n else place_from (n + 1) k (xs ++ more)) ≡ Some x
    by_test true here later = here
    by_test false there later = later there

place_new : (n k : ℕ) (xs more : List (Option ℕ)) → place_from n k xs ≡ None → place_from n k (xs ++ more) ≡ place_from (n + length xs) k more
place_new n k [] more h = let e : n ≡ n + 0 = omega arith in ap (λ (m : ℕ). place_from m k more) e
place_new n k (j ∷ xs) more h = by_test (is_dialled k j) h (place_new (n + 1) k xs more)
  where
    by_test : (b : Bool) → (if b then Some n else place_from (n + 1) k xs) ≡ None →
        (place_from (n + 1) k xs ≡ None → place_from (n + 1) k (xs ++ more) ≡ place_from ((n + 1) + length xs) k more) →
        (if b then Some n else place_from (n + 1) k (xs ++ more)) ≡ place_from (n + length (j ∷ xs)) k more
    by_test true here later = none_some n (sym here)
    by_test false there later = let e : (n + 1) + length xs ≡ n + length (j ∷ xs) = omega arith in later there ∙ ap (λ (m : ℕ). place_from m k more) e

-- whose it was it stays
pub exchange_stays : (dialled more : List (Option ℕ)) (k x : ℕ) → exchange_of dialled k ≡ Some x → exchange_of (dialled ++ more) k ≡ Some x
exchange_stays dialled more k x h = place_more 1 k x dialled more h

-- one that was nobody's is that of the next exchange
pub exchange_comes : (dialled : List (Option ℕ)) (k : ℕ) → exchange_of dialled k ≡ None → exchange_of (dialled ++ Some k ∷ []) k ≡ Some (length dialled + 1)
exchange_comes dialled k h =
    let e : 1 + length dialled ≡ length dialled + 1 = omega arith in
    place_new 1 k dialled (Some k ∷ []) h ∙ (rw (same_number k) (ap Some e))

-- and another one that was nobody's stays so
pub nobodys_stays : (dialled : List (Option ℕ)) (k j : ℕ) → exchange_of dialled j ≡ None → nat_eq k j ≡ false → exchange_of (dialled ++ Some k ∷ []) j ≡ None
nobodys_stays dialled k j h off = place_new 1 j dialled (Some k ∷ []) h ∙ rw off refl

-- THE CONNECTION OF AN EXCHANGE

first_more : (n k : ℕ) (xs more : List (Option ℕ)) → first_of (drop n xs) ≡ Some k → first_of (drop n (xs ++ more)) ≡ Some k
first_more zero k [] more h = none_some k h
first_more (suc n) k [] more h = none_some k h
first_more zero k (j ∷ xs) more h = h
first_more (suc n) k (j ∷ xs) more h = first_more n k xs more h

first_last : (k : ℕ) (xs : List (Option ℕ)) → first_of (drop (length xs) (xs ++ Some k ∷ [])) ≡ Some k
first_last k [] = refl
first_last k (j ∷ xs) = first_last k xs

first_cases : (n k j : ℕ) (xs : List (Option ℕ)) → first_of (drop n (xs ++ Some k ∷ [])) ≡ Some j →
    (first_of (drop n xs) ≡ Some j) ⊎ ((n ≡ length xs) × (k ≡ j))
first_cases zero k j [] h = inr (refl, some_same k j h)
first_cases (suc zero) k j [] h = none_some j h
first_cases (suc (suc n)) k j [] h = none_some j h
first_cases zero k j (i ∷ xs) h = inl h
first_cases (suc n) k j (i ∷ xs) h =
    elim (first_cases n k j xs h) [
      | inl there ↦ inl there
      | inr last ↦ inr (ap suc last.0, last.1)
    ]

-- which it was it stays
pub connection_stays : (dialled more : List (Option ℕ)) (x k : ℕ) → connection_of dialled x ≡ Some k → connection_of (dialled ++ more) x ≡ Some k
connection_stays dialled more x k h = by_test (nat_eq x 0) h
  where
    by_test : (b : Bool) → (if b then None else first_of (drop (x - 1) dialled)) ≡ Some k →
        (if b then None else first_of (drop (x - 1) (dialled ++ more))) ≡ Some k
    by_test true none = none
    by_test false there = first_more (x - 1) k dialled more there

-- the next exchange has the one that comes
pub connection_comes : (dialled : List (Option ℕ)) (k : ℕ) → connection_of (dialled ++ Some k ∷ []) (length dialled + 1) ≡ Some k
connection_comes dialled k =
    let off : nat_eq (length dialled + 1) 0 ≡ false = grind (arith, nat_tests) in
    let e : length dialled + 1 - 1 ≡ length dialled = omega arith in
    rw (off, e) (first_last k dialled)

-- no other one has more than before
pub connection_was : (dialled : List (Option ℕ)) (k x j : ℕ) → connection_of (dialled ++ Some k ∷ []) x ≡ Some j →
    (connection_of dialled x ≡ Some j) ⊎ ((x ≡ length dialled + 1) × (k ≡ j))
connection_was dialled k x j h = by_test (nat_eq x 0) refl h
  where
    by_test : (b : Bool) → nat_eq x 0 ≡ b → (if b then None else first_of (drop (x - 1) (dialled ++ Some k ∷ []))) ≡ Some j →
        ((if b then None else first_of (drop (x - 1) dialled)) ≡ Some j) ⊎ ((x ≡ length dialled + 1) × (k ≡ j))
    by_test true is none = inl none
    by_test false is there = elim (first_cases (x - 1) k j dialled there) [
      | inl before ↦ inl before
      | inr last ↦ inr (let e : x - 1 ≡ length dialled = last.0 in grind (arith, nat_tests), last.1)
    ]

-- THE DIALS, from some contents

-- those that come stand behind those before
pub dials_more : (c : Setting) (dialled more : List ℕ) → dials_from c (dialled ++ more) ≡ dials_from c dialled ++ map Some more
dials_more c dialled more =
    ap (λ (os : List (Option ℕ)). replicate (c.contents.next_exchange - 1) None ++ os) (map-append Some dialled more)
    ∙ sym (append_assoc (replicate (c.contents.next_exchange - 1) None) (map Some dialled) (map Some more))

length_none : (n : ℕ) (os : List (Option ℕ)) → length (replicate n None ++ os) ≡ n + length os
length_none zero os = omega arith
length_none (suc n) os = let rest = length_none n os in omega arith

length_some : (ks : List ℕ) → length (map Some ks) ≡ length ks
length_some [] = refl
length_some (k ∷ ks) = ap suc (length_some ks)

-- one for each exchange before, and for each that was dialled
pub dials_length : (c : Setting) (dialled : List ℕ) → length (dials_from c dialled) ≡ (c.contents.next_exchange - 1) + length dialled
dials_length c dialled = length_none (c.contents.next_exchange - 1) (map Some dialled) ∙ ap (λ n. (c.contents.next_exchange - 1) + n) (length_some dialled)

-- before the first dial no connection is anybody's

none_placed : (i k n : ℕ) → place_from i k (replicate n None ++ []) ≡ None
none_placed i k zero = refl
none_placed i k (suc n) = none_placed (i + 1) k n

pub nobodys_first : (c : Setting) (k : ℕ) → exchange_of (dials_from c []) k ≡ None
nobodys_first c k = none_placed 1 k (c.contents.next_exchange - 1)

none_first : (m n : ℕ) → first_of (drop m (replicate n None ++ [])) ≡ None
none_first zero zero = refl
none_first (suc m) zero = refl
none_first zero (suc n) = refl
none_first (suc m) (suc n) = none_first m n

pub none_dialled : (c : Setting) (y k : ℕ) → connection_of (dials_from c []) y ≡ Some k → ⊥
none_dialled c y k is = by_test (nat_eq y 0) is
  where
    by_test : (b : Bool) → (if b then None else first_of (drop (y - 1) (dials_from c []))) ≡ Some k → ⊥
    by_test true at = none_some k at
    by_test false at = none_some k (sym (none_first (y - 1) (c.contents.next_exchange - 1)) ∙ at)

-- NO NUMBER TWICE

-- one more, whose number is new
pub names_more : (dialled : List (Option ℕ)) (k : ℕ) → exchange_of dialled k ≡ None → NamesOne dialled → NamesOne (dialled ++ Some k ∷ [])
names_more dialled k new names x j h =
    elim (connection_was dialled k x j h) as (λ _. exchange_of (dialled ++ Some k ∷ []) j ≡ Some x) [
      | inl before ↦ exchange_stays dialled (Some k ∷ []) j x (names x j before)
      | inr last ↦ subst (λ (n : ℕ). exchange_of (dialled ++ Some k ∷ []) n ≡ Some x) last.1 (exchange_comes dialled k new ∙ ap Some (sym last.0))
    ]
