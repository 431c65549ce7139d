-- The lists of the tables of clients, as lists of numbers that ascend: who stands there.
--
-- Std's order on a list is that it ascends, by recursion. A list has a number exactly where the test of one element
-- after another finds it; of those that pass a test, just those that are there and pass. The tables' own tests are the
-- same. `sorted_ascends` takes std's order to this one, and `among_passes` and `passed_among` are of those that pass.
use Rattle.std.{proofs.{Common.{◌≡◌, ◌≤◌, ◌<◌, ℕ, zero, suc, ◌+◌, Bool, true, false, List, [], ◌∷◌, get_or, refl, ap, sym, ◌∙◌, arith}, lemmas.{Bool.Decides.{nat_tests}, Map.{Keys.{sorted_tail, below_from_sorted}, Made.{is_some-lookup}}}}, specs.{Prelude.{◌||◌, nat_eq, length, filter, Contains, is_some, if◌then◌else◌}, List.{list_any, Sorted.{IsStrictlySortedBy}}, Ordering.{nat_cmp}, BTreeMap.{is_at}}}
use Rattle.std.specs.BTreeMap as tree
use Rattle.hc_peers.specs.{Agreement.{ready_at}, Clients.{client_of, consumers_of, ready_of}, declared.clients.Clients.{Clients}}
use Rattle.hc_proxy.proofs.SkippedSteps.{among, Ascends}

abbrev FirstFrom : ℕ → List ℕ → Type 0
FirstFrom n [] = Unit {0}
FirstFrom n (k ∷ ks) = n ≤ k

up_from : (ks : List ℕ) (n : ℕ) → IsStrictlySortedBy nat_cmp ks → FirstFrom n ks → Ascends n ks
up_from [] n order first = tt
up_from (k ∷ ks) n order first = (first, up_from ks (k + 1) (sorted_tail nat_cmp k ks order) (next ks order))
  where
    next : (js : List ℕ) → IsStrictlySortedBy nat_cmp (k ∷ js) → FirstFrom (k + 1) js
    next [] s = tt
    next (j ∷ js) s = let lt : k < j = below_from_sorted (k ∷ j ∷ js) 0 1 0 s (omega arith) (omega arith) in omega arith

pub sorted_ascends : (ks : List ℕ) → IsStrictlySortedBy nat_cmp ks → Ascends 0 ks
sorted_ascends ks order = up_from ks 0 order (from_zero ks)
  where
    from_zero : (js : List ℕ) → FirstFrom 0 js
    from_zero [] = tt
    from_zero (j ∷ js) = omega arith

pub among_contained : (k : ℕ) (ks : List ℕ) → Contains ks k → among k ks ≡ true
among_contained k [] (n, within, is) = absurd (omega arith)
among_contained k (j ∷ ks) (zero, within, is) =
    let same : j ≡ k = is in
    let here : nat_eq k j ≡ true = grind (arith, nat_tests) in
    rw here refl
among_contained k (j ∷ ks) (suc n, within, is) = or_later (nat_eq k j) (among k ks) (among_contained k ks (n, omega arith, is))
  where
    or_later : (a b : Bool) → b ≡ true → (a || b) ≡ true
    or_later true b h = refl
    or_later false b h = h

pub contained_among : (k : ℕ) (ks : List ℕ) → among k ks ≡ true → Contains ks k
contained_among k [] h = absurd (let never : false ≡ true = h in cc)
contained_among k (j ∷ ks) h = by_test (nat_eq k j) refl h (λ g. contained_among k ks g)
  where
    by_test : (b : Bool) → nat_eq k j ≡ b → (b || among k ks) ≡ true → (among k ks ≡ true → Contains ks k) → Contains (j ∷ ks) k
    by_test true is g rest = (0, omega arith, (let same : j ≡ k = grind (arith, nat_tests) in same))
    by_test false is g rest = let there = rest g in (suc there.0, (let lt : there.0 < length ks = there.1 in omega arith), there.2)

-- who stands at a place
pub among_at : (ks : List ℕ) (i d : ℕ) → i < length ks → among (get_or ks i d) ks ≡ true
among_at [] i d lt = absurd (omega arith)
among_at (k ∷ ks) zero d lt = let here : nat_eq k k ≡ true = grind (arith, nat_tests) in rw here refl
among_at (k ∷ ks) (suc i) d lt = or_later (nat_eq (get_or ks i d) k) (among (get_or ks i d) ks) (among_at ks i d (omega arith))
  where
    or_later : (a b : Bool) → b ≡ true → (a || b) ≡ true
    or_later true b h = refl
    or_later false b h = h

-- OF A LIST, THOSE THAT PASS

pub among_passes : (test : ℕ → Bool) (k : ℕ) (ks : List ℕ) → among k ks ≡ true → test k ≡ true → among k (filter test ks) ≡ true
among_passes test k [] there passes = there
among_passes test k (j ∷ ks) there passes = by_tests (nat_eq k j) refl (test j) refl there (λ h. among_passes test k ks h passes)
  where
    by_tests : (a : Bool) → nat_eq k j ≡ a → (b : Bool) → test j ≡ b → (a || among k ks) ≡ true → (among k ks ≡ true → among k (filter test ks) ≡ true) →
        among k (if b then j ∷ filter test ks else filter test ks) ≡ true
    by_tests true here true on h rest = rw here refl
    by_tests true here false off h rest =
        let same : j ≡ k = grind (arith, nat_tests) in
        absurd (let never : false ≡ true = sym off ∙ (ap test same ∙ passes) in cc)
    by_tests false other true on h rest = rw other (rest h)
    by_tests false other false off h rest = rest h

pub passed_among : (test : ℕ → Bool) (k : ℕ) (ks : List ℕ) → among k (filter test ks) ≡ true → (among k ks ≡ true) × (test k ≡ true)
passed_among test k [] h = absurd (let never : false ≡ true = h in cc)
passed_among test k (j ∷ ks) h = by_test (test j) refl h (λ g. passed_among test k ks g)
  where
    later : (among k ks ≡ true) × (test k ≡ true) → (among k (j ∷ ks) ≡ true) × (test k ≡ true)
    later r = (or_later (nat_eq k j) (among k ks) r.0, r.1)
      where
        or_later : (a b : Bool) → b ≡ true → (a || b) ≡ true
        or_later true b g = refl
        or_later false b g = g

    by_number : (b : Bool) → nat_eq k j ≡ b → test j ≡ true → (b || among k (filter test ks)) ≡ true →
        (among k (filter test ks) ≡ true → (among k ks ≡ true) × (test k ≡ true)) → (among k (j ∷ ks) ≡ true) × (test k ≡ true)
    by_number true here on g rest = let same : j ≡ k = grind (arith, nat_tests) in (rw here refl, ap test (sym same) ∙ on)
    by_number false other on g rest = later (rest g)

    by_test : (b : Bool) → test j ≡ b → among k (if b then j ∷ filter test ks else filter test ks) ≡ true →
        (among k (filter test ks) ≡ true → (among k ks ≡ true) × (test k ≡ true)) → (among k (j ∷ ks) ≡ true) × (test k ≡ true)
    by_test true on g rest = by_number (nat_eq k j) refl on g rest
    by_test false off g rest = later (rest g)

-- OF THE TABLES

same_test : (x y : ℕ) → is_at (nat_cmp x) y ≡ nat_eq x y
same_test x y = grind (arith, nat_tests)

pub keys_among : (k : ℕ) (ks : List ℕ) → list_any (is_at (nat_cmp k)) ks ≡ among k ks
keys_among k [] = refl
keys_among k (j ∷ ks) = rw (same_test k j, keys_among k ks) refl

-- just those stand there whose next request is to be read
pub ready_among : (s : Clients) (k : ℕ) → among k (ready_of s) ≡ ready_at (client_of s k)
ready_among s k = sym (keys_among k s.ready.keys) ∙ s.due k

-- and those that have a connection there
pub lives_among : (s : Clients) (c : ℕ) → among c (consumers_of s) ≡ is_some (tree.get nat_cmp s.live c)
lives_among s c = sym (keys_among c (consumers_of s)) ∙ sym (is_some-lookup (is_at (nat_cmp c)) s.live.entries)
