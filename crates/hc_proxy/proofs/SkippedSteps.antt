-- Steps over ascending lists, of which some change nothing.
--
-- An element that is idle is passed over, and stays idle while others are gone through. So two lists come to the same
-- that differ in idle ones alone: where their first elements are one, both take its step; else the less of them isn't
-- in the other list, so it is idle.
use Rattle.std.{proofs.{Common.{◌≡◌, ◌⊎◌, inl, inr, ◌≤◌, ℕ, ◌+◌, List, [], ◌∷◌, Bool, true, false, refl, ap, sym, ◌∙◌, subst, arith}, lemmas.Bool.Decides.{nat_tests}}, specs.Prelude.{nat_eq, nat_lt, ◌||◌}}

abbrev pub among : ℕ → List ℕ → Bool
among x [] = false
among x (y ∷ ys) = nat_eq x y || among x ys

-- from this number on
abbrev pub Ascends : ℕ → List ℕ → Type 0
Ascends n [] = Unit {0}
Ascends n (x ∷ xs) = (n ≤ x) × Ascends (x + 1) xs

pub not_below : (n : ℕ) (xs : List ℕ) → Ascends n xs → (x : ℕ) → x + 1 ≤ n → among x xs ≡ false
not_below n [] up x lt = refl
not_below n (y ∷ ys) up x lt =
    let le : n ≤ y = up.0 in
    let off : nat_eq x y ≡ false = grind (arith, nat_tests) in
    rw off (not_below (y + 1) ys up.1 x (omega arith))

pub weaken : (m n : ℕ) (xs : List ℕ) → m ≤ n → Ascends n xs → Ascends m xs
weaken m n [] le up = tt
weaken m n (x ∷ xs) le up = let at : n ≤ x = up.0 in (omega arith, up.1)

module _ {P : Type 0} (step : ℕ → P → P) where
  abbrev pub each : List ℕ → P → P
  each [] p = p
  each (x ∷ xs) p = each xs (step x p)

  -- what is kept by each step, who is idle, and that this is passed over and stays so
  pub record IsSkipped (Inv : P → Type 0) (Idle : P → ℕ → Type 0) : Type 0 where
    pub keeps : (x : ℕ) (p : P) → Inv p → Inv (step x p)
    pub skips : (x : ℕ) (p : P) → Inv p → Idle p x → step x p ≡ p
    pub stays : (x z : ℕ) (p : P) → Inv p → nat_eq x z ≡ false → Idle p x → Idle (step z p) x

  module _ (Inv : P → Type 0) (Idle : P → ℕ → Type 0) (s : IsSkipped Inv Idle) where
    -- who is in the one and not in the other is idle
    abbrev pub IdleBut : List ℕ → List ℕ → P → Type 0
    IdleBut xs ys p = (x : ℕ) → among x xs ≡ true → among x ys ≡ false → Idle p x

    none_left : (ys : List ℕ) (p : P) → Inv p → IdleBut ys [] p → each ys p ≡ p
    none_left [] p inv idle = refl
    none_left (y ∷ ys) p inv idle =
        let first : nat_eq y y ≡ true = grind (arith, nat_tests) in
        let skip : step y p ≡ p = s.skips y p inv (idle y (rw first refl) refl) in
        rw skip (none_left ys p inv (λ x is off. idle x (either (nat_eq x y) (among x ys) is) off))
      where
        either : (a b : Bool) → b ≡ true → (a || b) ≡ true
        either true b h = refl
        either false b h = h

    -- the first of both is gone through
    rest_idle : (z : ℕ) (xs ys : List ℕ) (p : P) → Inv p → Ascends (z + 1) xs → IdleBut (z ∷ xs) (z ∷ ys) p → IdleBut xs ys (step z p)
    rest_idle z xs ys p inv up idle x is off =
        let other : nat_eq x z ≡ false = apart (nat_eq x z) refl in
        s.stays x z p inv other (idle x (rw other is) (rw other off))
      where
        apart : (b : Bool) → nat_eq x z ≡ b → nat_eq x z ≡ false
        apart false h = h
        apart true h =
            let same : x ≡ z = grind (arith, nat_tests) in
            let no : among x xs ≡ false = not_below (z + 1) xs up x (omega arith) in
            absurd (let never : true ≡ false = sym is ∙ no in cc)

    -- the first of the one alone
    drop_idle : (z : ℕ) (xs ys : List ℕ) (p : P) → IdleBut (z ∷ xs) ys p → IdleBut xs ys p
    drop_idle z xs ys p idle x is off = idle x (either (nat_eq x z) (among x xs) is) off
      where
        either : (a b : Bool) → b ≡ true → (a || b) ≡ true
        either true b h = refl
        either false b h = h

    widen_idle : (z : ℕ) (xs ys : List ℕ) (p : P) → IdleBut ys (z ∷ xs) p → among z ys ≡ false → IdleBut ys xs p
    widen_idle z xs ys p idle none x is off = idle x is (rw (apart (nat_eq x z) refl) off)
      where
        apart : (b : Bool) → nat_eq x z ≡ b → nat_eq x z ≡ false
        apart false h = h
        apart true h =
            let same : x ≡ z = grind (arith, nat_tests) in
            absurd (let never : true ≡ false = sym is ∙ (ap (λ (n : ℕ). among n ys) same ∙ none) in cc)

    -- to be shown of two lists
    abbrev Same : List ℕ → List ℕ → Type 0
    Same xs ys = (n m : ℕ) → Ascends n xs → Ascends m ys → (p : P) → Inv p → IdleBut xs ys p → IdleBut ys xs p → each xs p ≡ each ys p

    itself : (x : ℕ) → nat_eq x x ≡ true
    itself x = grind (arith, nat_tests)

    less_left : (x y : ℕ) (xs ys : List ℕ) → x + 1 ≤ y → Same xs (y ∷ ys) → (n m : ℕ) → Ascends n (x ∷ xs) → Ascends m (y ∷ ys) → (p : P) → Inv p →
        IdleBut (x ∷ xs) (y ∷ ys) p → IdleBut (y ∷ ys) (x ∷ xs) p → each (x ∷ xs) p ≡ each (y ∷ ys) p
    less_left x y xs ys less rest n m up_x up_y p inv a b =
        let none : among x (y ∷ ys) ≡ false = not_below (x + 1) (y ∷ ys) (less, up_y.1) x (omega arith) in
        let one : among x (x ∷ xs) ≡ true = rw (itself x) refl in
        let skip : step x p ≡ p = s.skips x p inv (a x one none) in
        rw skip (rest (x + 1) m up_x.1 up_y p inv (drop_idle x xs (y ∷ ys) p a) (widen_idle x xs (y ∷ ys) p b none))

    less_right : (x y : ℕ) (xs ys : List ℕ) → y + 1 ≤ x → Same (x ∷ xs) ys → (n m : ℕ) → Ascends n (x ∷ xs) → Ascends m (y ∷ ys) → (p : P) → Inv p →
        IdleBut (x ∷ xs) (y ∷ ys) p → IdleBut (y ∷ ys) (x ∷ xs) p → each (x ∷ xs) p ≡ each (y ∷ ys) p
    less_right x y xs ys less rest n m up_x up_y p inv a b =
        let none : among y (x ∷ xs) ≡ false = not_below (y + 1) (x ∷ xs) (less, up_x.1) y (omega arith) in
        let one : among y (y ∷ ys) ≡ true = rw (itself y) refl in
        let skip : step y p ≡ p = s.skips y p inv (b y one none) in
        rw skip (rest n (y + 1) up_x up_y.1 p inv (widen_idle y ys (x ∷ xs) p a none) (drop_idle y ys (x ∷ xs) p b))

    same_first : (x : ℕ) (xs ys : List ℕ) → Same xs ys → (n m : ℕ) → Ascends n (x ∷ xs) → Ascends m (x ∷ ys) → (p : P) → Inv p →
        IdleBut (x ∷ xs) (x ∷ ys) p → IdleBut (x ∷ ys) (x ∷ xs) p → each (x ∷ xs) p ≡ each (x ∷ ys) p
    same_first x xs ys rest n m up_x up_y p inv a b =
        rest (x + 1) (x + 1) up_x.1 up_y.1 (step x p) (s.keeps x p inv) (rest_idle x xs ys p inv up_x.1 a) (rest_idle x ys xs p inv up_y.1 b)

    order : (x y : ℕ) → (x + 1 ≤ y) ⊎ (y + 1 ≤ x) ⊎ (y ≡ x)
    order x y = by_tests (nat_lt x y) (nat_lt y x) refl refl
      where
        by_tests : (a b : Bool) → nat_lt x y ≡ a → nat_lt y x ≡ b → (x + 1 ≤ y) ⊎ (y + 1 ≤ x) ⊎ (y ≡ x)
        by_tests true b is off = inl (grind (arith, nat_tests))
        by_tests false true is off = inr (inl (grind (arith, nat_tests)))
        by_tests false false is off = inr (inr (grind (arith, nat_tests)))

    by_order : (x y : ℕ) (xs ys : List ℕ) → Same xs (y ∷ ys) → Same (x ∷ xs) ys → ((y ≡ x) → Same xs ys) → (x + 1 ≤ y) ⊎ (y + 1 ≤ x) ⊎ (y ≡ x) →
        Same (x ∷ xs) (y ∷ ys)
    by_order x y xs ys left right both (inl less) = less_left x y xs ys less left
    by_order x y xs ys left right both (inr (inl less)) = less_right x y xs ys less right
    by_order x y xs ys left right both (inr (inr same)) =
        let F : ℕ → Type 0 = λ z. Same (x ∷ xs) (z ∷ ys) in
        subst F (sym same) (same_first x xs ys (both same))

    against : (x : ℕ) (xs : List ℕ) → ((ys : List ℕ) → Same xs ys) → (ys : List ℕ) → Same (x ∷ xs) ys
    against x xs rest [] = λ n m up_x up_y p inv a b. none_left (x ∷ xs) p inv a
    against x xs rest (y ∷ ys) = by_order x y xs ys (rest (y ∷ ys)) (against x xs rest ys) (λ same. rest ys) (order x y)

    pub same_each : (xs ys : List ℕ) → Same xs ys
    same_each [] ys = λ n m up_x up_y p inv a b. sym (none_left ys p inv b)
    same_each (x ∷ xs) ys = against x xs (λ zs. same_each xs zs) ys
