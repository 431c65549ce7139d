-- How many are live, where one of them changes.
use Rattle.std.{proofs.{lemmas.{Bool.Decides.{nat_tests}, List.{append-nil, reverse-append}}, Common.{◌≡◌, ◌≢◌, inl, inr, ℕ, ◌+◌, ◌<◌, List, [], ◌∷◌, ◌++◌, length, Bool, true, false, cond, refl, ap, sym, ◌∙◌, subst, arith}}, specs.Prelude.{filter, if◌then◌else◌, reverse}}
use Rattle.hc_text.proofs.Basics.{same_or}
use Rattle.hc_effects.proofs.Vocabulary.{Among, Descends}

abbrev pub counted : (ℕ → Bool) → List ℕ → ℕ
counted f xs = length (filter f xs)

abbrev pub one : Bool → ℕ
one b = if b then 1 else 0

-- one more that passes, or doesn't
more : (b : Bool) (x : ℕ) (xs : List ℕ) → length (cond b (x ∷ xs) xs) ≡ length xs + one b
more b x xs = grind (arith, nat_tests)

pub counted-cons : (f : ℕ → Bool) (x : ℕ) (xs : List ℕ) → counted f (x ∷ xs) ≡ counted f xs + one (f x)
counted-cons f x xs = more (f x) x (filter f xs)

-- none of them is at the bound or past it
pub not_among : (n c : ℕ) (xs : List ℕ) → Descends n xs → n < c + 1 → Among c xs → ⊥
not_among n c [] d lt h = h
not_among n c (x ∷ xs) d lt (inl is) = let lower : x < n = d.0 in let never : c < n = subst (λ m. m < n) is lower in omega arith
not_among n c (x ∷ xs) d lt (inr later) = not_among x c xs d.1 (omega (arith, d.0)) later

-- where none of them is c, what is said of c alone counts for nothing
pub counted_same : (f g : ℕ → Bool) (c : ℕ) (xs : List ℕ) → (Among c xs → ⊥) → ((d : ℕ) → d ≢ c → g d ≡ f d) → counted g xs ≡ counted f xs
counted_same f g c [] off same = refl
counted_same f g c (x ∷ xs) off same =
    let rest = counted_same f g c xs (λ h. off (inr h)) same in
    counted-cons g x xs ∙ (ap (λ n. n + one (g x)) rest ∙ (ap (λ b. counted f xs + one b) (same x (λ is. off (inl is))) ∙ sym (counted-cons f x xs)))

-- one of them changes
pub counted_moves : (f g : ℕ → Bool) (c n : ℕ) (xs : List ℕ) → Descends n xs → Among c xs → ((d : ℕ) → d ≢ c → g d ≡ f d) →
    counted g xs + one (f c) ≡ counted f xs + one (g c)
counted_moves f g c n [] d h same = absurd h
counted_moves f g c n (x ∷ xs) d (inl is) same =
    let rest : counted g xs ≡ counted f xs = counted_same f g c xs (λ h. not_among x c xs d.1 (rw is (omega arith)) h) same in
    let now : counted g (x ∷ xs) ≡ counted g xs + one (g c) = rw (← is) (counted-cons g x xs) in
    let was : counted f (x ∷ xs) ≡ counted f xs + one (f c) = rw (← is) (counted-cons f x xs) in
    omega (arith, rest, now, was)
counted_moves f g c n (x ∷ xs) d (inr later) same =
    elim (same_or x c) [
      | inl is ↦ absurd (not_among x c xs d.1 (rw is (omega arith)) later)
      | inr ne ↦
          let rest = counted_moves f g c x xs d.1 later same in
          let now : counted g (x ∷ xs) ≡ counted g xs + one (g x) = counted-cons g x xs in
          let was : counted f (x ∷ xs) ≡ counted f xs + one (f x) = counted-cons f x xs in
          let here : one (g x) ≡ one (f x) = ap one (same x ne) in
          omega (arith, rest, now, was, here)
    ]

-- ONE THAT PASSES

filter_none : (f : ℕ → Bool) (xs : List ℕ) → ((d : ℕ) → Among d xs → f d ≡ false) → filter f xs ≡ []
filter_none f [] none = refl
filter_none f (x ∷ xs) none = rw (none x (inl refl)) (filter_none f xs (λ d h. none d (inr h)))

pub filter_nothing : (f : ℕ → Bool) (xs : List ℕ) → ((d : ℕ) → f d ≡ false) → filter f xs ≡ []
filter_nothing f xs none = filter_none f xs (λ d h. none d)

-- the only one that passes
filter_only : (f : ℕ → Bool) (c n : ℕ) (xs : List ℕ) → Descends n xs → Among c xs → f c ≡ true → ((d : ℕ) → d ≢ c → f d ≡ false) → filter f xs ≡ c ∷ []
filter_only f c n [] d h passes others = absurd h
filter_only f c n (x ∷ xs) d (inl is) passes others = grind (arith, nat_tests, filter_none, not_among)
filter_only f c n (x ∷ xs) d (inr later) passes others =
    let first : f x ≡ false = others x (λ same. not_among x c xs d.1 (rw same (omega arith)) later) in
    rw first (filter_only f c x xs d.1 later passes others)

appended : (f : ℕ → Bool) (x : ℕ) (xs ys : List ℕ) (b : Bool) → f x ≡ b → filter f (xs ++ ys) ≡ filter f xs ++ filter f ys →
    filter f (x ∷ (xs ++ ys)) ≡ filter f (x ∷ xs) ++ filter f ys
appended f x xs ys b is rest = grind (arith, nat_tests)

filter-append : (f : ℕ → Bool) (xs ys : List ℕ) → filter f (xs ++ ys) ≡ filter f xs ++ filter f ys
filter-append f [] ys = refl
filter-append f (x ∷ xs) ys = appended f x xs ys (f x) refl (filter-append f xs ys)

pub filter-reverse : (f : ℕ → Bool) (xs : List ℕ) → filter f (reverse xs) ≡ reverse (filter f xs)
filter-reverse f [] = refl
filter-reverse f (x ∷ xs) =
    ap (filter f) (reverse-append (x ∷ []) xs) ∙
    (filter-append f (reverse xs) (x ∷ []) ∙ (ap (λ zs. zs ++ filter f (x ∷ [])) (filter-reverse f xs) ∙ by_test (f x) refl))
  where
    by_test : (b : Bool) → f x ≡ b → reverse (filter f xs) ++ filter f (x ∷ []) ≡ reverse (filter f (x ∷ xs))
    by_test true is = rw is (sym (reverse-append (x ∷ []) (filter f xs)))
    by_test false is = rw is (append-nil (reverse (filter f xs)))
