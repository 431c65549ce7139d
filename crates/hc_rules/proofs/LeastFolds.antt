-- The least of a list, taken element by element.
use Rattle.std.{proofs.{lemmas.{Bool.{cases_Bool, Decides.{nat_tests}}, List.{take_more, map-append, append-nil, Elements.{filter-append}}}, Common.{◌≡◌, ℕ, ◌+◌, ◌<◌, Bool, true, false, cond, List, [], ◌∷◌, ◌++◌, length, take, map, get_or, Option, refl, ap, ◌∙◌, inl, inr, arith}}, specs.Prelude.{filter}}
use Rattle.hc_rules.specs.Admissions.{lesser, least}

lesser_swap : (a : Option ℕ) (x y : ℕ) → lesser (lesser a x) y ≡ lesser (lesser a y) x
lesser_swap a x y = grind (arith, nat_tests)

-- with one more at the end
pub least-append : (ns : List ℕ) (n : ℕ) → least (ns ++ n ∷ []) ≡ lesser (least ns) n
least-append [] n = refl
least-append (m ∷ ns) n = ap (λ (o : Option ℕ). lesser o m) (least-append ns n) ∙ lesser_swap (least ns) n m

-- with the next element, where it passes the test and where it doesn't
pub least_more : {A : Type 0} (p : A → Bool) (key : A → ℕ) (xs : List A) (i : ℕ) (d : A) → i < length xs
    → least (map key (filter p (take (i + 1) xs))) ≡ cond (p (get_or xs i d)) (lesser (least (map key (filter p (take i xs)))) (key (get_or xs i d)))
    (least (map key (filter p (take i xs))))
least_more p key xs i d within =
    let x = get_or xs i d in
    let front = filter p (take i xs) in
    let split : filter p (take (i + 1) xs) ≡ front ++ filter p (x ∷ []) = ap (filter p) (take_more xs i d within) ∙ filter-append p (take i xs) (x ∷ []) in
    elim (cases_Bool (p x)) [
      | inl passes ↦ rw (split, passes, map-append key front (x ∷ []), least-append (map key front) (key x)) refl
      | inr fails ↦ rw (split, fails, map-append key front []) (ap least (append-nil (map key front)))
    ]

-- where all count, so does the next
pub least_counted : {A : Type 0} (key : A → ℕ) (xs : List A) (i : ℕ) (d : A) (so_far next : Option ℕ) → i < length xs
    → so_far ≡ least (map key (take i xs)) → next ≡ lesser so_far (key (get_or xs i d)) → next ≡ least (map key (take (i + 1) xs))
least_counted key xs i d so_far next within before is =
    rw (take_more xs i d within, map-append key (take i xs) (get_or xs i d ∷ []), least-append (map key (take i xs)) (key (get_or xs i d)))
    (is ∙ ap (λ (o : Option ℕ). lesser o (key (get_or xs i d))) before)

-- an element that passes the test counts
pub least_taken : {A : Type 0} (p : A → Bool) (key : A → ℕ) (xs : List A) (i : ℕ) (d : A) (so_far next : Option ℕ) → i < length xs
    → so_far ≡ least (map key (filter p (take i xs))) → p (get_or xs i d) ≡ true → next ≡ lesser so_far (key (get_or xs i d)) →
    next ≡ least (map key (filter p (take (i + 1) xs)))
least_taken p key xs i d so_far next within before passes is =
    rw (least_more p key xs i d within, passes) (is ∙ ap (λ (o : Option ℕ). lesser o (key (get_or xs i d))) before)

-- and one that doesn't pass it doesn't
pub least_left : {A : Type 0} (p : A → Bool) (key : A → ℕ) (xs : List A) (i : ℕ) (d : A) (so_far next : Option ℕ) → i < length xs
    → so_far ≡ least (map key (filter p (take i xs))) → p (get_or xs i d) ≡ false → next ≡ so_far → next ≡ least (map key (filter p (take (i + 1) xs)))
least_left p key xs i d so_far next within before fails is =
    rw (least_more p key xs i d within, fails) (is ∙ before)
