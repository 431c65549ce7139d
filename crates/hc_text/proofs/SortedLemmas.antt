-- Where a number stands in a list whose numbers rise, and what changes there leave.
--
-- Each lemma goes by induction over the list, with one form for numbers that are all above another (`is_sorted-above`).
-- The place of a number is where a halving ends (`place_is`), and it stands there or nowhere (`found-place`). So the
-- changes at the place are those of the definitions: one more, one less, another in its place (`insert-place`,
-- `remove-place`, `set-place`). Each keeps the order, and says who is there then (`has-with`, `has-without`).
use Rattle.std.{proofs.{Common.{◌≡◌, ℕ, zero, suc, ◌+◌, ◌<◌, ◌≤◌, List, [], ◌∷◌, length, get_or, set, Bool, true, false, not, cond, eqb, leb, ltb, Some, None, refl, sym, ap, ◌∙◌, inl, inr, arith, lt-ltb}, lemmas.{Bool.{cases_Bool, and_parts, le-leb, lt-leb, ltb-true, ltb-false, leb-true, leb-false, eqb-true, eqb-false, eq-eqb, ne_eqb}, List.Sums.{position_or_len_is}}}, specs.{Prelude.{◌&&◌, ◌||◌, filter, is_some}, List.{list_any, insert, remove, Sorted.{IsNonDecreasingBy, IsPartitionPoint}}}}
use Rattle.hc_text.proofs.Basics.{and_false}
use Rattle.hc_text.specs.Sorted.{above, is_sorted, is_at, has, item_with, with_item, without, with_replacement, place}

or_swap : (a b c : Bool) → a || (b || c) ≡ b || (a || c)
or_swap true true c = refl
or_swap true false c = refl
or_swap false true c = refl
or_swap false false c = refl

and_or : (a b : Bool) → not a && b ≡ not a && (a || b)
and_or true b = refl
and_or false b = refl

kept_or : (a b c : Bool) → (a ≡ true → b ≡ true → ⊥) → a || (not b && c) ≡ not b && (a || c)
kept_or true true c apart = absurd (apart refl refl)
kept_or true false c apart = refl
kept_or false b c apart = refl

any_none : {X : Type 0} (p : X → Bool) (x : X) (xs : List X) → list_any p (x ∷ xs) ≡ false → (p x ≡ false) × (list_any p xs ≡ false)
any_none p x xs h = elim (cases_Bool (p x)) [
  | inl passes ↦ absurd (let e : true ≡ false = rw passes at h in cc)
  | inr fails ↦ (fails, rw fails at h)
]

module _ {X : Type 0} (number : X → ℕ) where
  -- what is above a number is above every lower one
  pub above-lower : (m n : ℕ) (xs : List X) → m ≤ n → above number n xs ≡ true → above number m xs ≡ true
  above-lower m n [] le up = refl
  above-lower m n (x ∷ xs) le up =
      let (first, rest) = and_parts (ltb n (number x)) (above number (number x) xs) up in
      let lower : m < number x = let h = ltb-true n (number x) first in omega arith in
      rw (lt-ltb m (number x) lower) rest

  pub is_sorted-above : (n : ℕ) (xs : List X) → above number n xs ≡ true → is_sorted number xs ≡ true
  is_sorted-above n [] up = refl
  is_sorted-above n (x ∷ xs) up = (and_parts (ltb n (number x)) (above number (number x) xs) up).1

  above-at : (n : ℕ) (xs : List X) (j : ℕ) (d : X) → above number n xs ≡ true → j < length xs → n < number (get_or xs j d)
  above-at n [] j d up lt = absurd (omega arith)
  above-at n (x ∷ xs) zero d up lt = ltb-true n (number x) ((and_parts (ltb n (number x)) (above number (number x) xs) up).0)
  above-at n (x ∷ xs) (suc j) d up lt =
      let (first, rest) = and_parts (ltb n (number x)) (above number (number x) xs) up in
      let h = ltb-true n (number x) first in
      let further = above-at (number x) xs j d rest (omega arith) in
      omega arith

  pub IsNonDecreasingBy-is_sorted : (xs : List X) → is_sorted number xs ≡ true → IsNonDecreasingBy number xs
  IsNonDecreasingBy-is_sorted [] up i j d le lt = absurd (omega arith)
  IsNonDecreasingBy-is_sorted (x ∷ xs) up zero zero d le lt = omega arith
  IsNonDecreasingBy-is_sorted (x ∷ xs) up zero (suc j) d le lt = let h = above-at (number x) xs j d up (omega arith) in omega arith
  IsNonDecreasingBy-is_sorted (x ∷ xs) up (suc i) zero d le lt = absurd (omega arith)
  IsNonDecreasingBy-is_sorted (x ∷ xs) up (suc i) (suc j) d le lt =
      IsNonDecreasingBy-is_sorted xs (is_sorted-above (number x) xs up) i j d (omega arith) (omega arith)

  -- a list none of whose numbers is n or below
  pub found-above : (m n : ℕ) (xs : List X) → n ≤ m → above number m xs ≡ true → item_with number n xs ≡ None
  found-above m n [] le up = refl
  found-above m n (x ∷ xs) le up =
      let (first, rest) = and_parts (ltb m (number x)) (above number (number x) xs) up in
      let h = ltb-true m (number x) first in
      rw (ne_eqb (number x) n (λ e. omega arith)) (found-above (number x) n xs (omega arith) rest)

  pub has-above : (m n : ℕ) (xs : List X) → n ≤ m → above number m xs ≡ true → has number n xs ≡ false
  has-above m n [] le up = refl
  has-above m n (x ∷ xs) le up =
      let (first, rest) = and_parts (ltb m (number x)) (above number (number x) xs) up in
      let h = ltb-true m (number x) first in
      rw (ne_eqb (number x) n (λ e. omega arith)) (has-above (number x) n xs (omega arith) rest)

  without-above : (m n : ℕ) (xs : List X) → n ≤ m → above number m xs ≡ true → without number n xs ≡ xs
  without-above m n [] le up = refl
  without-above m n (x ∷ xs) le up =
      let (first, rest) = and_parts (ltb m (number x)) (above number (number x) xs) up in
      let h = ltb-true m (number x) first in
      rw (ne_eqb (number x) n (λ e. omega arith)) (ap (λ (l : List X). x ∷ l) (without-above (number x) n xs (omega arith) rest))

  replaced-above : (m : ℕ) (y : X) (xs : List X) → number y ≤ m → above number m xs ≡ true → with_replacement number y xs ≡ xs
  replaced-above m y [] le up = refl
  replaced-above m y (x ∷ xs) le up =
      let (first, rest) = and_parts (ltb m (number x)) (above number (number x) xs) up in
      let h = ltb-true m (number x) first in
      rw (ne_eqb (number x) (number y) (λ e. omega arith)) (ap (λ (l : List X). x ∷ l) (replaced-above (number x) y xs (omega arith) rest))

  point_is : (n : ℕ) (xs : List X) (i : ℕ) (d : X) → i ≤ length xs
      → IsPartitionPoint (λ x. ltb (number x) n ≡ true) (λ x. ltb (number x) n ≡ false) xs i → i ≡ place number n xs
  point_is n xs i d within split =
      sym (position_or_len_is (λ x. leb n (number x)) xs i d within
      (λ k lt. let h = ltb-true (number (get_or xs k d)) n (split.0 k d (omega arith) lt) in lt-leb n (number (get_or xs k d)) h)
      (λ lt. let h = split.1 i d (omega arith) lt in let low = ltb-false (number (get_or xs i d)) n h in le-leb n (number (get_or xs i d)) low))

  -- where a halving ends is the place
  pub place_is : (n : ℕ) (xs : List X) (i : ℕ) → i ≤ length xs
      → IsPartitionPoint (λ x. ltb (number x) n ≡ true) (λ x. ltb (number x) n ≡ false) xs i → i ≡ place number n xs
  place_is n [] i within split = omega arith
  place_is n (x ∷ xs) i within split = point_is n (x ∷ xs) i x within split

  -- that with a number stands at its place, in a list whose numbers rise
  pub place-has : (n : ℕ) (xs : List X) → is_sorted number xs ≡ true → has number n xs ≡ true → place number n xs < length xs
  place-has n [] up there = absurd (let h : false ≡ true = there in cc)
  place-has n (x ∷ xs) up there = elim (cases_Bool (leb n (number x))) [
    | inl reached ↦ rw reached (omega arith)
    | inr low ↦
        let less = leb-false n (number x) low in
        let off : eqb (number x) n ≡ false = ne_eqb (number x) n (λ e. omega arith) in
        let later : has number n xs ≡ true = rw off at there in
        let h = place-has n xs (is_sorted-above (number x) xs up) later in
        rw low (omega arith)
  ]

  -- what stands at the place is it, or there is none
  pub found-place : (n : ℕ) (xs : List X) (d : X) → is_sorted number xs ≡ true → place number n xs < length xs
      → item_with number n xs ≡ cond (eqb (number (get_or xs (place number n xs) d)) n) (Some (get_or xs (place number n xs) d)) None
  found-place n [] d up lt = absurd (omega arith)
  found-place n (x ∷ xs) d up lt = elim (cases_Bool (leb n (number x))) [
    | inl reached ↦ rw reached (elim (cases_Bool (eqb (number x) n)) [
      | inl same ↦ rw same refl
      | inr other ↦ rw other (found-above (number x) n xs (leb-true n (number x) reached) up)
    ])
    | inr low ↦
        let less = leb-false n (number x) low in
        let off : eqb (number x) n ≡ false = ne_eqb (number x) n (λ e. omega arith) in
        let lt' : 1 + place number n xs < suc (length xs) = rw low at lt in
        let more : 1 + place number n xs ≡ suc (place number n xs) = omega arith in
        rw (off, low, more) (found-place n xs d (is_sorted-above (number x) xs up) (omega arith))
  ]

  pub found-past : (n : ℕ) (xs : List X) → length xs ≤ place number n xs → item_with number n xs ≡ None
  found-past n [] le = refl
  found-past n (x ∷ xs) le = elim (cases_Bool (leb n (number x))) [
    | inl reached ↦ absurd (let h : suc (length xs) ≤ 0 = rw reached at le in omega arith)
    | inr low ↦
        let less = leb-false n (number x) low in
        let off : eqb (number x) n ≡ false = ne_eqb (number x) n (λ e. omega arith) in
        let le' : suc (length xs) ≤ 1 + place number n xs = rw low at le in
        rw off (found-past n xs (omega arith))
  ]

  -- one has a number exactly where one is found
  pub has-found : (n : ℕ) (xs : List X) → has number n xs ≡ is_some (item_with number n xs)
  has-found n [] = refl
  has-found n (x ∷ xs) = elim (cases_Bool (eqb (number x) n)) [
    | inl same ↦ rw same refl
    | inr off ↦ rw off (has-found n xs)
  ]

  -- what stands at the place has the number, where one has
  pub found-has : (n : ℕ) (xs : List X) (d : X) → is_sorted number xs ≡ true → has number n xs ≡ true
      → item_with number n xs ≡ Some (get_or xs (place number n xs) d)
  found-has n xs d up there =
      let here = found-place n xs d up (place-has n xs up there) in
      elim (cases_Bool (eqb (number (get_or xs (place number n xs) d)) n)) [
        | inl same ↦ here ∙ rw same refl
        | inr off ↦ absurd (let none : item_with number n xs ≡ None = here ∙ rw off refl in let some : is_some (item_with number n xs) ≡ true =
            sym (has-found n xs) ∙ there in let never : false ≡ true = rw none at some in cc)
      ]

  -- what an insertion at the place leaves
  pub insert-place : (x : X) (xs : List X) → insert xs (place number (number x) xs) x ≡ with_item number x xs
  insert-place x [] = refl
  insert-place x (y ∷ ys) = elim (cases_Bool (leb (number x) (number y))) [
    | inl before ↦ rw before refl
    | inr after ↦
        let more : 1 + place number (number x) ys ≡ suc (place number (number x) ys) = omega arith in
        rw (after, more) (ap (λ (l : List X). y ∷ l) (insert-place x ys))
  ]

  above-with : (m : ℕ) (x : X) (xs : List X) → m < number x → above number m xs ≡ true → has number (number x) xs ≡ false
      → above number m (with_item number x xs) ≡ true
  above-with m x [] lt up off = rw (lt-ltb m (number x) lt) refl
  above-with m x (y ∷ ys) lt up off =
      let (first, rest) = and_parts (ltb m (number y)) (above number (number y) ys) up in
      let (other, none) = any_none (is_at number (number x)) y ys off in
      elim (cases_Bool (leb (number x) (number y))) [
        | inl before ↦
            let le = leb-true (number x) (number y) before in
            let ne = eqb-false (number y) (number x) other in
            let below : number x < number y = omega arith in
            rw (before, lt-ltb m (number x) lt, lt-ltb (number x) (number y) below) rest
        | inr after ↦
            let less = leb-false (number x) (number y) after in
            rw (after, first) (above-with (number y) x ys less rest none)
      ]

  -- the numbers still rise with one more
  pub is_sorted-with : (x : X) (xs : List X) → is_sorted number xs ≡ true → has number (number x) xs ≡ false → is_sorted number (with_item number x xs) ≡ true
  is_sorted-with x [] up off = refl
  is_sorted-with x (y ∷ ys) up off =
      let (other, none) = any_none (is_at number (number x)) y ys off in
      elim (cases_Bool (leb (number x) (number y))) [
        | inl before ↦
            let le = leb-true (number x) (number y) before in
            let ne = eqb-false (number y) (number x) other in
            let below : number x < number y = omega arith in
            rw (before, lt-ltb (number x) (number y) below) up
        | inr after ↦
            let less = leb-false (number x) (number y) after in
            rw after (above-with (number y) x ys less up none)
      ]

  above-filter : (p : X → Bool) (m : ℕ) (xs : List X) → above number m xs ≡ true → above number m (filter p xs) ≡ true
  above-filter p m [] up = refl
  above-filter p m (x ∷ xs) up =
      let (first, rest) = and_parts (ltb m (number x)) (above number (number x) xs) up in
      let h = ltb-true m (number x) first in
      elim (cases_Bool (p x)) [
        | inl kept ↦ rw (kept, first) (above-filter p (number x) xs rest)
        | inr gone ↦ rw gone (above-lower m (number x) (filter p xs) (omega arith) (above-filter p (number x) xs rest))
      ]

  -- the numbers of those that pass a test rise
  pub is_sorted-filter : (p : X → Bool) (xs : List X) → is_sorted number xs ≡ true → is_sorted number (filter p xs) ≡ true
  is_sorted-filter p [] up = refl
  is_sorted-filter p (x ∷ xs) up = elim (cases_Bool (p x)) [
    | inl kept ↦ rw kept (above-filter p (number x) xs up)
    | inr gone ↦ rw gone (is_sorted-filter p xs (is_sorted-above (number x) xs up))
  ]

  -- what a removal at the place leaves, where one is there
  pub remove-place : (n : ℕ) (xs : List X) → is_sorted number xs ≡ true → has number n xs ≡ true → remove xs (place number n xs) ≡ without number n xs
  remove-place n [] up there = absurd (let h : false ≡ true = there in cc)
  remove-place n (x ∷ xs) up there = elim (cases_Bool (leb n (number x))) [
    | inl reached ↦
        let le = leb-true n (number x) reached in
        elim (cases_Bool (eqb (number x) n)) [
          | inl same ↦ rw (reached, same) (sym (without-above (number x) n xs le up))
          | inr off ↦ absurd (let later : has number n xs ≡ true = rw off at there in let never = has-above (number x) n xs le up in cc)
        ]
    | inr low ↦
        let less = leb-false n (number x) low in
        let off : eqb (number x) n ≡ false = ne_eqb (number x) n (λ e. omega arith) in
        let later : has number n xs ≡ true = rw off at there in
        let more : 1 + place number n xs ≡ suc (place number n xs) = omega arith in
        rw (low, more, off) (ap (λ (l : List X). x ∷ l) (remove-place n xs (is_sorted-above (number x) xs up) later))
  ]

  -- what a write at the place leaves, where one is there
  pub set-place : (y : X) (xs : List X) → is_sorted number xs ≡ true → has number (number y) xs ≡ true →
      set xs (place number (number y) xs) y ≡ with_replacement number y xs
  set-place y [] up there = refl
  set-place y (x ∷ xs) up there = elim (cases_Bool (leb (number y) (number x))) [
    | inl reached ↦
        let le = leb-true (number y) (number x) reached in
        elim (cases_Bool (eqb (number x) (number y))) [
          | inl same ↦ rw (reached, same) (ap (λ (l : List X). y ∷ l) (sym (replaced-above (number x) y xs le up)))
          | inr off ↦ absurd (let later : has number (number y) xs ≡ true = rw off at there in let never = has-above (number x) (number y) xs le up in cc)
        ]
    | inr low ↦
        let less = leb-false (number y) (number x) low in
        let off : eqb (number x) (number y) ≡ false = ne_eqb (number x) (number y) (λ e. omega arith) in
        let later : has number (number y) xs ≡ true = rw off at there in
        let more : 1 + place number (number y) xs ≡ suc (place number (number y) xs) = omega arith in
        rw (low, more, off) (ap (λ (l : List X). x ∷ l) (set-place y xs (is_sorted-above (number x) xs up) later))
  ]

  above-replaced : (m : ℕ) (y : X) (xs : List X) → above number m xs ≡ true → above number m (with_replacement number y xs) ≡ true
  above-replaced m y [] up = refl
  above-replaced m y (x ∷ xs) up =
      let (first, rest) = and_parts (ltb m (number x)) (above number (number x) xs) up in
      elim (cases_Bool (eqb (number x) (number y))) [
        | inl same ↦
            let e = eqb-true (number x) (number y) same in
            rw (same, ← e, first) (above-replaced (number x) y xs rest)
        | inr off ↦ rw (off, first) (above-replaced (number x) y xs rest)
      ]

  pub is_sorted-replaced : (y : X) (xs : List X) → is_sorted number xs ≡ true → is_sorted number (with_replacement number y xs) ≡ true
  is_sorted-replaced y [] up = refl
  is_sorted-replaced y (x ∷ xs) up = elim (cases_Bool (eqb (number x) (number y))) [
    | inl same ↦ let e = eqb-true (number x) (number y) same in rw (same, ← e) (above-replaced (number x) y xs up)
    | inr off ↦ rw off (above-replaced (number x) y xs up)
  ]

  -- what stands at the place is found where it has the number
  pub found_here : (n : ℕ) (xs : List X) (i : ℕ) (y : X) → is_sorted number xs ≡ true → i ≡ place number n xs → i < length xs → y ≡ get_or xs i y
      → number y ≡ n → Some y ≡ item_with number n xs
  found_here n xs i y up at within is same =
      let here : y ≡ get_or xs (place number n xs) y = is ∙ ap (λ k. get_or xs k y) at in
      let test : eqb (number (get_or xs (place number n xs) y)) n ≡ true = ap (λ z. eqb (number z) n) (sym here) ∙ eq-eqb (number y) n same in
      let within' : place number n xs < length xs = omega arith in
      sym (found-place n xs y up within' ∙ (rw test refl ∙ ap Some (sym here)))

  -- and else nothing is
  pub found_other : (n : ℕ) (xs : List X) (i : ℕ) (y : X) → is_sorted number xs ≡ true → i ≡ place number n xs → i < length xs → y ≡ get_or xs i y
      → (number y ≡ n → ⊥) → None ≡ item_with number n xs
  found_other n xs i y up at within is other =
      let here : y ≡ get_or xs (place number n xs) y = is ∙ ap (λ k. get_or xs k y) at in
      let test : eqb (number (get_or xs (place number n xs) y)) n ≡ false = ap (λ z. eqb (number z) n) (sym here) ∙ ne_eqb (number y) n other in
      let within' : place number n xs < length xs = omega arith in
      sym (found-place n xs y up within' ∙ rw test refl)

  pub found_past : (n : ℕ) (xs : List X) (i : ℕ) → i ≡ place number n xs → length xs ≤ i → None ≡ item_with number n xs
  found_past n xs i at past = sym (found-past n xs (omega arith))

  -- nothing goes where none has the number
  pub without-none : (n : ℕ) (xs : List X) → has number n xs ≡ false → without number n xs ≡ xs
  without-none n [] none = refl
  without-none n (x ∷ xs) none =
      let (off, rest) = any_none (is_at number n) x xs none in
      rw off (ap (λ (l : List X). x ∷ l) (without-none n xs rest))

  -- who is there with one more
  pub has-with : (n : ℕ) (x : X) (xs : List X) → has number n (with_item number x xs) ≡ is_at number n x || has number n xs
  has-with n x [] = refl
  has-with n x (y ∷ ys) = elim (cases_Bool (leb (number x) (number y))) [
    | inl before ↦ rw before refl
    | inr after ↦ rw (after, has-with n x ys) (or_swap (is_at number n y) (is_at number n x) (has number n ys))
  ]

  -- who is there without one
  pub has-without : (n m : ℕ) (xs : List X) → has number n (without number m xs) ≡ not (eqb m n) && has number n xs
  has-without n m [] = sym (and_false (not (eqb m n)))
  has-without n m (x ∷ xs) = elim (cases_Bool (eqb (number x) m)) [
    | inl gone ↦
        let e = eqb-true (number x) m gone in
        rw (gone, has-without n m xs, e) (and_or (eqb m n) (has number n xs))
    | inr kept ↦
        rw (kept, has-without n m xs)
        (kept_or (eqb (number x) n) (eqb m n) (has number n xs)
        (λ at on. let ne = eqb-false (number x) m kept in ne (eqb-true (number x) n at ∙ sym (eqb-true m n on))))
  ]
