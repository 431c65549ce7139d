-- A connection that is stalled anew, that takes bytes again, or that took some.
--
-- How many bytes a connection takes is told by the first stall of it. So each lemma goes along the list of stalls, by whether
-- the one in hand is of the connection that changes and of the one that is asked for. Without its stalls a connection takes
-- all. What is used up is taken from its first stall, and so `min` of what is left falls by as much. The place of that
-- stall, which the code looks up, is where the definition changes the list.
use Rattle.std.{proofs.{Common.{◌≡◌, ℕ, ◌+◌, ◌-◌, ◌<◌, ◌≤◌, ◌==◌, Bool, false, not, List, [], ◌∷◌, ◌++◌, length, get_or, set, find, min, Option, None, Some, filter, refl, sym, ap, ◌∙◌, inl, inr, arith}, Math.Numerals.{one-add}, lemmas.Bool.{ltb-true, ltb-false, cases_Bool, eqb-true, eq-eqb}}, specs.{Prelude.{if◌then◌else◌, position, nat_lt}, List.{position_or_len}}}
use Rattle.hc_wire.specs.{declared.script.Stall.{Stall}, Following.{is_stall_of, room_from, room_in, used, used_at}}

-- it isn't a stall of the connection
abbrev pub is_other : ℕ → Stall → Bool
is_other k stall = not (stall.k == k)

-- without its stalls, the connection has that which stands behind
found_new : (new : Stall) (xs : List Stall) → find (is_stall_of new.k) (filter (is_other new.k) xs ++ new ∷ []) ≡ Some new
found_new new [] = rw (eq-eqb new.k new.k refl) refl
found_new new (x ∷ xs) =
    elim (cases_Bool (x.k == new.k)) [
      | inl own ↦ rw own (found_new new xs)
      | inr other ↦ rw other (rw other (found_new new xs))
    ]

-- and every other one has what it had
found_old : (j : ℕ) (new : Stall) (xs : List Stall) → (new.k == j) ≡ false →
    find (is_stall_of j) (filter (is_other new.k) xs ++ new ∷ []) ≡ find (is_stall_of j) xs
found_old j new [] apart = rw apart refl
found_old j new (x ∷ xs) apart =
    elim (cases_Bool (x.k == new.k)) [
      | inl own ↦
          let same : x.k ≡ new.k = eqb-true x.k new.k own in
          let other : (x.k == j) ≡ false = ap (λ (n : ℕ). n == j) same ∙ apart in
          rw (own, other) (found_old j new xs apart)
      | inr other ↦
          elim (cases_Bool (x.k == j)) [
            | inl own ↦ rw (other, own) refl
            | inr past ↦ rw (other, past) (found_old j new xs apart)
          ]
    ]

pub stalled_anew : (new : Stall) (xs : List Stall) (j len : ℕ)
    → room_in (filter (is_other new.k) xs ++ new ∷ []) j len ≡ (if new.k == j then min new.left len else room_in xs j len)
stalled_anew new xs j len =
    elim (cases_Bool (new.k == j)) [
      | inl own ↦
          let same : find (is_stall_of j) (filter (is_other new.k) xs ++ new ∷ []) ≡ Some new =
          ap (λ (n : ℕ). find (is_stall_of n) (filter (is_other new.k) xs ++ new ∷ [])) (sym (eqb-true new.k j own)) ∙ found_new new xs in
          rw own (ap (λ (s : Option Stall). room_from s len) same)
      | inr other ↦ rw other (ap (λ (s : Option Stall). room_from s len) (found_old j new xs other))
    ]

-- THE ROOM OF A CONNECTION

-- without its stalls, the connection has none
found_none : (k : ℕ) (xs : List Stall) → find (is_stall_of k) (filter (is_other k) xs) ≡ None
found_none k [] = refl
found_none k (x ∷ xs) =
    elim (cases_Bool (x.k == k)) [
      | inl own ↦ rw own (found_none k xs)
      | inr other ↦ rw other (rw other (found_none k xs))
    ]

found_kept : (j k : ℕ) (xs : List Stall) → (k == j) ≡ false → find (is_stall_of j) (filter (is_other k) xs) ≡ find (is_stall_of j) xs
found_kept j k [] apart = refl
found_kept j k (x ∷ xs) apart =
    elim (cases_Bool (x.k == k)) [
      | inl own ↦
          let same : x.k ≡ k = eqb-true x.k k own in
          let other : (x.k == j) ≡ false = ap (λ (n : ℕ). n == j) same ∙ apart in
          rw (own, other) (found_kept j k xs apart)
      | inr other ↦
          elim (cases_Bool (x.k == j)) [
            | inl own ↦ rw (other, own) refl
            | inr past ↦ rw (other, past) (found_kept j k xs apart)
          ]
    ]

pub unstalled : (k : ℕ) (xs : List Stall) (j len : ℕ) → room_in (filter (is_other k) xs) j len ≡ (if k == j then len else room_in xs j len)
unstalled k xs j len =
    elim (cases_Bool (k == j)) [
      | inl own ↦
          let same : find (is_stall_of j) (filter (is_other k) xs) ≡ None =
          ap (λ (n : ℕ). find (is_stall_of n) (filter (is_other k) xs)) (sym (eqb-true k j own)) ∙ found_none k xs in
          rw own (ap (λ (s : Option Stall). room_from s len) same)
      | inr other ↦ rw other (ap (λ (s : Option Stall). room_from s len) (found_kept j k xs other))
    ]

-- WHAT IS USED UP

pub used_own : (k n : ℕ) (xs : List Stall) (len : ℕ) → room_in (used_at k n xs) k len ≡ room_in xs k (n + len) - n
used_own k n [] len = omega arith
used_own k n (x ∷ xs) len =
    elim (cases_Bool (x.k == k)) [
      | inl own ↦ rw (own, own) (omega arith)
      | inr other ↦ rw (other, other) (used_own k n xs len)
    ]

pub used_other : (k n : ℕ) (xs : List Stall) (j len : ℕ) → (k == j) ≡ false → room_in (used_at k n xs) j len ≡ room_in xs j len
used_other k n [] j len apart = refl
used_other k n (x ∷ xs) j len apart =
    elim (cases_Bool (x.k == k)) [
      | inl own ↦
          let same : x.k ≡ k = eqb-true x.k k own in
          let other : (x.k == j) ≡ false = ap (λ (n : ℕ). n == j) same ∙ apart in
          rw (own, other) refl
      | inr out ↦
          elim (cases_Bool (x.k == j)) [
            | inl own ↦ rw (out, own) refl
            | inr past ↦ rw (out, past) (used_other k n xs j len apart)
          ]
    ]

-- the first of a connection is changed
module _ (k n : ℕ) where
  set-first : (xs : List Stall) (d : Stall) → position_or_len (is_stall_of k) xs < length xs
      → set xs (position_or_len (is_stall_of k) xs) (used n (get_or xs (position_or_len (is_stall_of k) xs) d)) ≡ used_at k n xs
  set-first [] d lt = absurd (omega (arith, lt))
  set-first (x ∷ xs) d lt = elim (cases_Bool (x.k == k)) [
    | inl on ↦ rw on refl
    | inr off ↦
        let less = rw off at lt in
        rw (off, one-add) (ap (λ (l : List Stall). x ∷ l) (set-first xs d (omega (arith, less))))
  ]

  kept-all : (xs : List Stall) → length xs ≤ position_or_len (is_stall_of k) xs → xs ≡ used_at k n xs
  kept-all [] le = refl
  kept-all (x ∷ xs) le = elim (cases_Bool (x.k == k)) [
    | inl on ↦ let h = rw on at le in absurd (omega (arith, h))
    | inr off ↦ let h = rw off at le in rw off (ap (λ (l : List Stall). x ∷ l) (kept-all xs (omega (arith, h))))
  ]

  pub used-some : (xs : List Stall) (i : ℕ) (old new : Stall) → position (is_stall_of k) xs ≡ Some i → old ≡ get_or xs i old → new ≡ used n old →
      set xs i new ≡ used_at k n xs
  used-some xs i old new is at_i changed = elim (cases_Bool (nat_lt (position_or_len (is_stall_of k) xs) (length xs))) [
    | inl within ↦
        let here : position_or_len (is_stall_of k) xs ≡ i = let h = rw within at is in cc in
        rw (changed, at_i, ← here) (set-first xs old (ltb-true _ _ within))
    | inr past ↦ let h = rw past at is in absurd (cc)
  ]

  pub used-none : (xs : List Stall) → position (is_stall_of k) xs ≡ None → xs ≡ used_at k n xs
  used-none xs is = elim (cases_Bool (nat_lt (position_or_len (is_stall_of k) xs) (length xs))) [
    | inl within ↦ let h = rw within at is in absurd (cc)
    | inr past ↦ kept-all xs (ltb-false _ _ past)
  ]
