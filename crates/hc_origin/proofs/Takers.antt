-- The connections of a log, by number.
--
-- Each lemma goes along the list, by whether the connection in hand has the number that changes and the number that is
-- asked for. A change that keeps numbers changes what is found by one number, and nothing of the others. No number
-- stands twice (`AreApart`), so what holds of each number holds of each connection.
use Rattle.std.{proofs.{Common.{◌≡◌, ℕ, List, [], ◌∷◌, ◌++◌, true, false, eqb, Some, None, refl, sym, ap, subst, ◌∙◌, inl, inr}, lemmas.Bool.{cases_Bool, eqb-true, eqb-false, eq-eqb, ne_eqb}}, specs.{Prelude.{map, filter, find}, List.{list_any}, Option.{option_map}}}
use Rattle.hc_wire.specs.Logs.{Taker, is_numbered, changed_at, standing_of, is_taking}
use Rattle.hc_origin.specs.{Turns.{is_of}, Keeping.{AreApart}}

-- the other way round
pub apart_sym : (j k : ℕ) → eqb j k ≡ false → eqb k j ≡ false
apart_sym j k off = ne_eqb k j (λ e. eqb-false j k off (sym e))

-- A CHANGE

module _ (k : ℕ) (change : Taker → Taker) (number : (c : Taker) → (change c).k ≡ c.k) where
  pub find-changed : (cs : List Taker) → find (is_numbered k) (changed_at k change cs) ≡ option_map change (find (is_numbered k) cs)
  find-changed [] = refl
  find-changed (c ∷ cs) = elim (cases_Bool (eqb c.k k)) [
    | inl on ↦ rw (on, number c, on) refl
    | inr off ↦ rw off (rw off (find-changed cs))
  ]

  pub find-other : (cs : List Taker) (j : ℕ) → eqb j k ≡ false → find (is_numbered j) (changed_at k change cs) ≡ find (is_numbered j) cs
  find-other [] j off = refl
  find-other (c ∷ cs) j off = elim (cases_Bool (eqb c.k k)) [
    | inl on ↦
        let away : eqb c.k j ≡ false = ne_eqb c.k j (λ e. eqb-false j k off (sym e ∙ eqb-true c.k k on)) in
        rw (on, number c, away) refl
    | inr out ↦ elim (cases_Bool (eqb c.k j)) [
      | inl here ↦ rw (out, here) refl
      | inr away ↦ rw (out, away) (find-other cs j off)
    ]
  ]

  pub apart-changed : (cs : List Taker) → AreApart cs → AreApart (changed_at k change cs)
  apart-changed [] apart = apart
  apart-changed (c ∷ cs) apart = elim (cases_Bool (eqb c.k k)) [
    | inl on ↦ rw (on, number c) apart
    | inr off ↦ rw off (find-other cs c.k off ∙ apart.0, apart-changed cs apart.1)
  ]

-- ONE MORE

pub find-last : (cs : List Taker) (c : Taker) → find (is_numbered c.k) cs ≡ None → find (is_numbered c.k) (cs ++ c ∷ []) ≡ Some c
find-last [] c none = let own : eqb c.k c.k ≡ true = eq-eqb c.k c.k refl in rw own refl
find-last (d ∷ cs) c none = elim (cases_Bool (eqb d.k c.k)) [
  | inl on ↦ let h = rw on at none in absurd (cc)
  | inr off ↦ rw off (find-last cs c (rw off at none))
]

pub find-before : (cs : List Taker) (c : Taker) (j : ℕ) → eqb c.k j ≡ false → find (is_numbered j) (cs ++ c ∷ []) ≡ find (is_numbered j) cs
find-before [] c j off = rw off refl
find-before (d ∷ cs) c j off = elim (cases_Bool (eqb d.k j)) [
  | inl here ↦ rw here refl
  | inr away ↦ rw away (find-before cs c j off)
]

pub apart-last : (cs : List Taker) (c : Taker) → AreApart cs → find (is_numbered c.k) cs ≡ None → AreApart (cs ++ c ∷ [])
apart-last [] c apart none = (refl, tt)
apart-last (d ∷ cs) c apart none = elim (cases_Bool (eqb d.k c.k)) [
  | inl on ↦ let h = rw on at none in absurd (cc)
  | inr off ↦ (find-before cs c d.k (apart_sym d.k c.k off) ∙ apart.0, apart-last cs c apart.1 (rw off at none))
]

-- HOW THEY STAND

-- what is found in the rest of a list is found in the list
pub behind : (c : Taker) (cs : List Taker) (d : Taker) → find (is_numbered c.k) cs ≡ None → find (is_numbered d.k) cs ≡ Some d →
    find (is_numbered d.k) (c ∷ cs) ≡ Some d
behind c cs d none is = elim (cases_Bool (eqb c.k d.k)) [
  | inl on ↦
      let same : c.k ≡ d.k = eqb-true c.k d.k on in
      let none_d : find (is_numbered d.k) cs ≡ None = subst (λ (n : ℕ). find (is_numbered n) cs ≡ None) same none in
      absurd (cc)
  | inr off ↦ rw off is
]

-- one that isn't listed as open isn't open
pub unlisted : (n k : ℕ) (cs : List Taker) (c : Taker) → list_any (is_of k) (map (standing_of n) (filter is_taking cs)) ≡ false
    → find (is_numbered k) cs ≡ Some c → c.live ≡ false
unlisted n k [] c none is = absurd (cc)
unlisted n k (d ∷ cs) c none is = elim (cases_Bool (eqb d.k k)) [
  | inl on ↦ elim (cases_Bool d.live) [
    | inl live ↦ let h = rw (live, on) at none in absurd (cc)
    | inr shut ↦ let h = rw on at is in let same : d ≡ c = cc in sym (ap (λ (e : Taker). e.live) same) ∙ shut
  ]
  | inr off ↦ elim (cases_Bool d.live) [
    | inl live ↦ unlisted n k cs c (rw (live, off) at none) (rw off at is)
    | inr shut ↦ unlisted n k cs c (rw shut at none) (rw off at is)
  ]
]
