-- What is to be sent, by connection.
--
-- No connection stands twice, so in front of one and behind it nothing of it is left. Each lemma goes by induction over
-- the ones before: the first is of the connection that is asked for, or of another. Taken out of the middle, it is
-- nowhere, and the others stay (`own-without`, `others-without`). Put behind, it is found, and the others stay
-- (`own-with`, `others-with`). `moved` joins both, and `once-moved` says that none stands twice then.
use Rattle.std.proofs.{Common.{◌≡◌, ℕ, List, [], ◌∷◌, ◌++◌, true, false, eqb, Some, None, refl, sym, ap, subst, ◌∙◌, inl, inr, append_assoc}, lemmas.Bool.{cases_Bool, eqb-true, eq-eqb}}
use Rattle.hc_origin.specs.Replies.{Unsent, StandOnce, unsent_in}
use Rattle.hc_origin.proofs.Takers.{apart_sym}

-- TAKEN OUT OF THE MIDDLE

pub others-without : (us vs : List Unsent) (u : Unsent) (j : ℕ) → eqb u.k j ≡ false → unsent_in (us ++ u ∷ vs) j ≡ unsent_in (us ++ vs) j
others-without [] vs u j off = rw off refl
others-without (w ∷ us) vs u j off = elim (cases_Bool (eqb w.k j)) [
  | inl here ↦ rw here refl
  | inr away ↦ rw away (others-without us vs u j off)
]

pub own-in : (us vs : List Unsent) (u : Unsent) → StandOnce (us ++ u ∷ vs) → unsent_in (us ++ u ∷ vs) u.k ≡ Some u.bytes
own-in [] vs u once = let own : eqb u.k u.k ≡ true = eq-eqb u.k u.k refl in rw own refl
own-in (w ∷ us) vs u once = elim (cases_Bool (eqb w.k u.k)) [
  | inl here ↦
      let same : w.k ≡ u.k = eqb-true w.k u.k here in
      let none : unsent_in (us ++ u ∷ vs) u.k ≡ None = subst (λ (n : ℕ). unsent_in (us ++ u ∷ vs) n ≡ None) same once.0 in
      let some = own-in us vs u once.1 in
      absurd (cc)
  | inr away ↦ rw away (own-in us vs u once.1)
]

pub own-without : (us vs : List Unsent) (u : Unsent) → StandOnce (us ++ u ∷ vs) → unsent_in (us ++ vs) u.k ≡ None
own-without [] vs u once = once.0
own-without (w ∷ us) vs u once = elim (cases_Bool (eqb w.k u.k)) [
  | inl here ↦
      let same : w.k ≡ u.k = eqb-true w.k u.k here in
      let none : unsent_in (us ++ u ∷ vs) u.k ≡ None = subst (λ (n : ℕ). unsent_in (us ++ u ∷ vs) n ≡ None) same once.0 in
      let some = own-in us vs u once.1 in
      absurd (cc)
  | inr away ↦ rw away (own-without us vs u once.1)
]

pub once-without : (us vs : List Unsent) (u : Unsent) → StandOnce (us ++ u ∷ vs) → StandOnce (us ++ vs)
once-without [] vs u once = once.1
once-without (w ∷ us) vs u once = elim (cases_Bool (eqb u.k w.k)) [
  | inl here ↦
      let same : w.k ≡ u.k = sym (eqb-true u.k w.k here) in
      let none : unsent_in (us ++ u ∷ vs) u.k ≡ None = subst (λ (n : ℕ). unsent_in (us ++ u ∷ vs) n ≡ None) same once.0 in
      let some = own-in us vs u once.1 in
      absurd (cc)
  | inr away ↦ (sym (others-without us vs u w.k away) ∙ once.0, once-without us vs u once.1)
]

-- ONE MORE

pub others-with : (us : List Unsent) (u : Unsent) (j : ℕ) → eqb u.k j ≡ false → unsent_in (us ++ u ∷ []) j ≡ unsent_in us j
others-with [] u j off = rw off refl
others-with (w ∷ us) u j off = elim (cases_Bool (eqb w.k j)) [
  | inl here ↦ rw here refl
  | inr away ↦ rw away (others-with us u j off)
]

pub own-with : (us : List Unsent) (u : Unsent) → unsent_in us u.k ≡ None → unsent_in (us ++ u ∷ []) u.k ≡ Some u.bytes
own-with [] u none = let own : eqb u.k u.k ≡ true = eq-eqb u.k u.k refl in rw own refl
own-with (w ∷ us) u none = elim (cases_Bool (eqb w.k u.k)) [
  | inl here ↦ let h = rw here at none in absurd (cc)
  | inr away ↦ rw away (own-with us u (rw away at none))
]

pub once-with : (us : List Unsent) (u : Unsent) → StandOnce us → unsent_in us u.k ≡ None → StandOnce (us ++ u ∷ [])
once-with [] u once none = (refl, tt)
once-with (w ∷ us) u once none = elim (cases_Bool (eqb w.k u.k)) [
  | inl here ↦ let h = rw here at none in absurd (cc)
  | inr away ↦ (others-with us u w.k (apart_sym w.k u.k away) ∙ once.0, once-with us u once.1 (rw away at none))
]

-- nothing of it stands in a part
pub none-behind : (us vs : List Unsent) (k : ℕ) → unsent_in (us ++ vs) k ≡ None → unsent_in vs k ≡ None
none-behind [] vs k none = none
none-behind (w ∷ us) vs k none = elim (cases_Bool (eqb w.k k)) [
  | inl here ↦ let h = rw here at none in absurd (cc)
  | inr away ↦ none-behind us vs k (rw away at none)
]

-- IN THE MIDDLE

-- with other bytes
pub once-replaced : (us vs : List Unsent) (u v : Unsent) → v.k ≡ u.k → StandOnce (us ++ u ∷ vs) → StandOnce (us ++ v ∷ vs)
once-replaced [] vs u v same once = (subst (λ (n : ℕ). unsent_in vs n ≡ None) (sym same) once.0, once.1)
once-replaced (w ∷ us) vs u v same once = elim (cases_Bool (eqb u.k w.k)) [
  | inl here ↦
      let is : w.k ≡ u.k = sym (eqb-true u.k w.k here) in
      let none : unsent_in (us ++ u ∷ vs) u.k ≡ None = subst (λ (n : ℕ). unsent_in (us ++ u ∷ vs) n ≡ None) is once.0 in
      let some = own-in us vs u once.1 in
      absurd (cc)
  | inr away ↦
      let off : eqb v.k w.k ≡ false = ap (λ (n : ℕ). eqb n w.k) same ∙ away in
      (others-without us vs v w.k off ∙ (sym (others-without us vs u w.k away) ∙ once.0), once-replaced us vs u v same once.1)
]

-- moved behind the others
pub moved : (us vs : List Unsent) (u : Unsent) (j : ℕ) → StandOnce (us ++ u ∷ vs) → unsent_in (us ++ (vs ++ u ∷ [])) j ≡ unsent_in (us ++ u ∷ vs) j
moved us vs u j once =
    let whole : unsent_in (us ++ (vs ++ u ∷ [])) j ≡ unsent_in ((us ++ vs) ++ u ∷ []) j =
    ap (λ (l : List Unsent). unsent_in l j) (sym (append_assoc us vs (u ∷ []))) in
    elim (cases_Bool (eqb u.k j)) [
      | inl here ↦
          let same : u.k ≡ j = eqb-true u.k j here in
          whole ∙ subst (λ (n : ℕ). unsent_in ((us ++ vs) ++ u ∷ []) n ≡ unsent_in (us ++ u ∷ vs) n) same
          (own-with (us ++ vs) u (own-without us vs u once) ∙ sym (own-in us vs u once))
      | inr away ↦ whole ∙ (others-with (us ++ vs) u j away ∙ sym (others-without us vs u j away))
    ]

pub once-moved : (us vs : List Unsent) (u : Unsent) → StandOnce (us ++ u ∷ vs) → StandOnce (us ++ (vs ++ u ∷ []))
once-moved us vs u once =
    subst StandOnce (append_assoc us vs (u ∷ [])) (once-with (us ++ vs) u (once-without us vs u once) (own-without us vs u once))
