-- A connection of a log that changes: numbers stay apart, and what is sent stays where the change leaves it.
use Rattle.std.{proofs.{Common.{◌≡◌, ℕ, List, [], ◌∷◌, Some, None, eqb, refl, inl, inr}, lemmas.Bool.{cases_Bool}}, specs.Prelude.{find}}
use Rattle.hc_wire.specs.Logs.{Taker, is_numbered, sent_in, changed_at}
use Rattle.hc_proxy.specs.Logging.{AreApart}

module _ (k : ℕ) (change : Taker → Taker) (number : (c : Taker) → (change c).k ≡ c.k) where
  pub missing_stays : (j : ℕ) (cs : List Taker) → find (is_numbered j) cs ≡ None → find (is_numbered j) (changed_at k change cs) ≡ None
  missing_stays j [] h = refl
  missing_stays j (c ∷ cs) h = elim (cases_Bool (eqb c.k j)) [
    | inl here ↦ absurd (let found : Some c ≡ None = rw here at h in cc)
    | inr off ↦ elim (cases_Bool (eqb c.k k)) [
      | inl on ↦ let rest = rw off at h in rw (on, number c, off) rest
      | inr out ↦ let rest = rw off at h in rw (out, off) (missing_stays j cs rest)
    ]
  ]

  pub apart_stays : (cs : List Taker) → AreApart cs → AreApart (changed_at k change cs)
  apart_stays [] h = tt
  apart_stays (c ∷ cs) h = elim (cases_Bool (eqb c.k k)) [
    | inl on ↦ rw (on, number c) h
    | inr out ↦ rw out (missing_stays c.k cs h.0, apart_stays cs h.1)
  ]

  pub sent_stays : ((c : Taker) → (change c).sent ≡ c.sent) → (cs : List Taker) (j : ℕ) → sent_in (changed_at k change cs) j ≡ sent_in cs j
  sent_stays same [] j = refl
  sent_stays same (c ∷ cs) j = elim (cases_Bool (eqb c.k k)) [
    | inl on ↦ elim (cases_Bool (eqb c.k j)) [
      | inl here ↦ rw (on, number c, here) (same c)
      | inr off ↦ rw (on, number c, off) refl
    ]
    | inr out ↦ elim (cases_Bool (eqb c.k j)) [
      | inl here ↦ rw (out, here) refl
      | inr off ↦ rw (out, off) (sent_stays same cs j)
    ]
  ]
