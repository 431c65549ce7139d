-- Connections that change, and those that come.
--
-- The stage of a number is that of the first connection with it. So each lemma goes along the list, by whether the
-- connection in hand has the number that changes and the number that is asked for. A change that keeps the number changes
-- that stage alone, as `closed_of`, `reading_of` and `ended_of` say. A new connection stands last, and so is found where
-- nobody had its number. What a test finds (`live_from`, `unended_from`, `reads_from`) tells the stage by its three parts.
use Rattle.std.{proofs.{Common.{◌≡◌, ℕ, ◌<◌, ◌≤◌, List, [], ◌∷◌, ◌++◌, length, get_or, set, Bool, true, false, ◌&&◌, eqb, ltb, Some, None, refl, sym, ap, ◌∙◌, inl, inr, arith}, Math.Numerals.{one-add}, lemmas.Bool.{cases_Bool, eqb-true, eqb-false, eq-eqb, ne_eqb, ltb-true, ltb-false}}, specs.{Prelude.{position, if◌then◌else◌}, List.{position_or_len}}}
use Rattle.hc_wire.specs.{declared.event.WireEvent.{WireEvent}, Events.{Stage, Unseen, Open, Closed, Fresh, with_stage, closed_of, reading_of, ended_of, stages_after, IsOfOpen}, Logs.{Taker, is_numbered, stage_of, stage_in, changed_at, fresh, reading, shut, over, takers_with}}
use Rattle.hc_wire.specs.declared.event.WireEvent.TheVariants as event

module _ (k : ℕ) (change : Taker → Taker) (number : (c : Taker) → (change c).k ≡ c.k) where
  -- a change that keeps number and life keeps each stage
  pub stages-same : ((c : Taker) → stage_of (change c) ≡ stage_of c) → (cs : List Taker) (j : ℕ) → stage_in (changed_at k change cs) j ≡ stage_in cs j
  stages-same same [] j = refl
  stages-same same (c ∷ cs) j = elim (cases_Bool (eqb c.k k)) [
    | inl on ↦ elim (cases_Bool (eqb c.k j)) [
      | inl here ↦ rw (on, number c, here) (same c)
      | inr off ↦ rw (on, number c, off) refl
    ]
    | inr out ↦ elim (cases_Bool (eqb c.k j)) [
      | inl here ↦ rw (out, here) refl
      | inr off ↦ rw (out, off) (stages-same same cs j)
    ]
  ]

  -- and one that changes the stage changes that of this number
  pub stages-changed : (f : Stage → Stage) → f Unseen ≡ Unseen → ((c : Taker) → stage_of (change c) ≡ f (stage_of c)) → (cs : List Taker) (j : ℕ)
      → stage_in (changed_at k change cs) j ≡ with_stage k (f (stage_in cs k)) (stage_in cs) j
  stages-changed f unseen changes [] j = elim (cases_Bool (eqb j k)) [
    | inl on ↦ rw on (sym unseen)
    | inr off ↦ rw off refl
  ]
  stages-changed f unseen changes (c ∷ cs) j = elim (cases_Bool (eqb c.k k)) [
    | inl on ↦ elim (cases_Bool (eqb j k)) [
      | inl here ↦
          let same : eqb c.k j ≡ true = let e = eqb-true c.k k on in let h = eqb-true j k here in eq-eqb c.k j (e ∙ sym h) in
          rw (on, number c, same, here) (changes c)
      | inr off ↦
          let apart : eqb c.k j ≡ false = ne_eqb c.k j (λ e. eqb-false j k off (sym e ∙ eqb-true c.k k on)) in
          rw (on, number c, apart, off) refl
    ]
    | inr out ↦ elim (cases_Bool (eqb c.k j)) [
      | inl here ↦
          let apart : eqb j k ≡ false = ne_eqb j k (λ e. eqb-false c.k k out (eqb-true c.k j here ∙ e)) in
          rw (out, here, apart) refl
      | inr off ↦ rw (out, off) (stages-changed f unseen changes cs j)
    ]
  ]

pub stage_shut : (c : Taker) → stage_of (shut c) ≡ closed_of (stage_of c)
stage_shut c = life c.live where
  life : (b : Bool) → Closed ≡ closed_of (if b then Open c.reads c.ended else Closed)
  life true = refl
  life false = refl

pub stage_read : (on : Bool) (c : Taker) → stage_of (reading on c) ≡ reading_of on (stage_of c)
stage_read on c = life c.live where
  life : (b : Bool) → (if b then Open on c.ended else Closed) ≡ reading_of on (if b then Open c.reads c.ended else Closed)
  life true = refl
  life false = refl

pub stage_over : (c : Taker) → stage_of (over c) ≡ ended_of (stage_of c)
stage_over c = life c.live where
  life : (b : Bool) → (if b then Open c.reads true else Closed) ≡ ended_of (if b then Open c.reads c.ended else Closed)
  life true = refl
  life false = refl

-- one that is there was handed out
seen-one : (c : Taker) → stage_of c ≡ Unseen → ⊥
seen-one c = by_life c.live where
  by_life : (b : Bool) → (if b then Open c.reads c.ended else Closed) ≡ Unseen → ⊥
  by_life true is = cc
  by_life false is = cc

-- one more is open
pub stages-fresh : (k : ℕ) (cs : List Taker) (j : ℕ) → stage_in cs k ≡ Unseen → stage_in (cs ++ fresh k ∷ []) j ≡ with_stage k Fresh (stage_in cs) j
stages-fresh k [] j new = elim (cases_Bool (eqb j k)) [
  | inl on ↦ rw (on, eq-eqb k j (sym (eqb-true j k on))) refl
  | inr off ↦ rw (off, ne_eqb k j (λ e. eqb-false j k off (sym e))) refl
]
stages-fresh k (c ∷ cs) j new = elim (cases_Bool (eqb c.k k)) [
  | inl on ↦ absurd (seen-one c (rw on at new))
  | inr out ↦ elim (cases_Bool (eqb c.k j)) [
    | inl here ↦
        let apart : eqb j k ≡ false = ne_eqb j k (λ e. eqb-false c.k k out (eqb-true c.k j here ∙ e)) in
        rw (here, apart) refl
    | inr off ↦ rw off (stages-fresh k cs j (rw out at new))
  ]
]

-- what an event says of connections
pub stages-joined : (what : WireEvent) (cs : List Taker) → IsOfOpen what (stage_in cs) → (j : ℕ) → stage_in
    (takers_with what cs) j ≡ stages_after what (stage_in cs) j
stages-joined (event.Accepted k) cs new j = stages-fresh k cs j new
stages-joined (event.Got k n) cs is j = refl
stages-joined (event.Ended k) cs is j = stages-changed k over (λ c. refl) ended_of refl stage_over cs j
stages-joined (event.Broke k) cs is j = refl
stages-joined (event.Room k) cs is j = refl
stages-joined event.Quiet cs is j = refl

-- one more with another number
pub unseen-more : (k : ℕ) (cs : List Taker) (c : Taker) → stage_in cs k ≡ Unseen → eqb c.k k ≡ false → stage_in (cs ++ c ∷ []) k ≡ Unseen
unseen-more k [] c new off = rw off refl
unseen-more k (d ∷ cs) c new off = elim (cases_Bool (eqb d.k k)) [
  | inl on ↦ let h = rw on at new in rw on h
  | inr out ↦ rw out (unseen-more k cs c (rw out at new) off)
]

-- and one less
pub unseen-less : (k : ℕ) (cs : List Taker) (c : Taker) → stage_in (cs ++ c ∷ []) k ≡ Unseen → stage_in cs k ≡ Unseen
unseen-less k [] c new = refl
unseen-less k (d ∷ cs) c new = elim (cases_Bool (eqb d.k k)) [
  | inl on ↦ absurd (seen-one d (rw on at new))
  | inr out ↦ rw out (unseen-less k cs c (rw out at new))
]

pub seen-last : (cs : List Taker) (c : Taker) → stage_in (cs ++ c ∷ []) c.k ≡ Unseen → ⊥
seen-last [] c new = let own : eqb c.k c.k ≡ true = eq-eqb c.k c.k refl in seen-one c (rw own at new)
seen-last (d ∷ cs) c new = elim (cases_Bool (eqb d.k c.k)) [
  | inl on ↦ seen-one d (rw on at new)
  | inr out ↦ seen-last cs c (rw out at new)
]

-- the first with a number is changed
module _ (k : ℕ) (f : Taker → Taker) where
  set-first : (cs : List Taker) (d : Taker) → position_or_len (is_numbered k) cs < length cs
      → set cs (position_or_len (is_numbered k) cs) (f (get_or cs (position_or_len (is_numbered k) cs) d)) ≡ changed_at k f cs
  set-first [] d lt = absurd (omega (arith, lt))
  set-first (c ∷ cs) d lt = elim (cases_Bool (eqb c.k k)) [
    | inl on ↦ rw on refl
    | inr off ↦
        let less = rw off at lt in
        rw (off, one-add) (ap (λ (l : List Taker). c ∷ l) (set-first cs d (omega (arith, less))))
  ]

  kept-all : (cs : List Taker) → length cs ≤ position_or_len (is_numbered k) cs → cs ≡ changed_at k f cs
  kept-all [] le = refl
  kept-all (c ∷ cs) le = elim (cases_Bool (eqb c.k k)) [
    | inl on ↦ let h = rw on at le in absurd (omega (arith, h))
    | inr off ↦ let h = rw off at le in rw off (ap (λ (l : List Taker). c ∷ l) (kept-all cs (omega (arith, h))))
  ]

  pub changed-some : (cs : List Taker) (i : ℕ) (old new : Taker) → position (is_numbered k) cs ≡ Some i → old ≡ get_or cs i old → new ≡ f old →
      set cs i new ≡ changed_at k f cs
  changed-some cs i old new is at_i changed = elim (cases_Bool (ltb (position_or_len (is_numbered k) cs) (length cs))) [
    | inl within ↦
        let here : position_or_len (is_numbered k) cs ≡ i = let h = rw within at is in cc in
        rw (changed, at_i, ← here) (set-first cs old (ltb-true _ _ within))
    | inr past ↦ let h = rw past at is in absurd (cc)
  ]

  pub changed-none : (cs : List Taker) → position (is_numbered k) cs ≡ None → cs ≡ changed_at k f cs
  changed-none cs is = elim (cases_Bool (ltb (position_or_len (is_numbered k) cs) (length cs))) [
    | inl within ↦ let h = rw within at is in absurd (cc)
    | inr past ↦ kept-all cs (ltb-false _ _ past)
  ]

-- HOW ONE IS, BY WHAT WAS FOUND
