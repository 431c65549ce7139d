-- Numbers that stand once each, as the keys of a cache, and what a step of the cache leaves of them.
--
-- Each lemma goes by induction over the list. Where numbers stand once, one that is taken out stands nowhere in the
-- rest (`distinct-without`), so it may stand first again (`distinct-promoted`). A cache in order of use keeps its
-- entries in a list, and its keys are such numbers. To remove an entry takes its key out (`keys-removed`), to use one
-- moves it to the front (`keys-promoted`), and a new one stands first (`keys-put`).
use Rattle.std.{proofs.{Common.{◌≡◌, ℕ, ◌-◌, ◌≤◌, List, [], ◌∷◌, length, true, false, cond, eqb, Some, None, refl, sym, ap, ◌∙◌, inl, inr, arith}, lemmas.{Bool.{cases_Bool, eqb-true, Decides.{nat_tests}}, List.{take_all}, Map.Keys.{IsDistinct-head, IsDistinct-tail, IsDistinct-cons}}}, specs.{Prelude.{nat_eq}, List.{AllByRecursion, IsDistinct}, Map.{keys_of, lookup_entry, remove_entry}}}
use Rattle.lru.specs.LruCache.{LruCache, promoted, put_entries}
use Rattle.hc_text.specs.Sorted.{has, without, itself}

-- nowhere in the list
abbrev Lacks : ℕ → List ℕ → Type 0
Lacks n ns = AllByRecursion (λ (m : ℕ). nat_eq n m ≡ false) ns

flips : (a b : ℕ) → nat_eq a b ≡ eqb b a
flips a b = grind (arith, nat_tests)

without-lacking : (n : ℕ) (ns : List ℕ) → Lacks n ns → without itself n ns ≡ ns
without-lacking n [] lacks = refl
without-lacking n (m ∷ ns) lacks = rw (sym (flips n m) ∙ lacks.0, without-lacking n ns lacks.1) refl

pub without-absent : (n : ℕ) (ns : List ℕ) → has itself n ns ≡ false → without itself n ns ≡ ns
without-absent n [] absent = refl
without-absent n (m ∷ ns) absent = elim (cases_Bool (eqb m n)) [
  | inl same ↦ absurd (let never : true ≡ false = rw same at absent in cc)
  | inr off ↦ rw (off, without-absent n ns (rw off at absent)) refl
]

-- what isn't in a list isn't in what is left of it
lacks-without : (n m : ℕ) (ns : List ℕ) → Lacks m ns → Lacks m (without itself n ns)
lacks-without n m [] lacks = lacks
lacks-without n m (k ∷ ns) lacks = elim (cases_Bool (eqb k n)) [
  | inl same ↦ rw same (lacks-without n m ns lacks.1)
  | inr off ↦ rw off (lacks.0, lacks-without n m ns lacks.1)
]

lacks-absent : (n : ℕ) (ns : List ℕ) → has itself n ns ≡ false → Lacks n ns
lacks-absent n [] absent = tt
lacks-absent n (m ∷ ns) absent = elim (cases_Bool (eqb m n)) [
  | inl same ↦ absurd (let never : true ≡ false = rw same at absent in cc)
  | inr off ↦ (flips n m ∙ off, lacks-absent n ns (rw off at absent))
]

pub distinct-without : (n : ℕ) (ns : List ℕ) → IsDistinct nat_eq ns → IsDistinct nat_eq (without itself n ns)
distinct-without n [] distinct = distinct
distinct-without n (m ∷ ns) distinct =
    let rest = distinct-without n ns (IsDistinct-tail nat_eq m ns distinct) in
    elim (cases_Bool (eqb m n)) [
      | inl same ↦ rw same rest
      | inr off ↦ rw off (IsDistinct-cons nat_eq m (without itself n ns) (lacks-without n m ns (IsDistinct-head nat_eq m ns distinct)) rest)
    ]

pub distinct-first : (n : ℕ) (ns : List ℕ) → has itself n ns ≡ false → IsDistinct nat_eq ns → IsDistinct nat_eq (n ∷ ns)
distinct-first n ns absent distinct = IsDistinct-cons nat_eq n ns (lacks-absent n ns absent) distinct

pub has-without : (n m : ℕ) (ns : List ℕ) → has itself m (without itself n ns) ≡ cond (eqb n m) false (has itself m ns)
has-without n m [] = grind (arith, nat_tests)
has-without n m (k ∷ ns) = elim (cases_Bool (eqb k n)) [
  | inl same ↦ let rest = has-without n m ns in let is : k ≡ n = eqb-true k n same in rw same (grind (arith, nat_tests))
  | inr off ↦ let rest = has-without n m ns in rw off (grind (arith, nat_tests))
]

module _ {V : Type 0} where
  pub keys-removed : (n : ℕ) (es : List (ℕ × V)) → IsDistinct nat_eq (keys_of es) → keys_of (remove_entry (nat_eq n) es) ≡ without itself n (keys_of es)
  keys-removed n [] distinct = refl
  keys-removed n (e ∷ es) distinct = elim (cases_Bool (nat_eq n e.0)) [
    | inl same ↦
        let is : n ≡ e.0 = eqb-true n e.0 same in
        let lacks : Lacks n (keys_of es) = rw is (IsDistinct-head nat_eq e.0 (keys_of es) distinct) in
        rw (same, sym (flips n e.0) ∙ same, without-lacking n (keys_of es) lacks) refl
    | inr off ↦ rw (off, sym (flips n e.0) ∙ off, keys-removed n es (IsDistinct-tail nat_eq e.0 (keys_of es) distinct)) refl
  ]

  past-other : (n : ℕ) (e : ℕ × V) (es : List (ℕ × V)) → nat_eq n e.0 ≡ false → (v : V) × (lookup_entry (nat_eq n) es ≡ Some (n, v))
      → (v : V) × (lookup_entry (nat_eq n) (e ∷ es) ≡ Some (n, v))
  past-other n e es off rest = (rest.0, rw off rest.1)

  -- whose key is found
  found-key : (n : ℕ) (es : List (ℕ × V)) → has itself n (keys_of es) ≡ true → (v : V) × (lookup_entry (nat_eq n) es ≡ Some (n, v))
  found-key n [] there = cc
  found-key n (e ∷ es) there = elim (cases_Bool (nat_eq n e.0)) [
    | inl same ↦ let is : n ≡ e.0 = eqb-true n e.0 same in (e.1, rw same (ap (λ (k : ℕ). Some (k, e.1)) (sym is)))
    | inr off ↦ past-other n e es off (found-key n es (rw (sym (flips n e.0) ∙ off) at there))
  ]

  no-key : (n : ℕ) (es : List (ℕ × V)) → has itself n (keys_of es) ≡ false → lookup_entry (nat_eq n) es ≡ None
  no-key n [] absent = refl
  no-key n (e ∷ es) absent = elim (cases_Bool (nat_eq n e.0)) [
    | inl same ↦ absurd (let never : true ≡ false = rw (sym (flips n e.0) ∙ same) at absent in cc)
    | inr off ↦ rw off (no-key n es (rw (sym (flips n e.0) ∙ off) at absent))
  ]

  pub keys-promoted : (n : ℕ) (es : List (ℕ × V)) → has itself n (keys_of es) ≡ true → IsDistinct nat_eq (keys_of es)
      → keys_of (promoted (nat_eq n) es) ≡ n ∷ without itself n (keys_of es)
  keys-promoted n es there distinct =
      rw (found-key n es there).1 (ap (λ (ns : List ℕ). n ∷ ns) (keys-removed n es distinct))

  pub keys-put : (n : ℕ) (v : V) (c : LruCache ℕ V) → has itself n (keys_of c.entries) ≡ false → length c.entries ≤ c.cap - 1
      → keys_of (put_entries nat_eq c n v) ≡ n ∷ keys_of c.entries
  keys-put n v c absent few =
      rw (no-key n c.entries absent, take_all (c.cap - 1) c.entries few) refl

-- in a list in which it stands first
pub distinct-promoted : (n : ℕ) (ns : List ℕ) → IsDistinct nat_eq ns → IsDistinct nat_eq (n ∷ without itself n ns)
distinct-promoted n ns distinct = search (arith, itself, has-without, distinct-first, distinct-without)
