-- Extents one after another, and whose they make offsets.
--
-- As for runs of bytes, within one block. Extents ascend, so none has an offset before where the first begins, or past
-- the block (`marks-before`, `marks-past`). `at-place` has the work, by induction: a first extent that ends past the
-- offset is the one, and what ends by it is passed. Whether an extent ends by an offset turns once along the list
-- (`partitioned`), so a binary search finds that place (`place-is`).
use Rattle.std.{specs.{List.Sorted.{IsPartitionedBy, IsPartitionPoint}, Prelude.{nat_le}}, proofs.{Common.{◌≡◌, inl, inr, ℕ, zero, suc, ◌<◌, ◌≤◌, List, [], ◌∷◌, length, true, false, None, refl, arith, add-one, get_or}, lemmas.Bool.{leb-true, le-leb, Decides.{nat_tests}}}}
use Rattle.hc_text.proofs.Basics.{le_or as le_cases}
use Rattle.hc_sparse.specs.{Extents.{marks_of, ascend, place_of, end_of, IsExtentFrom}, declared.extents.Extent.{Extent}}
use Rattle.hc_sparse.proofs.CellLemmas.{inside-yes, inside-before, inside-past}

pub ascend-cons : (n : ℕ) (e : Extent) (es : List Extent) → ascend n (e ∷ es) ≡ true → (n ≤ e.at) × (0 < e.len) × (ascend (end_of e) es ≡ true)
ascend-cons n e es asc = grind (arith, nat_tests)

pub ascend-with : (n : ℕ) (e : Extent) (es : List Extent) → n ≤ e.at → 0 < e.len → ascend (end_of e) es ≡ true → ascend n (e ∷ es) ≡ true
ascend-with n e es a b asc = grind (arith, nat_tests)

pub ascend-end : (n : ℕ) (es : List Extent) → ascend n es ≡ true → n ≤ 4096
ascend-end n [] asc = grind (arith, nat_tests)
ascend-end n (e ∷ es) asc = let parts = ascend-cons n e es asc in let rest = ascend-end (end_of e) es parts.2 in omega arith

pub marks-before : (n : ℕ) (es : List Extent) → ascend n es ≡ true → (p : ℕ) → p < n → marks_of es p ≡ None
marks-before n [] asc p lt = refl
marks-before n (e ∷ es) asc p lt =
    let parts = ascend-cons n e es asc in
    rw (inside-before e.at (e.len) p (omega arith)) (marks-before (end_of e) es parts.2 p (omega arith))

pub marks-past : (n : ℕ) (es : List Extent) → ascend n es ≡ true → ((p : ℕ) → 4096 ≤ p → marks_of es p ≡ None)
marks-past n [] asc p le = refl
marks-past n (e ∷ es) asc p le =
    let parts = ascend-cons n e es asc in
    let end = ascend-end (end_of e) es parts.2 in
    rw (inside-past e.at (e.len) p (omega arith)) (marks-past (end_of e) es parts.2 p le)

-- The extent at the place of an offset is the first that ends past it.
record IsAt (n p : ℕ) (es : List Extent) (e : Extent) : Type 0 where
  from : n ≤ e.at
  is : IsExtentFrom es p e

at-place : (n p : ℕ) (es : List Extent) (d : Extent) → ascend n es ≡ true → place_of p es < length es → IsAt n p es (get_or es (place_of p es) d)
at-place n p [] d asc lt = absurd (omega arith)
at-place n p (e ∷ es) d asc lt =
    let parts = ascend-cons n e es asc in
    elim (le_cases (end_of e) p) [
      | inr past ↦ rw past.0 (record {
        from = parts.0;
        is = record {
          some = parts.1;
          past = past.1;
          end = ascend-end (end_of e) es parts.2;
          marks = λ q lo hi. rw (inside-yes e.at (e.len) q lo hi) refl;
          before = λ q lo hi. rw (inside-before e.at (e.len) q hi) (marks-before (end_of e) es parts.2 q (omega arith));
        };
      })
      | inl by ↦
          let rest = at-place (end_of e) p es d parts.2 (let lt' = rw by.0 at lt in omega arith) in
          let from = rest.from in
          rw (by.0, add-one (place_of p es)) (record {
            from = omega arith;
            is = record {
              some = rest.is.some;
              past = rest.is.past;
              end = rest.is.end;
              marks = λ q lo hi. rw (inside-past e.at (e.len) q (omega arith)) (rest.is.marks q lo hi);
              before = λ q lo hi. rw (inside-past e.at (e.len) q (omega arith)) (rest.is.before q lo hi);
            };
          })
    ]

pub extent-at_place : (p : ℕ) (es : List Extent) (d : Extent) → ascend 0 es ≡ true → place_of p es < length es → IsExtentFrom es p (get_or es (place_of p es) d)
extent-at_place p es d asc lt = (at-place 0 p es d asc lt).is

pub none-from_place : (p : ℕ) (es : List Extent) → length es ≤ place_of p es → ((q : ℕ) → p ≤ q → marks_of es q ≡ None)
none-from_place p [] le q from = refl
none-from_place p (e ∷ es) le q from =
    elim (le_cases (end_of e) p) [
      | inr past ↦ absurd (let le' = rw past.0 at le in omega arith)
      | inl by ↦ rw (inside-past e.at (e.len) q (omega arith)) (none-from_place p es (let le' = rw by.0 at le in omega arith) q from)
    ]

-- A binary search finds the place of a position.
pub at-from : (n : ℕ) (es : List Extent) (i : ℕ) (d : Extent) → ascend n es ≡ true → i < length es → n ≤ (get_or es i d).at
at-from n [] i d asc lt = absurd (omega arith)
at-from n (e ∷ es) zero d asc lt = (ascend-cons n e es asc).0
at-from n (e ∷ es) (suc i) d asc lt =
    let parts = ascend-cons n e es asc in
    let rest = at-from (end_of e) es i d parts.2 (omega arith) in
    omega arith

pub partitioned : (n p : ℕ) (es : List Extent) → ascend n es ≡ true → IsPartitionedBy (λ e. nat_le (end_of e) p) es
partitioned n p [] asc i j d le lt by = absurd (omega arith)
partitioned n p (e ∷ es) asc zero zero d le lt by = by
partitioned n p (e ∷ es) asc zero (suc j) d le lt by =
    let parts = ascend-cons n e es asc in
    grind (arith, nat_tests, at-from, end_of, le-leb, leb-true)
partitioned n p (e ∷ es) asc (suc i) zero d le lt by = absurd (omega arith)
partitioned n p (e ∷ es) asc (suc i) (suc j) d le lt by =
    partitioned (end_of e) p es (ascend-cons n e es asc).2 i j d (omega arith) (omega arith) by

pub place-is : (p : ℕ) (es : List Extent) (i : ℕ) → i ≤ length es →
    IsPartitionPoint (λ e. nat_le (end_of e) p ≡ true) (λ e. nat_le (end_of e) p ≡ false) es i → i ≡ place_of p es
place-is p [] i le point = omega arith
place-is p (e ∷ es) zero le point = rw (point.1 0 e (omega arith) (omega arith)) refl
place-is p (e ∷ es) (suc i) le point =
    let rest = place-is p es i (omega arith)
    ((λ k d lo hi. point.0 (suc k) d (omega arith) (omega arith)), (λ k d lo hi. point.1 (suc k) d (omega arith) (omega arith))) in
    rw (point.0 0 e (omega arith) (omega arith)) (omega arith)
