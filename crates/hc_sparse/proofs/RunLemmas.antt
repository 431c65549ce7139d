-- Runs one after another, and what they have.
--
-- Runs ascend, so none has a byte before where the first begins (`cells-before`), or past the greatest position
-- (`cells-past`). `at-place` has the work, by induction: a first run that ends past the position is the one, and what
-- ends by it is passed. Whether a run ends by a position turns once along the list (`partitioned`), so a binary search
-- finds that place (`place-is`). The first position of that run from there on is the next that is present (`next-is`).
use Rattle.std.{specs.{List.Sorted.{IsPartitionedBy, IsPartitionPoint}, Prelude.{nat_le}}, proofs.{Common.{◌≡◌, inl, inr, ℕ, zero, suc, ◌<◌, ◌≤◌, ◌^◌, List, [], ◌∷◌, length, true, false, Some, None, refl, arith, add-one, get_or, max}, lemmas.Bool.{leb-true, le-leb, Decides.{nat_tests}}}}
use Rattle.hc_text.proofs.Basics.{le_or as le_cases}
use Rattle.hc_sparse.specs.{Cells.{EndsBy, IsNext}, Runs.{cells_of, ascend, place_of, end_of, IsRunFrom}, declared.run.Run.{Run}}
use Rattle.hc_sparse.proofs.CellLemmas.{inside-yes, inside-before, inside-past}

pub ascend-cons : (n : ℕ) (r : Run) (rs : List Run) → ascend n (r ∷ rs) ≡ true → (n ≤ r.at) × (0 < length r.bytes) × (ascend (end_of r) rs ≡ true)
ascend-cons n r rs asc = grind (arith, nat_tests)

pub ascend-with : (n : ℕ) (r : Run) (rs : List Run) → n ≤ r.at → 0 < length r.bytes → ascend (end_of r) rs ≡ true → ascend n (r ∷ rs) ≡ true
ascend-with n r rs a b asc = grind (arith, nat_tests)

pub ascend-end : (n : ℕ) (rs : List Run) → ascend n rs ≡ true → n ≤ 2 ^ 62
ascend-end n [] asc = grind (arith, nat_tests)
ascend-end n (r ∷ rs) asc = let parts = ascend-cons n r rs asc in let rest = ascend-end (end_of r) rs parts.2 in omega arith

pub cells-before : (n : ℕ) (rs : List Run) → ascend n rs ≡ true → (p : ℕ) → p < n → cells_of rs p ≡ None
cells-before n [] asc p lt = refl
cells-before n (r ∷ rs) asc p lt =
    let parts = ascend-cons n r rs asc in
    rw (inside-before r.at (length r.bytes) p (omega arith)) (cells-before (end_of r) rs parts.2 p (omega arith))

pub cells-past : (n : ℕ) (rs : List Run) → ascend n rs ≡ true → EndsBy (2 ^ 62) (cells_of rs)
cells-past n [] asc p le = refl
cells-past n (r ∷ rs) asc p le =
    let parts = ascend-cons n r rs asc in
    let end = ascend-end (end_of r) rs parts.2 in
    rw (inside-past r.at (length r.bytes) p (omega arith)) (cells-past (end_of r) rs parts.2 p le)

-- The run at the place of a position is the first that ends past it.
record IsAt (n p : ℕ) (rs : List Run) (r : Run) : Type 0 where
  from : n ≤ r.at
  is : IsRunFrom rs p r

at-place : (n p : ℕ) (rs : List Run) (d : Run) → ascend n rs ≡ true → place_of p rs < length rs → IsAt n p rs (get_or rs (place_of p rs) d)
at-place n p [] d asc lt = absurd (omega arith)
at-place n p (r ∷ rs) d asc lt =
    let parts = ascend-cons n r rs asc in
    elim (le_cases (end_of r) p) [
      | inr past ↦ rw past.0 (record {
        from = parts.0;
        is = record {
          some = parts.1;
          past = past.1;
          end = ascend-end (end_of r) rs parts.2;
          cells = λ q lo hi. rw (inside-yes r.at (length r.bytes) q lo hi) refl;
          before = λ q lo hi. rw (inside-before r.at (length r.bytes) q hi) (cells-before (end_of r) rs parts.2 q (omega arith));
        };
      })
      | inl by ↦
          let rest = at-place (end_of r) p rs d parts.2 (let lt' = rw by.0 at lt in omega arith) in
          let from = rest.from in
          rw (by.0, add-one (place_of p rs)) (record {
            from = omega arith;
            is = record {
              some = rest.is.some;
              past = rest.is.past;
              end = rest.is.end;
              cells = λ q lo hi. rw (inside-past r.at (length r.bytes) q (omega arith)) (rest.is.cells q lo hi);
              before = λ q lo hi. rw (inside-past r.at (length r.bytes) q (omega arith)) (rest.is.before q lo hi);
            };
          })
    ]

pub run-at_place : (p : ℕ) (rs : List Run) (d : Run) → ascend 0 rs ≡ true → place_of p rs < length rs → IsRunFrom rs p (get_or rs (place_of p rs) d)
run-at_place p rs d asc lt = (at-place 0 p rs d asc lt).is

pub none-from_place : (p : ℕ) (rs : List Run) → length rs ≤ place_of p rs → EndsBy p (cells_of rs)
none-from_place p [] le q from = refl
none-from_place p (r ∷ rs) le q from =
    elim (le_cases (end_of r) p) [
      | inr past ↦ absurd (let le' = rw past.0 at le in omega arith)
      | inl by ↦ rw (inside-past r.at (length r.bytes) q (omega arith)) (none-from_place p rs (let le' = rw by.0 at le in omega arith) q from)
    ]

-- A binary search finds the place of a position.
pub at-from : (n : ℕ) (rs : List Run) (i : ℕ) (d : Run) → ascend n rs ≡ true → i < length rs → n ≤ (get_or rs i d).at
at-from n [] i d asc lt = absurd (omega arith)
at-from n (r ∷ rs) zero d asc lt = (ascend-cons n r rs asc).0
at-from n (r ∷ rs) (suc i) d asc lt =
    let parts = ascend-cons n r rs asc in
    let rest = at-from (end_of r) rs i d parts.2 (omega arith) in
    omega arith

pub partitioned : (n p : ℕ) (rs : List Run) → ascend n rs ≡ true → IsPartitionedBy (λ r. nat_le (end_of r) p) rs
partitioned n p [] asc i j d le lt by = absurd (omega arith)
partitioned n p (r ∷ rs) asc zero zero d le lt by = by
partitioned n p (r ∷ rs) asc zero (suc j) d le lt by =
    let parts = ascend-cons n r rs asc in
    grind (arith, nat_tests, at-from, end_of, le-leb, leb-true)
partitioned n p (r ∷ rs) asc (suc i) zero d le lt by = absurd (omega arith)
partitioned n p (r ∷ rs) asc (suc i) (suc j) d le lt by =
    partitioned (end_of r) p rs (ascend-cons n r rs asc).2 i j d (omega arith) (omega arith) by

pub place-is : (p : ℕ) (rs : List Run) (i : ℕ) → i ≤ length rs →
    IsPartitionPoint (λ r. nat_le (end_of r) p ≡ true) (λ r. nat_le (end_of r) p ≡ false) rs i → i ≡ place_of p rs
place-is p [] i le point = omega arith
place-is p (r ∷ rs) zero le point = rw (point.1 0 r (omega arith) (omega arith)) refl
place-is p (r ∷ rs) (suc i) le point =
    let rest = place-is p rs i (omega arith)
    ((λ k d lo hi. point.0 (suc k) d (omega arith) (omega arith)), (λ k d lo hi. point.1 (suc k) d (omega arith) (omega arith))) in
    rw (point.0 0 r (omega arith) (omega arith)) (omega arith)

-- The first position of that run from there on is the next that is present.
pub next-is : (rs : List Run) (p n : ℕ) (r : Run) → IsRunFrom rs p r → n ≡ max r.at p → IsNext (cells_of rs) p (Some n)
next-is rs p n r has is = grind (arith, nat_tests)
