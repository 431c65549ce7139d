-- Bytes put among runs.
--
-- Bytes are put where nothing is. A new run goes to the place of its position: by induction the runs before it stay,
-- and those behind it begin past its end (`ascend-inserted`). The bytes are those with the new ones, since writes at
-- other positions may change places (`written-written`). A run that ends where the bytes begin is made longer instead
-- (`ascend-lengthened`, `cells-lengthened`). `put-inserted` and `put-lengthened` say each of the function that puts.
use Rattle.std.{proofs.{Common.{◌≡◌, inl, inr, ℕ, zero, suc, ◌+◌, ◌-◌, ◌<◌, ◌≤◌, ◌^◌, List, [], ◌∷◌, length, true, Some, None, refl, sym, ◌∙◌, arith, add-one, get_or, length-append, set}, lemmas.Bool.Decides.{nat_tests}}, specs.List.{insert}}
use Rattle.hc_text.proofs.Basics.{le_or as le_cases}
use Rattle.hc_sparse.specs.{Cells.{Cells, cells_with, inside, AreAbsent}, Runs.{cells_of, cell_in, ascend, place_of, end_of, longer_run}, declared.run.Run.{Run}}
use Rattle.hc_sparse.proofs.{CellLemmas.{inside-yes, inside-past, inside-cases, two-writes, written-append}, RunLemmas.{ascend-cons, ascend-with, at-from}}

-- Runs among which nothing is up to a position ascend from there.
ascend-past : (n m : ℕ) (rs : List Run) → ascend n rs ≡ true → AreAbsent (cells_of rs) n m → m ≤ 2 ^ 62 → ascend m rs ≡ true
ascend-past n m [] asc absent end = grind (arith, nat_tests)
ascend-past n m (r ∷ rs) asc absent end =
    let parts = ascend-cons n r rs asc in
    elim (le_cases m r.at) [
      | inl far ↦ ascend-with m r rs far.1 parts.1 parts.2
      | inr near ↦ absurd (let gone = absent r.at parts.0 near.1 in let never : cell_in r r.at ≡ None =
          rw (inside-yes r.at (length r.bytes) r.at (omega arith) (omega arith)) at gone in cc)
    ]

-- Writes at positions of which none are the same may change places.
written-written : (r : Run) (at x : ℕ) (bytes : List ℕ) (f : Cells) → end_of r ≤ at → (p : ℕ) →
    cells_with r.at r.x r.bytes (cells_with at x bytes f) p ≡ cells_with at x bytes (cells_with r.at r.x r.bytes f) p
written-written r at x bytes f past p =
    two-writes (inside r.at (length r.bytes) p) (inside at (length bytes) p) (cell_in r p) (Some (record { byte = get_or bytes (p - at) 0; x = x })) (f p)
    (λ a b. grind (arith, nat_tests))

insert-more : (new r : Run) (rs : List Run) (k : ℕ) → insert (r ∷ rs) (k + 1) new ≡ r ∷ insert rs k new
insert-more new r rs k = rw (add-one k) refl

-- What is absent among all runs is absent among those behind the first.
absent-behind : (r : Run) (rs : List Run) (lo hi : ℕ) → end_of r ≤ lo → AreAbsent (cells_of (r ∷ rs)) lo hi → AreAbsent (cells_of rs) lo hi
absent-behind r rs lo hi past absent p le lt = rw (inside-past r.at (length r.bytes) p (omega arith)) at (absent p le lt)

cells-inserted : (n : ℕ) (new : Run) (rs : List Run) → ascend n rs ≡ true → AreAbsent (cells_of rs) new.at (end_of new) → (p : ℕ) →
    cells_of (insert rs (place_of new.at rs) new) p ≡ cells_with new.at new.x new.bytes (cells_of rs) p
cells-inserted n new [] asc absent p = refl
cells-inserted n new (r ∷ rs) asc absent p =
    let parts = ascend-cons n r rs asc in
    elim (le_cases (end_of r) new.at) [
      | inr past ↦ rw past.0 refl
      | inl by ↦
          let rest = cells-inserted (end_of r) new rs parts.2 (absent-behind r rs new.at (end_of new) by.1 absent) p in
          rw (by.0, insert-more new r rs (place_of new.at rs), rest) (written-written r new.at new.x new.bytes (cells_of rs) by.1 p)
    ]

ascend-inserted : (n : ℕ) (new : Run) (rs : List Run) → ascend n rs ≡ true → AreAbsent (cells_of rs) new.at (end_of new) → 0 < length new.bytes →
    n ≤ new.at → end_of new ≤ 2 ^ 62 → ascend n (insert rs (place_of new.at rs) new) ≡ true
ascend-inserted n new [] asc absent some from end = let last : ascend (end_of new) [] ≡ true = grind (arith, nat_tests) in ascend-with n new [] from some last
ascend-inserted n new (r ∷ rs) asc absent some from end =
    let parts = ascend-cons n r rs asc in
    elim (le_cases (end_of r) new.at) [
      | inr past ↦ rw past.0 (elim (inside-cases r.at (length r.bytes) new.at) [
        | inl here ↦ absurd (let gone = absent new.at (omega arith) (omega arith) in let never : cell_in r new.at ≡ None = rw here.0 at gone in cc)
        | inr off ↦ elim off.1 [
          | inr after ↦ absurd (omega arith)
          | inl before ↦ ascend-with n new (r ∷ rs) from some
              (ascend-past new.at (end_of new) (r ∷ rs) (ascend-with new.at r rs (omega arith) parts.1 parts.2) absent end)
        ]
      ])
      | inl by ↦ rw (by.0, insert-more new r rs (place_of new.at rs))
          (ascend-with n r (insert rs (place_of new.at rs) new) parts.0 parts.1
          (ascend-inserted (end_of r) new rs parts.2 (absent-behind r rs new.at (end_of new) by.1 absent) some by.1 end))
    ]

cells-lengthened : (n i : ℕ) (rs : List Run) (d : Run) (more : List ℕ) → ascend n rs ≡ true → i < length rs →
    AreAbsent (cells_of rs) (end_of (get_or rs i d)) (end_of (get_or rs i d) + length more) → (p : ℕ) →
    cells_of (set rs i (longer_run (get_or rs i d) more)) p ≡ cells_with (end_of (get_or rs i d)) (get_or rs i d).x more (cells_of rs) p
cells-lengthened n i [] d more asc lt absent p = absurd (omega arith)
cells-lengthened n zero (r ∷ rs) d more asc lt absent p = written-append r.at r.x r.bytes more (cells_of rs) p
cells-lengthened n (suc i) (r ∷ rs) d more asc lt absent p =
    let parts = ascend-cons n r rs asc in
    let from = at-from (end_of r) rs i d parts.2 (omega arith) in
    let past : end_of r ≤ end_of (get_or rs i d) = omega arith in
    let rest = cells-lengthened (end_of r) i rs d more parts.2 (omega arith)
    (absent-behind r rs (end_of (get_or rs i d)) (end_of (get_or rs i d) + length more) past absent) p in
    rw rest (written-written r (end_of (get_or rs i d)) (get_or rs i d).x more (cells_of rs) past p)

ascend-lengthened : (n i : ℕ) (rs : List Run) (d : Run) (more : List ℕ) → ascend n rs ≡ true → i < length rs →
    AreAbsent (cells_of rs) (end_of (get_or rs i d)) (end_of (get_or rs i d) + length more) → end_of (get_or rs i d) + length more ≤ 2 ^ 62 →
    ascend n (set rs i (longer_run (get_or rs i d) more)) ≡ true
ascend-lengthened n i [] d more asc lt absent end = absurd (omega arith)
ascend-lengthened n zero (r ∷ rs) d more asc lt absent end =
    let parts = ascend-cons n r rs asc in
    grind (arith, nat_tests, length-append, end_of, ascend-with, ascend-past, absent-behind)
ascend-lengthened n (suc i) (r ∷ rs) d more asc lt absent end =
    let parts = ascend-cons n r rs asc in
    let from = at-from (end_of r) rs i d parts.2 (omega arith) in
    ascend-with n r (set rs i (longer_run (get_or rs i d) more)) parts.0 parts.1
    (ascend-lengthened (end_of r) i rs d more parts.2 (omega arith)
    (absent-behind r rs (end_of (get_or rs i d)) (end_of (get_or rs i d) + length more) (omega arith) absent) end)

same-at : (rs : List Run) (i : ℕ) (r s : Run) → i < length rs → r ≡ get_or rs i r → s ≡ get_or rs i s → r ≡ s
same-at [] i r s lt a b = absurd (omega arith)
same-at (t ∷ rs) zero r s lt a b = cc
same-at (t ∷ rs) (suc i) r s lt a b = same-at rs i r s (omega arith) a b

-- What a put leaves: the runs ascend, and have the bytes.
pub record IsPut (rs ss : List Run) (at x : ℕ) (bytes : List ℕ) : Type 0 where
  pub ascends : ascend 0 ss ≡ true
  pub cells : (p : ℕ) → cells_of ss p ≡ cells_with at x bytes (cells_of rs) p

pub put-inserted : (rs ss : List Run) (new : Run) (place : ℕ) → ascend 0 rs ≡ true → AreAbsent (cells_of rs) new.at (end_of new) → 0 < length new.bytes →
    end_of new ≤ 2 ^ 62 → place ≡ place_of new.at rs → ss ≡ insert rs place new → IsPut rs ss new.at new.x new.bytes
put-inserted rs ss new place asc absent some end there is = search (arith, ascend-inserted, cells-inserted)

pub put-lengthened : (rs ss : List Run) (i : ℕ) (r s : Run) (at x : ℕ) (more : List ℕ) → ascend 0 rs ≡ true → i < length rs → r ≡ get_or rs i r →
    s ≡ get_or rs i s → s.x ≡ x → end_of s ≡ at → AreAbsent (cells_of rs) at (at + length more) → at + length more ≤ 2 ^ 62 →
    ss ≡ set rs i (longer_run r more) → IsPut rs ss at x more
put-lengthened rs ss i r s at x more asc lt r-is s-is of_x ends absent end is =
    let same : get_or rs i r ≡ s = sym r-is ∙ same-at rs i r s lt r-is s-is in
    grind (arith, nat_tests, end_of, ascend-lengthened, cells-lengthened)
