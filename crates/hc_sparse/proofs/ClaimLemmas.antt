-- Offsets made an exchange's.
--
-- Offsets are claimed where none is taken. A new extent goes to the place of its offset: by induction the extents
-- before it stay, and those behind it begin past its end (`ascend-inserted`). Claims of other offsets may change
-- places, so the marks are those with the new ones (`claim-inserted`). Where an extent of the same exchange ends there,
-- and its bytes too, it is made longer: two such claims are one (`claimed-append`, `claim-lengthened`).
use Rattle.std.{proofs.{Common.{◌≡◌, inl, inr, ℕ, zero, suc, ◌+◌, ◌-◌, ◌<◌, ◌≤◌, List, [], ◌∷◌, length, true, Some, None, refl, sym, ◌∙◌, arith, add-one, get_or, set}, lemmas.Bool.Decides.{nat_tests}}, specs.{Prelude.{Result, IsOk, is_ok}, List.{insert}}}
use Rattle.hc_text.proofs.Basics.{le_or as le_cases}
use Rattle.hc_sparse.specs.{Cells.{inside}, Extents.{Marks, mark, marks_of, ascend, place_of, end_of, longer_extent, claimed_marks, AreFree}, declared.extents.Extent.{Extent}}
use Rattle.hc_sparse.proofs.{CellLemmas.{inside-yes, inside-past, inside-cases, two-writes}, ExtentLemmas.{ascend-cons, ascend-with, at-from}}

-- Extents none of which has an offset up to one ascend from there.
ascend-past : (n m : ℕ) (es : List Extent) → ascend n es ≡ true → AreFree (marks_of es) n m → m ≤ 4096 → ascend m es ≡ true
ascend-past n m [] asc absent end = grind (arith, nat_tests)
ascend-past n m (e ∷ es) asc absent end =
    let parts = ascend-cons n e es asc in
    elim (le_cases m e.at) [
      | inl far ↦ ascend-with m e es far.1 parts.1 parts.2
      | inr near ↦ absurd (let gone = absent e.at parts.0 near.1 in let never : Some (mark e.x e.from e.at e.at) ≡ None =
          rw (inside-yes e.at (e.len) e.at (omega arith) (omega arith)) at gone in cc)
    ]

-- Claims of offsets of which none are the same may change places.
claimed-claimed : (e : Extent) (at len x from : ℕ) (f : Marks) → end_of e ≤ at → (p : ℕ) →
    claimed_marks e.at e.len e.x e.from (claimed_marks at len x from f) p ≡ claimed_marks at len x from (claimed_marks e.at e.len e.x e.from f) p
claimed-claimed e at len x from f past p =
    two-writes (inside e.at e.len p) (inside at len p) (Some (mark e.x e.from e.at p)) (Some (mark x from at p)) (f p)
    (λ a b. grind (arith, nat_tests))

-- Claims of offsets one after another, whose bytes stand one after another, are one claim.
pub claimed-append : (at len more x from : ℕ) (f : Marks) (p : ℕ) →
    claimed_marks at (len + more) x from f p ≡ claimed_marks (at + len) more x (from + len) (claimed_marks at len x from f) p
claimed-append at len more x from f p = grind (arith, nat_tests)

insert-more : (new e : Extent) (es : List Extent) (k : ℕ) → insert (e ∷ es) (k + 1) new ≡ e ∷ insert es k new
insert-more new e es k = rw (add-one k) refl

-- What is free among all extents is free among those behind the first.
absent-behind : (e : Extent) (es : List Extent) (lo hi : ℕ) → end_of e ≤ lo → AreFree (marks_of (e ∷ es)) lo hi → AreFree (marks_of es) lo hi
absent-behind e es lo hi past absent p le lt = rw (inside-past e.at (e.len) p (omega arith)) at (absent p le lt)

marks-inserted : (n : ℕ) (new : Extent) (es : List Extent) → ascend n es ≡ true → AreFree (marks_of es) new.at (end_of new) → (p : ℕ) →
    marks_of (insert es (place_of new.at es) new) p ≡ claimed_marks new.at new.len new.x new.from (marks_of es) p
marks-inserted n new [] asc absent p = refl
marks-inserted n new (e ∷ es) asc absent p =
    let parts = ascend-cons n e es asc in
    elim (le_cases (end_of e) new.at) [
      | inr past ↦ rw past.0 refl
      | inl by ↦
          let rest = marks-inserted (end_of e) new es parts.2 (absent-behind e es new.at (end_of new) by.1 absent) p in
          rw (by.0, insert-more new e es (place_of new.at es), rest) (claimed-claimed e new.at new.len new.x new.from (marks_of es) by.1 p)
    ]

ascend-inserted : (n : ℕ) (new : Extent) (es : List Extent) → ascend n es ≡ true → AreFree (marks_of es) new.at (end_of new) → 0 < new.len → n ≤ new.at →
    end_of new ≤ 4096 → ascend n (insert es (place_of new.at es) new) ≡ true
ascend-inserted n new [] asc absent some from end = let last : ascend (end_of new) [] ≡ true = grind (arith, nat_tests) in ascend-with n new [] from some last
ascend-inserted n new (e ∷ es) asc absent some from end =
    let parts = ascend-cons n e es asc in
    elim (le_cases (end_of e) new.at) [
      | inr past ↦ rw past.0 (elim (inside-cases e.at (e.len) new.at) [
        | inl here ↦ absurd (let gone = absent new.at (omega arith) (omega arith) in let never : Some (mark e.x e.from e.at new.at) ≡ None =
            rw here.0 at gone in cc)
        | inr off ↦ elim off.1 [
          | inr after ↦ absurd (omega arith)
          | inl before ↦ ascend-with n new (e ∷ es) from some
              (ascend-past new.at (end_of new) (e ∷ es) (ascend-with new.at e es (omega arith) parts.1 parts.2) absent end)
        ]
      ])
      | inl by ↦ rw (by.0, insert-more new e es (place_of new.at es))
          (ascend-with n e (insert es (place_of new.at es) new) parts.0 parts.1
          (ascend-inserted (end_of e) new es parts.2 (absent-behind e es new.at (end_of new) by.1 absent) some by.1 end))
    ]

marks-lengthened : (n i : ℕ) (es : List Extent) (d : Extent) (more : ℕ) → ascend n es ≡ true → i < length es →
    AreFree (marks_of es) (end_of (get_or es i d)) (end_of (get_or es i d) + more) → (p : ℕ) →
    marks_of (set es i (longer_extent (get_or es i d) more)) p ≡ claimed_marks (end_of (get_or es i d)) more (get_or es i d).x
    ((get_or es i d).from + (get_or es i d).len) (marks_of es) p
marks-lengthened n i [] d more asc lt absent p = absurd (omega arith)
marks-lengthened n zero (e ∷ es) d more asc lt absent p = claimed-append e.at e.len more e.x e.from (marks_of es) p
marks-lengthened n (suc i) (e ∷ es) d more asc lt absent p =
    let parts = ascend-cons n e es asc in
    let from = at-from (end_of e) es i d parts.2 (omega arith) in
    let past : end_of e ≤ end_of (get_or es i d) = omega arith in
    let rest = marks-lengthened (end_of e) i es d more parts.2 (omega arith)
    (absent-behind e es (end_of (get_or es i d)) (end_of (get_or es i d) + more) past absent) p in
    rw rest (claimed-claimed e (end_of (get_or es i d)) more (get_or es i d).x ((get_or es i d).from + (get_or es i d).len) (marks_of es) past p)

ascend-lengthened : (n i : ℕ) (es : List Extent) (d : Extent) (more : ℕ) → ascend n es ≡ true → i < length es →
    AreFree (marks_of es) (end_of (get_or es i d)) (end_of (get_or es i d) + more) → end_of (get_or es i d) + more ≤ 4096 →
    ascend n (set es i (longer_extent (get_or es i d) more)) ≡ true
ascend-lengthened n i [] d more asc lt absent end = absurd (omega arith)
ascend-lengthened n zero (e ∷ es) d more asc lt absent end =
    let parts = ascend-cons n e es asc in
    grind (arith, nat_tests, end_of, ascend-with, ascend-past, absent-behind)
ascend-lengthened n (suc i) (e ∷ es) d more asc lt absent end =
    let parts = ascend-cons n e es asc in
    let from = at-from (end_of e) es i d parts.2 (omega arith) in
    ascend-with n e (set es i (longer_extent (get_or es i d) more)) parts.0 parts.1
    (ascend-lengthened (end_of e) i es d more parts.2 (omega arith)
    (absent-behind e es (end_of (get_or es i d)) (end_of (get_or es i d) + more) (omega arith) absent) end)

same-at : (es : List Extent) (i : ℕ) (e s : Extent) → i < length es → e ≡ get_or es i e → s ≡ get_or es i s → e ≡ s
same-at [] i e s lt a b = absurd (omega arith)
same-at (t ∷ es) zero e s lt a b = cc
same-at (t ∷ es) (suc i) e s lt a b = same-at es i e s (omega arith) a b

-- What a claim leaves: the extents ascend, and have the offsets.
pub record IsClaimed (es ss : List Extent) (at len x from : ℕ) : Type 0 where
  pub ascends : ascend 0 ss ≡ true
  pub marks : (p : ℕ) → marks_of ss p ≡ claimed_marks at len x from (marks_of es) p

pub claim-inserted : (es ss : List Extent) (new : Extent) (place : ℕ) → ascend 0 es ≡ true → AreFree (marks_of es) new.at (end_of new) → 0 < new.len →
    end_of new ≤ 4096 → place ≡ place_of new.at es → ss ≡ insert es place new → IsClaimed es ss new.at new.len new.x new.from
claim-inserted es ss new place asc absent some end there is = search (arith, ascend-inserted, marks-inserted)

pub claim-lengthened : (es ss : List Extent) (i : ℕ) (e s : Extent) (at x from : ℕ) (more : ℕ) → ascend 0 es ≡ true → i < length es → e ≡ get_or es i e →
    s ≡ get_or es i s → s.x ≡ x → end_of s ≡ at → s.from + s.len ≡ from → AreFree (marks_of es) at (at + more) → at + more ≤ 4096 →
    ss ≡ set es i (longer_extent e more) → IsClaimed es ss at more x from
claim-lengthened es ss i e s at x from more asc lt e-is s-is of_x ends behind absent end is =
    let same : get_or es i e ≡ s = sym e-is ∙ same-at es i e s lt e-is s-is in
    grind (arith, nat_tests, end_of, ascend-lengthened, marks-lengthened)

pub ok-is : {T E : Type 0} (r : Result T E) → IsOk r → is_ok r ≡ true
ok-is r is = cc
