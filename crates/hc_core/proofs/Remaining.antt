-- The longest runs, one after another.
--
-- The list of all runs is built from behind, byte by byte; the loop finds them from the front. `AreFound` says that
-- those so far are the first of that list, and that the rest is the list from a position on. What is absent in front is
-- passed over (`runs_skip`). The longest run of one exchange is then the first of the rest, since behind it is no byte
-- of that (`runs_next`). So one more is found (`more_found`). `runs_of` uses these.
use Rattle.std.{proofs.{Common.{◌≡◌, ◌≢◌, ◌⊎◌, inl, inr, ℕ, zero, suc, ◌+◌, ◌-◌, ◌<◌, ◌≤◌, ◌^◌, List, [], ◌∷◌, ◌++◌, length, get_or, true, Option, Some, None, refl, ap, sym, ◌∙◌, subst, arith, append_assoc}, lemmas.Bool.{cases_Bool, Decides.{nat_tests}}}, specs.Prelude.{is_some, ◌==◌, ◌&&◌, if◌then◌else◌}}
use Rattle.hc_text.proofs.Basics.{and_left, and_right, eqb-same, lt_or as split}
use Rattle.hc_sparse.specs.{Cells.{Cells, Cell, EndsBy, AreAbsent, IsNext}, Stretch.{IsLongest}, declared.run.Run.{Run}}
use Rattle.hc_effects.proofs.Vocabulary.{run_from, with_cell, with_place, runs_from}
use Rattle.hc_effects.proofs.{Basics.{append_none}, Tests.{none_some}}

-- nothing is there: no run
pub runs_none : (f : Cells) (p n : ℕ) → AreAbsent f p (p + n) → runs_from f p n ≡ []
runs_none f p zero absent = refl
runs_none f p (suc n) absent = rw (absent p (omega arith) (omega arith)) (runs_none f (p + 1) n (λ q le lt. absent q (omega arith) (omega arith)))

-- what is absent in front is passed over
pub runs_skip : (f : Cells) (p m n : ℕ) → AreAbsent f p (p + m) → runs_from f p (m + n) ≡ runs_from f (p + m) n
runs_skip f p zero n absent = let a : 0 + n ≡ n = omega arith in let b : p + 0 ≡ p = omega arith in rw (a, b) refl
runs_skip f p (suc m) n absent =
    let a : suc m + n ≡ suc (m + n) = omega arith in
    let b : p + suc m ≡ p + 1 + m = omega arith in
    rw (a, b) (rw (absent p (omega arith) (omega arith)) (runs_skip f (p + 1) m n (λ q le lt. absent q (omega arith) (omega arith))))

-- what a byte in front makes is the first run
with_first : (q : ℕ) (cell : Cell) (xs : List Run) → (first : Run) × (rest : List Run) × (with_cell q cell xs ≡ first ∷ rest) × (first.at ≡ q) ×
    (first.x ≡ cell.x)
with_first q cell [] = (run_from q cell [], [], refl, refl, refl)
with_first q cell (r ∷ rs) = elim (cases_Bool (r.at == q + 1 && r.x == cell.x)) [
  | inl on ↦ (run_from q cell r.bytes, rs, rw on refl, refl, refl)
  | inr off ↦ (run_from q cell [], r ∷ rs, rw off refl, refl, refl)
]

head_is : (run first : Run) (rest others : List Run) → run ∷ rest ≡ first ∷ others → run ≡ first
head_is run first rest others is = cc

first_at : (f : Cells) (q n : ℕ) (run : Run) (rest : List Run) → runs_from f q n ≡ run ∷ rest → q ≤ run.at
first_at f q zero run rest is = absurd (let never : [] ≡ run ∷ rest = is in cc)
first_at f q (suc n) run rest is = by_cell (f q) is (λ again. first_at f (q + 1) n run rest again)
  where
    by_cell : (z : Option Cell) → with_place q z (runs_from f (q + 1) n) ≡ run ∷ rest → (runs_from f (q + 1) n ≡ run ∷ rest → q + 1 ≤ run.at) → q ≤ run.at
    by_cell None is again = let more : q + 1 ≤ run.at = again is in omega arith
    by_cell (Some cell) is again =
        let w = with_first q cell (runs_from f (q + 1) n) in
        let at : run.at ≡ q = ap (λ (z : Run). z.at) (head_is run w.0 rest w.1 (sym is ∙ w.2)) ∙ w.3 in
        omega arith

-- the first run is from a position only where a byte of its exchange is there
goes_there : (f : Cells) (p n : ℕ) (run : Run) (rest : List Run) → runs_from f p n ≡ run ∷ rest → run.at ≡ p → (cell : Cell) × (f p ≡ Some cell) ×
    (cell.x ≡ run.x)
goes_there f p zero run rest is at = absurd (let never : [] ≡ run ∷ rest = is in cc)
goes_there f p (suc n) run rest is at = by_cell (f p) refl is
  where
    by_cell : (z : Option Cell) → f p ≡ z → with_place p z (runs_from f (p + 1) n) ≡ run ∷ rest → (cell : Cell) × (f p ≡ Some cell) × (cell.x ≡ run.x)
    by_cell None there is = absurd (let more : p + 1 ≤ run.at = first_at f (p + 1) n run rest is in omega arith)
    by_cell (Some cell) there is =
        let w = with_first p cell (runs_from f (p + 1) n) in
        (cell, there, sym (ap (λ (z : Run). z.x) (head_is run w.0 rest w.1 (sym is ∙ w.2)) ∙ w.4))

module _ (f : Cells) (x m : ℕ) where
  -- a byte behind which none of its exchange is
  lone : (p : ℕ) (cell : Cell) → cell.x ≡ x → ((next : Cell) → f (p + 1) ≡ Some next → next.x ≢ x) → (xs : List Run) → runs_from f (p + 1) m ≡ xs →
      with_cell p cell xs ≡ run_from p cell [] ∷ xs
  lone p cell from ends xs is = grind (arith, nat_tests, and_left, and_right, goes_there)

  pub runs_next : (p : ℕ) (bytes : List ℕ) → 0 < length bytes →
      ((i : ℕ) → i < length bytes → f (p + i) ≡ Some (record { byte = get_or bytes i 0; x = x })) →
      ((next : Cell) → f (p + length bytes) ≡ Some next → next.x ≢ x)
      → runs_from f p (length bytes + m) ≡ record { x = x; at = p; bytes = bytes } ∷ runs_from f (p + length bytes) m
  runs_next p [] some each ends = absurd (let none : 0 < 0 = some in omega arith)
  runs_next p (b ∷ []) some each ends =
      let here : f p ≡ Some (record { byte = b; x = x }) =
      (let z : p + 0 ≡ p = omega arith in subst (λ (q : ℕ). f q ≡ Some (record { byte = b; x = x })) z (each 0 (omega arith))) in
      let long : length (b ∷ []) + m ≡ suc m = omega arith in
      let next : p + length (b ∷ []) ≡ p + 1 = omega arith in
      rw (long, next) (rw here (lone p (record { byte = b; x = x }) refl (λ cell there. ends cell (ap f next ∙ there)) (runs_from f (p + 1) m) refl))
  runs_next p (b ∷ c ∷ bytes) some each ends =
      let here : f p ≡ Some (record { byte = b; x = x }) =
      (let z : p + 0 ≡ p = omega arith in subst (λ (q : ℕ). f q ≡ Some (record { byte = b; x = x })) z (each 0 (omega arith))) in
      let long : length (b ∷ c ∷ bytes) + m ≡ suc (length (c ∷ bytes) + m) = omega arith in
      let next : p + length (b ∷ c ∷ bytes) ≡ p + 1 + length (c ∷ bytes) = omega arith in
      let rest = runs_next (p + 1) (c ∷ bytes) (omega arith)
      (λ i lt. (let z : p + suc i ≡ p + 1 + i = omega arith in
      subst (λ (q : ℕ). f q ≡ Some (record { byte = get_or (c ∷ bytes) i 0; x = x })) z (each (suc i) (omega arith))))
      (λ cell there. ends cell (ap f next ∙ there)) in
      rw (long, next) (rw (here, rest) (joined (runs_from f (p + 1 + length (c ∷ bytes)) m)))
    where
      joined : (rs : List Run) →
          with_cell p (record { byte = b; x = x }) (record { x = x; at = p + 1; bytes = c ∷ bytes } ∷ rs) ≡ record { x = x; at = p; bytes = b ∷ c ∷ bytes } ∷ rs
      joined rs = rw (eqb-same (p + 1), eqb-same x) refl

-- STEP BY STEP

-- these are the first of the longest runs, up to a position
pub record AreFound (f : Cells) (p : ℕ) (runs : List Run) : Type 0 where
  pub found : (n : ℕ) → EndsBy n f → EndsBy (2 ^ 62) f → runs_from f 0 n ≡ runs ++ runs_from f p (n - p)

pub none_found : (f : Cells) → AreFound f 0 []
none_found f = record { found = λ n ends all. (let same : n - 0 ≡ n = omega arith in rw same refl) }

below_end : (f : Cells) (n q : ℕ) → EndsBy n f → is_some (f q) ≡ true → q < n
below_end f n q ends there = grind (arith, nat_tests)

module _ (f : Cells) (p at : ℕ) (runs : List Run) (run : Run) (so_far : AreFound f p runs) (next : IsNext f p (Some at))
    (longest : IsLongest f at (2 ^ 62 - at) run) where
  pub more_found : AreFound f (at + length run.bytes) (runs ++ run ∷ [])
  more_found = record {
    found = λ n ends all.
        (let le : p ≤ at = next.0 in
        let there : at < n = below_end f n at ends next.1 in
        let some = longest.some in
        let count = length run.bytes in
        let last : f (at + (count - 1)) ≡ Some (record { byte = get_or run.bytes (count - 1) 0; x = run.x }) = longest.each (count - 1) (omega (arith, some)) in
        let past : at + (count - 1) < n = below_end f n (at + (count - 1)) ends (ap is_some last) in
        let first : n - p ≡ (at - p) + (n - at) = omega arith in
        let from : p + (at - p) ≡ at = omega arith in
        let rest : n - at ≡ count + (n - (at + count)) = omega (arith, some) in
        let ends_here : (cell : Cell) → f (at + count) ≡ Some cell → cell.x ≢ run.x = λ cell is same. (elim (split count (2 ^ 62 - at)) [
          | inl lt ↦ longest.ends lt cell.byte (is ∙ ap (λ (z : ℕ). Some (record { byte = cell.byte; x = z })) same)
          | inr far ↦ none_some cell (sym (all (at + count) (omega (arith, far))) ∙ is)
        ]) in
        let same_run : record { x = run.x; at = at; bytes = run.bytes } ≡ run =
        ap (λ (z : ℕ). record { x = run.x; at = z; bytes = run.bytes }) (sym longest.from) in
        so_far.found n ends all
        ∙ (ap (λ (k : ℕ). runs ++ runs_from f p k) first
        ∙ (ap (λ (zs : List Run). runs ++ zs)
        (runs_skip f p (at - p) (n - at) (λ q lo hi. next.2 q lo (omega arith)) ∙ (ap (λ (q : ℕ). runs_from f q (n - at)) from ∙ (ap (runs_from f at) rest
        ∙ (runs_next f run.x (n - (at + count)) at run.bytes some longest.each ends_here ∙
        ap (λ (z : Run). z ∷ runs_from f (at + count) (n - (at + count))) same_run))))
        ∙ sym (rw append_assoc refl))));
  }

pub all_found : (f : Cells) (p : ℕ) (runs : List Run) → p ≤ 2 ^ 62 → AreFound f p runs → IsNext f p None → (n : ℕ) → EndsBy n f → runs ≡ runs_from f 0 n
all_found f p runs le so_far none n ends =
    sym (so_far.found n ends (λ q far. none q (omega arith)) ∙
    (ap (λ (zs : List Run). runs ++ zs) (runs_none f p (n - p) (λ q lo hi. none q lo)) ∙ append_none runs))

-- the position goes on, and not past the end
pub goes_nearer : (p at count : ℕ) → p ≤ at → 0 < count → count ≤ 2 ^ 62 - at → at < 2 ^ 62 → 2 ^ 62 - (at + count) < 2 ^ 62 - p
goes_nearer p at count le some most below = omega arith

pub stays_within : (at count : ℕ) → count ≤ 2 ^ 62 - at → at < 2 ^ 62 → at + count ≤ 2 ^ 62
stays_within at count most below = omega arith

pub some_left : (at : ℕ) → at < 2 ^ 62 → 0 < 2 ^ 62 - at
some_left at below = omega arith
