-- Stretches of bytes of one exchange.
--
-- What an exchange has from a position on are its bytes there, behind which none of it stands (`front`); there is one
-- such list (`front-unique`). So the first stretch is the longest (`stretch-longest`, `stretch-only`). A put changes no
-- stretch that begins behind it, or is of another exchange (`stretch-behind`, `stretch-of_other`). A stretch that
-- reaches the bytes put has the work: it goes on through those to what stands behind (`bytes-reaching`).
use Rattle.std.{proofs.{Common.{◌≡◌, ◌≢◌, inl, inr, ℕ, zero, suc, ◌+◌, ◌-◌, ◌<◌, ◌≤◌, List, [], ◌∷◌, ◌++◌, length, true, false, eqb, Option, Some, None, refl, sym, ap, ◌∙◌, arith, get_or, take, zero-add, append_assoc}, lemmas.Bool.Decides.{nat_tests, eqb_tells}}, specs.Prelude.{◌↔◌, IfSome}}
use Rattle.hc_text.proofs.Basics.{lt_or as split}
use Rattle.hc_sparse.specs.{Cells.{Cells, Cell, AreOf, AreAbsent, cells_with}, Stretch.{bytes_from, goes_on, stretch, stretch_of, IsLongest}, declared.run.Run.{Run}}
use Rattle.hc_sparse.proofs.CellLemmas.{inside-yes, inside-before, inside-past, inside-cases}

-- Bytes of x that stand one after another.
pub bytes-append : (f : Cells) (x : ℕ) (bytes : List ℕ) (p m : ℕ) →
    ((i : ℕ) → i < length bytes → f (p + i) ≡ Some (record { byte = get_or bytes i 0; x = x })) → bytes_from f x p (length bytes + m) ≡ bytes ++
    bytes_from f x (p + length bytes) m
bytes-append f x [] p m h = rw (zero-add m) (let e : p + 0 ≡ p = omega arith in rw e refl)
bytes-append f x (b ∷ bs) p m h =
    let more : length (b ∷ bs) + m ≡ suc (length bs + m) = omega arith in
    let ends : p + length (b ∷ bs) ≡ p + 1 + length bs = omega arith in
    let same : eqb x x ≡ true = grind (arith, nat_tests) in
    let rest = bytes-append f x bs (p + 1) m (λ i lt. let e : p + 1 + i ≡ p + suc i = omega arith in rw e (h (suc i) (omega arith))) in
    rw (more, (let e : p + 0 ≡ p = omega arith in rw e at (h 0 (omega arith))), same, ends, rest) refl

-- Bytes of x from p on, at most n, behind which none of x stands where there are fewer.
pub record IsPrefix (f : Cells) (x p n : ℕ) (bytes : List ℕ) : Type 0 where
  pub most : length bytes ≤ n
  pub each : (i : ℕ) → i < length bytes → f (p + i) ≡ Some (record { byte = get_or bytes i 0; x = x })
  pub ends : length bytes < n → (byte : ℕ) → f (p + length bytes) ≢ Some (record { byte = byte; x = x })

cell-of : (cell : Cell) (x : ℕ) → cell.x ≡ x → cell ≡ record { byte = cell.byte; x = x }
cell-of cell x same = rw (← same) refl

front-of : (f : Cells) (x p n : ℕ) (rest : List ℕ) → IsPrefix f x (p + 1) n rest → (o : Option Cell) → f p ≡ o → IsPrefix f x p (suc n) (goes_on x o rest)
front-of f x p n rest front o e = grind (arith, nat_tests)

pub front : (f : Cells) (x p n : ℕ) → IsPrefix f x p n (bytes_from f x p n)
front f x p zero = record { most = omega arith; each = λ i lt. absurd (omega arith); ends = λ lt. absurd (omega arith) }
front f x p (suc n) = front-of f x p n (bytes_from f x (p + 1) n) (front f x (p + 1) n) (f p) refl

-- There is one such list.
first-of : (f : Cells) (x p n : ℕ) (o : Option Cell) (rest : List ℕ) → f p ≡ o → IsPrefix f x p (suc n) [] → goes_on x o rest ≡ []
first-of f x p n None rest e is = refl
first-of f x p n (Some cell) rest e is = elim (eqb_tells cell.x x) [
  | inr off ↦ rw off.0 refl
  | inl same ↦ absurd (is.ends (omega arith) cell.byte (let at-p : p + 0 ≡ p = omega arith in rw at-p (e ∙ ap Some (cell-of cell x same.1))))
]

pub front-unique : (f : Cells) (x p n : ℕ) (bytes : List ℕ) → IsPrefix f x p n bytes → bytes_from f x p n ≡ bytes
front-unique f x p zero [] is = refl
front-unique f x p zero (b ∷ bs) is = absurd (let most = is.most in omega arith)
front-unique f x p (suc n) [] is = first-of f x p n (f p) (bytes_from f x (p + 1) n) refl is
front-unique f x p (suc n) (b ∷ bs) is =
    let same : eqb x x ≡ true = grind (arith, nat_tests) in
    let rest : bytes_from f x (p + 1) n ≡ bs = front-unique f x (p + 1) n bs (record {
      most = let most = is.most in omega arith;
      each = λ i lt. let at-next : p + 1 + i ≡ p + suc i = omega arith in rw at-next (is.each (suc i) (omega arith));
      ends = λ lt byte there. is.ends (omega arith) byte (let at-next : p + suc (length bs) ≡ p + 1 + length bs = omega arith in rw at-next there);
    }) in
    rw ((let at-p : p + 0 ≡ p = omega arith in rw at-p at (is.each 0 (omega arith))), same, rest) refl

-- Fewer bytes are the first of more.
front-take : (x n : ℕ) (o : Option Cell) (rest : List ℕ) → take (suc n) (goes_on x o rest) ≡ goes_on x o (take n rest)
front-take x n o rest = grind (arith, nat_tests)

pub bytes-take : (f : Cells) (x p n m : ℕ) → n ≤ m → take n (bytes_from f x p m) ≡ bytes_from f x p n
bytes-take f x p zero m le = refl
bytes-take f x p (suc n) zero le = absurd (omega arith)
bytes-take f x p (suc n) (suc m) le = front-take x n (f p) (bytes_from f x (p + 1) m) ∙ ap (goes_on x (f p)) (bytes-take f x (p + 1) n m (omega arith))

-- Bytes from p on are those of what is at p or past it.
pub bytes-same : (f g : Cells) (x p n : ℕ) → ((q : ℕ) → p ≤ q → f q ≡ g q) → bytes_from f x p n ≡ bytes_from g x p n
bytes-same f g x p zero same = refl
bytes-same f g x p (suc n) same = rw (same p (omega arith), bytes-same f g x (p + 1) n (λ q le. same q (omega arith))) refl

absent-of : (f : Cells) (p want : ℕ) (o : Option Cell) → (stretch_of f p want o ≡ None) ↔ (o ≡ None)
absent-of f p want o = grind (arith, nat_tests)

pub stretch-absent : (f : Cells) (p want : ℕ) → (stretch f p want ≡ None) ↔ (f p ≡ None)
unfolding stretch
stretch-absent f p want = absent-of f p want (f p)

some-there : (f : Cells) (p want : ℕ) (cell : Cell) → f p ≡ Some cell → 0 < want → 0 < length (bytes_from f cell.x p want)
some-there f p want cell here some = grind (arith, nat_tests)

longest-of : (f : Cells) (p want : ℕ) (o : Option Cell) → f p ≡ o → 0 < want → IfSome (stretch_of f p want o) (λ run. IsLongest f p want run)
longest-of f p want o here some = search (arith, front, some-there)

pub stretch-longest : (f : Cells) (p want : ℕ) → 0 < want → IfSome (stretch f p want) (λ run. IsLongest f p want run)
unfolding stretch
stretch-longest f p want some = longest-of f p want (f p) refl some

pub stretch-only : (f : Cells) (p want : ℕ) (run : Run) → IsLongest f p want run → stretch f p want ≡ Some run
unfolding stretch
stretch-only f p want run is = search (arith, bytes_from, front-unique)

-- What a put changes.
same-of : (f g : Cells) (p want : ℕ) (o : Option Cell) → ((cell : Cell) → o ≡ Some cell → bytes_from g cell.x p want ≡ bytes_from f cell.x p want) →
    stretch_of g p want o ≡ stretch_of f p want o
same-of f g p want o same = grind (arith, nat_tests)

pub stretch-behind : (f : Cells) (at x : ℕ) (bytes : List ℕ) (p want : ℕ) → at + length bytes ≤ p → stretch (cells_with at x bytes f) p want ≡ stretch f p want
unfolding stretch
stretch-behind f at x bytes p want past = search (arith, inside-past, same-of, bytes-same)

bytes-of_other : (f : Cells) (at x y : ℕ) (bytes : List ℕ) (p n : ℕ) → AreAbsent f at (at + length bytes) → y ≢ x →
    bytes_from (cells_with at x bytes f) y p n ≡ bytes_from f y p n
bytes-of_other f at x y bytes p zero absent other = refl
bytes-of_other f at x y bytes p (suc n) absent other = elim (inside-cases at (length bytes) p) [
  | inl here ↦ let off : eqb x y ≡ false = grind (arith, nat_tests) in rw (here.0, absent p here.1 here.2, off) refl
  | inr out ↦ rw (out.0, bytes-of_other f at x y bytes (p + 1) n absent other) refl
]

pub stretch-of_other : (f : Cells) (at x : ℕ) (bytes : List ℕ) (p want : ℕ) (cell : Cell) → AreAbsent f at (at + length bytes) → f p ≡ Some cell →
    cell.x ≢ x → stretch (cells_with at x bytes f) p want ≡ stretch f p want
unfolding stretch
stretch-of_other f at x bytes p want cell absent here other = search (arith, inside-cases, bytes-of_other)

reached-length : (f : Cells) (x p at : ℕ) → p ≤ at → AreOf x f p at → length (bytes_from f x p (at - p)) ≡ at - p
reached-length f x p at le of_x =
    let is = front f x p (at - p) in
    elim (split (length (bytes_from f x p (at - p))) (at - p)) [
      | inr all ↦ omega arith
      | inl less ↦ absurd (let there = of_x (p + length (bytes_from f x p (at - p))) (omega arith) (omega arith) in is.ends less there.0 there.1)
    ]

pub bytes-reaching : (f : Cells) (at x : ℕ) (bytes : List ℕ) (p want : ℕ) → p ≤ at → AreOf x f p at →
    bytes_from (cells_with at x bytes f) x p want ≡ take want (bytes_from f x p (at - p) ++ bytes ++ bytes_from f x (at + length bytes) want)
bytes-reaching f at x bytes p want le of_x =
    let g : Cells = cells_with at x bytes f in
    let up-to : List ℕ = bytes_from f x p (at - p) in
    let len : length up-to ≡ at - p = reached-length f x p at le of_x in
    let before : bytes_from g x p (length up-to + (length bytes + want)) ≡ up-to ++ bytes_from g x (p + length up-to) (length bytes + want) =
    bytes-append g x up-to p (length bytes + want) (λ i lt.
    rw (inside-before at (length bytes) (p + i) (omega arith)) ((front f x p (at - p)).each i lt)) in
    let put : bytes_from g x at (length bytes + want) ≡ bytes ++ bytes_from g x (at + length bytes) want = bytes-append g x bytes at want (λ i lt.
    let place : at + i - at ≡ i = omega arith in
    rw (inside-yes at (length bytes) (at + i) (omega arith) (omega arith), place) refl) in
    let behind : bytes_from g x (at + length bytes) want ≡ bytes_from f x (at + length bytes) want =
    bytes-same g f x (at + length bytes) want (λ q ge. rw (inside-past at (length bytes) q ge) refl) in
    let joint : p + length up-to ≡ at = omega arith in
    sym (bytes-take g x p want (length up-to + (length bytes + want)) (omega arith)) ∙ ap (take want) (before ∙ rw (joint, put, behind) (simp append_assoc))

here-of : (f : Cells) (at x : ℕ) (bytes : List ℕ) (p : ℕ) → 0 < length bytes → p ≤ at → AreOf x f p at → (byte : ℕ) ×
    (cells_with at x bytes f p ≡ Some (record { byte = byte; x = x }))
here-of f at x bytes p some le of_x = elim (split p at) [
  | inl before ↦ let there = of_x p (omega arith) before in (there.0, rw (inside-before at (length bytes) p before) there.1)
  | inr is ↦ (get_or bytes (p - at) 0, rw (inside-yes at (length bytes) p is (omega arith)) refl)
]

pub stretch-reaching : (f : Cells) (at x : ℕ) (bytes : List ℕ) (p want : ℕ) → 0 < length bytes → p ≤ at → AreOf x f p at →
    stretch (cells_with at x bytes f) p want ≡ Some
    (record { x = x; at = p; bytes = take want (bytes_from f x p (at - p) ++ bytes ++ bytes_from f x (at + length bytes) want) })
unfolding stretch
stretch-reaching f at x bytes p want some le of_x =
    let here = here-of f at x bytes p some le of_x in
    ap (stretch_of (cells_with at x bytes f) p want) here.1 ∙ rw (bytes-reaching f at x bytes p want le of_x) refl
