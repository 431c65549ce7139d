-- A name that is lowered and compared byte by byte.
use Rattle.std.{proofs.{Common.{◌≡◌, ◌≢◌, ℕ, zero, suc, ◌+◌, ◌<◌, ap, sym, ◌∙◌, true, false, List, Ordering, [], ◌∷◌, length, drop, get_or, refl, arith}, lemmas.{Bool.{false_from_ne_true, Decides.{nat_tests}}, List.{length-map, get_or-map, ext_get_or}, Slice.Eq.{bytes_eq-Decides}}, Math.Seq.{drop-cons}}, specs.{Prelude.{min, bytes_eq}, Ordering.{nat_cmp, ordering_then, is_ne}, declared.cmp.Ordering.TheVariants.{Less, Equal, Greater}, Cmp.Lexicographic.{slice_cmp}, Char.{to_ascii_lowercase}}}
use Rattle.http_header.specs.Token.{lowercase}

-- where the bytes at a place differ they decide
pub decides : (o rest : Ordering) → is_ne o ≡ true → ordering_then o rest ≡ o
decides Less rest h = refl
decides Equal rest h = cc
decides Greater rest h = refl

-- and where they don't, what follows does
pub defers : (o rest : Ordering) → is_ne o ≡ false → ordering_then o rest ≡ rest
defers Less rest h = cc
defers Equal rest h = refl
defers Greater rest h = cc

-- a lowered byte and its counterpart decide, and else what follows them
pub lowered_at : (name bytes : List ℕ) (i : ℕ) (o : Ordering) → i < length name → i < length bytes →
    o ≡ nat_cmp (to_ascii_lowercase (get_or name i 0)) (get_or bytes i 0) → slice_cmp nat_cmp (drop i (lowercase name)) (drop i bytes) ≡ ordering_then
    o (slice_cmp nat_cmp (drop (i + 1) (lowercase name)) (drop (i + 1) bytes))
lowered_at name bytes i o name_lt bytes_lt is =
    let len = length-map name to_ascii_lowercase in
    let next : i + 1 ≡ suc i = omega arith in
    rw (
      next,
      drop-cons (lowercase name) i 0 (omega (arith, len, name_lt)),
      drop-cons bytes i 0 bytes_lt,
      get_or-map to_ascii_lowercase name i 0 0 name_lt,
      is,
    ) refl

nat_cmp-suc : (a b : ℕ) → nat_cmp a b ≡ nat_cmp (suc a) (suc b)
nat_cmp-suc a b = grind (arith, nat_tests)

-- where the shorter ends the lengths decide
compared_end : (xs ys : List ℕ) (i : ℕ) → i ≡ min (length xs) (length ys) → slice_cmp nat_cmp (drop i xs) (drop i ys) ≡ nat_cmp (length xs) (length ys)
compared_end [] [] zero e = refl
compared_end [] [] (suc i) e = absurd (omega arith)
compared_end [] (y ∷ ys) zero e = grind (arith, nat_tests)
compared_end [] (y ∷ ys) (suc i) e = absurd (omega arith)
compared_end (x ∷ xs) [] zero e = grind (arith, nat_tests)
compared_end (x ∷ xs) [] (suc i) e = absurd (omega arith)
compared_end (x ∷ xs) (y ∷ ys) zero e = absurd (omega arith)
compared_end (x ∷ xs) (y ∷ ys) (suc i) e = compared_end xs ys i (omega arith) ∙ nat_cmp-suc (length xs) (length ys)

pub lowered_end : (name bytes : List ℕ) (i : ℕ) → i ≡ min (length name) (length bytes) →
    slice_cmp nat_cmp (drop i (lowercase name)) (drop i bytes) ≡ nat_cmp (length name) (length bytes)
lowered_end name bytes i is =
    let len = length-map name to_ascii_lowercase in
    compared_end (lowercase name) bytes i (omega (arith, len, is)) ∙ ap (λ (n : ℕ). nat_cmp n (length bytes)) len

-- bytes that are each that of the lowered name are the name
pub lowered_same : (name bytes : List ℕ) → length name ≡ length bytes →
    ((k : ℕ) → k < length name → to_ascii_lowercase (get_or name k 0) ≡ get_or bytes k 0) → bytes_eq bytes (lowercase name) ≡ true
lowered_same name bytes len same =
    let lower = length-map name to_ascii_lowercase in
    (bytes_eq-Decides bytes (lowercase name)).1
    (ext_get_or 0 bytes (lowercase name) (omega (arith, lower, len))
    (λ k lt. let within : k < length name = omega (arith, lt, len) in
    sym (get_or-map to_ascii_lowercase name k 0 0 within ∙ same k within)))

-- bytes with another one aren't
pub lowered_other : (name bytes : List ℕ) (k : ℕ) → k < length name → to_ascii_lowercase (get_or name k 0) ≢ get_or bytes k 0 →
    bytes_eq bytes (lowercase name) ≡ false
lowered_other name bytes k lt other =
    false_from_ne_true _ (λ e.
    let same : bytes ≡ lowercase name = (bytes_eq-Decides bytes (lowercase name)).0 e in
    other (sym (get_or-map to_ascii_lowercase name k 0 0 lt) ∙ ap (λ (l : List ℕ). get_or l k 0) (sym same)))
