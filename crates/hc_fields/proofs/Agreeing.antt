-- What is left of joined values, piece by piece.
use Rattle.std.{proofs.{Common.{◌≡◌, ℕ, suc, ◌+◌, ◌<◌, List, [], ◌∷◌, ◌++◌, length, drop, take, get_or, refl, sym, ap, ◌∙◌, ◌≢◌, ◌≤◌, ◌↔◌, append_assoc, add-one, Bool, true, false, not, inl, inr}, lemmas.{Bool.{both_ways, cases_Bool}, Slice.Eq.{bytes_eq-Decides}, List.{take-append-drop, take-append-le, append_cancel_left}, Option.{slice_get-get_or}}, Math.Seq.{drop-cons}}, specs.Prelude.{bytes_eq, codes, slice_get, Option, Some, None}}
use Rattle.hc_fields.specs.Agreement.{left_of}

-- what separates two values, and the value behind it
pub next_piece : (values : List (List ℕ)) (i : ℕ) (value : Option (List ℕ)) → i < length values → value ≡ slice_get values i
    → left_of (codes ", ") value (drop (i + 1) values) ≡ left_of [] None (drop i values)
next_piece values i value within is =
    let first = get_or values i [] in
    let said : slice_get values i ≡ Some first = slice_get-get_or values i [] within in
    let rest : drop i values ≡ first ∷ drop (suc i) values = drop-cons values i [] within in
    rw (is, said, rest, add-one) (rw append_assoc refl)

-- what is left begins with as many bytes of the piece
split : (n : ℕ) (rest tail : List ℕ) → rest ++ tail ≡ take n rest ++ (drop n rest ++ tail)
split n rest tail = ap (λ (r : List ℕ). r ++ tail) (sym (take-append-drop n rest)) ∙ append_assoc (take n rest) (drop n rest) tail

-- behind equal bytes the same is left
pub same_behind : (n : ℕ) (a b x y : List ℕ) → take n a ≡ take n b → (drop n a ++ x ≡ drop n b ++ y) ↔ (a ++ x ≡ b ++ y)
same_behind n a b x y same = (
  λ e. split n a x ∙ ap (λ (t : List ℕ). t ++ (drop n a ++ x)) same ∙ ap (λ (t : List ℕ). take n b ++ t) e ∙ sym (split n b y),
  λ e. append_cancel_left (take n b) (drop n a ++ x) (drop n b ++ y)
      (ap (λ (t : List ℕ). t ++ (drop n a ++ x)) (sym same) ∙ sym (split n a x) ∙ e ∙ split n b y),
)

-- other bytes aren't the same
pub differ : (n : ℕ) (a b x y : List ℕ) → n ≤ length a → n ≤ length b → take n a ≢ take n b → a ++ x ≢ b ++ y
differ n a b x y in_a in_b other same =
    other (sym (take-append-le n a x in_a) ∙ ap (take n) same ∙ take-append-le n b y in_b)

pub same_from : (a b : List ℕ) (test : Bool) → test ≡ not (bytes_eq a b) → test ≡ false → a ≡ b
same_from a b test is denied = elim (cases_Bool (bytes_eq a b)) [
  | inl passes ↦ (bytes_eq-Decides a b).0 passes
  | inr fails ↦ absurd (both_ways test denied (is ∙ ap not fails))
]

pub other_from : (a b : List ℕ) (test : Bool) → test ≡ not (bytes_eq a b) → test ≡ true → a ≢ b
other_from a b test is passed same = both_ways test (is ∙ ap not ((bytes_eq-Decides a b).1 same)) passed
