-- Bytes in a queue of pieces.
use Rattle.std.{proofs.{Common.{◌≡◌, ℕ, zero, suc, ◌+◌, ◌-◌, ◌<◌, ◌≤◌, List, [], ◌∷◌, ◌++◌, length, take, drop, refl, sym, ap, ◌∙◌, inl, inr, arith, append_assoc, length-append, length-drop}, lemmas.{List.{drop-append-le, take-append-le, append-nil}, Bool.{cases_lt}}, Math.Seq.{take-length}}, specs.Prelude.{min}}
use Rattle.hc_text.proofs.Basics.{drop-whole}
use Rattle.hc_exch.specs.Pieces.{bytes_of_pieces, first_length, IsCounted, TakesPrefix}

drop-none : (n : ℕ) → drop n (let e : List ℕ = [] in e) ≡ []
drop-none zero = refl
drop-none (suc n) = refl

-- where bytes are left, a piece is
pub some_left : (pieces : List (List ℕ)) (read : ℕ) (taken all : List ℕ) (count : ℕ) → taken ++ drop read (bytes_of_pieces pieces) ≡ all
    → length taken < count → count ≤ length all → 0 < length pieces
some_left [] read taken all count is few there =
    absurd (let same : length all ≡ length taken = sym (ap length is) ∙
    (ap (λ (l : List ℕ). length (taken ++ l)) (drop-none read) ∙ ap length (append-nil taken)) in omega arith)
some_left (piece ∷ pieces) read taken all count is few there = omega arith

-- what is taken, where it is as long as it is to be
pub taken_is : (taken rest all : List ℕ) (count : ℕ) → taken ++ rest ≡ all → length taken ≡ count → taken ≡ take count all
taken_is taken rest all count is len =
    sym (rw (← is, ← len) (take-append-le (length taken) taken rest (omega arith) ∙ take-length taken))

pub rest_is : (taken rest all : List ℕ) (count : ℕ) → taken ++ rest ≡ all → length taken ≡ count → rest ≡ drop count all
rest_is taken rest all count is len = sym (rw (← is, ← len) (drop-whole taken rest))

joined-append : (xs ys : List (List ℕ)) → bytes_of_pieces (xs ++ ys) ≡ bytes_of_pieces xs ++ bytes_of_pieces ys
joined-append [] ys = refl
joined-append (x ∷ xs) ys = ap (λ (l : List ℕ). x ++ l) (joined-append xs ys) ∙ sym (append_assoc x (bytes_of_pieces xs) (bytes_of_pieces ys))

-- a piece more at the end
pub joined-push : (pieces : List (List ℕ)) (piece : List ℕ) → bytes_of_pieces (pieces ++ piece ∷ []) ≡ bytes_of_pieces pieces ++ piece
joined-push pieces piece = joined-append pieces (piece ∷ []) ∙ ap (λ (l : List ℕ). bytes_of_pieces pieces ++ l) (append-nil piece)

first-push : (pieces : List (List ℕ)) (piece : List ℕ) (read : ℕ) → read ≤ first_length pieces → read ≤ first_length (pieces ++ piece ∷ [])
first-push [] piece read le = omega arith
first-push (p ∷ pieces) piece read le = le

first-joined : (pieces : List (List ℕ)) → first_length pieces ≤ length (bytes_of_pieces pieces)
first-joined [] = omega arith
first-joined (p ∷ pieces) = let h = length-append p (bytes_of_pieces pieces) in omega arith

pub IsCounted-push : (pieces : List (List ℕ)) (read left : ℕ) (piece : List ℕ) (now : List (List ℕ)) (count : ℕ) → IsCounted pieces read left →
    now ≡ pieces ++ piece ∷ []
    → length piece ≡ count → IsCounted now read (left + count)
IsCounted-push pieces read left piece now count h is len =
    record {
      all = rw (is, joined-push pieces piece, length-append (bytes_of_pieces pieces) piece) (let all = h.all in omega arith);
      front = rw is (first-push pieces piece read h.front);
    }

pub view-push : (pieces : List (List ℕ)) (read : ℕ) (piece : List ℕ) (now : List (List ℕ)) → read ≤ first_length pieces → now ≡ pieces ++ piece ∷ []
    → drop read (bytes_of_pieces now) ≡ drop read (bytes_of_pieces pieces) ++ piece
view-push pieces read piece now le is =
    rw (is, joined-push pieces piece) (drop-append-le read (bytes_of_pieces pieces) piece (let h = first-joined pieces in omega arith))

take_past : (v : List ℕ) (n : ℕ) → length v ≤ n → take n v ≡ v
take_past [] zero le = refl
take_past [] (suc n) le = refl
take_past (x ∷ v) zero le = absurd (omega arith)
take_past (x ∷ v) (suc n) le = ap (λ (l : List ℕ). x ∷ l) (take_past v n (omega arith))

drop_past : (v : List ℕ) (n : ℕ) → length v ≤ n → drop n v ≡ []
drop_past [] zero le = refl
drop_past [] (suc n) le = refl
drop_past (x ∷ v) zero le = absurd (omega arith)
drop_past (x ∷ v) (suc n) le = drop_past v n (omega arith)

-- not more than there are
pub take-min : (v : List ℕ) (n : ℕ) → take (min n (length v)) v ≡ take n v
take-min v n = elim (cases_lt n (length v)) [
  | inl few ↦ let least : min n (length v) ≡ n = omega arith in rw least refl
  | inr all ↦ let least : min n (length v) ≡ length v = omega arith in rw least (take_past v (length v) (omega arith) ∙ sym (take_past v n all))
]

pub drop-min : (v : List ℕ) (n : ℕ) → drop (min n (length v)) v ≡ drop n v
drop-min v n = elim (cases_lt n (length v)) [
  | inl few ↦ let least : min n (length v) ≡ n = omega arith in rw least refl
  | inr all ↦ let least : min n (length v) ≡ length v = omega arith in rw least (drop_past v (length v) (omega arith) ∙ sym (drop_past v n all))
]

pub length-view : (pieces : List (List ℕ)) (read left : ℕ) → IsCounted pieces read left → length (drop read (bytes_of_pieces pieces)) ≡ left
length-view pieces read left h = let all = h.all in let len = length-drop read (bytes_of_pieces pieces) in omega arith

-- what is counted after so many bytes were taken
pub IsCounted-take : (pieces now : List (List ℕ)) (read left count next : ℕ) (taken : List ℕ) → IsCounted pieces read left → count ≤ left
    → TakesPrefix count (drop read (bytes_of_pieces pieces)) now taken next → IsCounted now next (left - count)
IsCounted-take pieces now read left count next taken h few took =
    let before = length-view pieces read left h in
    let after : length (drop next (bytes_of_pieces now)) ≡ length (drop count (drop read (bytes_of_pieces pieces))) = ap length took.rest in
    let a = length-drop next (bytes_of_pieces now) in
    let b = length-drop count (drop read (bytes_of_pieces pieces)) in
    let front = took.front in
    let whole = first-joined now in
    record { all = omega arith; front = front }
