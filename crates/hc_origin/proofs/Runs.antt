-- The bytes of the representations repeat after 26.
--
-- A part of a run of positions is a run of positions, and what stands at two runs is the same where their first
-- positions leave the same remainder by 26. So the part of the letters that begins at a remainder is what stands from
-- any position with it on.
use Rattle.std.{proofs.{Common.{◌≡◌, ℕ, suc, zero, ◌+◌, ◌-◌, ◌<◌, ◌≤◌, List, [], ◌∷◌, ◌++◌, length, take, drop, refl, sym, ap, ◌∙◌, arith, length-append, length-drop}, lemmas.List.{drop-drop, drop_all, FromFn.{length-map-range_with_len, take-map-range_with_len, map-range_with_len_more}}}, specs.{Prelude.{◌%◌, map, min}, List.{range_with_len}}}
use Rattle.hc_validate.specs.Origin.{origin_byte}
use Rattle.hc_origin.specs.{Answering.{bytes_between}, Replies.{AreLetters, IsPiece}}

pub run : ℕ → ℕ → List ℕ
run a n = map origin_byte (range_with_len a n)

run-behind : (m a n : ℕ) → m ≤ n → drop m (map origin_byte (range_with_len a n)) ≡ map origin_byte (range_with_len (a + m) (n - m))
run-behind zero a n le =
    let here : a ≡ a + 0 = omega arith in
    let all : n ≡ n - 0 = omega arith in
    ap (λ (x : ℕ). map origin_byte (range_with_len x n)) here ∙ ap (λ (x : ℕ). map origin_byte (range_with_len (a + 0) x)) all
run-behind (suc m) a zero le = absurd (omega (arith, le))
run-behind (suc m) a (suc n) le =
    let place : a + 1 + m ≡ a + suc m = omega arith in
    let left : n - m ≡ suc n - suc m = omega arith in
    run-behind m (a + 1) n (omega (arith, le))
    ∙ (ap (λ (x : ℕ). map origin_byte (range_with_len x (n - m))) place ∙ ap (λ (x : ℕ). map origin_byte (range_with_len (a + suc m) x)) left)

next_same : (a b : ℕ) → a % 26 ≡ b % 26 → (a + 1) % 26 ≡ (b + 1) % 26
next_same a b is = omega (arith, is)

run-shift : (n a b : ℕ) → a % 26 ≡ b % 26 → map origin_byte (range_with_len a n) ≡ map origin_byte (range_with_len b n)
run-shift zero a b is = refl
run-shift (suc n) a b is =
    let rest = run-shift n (a + 1) (b + 1) (next_same a b is) in
    let first : 97 + a % 26 ≡ 97 + b % 26 = ap (λ (x : ℕ). 97 + x) is in
    ap (λ (x : ℕ). x ∷ map origin_byte (range_with_len (a + 1) n)) first ∙ ap (λ (l : List ℕ). (97 + b % 26) ∷ l) rest

-- one letter more
pub letters-more : (bytes more : List ℕ) (n b : ℕ) → bytes ≡ bytes_between 0 n → more ≡ bytes ++ b ∷ [] → b ≡ origin_byte n → more ≡ bytes_between 0 (n + 1)
letters-more bytes more n b is added byte =
    let all : n + 1 - 0 ≡ (n - 0) + 1 = omega arith in
    let last : 0 + (n - 0) ≡ n = omega arith in
    added ∙ (ap (λ (l : List ℕ). l ++ b ∷ []) is ∙ (ap (λ (x : ℕ). bytes_between 0 n ++ x ∷ []) byte
    ∙ (sym (map-range_with_len_more origin_byte 0 (n - 0) n last) ∙ ap (λ (x : ℕ). map origin_byte (range_with_len 0 x)) (sym all))))

pub all-letters : (bytes : List ℕ) (n : ℕ) → bytes ≡ bytes_between 0 n → n ≡ 16410 → AreLetters bytes
all-letters bytes n is all =
    let len : length bytes ≡ n = ap length is ∙ (length-map-range_with_len origin_byte 0 (n - 0) ∙ omega arith) in
    record { are = is ∙ ap (λ (x : ℕ). bytes_between 0 x) (sym len); all = len ∙ all }

-- the part of the letters that begins at a remainder
pub letters-from : (letters piece : List ℕ) (next end from len : ℕ) → AreLetters letters → from ≡ next % 26 → len ≡ min (end - next) 16384
    → piece ≡ take len (drop from letters) → IsPiece (bytes_between next end) piece
letters-from letters piece next end from len are at most is =
    let size : length letters ≡ 16410 = are.all in
    let low : next % 26 < 26 = omega arith in
    let fits : len ≤ length letters - 0 - from = omega arith in
    let within : from ≤ length letters - 0 = omega arith in
    let all : drop from letters ≡ map origin_byte (range_with_len (0 + from) (length letters - 0 - from)) = ap (drop from) are.are ∙
    run-behind from 0 (length letters - 0) within in
    let cut : piece ≡ map origin_byte (range_with_len (0 + from) len) = is ∙
    (ap (take len) all ∙ take-map-range_with_len origin_byte (0 + from) (length letters - 0 - from) len fits) in
    let same : (0 + from) % 26 ≡ next % 26 = omega (arith, at) in
    let moved : piece ≡ map origin_byte (range_with_len next len) = cut ∙ run-shift len (0 + from) next same in
    let count : length piece ≡ len = ap length moved ∙ length-map-range_with_len origin_byte next len in
    let part : take len (map origin_byte (range_with_len next (end - next))) ≡ map origin_byte (range_with_len next len) =
    take-map-range_with_len origin_byte next (end - next) len (omega (arith, most)) in
    record {
      front = moved ∙ (sym part ∙ ap (λ (x : ℕ). take x (bytes_between next end)) (sym count));
      some = λ none.
          let nothing : end - next ≡ 0 = omega (arith, most, count, none) in
          ap (λ (x : ℕ). map origin_byte (range_with_len next x)) nothing;
    }

-- the same, as the code cuts it
pub letters-part : (letters now : List ℕ) (next end len : ℕ) → AreLetters letters → len ≡ min (end - next) 16384 → now ≡ letters
    → IsPiece (bytes_between next end) (take (next % 26 + len - next % 26) (drop (next % 26) now))
letters-part letters now next end len are most is =
    let count : next % 26 + len - next % 26 ≡ len = omega arith in
    letters-from letters (take (next % 26 + len - next % 26) (drop (next % 26) now)) next end (next % 26) len are refl most
    (ap (λ (n : ℕ). take n (drop (next % 26) now)) count ∙ ap (λ (l : List ℕ). take len (drop (next % 26) l)) is)

-- SKIPPED

pub skip-within : (head : List ℕ) (used next end n of_head : ℕ) → of_head ≡ min n (length head - used) → n ≤ length (drop used head ++ bytes_between next end)
    → n - of_head ≤ end - next
skip-within head used next end n of_head is le =
    let len = length-append (drop used head) (bytes_between next end) in
    let left = length-drop used head in
    let of_body = length-map-range_with_len origin_byte next (end - next) in
    omega arith

drop-least : (n : ℕ) (xs : List ℕ) → drop (min n (length xs)) xs ≡ drop n xs
drop-least zero xs = let none : min zero (length xs) ≡ zero = omega arith in ap (λ (m : ℕ). drop m xs) none
drop-least (suc n) [] = drop_all (min (suc n) 0) [] (omega arith)
drop-least (suc n) (x ∷ xs) =
    let one : min (suc n) (suc (length xs)) ≡ suc (min n (length xs)) = omega arith in
    ap (λ (m : ℕ). drop m (x ∷ xs)) one ∙ drop-least n xs

body-behind : (m next end : ℕ) → m ≤ end - next → drop m (bytes_between next end) ≡ bytes_between (next + m) end
body-behind m next end le =
    let left : end - next - m ≡ end - (next + m) = omega arith in
    run-behind m next (end - next) le ∙ ap (λ (x : ℕ). map origin_byte (range_with_len (next + m) x)) left

drop-both : (n : ℕ) (xs ys : List ℕ) → drop n (xs ++ ys) ≡ drop n xs ++ drop (n - length xs) ys
drop-both n [] ys =
    let all : n ≡ n - 0 = omega arith in
    ap (λ (m : ℕ). drop m ys) all ∙ sym (ap (λ (l : List ℕ). l ++ drop (n - 0) ys) (drop_all n [] (omega arith)))
drop-both zero (x ∷ xs) ys = let none : zero ≡ zero - suc (length xs) = omega arith in ap (λ (m : ℕ). x ∷ (xs ++ drop m ys)) none
drop-both (suc n) (x ∷ xs) ys = let same : n - length xs ≡ suc n - suc (length xs) = omega arith in drop-both n xs ys ∙
    ap (λ (m : ℕ). drop n xs ++ drop m ys) same

pub skip-drops : (head : List ℕ) (used next end n of_head : ℕ) → used ≤ length head → of_head ≡ min n (length head - used) →
    n ≤ length (drop used head ++ bytes_between next end)
    → drop (used + of_head) head ++ bytes_between (next + (n - of_head)) end ≡ drop n (drop used head ++ bytes_between next end)
skip-drops head used next end n of_head within is le =
    let len = length-append (drop used head) (bytes_between next end) in
    let left : length (drop used head) ≡ length head - used = length-drop used head in
    let of_body = length-map-range_with_len origin_byte next (end - next) in
    let least : of_head ≡ min n (length (drop used head)) = omega arith in
    let behind : n - length (drop used head) ≡ n - of_head = omega arith in
    let fits : n - of_head ≤ end - next = omega arith in
    let first : drop n (drop used head) ≡ drop (used + of_head) head =
    sym (drop-least n (drop used head)) ∙ (ap (λ (m : ℕ). drop m (drop used head)) (sym least) ∙ drop-drop of_head used head) in
    sym (drop-both n (drop used head) (bytes_between next end)
    ∙ (ap (λ (l : List ℕ). l ++ drop (n - length (drop used head)) (bytes_between next end)) first
    ∙ (ap (λ (m : ℕ). drop (used + of_head) head ++ drop m (bytes_between next end)) behind
    ∙ ap (λ (l : List ℕ). drop (used + of_head) head ++ l) (body-behind (n - of_head) next end fits))))
