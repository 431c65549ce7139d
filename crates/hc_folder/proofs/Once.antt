-- A text begins with one block at most.
use Rattle.std.proofs.Common.{◌≡◌, ℕ, ◌<◌, ◌^◌, List, [], ◌∷◌, ◌++◌, length, drop, get_or, refl, ap, sym, ◌∙◌, arith, append_assoc}
use Rattle.hc_folder.specs.{Sums.{number_bytes}, Blocks.{head_of, block, sum_after}}
use Rattle.hc_folder.proofs.Lengths.{length-number_bytes, number_once, length-sum, length-head}

-- what stands before and behind a place
pub halves_once : (p q x y : List ℕ) → length p ≡ length q → p ++ x ≡ q ++ y → (p ≡ q) × (x ≡ y)
halves_once [] [] x y same is = (refl, is)
halves_once [] (b ∷ q) x y same is = absurd (omega arith)
halves_once (a ∷ p) [] x y same is = absurd (omega arith)
halves_once (a ∷ p) (b ∷ q) x y same is =
    let rest = halves_once p q x y (omega arith) (ap (λ l. drop 1 l) is) in
    let first : a ≡ b = ap (λ l. get_or l 0 0) is in
    (λ i. first i ∷ rest.0 i, rest.1)

pub head_once : (sum : List ℕ) (a b : ℕ) (x y : List ℕ) → a < 2 ^ 64 → b < 2 ^ 64 → head_of sum a ++ x ≡ head_of sum b ++ y → (a ≡ b) × (x ≡ y)
unfolding head_of
head_once sum a b x y small_a small_b is =
    let heads = halves_once (head_of sum a) (head_of sum b) x y (length-head sum a ∙ sym (length-head sum b)) is in
    let numbers = halves_once (number_bytes a) (number_bytes b) _ _ (length-number_bytes a ∙ sym (length-number_bytes b)) heads.0 in
    (number_once a b small_a small_b numbers.0, heads.1)

-- what stands behind a head
pub behind_head : (sum t x : List ℕ) (n : ℕ) (y : List ℕ) → length t < 2 ^ 64 → n < 2 ^ 64 → block sum t ++ x ≡ head_of sum n ++ y
    → (length t ≡ n) × (t ++ (sum_after sum t ++ x) ≡ y)
behind_head sum t x n y short small is =
    let same = head_once sum (length t) n ((t ++ sum_after sum t) ++ x) y short small
    (sym (append_assoc (head_of sum (length t)) (t ++ sum_after sum t) x) ∙ is) in
    (same.0, sym (append_assoc t (sum_after sum t) x) ∙ same.1)

pub block_once : (sum a b x y : List ℕ) → length a < 2 ^ 64 → length b < 2 ^ 64 → block sum a ++ x ≡ block sum b ++ y → (a ≡ b) × (x ≡ y)
block_once sum a b x y short_a short_b is =
    let behind = behind_head sum a x (length b) ((b ++ sum_after sum b) ++ y) short_a short_b
    (is ∙ append_assoc (head_of sum (length b)) (b ++ sum_after sum b) y) in
    let texts = halves_once a b (sum_after sum a ++ x) (sum_after sum b ++ y) behind.0 (behind.1 ∙ append_assoc b (sum_after sum b) y) in
    let ends = halves_once (sum_after sum a) (sum_after sum b) x y (length-sum sum (length a) a ∙ sym (length-sum sum (length b) b)) texts.1 in
    (texts.0, ends.1)
