-- What stands first in a file.
use Rattle.std.proofs.Common.{◌≡◌, ◌≢◌, ℕ, ◌+◌, ◌<◌, ◌≤◌, ◌^◌, List, [], ◌++◌, length, refl, ap, sym, ◌∙◌, arith, length-append, append_assoc, inl, inr}
use Rattle.hc_folder.specs.{Sums.{number_bytes, sum_behind}, Blocks.{head_of, block, sum_after, IsCut, IsBroken}}
use Rattle.hc_folder.proofs.{Lengths.{length-number_bytes, number_once, length-sum, length-head}, Once.{halves_once, behind_head}}

-- a block is longer than its head
pub long_block : (sum t rest : List ℕ) → 24 ≤ length (block sum t ++ rest)
long_block sum t rest =
    omega (arith, length-append (block sum t) rest, length-append (head_of sum (length t)) (t ++ sum_after sum t), length-head sum (length t))

pub cut_head : (sum file : List ℕ) → length file < 24 → IsCut sum file
cut_head sum file less = record {
  none = (λ t rest short is. (let long = long_block sum t rest in let same = ap length is in omega (arith, long, same, less)));
  short = inl less;
}

-- a file that begins with a number, its sum, and more
module _ (sum file head behind number head_sum : List ℕ) (n : ℕ) (split : file ≡ head ++ behind) (again : head ≡ number ++ head_sum)
    (long : length head ≡ 24) (eight : length number ≡ 8) (small : n < 2 ^ 64) (is_number : number_bytes n ≡ number) where
  pub right_head : head_sum ≡ sum_behind sum n [] → head_of sum n ++ behind ≡ file
  unfolding head_of
  right_head right =
      let same : number_bytes n ++ sum_behind sum n [] ≡ head = (λ i. is_number i ++ sym right i) ∙ sym again in
      ap (λ l. l ++ behind) same ∙ sym split

  pub wrong_head : head_sum ≢ sum_behind sum n [] → IsBroken sum file
  unfolding head_of
  wrong_head wrong t rest more short is =
      let whole : head_of sum (length t) ++ ((t ++ sum_after sum t) ++ rest) ≡ head ++ (behind ++ more) =
      sym (append_assoc (head_of sum (length t)) (t ++ sum_after sum t) rest) ∙ is ∙ ap (λ l. l ++ more) split ∙ append_assoc head behind more in
      let heads = halves_once (head_of sum (length t)) head _ _ (length-head sum (length t) ∙ sym long) whole in
      let parts = halves_once (number_bytes (length t)) number (sum_behind sum (length t) []) head_sum
      (length-number_bytes (length t) ∙ sym eight) (heads.0 ∙ again) in
      let same : length t ≡ n = number_once (length t) n short small (parts.0 ∙ sym is_number) in
      wrong (sym parts.1 ∙ ap (λ k. sum_behind sum k []) same)

module _ (sum behind : List ℕ) (n : ℕ) (small : n < 2 ^ 64) where
  pub cut_text : length behind < n + 16 → IsCut sum (head_of sum n ++ behind)
  cut_text less = record {
    none = (λ t rest short is.
        let parts = behind_head sum t rest n behind short small is in
        let same = ap length parts.1 in
        let sized = parts.0 in
        omega (arith, less, same, sized, length-append t (sum_after sum t ++ rest), length-append (sum_after sum t) rest, length-sum sum (length t) t));
    short = inr (n, behind, refl, less);
  }

  -- a text of this length, a sum, and more
  module _ (text others text_sum rest : List ℕ) (split : behind ≡ text ++ others) (again : others ≡ text_sum ++ rest) (long : length text ≡ n)
      (sixteen : length text_sum ≡ 16) where
    pub wrong_text : text_sum ≢ sum_behind sum n text → IsBroken sum (head_of sum n ++ behind)
    wrong_text wrong t rest' more short is =
        let parts = behind_head sum t rest' n (behind ++ more) short small (is ∙ append_assoc (head_of sum n) behind more) in
        let whole : t ++ (sum_after sum t ++ rest') ≡ text ++ (others ++ more) =
        parts.1 ∙ ap (λ l. l ++ more) split ∙ append_assoc text others more in
        let texts = halves_once t text _ _ (parts.0 ∙ sym long) whole in
        let ends : sum_after sum t ++ rest' ≡ text_sum ++ (rest ++ more) = texts.1 ∙ ap (λ l. l ++ more) again ∙ append_assoc text_sum rest more in
        let sums = halves_once (sum_after sum t) text_sum _ _ (length-sum sum (length t) t ∙ sym sixteen) ends in
        wrong (sym sums.0 ∙ (λ i. sum_behind sum (parts.0 i) (texts.0 i)))

    pub right_text : text_sum ≡ sum_behind sum n text → (block sum text ++ rest ≡ head_of sum n ++ behind)
    right_text right =
        let same : text_sum ≡ sum_after sum text = right ∙ ap (λ k. sum_behind sum k text) (sym long) in
        append_assoc (head_of sum (length text)) (text ++ sum_after sum text) rest ∙
        ap (λ l. head_of sum (length text) ++ l) (append_assoc text (sum_after sum text) rest)
        ∙ (λ i. head_of sum (long i) ++ (text ++ (sym same i ++ rest))) ∙
        ap (λ l. head_of sum n ++ (text ++ l)) (sym again) ∙ ap (λ l. head_of sum n ++ l) (sym split)

pub length-block : (sum t rest : List ℕ) → length (block sum t ++ rest) ≡ length t + (length rest + 40)
length-block sum t rest =
    omega (
      arith,
      length-append (block sum t) rest,
      length-append (head_of sum (length t)) (t ++ sum_after sum t),
      length-head sum (length t),
      length-append t (sum_after sum t),
      length-sum sum (length t) t,
    )

-- what is appended in four parts
pub parts_written : (a b c d e number head text sum : List ℕ) → b ≡ a ++ number → c ≡ b ++ head → d ≡ c ++ text → e ≡ d ++ sum →
    e ≡ a ++ ((number ++ head) ++ (text ++ sum))
parts_written a b c d e number head text sum to_b to_c to_d to_e =
    let both : c ≡ a ++ (number ++ head) = to_c ∙ ap (λ l. l ++ head) to_b ∙ append_assoc a number head in
    to_e ∙ ap (λ l. l ++ sum) to_d ∙ append_assoc c text sum ∙ ap (λ l. l ++ (text ++ sum)) both ∙ append_assoc a (number ++ head) (text ++ sum)
