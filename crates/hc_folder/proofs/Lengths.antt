-- How long sums and numbers are, and that texts are told apart by them.
use Rattle.std.{proofs.{Common.{◌≡◌, ℕ, ◌<◌, ◌^◌, List, [], length, refl, ap, sym, ◌∙◌, arith, length-append}, lemmas.Nat.{from_le_bytes-to_le_bytes_8}}, specs.Int.{w64, from_le_bytes}}
use Rattle.md5.specs.Md5.{md5, digest_bytes}
use Rattle.hc_folder.specs.{Sums.{number_bytes, sum_behind}, Blocks.{head_of}}

pub length-number_bytes : (n : ℕ) → length (number_bytes n) ≡ 8
unfolding number_bytes
length-number_bytes n = refl

pub number_once : (a b : ℕ) → a < 2 ^ 64 → b < 2 ^ 64 → number_bytes a ≡ number_bytes b → a ≡ b
unfolding number_bytes
number_once a b small_a small_b same =
    sym (from_le_bytes-to_le_bytes_8 a small_a) ∙ ap (from_le_bytes w64) same ∙ from_le_bytes-to_le_bytes_8 b small_b

length-digest : (h : List ℕ) → length (digest_bytes h 4) ≡ 16
unfolding digest_bytes
length-digest h = refl

pub length-md5 : (m : List ℕ) → length (md5 m) ≡ 16
unfolding md5
length-md5 m = length-digest _

pub length-sum : (sum : List ℕ) (n : ℕ) (text : List ℕ) → length (sum_behind sum n text) ≡ 16
unfolding sum_behind
length-sum sum n text = length-md5 _

pub length-head : (sum : List ℕ) (n : ℕ) → length (head_of sum n) ≡ 24
unfolding head_of
length-head sum n = omega (arith, length-append (number_bytes n) (sum_behind sum n []), length-number_bytes n, length-sum sum n [])
