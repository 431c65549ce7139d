-- A file is of one image.
use Rattle.std.proofs.{Common.{◌≡◌, ◌≢◌, ℕ, ◌+◌, ◌-◌, ◌<◌, ◌≤◌, ◌^◌, List, ◌++◌, length, take, ap, sym, ◌∙◌, arith, length-append, append_assoc}, Math.Seq.{take-append_seam}}
use Rattle.md5.specs.Md5.{md5}
use Rattle.hc_folder.specs.{Sums.{number_bytes}, ImageFiles.{numbered, image_file, image_sum, IsNoImageFile, IsImageFileOf}}
use Rattle.hc_folder.proofs.{Lengths.{length-number_bytes, number_once, length-md5}, Once.{halves_once}}

pub length-numbered : (image : List ℕ) (n : ℕ) → length (numbered image n) ≡ length image + 8
length-numbered image n = omega (arith, length-append image (number_bytes n), length-number_bytes n)

pub length-image_file : (image : List ℕ) (n : ℕ) → length (image_file image n) ≡ length image + 24
unfolding image_sum
length-image_file image n = omega (arith, length-append (numbered image n) (md5 (numbered image n)), length-numbered image n, length-md5 (numbered image n))

pub too_short : (file : List ℕ) → length file < 24 → IsNoImageFile file
too_short file less image n small is = let same = ap length is in omega (arith, less, same, length-image_file image n)

module _ (file body front bytes sum : List ℕ) (n : ℕ) (split : file ≡ body ++ sum) (again : body ≡ front ++ bytes) (sixteen : length sum ≡ 16)
    (eight : length bytes ≡ 8) (is_number : number_bytes n ≡ bytes) where
  body_is : body ≡ numbered front n
  body_is = again ∙ ap (λ l. front ++ l) (sym is_number)

  pub right_ending : (due : List ℕ) → due ≡ md5 body → sum ≡ due → n < 2 ^ 62 → IsImageFileOf file n due
  unfolding image_sum
  right_ending due due_is right small = record {
    image = front;
    small = small;
    file_is = split ∙ (λ i. body_is i ++ (right ∙ due_is ∙ ap md5 body_is) i);
    sum_is = due_is ∙ ap md5 body_is;
  }

  module _ (image : List ℕ) (k : ℕ) (is : file ≡ image_file image k) where
    parts : (body ≡ numbered image k) × (sum ≡ image_sum image k)
    parts = halves_once body (numbered image k) sum (image_sum image k)
        (let same = ap length is in let here = ap length split in
        omega (arith, same, here, sixteen, length-append body sum, length-image_file image k, length-numbered image k))
        (sym split ∙ is)

  pub wrong_sum : (due : List ℕ) → due ≡ md5 body → sum ≢ due → IsNoImageFile file
  unfolding image_sum
  wrong_sum due due_is wrong image k small is =
      let q = parts image k is in wrong (q.1 ∙ ap md5 (sym q.0) ∙ sym due_is)

  pub wrong_number : n < 2 ^ 64 → 2 ^ 62 ≤ n → IsNoImageFile file
  wrong_number fits large image k small is =
      let q = parts image k is in
      let sizes = ap length q.0 in
      let here = ap length again in
      let halves = halves_once front image bytes (number_bytes k)
      (omega (arith, sizes, here, eight, length-append front bytes, length-numbered image k)) (sym again ∙ q.0) in
      let same : n ≡ k = number_once n k fits (omega (arith, small)) (is_number ∙ halves.1) in
      omega (arith, same, large, small)

-- what a file begins with
pub image_first : (file image : List ℕ) (n : ℕ) → file ≡ image_file image n → take (length file - 24) file ≡ image
image_first file image n is =
    let same = ap length is in
    let sized : length file - 24 ≡ length image = omega (arith, same, length-image_file image n) in
    ap (λ k. take k file) sized ∙ ap (take (length image)) (is ∙ append_assoc image (number_bytes n) (image_sum image n)) ∙
    take-append_seam image (number_bytes n ++ image_sum image n)
