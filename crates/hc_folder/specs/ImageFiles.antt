-- An image as a file: the image, the number of the record that stands behind it, and the sum of both.
use Rattle.std.specs.Prelude.{◌≡◌, ℕ, List, ◌++◌, ◌<◌, ◌^◌}
use Rattle.md5.specs.Md5.{md5}
use Rattle.hc_folder.specs.Sums.{number_bytes}
use Rattle.hc_folder.specs.declared.image.ImageFile.{ImageFile}

-- what the sum is taken of
abbrev pub numbered : List ℕ → ℕ → List ℕ
numbered image n = image ++ number_bytes n

-- the sum of an image with the number of its record
unfoldable pub image_sum : List ℕ → ℕ → List ℕ
image_sum image n = md5 (numbered image n)

-- the file
abbrev pub image_file : List ℕ → ℕ → List ℕ
image_file image n = numbered image n ++ image_sum image n

-- It is such a file, of these.
pub record IsImageFile (file : List ℕ) (s : ImageFile) : Type 0 where
  pub small : s.number < 2 ^ 62
  pub file_is : file ≡ image_file s.image.items s.number
  pub sum_is : s.sum ≡ image_sum s.image.items s.number

-- It is none.
abbrev pub IsNoImageFile : List ℕ → Type 0
IsNoImageFile file = (image : List ℕ) (n : ℕ) → n < 2 ^ 62 → ¬ (file ≡ image_file image n)

-- It is one of this number and this sum.
pub record IsImageFileOf (file : List ℕ) (n : ℕ) (sum : List ℕ) : Type 0 where
  pub image : List ℕ
  pub small : n < 2 ^ 62
  pub file_is : file ≡ image_file image n
  pub sum_is : sum ≡ image_sum image n
