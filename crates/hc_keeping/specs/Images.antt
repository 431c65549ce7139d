-- A new image of what a store has.
use Rattle.std.specs.Prelude.{◌≡◌, ℕ}
use Rattle.hc_model.specs.Entries.{Contents}
use Rattle.hc_image.specs.Images.{image_of}
use Rattle.hc_folder.specs.ImageFiles.{image_file, image_sum}
use Rattle.hc_keeping.specs.declared.image.NewImage.{NewImage}

-- the file of the image of these contents, and its sum
pub record IsNewImage (contents : Contents) (n : ℕ) (made : NewImage) : Type 0 where
  pub file_is : made.file.items ≡ image_file (image_of contents) n
  pub sum_is : made.sum ≡ image_sum (image_of contents) n
