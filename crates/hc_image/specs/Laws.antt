-- Laws of images.
use Rattle.std.specs.Prelude.{◌≡◌, ℕ, List, ◌++◌, []}
use Rattle.hc_model.specs.Entries.{Contents}
use Rattle.hc_image.specs.Images.{HasImage, image_of}
use Rattle.hc_image.specs.Spelled.{SpellsImage}

-- one text spells one contents
abbrev pub SpellContentsApart : Type 0
SpellContentsApart =
    (image : List ℕ) (a b : Contents) → SpellsImage image a → SpellsImage image b → a ≡ b

-- no image is a first part of another
abbrev pub AreNoParts : Type 0
AreNoParts =
    (image rest : List ℕ) (a b : Contents) → SpellsImage image a → SpellsImage (image ++ rest) b
    → rest ≡ []

-- what has an image has the one that is written
abbrev pub AreWritten : Type 0
AreWritten = (contents : Contents) → HasImage contents → SpellsImage (image_of contents) contents
