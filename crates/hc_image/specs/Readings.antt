-- What a reader tells of a text that begins with an image, or with a part of one.
use Rattle.std.specs.Prelude.{◌≡◌, ◌≢◌, ℕ, List, ◌++◌, length, take, ◌≤◌, Option, MatchOption}
use Rattle.hc_model.specs.Entries.{Contents}
use Rattle.hc_contents.specs.PlainContents.{plain_contents}
use Rattle.hc_image.specs.declared.read.ImageRead.{ImageRead}
use Rattle.hc_image.specs.Images.{lines_of}
use Rattle.hc_image.specs.Spelled.{SpellsImage}

module _ {A B : Type 0} where
  -- The text begins with a part that spells what was read, and the rest is left; or it begins with none.
  abbrev pub Reads : (List ℕ → B → Type 0) → (A → B) → List ℕ → List ℕ → Option A → Type 0
  Reads Spells plain text rest result =
      MatchOption result ((b : B) (part after : List ℕ) → Spells part b → part ++ after ≢ text)
      (λ a. (part : List ℕ) × Spells part (plain a) × (part ++ rest ≡ text))

-- what was read is what the first bytes of the text spell, as many as were used
pub record IsReadFrom (text : List ℕ) (read : ImageRead) : Type 0 where
  pub within : read.used ≤ length text
  pub spells : SpellsImage (take read.used text) (plain_contents read.contents)

-- the text begins with no image
abbrev pub BeginsWithNone : List ℕ → Type 0
BeginsWithNone text =
    (contents : Contents) (image rest : List ℕ) → SpellsImage image contents → image ++ rest ≢ text

-- these contents and this length
pub record IsReadBack (reported : Contents) (image : List ℕ) (read : ImageRead) : Type 0 where
  pub contents : plain_contents read.contents ≡ reported
  pub used : read.used ≡ length image

-- the text begins with the lines that each image begins with; before them no memory is asked for
pub record BeginsAsImage (text : List ℕ) : Type 0 where
  pub now : ℕ
  pub last : ℕ
  pub next : ℕ
  pub count : ℕ
  pub rest : List ℕ
  pub text_is : lines_of now last next count ++ rest ≡ text
