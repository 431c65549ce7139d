-- What a folder says behind its recorder.
use Rattle.std.specs.Global.{Global}
use Rattle.std.specs.Prelude.{◌≡◌, ℕ, List, [], ◌∷◌, ◌++◌, Vec, Option, Some, None}
use Rattle.hc_folder.specs.Files.{Files}
use Rattle.hc_folder.specs.Says.{Says}
use Rattle.hc_folder.specs.declared.recording.Standing.{Standing}
use Rattle.hc_folder.specs.declared.recording.Standing.TheVariants as standing

-- What stands, by the image that is owed, and what waits.
abbrev pub standing_of : Option (Vec ℕ Global) → List ℕ → Standing
standing_of (Some v) waits = standing.Owed
standing_of None [] = standing.Whole
standing_of None (x ∷ waits) = standing.Part

-- The folder's files say the image with this number, and a first part of the text that was taken behind it, or all of that. While
-- the image is owed, nothing is claimed.
pub data StandsAs (image : List ℕ) (n : ℕ) (text : List ℕ) (files : Files) : Standing → Type 0 where
  owed : StandsAs image n text files standing.Owed
  part : (written waits : List ℕ) → text ≡ written ++ waits → Says files (Some image) n written → StandsAs image n text files standing.Part
  whole : Says files (Some image) n text → StandsAs image n text files standing.Whole
