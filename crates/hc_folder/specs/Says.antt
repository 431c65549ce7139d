-- What the files of a folder say by their sums.
use Rattle.std.specs.Global.{Global}
use Rattle.std.specs.Prelude.{◌≡◌, ℕ, ◌<◌, ◌≤◌, ◌^◌, List, [], vec_len, Vec, Option, Some, None, Result, Ok, Err}
use Rattle.std.specs.Option.{option_map}
use Rattle.hc_io.specs.Faults.{HasRisen}
use Rattle.hc_folder.specs.Blocks.{HasText, IsBrokenAt}
use Rattle.hc_folder.specs.Files.{Files, IsNewest, bytes_in}
use Rattle.hc_folder.specs.ImageFiles.{image_file, image_sum, IsNoImageFile}
use Rattle.hc_folder.specs.declared.folder.FolderError.{FolderError}
use Rattle.hc_folder.specs.declared.folder.FolderError.TheVariants as folder
use Rattle.hc_folder.specs.declared.reading.FilesError.{FilesError}
use Rattle.hc_folder.specs.declared.reading.FilesError.TheVariants as error
use Rattle.hc_folder.specs.declared.reading.Said.{Said}
use Rattle.hc_folder.specs.declared.image.ImageFile as image_file_of

-- The image, the number of the record behind it, and the text of its whole blocks. A new folder has neither file.
pub data Says (files : Files) : Option (List ℕ) → ℕ → List ℕ → Type 0 where
  nothing : files.image ≡ None → IsNewest files 0 → Says files None 0 []
  both : (image text : List ℕ) (n newest : ℕ) → n < 2 ^ 62 → files.image ≡ Some (image_file image n) → IsNewest files newest →
      newest ≤ n → HasText (image_sum image n) (bytes_in files n) text → Says files (Some image) n text

-- What came of reading them.
pub data Reads (files : Files) : Result Said FilesError → Type 0 where
  said : (s : Said) → Says files (option_map (λ (v : Vec ℕ Global). v.items) s.image) s.number s.text.items → Reads files (Ok s)
  broken_image : (file : List ℕ) → files.image ≡ Some file → IsNoImageFile file → Reads files (Err error.BrokenImage)
  -- no image is there that the newest record may stand behind
  lost_image : (newest : ℕ) → files.image ≡ None → IsNewest files newest → 0 < newest →
      Reads files (Err (error.LostImage newest))
  other_image : (image : List ℕ) (n newest : ℕ) → files.image ≡ Some (image_file image n) → IsNewest files newest →
      n < newest → Reads files (Err (error.LostImage newest))
  broken_record : (image : List ℕ) (n at : ℕ) → files.image ≡ Some (image_file image n) →
      IsBrokenAt (image_sum image n) (bytes_in files n) at → Reads files (Err (error.BrokenRecord n at))
  unreadable : Reads files (Err error.FolderFailed)
  lacking : Reads files (Err error.NoMemory)

-- What came of reading the record behind an image.
pub data ReadsBehind (s : image_file_of.ImageFile) (files : Files) : Result Said FilesError → Type 0 where
  behind : (r : Said) → r.image ≡ Some s.image → r.number ≡ s.number → HasText s.sum (bytes_in files s.number) r.text.items →
      ReadsBehind s files (Ok r)
  broken : (at : ℕ) → IsBrokenAt s.sum (bytes_in files s.number) at →
      ReadsBehind s files (Err (error.BrokenRecord s.number at))
  unreadable_behind : ReadsBehind s files (Err error.FolderFailed)
  lacking_behind : ReadsBehind s files (Err error.NoMemory)

-- a record is of 2^60 bytes at most, and its number below 2^62
pub record IsSmall (s : Said) : Type 0 where
  pub text : vec_len s.text ≤ 2 ^ 60
  pub number : s.number < 2 ^ 62

-- the folder doesn't do what it is asked
abbrev pub of_folder : FolderError → FilesError
of_folder folder.Failed = error.FolderFailed
of_folder folder.NoMemory = error.NoMemory

-- A failure of the folder comes only where a fault was counted, and none is counted where it doesn't come.
abbrev pub HasFilesCause : {T : Type 0} → ℕ → ℕ → Result T FilesError → Type 0
HasFilesCause before now (Ok x) = now ≡ before
HasFilesCause before now (Err error.FolderFailed) = HasRisen before now
HasFilesCause before now (Err _) = now ≡ before
