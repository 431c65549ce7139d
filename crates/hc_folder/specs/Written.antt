-- What was taken to be written behind an image: it stands in the record there, or waits.
use Rattle.std.specs.Global.{Global}
use Rattle.std.specs.Prelude.{◌≡◌, ◌⊎◌, ℕ, zero, suc, ◌+◌, ◌<◌, ◌^◌, List, [], ◌∷◌, ◌++◌, length, take, drop, Vec, Option, Some, None, unwrap_or}
use Rattle.std.specs.List.{concat}
use Rattle.std.specs.Option.{option_map}
use Rattle.std.specs.Int.{w64, from_le_bytes}
use Rattle.hc_folder.specs.Blocks.{block, blocks, sum_after, sum_through, HasText, IsShort, AreShort}
use Rattle.hc_folder.specs.Files.{Files, bytes_in}
use Rattle.hc_folder.specs.ImageFiles.{image_file, image_sum}

-- Blocks of these texts, so many bytes with this sum behind them, and maybe a first part of the block that is due. So it is a
-- first part of a record, whatever was cut.
pub record IsRecordOf (texts : List (List ℕ)) (seed bytes sum : List ℕ) (at : ℕ) (due : List ℕ) : Type 0 where
  pub torn : List ℕ
  pub more : List ℕ
  pub bytes_is : bytes ≡ blocks seed texts ++ torn
  pub at_is : at ≡ length (blocks seed texts)
  pub sum_is : sum ≡ sum_through seed texts
  pub short : AreShort texts
  pub part : torn ++ more ≡ due

-- the image is in its place, and no record has a lower number
pub record IsThere (file : List ℕ) (n : ℕ) (files : Files) : Type 0 where
  pub image_is : files.image ≡ Some file
  pub below : (k : ℕ) → k < n → files.records k ≡ None

-- the image is owed, or there
abbrev pub IsOwedOrThere : List ℕ → ℕ → Option (Vec ℕ Global) → Files → Type 0
IsOwedOrThere file n None files = IsThere file n files
IsOwedOrThere file n (Some v) files = v.items ≡ file

-- a block of this text behind what has this sum, and the sum behind it
pub record IsBlockOf (sum bytes next text : List ℕ) : Type 0 where
  pub short : IsShort text
  pub bytes_are : bytes ≡ block sum text
  pub next_is : next ≡ sum_after sum text

-- it comes next, or none does
abbrev pub IsDue : List ℕ → List ℕ → List ℕ → List ℕ → Type 0
IsDue sum bytes next text = ((bytes ≡ []) × (text ≡ [])) ⊎ IsBlockOf sum bytes next text

-- What was taken stands in the record behind the image, or waits, in the block that comes next and behind that: by what a
-- recorder has of all these.
pub record AreWritten (file seed text : List ℕ) (owed : Option (Vec ℕ Global)) (n : ℕ) (sum : List ℕ) (at : ℕ) (bytes next waiting : List ℕ) (files : Files)
    : Type 0 where
  pub image : IsOwedOrThere file n owed files
  pub above : (k : ℕ) → n < k → files.records k ≡ None
  pub texts : List (List ℕ)
  pub record_is : IsRecordOf texts seed (bytes_in files n) sum at bytes
  pub due : List ℕ
  pub due_is : IsDue sum bytes next due
  pub text_is : text ≡ concat texts ++ (due ++ waiting)

-- some text was, behind an image of this number
pub record HasTaken (owed : Option (Vec ℕ Global)) (n : ℕ) (sum : List ℕ) (at : ℕ) (bytes next waiting : List ℕ) (files : Files) : Type 0 where
  pub image : List ℕ
  pub text : List ℕ
  pub written : AreWritten (image_file image n) (image_sum image n) text owed n sum at bytes next waiting files

-- WHAT IS TOLD OF IT

-- the text of blocks, of so many at most
abbrev pub text_of : ℕ → List ℕ → List ℕ
text_of zero bytes = []
text_of (suc k) bytes =
    take (from_le_bytes w64 (take 8 bytes)) (drop 24 bytes) ++ text_of k (drop (from_le_bytes w64 (take 8 bytes) + 40) bytes)

-- of all
unfoldable pub text_in : List ℕ → List ℕ
text_in bytes = text_of (length bytes) bytes

-- the file of the image, owed or there
abbrev pub image_in : Option (Vec ℕ Global) → Files → List ℕ
image_in None files = unwrap_or files.image []
image_in (Some v) files = v.items

-- The length of the image's file, that file, and then what was taken behind it. So it is told of which image that is the record.
abbrev pub tells : List ℕ → List ℕ → List ℕ
tells file text = length file ∷ (file ++ text)

-- by what a recorder has, and its folder
unfoldable pub told_by : Option (Vec ℕ Global) → ℕ → ℕ → List ℕ → List ℕ → Option Files → Option (List ℕ)
told_by owed n at bytes waiting files =
    option_map (λ (f : Files). tells (image_in owed f) (text_in (take at (bytes_in f n)) ++ (text_in bytes ++ waiting))) files
