-- What a store's folder holds, and what calls do to it. Where it doesn't tell its files, nothing is claimed of them.
use Rattle.std.specs.Global.{Global}
use Rattle.std.specs.Prelude.{◌≡◌, ◌⊎◌, ℕ, ◌<◌, ◌≤◌, List, [], ◌++◌, take, Vec, Option, Some, None, IsSome, unwrap_or}
use Rattle.std.specs.Option.{option_map}

-- the file of the image, and the records by their numbers
pub record Files : Type 0 where
  pub image : Option (List ℕ)
  pub records : ℕ → Option (List ℕ)

-- the file has these bytes, or is not there
abbrev pub IsFile : Option (List ℕ) → Option (Vec ℕ Global) → Type 0
IsFile bytes file = option_map (λ (v : Vec ℕ Global). v.items) file ≡ bytes

-- the number of the newest record, or 0 where there is none
pub record IsNewest (files : Files) (n : ℕ) : Type 0 where
  pub none : (k : ℕ) → n < k → files.records k ≡ None
  pub there : 0 < n → IsSome (files.records n)

-- no record has this number or a higher one
abbrev pub HasNoneFrom : ℕ → Files → Type 0
HasNoneFrom n files = (k : ℕ) → n ≤ k → files.records k ≡ None

-- the file of the image, and the number of the newest record
pub record IsFound (file : Option (Vec ℕ Global)) (newest : ℕ) (files : Files) : Type 0 where
  pub image : IsFile files.image file
  pub newest_is : IsNewest files newest

-- CALLS

-- a relation of what is told before and after
abbrev pub OnFiles : (Files → Files → Type 0) → Option Files → Option Files → Type 0
OnFiles R None after = after ≡ None
OnFiles R (Some before) after = (files : Files) × (after ≡ Some files) × R before files

-- the image is this, and no record changed
pub record IsImagePut (image : List ℕ) (before after : Files) : Type 0 where
  pub image_is : after.image ≡ Some image
  pub records : after.records ≡ before.records

-- that, or nothing changed
abbrev pub IsImagePutOrLeft : List ℕ → Files → Files → Type 0
IsImagePutOrLeft image before after = IsImagePut image before after ⊎ (after ≡ before)

-- no record has a lower number, and all else is as it was
pub record AreRemoved (n : ℕ) (before after : Files) : Type 0 where
  pub image : after.image ≡ before.image
  pub below : (k : ℕ) → k < n → after.records k ≡ None
  pub others : (k : ℕ) → n ≤ k → after.records k ≡ before.records k

-- some records with lower numbers may be gone, and all else is as it was
pub record AreSomeRemoved (n : ℕ) (before after : Files) : Type 0 where
  pub image : after.image ≡ before.image
  pub below : (k : ℕ) → k < n → (after.records k ≡ None) ⊎ (after.records k ≡ before.records k)
  pub others : (k : ℕ) → n ≤ k → after.records k ≡ before.records k

-- the bytes of a record that may be missing, which are none then
abbrev pub bytes_in : Files → ℕ → List ℕ
bytes_in files n = unwrap_or (files.records n) []

-- a record has these bytes behind its first ones, and all else is as it was
pub record IsRecordPut (n at : ℕ) (bytes : List ℕ) (before after : Files) : Type 0 where
  pub image : after.image ≡ before.image
  pub there : after.records n ≡ Some (take at (bytes_in before n) ++ bytes)
  pub others : (k : ℕ) → ¬ (k ≡ n) → after.records k ≡ before.records k

-- a record has a first part of the bytes behind its first ones
pub record HasPart (n at : ℕ) (bytes : List ℕ) (before after : Files) : Type 0 where
  pub part : List ℕ
  pub rest : List ℕ
  pub part_is : part ++ rest ≡ bytes
  pub there : after.records n ≡ Some (take at (bytes_in before n) ++ part)

-- a record is as it was, or has a part of the bytes behind its first ones, and all else is as it was
pub record IsRecordTorn (n at : ℕ) (bytes : List ℕ) (before after : Files) : Type 0 where
  pub image : after.image ≡ before.image
  pub there : (after.records n ≡ before.records n) ⊎ HasPart n at bytes before after
  pub others : (k : ℕ) → ¬ (k ≡ n) → after.records k ≡ before.records k

-- RENEWAL

-- the image is this, no record has a lower number, and all others are as they were
pub record IsRenewed (image : List ℕ) (n : ℕ) (before after : Files) : Type 0 where
  pub image_is : after.image ≡ Some image
  pub below : (k : ℕ) → k < n → after.records k ≡ None
  pub others : (k : ℕ) → n ≤ k → after.records k ≡ before.records k

-- the image is this, and some records with lower numbers may be gone
pub record IsPartlyRenewed (image : List ℕ) (n : ℕ) (before after : Files) : Type 0 where
  pub image_is : after.image ≡ Some image
  pub below : (k : ℕ) → k < n → (after.records k ≡ None) ⊎ (after.records k ≡ before.records k)
  pub others : (k : ℕ) → n ≤ k → after.records k ≡ before.records k

-- that, or the image is this, or nothing changed: no record is gone then
abbrev pub IsRenewedOrLeft : List ℕ → ℕ → Files → Files → Type 0
IsRenewedOrLeft image n before after =
    IsPartlyRenewed image n before after ⊎ IsImagePutOrLeft image before after
