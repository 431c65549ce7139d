-- What a source gives, and when it fails.
use Rattle.std.specs.Prelude.{◌≡◌, ℕ, ◌≤◌, List, [], ◌++◌, Option, Some, None, Result, IsErr, IsErrOf}
use Rattle.hc_io.specs.declared.source.SourceFailed.{SourceFailed}
use Rattle.hc_io.specs.declared.source.ReadError.{ReadError}
use Rattle.hc_io.specs.declared.source.ReadError.TheVariants as error
use Rattle.hc_io.specs.Faults.{HasRisen}

-- The bytes left begin with these, and lose them, if the source tells its bytes.
abbrev pub Gives : Option (List ℕ) → Option (List ℕ) → List ℕ → Type 0
Gives None new bytes = new ≡ None
Gives (Some old) None bytes = ⊥
Gives (Some old) (Some rest) bytes = old ≡ bytes ++ rest

-- These are all of the bytes left, and none are left after them, if the source tells its bytes.
abbrev pub GivesAll : Option (List ℕ) → Option (List ℕ) → List ℕ → Type 0
GivesAll None new bytes = new ≡ None
GivesAll (Some old) new bytes = (bytes ≡ old) × (new ≡ Some [])

-- Some first of the bytes left were given.
pub record GivesPrefix (old new : Option (List ℕ)) : Type 0 where
  pub front : List ℕ
  pub gives : Gives old new front

-- No bytes are left, if the source tells its bytes.
abbrev pub IsAtEnd : Option (List ℕ) → Type 0
IsAtEnd None = Unit {0}
IsAtEnd (Some left) = left ≡ []

-- The count of faults never falls, and SourceFailed comes only where it rose.
pub record HasSourceCause {T : Type 0} (before now : ℕ) (result : Result T SourceFailed) : Type 0 where
  pub later : before ≤ now
  pub failed : IsErr result → HasRisen before now

-- The same of a call that reads to the end.
pub record HasReadCause {T : Type 0} (before now : ℕ) (result : Result T ReadError) : Type 0 where
  pub later : before ≤ now
  pub failed : IsErrOf result error.SourceFailed → HasRisen before now
