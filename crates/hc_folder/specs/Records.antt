-- What is read of a record.
use Rattle.std.specs.Global.{Global}
use Rattle.std.specs.Prelude.{◌≡◌, ℕ, List, ◌++◌, Vec, Result, Ok, Err}
use Rattle.std.specs.List.{concat}
use Rattle.hc_folder.specs.Blocks.{IsBrokenAt}
use Rattle.hc_folder.specs.declared.blocks.RecordError.{RecordError}
use Rattle.hc_folder.specs.declared.blocks.RecordError.TheVariants as error

-- why none is
pub data IsUnread (sum file : List ℕ) : RecordError → Type 0 where
  broken : (at : ℕ) → IsBrokenAt sum file at → IsUnread sum file (error.Broken at)
  lacking : IsUnread sum file error.NoMemory

-- It is a first part of the texts, or memory was refused.
abbrev pub IsReadAs : List (List ℕ) → Result (Vec ℕ Global) RecordError → Type 0
IsReadAs texts (Ok text) = (rest : List ℕ) × (text.items ++ rest ≡ concat texts)
IsReadAs texts (Err (error.Broken at)) = ⊥
IsReadAs texts (Err error.NoMemory) = Unit {0}
