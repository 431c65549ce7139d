-- When a folder fails.
use Rattle.std.specs.Prelude.{◌≡◌, ℕ, Result, Ok, Err}
use Rattle.hc_io.specs.Faults.{HasRisen}
use Rattle.hc_folder.specs.declared.folder.FolderError.{FolderError}
use Rattle.hc_folder.specs.declared.folder.FolderError.TheVariants.{Failed, NoMemory}

-- A failure comes only where a fault was counted, and none is counted where none comes.
abbrev pub HasFolderCause : {T : Type 0} → ℕ → ℕ → Result T FolderError → Type 0
HasFolderCause before now (Ok x) = now ≡ before
HasFolderCause before now (Err Failed) = HasRisen before now
HasFolderCause before now (Err NoMemory) = now ≡ before
