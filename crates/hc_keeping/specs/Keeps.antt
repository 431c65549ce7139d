-- What a store's folder keeps: what a run leaves, of which its files tell.
use Rattle.std.specs.Prelude.{◌≡◌, ◌≢◌, ℕ, ◌+◌, List, Option, Some, Result, Ok, Err}
use Rattle.hc_rules.specs.declared.room.Limits.{Limits}
use Rattle.hc_saving.specs.declared.recovering.RecoverError.{RecoverError}
use Rattle.hc_saving.specs.declared.recovering.RecoverError.TheVariants as recovering
use Rattle.hc_saving.specs.Recovers.{Recovers}
use Rattle.hc_folder.specs.declared.reading.FilesError.{FilesError}
use Rattle.hc_folder.specs.Files.{Files}
use Rattle.hc_folder.specs.Says.{Says, Reads, HasFilesCause}
use Rattle.hc_keeping.specs.declared.keeping.KeepError.{KeepError}
use Rattle.hc_keeping.specs.declared.keeping.KeepError.TheVariants as error
use Rattle.hc_keeping.specs.declared.keeping.Kept.{Kept}

-- What an image and a text leave is found, or why one is refused. No source fails.
pub data KeepsText (limits : Limits) (image : Option (List ℕ)) (n : ℕ) (text : List ℕ) : Result Kept KeepError → Type 0 where
  found : (left : Option (List ℕ)) (kept : Kept) → Recovers limits image (Some text) left (Ok kept.contents) →
      kept.next ≡ n + 1 → KeepsText limits image n text (Ok kept)
  refused : (left : Option (List ℕ)) (why : RecoverError) → Recovers limits image (Some text) left (Err why) →
      why ≢ recovering.SourceFailed → KeepsText limits image n text (Err (error.Refused n why))

-- What came of it: of what the files say, or of files that say nothing.
pub data Keeps (limits : Limits) (files : Files) : Result Kept KeepError → Type 0 where
  recovered : (image : Option (List ℕ)) (n : ℕ) (text : List ℕ) (result : Result Kept KeepError) → Says files image n text →
      KeepsText limits image n text result → Keeps limits files result
  unread : (why : FilesError) → Reads files (Err why) → Keeps limits files (Err (error.Files why))

-- A failure of the folder comes only where a fault was counted, and none is counted where it doesn't come.
abbrev pub HasKeepCause : {T : Type 0} → ℕ → ℕ → Result T KeepError → Type 0
HasKeepCause before now (Ok x) = now ≡ before
HasKeepCause before now (Err (error.Files why)) = HasFilesCause {T = Kept} before now (Err why)
HasKeepCause before now (Err (error.Refused n why)) = now ≡ before
