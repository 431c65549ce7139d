-- A record that is written while a run goes on.
use Rattle.std.specs.Global.{Global}
use Rattle.std.specs.Prelude.{◌≡◌, ℕ, ◌+◌, ◌<◌, ◌^◌, List, [], ◌++◌, vec_len, Vec, Option, Some, None, Result, Ok, Err}
use Rattle.hc_io.specs.Faults.{HasRisen}
use Rattle.hc_folder.specs.Files.{Files}
use Rattle.hc_folder.specs.Written.{AreWritten, told_by}
use Rattle.hc_folder.specs.declared.folder.Folder.{Ghosts}
use Rattle.hc_folder.specs.declared.recording.Recorder.{Recorder}
use Rattle.hc_folder.specs.declared.recording.Unwritten.{Unwritten}
use Rattle.hc_folder.specs.declared.recording.Unwritten.TheVariants as why

abbrev pub HasRecorded : {F : Type 0} {g : Ghosts F} → List ℕ → List ℕ → List ℕ → Recorder F g → Files → Type 0
HasRecorded file seed text r files =
    AreWritten file seed text r.owed r.number r.sum r.at r.block.items r.next r.waiting.items files

-- nothing was taken yet, and the image is owed
pub record IsNew {F : Type 0} {g : Ghosts F} (file : Vec ℕ Global) (n : ℕ) (r : Recorder F g) : Type 0 where
  pub owed : r.owed ≡ Some file
  pub number : r.number ≡ n
  pub block : r.block.items ≡ []
  pub waiting : r.waiting.items ≡ []
  pub told : r.unwritten ≡ None

-- This is so of the files behind a call where that was so of those before it. They are told on, or none were.
abbrev pub Carries : (Files → Type 0) → (Files → Type 0) → Option Files → Option Files → Type 0
Carries P Q None after = after ≡ None
Carries P Q (Some before) after = P before → (files : Files) × (after ≡ Some files) × Q files

-- what was recorded before a call is recorded behind it, with these bytes more
abbrev pub StaysRecorded : {F : Type 0} {g : Ghosts F} → List ℕ → Recorder F g → Option Files → Recorder F g → Option Files → Type 0
StaysRecorded more r before s after =
    (file seed text : List ℕ) → Carries (HasRecorded file seed text r) (HasRecorded file seed (text ++ more) s) before after

-- what a recorder tells that it took: the image, and what stands in the record behind that or waits
abbrev pub told_of : {F : Type 0} {g : Ghosts F} → Recorder F g → Option (List ℕ)
told_of {F} {g} r = told_by r.owed r.number r.at r.block.items r.waiting.items (g.files r.folder)

-- WHAT WAITS

-- nothing waits: the image is there, and all that was taken stands in the record
pub record NothingWaits (image : Option (Vec ℕ Global)) (bytes more : List ℕ) : Type 0 where
  pub owed : image ≡ None
  pub block : bytes ≡ []
  pub waiting : more ≡ []

abbrev pub IsWritten : {F : Type 0} {g : Ghosts F} → Recorder F g → Type 0
IsWritten r = NothingWaits r.owed r.block.items r.waiting.items

-- so many bytes the record would have with the block that comes next
abbrev pub size_with : {F : Type 0} {g : Ghosts F} → Recorder F g → ℕ
size_with r = r.at + vec_len r.block

-- why something waits, by the folder's count of faults before and after, and that size
abbrev pub HasCause : ℕ → ℕ → ℕ → Unwritten → Type 0
HasCause before now size why.Failed = HasRisen before now
HasCause before now size why.Full = (now ≡ before) × (2 ^ 60 < size)
HasCause before now size why.NoMemory = now ≡ before

-- where nothing does, no fault was counted
abbrev pub HasUnwrittenCause : {T : Type 0} → ℕ → ℕ → ℕ → Result T Unwritten → Type 0
HasUnwrittenCause before now size (Ok x) = now ≡ before
HasUnwrittenCause before now size (Err e) = HasCause before now size e

-- nothing waits, or something does for the reason that is told
abbrev pub IsToldAs : {F : Type 0} {g : Ghosts F} → ℕ → ℕ → Recorder F g → Option Unwritten → Type 0
IsToldAs before now r None = IsWritten r × (now ≡ before)
IsToldAs before now r (Some e) = HasCause before now (size_with r) e

abbrev pub IsAsTold : {F : Type 0} {g : Ghosts F} → ℕ → ℕ → Recorder F g → Type 0
IsAsTold before now r = IsToldAs before now r r.unwritten
