-- Why something isn't in the folder.
use Rattle.std.specs.Prelude.{Option, Some, None, Result, Ok, Err}
use Rattle.hc_folder.specs.declared.folder.FolderError.{FolderError}
use Rattle.hc_folder.specs.declared.folder.FolderError.TheVariants as folder
use Rattle.hc_folder.specs.declared.recording.Unwritten.{Unwritten}
use Rattle.hc_folder.specs.declared.recording.Unwritten.TheVariants as why

-- the folder doesn't do what it is asked
abbrev pub of_folder : FolderError → Unwritten
of_folder folder.Failed = why.Failed
of_folder folder.NoMemory = why.NoMemory

-- why the image isn't, where it isn't
abbrev pub unput_by : {T : Type 0} → Result T FolderError → Option Unwritten
unput_by (Ok x) = None
unput_by (Err e) = Some (of_folder e)
