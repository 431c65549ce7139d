-- How the program ends.
use Rattle.std.specs.Prelude.{ℕ}
use Rattle.hc_saving.specs.declared.recovering.RecoverError.{RecoverError}
use Rattle.hc_saving.specs.declared.recovering.RecoverError.TheVariants as recovering
use Rattle.hc_folder.specs.declared.reading.FilesError.{FilesError}
use Rattle.hc_folder.specs.declared.reading.FilesError.TheVariants as files
use Rattle.hc_keeping.specs.declared.keeping.KeepError.{KeepError}
use Rattle.hc_keeping.specs.declared.keeping.KeepError.TheVariants as keeping
use Rattle.hc_sched.specs.declared.schedule.Ended.{Ended}
use Rattle.hc_sched.specs.declared.schedule.Ended.TheVariants as ended
use Rattle.hc_keep_app.specs.declared.ending.Ending.{Ending}
use Rattle.hc_keep_app.specs.declared.ending.Ending.TheVariants as ending

-- the exit status
abbrev pub code_of : Ending → ℕ
code_of ending.Done = 0
code_of ending.Usage = 2
code_of ending.FolderFailed = 3
code_of ending.WireFailed = 5
code_of ending.NoMemory = 6
code_of ending.Refused = 7

-- how it ends where the files say nothing
abbrev pub unread_as : FilesError → Ending
unread_as files.FolderFailed = ending.FolderFailed
unread_as files.NoMemory = ending.NoMemory
unread_as _ = ending.Refused

-- how it ends where the image or the record is refused
abbrev pub refused_as : RecoverError → Ending
refused_as recovering.NoMemory = ending.NoMemory
refused_as _ = ending.Refused

-- how it ends where nothing is recovered
abbrev pub unrecovered_as : KeepError → Ending
unrecovered_as (keeping.Files why) = unread_as why
unrecovered_as (keeping.Refused n why) = refused_as why

-- how it ends behind the loop, which ends with no refused input and no failed record
abbrev pub ending_of : Ended → Ending
ending_of ended.Done = ending.Done
ending_of ended.NoMemory = ending.NoMemory
ending_of _ = ending.WireFailed
