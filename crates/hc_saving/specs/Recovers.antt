-- What is left of an image and of the record behind it, of which any last part may be missing.
use Rattle.std.specs.Global.{Global}
use Rattle.std.specs.Prelude.{◌≡◌, ℕ, Vec, ◌+◌, ◌≤◌, ◌^◌, List, ◌++◌, length, Option, Some, None, Result, Ok, Err, true}
use Rattle.std.specs.Option.{option_map}
use Rattle.hc_io.specs.Source.{Gives, GivesAll}
use Rattle.hc_sched.specs.declared.schedule.Timed.{Timed}
use Rattle.hc_sched.specs.declared.schedule.Refused.{Refused}
use Rattle.hc_sched.specs.Laws.{HasRead}
use Rattle.hc_sched.specs.Schedule.{Item, IsSchedule, text_of, events_of}
use Rattle.hc_driver.specs.Endings.{IsRefusedAtOnce, IsUnrefused, events_from}
use Rattle.hc_driver.specs.Stepping as steps
use Rattle.hc_driver.specs.Stepping.{events_in}
use Rattle.hc_rules.specs.declared.room.Limits.{Limits}
use Rattle.hc_contents.specs.Fit.{unfit_of}
use Rattle.hc_contents.specs.PlainContents.{plain_contents}
use Rattle.hc_contents.specs.declared.contents.Contents as coded
use Rattle.hc_contents.specs.declared.unfit.Unfit.{Unfit}
use Rattle.hc_model.specs.Beginnings.{may_begin}
use Rattle.hc_model.specs.Entries.{History, Contents, no_contents}
use Rattle.hc_model.specs.Reads.{ReadsWhole}
use Rattle.hc_store.specs.declared.backend.Backend.{Ghosts}
use Rattle.hc_core.specs.declared.cache.Cache.{Cache}
use Rattle.hc_core.specs.Steps.{limits_in}
use Rattle.hc_replay.specs.Histories.{run_of, failures}
use Rattle.hc_replay.specs.Replays.{IsReplayed}
use Rattle.hc_image.specs.Spelled.{SpellsImage}
use Rattle.hc_saving.specs.declared.begin.BeginError.{BeginError}
use Rattle.hc_saving.specs.declared.begin.BeginError.TheVariants as begin
use Rattle.hc_saving.specs.declared.recovering.RecoverError.{RecoverError}
use Rattle.hc_saving.specs.declared.recovering.RecoverError.TheVariants as error
use Rattle.hc_saving.specs.Leaving.{AllLeave}
use Rattle.hc_saving.specs.Continued.{Leaves}

-- THE IMAGE

-- the bytes of an image, if there is one
abbrev pub bytes_of : Option (Vec ℕ Global) → Option (List ℕ)
bytes_of image = option_map (λ (v : Vec ℕ Global). v.items) image

-- what a store begins with: what an image has, or nothing
abbrev pub BeginsAs : Option (List ℕ) → Contents → Type 0
BeginsAs None contents = contents ≡ no_contents
BeginsAs (Some image) contents = SpellsImage image contents

-- it is the image of no contents
abbrev pub HasNone : Option (List ℕ) → Type 0
HasNone image = (contents : Contents) → ¬ BeginsAs image contents

-- THE RECORD

-- These are the whole events of a text that begins at this moment: those of its first items. All items that it begins with
-- are among these, so what stands behind them is no event: it may be a line that was cut.
pub record AreWholeEvents (moment : ℕ) (text : List ℕ) (events : List Timed) : Type 0 where
  pub read : HasRead moment text events
  pub all : (items : List Item) (rest : List ℕ) → IsSchedule moment items → text_of items ++ rest ≡ text →
      (more : List Timed) × (events ≡ events_of moment items ++ more)

-- WHAT IS LEFT

-- All who were live behind a run from these contents have left, 1,024 at most. That is a run in which each consumer reads
-- one answer whole, and it leaves what was found.
pub record IsLeftBehind (limits : Limits) (contents : Contents) (h : History) (found : Contents) : Type 0 where
  pub left : History
  pub leave : AllLeave limits contents h left
  pub few : length left ≤ length h + 1024
  pub reads : ReadsWhole contents left
  pub leaves : Leaves limits contents left found

-- It is left behind a run of these events from the contents, over a store that never fails, and as well behind each run
-- that leaves the contents and goes on with these events. A store may begin with it.
pub record IsRecovered (limits : Limits) (contents : Contents) (events : List Timed) (found : Contents) : Type 0 where
  pub history : steps.History
  pub events_are : events_in history ≡ events
  pub sound : failures history ≡ 0
  pub from_here : IsLeftBehind limits contents (run_of history) found
  pub goes_on : (before : Contents) (earlier : History) → Leaves limits before earlier contents →
      IsLeftBehind limits before (run_of history ++ earlier) found
  pub begins : found.next_exchange ≤ 2 ^ 60 → may_begin limits found ≡ true

-- HOW IT ENDS

-- What came of it: what a source of the record had left before and after.
pub data Recovers (limits : Limits) (image left left' : Option (List ℕ)) : Result coded.Contents RecoverError → Type 0 where
  -- no line of the record is refused, and this is left behind its whole events
  found : (contents : Contents) (text : List ℕ) (events : List Timed) (found : coded.Contents) → BeginsAs image contents →
      unfit_of limits contents ≡ None → GivesAll left left' text → IsUnrefused contents.now text →
      AreWholeEvents contents.now text events → IsRecovered limits contents events (plain_contents found) →
      Recovers limits image left left' (Ok found)
  bad_image : HasNone image → left' ≡ left → Recovers limits image left left' (Err error.BadImage)
  -- no store may begin with what the image has, or none of these limits
  unfit : (contents : Contents) (why : Unfit) → BeginsAs image contents → unfit_of limits contents ≡ Some why →
      left' ≡ left → Recovers limits image left left' (Err (error.Unfit why))
  -- a line of the record is refused, whatever follows it
  bad_record : (contents : Contents) (text : List ℕ) (refused : Refused) → BeginsAs image contents →
      unfit_of limits contents ≡ None → Gives left left' text → IsRefusedAtOnce contents.now text refused →
      Recovers limits image left left' (Err (error.BadRecord refused))
  unreadable : (contents : Contents) (text : List ℕ) → BeginsAs image contents → unfit_of limits contents ≡ None →
      Gives left left' text → IsUnrefused contents.now text → Recovers limits image left left' (Err error.SourceFailed)
  wanting : (text : List ℕ) → Gives left left' text → Recovers limits image left left' (Err error.NoMemory)

-- neither the image nor the record is refused
abbrev pub IsTaken : Result coded.Contents RecoverError → Type 0
IsTaken (Ok contents) = Unit {0}
IsTaken (Err error.SourceFailed) = Unit {0}
IsTaken (Err error.NoMemory) = Unit {0}
IsTaken (Err _) = ⊥

-- ITS STEPS

-- nothing is recovered where no cache begins
abbrev pub of_begin : BeginError → RecoverError
of_begin (begin.Unfit why) = error.Unfit why
of_begin begin.NoMemory = error.NoMemory

-- no contents were read
pub data IsUnread (image : Option (List ℕ)) : RecoverError → Type 0 where
  none : HasNone image → IsUnread image error.BadImage
  lacking : IsUnread image error.NoMemory

-- A cache was stepped by all events of a text that are whole, and no line of it is refused.
pub record IsStepped {B : Type 0} {g : Ghosts B} (s : Cache B g) (moment : ℕ) (left left' : Option (List ℕ)) (u : Cache B g) : Type 0 where
  pub text : List ℕ
  pub gives : GivesAll left left' text
  pub unrefused : IsUnrefused moment text
  pub history : steps.History
  pub replayed : IsReplayed s u (events_from moment text) history
  pub limits : limits_in u ≡ limits_in s

-- what stopped that
pub data IsUnstepped (moment : ℕ) (left left' : Option (List ℕ)) : RecoverError → Type 0 where
  refused : (text : List ℕ) (refused : Refused) → Gives left left' text → IsRefusedAtOnce moment text refused →
      IsUnstepped moment left left' (error.BadRecord refused)
  unreadable : (text : List ℕ) → Gives left left' text → IsUnrefused moment text →
      IsUnstepped moment left left' error.SourceFailed
  lacking : (text : List ℕ) → Gives left left' text → IsUnstepped moment left left' error.NoMemory
