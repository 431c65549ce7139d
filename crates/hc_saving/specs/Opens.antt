-- What came of an open: an image was read, and the schedule behind it was stepped from what the image has.
use Rattle.std.specs.Prelude.{◌≡◌, ◌≢◌, ℕ, List, Option, Some, None}
use Rattle.hc_io.specs.Sink.{Takes}
use Rattle.hc_io.specs.Source.{Gives, GivesAll}
use Rattle.hc_sched.specs.declared.schedule.Ended.{Ended}
use Rattle.hc_sched.specs.declared.schedule.Ended.TheVariants as ended
use Rattle.hc_sched.specs.declared.schedule.Timed.{Timed}
use Rattle.hc_sched.specs.Schedule.{Item, Spells}
use Rattle.hc_driver.specs.Courses.{TakesThenPrefix}
use Rattle.hc_driver.specs.Endings.{How, Wholly, UpToLast, UpToWant, Ends}
use Rattle.hc_driver.specs.Stepping as steps
use Rattle.hc_driver.specs.Stepping.{report_of, report_before, last_entry}
use Rattle.hc_rules.specs.declared.room.Limits.{Limits}
use Rattle.hc_contents.specs.Fit.{unfit_of}
use Rattle.hc_contents.specs.declared.unfit.Unfit.TheVariants as unfit
use Rattle.hc_model.specs.Entries.{Contents}
use Rattle.hc_image.specs.Readings.{BeginsWithNone}
use Rattle.hc_saving.specs.declared.begin.BeginError.{BeginError}
use Rattle.hc_saving.specs.declared.begin.BeginError.TheVariants as begin
use Rattle.hc_saving.specs.declared.open.OpenEnded.{OpenEnded}
use Rattle.hc_saving.specs.declared.open.OpenEnded.TheVariants as opened
use Rattle.hc_saving.specs.Continued.{IsOpened, IsContinued}

-- WHAT GOES ON

-- How far these events went on, and what a sink took of their report.
pub data Continues (limits : Limits) (contents : Contents) (out out' : Option (List ℕ)) : How → List Timed → Type 0 where
  wholly : {events : List Timed} (h : steps.History) → IsContinued limits contents events h →
      Takes out out' (report_of h) → Continues limits contents out out' Wholly events
  up_to_last : {events : List Timed} (h : steps.History) → IsContinued limits contents events h →
      TakesThenPrefix out out' (report_before h) (last_entry h) →
      Continues limits contents out out' UpToLast events
  up_to_want : {events : List Timed} (h : steps.History) → IsContinued limits contents events h →
      Takes out out' (report_of h) → Continues limits contents out out' UpToWant events

-- HOW IT ENDS

-- What came of it: what a source had left before and after, and what a sink had taken.
pub data Opens (limits : Limits) (left left' out out' : Option (List ℕ)) : OpenEnded → Type 0 where
  -- the text begins with no image
  bad_image : (text : List ℕ) → GivesAll left left' text → BeginsWithNone text → out' ≡ out →
      Opens limits left left' out out' opened.BadImage
  -- no store may begin with what the image has, or none of these limits
  bad_content : (text schedule : List ℕ) (contents : Contents) (i : ℕ) → GivesAll left left' text →
      IsOpened text contents schedule → unfit_of limits contents ≡ Some (unfit.BadContent i) →
      out' ≡ out → Opens limits left left' out out' (opened.BadContent i)
  full : (text schedule : List ℕ) (contents : Contents) → GivesAll left left' text →
      IsOpened text contents schedule → unfit_of limits contents ≡ Some unfit.Full → out' ≡ out →
      Opens limits left left' out out' opened.Full
  -- the schedule was read from the moment of the contents on, and ended so
  ran : (text schedule : List ℕ) (contents : Contents) (rest : Option (List ℕ)) (e : Ended) →
      GivesAll left left' text → IsOpened text contents schedule → unfit_of limits contents ≡ None →
      e ≢ ended.SourceFailed →
      Ends (Continues limits contents out out') contents.now (Some schedule) rest e →
      Opens limits left left' out out' (opened.Ran e)
  -- the input failed, or memory was refused, and nothing was written
  unreadable : (text : List ℕ) → Gives left left' text → out' ≡ out →
      Opens limits left left' out out' (opened.Ran ended.SourceFailed)
  wanting : (text : List ℕ) → Gives left left' text → out' ≡ out →
      Opens limits left left' out out' (opened.Ran ended.NoMemory)

-- the image wasn't refused
abbrev pub IsImageTaken : OpenEnded → Type 0
IsImageTaken (opened.Ran e) = Unit {0}
IsImageTaken _ = ⊥

-- COMPLETENESS

-- What is told of a whole input holds of each image that it begins with.
abbrev pub Completes : Limits → Option (List ℕ) → OpenEnded → Type 0
Completes limits None result = Unit {0}
Completes limits (Some text) opened.BadImage = BeginsWithNone text
Completes limits (Some text) (opened.BadContent i) =
    (contents : Contents) (schedule : List ℕ) → IsOpened text contents schedule →
    unfit_of limits contents ≡ Some (unfit.BadContent i)
Completes limits (Some text) opened.Full =
    (contents : Contents) (schedule : List ℕ) → IsOpened text contents schedule →
    unfit_of limits contents ≡ Some unfit.Full
Completes limits (Some text) (opened.Ran (ended.Refused why)) =
    (contents : Contents) (schedule : List ℕ) → IsOpened text contents schedule →
    (items : List Item) → ¬ Spells contents.now schedule items
Completes limits (Some text) (opened.Ran _) = Unit {0}

-- A TEXT IS OPENED

-- it begins with no image, or memory was refused
pub data IsUnopened (text : List ℕ) : OpenEnded → Type 0 where
  none : BeginsWithNone text → IsUnopened text opened.BadImage
  unread : IsUnopened text (opened.Ran ended.NoMemory)

-- A CACHE BEGINS

-- how an open ends where none does
abbrev pub ended_by : BeginError → OpenEnded
ended_by (begin.Unfit (unfit.BadContent i)) = opened.BadContent i
ended_by (begin.Unfit unfit.Full) = opened.Full
ended_by begin.NoMemory = opened.Ran ended.NoMemory
