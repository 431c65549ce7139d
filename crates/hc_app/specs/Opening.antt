-- What an open owes: why the image is refused, or the report of the schedule behind it.
use Rattle.std.specs.Prelude.{◌≡◌, ℕ, List, [], Option, Some, None}
use Rattle.hc_io.specs.Faults.{HasRisen}
use Rattle.hc_io.specs.Sink.{Takes, TakesPrefix}
use Rattle.hc_io.specs.Source.{Gives}
use Rattle.hc_sched.specs.declared.schedule.Ended.{Ended}
use Rattle.hc_sched.specs.declared.schedule.Refused.{Refused}
use Rattle.hc_sched.specs.declared.schedule.Timed.{Timed}
use Rattle.hc_sched.specs.Schedule.{Item, Spells, events_of}
use Rattle.hc_driver.specs.Endings.{Reach, ToEnd, IsRead, IsRefusedIn, IsSteppedAtOnce, events_from}
use Rattle.hc_driver.specs.Stepping.{History, events_in, report_of, report_before, last_entry}
use Rattle.hc_contents.specs.Fit.{unfit_of}
use Rattle.hc_contents.specs.declared.unfit.Unfit.TheVariants as unfit
use Rattle.hc_model.specs.Entries.{Contents}
use Rattle.hc_image.specs.Readings.{BeginsWithNone}
use Rattle.hc_saving.specs.declared.open.OpenEnded.{OpenEnded}
use Rattle.hc_saving.specs.declared.open.OpenEnded.TheVariants as opened
use Rattle.hc_saving.specs.Continued.{IsOpened, IsContinued}
use Rattle.hc_app.specs.declared.status.Status.{Status}
use Rattle.hc_app.specs.declared.status.Status.TheVariants as status
use Rattle.hc_app.specs.Concluding.{Concludes}
use Rattle.hc_app.specs.Owing.{Owed, Quiet, Saying, Duty}
use Rattle.hc_app.specs.Replaying.{store_limits}
use Rattle.hc_app.specs.Texts.{refusal_text, image_text}

-- WHY AN IMAGE IS REFUSED

-- The text begins with no image, or no store may begin with what its image has.
pub data IsRefusedImage (text : List ℕ) : OpenEnded → Type 0 where
  bad_image : BeginsWithNone text → IsRefusedImage text opened.BadImage
  bad_content : (schedule : List ℕ) (contents : Contents) (i : ℕ) → IsOpened text contents schedule →
      unfit_of store_limits contents ≡ Some (unfit.BadContent i) →
      IsRefusedImage text (opened.BadContent i)
  full : (schedule : List ℕ) (contents : Contents) → IsOpened text contents schedule →
      unfit_of store_limits contents ≡ Some unfit.Full → IsRefusedImage text opened.Full

-- WHAT IS REPORTED

-- The text is an image with which a store may begin, and then this schedule.
pub record IsTaken (text : List ℕ) (contents : Contents) (schedule : List ℕ) : Type 0 where
  pub is_opened : IsOpened text contents schedule
  pub fits : unfit_of store_limits contents ≡ None

-- The text is the report of these events. They are a run from the contents, over a store that never fails, which goes on with
-- each run that leaves the contents.
pub record IsReportFrom (contents : Contents) (events : List Timed) (report : List ℕ) : Type 0 where
  pub history : History
  pub continued : IsContinued store_limits contents events history
  pub report_is : report_of history ≡ report

-- Why the image is refused is told, and nothing is written; or the report of all events of the schedule is owed, or of those
-- before the refused line, which is told.
pub data Opens : Reach → List ℕ → Owed → Type 0 where
  refused_image : (text : List ℕ) (e : OpenEnded) → IsRefusedImage text e →
      Opens ToEnd text (Saying [] (image_text e) status.ImageRefused)
  spelled : (text schedule report : List ℕ) (contents : Contents) (items : List Item) →
      IsTaken text contents schedule → Spells contents.now schedule items →
      IsReportFrom contents (events_of contents.now items) report → Opens ToEnd text (Quiet report)
  refused : (text schedule part report : List ℕ) (contents : Contents) (reach : Reach)
      (rest : Option (List ℕ)) (refused : Refused) → IsTaken text contents schedule →
      IsRead reach (Some schedule) rest part → IsRefusedIn contents.now part refused reach →
      IsReportFrom contents (events_from contents.now part) report →
      Opens ToEnd text (Saying report (refusal_text refused) status.Refused)

-- nothing is owed where the input fails
abbrev pub StopsOpen : List ℕ → List ℕ → Type 0
StopsOpen text out = out ≡ []

-- The first events of the schedule were stepped, all of those before the last piece that was read of it. The report is that of
-- all but the last, and the entry is the last one's.
pub record BeginsReport (text report entry : List ℕ) : Type 0 where
  pub schedule : List ℕ
  pub contents : Contents
  pub is_taken : IsTaken text contents schedule
  pub part : List ℕ
  pub left : Option (List ℕ)
  pub gives : Gives (Some schedule) left part
  pub history : History
  pub rest : List Timed
  pub stepped : IsSteppedAtOnce contents.now part (events_in history) rest
  pub continued : IsContinued store_limits contents (events_in history) history
  pub report_is : report_before history ≡ report
  pub entry_is : last_entry history ≡ entry

pub data BeginsOpen (text : List ℕ) : List ℕ → List ℕ → Type 0 where
  report : {out entry : List ℕ} → BeginsReport text out entry → BeginsOpen text out entry
  nothing : BeginsOpen text [] []

abbrev pub opening : Duty
opening = record { Owes = Opens; Stops = StopsOpen; Begins = BeginsOpen }

-- HOW IT IS TOLD

-- the image is refused
abbrev pub IsImageRefused : OpenEnded → Type 0
IsImageRefused (opened.Ran e) = ⊥
IsImageRefused _ = Unit {0}

-- What the diagnostics took of an open's ending, by the status.
pub data ConcludesOpen (diag diag' : Option (List ℕ)) (faults faults' : ℕ) : OpenEnded → Status → Type 0 where
  ran : (e : Ended) (s : Status) → Concludes diag diag' faults faults' e s →
      ConcludesOpen diag diag' faults faults' (opened.Ran e) s
  reported : (e : OpenEnded) → IsImageRefused e → Takes diag diag' (image_text e) → faults' ≡ faults →
      ConcludesOpen diag diag' faults faults' e status.ImageRefused
  unreported : (e : OpenEnded) → IsImageRefused e → TakesPrefix diag diag' (image_text e) →
      HasRisen faults faults' → ConcludesOpen diag diag' faults faults' e status.SinkFailed
  wanting_word : (e : OpenEnded) → IsImageRefused e → TakesPrefix diag diag' (image_text e) →
      faults' ≡ faults → ConcludesOpen diag diag' faults faults' e status.NoMemory
