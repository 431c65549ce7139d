-- What a save owes: the image of what a run of the schedule leaves.
use Rattle.std.specs.Prelude.{◌≡◌, ℕ, List, []}
use Rattle.hc_sched.specs.declared.schedule.Refused.{Refused}
use Rattle.hc_sched.specs.Schedule.{Item, Spells, events_of}
use Rattle.hc_driver.specs.Endings.{Reach, ToEnd, IsUnrefused, IsRefusedIn}
use Rattle.hc_saving.specs.Saves.{IsSaved}
use Rattle.hc_app.specs.declared.status.Status.TheVariants as status
use Rattle.hc_app.specs.Owing.{Owed, Quiet, Saying, Duty}
use Rattle.hc_app.specs.Replaying.{store_limits}
use Rattle.hc_app.specs.Texts.{refusal_text}

-- The image is owed where all of the text spells items; or nothing, and the refused line is told.
pub data Saves : Reach → List ℕ → Owed → Type 0 where
  spelled : (text image : List ℕ) (items : List Item) → Spells 0 text items →
      IsSaved store_limits (events_of 0 items) image → Saves ToEnd text (Quiet image)
  refused : (reach : Reach) (text : List ℕ) (refused : Refused) → IsRefusedIn 0 text refused reach →
      Saves reach text (Saying [] (refusal_text refused) status.Refused)

-- nothing is owed where the input fails, none of whose lines is refused
abbrev pub StopsSave : List ℕ → List ℕ → Type 0
StopsSave text out = IsUnrefused 0 text × (out ≡ [])

-- no output is begun before all of the text was read
pub data BeginsSave (text : List ℕ) : List ℕ → List ℕ → Type 0 where
  image_alone : (image : List ℕ) (items : List Item) → Spells 0 text items →
      IsSaved store_limits (events_of 0 items) image → BeginsSave text [] image
  nothing : BeginsSave text [] []

abbrev pub saving : Duty
saving = record { Owes = Saves; Stops = StopsSave; Begins = BeginsSave }
