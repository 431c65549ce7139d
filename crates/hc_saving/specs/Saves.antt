-- What came of a save: a schedule was stepped, all who were live left, and the image of what is left was written.
use Rattle.std.specs.Prelude.{◌≡◌, ℕ, List, Option, true}
use Rattle.hc_io.specs.Sink.{Takes, TakesPrefix}
use Rattle.hc_io.specs.Source.{Gives, GivesAll}
use Rattle.hc_sched.specs.declared.schedule.Ended.{Ended}
use Rattle.hc_sched.specs.declared.schedule.Ended.TheVariants as ended
use Rattle.hc_sched.specs.declared.schedule.Refused.{Refused}
use Rattle.hc_sched.specs.declared.schedule.Timed.{Timed}
use Rattle.hc_sched.specs.Schedule.{Item, Spells, events_of}
use Rattle.hc_driver.specs.Endings.{Reach, IsRead, IsUnrefused, IsRefusedIn}
use Rattle.hc_driver.specs.Stepping as steps
use Rattle.hc_driver.specs.Stepping.{events_in}
use Rattle.hc_rules.specs.declared.room.Limits.{Limits}
use Rattle.hc_model.specs.Beginnings.{may_begin}
use Rattle.hc_model.specs.Contents.{contents_of}
use Rattle.hc_model.specs.Entries.{History, Contents, no_contents}
use Rattle.hc_model.specs.Tables.{tables}
use Rattle.hc_replay.specs.Histories.{run_of, failures}
use Rattle.hc_replay.specs.WholeRuns.{IsWholeRun}
use Rattle.hc_image.specs.Images.{image_of}
use Rattle.hc_image.specs.Spelled.{SpellsImage}
use Rattle.hc_saving.specs.Leaving.{AllLeave}

-- what a run from an empty store leaves
abbrev pub saved_of : History → Contents
saved_of left = contents_of (tables no_contents left)

-- All who were live behind the run have left, and the text is the image of what is left. It is read back as that, with
-- which a store of the same limits may begin.
pub record IsLeft (limits : Limits) (h : History) (image : List ℕ) : Type 0 where
  pub left : History
  pub leave : AllLeave limits no_contents h left
  pub whole : IsWholeRun limits no_contents left
  pub begins : may_begin limits (saved_of left) ≡ true
  pub image_is : image ≡ image_of (saved_of left)
  pub spells : SpellsImage image (saved_of left)

-- It is the image of what a run of these events leaves, over a store that never fails.
pub record IsSaved (limits : Limits) (events : List Timed) (image : List ℕ) : Type 0 where
  pub history : steps.History
  pub events_are : events_in history ≡ events
  pub whole : IsWholeRun limits no_contents (run_of history)
  pub sound : failures history ≡ 0
  pub is_left : IsLeft limits (run_of history) image

-- What came of it, by how it ended: what a source had left before and after, and what a sink had taken.
pub data Saves (limits : Limits) (left left' out out' : Option (List ℕ)) : Ended → Type 0 where
  -- the whole text spells items, and the image was taken
  done : (text image : List ℕ) (items : List Item) → GivesAll left left' text → Spells 0 text items →
      IsSaved limits (events_of 0 items) image → Takes out out' image →
      Saves limits left left' out out' ended.Done
  -- the text is refused, and nothing was written
  refused : (reach : Reach) (text : List ℕ) (refused : Refused) → IsRead reach left left' text →
      IsRefusedIn 0 text refused reach → out' ≡ out →
      Saves limits left left' out out' (ended.Refused refused)
  -- no line is refused of what could be read, and nothing was written
  unreadable : (text : List ℕ) → Gives left left' text → IsUnrefused 0 text → out' ≡ out →
      Saves limits left left' out out' ended.SourceFailed
  -- some first part of the image was taken
  unwritten : (text image : List ℕ) (items : List Item) → GivesAll left left' text →
      Spells 0 text items → IsSaved limits (events_of 0 items) image → TakesPrefix out out' image →
      Saves limits left left' out out' ended.SinkFailed
  wanting : (text image : List ℕ) (items : List Item) → GivesAll left left' text →
      Spells 0 text items → IsSaved limits (events_of 0 items) image → TakesPrefix out out' image →
      Saves limits left left' out out' ended.NoMemory
  -- memory was refused before anything was written
  wanting_early : (text : List ℕ) → Gives left left' text → out' ≡ out →
      Saves limits left left' out out' ended.NoMemory

-- THE IMAGE IS WRITTEN

-- what came of that, by how it ended
pub data Writes (limits : Limits) (h : History) (out out' : Option (List ℕ)) : Ended → Type 0 where
  all : (image : List ℕ) → IsLeft limits h image → Takes out out' image →
      Writes limits h out out' ended.Done
  part : (image : List ℕ) → IsLeft limits h image → TakesPrefix out out' image →
      Writes limits h out out' ended.SinkFailed
  short : (image : List ℕ) → IsLeft limits h image → TakesPrefix out out' image →
      Writes limits h out out' ended.NoMemory
  none : out' ≡ out → Writes limits h out out' ended.NoMemory
