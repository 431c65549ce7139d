-- A run that goes on from what an image has.
use Rattle.std.specs.Prelude.{◌≡◌, ℕ, List, ◌++◌, true}
use Rattle.hc_sched.specs.declared.schedule.Timed.{Timed}
use Rattle.hc_driver.specs.Stepping as steps
use Rattle.hc_driver.specs.Stepping.{events_in}
use Rattle.hc_rules.specs.declared.room.Limits.{Limits}
use Rattle.hc_model.specs.Beginnings.{may_begin}
use Rattle.hc_model.specs.Contents.{contents_of}
use Rattle.hc_model.specs.Denials.{live}
use Rattle.hc_model.specs.Entries.{History, Contents}
use Rattle.hc_model.specs.Numbers.{AreShort}
use Rattle.hc_model.specs.Runs.{IsRun}
use Rattle.hc_model.specs.Tables.{tables}
use Rattle.hc_replay.specs.Histories.{run_of, failures}
use Rattle.hc_replay.specs.WholeRuns.{IsWholeRun}
use Rattle.hc_image.specs.Spelled.{SpellsImage}

-- The text is an image of the contents, and then this schedule.
pub record IsOpened (text : List ℕ) (contents : Contents) (schedule : List ℕ) : Type 0 where
  pub image : List ℕ
  pub is_image : SpellsImage image contents
  pub text_is : image ++ schedule ≡ text

-- A run that nobody is live behind leaves these contents.
pub record Leaves (limits : Limits) (before : Contents) (h : History) (contents : Contents) : Type 0 where
  pub begins : may_begin limits before ≡ true
  pub short : AreShort before
  pub run : IsRun limits before h
  pub empty : live (tables before h) ≡ 0
  pub contents_are : contents_of (tables before h) ≡ contents

-- These events are a run from the contents, over a store that never fails, and go on with each run that leaves them.
pub record IsContinued (limits : Limits) (contents : Contents) (events : List Timed) (h : steps.History) : Type 0 where
  pub events_are : events_in h ≡ events
  pub whole : IsWholeRun limits contents (run_of h)
  pub goes_on : (before : Contents) (earlier : History) → Leaves limits before earlier contents →
      IsWholeRun limits before (run_of h ++ earlier)
  pub sound : failures h ≡ 0
