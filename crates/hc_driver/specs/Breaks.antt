-- What came of a text that may be cut anywhere: all of it was read, or something stopped the reading before its end.
use Rattle.std.specs.Prelude.{◌≡◌, ℕ, List, ◌∷◌, Option}
use Rattle.hc_io.specs.Source.{Gives, GivesAll}
use Rattle.hc_sched.specs.declared.schedule.Refused.{Refused}
use Rattle.hc_sched.specs.declared.schedule.Timed.{Timed}
use Rattle.hc_sched.specs.Reading.{beginning, Progress, after}
use Rattle.hc_driver.specs.declared.stop.Stop.{Stop}
use Rattle.hc_driver.specs.declared.stop.Stop.TheVariants as stop
use Rattle.hc_driver.specs.Endings.{How, Wholly, UpToEnd, UpToLast, UpToWant, IsUnrefused, IsRefusedAtOnce, IsSteppedAtOnce, events_from}

-- The whole text was read from this moment on, up to there, no line of it is refused, and its whole events went wholly.
pub record IsReadOut (Went : How → List Timed → Type 0) (moment : ℕ) (left left' : Option (List ℕ)) (feed : Progress) : Type 0 where
  pub text : List ℕ
  pub gives : GivesAll left left' text
  pub leads : after (beginning moment) text ≡ feed
  pub unrefused : IsUnrefused moment text
  pub went : Went Wholly (events_from moment text)

-- What stopped the reading of a text from this moment on, before its end.
pub data Breaks (Went : How → List Timed → Type 0) (moment : ℕ) (left left' : Option (List ℕ)) : Stop → Type 0 where
  -- nothing more was answered behind some first events
  over : (text : List ℕ) (first rest : List Timed) → Gives left left' text → IsSteppedAtOnce moment text first rest →
      Went UpToEnd first → Breaks Went moment left left' stop.Over
  refused : (text : List ℕ) (refused : Refused) → Gives left left' text → IsRefusedAtOnce moment text refused →
      Went Wholly (events_from moment text) → Breaks Went moment left left' (stop.Refused refused)
  -- no line is refused of what could be read
  unreadable : (text : List ℕ) → Gives left left' text → IsUnrefused moment text → Went Wholly (events_from moment text) →
      Breaks Went moment left left' stop.SourceFailed
  unwritten : (text : List ℕ) (first rest : List Timed) → Gives left left' text → IsSteppedAtOnce moment text first rest →
      Went UpToLast first → Breaks Went moment left left' stop.SinkFailed
  -- memory was refused outside of the answers, or for the next one
  wanting : (text : List ℕ) (first rest : List Timed) → Gives left left' text → IsSteppedAtOnce moment text first rest →
      Went UpToLast first → Breaks Went moment left left' stop.NoMemory
  wanting_answer : (text : List ℕ) (first rest : List Timed) (next : Timed) → Gives left left' text →
      IsSteppedAtOnce moment text first (next ∷ rest) → Went UpToWant first → Breaks Went moment left left' stop.NoMemory
