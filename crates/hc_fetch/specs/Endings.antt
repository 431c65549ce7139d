-- What came of a fetch, by how it ended.
use Rattle.std.specs.Prelude.{◌≡◌, ℕ, ◌+◌, List, [], ◌∷◌, ◌++◌, length, false, true, Option, Some}
use Rattle.hc_io.specs.Sink.{Takes}
use Rattle.hc_io.specs.Source.{Gives, GivesAll}
use Rattle.hc_sched.specs.declared.schedule.Ended.{Ended}
use Rattle.hc_sched.specs.declared.schedule.Ended.TheVariants as course
use Rattle.hc_sched.specs.declared.schedule.Refused.{Refused}
use Rattle.hc_sched.specs.declared.schedule.Timed.{Timed}
use Rattle.hc_sched.specs.Schedule.{Item, Spells, events_of}
use Rattle.hc_driver.specs.Courses.{TakesThenPrefix}
use Rattle.hc_driver.specs.Endings.{Reach, IsRead, IsUnrefused, IsRefusedIn, IsSteppedAtOnce, events_from}
use Rattle.hc_rules.specs.declared.room.Limits.{Limits}
use Rattle.hc_model.specs.Entries.{Entry, History, no_contents}
use Rattle.hc_model.specs.Flaws.{failures_in}
use Rattle.hc_model.specs.Reads.{ReadsWhole, Holds, end_of}
use Rattle.hc_model.specs.Runs.{IsRun}
use Rattle.hc_model.specs.Tables.{tables}
use Rattle.hc_fetch.specs.declared.ended.FetchEnded.{FetchEnded}
use Rattle.hc_fetch.specs.declared.ended.FetchEnded.TheVariants as ended
use Rattle.hc_fetch.specs.declared.plan.FetchPlan.{FetchPlan}
use Rattle.hc_fetch.specs.Deciding.{is_foreign, has_foreign, decided_by, is_undecided, is_undecided_before}
use Rattle.hc_fetch.specs.Fetches.{cache_history, ended_with}
use Rattle.hc_fetch.specs.Gathering.{written_of, written_before, written_last}
use Rattle.hc_fetch.specs.Heads.{Head, first_head}

-- the events, the oldest first, each at its moment
abbrev pub events_in : History → List Timed
events_in [] = []
events_in (e ∷ f) = events_in f ++ record { now = e.now; event = e.event } ∷ []

-- how often acts tell that the store failed
abbrev pub failures : History → ℕ
failures [] = 0
failures (e ∷ f) = failures_in e.acts + failures f

-- None of these events is foreign. With the fetch's own consumers they are a run, over a store that never fails, in which each
-- consumer reads one answer whole. What is written stands in the body that the first consumer was shown, from 0 on.
pub record IsFetched (limits : Limits) (plan : FetchPlan) (f : History) : Type 0 where
  pub run : IsRun limits no_contents (cache_history plan f)
  pub reads : ReadsWhole no_contents (cache_history plan f)
  pub sound : failures f ≡ 0
  pub own : has_foreign f ≡ false
  pub body : (head : Head) → first_head f ≡ Some head →
      Holds (tables no_contents (cache_history plan f)) head.r 0 (written_of f)

-- All these events are such a run, none of them decided how it ends, and all that is written was taken.
pub record WritesAll (limits : Limits) (plan : FetchPlan) (events : List Timed) (f : History) (out out' : Option (List ℕ)) : Type 0 where
  pub is_fetched : IsFetched limits plan f
  pub undecided : is_undecided plan f ≡ true
  pub events_are : events_in f ≡ events
  pub taken : Takes out out' (written_of f)

-- the events are these, or these and a foreign one
pub data AreEvents (f : History) : List Timed → Type 0 where
  all : {events : List Timed} → events_in f ≡ events → AreEvents f events
  before_foreign : {events : List Timed} (next : Timed) → is_foreign next.event ≡ true →
      events_in f ++ next ∷ [] ≡ events → AreEvents f events

-- All these events are such a run, none of them decided but maybe the last one, and all that is written was taken but for a last
-- part of what that one brought.
pub record WritesSome (limits : Limits) (plan : FetchPlan) (events : List Timed) (out out' : Option (List ℕ)) : Type 0 where
  pub f : History
  pub is_fetched : IsFetched limits plan f
  pub undecided_before : is_undecided_before plan f ≡ true
  pub events_are : AreEvents f events
  pub taken : TakesThenPrefix out out' (written_before f) (written_last f)

-- at Done all of the body was written
abbrev pub IsWholeBody : FetchPlan → History → FetchEnded → Type 0
IsWholeBody plan f (ended.Done total) =
    (head : Head) → first_head f ≡ Some head →
    end_of (tables no_contents (cache_history plan f)) head.r ≡ Some total
IsWholeBody plan f _ = Unit {0}

-- What came of a fetch, by how it ended: what its source had left before and after, and what its sink had taken.
pub data Fetches (limits : Limits) (plan : FetchPlan) (left left' out out' : Option (List ℕ)) : FetchEnded → Type 0 where
  -- the input ended: all was written, or not
  at_end : {by : FetchEnded} (text : List ℕ) (items : List Item) (f : History) →
      GivesAll left left' text → Spells 0 text items →
      WritesAll limits plan (events_of 0 items) f out out' → ended_with f ≡ by →
      IsWholeBody plan f by → Fetches limits plan left left' out out' by
  -- the last of the events that were stepped decided
  decided : {by : FetchEnded} (text : List ℕ) (first rest : List Timed) (e : Entry) (f : History) →
      Gives left left' text → IsSteppedAtOnce 0 text first rest →
      IsFetched limits plan (e ∷ f) → events_in (e ∷ f) ≡ first → is_undecided plan f ≡ true →
      decided_by plan f e.acts ≡ Some by → Takes out out' (written_of (e ∷ f)) →
      Fetches limits plan left left' out out' by
  -- the next event is foreign
  foreign : (text : List ℕ) (first rest : List Timed) (next : Timed) (f : History) →
      Gives left left' text → IsSteppedAtOnce 0 text (first ++ next ∷ []) rest →
      is_foreign next.event ≡ true → WritesAll limits plan first f out out' →
      Fetches limits plan left left' out out' (ended.Foreign (length f + 1))
  -- the text is refused behind these events
  refused : (reach : Reach) (text : List ℕ) (refused : Refused) (f : History) →
      IsRead reach left left' text → IsRefusedIn 0 text refused reach →
      WritesAll limits plan (events_from 0 text) f out out' →
      Fetches limits plan left left' out out' (ended.Refused refused)
  -- no line is refused of what could be read
  unreadable : (text : List ℕ) (f : History) → Gives left left' text → IsUnrefused 0 text →
      WritesAll limits plan (events_from 0 text) f out out' →
      Fetches limits plan left left' out out' ended.SourceFailed
  unwritten : (text : List ℕ) (first rest : List Timed) → Gives left left' text →
      IsSteppedAtOnce 0 text first rest → WritesSome limits plan first out out' →
      Fetches limits plan left left' out out' ended.SinkFailed
  wanting : (text : List ℕ) (first rest : List Timed) → Gives left left' text →
      IsSteppedAtOnce 0 text first rest → WritesSome limits plan first out out' →
      Fetches limits plan left left' out out' ended.NoMemory

-- how a fetch ends by what ended its course, before that was over
abbrev pub ended_as : Ended → FetchEnded
ended_as (course.Refused why) = ended.Refused why
ended_as course.SourceFailed = ended.SourceFailed
ended_as course.SinkFailed = ended.SinkFailed
ended_as _ = ended.NoMemory
