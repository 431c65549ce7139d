-- What a fetch owes: the body of one resource, which its consumers read in parts.
use Rattle.std.specs.Prelude.{◌≡◌, ℕ, ◌+◌, ◌≤◌, ◌^◌, List, [], ◌∷◌, ◌++◌, length, codes, true, Option, Some}
use Rattle.hc_io.specs.Faults.{HasRisen}
use Rattle.hc_io.specs.Sink.{Takes, TakesPrefix}
use Rattle.hc_text.specs.Numbers.{IsPlain}
use Rattle.hc_sched.specs.declared.schedule.Ended.{Ended}
use Rattle.hc_sched.specs.declared.schedule.Ended.TheVariants as ended
use Rattle.hc_sched.specs.declared.schedule.Refused.{Refused}
use Rattle.hc_sched.specs.declared.schedule.Timed.{Timed}
use Rattle.hc_sched.specs.Schedule.{Item, Spells, events_of}
use Rattle.hc_driver.specs.Endings.{Reach, ToEnd, SoFar, IsUnrefused, IsRefusedIn, IsSteppedAtOnce, events_from}
use Rattle.hc_model.specs.Entries.{Entry, History}
use Rattle.hc_fetch.specs.declared.ended.FetchEnded.{FetchEnded}
use Rattle.hc_fetch.specs.declared.ended.FetchEnded.TheVariants as fetched
use Rattle.hc_fetch.specs.declared.plan.FetchPlan.{FetchPlan}
use Rattle.hc_fetch.specs.Bounds.{IsPlan}
use Rattle.hc_fetch.specs.Deciding.{is_foreign, decided_by, is_undecided, is_undecided_before}
use Rattle.hc_fetch.specs.Endings.{IsFetched, AreEvents, IsWholeBody, events_in}
use Rattle.hc_fetch.specs.Fetches.{ended_with}
use Rattle.hc_fetch.specs.Gathering.{written_of, written_before, written_last}
use Rattle.hc_app.specs.declared.status.Status.{Status}
use Rattle.hc_app.specs.declared.status.Status.TheVariants as status
use Rattle.hc_app.specs.Concluding.{Concludes}
use Rattle.hc_app.specs.Owing.{Owed, Quiet, Saying, Duty}
use Rattle.hc_app.specs.Replaying.{store_limits}
use Rattle.hc_app.specs.Texts.{refusal_text, fetch_text}

-- THE WORDS

-- such words ask for this: a target, in at most so many parts of so many bytes
pub record IsPlanOf (word target first second : List ℕ) (plan : FetchPlan) : Type 0 where
  pub word_is : word ≡ codes "fetch"
  pub key_is : plan.key ≡ target
  pub parts : IsPlain first plan.parts
  pub size : IsPlain second plan.size
  pub fits : IsPlan plan

abbrev pub NoPlan : List ℕ → List ℕ → List ℕ → List ℕ → Type 0
NoPlan word target first second = (plan : FetchPlan) → IsPlanOf word target first second plan → ⊥

pub record IsFetch (words : List (List ℕ)) (plan : FetchPlan) : Type 0 where
  pub word : List ℕ
  pub target : List ℕ
  pub first : List ℕ
  pub second : List ℕ
  pub are : words ≡ word ∷ target ∷ first ∷ second ∷ []
  pub plan_is : IsPlanOf word target first second plan

-- they ask for no fetch
abbrev pub NoFetch : List (List ℕ) → Type 0
NoFetch words = (plan : FetchPlan) → IsFetch words plan → ⊥

-- WHAT IS WRITTEN

-- The text is what such a fetch writes of these events, none of which decides how it ends.
pub record IsWritten (plan : FetchPlan) (events : List Timed) (f : History) (out : List ℕ) : Type 0 where
  pub is_fetched : IsFetched store_limits plan f
  pub undecided : is_undecided plan f ≡ true
  pub events_are : events_in f ≡ events
  pub out_is : written_of f ≡ out

-- What was written is owed, and the line of how the fetch ended: all of the body is without a line, once the input ends. Else
-- the input ended early, an event decided, one is foreign, or a line is refused.
pub data OwesFetch (plan : FetchPlan) : Reach → List ℕ → Owed → Type 0 where
  done : (text out : List ℕ) (items : List Item) (f : History) (total : ℕ) → Spells 0 text items →
      IsWritten plan (events_of 0 items) f out → ended_with f ≡ fetched.Done total →
      IsWholeBody plan f (fetched.Done total) → OwesFetch plan ToEnd text (Quiet out)
  unfinished : (text out : List ℕ) (items : List Item) (f : History) (written : ℕ) → Spells 0 text items →
      IsWritten plan (events_of 0 items) f out → ended_with f ≡ fetched.Unfinished written →
      OwesFetch plan ToEnd text
      (Saying out (fetch_text (fetched.Unfinished written)) status.FetchStopped)
  decided : (text : List ℕ) (first rest : List Timed) (e : Entry) (f : History) (by : FetchEnded) →
      IsSteppedAtOnce 0 text first rest → IsFetched store_limits plan (e ∷ f) →
      events_in (e ∷ f) ≡ first → is_undecided plan f ≡ true → decided_by plan f e.acts ≡ Some by →
      OwesFetch plan SoFar text (Saying (written_of (e ∷ f)) (fetch_text by) status.FetchStopped)
  foreign : (text out : List ℕ) (first rest : List Timed) (next : Timed) (f : History) →
      IsSteppedAtOnce 0 text (first ++ next ∷ []) rest → is_foreign next.event ≡ true →
      IsWritten plan first f out → OwesFetch plan SoFar text
      (Saying out (fetch_text (fetched.Foreign (length f + 1))) status.FetchStopped)
  refused : (reach : Reach) (text out : List ℕ) (f : History) (refused : Refused) →
      IsRefusedIn 0 text refused reach → IsWritten plan (events_from 0 text) f out →
      OwesFetch plan reach text (Saying out (refusal_text refused) status.Refused)

-- what the whole items wrote of what could be read is owed, none of whose lines is refused
pub record StopsFetch (plan : FetchPlan) (text out : List ℕ) : Type 0 where
  pub unrefused : IsUnrefused 0 text
  pub f : History
  pub written : IsWritten plan (events_from 0 text) f out

-- The events that were stepped are the first ones of what was read, and all of those before its last piece. The text is what
-- all but the last wrote, and the rest is what that one did.
pub record BeginsFetch (plan : FetchPlan) (text out next : List ℕ) : Type 0 where
  pub first : List Timed
  pub rest : List Timed
  pub stepped : IsSteppedAtOnce 0 text first rest
  pub f : History
  pub is_fetched : IsFetched store_limits plan f
  pub undecided_before : is_undecided_before plan f ≡ true
  pub events_are : AreEvents f first
  pub out_is : written_before f ≡ out
  pub next_is : written_last f ≡ next

abbrev pub fetching : FetchPlan → Duty
fetching plan = record { Owes = OwesFetch plan; Stops = StopsFetch plan; Begins = BeginsFetch plan }

-- HOW IT IS TOLD

-- it ended early by what is told
abbrev pub IsStopped : FetchEnded → Type 0
IsStopped (fetched.Foreign n) = Unit {0}
IsStopped (fetched.Failed c cause) = Unit {0}
IsStopped (fetched.Status c status) = Unit {0}
IsStopped (fetched.Other c r first) = Unit {0}
IsStopped (fetched.Unfinished written) = Unit {0}
IsStopped _ = ⊥

-- it ended as schedules do
pub data IsEndedAs : FetchEnded → Ended → Type 0 where
  done : (total : ℕ) → IsEndedAs (fetched.Done total) ended.Done
  refused : (refused : Refused) → IsEndedAs (fetched.Refused refused) (ended.Refused refused)
  unreadable : IsEndedAs fetched.SourceFailed ended.SourceFailed
  unwritten : IsEndedAs fetched.SinkFailed ended.SinkFailed
  wanting : IsEndedAs fetched.NoMemory ended.NoMemory

-- What the diagnostics took of a fetch's ending, by the status.
pub data ConcludesFetch (diag diag' : Option (List ℕ)) (faults faults' : ℕ) : FetchEnded → Status → Type 0 where
  as_schedule : (end : FetchEnded) (e : Ended) (s : Status) → IsEndedAs end e →
      Concludes diag diag' faults faults' e s → ConcludesFetch diag diag' faults faults' end s
  reported : (end : FetchEnded) → IsStopped end → Takes diag diag' (fetch_text end) → faults' ≡ faults →
      ConcludesFetch diag diag' faults faults' end status.FetchStopped
  unreported : (end : FetchEnded) → IsStopped end → TakesPrefix diag diag' (fetch_text end) →
      HasRisen faults faults' → ConcludesFetch diag diag' faults faults' end status.SinkFailed
  wanting_word : (end : FetchEnded) → IsStopped end → TakesPrefix diag diag' (fetch_text end) →
      faults' ≡ faults → ConcludesFetch diag diag' faults faults' end status.NoMemory
