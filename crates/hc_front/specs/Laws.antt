-- What a front does, over whole histories.
use Rattle.std.specs.Prelude.{◌≡◌, ℕ, ◌+◌, [], ◌∷◌, ◌++◌, Bool, true, false, Some, None}
use Rattle.hc_event.specs.Filters.{is_denied}
use Rattle.hc_event.specs.declared.act.Act.TheVariants as act
use Rattle.hc_event.specs.declared.act.Need.TheVariants as need
use Rattle.hc_event.specs.declared.act.Wait.TheVariants as wait
use Rattle.hc_event.specs.declared.event.Event.{Event}
use Rattle.hc_event.specs.declared.event.Event.TheVariants as event
use Rattle.hc_event.specs.declared.event.Request.{Request}
use Rattle.hc_rules.specs.Requests.{is_only}
use Rattle.hc_rules.specs.declared.room.Limits.{Limits}
use Rattle.hc_model.specs.Beginnings.{may_begin}
use Rattle.hc_model.specs.ConsumerRows.{new_consumer}
use Rattle.hc_model.specs.Entries.{Contents}
use Rattle.hc_model.specs.Flaws.{failures_in}
use Rattle.hc_model.specs.Histories.{given_of}
use Rattle.hc_model.specs.Runs.{IsRun}
use Rattle.hc_replay.specs.Histories.{run_of}
use Rattle.hc_front.specs.declared.watches.Watched.{Watched}
use Rattle.hc_condition.specs.External.{is_external}
use Rattle.hc_front.specs.Fronts.{FrontEntry, reported}
use Rattle.hc_front.specs.FrontHistories.{FrontHistory, fronted, core_of, answered_of}

-- WHO IS TOLD THAT ITS COPY HOLDS

-- it was given no byte before that, and is given none later, whatever comes
abbrev pub SatisfiedGetNothing : Type 0
SatisfiedGetNothing =
    (limits : Limits) (contents : Contents) (later f : FrontHistory) →
    may_begin limits contents ≡ true → IsRun limits contents (core_of contents (later ++ f)) →
    (c : ℕ) (w : Watched) → (fronted contents f).watched c ≡ Some w → w.satisfied ≡ true →
    given_of c (run_of (answered_of contents (later ++ f))) ≡ []

-- WHO ISN'T UNDER WATCH

-- A consumer that isn't under watch started with a request on condition of a copy, which isn't for what is stored alone. The
-- first of its polls that is accepted sends that request to the origin as it is, unless a read fails.
abbrev pub ConditionsGoOn : Type 0
ConditionsGoOn =
    (limits : Limits) (contents : Contents) (f : FrontHistory) (e : FrontEntry) →
    may_begin limits contents ≡ true → IsRun limits contents (core_of contents (e ∷ f)) →
    (c want since : ℕ) (request : Request) → (fronted contents f).watched c ≡ None →
    (fronted contents f).core.consumer c ≡ Some (new_consumer since request) →
    is_external request ≡ true → is_only request ≡ false → e.event ≡ event.Poll c want →
    is_denied e.acts ≡ false → failures_in e.acts ≡ 0 →
    let x = (fronted contents f).core.opened + 1 in
    reported (fronted contents f) e.event e.acts
    ≡ act.Opened x c need.Disabled request ∷ act.Pending c (wait.Head x) ∷ []

-- WHERE NOBODY ASKS SO

-- somebody starts on condition of a copy that it has
abbrev pub starts_external : Event → Bool
starts_external (event.Start c request) = is_external request
starts_external _ = false

-- nobody does
abbrev pub HasNoneExternal : FrontHistory → Type 0
HasNoneExternal [] = Unit {0}
HasNoneExternal (e ∷ f) = HasNoneExternal f × (starts_external e.event ≡ false)

-- where nobody asks on condition of a copy the front's history is that of the cache
abbrev pub IsPlainElse : Type 0
IsPlainElse =
    (contents : Contents) (f : FrontHistory) → HasNoneExternal f →
    run_of (answered_of contents f) ≡ core_of contents f
