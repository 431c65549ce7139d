-- What the program does. Read `Owing` first: what any command does with its streams, by its status. Then what each
-- owes: `Replaying`, `Generating`, `Saving`, `Opening`, `Fronting` and `Fetching`.
use Rattle.std.specs.Prelude.{◌≡◌, ◌⊎◌, ℕ, List, [], Option, Some}
use Rattle.hc_sched.specs.declared.schedule.Refused.{Refused}
use Rattle.hc_sched.specs.Reading.{refusal_of}
use Rattle.hc_sched.specs.Schedule.{Item, Spells}
use Rattle.hc_driver.specs.Endings.{Reach, SoFar}
use Rattle.hc_model.specs.Entries.{Contents}
use Rattle.hc_saving.specs.declared.open.OpenEnded.{OpenEnded}
use Rattle.hc_wire.specs.Logs.{Log}
use Rattle.hc_wire.specs.declared.event.Address.{Address}
use Rattle.hc_app.specs.declared.command.Command.{Command}
use Rattle.hc_app.specs.declared.command.Command.TheVariants as command
use Rattle.hc_app.specs.declared.status.Status.{Status}
use Rattle.hc_app.specs.declared.status.Status.TheVariants as status
use Rattle.hc_app.specs.Answering.{AnswersOrigin}
use Rattle.hc_app.specs.Commands.{IsCommand, IsNoCommand}
use Rattle.hc_fetch.specs.declared.plan.FetchPlan.{FetchPlan}
use Rattle.hc_app.specs.Fetching.{IsFetch, NoFetch, fetching}
use Rattle.hc_app.specs.Fronting.{fronting}
use Rattle.hc_app.specs.Generating.{generating}
use Rattle.hc_app.specs.Owing.{Streams, Owed, Saying, Duty, NeverStops, NeverBegins, Does}
use Rattle.hc_app.specs.Opening.{IsTaken, IsRefusedImage, opening}
use Rattle.hc_app.specs.Replaying.{replaying}
use Rattle.hc_app.specs.Saving.{saving}
use Rattle.hc_app.specs.Serving.{ServesFrom, IsSilent}
use Rattle.hc_app.specs.Statuses.{code_of}
use Rattle.hc_app.specs.Texts.{usage_text}

-- WHAT THE WORDS ASK FOR

-- a command that owes its streams nothing
abbrev pub OwesNothing : Reach → List ℕ → Owed → Type 0
OwesNothing reach text owed = ⊥

abbrev pub no_duty : Duty
no_duty = record { Owes = OwesNothing; Stops = NeverStops; Begins = NeverBegins }

-- what a command owes its streams
abbrev pub duty_of : Command → Duty
duty_of command.Replay = replaying
duty_of (command.Generate seed count) = generating seed count
duty_of command.Save = saving
duty_of command.Open = opening
duty_of command.Conditional = fronting
duty_of (command.Origin listen turns) = no_duty
duty_of (command.Serve listen origin turns) = no_duty

-- nothing is read or written, and the usage is told
pub data OwesUsage : Reach → List ℕ → Owed → Type 0 where
  usage_alone : OwesUsage SoFar [] (Saying [] usage_text status.Usage)

abbrev pub saying_usage : Duty
saying_usage = record { Owes = OwesUsage; Stops = NeverStops; Begins = NeverBegins }

-- THE PROGRAM

-- What the program did, by its status: what the words ask for, a command or a fetch, and else the usage. The wire is called for
-- the test origin, which uses no stream, and for the serving loop, which writes its record.
pub data Keeps (words : List (List ℕ)) (before after : Streams) (reported reported' : Option Log) : Status → Type 0 where
  obeyed : {s : Status} (command : Command) → IsCommand words command →
      Does (duty_of command) before after s → reported' ≡ reported → Keeps words before after reported reported' s
  answered : {s : Status} (listen : Address) (turns : ℕ) → IsCommand words (command.Origin listen turns) →
      AnswersOrigin listen turns reported reported' s → after ≡ before → Keeps words before after reported reported' s
  served : {s : Status} (listen origin : Address) (turns : ℕ) →
      IsCommand words (command.Serve listen origin turns) →
      ServesFrom listen origin turns reported reported' before.out after.out s → IsSilent before after →
      Keeps words before after reported reported' s
  fetched : {s : Status} (plan : FetchPlan) → IsFetch words plan → Does (fetching plan) before after s →
      reported' ≡ reported → Keeps words before after reported reported' s
  reported : {s : Status} → IsNoCommand words → NoFetch words → Does saying_usage before after s →
      reported' ≡ reported → Keeps words before after reported reported' s
  -- the words could not be read
  wanting : after ≡ before → reported' ≡ reported → Keeps words before after reported reported' status.NoMemory

-- A status with its exit number, and what the program did.
pub record Ends (code : ℕ) (words : List (List ℕ)) (before after : Streams) (reported reported' : Option Log) : Type 0 where
  pub ended : Status
  pub code_is : code ≡ code_of ended
  pub keeps : Keeps words before after reported reported' ended

-- COMPLETENESS

-- The status that is due for the words and the input, over streams that never fail, where no wire is used.
pub data IsDue (words : List (List ℕ)) (input : List ℕ) : Status → Type 0 where
  spelled : (items : List Item) → IsCommand words command.Replay → Spells 0 input items →
      IsDue words input status.Done
  refused : (refused : Refused) → IsCommand words command.Replay →
      refusal_of 0 input ≡ Some refused → IsDue words input status.Refused
  generated : (seed count : ℕ) → IsCommand words (command.Generate seed count) →
      IsDue words input status.Done
  saved : (items : List Item) → IsCommand words command.Save → Spells 0 input items →
      IsDue words input status.Done
  unsaved : (refused : Refused) → IsCommand words command.Save →
      refusal_of 0 input ≡ Some refused → IsDue words input status.Refused
  opened : (contents : Contents) (schedule : List ℕ) (items : List Item) →
      IsCommand words command.Open → IsTaken input contents schedule →
      Spells contents.now schedule items → IsDue words input status.Done
  stopped : (contents : Contents) (schedule : List ℕ) (refused : Refused) →
      IsCommand words command.Open → IsTaken input contents schedule →
      refusal_of contents.now schedule ≡ Some refused → IsDue words input status.Refused
  no_image : (e : OpenEnded) → IsCommand words command.Open → IsRefusedImage input e →
      IsDue words input status.ImageRefused
  fronted : (items : List Item) → IsCommand words command.Conditional → Spells 0 input items →
      IsDue words input status.Done
  unfronted : (refused : Refused) → IsCommand words command.Conditional →
      refusal_of 0 input ≡ Some refused → IsDue words input status.Refused
  no_command : IsNoCommand words → NoFetch words → IsDue words input status.Usage

-- it comes, or that of want of memory
abbrev pub Completes : ℕ → List (List ℕ) → List ℕ → Type 0
Completes code words input =
    (s : Status) → IsDue words input s → (code ≡ code_of s) ⊎ (code ≡ 6)
