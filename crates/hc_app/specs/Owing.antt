-- What a command does with its streams, whatever it owes.
use Rattle.std.specs.Prelude.{◌≡◌, ℕ, List, Option}
use Rattle.hc_io.specs.Faults.{HasRisen}
use Rattle.hc_io.specs.Sink.{Takes, TakesPrefix}
use Rattle.hc_io.specs.Source.{Gives}
use Rattle.hc_driver.specs.Courses.{TakesThenPrefix}
use Rattle.hc_driver.specs.Endings.{Reach, IsRead}
use Rattle.hc_app.specs.declared.status.Status.{Status}
use Rattle.hc_app.specs.declared.status.Status.TheVariants as status

-- What the streams tell: the bytes left of the input, those that the others took, and how often these failed.
pub record Streams : Type 0 where
  pub left : Option (List ℕ)
  pub out : Option (List ℕ)
  pub diag : Option (List ℕ)
  pub out_faults : ℕ
  pub diag_faults : ℕ

-- they tell this, in the same order
abbrev pub streams : Option (List ℕ) → Option (List ℕ) → Option (List ℕ) → ℕ → ℕ → Streams
streams left out diag out_faults diag_faults = record {
  left = left;
  out = out;
  diag = diag;
  out_faults = out_faults;
  diag_faults = diag_faults;
}

-- WHAT IS OWED

-- What is owed for what was read: an output; or an output, a word on the diagnostics and a status.
pub data Owed : Type 0 where
  Quiet : (out : List ℕ) → Owed
  Saying : (out word : List ℕ) → Status → Owed

-- A command, by what it owes.
pub record Duty : Type 1 where
  -- what it owes for a text that it read
  pub Owes : Reach → List ℕ → Owed → Type 0
  -- the output that it owes where its input fails behind a text
  pub Stops : List ℕ → List ℕ → Type 0
  -- behind a text it may have written all of an output, and some first part of what comes next
  pub Begins : List ℕ → List ℕ → List ℕ → Type 0

-- for a command that reads no input
abbrev pub NeverStops : List ℕ → List ℕ → Type 0
NeverStops text out = ⊥

-- for a command that writes no output
abbrev pub NeverBegins : List ℕ → List ℕ → List ℕ → Type 0
NeverBegins text out next = ⊥

-- WHICH STREAM FAILED

-- the output failed and the diagnostics didn't, which took nothing
pub record IsOutFailure (before after : Streams) : Type 0 where
  pub failed : HasRisen before.out_faults after.out_faults
  pub unsaid : after.diag ≡ before.diag
  pub sound : after.diag_faults ≡ before.diag_faults

-- the diagnostics failed and the output didn't
pub record IsDiagFailure (before after : Streams) : Type 0 where
  pub failed : HasRisen before.diag_faults after.diag_faults
  pub sound : after.out_faults ≡ before.out_faults

-- WHAT WAS DONE

-- What a command did, by its status.
pub data Does (duty : Duty) (before after : Streams) : Status → Type 0 where
  -- all that is owed was taken
  done : (reach : Reach) (text out : List ℕ) → IsRead reach before.left after.left text →
      duty.Owes reach text (Quiet out) → Takes before.out after.out out →
      after.diag ≡ before.diag → Does duty before after status.Done
  said : (reach : Reach) (text out word : List ℕ) (s : Status) →
      IsRead reach before.left after.left text → duty.Owes reach text (Saying out word s) →
      Takes before.out after.out out → Takes before.diag after.diag word →
      Does duty before after s
  -- the input failed, and the output that is owed then was taken
  unreadable : (text out : List ℕ) → Gives before.left after.left text → duty.Stops text out →
      Takes before.out after.out out → after.diag ≡ before.diag →
      Does duty before after status.SourceFailed
  -- the output failed behind all of one part, within the next
  unwritten : (text out next : List ℕ) → Gives before.left after.left text →
      duty.Begins text out next → TakesThenPrefix before.out after.out out next →
      IsOutFailure before after → Does duty before after status.SinkFailed
  wanting : (text out next : List ℕ) → Gives before.left after.left text →
      duty.Begins text out next → TakesThenPrefix before.out after.out out next →
      after.diag ≡ before.diag → Does duty before after status.NoMemory
  -- all of the output was taken, and some first part of the word; the diagnostics failed
  unsaid : (reach : Reach) (text out word : List ℕ) (s : Status) →
      IsRead reach before.left after.left text → duty.Owes reach text (Saying out word s) →
      Takes before.out after.out out → TakesPrefix before.diag after.diag word →
      IsDiagFailure before after → Does duty before after status.SinkFailed
  wanting_word : (reach : Reach) (text out word : List ℕ) (s : Status) →
      IsRead reach before.left after.left text → duty.Owes reach text (Saying out word s) →
      Takes before.out after.out out → TakesPrefix before.diag after.diag word →
      Does duty before after status.NoMemory
  -- nothing was read, written or said
  wanting_all : after ≡ before → Does duty before after status.NoMemory
