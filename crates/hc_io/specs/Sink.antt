-- What a sink takes, and when it fails.
use Rattle.std.specs.Prelude.{◌≡◌, ℕ, ◌≤◌, List, ◌++◌, Option, Some, None, Result, IsErrOf}
use Rattle.hc_io.specs.declared.sink.SinkError.{SinkError}
use Rattle.hc_io.specs.declared.sink.SinkError.TheVariants.{SinkFailed}
use Rattle.hc_io.specs.Faults.{HasRisen}

-- The count of faults never falls, and SinkFailed comes only where it rose.
pub record HasSinkCause {T : Type 0} (before now : ℕ) (result : Result T SinkError) : Type 0 where
  pub later : before ≤ now
  pub failed : IsErrOf result SinkFailed → HasRisen before now

-- The bytes went in after what was taken before, if the sink tells what it takes.
abbrev pub Takes : Option (List ℕ) → Option (List ℕ) → List ℕ → Type 0
Takes None new bytes = new ≡ None
Takes (Some old) new bytes = new ≡ Some (old ++ bytes)

-- Some first of the bytes went in.
pub record TakesPrefix (old new : Option (List ℕ)) (bytes : List ℕ) : Type 0 where
  pub front : List ℕ
  pub rest : List ℕ
  pub whole : front ++ rest ≡ bytes
  pub takes : Takes old new front
