-- What a run of the generator owes: the summary of so many rounds. It reads no input.
use Rattle.std.specs.Prelude.{◌≡◌, ℕ, List, []}
use Rattle.hc_driver.specs.Endings.{Reach, SoFar}
use Rattle.hc_replay.specs.Summaries.{IsSummary}
use Rattle.hc_app.specs.Owing.{Owed, Quiet, Duty, NeverStops}
use Rattle.hc_app.specs.Replaying.{store_limits}

pub data Generates (seed count : ℕ) : Reach → List ℕ → Owed → Type 0 where
  made : (summary : List ℕ) → IsSummary store_limits seed count summary →
      Generates seed count SoFar [] (Quiet summary)

-- nothing was read, and nothing is written before the summary
pub record BeginsSummary (seed count : ℕ) (text out summary : List ℕ) : Type 0 where
  pub unread : text ≡ []
  pub nothing : out ≡ []
  pub is_summary : IsSummary store_limits seed count summary

abbrev pub generating : ℕ → ℕ → Duty
generating seed count =
    record { Owes = Generates seed count; Stops = NeverStops; Begins = BeginsSummary seed count }
