-- The run of the generator on a cache in memory.
use Rattle.std.specs.Prelude.{◌≡◌, ℕ, ◌+◌, ◌*◌, ◌<◌, ◌≤◌, ◌^◌, List, Option}
use Rattle.hc_io.specs.Sink.{Takes, TakesPrefix}
use Rattle.hc_rules.specs.declared.room.Limits.{Limits}
use Rattle.hc_sched.specs.declared.schedule.Ended.{Ended}
use Rattle.hc_sched.specs.declared.schedule.Ended.TheVariants as ended
use Rattle.hc_model.specs.Entries.{History, no_contents}
use Rattle.hc_core.specs.Steps.{StandsFor, last_moment, steps, bytes_received, limits_in}
use Rattle.hc_replay.specs.Summaries.{HasGone, IsSummary}
use Rattle.hc_replay.specs.declared.rounds.Rounds.{Rounds}

-- WHAT THE CODE KEEPS

-- a round more has small numbers, and its event comes no earlier
pub record MayGoOn (r : Rounds) : Type 0 where
  pub moment : r.generator.moment < 2 ^ 61
  pub last : r.generator.last < 2 ^ 61
  pub later : last_moment r.cache ≤ r.generator.moment
  pub few : steps r.cache < 2 ^ 60
  pub small : bytes_received r.cache < 2 ^ 60

-- the generator has gone so many rounds, the cache stands for what happened, and numbers are small
pub record Stands (limits : Limits) (seed n : ℕ) (r : Rounds) : Type 0 where
  pub history : History
  pub gone : HasGone limits seed n r.generator history
  pub stands : StandsFor r.cache no_contents history
  pub limited : limits_in r.cache ≡ limits
  pub moment : r.generator.moment ≤ 1000000 + 30 * n
  pub last : r.generator.last ≤ n
  pub later : last_moment r.cache ≤ r.generator.moment
  pub few : steps r.cache ≤ n
  pub small : bytes_received r.cache ≤ 512 * n

-- HOW IT ENDS

-- What the sink took of the summary, by how the run ended.
pub data Generates (limits : Limits) (seed n : ℕ) (out out' : Option (List ℕ)) : Ended → Type 0 where
  done : (text : List ℕ) → IsSummary limits seed n text → Takes out out' text →
      Generates limits seed n out out' ended.Done
  unwritten : (text : List ℕ) → IsSummary limits seed n text → TakesPrefix out out' text →
      Generates limits seed n out out' ended.SinkFailed
  wanting : (text : List ℕ) → IsSummary limits seed n text → TakesPrefix out out' text →
      Generates limits seed n out out' ended.NoMemory
  unfinished : out' ≡ out → Generates limits seed n out out' ended.NoMemory
