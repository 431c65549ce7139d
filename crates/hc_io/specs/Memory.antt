-- What sources and sinks in memory hold.
use Rattle.std.specs.Prelude.{ℕ, List, Contains, Bool}
use Rattle.hc_io.specs.Faults.{one_more, faults_after}

-- The numbers of the calls that are to fail, from 1, and how many calls and faults there were.
pub record Script : Type 0 where
  pub fails : List ℕ
  pub calls : ℕ
  pub faults : ℕ

-- The next call is one that is to fail.
abbrev pub FailsNext : Script → Type 0
FailsNext s = Contains s.fails (one_more s.calls)

-- A script after one call, which failed or did not.
abbrev pub after_call : Script → Bool → Script
after_call s failed = record s { calls = one_more s.calls; faults = faults_after s.faults failed }

-- A script before the first call.
abbrev pub new_script : List ℕ → Script
new_script fails = record { fails = fails; calls = 0; faults = 0 }

-- The bytes left, how many were given, and how many are given at most in a call.
pub record SourceState : Type 0 where
  pub left : List ℕ
  pub given : ℕ
  pub step : ℕ
  pub script : Script

-- The bytes taken.
pub record SinkState : Type 0 where
  pub taken : List ℕ
  pub script : Script

-- The bytes left, and how many were given.
pub record PlainState : Type 0 where
  pub left : List ℕ
  pub given : ℕ
