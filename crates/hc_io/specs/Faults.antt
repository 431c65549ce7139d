-- Counts of faults.
use Rattle.std.specs.Prelude.{◌≡◌, ◌⊎◌, ℕ, ◌+◌, ◌-◌, ◌<◌, ◌^◌, min, Bool, if◌then◌else◌}

-- A count rose. At its end it counts as risen.
abbrev pub HasRisen : ℕ → ℕ → Type 0
HasRisen before now = (before < now) ⊎ (now ≡ 2 ^ 64 - 1)

-- A count after one more. At its end it stands still.
abbrev pub one_more : ℕ → ℕ
one_more n = min (n + 1) (2 ^ 64 - 1)

-- A count of faults after a call that failed or did not: a fault is counted once.
abbrev pub faults_after : ℕ → Bool → ℕ
faults_after n failed = if failed then one_more n else n
