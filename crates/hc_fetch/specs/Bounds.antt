-- What a fetch may have: its plan, and how many steps its cache made.
use Rattle.std.specs.Prelude.{◌≡◌, ℕ, ◌+◌, ◌*◌, ◌≤◌, ◌^◌, nat_lt, Bool, true, Option, Some, None}
use Rattle.hc_target.specs.Targets.{is_target}
use Rattle.hc_store.specs.declared.backend.Backend.{Ghosts}
use Rattle.hc_fetch.specs.declared.first.First.{First}
use Rattle.hc_fetch.specs.declared.plan.FetchPlan.{FetchPlan}

pub record IsPlan (plan : FetchPlan) : Type 0 where
  pub target : is_target plan.key ≡ true
  pub some_parts : 1 ≤ plan.parts
  pub parts : plan.parts ≤ 1000
  pub some_bytes : 1 ≤ plan.size
  pub size : plan.size ≤ 2 ^ 40

-- no call of such a store counts a failure
abbrev pub NeverFails : {B : Type 0} → Ghosts B → Type 0
NeverFails {B} g = (a b : B) → g.faults a ≡ g.faults b

-- a length that is known is below 2 ^ 62
abbrev pub is_short : Option ℕ → Bool
is_short None = true
is_short (Some n) = nat_lt n (2 ^ 62)

-- how many steps more than events the cache may have made: for the starts of the fetch's own consumers
abbrev pub starts_allowed : Option First → ℕ
starts_allowed None = 1
starts_allowed (Some first) = 1000

-- no more than that, and none before the first event
abbrev pub AreFew : ℕ → ℕ → Option First → Type 0
AreFew steps count first = (steps ≤ count + starts_allowed first) × (steps ≤ 1001 * count)
