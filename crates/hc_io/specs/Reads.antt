-- What a loop of reads keeps.
use Rattle.std.specs.Prelude.{◌≡◌, ℕ, ◌+◌, ◌≤◌, ◌^◌, List, take, Option, length}
use Rattle.hc_io.specs.Source.{Gives}

-- The bytes before a place were given, and no fault was counted.
pub record HasRead (old new : Option (List ℕ)) (before now : ℕ) (given_before given_now : ℕ) (bytes : List ℕ) (filled : ℕ) : Type 0 where
  pub within : filled ≤ length bytes
  pub gives : Gives old new (take filled bytes)
  pub count : given_now ≡ given_before + filled
  pub small : filled ≤ 2 ^ 60
  pub calm : now ≡ before
