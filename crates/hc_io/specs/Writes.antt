-- What a loop of writes keeps.
use Rattle.std.specs.Prelude.{◌≡◌, ℕ, ◌≤◌, List, take, Option, length}
use Rattle.hc_io.specs.Sink.{Takes}

-- The bytes before a place went in, and no fault was counted.
pub record HasWritten (old new : Option (List ℕ)) (before now : ℕ) (bytes : List ℕ) (at : ℕ) : Type 0 where
  pub within : at ≤ length bytes
  pub takes : Takes old new (take at bytes)
  pub calm : now ≡ before
