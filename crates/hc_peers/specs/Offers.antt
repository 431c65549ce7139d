-- What comes of bytes that a connection is offered.
use Rattle.std.specs.Prelude.{◌≡◌, ◌≤◌, ℕ, List, length, take, drop, nat_lt, Bool, Option}
use Rattle.hc_wire.specs.Logs.{Log, Reports, with_sent}

-- It took so many first of them. Where these aren't all, it took less than it was offered.
pub record Offers (k : ℕ) (old new : List ℕ) (log log' : Option Log) : Type 0 where
  pub n : ℕ
  pub within : n ≤ length old
  pub left : new ≡ drop n old
  pub reported : Reports log log' (with_sent k (take n old) (nat_lt n (length old)))

-- It took so many first of them before something failed.
pub record OffersSome (k : ℕ) (old : List ℕ) (log log' : Option Log) : Type 0 where
  pub n : ℕ
  pub short : Bool
  pub within : n ≤ length old
  pub reported : Reports log log' (with_sent k (take n old) short)
