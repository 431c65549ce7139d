-- A log of the wire, told or not.
use Rattle.std.specs.Prelude.{◌≡◌, ◌⊎◌, ℕ, List, [], ◌∷◌, ◌++◌, length, Bool, Option, Some, None, Contains, find}
use Rattle.hc_wire.specs.Events.{Stage, Unseen}
use Rattle.hc_wire.specs.Logs.{Log, Taker, stage_in, sent_in, is_numbered, is_at_end}

-- no two have one number
abbrev pub AreApart : List Taker → Type 0
AreApart [] = Unit {0}
AreApart (taker ∷ takers) = (find (is_numbered taker.k) takers ≡ None) × AreApart takers

-- What the wire tells is this, if it tells anything; and each connection stands as this says.
pub record Follows (reported : Option Log) (stages : ℕ → Stage) (log : Log) : Type 0 where
  pub reported_is : (reported ≡ None) ⊎ (reported ≡ Some log)
  pub stands : (k : ℕ) → stages k ≡ stage_in log.takers k
  pub apart : AreApart log.takers

-- Some more connections were dialled, and some were closed. Nothing was sent.
pub record Dials (more : List ℕ) (log log' : Log) : Type 0 where
  pub calls : log'.calls ≡ log.calls
  pub bound : log'.bound ≡ log.bound
  pub dialled : log'.dialled ≡ log.dialled ++ more
  pub sent : (k : ℕ) → sent_in log'.takers k ≡ sent_in log.takers k
  pub new : (k : ℕ) → Contains more k → stage_in log.takers k ≡ Unseen
  pub unseen : (k : ℕ) → stage_in log'.takers k ≡ Unseen → stage_in log.takers k ≡ Unseen

abbrev pub short_from : Option Taker → Option ℕ
short_from None = None
short_from (Some taker) = taker.short

-- the connection took less than it was offered since the last call
abbrev pub is_short : Log → ℕ → Bool
is_short log k = is_at_end (short_from (find (is_numbered k) log.takers)) (length log.calls)
