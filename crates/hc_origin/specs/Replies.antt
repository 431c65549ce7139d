-- What connections are to be sent.
use Rattle.std.specs.Prelude.{◌≡◌, ℕ, ◌==◌, ◌<◌, Bool, true, false, List, [], ◌∷◌, ◌++◌, length, take, Option, Some, None, Result, Ok, Err, if◌then◌else◌}
use Rattle.hc_wire.specs.declared.event.WireError.{WireError}
use Rattle.hc_wire.specs.Logs.{Log, Reports, with_sent}
use Rattle.hc_origin.specs.Answering.{bytes_between}

-- A connection, and the bytes of its answer that it hasn't taken.
pub record Unsent : Type 0 where
  pub k : ℕ
  pub bytes : List ℕ

-- those of a connection
abbrev pub unsent_in : List Unsent → ℕ → Option (List ℕ)
unsent_in [] k = None
unsent_in (u ∷ us) k = if u.k == k then Some u.bytes else unsent_in us k

-- no connection stands twice
abbrev pub StandOnce : List Unsent → Type 0
StandOnce [] = Unit {0}
StandOnce (u ∷ us) = (unsent_in us u.k ≡ None) × StandOnce us

-- SENDING

-- Some first of the bytes were sent, and the others are left.
pub record Sends (reported reported' : Option Log) (k : ℕ) (before left : List ℕ) (short : Bool) : Type 0 where
  pub bytes : List ℕ
  pub whole : bytes ++ left ≡ before
  pub reports : Reports reported reported' (with_sent k bytes short)

-- all were taken, or some were offered and not taken; or the wire gave up in between
abbrev pub Offers : Option Log → Option Log → Unsent → Unsent → Result Bool WireError → Type 0
Offers reported reported' old new (Ok true) = Sends reported reported' old.k old.bytes new.bytes false × (new.bytes ≡ [])
Offers reported reported' old new (Ok false) = Sends reported reported' old.k old.bytes new.bytes true × (0 < length new.bytes)
Offers reported reported' old new (Err e) = Sends reported reported' old.k old.bytes new.bytes false

-- These bytes come next, some where any are left.
pub record IsPiece (bytes piece : List ℕ) : Type 0 where
  pub front : piece ≡ take (length piece) bytes
  pub some : length piece ≡ 0 → bytes ≡ []

-- what the representations have from position 0 on, as much as is sent at once from any position
pub record AreLetters (letters : List ℕ) : Type 0 where
  pub are : letters ≡ bytes_between 0 (length letters)
  pub all : length letters ≡ 16410
