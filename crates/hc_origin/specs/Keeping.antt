-- When what is kept of the connections is what a log says of them.
use Rattle.std.specs.Prelude.{◌≡◌, ℕ, ◌<◌, Bool, true, false, List, [], ◌∷◌, ◌++◌, length, Option, Some, None, IfSome, find, if◌then◌else◌}
use Rattle.hc_wire.specs.Events.{Stage, Unseen, IsOpen}
use Rattle.hc_wire.specs.Logs.{Log, Taker, is_numbered}
use Rattle.hc_wire.specs.Following.{is_live}
use Rattle.hc_msg.specs.Inputs.{Waits}
use Rattle.hc_msg.specs.Reading.{Reading}
use Rattle.hc_origin.specs.Coming.{Came, came_of, first_in, is_accepted}
use Rattle.hc_origin.specs.Answering.{IsAnswer}
use Rattle.hc_origin.specs.Turns.{AllFit, Closes}
use Rattle.hc_origin.specs.Replies.{Unsent, StandOnce, unsent_in}

-- THE LOG

abbrev pub reported_as : Bool → Log → Option Log
reported_as reports log = if reports then Some log else None

-- The log is the one that the wire tells, or any where it tells none. What is open there is open here.
pub record Follows (reports : Bool) (reported : Option Log) (stages : ℕ → Stage) (log : Log) : Type 0 where
  pub is_reported : reported ≡ reported_as reports log
  pub live : (k : ℕ) → IsOpen (stages k) → is_live log.takers k ≡ true
  pub unseen : (k : ℕ) → stages k ≡ Unseen → find (is_numbered k) log.takers ≡ None

-- no number stands twice
abbrev pub AreApart : List Taker → Type 0
AreApart [] = Unit {0}
AreApart (c ∷ cs) = (find (is_numbered c.k) cs ≡ None) × AreApart cs

-- ONE CONNECTION

abbrev pub nothing : Came
nothing = record { bytes = []; stopped = false }

-- nothing came of it
pub record IsUnseen (accepted : Bool) (came : Came) : Type 0 where
  pub unaccepted : accepted ≡ false
  pub nothing_came : came ≡ nothing

-- its request isn't whole, and is read here
pub record IsAsking (came : Came) (c : Taker) (reading : Reading) : Type 0 where
  pub live : c.live ≡ true
  pub reads : c.reads ≡ true
  pub unsent : c.sent ≡ []
  pub unstopped : came.stopped ≡ false
  pub waits : first_in came ≡ Waits reading

-- it hasn't taken these bytes of its answer
pub record IsOwing (came : Came) (c : Taker) (bytes : List ℕ) : Type 0 where
  pub live : c.live ≡ true
  pub reads : c.reads ≡ true
  pub is : IsAnswer came (c.sent ++ bytes)

pub record IsGone (came : Came) (c : Taker) : Type 0 where
  pub shut : c.live ≡ false
  pub cause : Closes came c.sent

-- by what the log has of it, the reader that is kept for it, and what is kept for it to be sent
abbrev pub PlaceOf : Bool → Came → Option Taker → Option Reading → Option (List ℕ) → Type 0
PlaceOf accepted came None None None = IsUnseen accepted came
PlaceOf accepted came None None (Some bytes) = ⊥
PlaceOf accepted came None (Some reading) o = ⊥
PlaceOf accepted came (Some c) None None = IsGone came c
PlaceOf accepted came (Some c) None (Some bytes) = IsOwing came c bytes
PlaceOf accepted came (Some c) (Some reading) None = IsAsking came c reading
PlaceOf accepted came (Some c) (Some reading) (Some bytes) = ⊥

abbrev pub PlaceIn : Log → (ℕ → Option Reading) → List Unsent → ℕ → Type 0
PlaceIn log asking owed k =
    PlaceOf (is_accepted k log.calls) (came_of k log.calls) (find (is_numbered k) log.takers) (asking k) (unsent_in owed k)

-- ALL

pub record Keeps (log : Log) (asking : ℕ → Option Reading) (owed : List Unsent) : Type 0 where
  pub places : (k : ℕ) → PlaceIn log asking owed k
  pub apart : AreApart log.takers
  pub fit : AllFit log.takers [] log.calls
  pub dialled : log.dialled ≡ []
  pub once : StandOnce owed

-- what is lacking was offered since the last call
abbrev pub IsLacking : ℕ → Option Taker → List ℕ → Type 0
IsLacking calls o bytes = (0 < length bytes) × IfSome o (λ c. c.short ≡ Some calls)

abbrev pub AreLacking : Log → List Unsent → Type 0
AreLacking log owed = (k : ℕ) → IfSome (unsent_in owed k) (IsLacking (length log.calls) (find (is_numbered k) log.takers))

-- Between two turns.
pub record Rests (log : Log) (asking : ℕ → Option Reading) (owed : List Unsent) : Type 0 where
  pub keeps : Keeps log asking owed
  pub lacking : AreLacking log owed
