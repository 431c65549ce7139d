-- Connections over sockets, and what of them a wire tells.
use Rattle.std.specs.Prelude.{◌≡◌, ℕ, ◌<◌, nat_eq, nat_lt, Bool, true, false, Option, None, Some, if◌then◌else◌}
use Rattle.std.specs.HashMap.{HashMap, get}
use Rattle.hc_wire.specs.declared.event.WireEvent.{WireEvent}
use Rattle.hc_wire.specs.declared.event.WireEvent.TheVariants as event
use Rattle.hc_sockets.specs.declared.adapter.Accept.{Accept}
use Rattle.hc_sockets.specs.declared.adapter.Accept.TheVariants as accept
use Rattle.hc_sockets.specs.declared.socket.Socket.{Socket}
use Rattle.hc_wire.specs.Events.{Stage, Unseen, Open, Closed, Fresh, with_stage, stages_after, IsOpen, IsUnended}

abbrev pub life_of : Option Socket → Stage
life_of None = Closed
life_of (Some s) = if s.closed then Closed else Open s.reads s.ended

-- what its stage is told by stays
pub record KeepsStage (s t : Socket) : Type 0 where
  pub closed : t.closed ≡ s.closed
  pub reads : t.reads ≡ s.reads
  pub ended : t.ended ≡ s.ended

-- how the connection with a number is, of those that were handed out
abbrev pub life : {S : Type 0} → HashMap ℕ Socket S → ℕ → Stage
life sockets k = life_of (get nat_eq sockets k)

-- the numbers below the next one were handed out
abbrev pub stage_at : {S : Type 0} → ℕ → HashMap ℕ Socket S → ℕ → Stage
stage_at next sockets k = if nat_lt k next then life sockets k else Unseen

-- An event of this connection: bytes come where its reading is on, and they and its end only before that was handed out.
abbrev pub IsOf : ℕ → Socket → WireEvent → Type 0
IsOf k s (event.Accepted j) = ⊥
IsOf k s (event.Got j n) = (j ≡ k) × (s.reads ≡ true) × (s.ended ≡ false)
IsOf k s (event.Ended j) = (j ≡ k) × (s.ended ≡ false)
IsOf k s (event.Broke j) = j ≡ k
IsOf k s (event.Room j) = j ≡ k
IsOf k s event.Quiet = ⊥

-- its end was handed out, then or before
abbrev pub ends_by : Option WireEvent → Bool → Bool
ends_by None ended = ended
ends_by (Some (event.Accepted j)) ended = ended
ends_by (Some (event.Got j n)) ended = ended
ends_by (Some (event.Ended j)) ended = true
ends_by (Some (event.Broke j)) ended = ended
ends_by (Some (event.Room j)) ended = ended
ends_by (Some event.Quiet) ended = ended

-- an event of a connection that is open
abbrev pub IsOfLive : (ℕ → Stage) → WireEvent → Type 0
IsOfLive stages (event.Accepted k) = ⊥
IsOfLive stages (event.Got k n) = stages k ≡ Open true false
IsOfLive stages (event.Ended k) = IsUnended (stages k)
IsOfLive stages (event.Broke k) = IsOpen (stages k)
IsOfLive stages (event.Room k) = IsOpen (stages k)
IsOfLive stages event.Quiet = ⊥

-- the stages after an event, if one came
abbrev pub lives_after : Option WireEvent → (ℕ → Stage) → ℕ → Stage
lives_after None stages k = stages k
lives_after (Some e) stages k = stages_after e stages k

-- each open one has a lower number
abbrev pub IsBelow : {S : Type 0} → ℕ → HashMap ℕ Socket S → Type 0
IsBelow next sockets = (k : ℕ) → IsOpen (life sockets k) → k < next

-- no event is a quiet one
abbrev pub event_or_quiet : Option WireEvent → WireEvent
event_or_quiet None = event.Quiet
event_or_quiet (Some e) = e

-- who is accepted is open
abbrev pub accepts : Accept → ℕ → (ℕ → Stage) → ℕ → Stage
accepts accept.One k stages j = with_stage k Fresh stages j
accepts accept.Nobody k stages j = stages j
accepts accept.Later k stages j = stages j
