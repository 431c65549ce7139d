-- What a wire tells of its calls.
use Rattle.std.specs.Prelude.{◌≡◌, ℕ, ◌==◌, Bool, true, false, List, [], ◌∷◌, ◌++◌, length, map, filter, find, Option, None, Some, if◌then◌else◌}
use Rattle.hc_wire.specs.declared.event.Address.{Address}
use Rattle.hc_wire.specs.declared.event.WireEvent.{WireEvent}
use Rattle.hc_wire.specs.declared.event.WireEvent.TheVariants as event
use Rattle.hc_wire.specs.declared.connection.Binding.{Binding}
use Rattle.hc_wire.specs.declared.connection.Standing.{Standing}
use Rattle.hc_wire.specs.Events.{Stage, Unseen, Open, Closed}

-- A connection: its number, the bytes that it has taken, whether its reading is on, whether its end was handed out, after how
-- many events it last took less than it was offered, and whether it is open.
pub record Taker : Type 0 where
  pub k : ℕ
  pub sent : List ℕ
  pub reads : Bool
  pub ended : Bool
  pub short : Option ℕ
  pub live : Bool

-- A call of `next` that handed out an event: with which wait, the moment, the event, the bytes got, and how each connection
-- that was open stood.
pub record Called : Type 0 where
  pub wait : Bool
  pub moment : ℕ
  pub event : WireEvent
  pub bytes : List ℕ
  pub standings : List Standing

-- The calls of `bind` and of `next` that answered Ok, the connections dialled, and all that were handed out, each in their order.
pub record Log : Type 0 where
  pub bound : List Binding
  pub calls : List Called
  pub dialled : List ℕ
  pub takers : List Taker

abbrev pub empty_log : Log
empty_log = record { bound = []; calls = []; dialled = []; takers = [] }

-- a new connection
abbrev pub fresh : ℕ → Taker
fresh k = record { k = k; sent = []; reads = true; ended = false; short = None; live = true }

abbrev pub stage_of : Taker → Stage
stage_of c = if c.live then Open c.reads c.ended else Closed

abbrev pub is_numbered : ℕ → Taker → Bool
is_numbered k c = c.k == k

abbrev pub stage_from : Option Taker → Stage
stage_from None = Unseen
stage_from (Some c) = stage_of c

abbrev pub sent_from : Option Taker → List ℕ
sent_from None = []
sent_from (Some c) = c.sent

-- how the connection with a number is, and what it has taken
abbrev pub stage_in : List Taker → ℕ → Stage
stage_in cs k = stage_from (find (is_numbered k) cs)

abbrev pub sent_in : List Taker → ℕ → List ℕ
sent_in cs k = sent_from (find (is_numbered k) cs)

-- one connection is another now
abbrev pub changed_at : ℕ → (Taker → Taker) → List Taker → List Taker
changed_at k change [] = []
changed_at k change (c ∷ cs) = if c.k == k then change c ∷ cs else c ∷ changed_at k change cs

abbrev pub is_at_end : Option ℕ → ℕ → Bool
is_at_end None n = false
is_at_end (Some m) n = m == n

abbrev pub standing_of : ℕ → Taker → Standing
standing_of n c = record { k = c.k; taken = length c.sent; reads = c.reads; short = is_at_end c.short n }

abbrev pub is_taking : Taker → Bool
is_taking c = c.live

-- how the open connections stand
abbrev pub standings_in : Log → List Standing
standings_in log = map (standing_of (length log.calls)) (filter is_taking log.takers)

abbrev pub over : Taker → Taker
over c = record c { ended = true }

abbrev pub takers_with : WireEvent → List Taker → List Taker
takers_with (event.Accepted k) cs = cs ++ fresh k ∷ []
takers_with (event.Got k n) cs = cs
takers_with (event.Ended k) cs = changed_at k over cs
takers_with (event.Broke k) cs = cs
takers_with (event.Room k) cs = cs
takers_with event.Quiet cs = cs

abbrev pub with_binding : Option Address → Option Address → Log → Log
with_binding listen origin log = record log { bound = log.bound ++ record { listen = listen; origin = origin } ∷ [] }

abbrev pub with_call : Bool → ℕ → WireEvent → List ℕ → Log → Log
with_call wait moment what bytes log = record log {
  calls = log.calls ++ record { wait = wait; moment = moment; event = what; bytes = bytes; standings = standings_in log } ∷ [];
  takers = takers_with what log.takers;
}

abbrev pub with_dialled : ℕ → Log → Log
with_dialled k log = record log { dialled = log.dialled ++ k ∷ []; takers = log.takers ++ fresh k ∷ [] }

-- more bytes are taken; short where they were less than was offered
abbrev pub taking : List ℕ → Bool → ℕ → Taker → Taker
taking bytes short n c = record c { sent = c.sent ++ bytes; short = if short then Some n else c.short }

abbrev pub with_sent : ℕ → List ℕ → Bool → Log → Log
with_sent k bytes short log = record log { takers = changed_at k (taking bytes short (length log.calls)) log.takers }

abbrev pub reading : Bool → Taker → Taker
reading on c = record c { reads = on }

abbrev pub with_reading : ℕ → Bool → Log → Log
with_reading k on log = record log { takers = changed_at k (reading on) log.takers }

abbrev pub shut : Taker → Taker
shut c = record c { live = false }

abbrev pub with_closed : ℕ → Log → Log
with_closed k log = record log { takers = changed_at k shut log.takers }

-- the log becomes so, if it is told
abbrev pub Reports : Option Log → Option Log → (Log → Log) → Type 0
Reports None new change = new ≡ None
Reports (Some log) new change = new ≡ Some (change log)
