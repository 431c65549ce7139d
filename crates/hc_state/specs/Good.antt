-- What a cache is that may step, and what a step needs.
use Rattle.std.specs.Prelude.{◌≡◌, ℕ, ◌+◌, ◌<◌, ◌≤◌, ◌^◌, Bool, true, false, is_some}
use Rattle.hc_store.specs.declared.backend.Backend.{Ghosts}
use Rattle.hc_event.specs.declared.event.Event.{Event}
use Rattle.hc_event.specs.declared.event.Event.TheVariants as event
use Rattle.hc_rules.specs.Refusals.{refusal_of}
use Rattle.hc_exch.specs.Exchanges.{next_of}
use Rattle.hc_model.specs.Tables.{tables}
use Rattle.hc_state.specs.declared.rows.Rows.{Rows}
use Rattle.hc_state.specs.Stands.{StandsForSome, Stands, gate_of}

-- the rows represent the tables of a run that is no later
abbrev pub StandsUntil : {B : Type 0} {g : Ghosts B} → Rows B g → ℕ → ℕ → Type 0
StandsUntil r bytes moment = (s : StandsForSome r bytes) × ((tables s.contents s.h).moment ≤ moment)

-- the same, and its last moment is this one
abbrev pub StandsAt : {B : Type 0} {g : Ghosts B} → Rows B g → ℕ → ℕ → Type 0
StandsAt r bytes moment = (s : StandsForSome r bytes) × ((tables s.contents s.h).moment ≡ moment)

-- the rows represent tables that are no later
abbrev pub StandsBy : {B : Type 0} {g : Ghosts B} → Rows B g → ℕ → Type 0
StandsBy r moment = (s : Stands r) × (s.t.moment ≤ moment)

-- its rows represent some run whose last moment is its own, each step opened one exchange at most, and that moment and the
-- number of who started last are those with which a cache may begin
abbrev pub IsGood : {B : Type 0} {g : Ghosts B} → Rows B g → ℕ → ℕ → ℕ → Type 0
IsGood r bytes moment n =
    ∥ StandsAt r bytes moment ∥₁ × (next_of r.exchanges ≤ 2 ^ 60 + n) × (moment < 2 ^ 62)
    × (r.last_start < 2 ^ 62)

-- the event is denied
abbrev pub is_refused : {B : Type 0} {g : Ghosts B} → Rows B g → Event → Bool
is_refused r event = is_some (refusal_of (gate_of r event) event)

-- whoever leaves, and what ends, breaks or is doomed, is told without memory
abbrev pub takes_no_memory : Event → Bool
takes_no_memory (event.End x) = true
takes_no_memory (event.Fault x) = true
takes_no_memory (event.Cancel c) = true
takes_no_memory (event.Doom key) = true
takes_no_memory _ = false
