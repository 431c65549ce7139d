-- Connections by number, and what an event says of them.
use Rattle.std.specs.Prelude.{◌≡◌, ℕ, ◌==◌, ◌<◌, ◌≤◌, ⊤, Bool, true, false, List, [], take, if◌then◌else◌}
use Rattle.hc_wire.specs.declared.event.WireEvent.{WireEvent}
use Rattle.hc_wire.specs.declared.event.WireEvent.TheVariants as event

-- A number wasn't handed out yet, is that of an open connection, or of one that is closed. Of an open one: whether its
-- reading is on, and whether its end was handed out.
pub data Stage : Type 0 where
  Unseen : Stage
  Open : (reads ended : Bool) → Stage
  Closed : Stage

-- a new connection
abbrev pub Fresh : Stage
Fresh = Open true false

-- one connection is so now
abbrev pub with_stage : ℕ → Stage → (ℕ → Stage) → ℕ → Stage
with_stage k stage stages j = if j == k then stage else stages j

abbrev pub closed_of : Stage → Stage
closed_of Unseen = Unseen
closed_of (Open reads ended) = Closed
closed_of Closed = Closed

abbrev pub reading_of : Bool → Stage → Stage
reading_of on Unseen = Unseen
reading_of on (Open reads ended) = Open on ended
reading_of on Closed = Closed

abbrev pub ended_of : Stage → Stage
ended_of Unseen = Unseen
ended_of (Open reads ended) = Open reads true
ended_of Closed = Closed

-- a new connection is open, and one that ended is so
abbrev pub stages_after : WireEvent → (ℕ → Stage) → ℕ → Stage
stages_after (event.Accepted k) stages j = with_stage k Fresh stages j
stages_after (event.Got k n) stages j = stages j
stages_after (event.Ended k) stages j = with_stage k (ended_of (stages k)) stages j
stages_after (event.Broke k) stages j = stages j
stages_after (event.Room k) stages j = stages j
stages_after event.Quiet stages j = stages j

-- it is open
abbrev pub IsOpen : Stage → Type 0
IsOpen Unseen = ⊥
IsOpen (Open reads ended) = ⊤
IsOpen Closed = ⊥

-- it is open, and its end wasn't handed out
abbrev pub IsUnended : Stage → Type 0
IsUnended Unseen = ⊥
IsUnended (Open reads ended) = ended ≡ false
IsUnended Closed = ⊥

-- An accepted connection is a new one, and every other event but Quiet is of one that is open. Bytes are got of one whose
-- reading is on, and nothing behind its end, which comes once.
abbrev pub IsOfOpen : WireEvent → (ℕ → Stage) → Type 0
IsOfOpen (event.Accepted k) stages = stages k ≡ Unseen
IsOfOpen (event.Got k n) stages = stages k ≡ Open true false
IsOfOpen (event.Ended k) stages = IsUnended (stages k)
IsOfOpen (event.Broke k) stages = IsOpen (stages k)
IsOfOpen (event.Room k) stages = IsOpen (stages k)
IsOfOpen event.Quiet stages = ⊤

-- what is got is some bytes, and fits
abbrev pub FitsIn : WireEvent → ℕ → Type 0
FitsIn (event.Accepted k) room = ⊤
FitsIn (event.Got k n) room = (0 < n) × (n ≤ room)
FitsIn (event.Ended k) room = ⊤
FitsIn (event.Broke k) room = ⊤
FitsIn (event.Room k) room = ⊤
FitsIn event.Quiet room = ⊤

-- the bytes that were got
abbrev pub got_bytes : WireEvent → List ℕ → List ℕ
got_bytes (event.Accepted k) into = []
got_bytes (event.Got k n) into = take n into
got_bytes (event.Ended k) into = []
got_bytes (event.Broke k) into = []
got_bytes (event.Room k) into = []
got_bytes event.Quiet into = []
