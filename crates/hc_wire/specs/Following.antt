-- Which event of a script comes next, and how many bytes a stalled connection takes.
use Rattle.std.specs.Prelude.{ℕ, ◌+◌, ◌-◌, ◌^◌, ◌==◌, ◌&&◌, nat_lt, not, Bool, true, false, List, [], ◌∷◌, length, drop, find, min, Option, None, Some, if◌then◌else◌}
use Rattle.std.specs.List.{list_any}
use Rattle.hc_wire.specs.declared.event.WireEvent.{WireEvent}
use Rattle.hc_wire.specs.declared.event.WireEvent.TheVariants as event
use Rattle.hc_wire.specs.declared.script.Stall.{Stall}
use Rattle.hc_wire.specs.declared.scripted.Scripted.{Scripted}
use Rattle.hc_wire.specs.Logs.{Taker, is_numbered}

abbrev pub seen_from : Option Taker → Bool
seen_from None = false
seen_from (Some c) = true

abbrev pub live_from : Option Taker → Bool
live_from None = false
live_from (Some c) = c.live

abbrev pub unended_from : Option Taker → Bool
unended_from None = false
unended_from (Some c) = c.live && not c.ended

abbrev pub reads_from : Option Taker → Bool
reads_from None = false
reads_from (Some c) = c.reads

-- a number was handed out; its connection is open; that, and its end wasn't handed out; its reading is on
abbrev pub is_seen : List Taker → ℕ → Bool
is_seen cs k = seen_from (find (is_numbered k) cs)

abbrev pub is_live : List Taker → ℕ → Bool
is_live cs k = live_from (find (is_numbered k) cs)

abbrev pub is_unended : List Taker → ℕ → Bool
is_unended cs k = unended_from (find (is_numbered k) cs)

abbrev pub is_reading : List Taker → ℕ → Bool
is_reading cs k = reads_from (find (is_numbered k) cs)

-- An event is passed over that is of a connection which isn't open, a `Got` and an `Ended` behind its end, an `Accepted` of a
-- number that was handed out before, and a `Got` whose bytes were all handed out.
abbrev pub is_past : List Taker → ℕ → WireEvent → ℕ → Bool
is_past cs off (event.Accepted k) len = is_seen cs k
is_past cs off (event.Got k n) len = not (is_unended cs k && nat_lt off len)
is_past cs off (event.Ended k) len = not (is_unended cs k)
is_past cs off (event.Broke k) len = not (is_live cs k)
is_past cs off (event.Room k) len = not (is_live cs k)
is_past cs off event.Quiet len = false

-- What is left of a script: its next items, and how many bytes of the first were handed out.
pub record Left : Type 0 where
  pub items : List Scripted
  pub off : ℕ

-- the same from a place on
abbrev pub left_at : List Scripted → ℕ → ℕ → Left
left_at script at off = record { items = drop at script; off = off }

-- behind those that are passed over
abbrev pub behind_past : List Taker → List Scripted → ℕ → Left
behind_past cs [] off = record { items = []; off = off }
behind_past cs (s ∷ rest) off =
    if is_past cs off s.event (length s.bytes) then behind_past cs rest 0
    else record { items = s ∷ rest; off = off }

-- An event that isn't passed over comes at its moment. Of a `Got` come as many bytes as there is room for; where the
-- connection's reading is off it is Quiet, at the moment handed out last.
abbrev pub coming_by : List Taker → ℕ → ℕ → ℕ → Scripted → WireEvent → ℕ × WireEvent
coming_by cs last room off s (event.Accepted k) = (s.moment, event.Accepted k)
coming_by cs last room off s (event.Got k n) =
    if is_reading cs k then (s.moment, event.Got k (min room (length s.bytes - off))) else (last, event.Quiet)
coming_by cs last room off s (event.Ended k) = (s.moment, event.Ended k)
coming_by cs last room off s (event.Broke k) = (s.moment, event.Broke k)
coming_by cs last room off s (event.Room k) = (s.moment, event.Room k)
coming_by cs last room off s event.Quiet = (s.moment, event.Quiet)

-- behind the script it is Quiet
abbrev pub coming_in : List Taker → ℕ → ℕ → List Scripted → ℕ → ℕ × WireEvent
coming_in cs last room [] off = (last, event.Quiet)
coming_in cs last room (s ∷ rest) off = coming_by cs last room off s s.event

abbrev pub coming : List Taker → ℕ → ℕ → Left → ℕ × WireEvent
coming cs last room left = coming_in cs last room left.items left.off

-- the bytes of the next event that weren't handed out
abbrev pub bytes_in : List Scripted → ℕ → List ℕ
bytes_in [] off = []
bytes_in (s ∷ rest) off = drop off s.bytes

abbrev pub bytes_left : Left → List ℕ
bytes_left left = bytes_in left.items left.off

-- an item alone: what comes of it, if it isn't passed over
abbrev pub coming_of : List Taker → ℕ → ℕ → ℕ → Scripted → Option (ℕ × WireEvent)
coming_of cs last room off s =
    if is_past cs off s.event (length s.bytes) then None else Some (coming_by cs last room off s s.event)

-- of so many bytes, how many a connection takes
abbrev pub room_from : Option Stall → ℕ → ℕ
room_from None len = len
room_from (Some stall) len = min stall.left len

abbrev pub is_stall_of : ℕ → Stall → Bool
is_stall_of k stall = stall.k == k

abbrev pub room_in : List Stall → ℕ → ℕ → ℕ
room_in stalls k len = room_from (find (is_stall_of k) stalls) len

-- so many bytes of a stall are used up, and those of the first of a connection
abbrev pub used : ℕ → Stall → Stall
used n stall = record stall { left = stall.left - n }

abbrev pub used_at : ℕ → ℕ → List Stall → List Stall
used_at k n [] = []
used_at k n (stall ∷ stalls) = if stall.k == k then used n stall ∷ stalls else stall ∷ used_at k n stalls

-- the call with this number is to fail
abbrev pub is_listed : ℕ → List ℕ → Bool
is_listed n fails = list_any (λ (m : ℕ). m == n) fails

abbrev pub is_quiet : WireEvent → Bool
is_quiet (event.Accepted k) = false
is_quiet (event.Got k n) = false
is_quiet (event.Ended k) = false
is_quiet (event.Broke k) = false
is_quiet (event.Room k) = false
is_quiet event.Quiet = true

abbrev pub begins_quiet : List Scripted → Bool
begins_quiet [] = false
begins_quiet (s ∷ rest) = is_quiet s.event

-- behind the first item
abbrev pub behind_first : List Scripted → ℕ → Left
behind_first [] off = record { items = []; off = off }
behind_first (s ∷ rest) off = record { items = rest; off = 0 }

-- Behind an event that was handed out: of a `Got` its bytes are gone, and a Quiet that isn't scripted takes nothing.
abbrev pub behind_event : WireEvent → Left → Left
behind_event (event.Accepted k) left = behind_first left.items left.off
behind_event (event.Got k n) left = record left { off = min (left.off + n) (2 ^ 64 - 1) }
behind_event (event.Ended k) left = behind_first left.items left.off
behind_event (event.Broke k) left = behind_first left.items left.off
behind_event (event.Room k) left = behind_first left.items left.off
behind_event event.Quiet left = if begins_quiet left.items then behind_first left.items left.off else left

-- this is the room of a connection
abbrev pub is_room : ℕ → WireEvent → Bool
is_room k (event.Accepted j) = false
is_room k (event.Got j n) = false
is_room k (event.Ended j) = false
is_room k (event.Broke j) = false
is_room k (event.Room j) = j == k
is_room k event.Quiet = false
