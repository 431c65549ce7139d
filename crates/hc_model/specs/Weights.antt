-- What weighs in the store, what is idle, and whether there is room for what an event writes.
use Rattle.std.specs.Prelude.{ℕ, List, [], length, take, Bool, true, false, Option, Some, None, if◌then◌else◌, ◌||◌, ◌&&◌, not, map, filter, reverse}
use Rattle.std.specs.List.{sum_by, list_any}
use Rattle.std.specs.Option.{option_and_then}
use Rattle.hc_event.specs.declared.event.Event.{Event}
use Rattle.hc_event.specs.declared.event.Event.TheVariants as event
use Rattle.hc_rules.specs.declared.heads.HeadCase.{HeadCase}
use Rattle.hc_rules.specs.declared.heads.HeadCase.TheVariants as case
use Rattle.hc_rules.specs.declared.room.Limits.{Limits}
use Rattle.hc_rules.specs.declared.room.Write.{Write}
use Rattle.hc_rules.specs.declared.room.Write.TheVariants as write
use Rattle.hc_rules.specs.declared.room.Room.{Room}
use Rattle.hc_rules.specs.declared.room.Room.TheVariants as room
use Rattle.hc_rules.specs.Rooms.{weight_of, room_of}
use Rattle.hc_model.specs.Entries.{Entry, entry_without_acts}
use Rattle.hc_model.specs.Rows.{Tables, Exchange, Representation}
use Rattle.hc_model.specs.Exchanges.{family, exchange_at, is_for}
use Rattle.hc_model.specs.Currents.{is_current}
use Rattle.hc_model.specs.Cases.{case_at, is_founding}
use Rattle.hc_model.specs.Reading.{bound}
use Rattle.hc_model.specs.Gone.{goes_itself}

-- WHAT IS LEFT BY AN ENTRY BUT FOR ITS EVICTIONS

abbrev pub is_replacing : Option HeadCase → Bool
is_replacing (Some case.FirstReplaced) = true
is_replacing _ = false

-- whose hole's exchange founds isn't bound to what the hole was in
abbrev pub moves_on : Tables → Entry → ℕ → Bool
moves_on t e c = is_replacing (case_at t e) && is_for (exchange_at t e.event) c

abbrev pub stays_bound : Tables → Entry → ℕ → Bool
stays_bound t e r = list_any (λ c. not (moves_on t e c)) (bound t r)

abbrev pub stays_current : Tables → Entry → ℕ → Representation → Bool
stays_current t e r v = is_current t v.key r && not (goes_itself t e r v)

-- THE WEIGHTS

abbrev pub weight_in : Tables → Entry → ℕ → Option Representation → ℕ
weight_in t e r None = 0
weight_in t e r (Some v) =
    if stays_current t e r v || stays_bound t e r then weight_of v.size else 0

-- what a representation weighs: it has a slot while it is current or a consumer is bound to it
abbrev pub weight : Tables → Entry → ℕ → ℕ
weight t e r = weight_in t e r (t.representation r)

-- what all weigh
abbrev pub weights : Tables → Entry → ℕ
weights t e = sum_by (weight t e) t.founded

abbrev pub is_idle : Tables → Entry → ℕ → Option Representation → Bool
is_idle t e r None = false
is_idle t e r (Some v) = stays_current t e r v && not (stays_bound t e r)

-- the current representations to which no consumer is bound, first the one to which none was bound for longest
unfoldable pub idle : Tables → Entry → List ℕ
idle t e = filter (λ r. is_idle t e r (t.representation r)) (reverse t.used)

-- ROOM FOR A WRITE

abbrev pub piece_write : ℕ → Representation → Option Write
piece_write n v = if v.is_lost then None else Some (write.Piece v.size n)

abbrev pub write_of_piece : Tables → ℕ → ℕ → Exchange → Option Write
write_of_piece t x n w = option_and_then (piece_write n) (t.representation (family x w))

-- what an event makes the store bigger by: a slot, or the bytes of a piece
abbrev pub write_in : Tables → Entry → Event → Option Write
write_in t e (event.Head x response) = if is_founding (case_at t e) then Some write.Slot else None
write_in t e (event.Piece x bytes) =
    option_and_then (write_of_piece t x (length bytes)) (t.exchange x)
write_in t e _ = None

abbrev pub room_by : Limits → Tables → Entry → Option Write → Room
room_by limits t e None = room.After 0
room_by limits t e (Some write) =
    room_of limits (weights t e) write (map (weight t e) (idle t e))

-- whether there is room for what an event is to write
unfoldable pub room_for : Limits → Tables → ℕ → Event → Room
room_for limits t now event =
    let e = entry_without_acts now event in room_by limits t e (write_in t e event)

abbrev pub first_idle : Tables → Entry → Room → List ℕ
first_idle t e (room.After count) = take count (idle t e)
first_idle t e room.TooLarge = []
first_idle t e room.Full = []

-- which representations make room for it
abbrev pub evicted : Limits → Tables → ℕ → Event → List ℕ
evicted limits t now event = first_idle t (entry_without_acts now event) (room_for limits t now event)
