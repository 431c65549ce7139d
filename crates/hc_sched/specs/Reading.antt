-- How a schedule is read, line by line: what stands after each byte, and the events on the way.
use Rattle.std.specs.Prelude.{Bool, ◌&&◌, is_none, ℕ, ◌+◌, ◌-◌, ◌==◌, nat_lt, List, [], ◌∷◌, ◌++◌, length, Option, Some, None, if◌then◌else◌}
use Rattle.hc_event.specs.declared.event.Event.{Event}
use Rattle.hc_event.specs.declared.event.Event.TheVariants as event
use Rattle.hc_fields.specs.FieldList.{field_list_with}
use Rattle.hc_sched.specs.declared.schedule.Refused.{Refused}
use Rattle.hc_sched.specs.declared.schedule.SchedRefusal.{SchedRefusal}
use Rattle.hc_sched.specs.declared.schedule.SchedRefusal.TheVariants as why
use Rattle.hc_sched.specs.declared.schedule.Timed.{Timed}
use Rattle.hc_sched.specs.declared.begun.Begun.{Begun}
use Rattle.hc_sched.specs.declared.begun.Opening.{Opening}
use Rattle.hc_sched.specs.declared.begun.Opening.TheVariants as opening
use Rattle.hc_sched.specs.declared.place.Place.{Place}
use Rattle.hc_target.specs.Targets.{is_target}
use Rattle.hc_sched.specs.Pieces.{bytes_of}
use Rattle.hc_sched.specs.FirstLines.{First, Sets, Starts, Heads, Brings, Dooms, Reports, first_of}
use Rattle.hc_sched.specs.FieldLines.{field_of}

-- Where the reading of a schedule stands.
pub data Progress : Type 0 where
  -- within a text that isn't refused: what was said so far, and the bytes of the line that isn't
  -- finished
  Reads : (place : Place) (line : List ℕ) → Progress
  -- at the refused line
  Stopped : (refused : Refused) → Progress
  -- where memory was refused
  Spent : Progress

-- What a byte or a line leads to, and the events that it brings.
pub record Step : Type 0 where
  pub next : Progress
  pub events : List Timed

-- the place at the beginning, at this moment
abbrev pub first_place : ℕ → Place
first_place moment = record { moment = moment; lines = 0; begun = None }

-- the line, which is the next one, can't stand here
abbrev pub refuse : Place → SchedRefusal → Step
refuse p why = record { next = Stopped (record { line = p.lines + 1; why = why }); events = [] }

-- the line is passed
abbrev pub pass : Place → ℕ → Option Begun → List Timed → Step
pass p moment begun events =
    record {
      next = Reads (record { moment = moment; lines = p.lines + 1; begun = begun }) [];
      events = events;
    }

-- the line ends the item of this event
abbrev pub happen : Place → Event → Step
happen p event = pass p p.moment None (record { now = p.moment; event = event } ∷ [])

-- the event of an item, with these fields
abbrev pub event_of : Opening → List (List ℕ × List ℕ) → Event
event_of (opening.Start c method key kind) fields =
    event.Start c (record { method = method; key = key; load = kind; fields = fields })
event_of (opening.Head x status) fields = event.Head x (record { status = status; fields = fields })

-- the line begins an item of so many fields, and has so many bytes
abbrev pub begin : Place → Opening → ℕ → ℕ → Step
begin p opening count bytes =
    if count == 0 then happen p (event_of opening [])
    else pass p p.moment
    (Some (record { opening = opening; fields = []; missing = count; bytes = bytes + 1 })) []

-- the moment is set, and doesn't go back
abbrev pub set_moment : Place → ℕ → Step
set_moment p now =
    if nat_lt now p.moment then refuse p (why.MomentBack p.moment) else pass p now None []

-- the first line of an item
abbrev pub take_first : Place → ℕ → Option First → Step
take_first p bytes None = refuse p why.BadLine
take_first p bytes (Some (Sets now)) = set_moment p now
take_first p bytes (Some (Starts c method kind target count)) =
    if is_target target then begin p (opening.Start c method target kind) count bytes
    else refuse p why.BadTarget
take_first p bytes (Some (Heads x status count)) = begin p (opening.Head x status) count bytes
take_first p bytes (Some (Brings x text)) = happen p (event.Piece x (bytes_of text))
take_first p bytes (Some (Dooms target)) =
    if is_target target then happen p (event.Doom target) else refuse p why.BadTarget
take_first p bytes (Some (Reports event)) = happen p event

-- a field line of the item that is begun
abbrev pub take_field : Place → Begun → ℕ → Option (List ℕ × List ℕ) → Step
take_field p begun bytes None = refuse p why.BadLine
take_field p begun bytes (Some field) =
    let fields = field_list_with field.0 field.1 begun.fields in
    if begun.missing == 1 then happen p (event_of begun.opening fields)
    else pass p p.moment (Some (record {
      opening = begun.opening;
      fields = fields;
      missing = begun.missing - 1;
      bytes = begun.bytes + bytes + 1;
    })) []

abbrev pub take_next : Place → Option Begun → List ℕ → Step
take_next p None line = take_first p (length line) (first_of line)
take_next p (Some begun) line = take_field p begun (length line) (field_of begun.fields line)

-- a whole line
unfoldable pub take_line : Place → List ℕ → Step
take_line p line = take_next p p.begun line

-- nothing changes
abbrev pub quiet : Progress → Step
quiet progress = record { next = progress; events = [] }

-- one byte more: a line feed ends the line, which has at most 140,000 bytes
unfoldable pub take_byte : Progress → ℕ → Step
take_byte (Reads p line) b =
    if b == 10 then take_line p line
    else if nat_lt (length line) 140000 then quiet (Reads p (line ++ b ∷ []))
    else refuse p why.LineTooLong
take_byte (Stopped refused) b = quiet (Stopped refused)
take_byte Spent b = quiet Spent

-- where the reading stands after these bytes
abbrev pub after : Progress → List ℕ → Progress
after progress [] = progress
after progress (b ∷ text) = after (take_byte progress b).next text

-- the events that these bytes bring
abbrev pub events_in : Progress → List ℕ → List Timed
events_in progress [] = []
events_in progress (b ∷ text) =
    (take_byte progress b).events ++ events_in (take_byte progress b).next text

-- the reading of a text at its beginning, at this moment
abbrev pub beginning : ℕ → Progress
beginning moment = Reads (first_place moment) []

-- nothing is left of a line or of an item
abbrev pub is_between : Place → List ℕ → Bool
is_between place line = is_none place.begun && length line == 0

-- the refusal of a text that ends where the reading stands
abbrev pub refusal_at : Progress → Option Refused
refusal_at (Reads place line) =
    if is_between place line then None
    else Some (record { line = place.lines + 1; why = why.CutShort })
refusal_at (Stopped refused) = Some refused
refusal_at Spent = None

-- the first refusal of a text that begins at this moment
abbrev pub refusal_of : ℕ → List ℕ → Option Refused
refusal_of now text = refusal_at (after (beginning now) text)
