-- The text of a schedule: its items, their one spelling, and the events that they are.
use Rattle.std.specs.Prelude.{◌≡◌, ℕ, ◌<◌, ◌≤◌, ◌==◌, List, [], ◌∷◌, ◌++◌, length, codes, All, true, if◌then◌else◌}
use Rattle.std.specs.Fmt.{decimal}
use Rattle.hc_event.specs.declared.event.Event.{Event}
use Rattle.hc_event.specs.declared.event.Event.TheVariants as event
use Rattle.hc_event.specs.declared.event.Load.{Load}
use Rattle.hc_event.specs.declared.event.Load.TheVariants as load
use Rattle.hc_fields.specs.FieldList.{IsFieldList, IsWithinLimits}
use Rattle.hc_sched.specs.declared.schedule.Timed.{Timed}
use Rattle.hc_sched.specs.FirstLines.{is_method}
use Rattle.hc_sched.specs.Pieces.{piece_text}
use Rattle.hc_target.specs.Targets.{is_target}
pub use Rattle.hc_text.specs.Texts.{IsSmall}
pub use Rattle.hc_fields.specs.Lines.{field_text, fields_text}

-- An item of a schedule: a moment is set, or an event happens.
pub data Item : Type 0 where
  Moment : (now : ℕ) → Item
  Happens : (event : Event) → Item

abbrev pub load_word : Load → List ℕ
load_word load.Normal = codes "normal"
load_word load.Validate = codes "validate"
load_word load.Bypass = codes "bypass"
load_word load.Skip = codes "skip"
load_word load.Only = codes "only"
load_word load.Disable = codes "disable"

-- the first line of an event
abbrev pub event_line : Event → List ℕ
event_line (event.Start c request) =
    codes "start " ++ (decimal c ++ 32 ∷ (request.method ++ 32 ∷ (load_word request.load
    ++ 32 ∷ (request.key ++ 32 ∷ decimal (length request.fields)))))
event_line (event.Poll c want) = codes "poll " ++ (decimal c ++ 32 ∷ decimal want)
event_line (event.Head x response) =
    codes "head " ++ (decimal x ++ 32 ∷ (decimal response.status
    ++ 32 ∷ decimal (length response.fields)))
event_line (event.Piece x bytes) = codes "piece " ++ (decimal x ++ 32 ∷ piece_text bytes)
event_line (event.End x) = codes "end " ++ decimal x
event_line (event.Fault x) = codes "fault " ++ decimal x
event_line (event.Cancel c) = codes "cancel " ++ decimal c
event_line (event.Doom key) = codes "doom " ++ key

-- the fields of an event
abbrev pub fields_in : Event → List (List ℕ × List ℕ)
fields_in (event.Start c request) = request.fields
fields_in (event.Head x response) = response.fields
fields_in _ = []

abbrev pub item_line : Item → List ℕ
item_line (Moment now) = codes "at " ++ decimal now
item_line (Happens event) = event_line event

abbrev pub item_fields : Item → List (List ℕ × List ℕ)
item_fields (Moment now) = []
item_fields (Happens event) = fields_in event

-- the lines of an item, each ended by a line feed
abbrev pub item_text : Item → List ℕ
item_text item = item_line item ++ 10 ∷ fields_text (item_fields item)

-- the text of a list of items: theirs, one after another
abbrev pub text_of : List Item → List ℕ
text_of [] = []
text_of (item ∷ items) = item_text item ++ text_of items

-- fields as they may come from outside
pub record IsHead (fields : List (List ℕ × List ℕ)) : Type 0 where
  pub list : IsFieldList fields
  pub within_limits : IsWithinLimits fields

-- the events that have a spelling
abbrev pub IsEvent : Event → Type 0
IsEvent (event.Start c request) =
    IsSmall c × (is_method request.method ≡ true) × (is_target request.key ≡ true)
    × IsHead request.fields
IsEvent (event.Poll c want) = IsSmall c × (want ≤ 65536)
IsEvent (event.Head x response) =
    IsSmall x × (200 ≤ response.status) × (response.status ≤ 599) × IsHead response.fields
IsEvent (event.Piece x bytes) = IsSmall x × (length bytes ≤ 65536) × All (λ b. b < 256) bytes
IsEvent (event.End x) = IsSmall x
IsEvent (event.Fault x) = IsSmall x
IsEvent (event.Cancel c) = IsSmall c
IsEvent (event.Doom key) = is_target key ≡ true

abbrev pub IsItem : Item → Type 0
IsItem (Moment now) = IsSmall now
IsItem (Happens event) = IsEvent event

-- the moment behind an item
abbrev pub moment_after : ℕ → Item → ℕ
moment_after now (Moment later) = later
moment_after now (Happens event) = now

-- a schedule that begins at this moment: its items have a spelling, and no moment goes back
abbrev pub IsSchedule : ℕ → List Item → Type 0
IsSchedule now [] = Unit {0}
IsSchedule now (item ∷ items) =
    IsItem item × (now ≤ moment_after now item) × IsSchedule (moment_after now item) items

-- the text spells these items
pub record Spells (now : ℕ) (text : List ℕ) (items : List Item) : Type 0 where
  pub schedule : IsSchedule now items
  pub text_is : text_of items ≡ text

-- the event of an item, at its moment
abbrev pub event_at : ℕ → Item → List Timed
event_at now (Moment later) = []
event_at now (Happens event) = record { now = now; event = event } ∷ []

-- the events of a schedule that begins at this moment, each with the moment that was set last
abbrev pub events_of : ℕ → List Item → List Timed
events_of now [] = []
events_of now (item ∷ items) = event_at now item ++ events_of (moment_after now item) items

-- the moment behind a schedule that begins at this one
abbrev pub moment_end : ℕ → List Item → ℕ
moment_end now [] = now
moment_end now (item ∷ items) = moment_end (moment_after now item) items

-- the items of an event behind a moment: it is set where it is another
abbrev pub items_of : ℕ → Timed → List Item
items_of last timed =
    if timed.now == last then Happens timed.event ∷ []
    else Moment timed.now ∷ Happens timed.event ∷ []

-- the text of an event behind a moment
abbrev pub timed_text : ℕ → Timed → List ℕ
timed_text last timed = text_of (items_of last timed)
