-- The tables of a history: by recursion on it, each entry from the tables before it.
use Rattle.std.specs.Prelude.{ℕ, ◌+◌, ◌-◌, List, [], ◌∷◌, length, Bool, true, false, Option, Some, None, if◌then◌else◌, ◌==◌, ◌&&◌, not, max, filter, find, map, reverse, option_map}
use Rattle.std.specs.List.{sum_by}
use Rattle.std.specs.Option.{option_or}
use Rattle.hc_sparse.specs.Runs.{cells_of, end_of}
use Rattle.hc_sparse.specs.declared.run.Run.{Run}
use Rattle.hc_record.specs.Head.{sealed_head}
use Rattle.hc_record.specs.declared.kind.Kind.TheVariants as kind
use Rattle.hc_event.specs.Filters.{Opening, opening_in, is_denied}
use Rattle.hc_event.specs.declared.event.Event.{Event}
use Rattle.hc_event.specs.declared.event.Event.TheVariants as event
use Rattle.hc_rules.specs.declared.need.Route.{Route}
use Rattle.hc_rules.specs.declared.need.Route.TheVariants as route
use Rattle.hc_rules.specs.Needs.{route_of}
use Rattle.hc_model.specs.Entries.{Entry, History, Content, Contents}
use Rattle.hc_model.specs.ActFilters.{Showing, showing_in}
use Rattle.hc_model.specs.Rows.{Tables, Representation, Consumer}
use Rattle.hc_model.specs.Exchanges.{exchange_in}
use Rattle.hc_model.specs.Currents.{current}
use Rattle.hc_model.specs.Cases.{case_at, is_founding, was_shown}
use Rattle.hc_model.specs.Reading.{reads}
use Rattle.hc_model.specs.ExchangeRows.{exchange_after}
use Rattle.hc_model.specs.RepresentationRows.{representation_after}
use Rattle.hc_model.specs.ConsumerRows.{consumer_after}

-- LISTS AND COUNTS

abbrev pub last_start_after : Event → ℕ → ℕ
last_start_after (event.Start c request) n = c
last_start_after _ n = n

abbrev pub starts_after : Event → List ℕ → List ℕ
starts_after (event.Start c request) cs = c ∷ cs
starts_after _ cs = cs

-- how many bytes a piece has
abbrev pub received_in : Event → ℕ
received_in (event.Piece x bytes) = length bytes
received_in _ = 0

abbrev pub opened_after : Option Opening → ℕ → ℕ
opened_after None n = n
opened_after (Some o) n = o.x

abbrev pub openings_after : Option Opening → List ℕ → List ℕ
openings_after None xs = xs
openings_after (Some o) xs = o.x ∷ xs

-- the representation that an entry founds
abbrev pub founds : Tables → Entry → Option ℕ
founds t e = if is_founding (case_at t e) then exchange_in e.event else None

abbrev pub with_item_first : Option ℕ → List ℕ → List ℕ
with_item_first None rs = rs
with_item_first (Some r) rs = r ∷ rs

-- WHO WAS BOUND LAST

abbrev pub is_hole : Route → Bool
is_hole route.Hole = true
is_hole _ = false

-- by a first hole
abbrev pub binds_by_opening : Tables → Option Opening → Option ℕ
binds_by_opening t None = None
binds_by_opening t (Some o) =
    if is_hole (route_of o.need) && not (was_shown (t.consumer o.c))
    then current t o.request.key else None

abbrev pub is_reading : Option Consumer → Bool
is_reading None = false
is_reading (Some k) = reads k.place

-- by its plan
abbrev pub binds_by_showing : Tables → Option Showing → Option ℕ
binds_by_showing t None = None
binds_by_showing t (Some s) = if is_reading (t.consumer s.c) then None else Some s.r

-- the representation to which a consumer becomes bound: by founding, by a first hole, or by its plan
abbrev pub binds : Tables → Entry → Option ℕ
binds t e =
    option_or (founds t e)
    (option_or (binds_by_opening t (opening_in e.acts)) (binds_by_showing t (showing_in e.acts)))

-- r first, and each once
abbrev pub to_front : Option ℕ → List ℕ → List ℕ
to_front None rs = rs
to_front (Some r) rs = r ∷ filter (λ q. not (q == r)) rs

-- AFTER AN ENTRY

-- the tables after an accepted entry
abbrev pub after_accepted : Tables → Entry → Tables
after_accepted t e = record {
  moment = e.now;
  entries = t.entries + 1;
  received = t.received + received_in e.event;
  last_start = last_start_after e.event t.last_start;
  starts = starts_after e.event t.starts;
  opened = opened_after (opening_in e.acts) t.opened;
  openings = openings_after (opening_in e.acts) t.openings;
  founded = with_item_first (founds t e) t.founded;
  used = to_front (binds t e) t.used;
  exchange = λ x. exchange_after t e x (t.exchange x);
  representation = λ r. representation_after t e r (t.representation r);
  consumer = λ c. consumer_after t e c (t.consumer c);
}

-- a denied entry is counted, and changes the moment alone
abbrev pub after_denied : Tables → Entry → Tables
after_denied t e = record t {
  moment = e.now;
  entries = t.entries + 1;
  received = t.received + received_in e.event;
}

unfoldable pub after : Tables → Entry → Tables
after t e = if is_denied e.acts then after_denied t e else after_accepted t e

-- AT THE BEGINNING

-- where the last of some runs ends
abbrev pub last_end : List Run → ℕ
last_end [] = 0
last_end (run ∷ runs) = max (end_of run) (last_end runs)

-- how many bytes some runs have
abbrev pub bytes_in : List Run → ℕ
bytes_in runs = sum_by (λ (run : Run). length run.bytes) runs

-- a representation as a store begins with it
abbrev pub representation_of_content : Content → Representation
representation_of_content item = record {
  key = item.key;
  head = sealed_head kind.Growing item.head.total item.head;
  body = cells_of item.runs;
  stored = cells_of item.runs;
  reach = last_end item.runs;
  size = bytes_in item.runs;
  writer = None;
  is_lost = false;
  alone = None;
  is_gone = false;
}

abbrev pub numbers : List Content → List ℕ
numbers items = map (λ (item : Content). item.r) items

-- the tables of a store that begins with these contents
abbrev pub first_tables : Contents → Tables
first_tables contents = record {
  moment = contents.now;
  entries = 0;
  received = 0;
  last_start = contents.last_consumer;
  starts = [];
  opened = contents.next_exchange - 1;
  openings = [];
  founded = reverse (numbers contents.items);
  used = reverse (numbers contents.items);
  exchange = λ x. None;
  representation = λ r. option_map representation_of_content (find (λ (item : Content). item.r == r) contents.items);
  consumer = λ c. None;
}

unfoldable pub tables : Contents → History → Tables
tables contents [] = first_tables contents
tables contents (e ∷ h) = after (tables contents h) e
