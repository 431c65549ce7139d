-- What entries do to the tables, one thing at a time.
use Rattle.std.specs.Prelude.{◌≡◌, ℕ, ◌+◌, List, [], ◌∷◌, Bool, true, false, Option, Some, None, is_none, option_map, filter, reverse, bytes_eq, ◌==◌, ◌||◌, ◌&&◌, not, if◌then◌else◌}
use Rattle.std.specs.Option.{option_or}
use Rattle.hc_event.specs.declared.event.Event.{Event}
use Rattle.hc_event.specs.declared.event.Event.TheVariants as event
use Rattle.hc_event.specs.declared.event.Request.{Request}
use Rattle.hc_event.specs.declared.event.Response.{Response}
use Rattle.hc_event.specs.declared.act.Act.{Act}
use Rattle.hc_event.specs.declared.act.Cause.{Cause}
use Rattle.hc_event.specs.declared.act.Cause.TheVariants as cause
use Rattle.hc_event.specs.declared.act.Need.{Need}
use Rattle.hc_rules.specs.declared.room.Limits.{Limits}
use Rattle.hc_event.specs.declared.place.Place.{Place}
use Rattle.hc_event.specs.declared.place.Place.TheVariants as place
use Rattle.hc_rules.specs.Statuses.{brings_whole}
use Rattle.hc_model.specs.Answers.{accepted_acts}
use Rattle.hc_model.specs.Closings.{is_last_reader, awaits}
use Rattle.hc_model.specs.ConsumerRows.{back_in_line, new_consumer}
use Rattle.hc_model.specs.Currents.{is_number}
use Rattle.hc_model.specs.Entries.{entry_without_acts}
use Rattle.hc_model.specs.ExchangeRows.{promise_in, with_piece}
use Rattle.hc_model.specs.Exchanges.{is_reached, is_headless}
use Rattle.hc_model.specs.Flaws.{Flaw}
use Rattle.hc_model.specs.Gone.{is_keepable}
use Rattle.hc_model.specs.Heads.{updated_head}
use Rattle.hc_model.specs.Keys.{entry_of}
use Rattle.hc_model.specs.Reading.{own_open, shared_exchange, is_bound_place}
use Rattle.hc_model.specs.RepresentationRows.{new_representation, resumes, with_total_if_none}
use Rattle.hc_model.specs.Rows.{Tables, Exchange, Representation, Consumer}
use Rattle.hc_model.specs.StartingOver.{waits_at}
use Rattle.hc_model.specs.Tables.{after_accepted, received_in, to_front, with_item_first}

-- ONE ROW IS ANOTHER

abbrev pub with_consumer : ℕ → Option Consumer → Tables → Tables
with_consumer c row t = record t { consumer = λ d. if c == d then row else t.consumer d }

abbrev pub with_exchange : ℕ → Option Exchange → Tables → Tables
with_exchange x row t = record t { exchange = λ y. if x == y then row else t.exchange y }

abbrev pub with_representation : ℕ → Option Representation → Tables → Tables
with_representation r row t = record t {
  representation = λ q. if r == q then row else t.representation q;
}

-- COUNTS AND LISTS

-- an event came
abbrev pub with_event : ℕ → Event → Tables → Tables
with_event now event t = record t {
  moment = now;
  entries = t.entries + 1;
  received = t.received + received_in event;
}

-- a consumer became bound to it
abbrev pub used_last : ℕ → Tables → Tables
used_last r t = record t { used = to_front (Some r) t.used }

-- a consumer starts
abbrev pub with_start : ℕ → ℕ → Request → Tables → Tables
with_start now c request t = record (with_consumer c (Some (new_consumer now request)) t) {
  last_start = c;
  starts = c ∷ t.starts;
}

-- OPENING AND ASKING

-- an exchange that was opened at this moment, about this representation
abbrev pub just_opened : ℕ → ℕ → Need → Request → Option ℕ → Exchange
just_opened now c need request aim = record {
  c = c;
  need = need;
  request = request;
  opened = now;
  aim = aim;
  head = None;
  answered = now;
  joined = None;
  body = [];
  asked = false;
  is_ended = false;
  is_open = true;
}

abbrev pub with_opening : ℕ → Exchange → Tables → Tables
with_opening x w t =
    record (with_exchange x (Some w) t) { opened = x; openings = x ∷ t.openings }

abbrev pub to_bring : Exchange → Exchange
to_bring w = record w { asked = true }

-- its next piece is asked for
abbrev pub with_ask : ℕ → Tables → Tables
with_ask x t = record t {
  exchange = λ y. if x == y then option_map to_bring (t.exchange y) else t.exchange y;
}

-- A HEAD COMES

-- its head came at this moment: it joined this, and is over where no byte is promised
abbrev pub exchange_with_head : ℕ → Response → Option ℕ → Exchange → Exchange
exchange_with_head now response joined w = record w {
  head = Some response;
  answered = now;
  joined = joined;
  is_open = not (is_reached (promise_in w response) 0) && w.is_open;
}

abbrev pub with_answer : ℕ → ℕ → Response → Option ℕ → Exchange → Tables → Tables
with_answer now x response joined w t =
    with_exchange x (Some (exchange_with_head now response joined w)) t

-- the exchange, where its head leaves it open
abbrev pub unless_ended : ℕ → Response → Exchange → List ℕ
unless_ended x response w = if is_reached (promise_in w response) 0 then [] else x ∷ []

-- UPDATING AND FOUNDING

-- with the head that a later one makes of its own (RFC 9111 section 3.2)
abbrev pub with_refreshed_head : ℕ → Response → Exchange → Representation → Representation
with_refreshed_head now response w v = record v { head = updated_head now response w v.head }

-- where the exchange brings all that is missing, it is written for several from now on
abbrev pub with_resumption : Tables → ℕ → Response → Exchange → Representation → Representation
with_resumption t x response w v = record v {
  writer = if resumes t response w v then Some x else v.writer;
}

-- a representation as the head founds it at this moment
abbrev pub just_founded : ℕ → ℕ → Response → Exchange → Representation
just_founded now x response w = new_representation x (entry_without_acts now (event.Head x response)) response w

abbrev pub with_founding : ℕ → Representation → Tables → Tables
with_founding x v t =
    record (used_last x (with_representation x (Some v) t)) { founded = x ∷ t.founded }

-- AN EXCHANGE BRINGS BYTES, AND ENDS

-- the exchange, where these bytes leave it open
abbrev pub unless_reached : ℕ → List ℕ → Exchange → List ℕ
unless_reached x bytes w = if (with_piece bytes w).is_open then x ∷ [] else []

abbrev pub at_end : Exchange → Exchange
at_end w = record w { is_ended = true; is_open = false }

-- what an exchange founded, if anything, is as long as what came, where nothing told its length
abbrev pub with_length : ℕ → ℕ → Tables → Tables
with_length x n t = record t {
  representation = λ q.
      if x == q then option_map (with_total_if_none n) (t.representation q) else t.representation q;
}

-- A FAILURE BECOMES DUE

-- if there is one, and none is due
abbrev pub failing : Option Cause → Consumer → Consumer
failing why k = record k { due = option_or k.due why }

abbrev pub with_due : ℕ → Option Cause → Tables → Tables
with_due c why t = record t {
  consumer = λ d. if c == d then option_map (failing why) (t.consumer d) else t.consumer d;
}

abbrev pub if_bound : ℕ → (Consumer → Consumer) → Consumer → Consumer
if_bound r change k = if is_bound_place r k.place then change k else k

-- for whoever is bound to r
abbrev pub with_dues : ℕ → Option Cause → Tables → Tables
with_dues r why t = record t {
  consumer = λ d. option_map (if_bound r (failing why)) (t.consumer d);
}

-- it is to be told that it failed, and reads nothing
abbrev pub put_down : Cause → Consumer → Consumer
put_down why k = record k { place = place.Down why; due = None }

-- LETTING GO

abbrev pub waits_for : ℕ → Place → Bool
waits_for r (place.Passed q kept) = r == q
waits_for r _ = false

-- who waits for it starts over
abbrev pub back_from : ℕ → ℕ → Consumer → Consumer
back_from now r k = if waits_for r k.place then back_in_line now k else k

abbrev pub as_gone : Representation → Representation
as_gone v = record v { is_gone = true }

-- a representation isn't used for new consumers any more
abbrev pub let_go : ℕ → ℕ → Tables → Tables
let_go now r t = record t {
  representation = λ q. if r == q then option_map as_gone (t.representation q) else t.representation q;
  consumer = λ d. option_map (back_from now r) (t.consumer d);
}

-- each of these is let go
abbrev pub let_all_go : ℕ → List ℕ → Tables → Tables
let_all_go now [] t = t
let_all_go now (r ∷ rs) t = let_all_go now rs (let_go now r t)

-- there is one, and it is let go
abbrev pub let_some_go : ℕ → Option ℕ → Tables → Tables
let_some_go now None t = t
let_some_go now (Some r) t = let_go now r t

-- CLOSING

abbrev pub over : Exchange → Exchange
over w = record w { is_open = false }

abbrev pub tables_after_close : ℕ → Tables → Tables
tables_after_close x t = record t {
  exchange = λ y. if x == y then option_map over (t.exchange y) else t.exchange y;
}

-- each of these is closed
abbrev pub all_closed : List ℕ → Tables → Tables
all_closed [] t = t
all_closed (x ∷ xs) t = all_closed xs (tables_after_close x t)

-- DOOMING

-- who waits for the key starts over
abbrev pub sent_back : Tables → ℕ → List ℕ → Consumer → Consumer
sent_back t now key k =
    if bytes_eq key k.request.key && waits_at t k.place then back_in_line now k else k

-- each of them does
abbrev pub woken : ℕ → List ℕ → Tables → Tables
woken now key t = record t { consumer = λ d. option_map (sent_back t now key) (t.consumer d) }

-- it is of the key and has no head yet, and its consumer waits for that to found or to join by it
abbrev pub is_awaited : Tables → List ℕ → ℕ → Option Exchange → Bool
is_awaited t key x None = false
is_awaited t key x (Some w) =
    bytes_eq key w.request.key && is_headless (Some w) && awaits (t.consumer w.c) x

-- these exchanges and this one, in ascending order of their numbers
abbrev pub awaited_and : Tables → List ℕ → Option ℕ → List ℕ
awaited_and t key also =
    filter (λ x. is_number also x || is_awaited t key x (t.exchange x)) (reverse t.openings)

-- LEAVING

-- a consumer ended, failed or left
abbrev pub as_over : Consumer → Consumer
as_over k = record k { place = place.Over; due = None }

-- the exchange that nobody reads any more once c leaves: its own, or that of the writer group whose last member it is
abbrev pub left_by : Tables → ℕ → Consumer → Option ℕ
left_by t c k =
    option_or (own_open t k) (if is_last_reader t c k.place then shared_exchange t k.place else None)

-- a whole answer founded it, and it can't be completed later
abbrev pub is_unkeepable : Option Representation → Bool
is_unkeepable None = false
is_unkeepable (Some v) = brings_whole v.head.status && not (is_keepable v)

-- what goes with the exchange that founded it
abbrev pub going_with : Tables → Option ℕ → Option ℕ
going_with t None = None
going_with t (Some x) = if is_unkeepable (t.representation x) then Some x else None

-- c leaves, and what nobody reads any more is closed
abbrev pub with_leave : ℕ → Consumer → Tables → Tables
with_leave c k t =
    with_consumer c (Some (as_over k)) (all_closed (with_item_first (left_by t c k) []) t)

-- LOSING

-- from now on nothing of it is stored, and who writes it alone goes on
abbrev pub lost_to : Option ℕ → Representation → Representation
lost_to alone v = record v { is_lost = true; alone = alone }

-- of those who read r together, where it is lost, one goes on, with its exchange; to the others a failure is due
abbrev pub left_with : ℕ → Option ℕ → Option ℕ → ℕ → Consumer → Consumer
left_with r alone writer d k =
    if is_number alone d then record k { own = writer }
    else record k { due = option_or k.due (Some (cause.StoreWrite r)) }

-- the writer group of r is lost
abbrev pub group_lost : ℕ → Option ℕ → Option ℕ → Tables → Tables
group_lost r alone writer t = record t {
  consumer = λ d. option_map (if_bound r (left_with r alone writer d)) (t.consumer d);
}

-- its exchange, where nobody goes on
abbrev pub unless_survived : Option ℕ → Option ℕ → List ℕ
unless_survived alone writer = with_item_first (if is_none alone then writer else None) []

abbrev pub with_loss : ℕ → Option ℕ → Tables → Tables
with_loss r alone t = record t {
  representation = λ q.
      if r == q then option_map (lost_to alone) (t.representation q) else t.representation q;
}

-- AN EVENT

-- at this event these are the acts, and after it these the tables
pub record Does (limits : Limits) (t : Tables) (now : ℕ) (event : Event) (flaw : Flaw)
    (acts : List Act) (s : Tables) : Type 0 where
  pub acts_are : accepted_acts limits t now event flaw ≡ acts
  pub tables_are : after_accepted t (entry_of limits t now event flaw) ≡ s
