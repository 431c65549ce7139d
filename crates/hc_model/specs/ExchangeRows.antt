-- The row of an exchange after an entry.
use Rattle.std.specs.Prelude.{ℕ, List, [], ◌++◌, length, true, false, Option, Some, None, if◌then◌else◌, ◌==◌, ◌||◌, ◌&&◌, not}
use Rattle.hc_event.specs.Filters.{Opening, opening_in, asks_in, closes_in}
use Rattle.hc_event.specs.declared.event.Event.{Event}
use Rattle.hc_event.specs.declared.event.Event.TheVariants as event
use Rattle.hc_event.specs.declared.event.Response.{Response}
use Rattle.hc_event.specs.declared.act.Act.{Act}
use Rattle.hc_rules.specs.Lengths.{length_of, promise_of}
use Rattle.hc_event.specs.declared.place.Place.{Place}
use Rattle.hc_event.specs.declared.place.Place.TheVariants as place
use Rattle.hc_model.specs.Entries.{Entry}
use Rattle.hc_model.specs.Rows.{Tables, Exchange, Consumer}
use Rattle.hc_model.specs.Exchanges.{promised_bytes, is_reached}
use Rattle.hc_model.specs.Currents.{current}
use Rattle.hc_model.specs.Cases.{case_at, is_joining}

-- OPENED

abbrev pub aim_from : Tables → List ℕ → Place → Option ℕ
aim_from t key (place.Bound r lo hi by) = Some r
aim_from t key _ = current t key

-- what an exchange for a consumer is about: what the consumer is bound to, or what is current
abbrev pub aim_of : Tables → Option Consumer → Option ℕ
aim_of t None = None
aim_of t (Some k) = aim_from t k.request.key k.place

abbrev pub exchange_opened : Tables → Entry → Opening → Exchange
exchange_opened t e o = record {
  c = o.c;
  need = o.need;
  request = o.request;
  opened = e.now;
  aim = aim_of t (t.consumer o.c);
  head = None;
  answered = e.now;
  joined = None;
  body = [];
  asked = false;
  is_ended = false;
  is_open = true;
}

abbrev pub exchange_made : Tables → Entry → ℕ → Option Opening → Option Exchange
exchange_made t e x None = None
exchange_made t e x (Some o) = if o.x == x then Some (exchange_opened t e o) else None

-- HEARD

-- what was promised by the head that comes
abbrev pub promise_in : Exchange → Response → Option ℕ
promise_in w response = promise_of (length_of w.need w.request response)

-- what an exchange joined, with the head that comes
abbrev pub joined_at : Tables → Entry → Exchange → Option ℕ
joined_at t e w = if is_joining (case_at t e) then w.aim else w.joined

abbrev pub with_head : Tables → Entry → Response → Exchange → Exchange
with_head t e response w = record w {
  head = Some response;
  answered = e.now;
  joined = joined_at t e w;
  is_open = not (is_reached (promise_in w response) 0) && w.is_open;
}

abbrev pub with_piece : List ℕ → Exchange → Exchange
with_piece bytes w = record w {
  body = w.body ++ bytes;
  asked = false;
  is_open = not (is_reached (promised_bytes w) (length (w.body ++ bytes))) && w.is_open;
}

-- what an accepted entry's event says of the exchange x; t is before it
abbrev pub exchange_heard : Tables → Entry → ℕ → Event → Exchange → Exchange
exchange_heard t e x (event.Start c request) w = w
exchange_heard t e x (event.Poll c want) w = w
exchange_heard t e x (event.Head y response) w = if y == x then with_head t e response w else w
exchange_heard t e x (event.Piece y bytes) w = if y == x then with_piece bytes w else w
exchange_heard t e x (event.End y) w =
    if y == x then record w { is_ended = true; is_open = false } else w
exchange_heard t e x (event.Fault y) w = if y == x then record w { is_open = false } else w
exchange_heard t e x (event.Cancel c) w = w
exchange_heard t e x (event.Doom key) w = w

-- what the acts say of it
abbrev pub exchange_acted : ℕ → List Act → Exchange → Exchange
exchange_acted x acts w =
    record w { asked = asks_in x acts || w.asked; is_open = not (closes_in x acts) && w.is_open }

unfoldable pub exchange_after : Tables → Entry → ℕ → Option Exchange → Option Exchange
exchange_after t e x (Some w) = Some (exchange_acted x e.acts (exchange_heard t e x e.event w))
exchange_after t e x None = exchange_made t e x (opening_in e.acts)
