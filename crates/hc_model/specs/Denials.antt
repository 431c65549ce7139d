-- Why an event is denied, by what the tables say of whom and what it names.
use Rattle.std.specs.Prelude.{◌≡◌, ◌≤◌, ℕ, length, Bool, true, false, Option, Some, None, is_some, if◌then◌else◌, filter}
use Rattle.hc_event.specs.declared.event.Event.{Event}
use Rattle.hc_event.specs.declared.event.Event.TheVariants as event
use Rattle.hc_event.specs.declared.act.Refusal.{Refusal}
use Rattle.hc_rules.specs.declared.refusal.Gate.{Gate}
use Rattle.hc_rules.specs.declared.refusal.OpenExchange.{OpenExchange}
use Rattle.hc_rules.specs.Refusals as refusals
use Rattle.hc_event.specs.declared.place.Place.{Place}
use Rattle.hc_event.specs.declared.place.Place.TheVariants as place
use Rattle.hc_model.specs.Rows.{Tables, Exchange, Consumer}
use Rattle.hc_model.specs.Exchanges.{promised_bytes, exchange_at}

abbrev pub is_live_place : Place → Bool
is_live_place place.Over = false
is_live_place _ = true

-- it started, and didn't end, fail or leave
abbrev pub is_live : Option Consumer → Bool
is_live None = false
is_live (Some k) = is_live_place k.place

-- how many consumers are live
abbrev pub live : Tables → ℕ
live t = length (filter (λ c. is_live (t.consumer c)) t.starts)

-- whether the consumer that an event names is live
abbrev pub names_live : Tables → Event → Bool
names_live t (event.Poll c want) = is_live (t.consumer c)
names_live t (event.Cancel c) = is_live (t.consumer c)
names_live t _ = false

abbrev pub open_exchange : Exchange → OpenExchange
open_exchange w = record {
  headed = is_some w.head;
  asked = w.asked;
  delivered = length w.body;
  promised = promised_bytes w;
}

abbrev pub as_open : Option Exchange → Option OpenExchange
as_open None = None
as_open (Some w) = if w.is_open then Some (open_exchange w) else None

-- what the refusals look at
abbrev pub gate : Tables → Event → Gate
gate t event = record {
  last_start = t.last_start;
  live = live t;
  is_live = names_live t event;
  exchange = as_open (exchange_at t event);
}

-- the first refusal that applies
abbrev pub denial : Tables → Event → Option Refusal
denial t event = refusals.refusal_of (gate t event) event

-- c is live, and nobody with a lower number
pub record IsLeastLive (t : Tables) (c : ℕ) : Type 0 where
  pub live : is_live (t.consumer c) ≡ true
  pub least : (d : ℕ) → is_live (t.consumer d) ≡ true → c ≤ d
