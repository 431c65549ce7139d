-- What an exchange brings, and whether it still does.
use Rattle.std.specs.Prelude.{ℕ, ◌+◌, length, Bool, false, Option, Some, None, is_none, ◌==◌, ◌&&◌, ◌||◌, option_and_then, unwrap_or}
use Rattle.hc_event.specs.declared.event.Event.{Event}
use Rattle.hc_event.specs.declared.event.Event.TheVariants as event
use Rattle.hc_event.specs.declared.event.Response.{Response}
use Rattle.hc_rules.specs.declared.length.Length.{Length}
use Rattle.hc_rules.specs.declared.length.Length.TheVariants as reported
use Rattle.hc_rules.specs.Lengths.{length_of, base_of, promise_of}
use Rattle.hc_model.specs.Rows.{Tables, Exchange}

-- what a head says to the exchange
abbrev pub length_by : Exchange → Option Response → Length
length_by w None = reported.Unknown
length_by w (Some response) = length_of w.need w.request response

-- the position at which its body begins
abbrev pub base : Exchange → ℕ
base w = base_of (length_by w w.head)

-- how many bytes it promised, once it has a good head
abbrev pub promised_bytes : Exchange → Option ℕ
promised_bytes w = promise_of (length_by w w.head)

-- where the next byte of an exchange belongs
abbrev pub front : Exchange → ℕ
front w = base w + length w.body

-- all that was promised has come
abbrev pub is_reached : Option ℕ → ℕ → Bool
is_reached None n = false
is_reached (Some p) n = p == n

-- whose family an exchange belongs to: that of the representation that it joined, or its own
abbrev pub family : ℕ → Exchange → ℕ
family x w = unwrap_or w.joined x

abbrev pub is_open : Option Exchange → Bool
is_open None = false
is_open (Some w) = w.is_open

-- it is open and has no head yet
abbrev pub is_headless : Option Exchange → Bool
is_headless None = false
is_headless (Some w) = w.is_open && is_none w.head

-- it is open, and waits for its head, or for bytes that were asked for
abbrev pub is_wanted : Option Exchange → Bool
is_wanted None = false
is_wanted (Some w) = w.is_open && (is_none w.head || w.asked)

-- the exchange of which an event brings something
abbrev pub exchange_in : Event → Option ℕ
exchange_in (event.Start c request) = None
exchange_in (event.Poll c want) = None
exchange_in (event.Head x response) = Some x
exchange_in (event.Piece x bytes) = Some x
exchange_in (event.End x) = Some x
exchange_in (event.Fault x) = Some x
exchange_in (event.Cancel c) = None
exchange_in (event.Doom key) = None

-- its row
abbrev pub exchange_at : Tables → Event → Option Exchange
exchange_at t event = option_and_then t.exchange (exchange_in event)

-- it was opened for this consumer
abbrev pub is_for : Option Exchange → ℕ → Bool
is_for None c = false
is_for (Some w) c = w.c == c
