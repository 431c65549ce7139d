-- What is known of each exchange: what is open, and what came and was not given yet.
use Rattle.std.specs.Prelude.{◌≡◌, ℕ, ◌+◌, ◌<◌, ◌≤◌, ◌^◌, List, [], ◌++◌, length, drop, Bool, true, false, not, ◌==◌, ◌||◌, nat_le, is_some, if◌then◌else◌, Option, Some, None, option_map}
use Rattle.hc_event.specs.declared.act.Need.{Need}
use Rattle.hc_event.specs.declared.event.Request.{Request}
use Rattle.hc_rules.specs.declared.length.Length.{Length}
use Rattle.hc_rules.specs.declared.refusal.OpenExchange.{OpenExchange}
use Rattle.hc_rules.specs.Lengths.{base_of, promise_of, length_of}
use Rattle.hc_event.specs.declared.event.Event.{Event}
use Rattle.hc_event.specs.declared.event.Event.TheVariants as event
use Rattle.hc_event.specs.declared.event.Response.{Response}
use Rattle.hc_event.specs.declared.act.Refusal.{Refusal}
use Rattle.hc_rules.specs.declared.length.Length.TheVariants.{Bad}
use Rattle.hc_rules.specs.Refusals.{exchange_refusal}
use Rattle.hc_exch.specs.declared.row.ExchangeView.{ExchangeView}
use Rattle.hc_exch.specs.declared.role.Role.{Role}
use Rattle.hc_exch.specs.declared.row.Open.{Open}

-- An exchange, where it is open, and the bytes that are held for who reads it.
pub record Known : Type 0 where
  pub running : Option Open
  pub held : List ℕ

-- of one that was never launched, or is over and read
abbrev pub unknown : Known
unknown = record { running = None; held = [] }

-- what is known of each, by number
abbrev pub Table : Type 0
Table = ℕ → Known

-- what is known of one changes, and of every other it stays
abbrev pub Changes : (Known → Known) → ℕ → Table → Table → Type 0
Changes f x before after = (y : ℕ) → after y ≡ (if x == y then f (before x) else before y)

abbrev pub exchange_at_opening : ℕ → Role → Need → Request → ℕ → Open
exchange_at_opening c role need request now =
    record { c = c; role = role; need = need; request = request; moment = now; headed = false; asked = false; base = 0; delivered = 0; promised = None }

abbrev pub with_new_exchange : ℕ → Role → Need → Request → ℕ → Known → Known
with_new_exchange c role need request now k = record { running = Some (exchange_at_opening c role need request now); held = [] }

-- what is open changes
abbrev pub on_open : (Open → Open) → Known → Known
on_open f k = record k { running = option_map f k.running }

abbrev pub with_asking : Known → Known
with_asking k = on_open (λ (o : Open). record o { asked = true }) k

abbrev pub turned_into : Role → Known → Known
turned_into role k = on_open (λ (o : Open). record o { role = role }) k

-- it isn't open any more, and what is held stays
abbrev pub without_exchange : Known → Known
without_exchange k = record k { running = None }

abbrev pub is_all : Option ℕ → ℕ → Bool
is_all None n = false
is_all (Some promised) n = promised == n

-- its head came, and it is over where nothing is promised
abbrev pub with_good_head : Length → Known → Known
with_good_head length k =
    if is_all (promise_of length) 0 then without_exchange k
    else on_open (λ (o : Open). record o { headed = true; base = base_of length; promised = promise_of length }) k

abbrev pub is_last_of : Option Open → ℕ → Bool
is_last_of None n = false
is_last_of (Some o) n = is_all o.promised (o.delivered + n)

-- a piece came, which is held or not, and it is over where that is the last that is promised
abbrev pub with_piece : List ℕ → Bool → Known → Known
with_piece bytes hold k = record {
  running = if is_last_of k.running (length bytes) then None else option_map (λ (o : Open). record o { delivered = o.delivered + length bytes; asked = false }) k.running;
  held = if hold then k.held ++ bytes else k.held;
}

-- the first bytes are given
abbrev pub without_first : ℕ → Known → Known
without_first n k = record k { held = drop n k.held }

abbrev pub forgotten : Known → Known
forgotten k = record k { held = [] }

-- a head or a piece of it is wanted
abbrev pub is_wanted : Option Open → Bool
is_wanted None = false
is_wanted (Some o) = not o.headed || o.asked

-- it waits for an ask
abbrev pub is_idle : Option Open → Bool
is_idle None = false
is_idle (Some o) = not (not o.headed || o.asked)

-- as the refusals see it
abbrev pub open_view : Open → OpenExchange
open_view o = record { headed = o.headed; asked = o.asked; delivered = o.delivered; promised = o.promised }

-- With so many bytes more, those that came and those that are held stay in range.
abbrev pub CountsTo : ℕ → Known → Type 0
CountsTo n k = (length k.held + n < 2 ^ 63) × ((o : Open) → k.running ≡ Some o → o.base + o.delivered + n ≤ 2 ^ 62)

-- not more is held than came
abbrev pub fits_by : Option Open → ℕ → Bool
fits_by None n = true
fits_by (Some o) n = nat_le n o.delivered

abbrev pub fits : Known → Bool
fits k = fits_by k.running (length k.held)

-- the number that an event of an exchange names
abbrev pub exchange_number : Event → ℕ
exchange_number (event.Head x response) = x
exchange_number (event.Piece x bytes) = x
exchange_number (event.End x) = x
exchange_number (event.Fault x) = x
exchange_number _ = 0

-- why an event of an exchange is denied
abbrev pub refusal_in : Table → Event → Option Refusal
refusal_in t e = exchange_refusal (option_map open_view (t (exchange_number e)).running) e

abbrev pub view_of : ℕ → Open → ExchangeView
view_of x o = record { x = x; c = o.c; role = o.role; headed = o.headed; asked = o.asked; base = o.base; delivered = o.delivered; promised = o.promised }

abbrev pub begins_with : Open → Need × Request × ℕ
begins_with o = (o.need, o.request, o.moment)

abbrev pub is_open : ℕ → Table → Bool
is_open x t = is_some (t x).running

-- what a head says to the exchange
abbrev pub length_by : Option Open → Response → Length
length_by None response = Bad
length_by (Some o) response = length_of o.need o.request response

-- the counts stay in range with so many bytes more
abbrev pub EndsBelow : ℕ → Option Open → Type 0
EndsBelow n None = Unit {0}
EndsBelow n (Some o) = o.base + o.delivered + n ≤ 2 ^ 62
