-- Where a consumer stands in what it reads, and from which exchange it reads.
use Rattle.std.specs.Prelude.{ℕ, ◌+◌, List, length, Bool, false, true, Option, Some, None, if◌then◌else◌, ◌==◌, ◌&&◌, not, filter, option_and_then}
use Rattle.std.specs.Option.{option_or}
use Rattle.hc_event.specs.declared.place.Place.{Place}
use Rattle.hc_event.specs.declared.place.Place.TheVariants as place
use Rattle.hc_model.specs.Rows.{Tables, Exchange, Representation, Consumer}
use Rattle.hc_model.specs.Exchanges.{base, promised_bytes, is_open}
use Rattle.hc_model.specs.Currents.{total_in}

-- WHO IS BOUND

abbrev pub is_bound_place : ℕ → Place → Bool
is_bound_place r (place.Bound q lo hi by) = q == r
is_bound_place r _ = false

abbrev pub is_bound : ℕ → Option Consumer → Bool
is_bound r None = false
is_bound r (Some k) = is_bound_place r k.place

-- the consumers bound to a representation
unfoldable pub bound : Tables → ℕ → List ℕ
bound t r = filter (λ c. is_bound r (t.consumer c)) t.starts

-- to what a consumer is bound
abbrev pub bound_to : Place → Option ℕ
bound_to (place.Bound r lo hi by) = Some r
bound_to _ = None

-- it is bound or direct
abbrev pub reads : Place → Bool
reads (place.Bound r lo hi by) = true
reads (place.Direct x) = true
reads _ = false

-- FROM WHERE TO WHERE

abbrev pub base_in : Option Exchange → ℕ
base_in None = 0
base_in (Some w) = base w

-- of an answer past the store: as long as promised, or as it was when it ended cleanly
abbrev pub end_of_direct : Option ℕ → Exchange → Option ℕ
end_of_direct (Some n) w = Some (base w + n)
end_of_direct None w = if w.is_ended then Some (length w.body) else None

abbrev pub end_in : Option Exchange → Option ℕ
end_in None = None
end_in (Some w) = end_of_direct (promised_bytes w) w

-- where what a consumer reads begins
abbrev pub lo_of : Tables → Place → ℕ
lo_of t (place.Bound r lo hi by) = lo
lo_of t (place.Direct x) = base_in (t.exchange x)
lo_of t _ = 0

-- where it ends; an end that wasn't known is the total, once that is known
abbrev pub hi_of : Tables → Place → Option ℕ
hi_of t (place.Bound r lo hi by) = option_or hi (total_in (t.representation r))
hi_of t (place.Direct x) = end_in (t.exchange x)
hi_of t _ = None

-- where a consumer stands in it
abbrev pub offset : Tables → Consumer → ℕ
offset t k = lo_of t k.place + k.given

-- FROM WHICH EXCHANGE

abbrev pub if_open : Tables → ℕ → Option ℕ
if_open t x = if is_open (t.exchange x) then Some x else None

-- the open exchange that is its own
abbrev pub own_open : Tables → Consumer → Option ℕ
own_open t k = option_and_then (if_open t) k.own

abbrev pub is_open_writer : Tables → Option ℕ → Bool
is_open_writer t None = false
is_open_writer t (Some x) = is_open (t.exchange x)

-- the writer group of a representation is on
unfoldable pub is_written : Tables → Representation → Bool
is_written t v = not v.is_lost && is_open_writer t v.writer

abbrev pub group_in : Tables → Option Representation → Option ℕ
group_in t None = None
group_in t (Some v) = if is_written t v then v.writer else None

-- the exchange of the writer group of which a consumer is a member
abbrev pub shared_exchange : Tables → Place → Option ℕ
shared_exchange t (place.Bound r lo hi by) = group_in t (t.representation r)
shared_exchange t _ = None

-- the open exchange that a consumer reads from: its own, or that of the writer group
abbrev pub source : Tables → Consumer → Option ℕ
source t k = option_or (own_open t k) (shared_exchange t k.place)
