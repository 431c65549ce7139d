-- The step *network*: what the origin sent is handed to the cache, one part a turn of each exchange that is wanted.
use Rattle.std.specs.Prelude.{ℕ, nat_lt, List, [], ◌∷◌, length, filter, reverse, Bool, false, Option, Some, None, Result, Ok, Err, ◌&&◌, ◌||◌, if◌then◌else◌}
use Rattle.hc_event.specs.declared.event.Event.{Event}
use Rattle.hc_event.specs.declared.event.Event.TheVariants as event
use Rattle.hc_event.specs.Filters.{is_denied}
use Rattle.hc_head.specs.declared.message.MsgError.{MsgError}
use Rattle.hc_msg.specs.declared.message.WirePart.{WirePart}
use Rattle.hc_msg.specs.Inputs.{Next, Waits, Reports, Brings, Ends, Fails, next_in}
use Rattle.hc_msg.specs.Reading.{Reading, Done, Failed, Token, Answers}
use Rattle.hc_msg.specs.Taking.{is_whole, ending}
use Rattle.hc_rules.specs.declared.room.Limits.{Limits}
use Rattle.hc_model.specs.Entries.{Entry}
use Rattle.hc_model.specs.Exchanges.{is_open, is_wanted}
use Rattle.hc_model.specs.Rows.{Tables}
use Rattle.hc_proxy.specs.Rows.{Upstream, Proxy, with_upstream}
use Rattle.hc_proxy.specs.Steps.{stepped}

-- the open exchanges, in ascending order
abbrev pub open_exchanges : Tables → List ℕ
open_exchanges t = reverse (filter (λ x. is_open (t.exchange x)) t.openings)

abbrev pub read_to : Reading → List ℕ → Upstream → Upstream
read_to reading rest upstream = record upstream { reading = reading; input = rest }

abbrev pub is_last_denied : List Entry → Bool
is_last_denied [] = false
is_last_denied (e ∷ es) = is_denied e.acts

-- a piece that is denied, since it brings more than was promised, is followed by a fault
abbrev pub unless_denied : Limits → ℕ → Proxy → Proxy
unless_denied limits x p = if is_last_denied p.part then stepped limits (event.Fault x) p else p

-- THE NEXT PART

-- bytes came of it, or its end, or its message is whole: a part may stand there
abbrev pub has_news : Upstream → Bool
has_news upstream =
    nat_lt 0 (length upstream.input) || upstream.ended || is_whole upstream.reading

-- what stands next, of a body at most 16,384 bytes
abbrev pub next_of : Upstream → Next
next_of upstream = next_in 16384 upstream.reading upstream.input

-- A PART, where the cache wants it

abbrev pub hands_head : Limits → ℕ → Token → Proxy → Proxy
hands_head limits x (Answers response) p = stepped limits (event.Head x response) p
hands_head limits x _ p = p

-- what stands next is one event
abbrev pub hands : Limits → ℕ → Next → Proxy → Proxy
hands limits x (Waits reading) p = with_upstream x (read_to reading []) p
hands limits x (Reports token reading rest) p =
    hands_head limits x token (with_upstream x (read_to reading rest) p)
hands limits x (Brings bytes reading rest) p =
    unless_denied limits x
    (stepped limits (event.Piece x bytes) (with_upstream x (read_to reading rest) p))
hands limits x Ends p = stepped limits (event.End x) (with_upstream x (read_to Done []) p)
hands limits x (Fails e) p =
    stepped limits (event.Fault x) (with_upstream x (read_to (Failed e) []) p)

abbrev pub hands_if : Limits → ℕ → Option Upstream → Proxy → Proxy
hands_if limits x None p = p
hands_if limits x (Some upstream) p =
    if is_wanted (p.tables.exchange x) && has_news upstream
    then hands limits x (next_of upstream) p else p

-- THE CLOSE OF THE CONNECTION, wanted or not

-- an answer that was cut off is a fault (RFC 9112 section 8)
abbrev pub event_at_close : ℕ → Result WirePart MsgError → Event
event_at_close x (Ok part) = event.End x
event_at_close x (Err e) = event.Fault x

-- where no further part stands in what came
abbrev pub closes : Limits → ℕ → Next → Proxy → Proxy
closes limits x (Waits reading) p = stepped limits (event_at_close x (ending reading)) p
closes limits x (Fails e) p = stepped limits (event.Fault x) p
closes limits x _ p = p

abbrev pub closes_if : Limits → ℕ → Option Upstream → Proxy → Proxy
closes_if limits x None p = p
closes_if limits x (Some upstream) p =
    if upstream.ended && is_open (p.tables.exchange x)
    then closes limits x (next_of upstream) p else p

-- ALL OF THEM

abbrev pub handed : Limits → ℕ → Proxy → Proxy
handed limits x p = hands_if limits x (p.upstream x) p

abbrev pub closed : Limits → ℕ → Proxy → Proxy
closed limits x p = closes_if limits x (p.upstream x) p

abbrev pub each_heard : Limits → List ℕ → Proxy → Proxy
each_heard limits [] p = p
each_heard limits (x ∷ xs) p = each_heard limits xs (closed limits x (handed limits x p))

unfoldable pub heard : Limits → Proxy → Proxy
heard limits p = each_heard limits (open_exchanges p.tables) p
