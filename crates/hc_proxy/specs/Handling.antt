-- The step *handle*: what an event of the wire makes of the tables.
use Rattle.std.specs.Prelude.{ℕ, ◌++◌, ◌&&◌, ◌||◌, ◌∷◌, not, nat_lt, max, List, [], length, filter, Bool, true, false, Option, Some, None, is_none, option_map, if◌then◌else◌}
use Rattle.hc_event.specs.declared.event.Event.TheVariants as event
use Rattle.hc_wire.specs.declared.event.WireEvent.{WireEvent}
use Rattle.hc_wire.specs.declared.event.WireEvent.TheVariants as wire
use Rattle.hc_wire.specs.Logs.{Called}
use Rattle.hc_rules.specs.declared.room.Limits.{Limits}
use Rattle.hc_model.specs.Exchanges.{is_open}
use Rattle.hc_proxy.specs.Connections.{exchange_of, stands}
use Rattle.hc_proxy.specs.Rows.{Client, Upstream, Proxy, new_client, with, with_client, with_upstream}
use Rattle.hc_proxy.specs.Steps.{stepped}

-- A TURN BEGINS

-- a client whose connection doesn't stand any more was let go
abbrev pub seen_at : Called → ℕ → Client → Client
seen_at call k client =
    if client.gone || stands call k then client else record client { gone = true; let_go = true }

abbrev pub begun : Called → Proxy → Proxy
begun call p = record p {
  part = [];
  moment = max p.moment call.moment;
  client = λ k. option_map (seen_at call k) (p.client k);
}

-- CLIENTS

abbrev pub is_client : Option Client → Bool
is_client None = false
is_client (Some client) = not client.gone

-- the connections of those that are here, in ascending order
abbrev pub clients_here : Proxy → List ℕ
clients_here p = filter (λ k. is_client (p.client k)) p.accepted

abbrev pub inserted : ℕ → List ℕ → List ℕ
inserted k [] = k ∷ []
inserted k (j ∷ ks) = if nat_lt k j then k ∷ j ∷ ks else j ∷ inserted k ks

-- one more, where its number is new and there are fewer than 512; a further one is closed at once
abbrev pub client_comes : ℕ → Proxy → Proxy
client_comes k p =
    if is_none (p.client k) && nat_lt (length (clients_here p)) 512
    then record p { accepted = inserted k p.accepted; client = with k new_client p.client } else p

abbrev pub left : Client → Client
left client = record client { gone = true }

abbrev pub cancelled : Limits → Option ℕ → Proxy → Proxy
cancelled limits None p = p
cancelled limits (Some c) p = stepped limits (event.Cancel c) p

abbrev pub leaves : Limits → ℕ → Option Client → Proxy → Proxy
leaves limits k None p = p
leaves limits k (Some client) p =
    if client.gone then p else with_client k left (cancelled limits client.consumer p)

-- its consumer is cancelled, and its connection closed
abbrev pub client_leaves : Limits → ℕ → Proxy → Proxy
client_leaves limits k p = leaves limits k (p.client k) p

abbrev pub client_sends : List ℕ → Client → Client
client_sends bytes client =
    if client.gone then client else record client { input = client.input ++ bytes }

-- CONNECTIONS TO THE ORIGIN

abbrev pub origin_sends : List ℕ → Upstream → Upstream
origin_sends bytes upstream = record upstream { input = upstream.input ++ bytes }

abbrev pub origin_ends : Upstream → Upstream
origin_ends upstream = record upstream { ended = true }

abbrev pub breaks : Limits → ℕ → Proxy → Proxy
breaks limits x p = if is_open (p.tables.exchange x) then stepped limits (event.Fault x) p else p

-- BOTH

abbrev pub sends : Option ℕ → ℕ → List ℕ → Proxy → Proxy
sends None k bytes p = with_client k (client_sends bytes) p
sends (Some x) k bytes p = with_upstream x (origin_sends bytes) p

abbrev pub ends : Limits → Option ℕ → ℕ → Proxy → Proxy
ends limits None k p = client_leaves limits k p
ends limits (Some x) k p = with_upstream x origin_ends p

abbrev pub broke : Limits → Option ℕ → ℕ → Proxy → Proxy
broke limits None k p = client_leaves limits k p
broke limits (Some x) k p = breaks limits x p

-- by the event, where these connections were dialled
abbrev pub handled_by : Limits → List (Option ℕ) → List ℕ → WireEvent → Proxy → Proxy
handled_by limits dialled bytes (wire.Accepted k) p = client_comes k p
handled_by limits dialled bytes (wire.Got k n) p = sends (exchange_of dialled k) k bytes p
handled_by limits dialled bytes (wire.Ended k) p = ends limits (exchange_of dialled k) k p
handled_by limits dialled bytes (wire.Broke k) p = broke limits (exchange_of dialled k) k p
handled_by limits dialled bytes (wire.Room k) p = p
handled_by limits dialled bytes wire.Quiet p = p

unfoldable pub handled : Limits → List (Option ℕ) → Called → Proxy → Proxy
handled limits dialled call p = handled_by limits dialled call.bytes call.event p
