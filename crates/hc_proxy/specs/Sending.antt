-- What a connection lacks of what it is to be sent: nothing, unless it took less than it was offered.
use Rattle.std.specs.Prelude.{ℕ, ◌&&◌, ◌||◌, not, nat_lt, List, length, find, Bool, true, false, Option, Some, None}
use Rattle.std.specs.List.{list_all}
use Rattle.hc_wire.specs.declared.connection.Standing.{Standing}
use Rattle.hc_wire.specs.Logs.{Called, Log, Taker, is_at_end, is_numbered}
use Rattle.hc_proxy.specs.Connections.{connection_of, dials_in}
use Rattle.hc_proxy.specs.Network.{open_exchanges}
use Rattle.hc_proxy.specs.Rows.{Client, Upstream, Proxy}
use Rattle.hc_proxy.specs.Standings.{Whose, OfClient, OfExchange, OfNobody, whose}

-- AT A CALL

-- how much it is to be sent
abbrev pub owed_by : Option Upstream → ℕ
owed_by None = 0
owed_by (Some upstream) = length upstream.owed

abbrev pub owed_to : Proxy → Whose → ℕ
owed_to p (OfClient client) = length client.owed
owed_to p (OfExchange x) = owed_by (p.upstream x)
owed_to p OfNobody = 0

abbrev pub is_sent : List (Option ℕ) → Proxy → Standing → Bool
is_sent dialled p s = s.short || not (nat_lt s.taken (owed_to p (whose dialled p s.k)))

abbrev pub sends_right : Called → List (Option ℕ) → Proxy → Bool
sends_right call dialled p = list_all (is_sent dialled p) call.standings

-- BEHIND THE LAST TURN

abbrev pub is_taken : ℕ → ℕ → Option Taker → Bool
is_taken calls n None = false
is_taken calls n (Some taker) = is_at_end taker.short calls || not (nat_lt (length taker.sent) n)

abbrev pub client_is_sent : Log → ℕ → Option Client → Bool
client_is_sent log k None = true
client_is_sent log k (Some client) =
    client.gone
    || is_taken (length log.calls) (length client.owed) (find (is_numbered k) log.takers)

abbrev pub taker_of : Log → Option ℕ → Option Taker
taker_of log None = None
taker_of log (Some k) = find (is_numbered k) log.takers

abbrev pub exchange_is_sent : Log → Proxy → ℕ → Bool
exchange_is_sent log p x =
    is_taken (length log.calls) (owed_by (p.upstream x))
    (taker_of log (connection_of (dials_in p log) x))

abbrev pub all_is_sent : Log → Proxy → Bool
all_is_sent log p =
    list_all (λ k. client_is_sent log k (p.client k)) p.accepted
    && list_all (exchange_is_sent log p) (open_exchanges p.tables)
