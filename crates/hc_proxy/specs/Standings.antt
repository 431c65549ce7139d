-- Which connections are open at a call: those of the clients, and those of the open exchanges.
use Rattle.std.specs.Prelude.{ℕ, ◌&&◌, ◌||◌, not, List, Bool, true, false, Option, Some, None}
use Rattle.std.specs.List.{list_all}
use Rattle.hc_wire.specs.declared.connection.Standing.{Standing}
use Rattle.hc_wire.specs.Logs.{Called}
use Rattle.hc_model.specs.Exchanges.{is_open}
use Rattle.hc_proxy.specs.Connections.{exchange_of, connection_of, stands, has_unsent}
use Rattle.hc_proxy.specs.Network.{open_exchanges}
use Rattle.hc_proxy.specs.Rows.{Client, Proxy}

-- WHOSE ONE IS

pub data Whose : Type 0 where
  OfClient : (client : Client) → Whose
  OfExchange : (x : ℕ) → Whose
  OfNobody : Whose

abbrev pub of_client : Option Client → Whose
of_client None = OfNobody
of_client (Some client) = OfClient client

abbrev pub whose_by : Proxy → ℕ → Option ℕ → Whose
whose_by p k (Some x) = OfExchange x
whose_by p k None = of_client (p.client k)

-- by the connections that were dialled
abbrev pub whose : List (Option ℕ) → Proxy → ℕ → Whose
whose dialled p k = whose_by p k (exchange_of dialled k)

-- WHO MAY STAND

-- a client that isn't gone, and wasn't to be closed or hasn't taken all
abbrev pub may_stand : Called → Proxy → ℕ → Whose → Bool
may_stand call p k (OfClient client) =
    not client.gone && (not client.closing || has_unsent call k client)
may_stand call p k (OfExchange x) = is_open (p.tables.exchange x)
may_stand call p k OfNobody = false

abbrev pub is_right : Called → List (Option ℕ) → Proxy → Standing → Bool
is_right call dialled p standing = may_stand call p standing.k (whose dialled p standing.k)

-- WHO STANDS

-- a client, but for one that was to be closed once it had taken all
abbrev pub client_stands : Called → Proxy → ℕ → Option Client → Bool
client_stands call p k None = true
client_stands call p k (Some client) = client.gone || client.closing || stands call k

abbrev pub number_stands : Called → Option ℕ → Bool
number_stands call None = false
number_stands call (Some k) = stands call k

-- an exchange
abbrev pub exchange_stands : Called → List (Option ℕ) → ℕ → Bool
exchange_stands call dialled x = number_stands call (connection_of dialled x)

-- JUST THESE

abbrev pub stand_right : Called → List (Option ℕ) → Proxy → Bool
stand_right call dialled p =
    list_all (is_right call dialled p) call.standings
    && list_all (λ k. client_stands call p k (p.client k)) p.accepted
    && list_all (exchange_stands call dialled) (open_exchanges p.tables)
