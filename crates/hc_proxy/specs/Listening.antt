-- Which of the open connections are read: that of an exchange that is wanted, and that of a client which waits for
-- nothing.
use Rattle.std.specs.Prelude.{ℕ, ◌&&◌, not, List, is_none, Bool, false, Option}
use Rattle.std.specs.List.{list_all}
use Rattle.hc_wire.specs.declared.connection.Standing.{Standing}
use Rattle.hc_wire.specs.Logs.{Called}
use Rattle.hc_model.specs.Exchanges.{is_wanted}
use Rattle.hc_peers.specs.Peers.{is_same}
use Rattle.hc_proxy.specs.Connections.{has_unsent}
use Rattle.hc_proxy.specs.Rows.{Proxy}
use Rattle.hc_proxy.specs.Standings.{Whose, OfClient, OfExchange, OfNobody, whose}

abbrev pub is_read : Called → Proxy → ℕ → Whose → Bool
is_read call p k (OfClient client) = is_none client.consumer && not (has_unsent call k client)
is_read call p k (OfExchange x) = is_wanted (p.tables.exchange x)
is_read call p k OfNobody = false

abbrev pub reads_right : Called → List (Option ℕ) → Proxy → Bool
reads_right call dialled p =
    list_all (λ (s : Standing). is_same s.reads (is_read call p s.k (whose dialled p s.k)))
    call.standings
