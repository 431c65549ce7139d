-- The step *polls*: each live consumer whose client was sent all is polled once.
use Rattle.std.specs.Prelude.{ℕ, ◌&&◌, not, List, [], ◌∷◌, filter, reverse, Bool, false, Option, Some, None, if◌then◌else◌}
use Rattle.hc_event.specs.declared.event.Event.TheVariants as event
use Rattle.hc_wire.specs.Logs.{Called}
use Rattle.hc_rules.specs.declared.room.Limits.{Limits}
use Rattle.hc_model.specs.Denials.{is_live}
use Rattle.hc_model.specs.Rows.{Tables}
use Rattle.hc_proxy.specs.Connections.{has_unsent}
use Rattle.hc_proxy.specs.Rows.{Client, Proxy}
use Rattle.hc_proxy.specs.Steps.{stepped}

-- the live consumers, in ascending order
abbrev pub live_consumers : Tables → List ℕ
live_consumers t = reverse (filter (λ c. is_live (t.consumer c)) t.starts)

-- the client at this connection was sent all
abbrev pub takes_more : Called → ℕ → Option Client → Bool
takes_more call k None = false
takes_more call k (Some client) = not client.gone && not (has_unsent call k client)

-- and so it is of the consumer's
abbrev pub may_be_polled : Called → Proxy → Option ℕ → Bool
may_be_polled call p None = false
may_be_polled call p (Some k) = takes_more call k (p.client k)

-- at most 16,384 bytes are wanted
abbrev pub polled : Limits → Called → ℕ → Proxy → Proxy
polled limits call c p =
    if may_be_polled call p (p.holder c) then stepped limits (event.Poll c 16384) p else p

abbrev pub each_polled : Limits → Called → List ℕ → Proxy → Proxy
each_polled limits call [] p = p
each_polled limits call (c ∷ cs) p = each_polled limits call cs (polled limits call c p)

unfoldable pub polled_all : Limits → Called → Proxy → Proxy
polled_all limits call p = each_polled limits call (live_consumers p.tables) p
