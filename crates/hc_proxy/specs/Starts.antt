-- The step *starts*: the next request of each client that waits for nothing is read.
use Rattle.std.specs.Prelude.{ℕ, ◌+◌, ◌&&◌, ◌++◌, not, nat_lt, List, [], ◌∷◌, length, Bool, true, Option, Some, None, is_none, if◌then◌else◌}
use Rattle.hc_event.specs.declared.event.Event.TheVariants as event
use Rattle.hc_head.specs.declared.message.MsgError.{MsgError}
use Rattle.hc_head.specs.declared.message.WireRequest.{WireRequest}
use Rattle.hc_wire.specs.Logs.{Called}
use Rattle.hc_msg.specs.Inputs.{Next, Waits, Reports, Brings, Ends, Fails, next_in}
use Rattle.hc_msg.specs.Reading.{Reading, Failed, Token, Asks}
use Rattle.hc_rules.specs.declared.room.Limits.{Limits}
use Rattle.hc_proxy.specs.Connections.{has_unsent}
use Rattle.hc_proxy.specs.Handling.{clients_here}
use Rattle.hc_peers.specs.declared.reply.Reply.{Reply}
use Rattle.hc_peers.specs.Renderings.{asked_of, reply_to, empty_answer, error_status}
use Rattle.hc_proxy.specs.Rows.{Client, Proxy, with, with_client}
use Rattle.hc_proxy.specs.Steps.{stepped}

abbrev pub read_to : Reading → List ℕ → Client → Client
read_to reading rest client = record client { reading = reading; input = rest }

-- A WHOLE REQUEST

abbrev pub asks : ℕ → Reply → Client → Client
asks c reply client = record client {
  consumers = c ∷ client.consumers;
  consumer = Some c;
  reply = reply;
}

abbrev pub with_holder : ℕ → ℕ → Proxy → Proxy
with_holder c k p = record p { starts = c; holder = with c k p.holder }

-- its consumer has the next number, and asks for what is asked behind a front
abbrev pub started : Limits → ℕ → WireRequest → Proxy → Proxy
started limits k request p =
    let c = p.starts + 1 in
    stepped limits (event.Start c (asked_of p.setting.front request))
    (with_holder c k (with_client k (asks c (reply_to p.setting.front request)) p))

-- ONE THAT IS REFUSED

-- it has its error answer, and the close
abbrev pub refused : MsgError → Client → Client
refused e client = record client {
  owed = client.owed ++ empty_answer (error_status e);
  before = length client.owed;
  closing = true;
}

-- BY WHAT STANDS NEXT

abbrev pub hears_request : Limits → ℕ → Token → Proxy → Proxy
hears_request limits k (Asks request) p = started limits k request p
hears_request limits k _ p = p

abbrev pub hears : Limits → ℕ → Next → Proxy → Proxy
hears limits k (Waits reading) p = with_client k (read_to reading []) p
hears limits k (Reports token reading rest) p =
    hears_request limits k token (with_client k (read_to reading rest) p)
hears limits k (Brings bytes reading rest) p = p
hears limits k Ends p = p
hears limits k (Fails e) p = with_client k (refused e) (with_client k (read_to (Failed e) []) p)

-- EACH CLIENT

-- bytes of it wait, nobody lives, it was sent all, and it isn't to be closed
abbrev pub is_ready : Called → ℕ → Client → Bool
is_ready call k client =
    nat_lt 0 (length client.input) && is_none client.consumer
    && not (has_unsent call k client) && not client.closing

abbrev pub hears_if : Limits → Called → ℕ → Option Client → Proxy → Proxy
hears_if limits call k None p = p
hears_if limits call k (Some client) p =
    if is_ready call k client then hears limits k (next_in 1 client.reading client.input) p else p

abbrev pub each_heard : Limits → Called → List ℕ → Proxy → Proxy
each_heard limits call [] p = p
each_heard limits call (k ∷ ks) p =
    each_heard limits call ks (hears_if limits call k (p.client k) p)

unfoldable pub started_all : Limits → Called → Proxy → Proxy
started_all limits call p = each_heard limits call (clients_here p) p
