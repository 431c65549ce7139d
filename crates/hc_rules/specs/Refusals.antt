-- Why an event is denied: the first reason that applies.
use Rattle.std.specs.Prelude.{ℕ, ◌+◌, ◌==◌, nat_lt, nat_le, length, Option, Some, None, if◌then◌else◌, not}
use Rattle.hc_event.specs.declared.event.Event.{Event}
use Rattle.hc_event.specs.declared.event.Event.TheVariants as event
use Rattle.hc_event.specs.declared.act.Refusal.{Refusal}
use Rattle.hc_event.specs.declared.act.Refusal.TheVariants as refusal
use Rattle.hc_rules.specs.declared.refusal.Gate.{Gate}
use Rattle.hc_rules.specs.declared.refusal.OpenExchange.{OpenExchange}

abbrev pub start_refusal : Gate → ℕ → Option Refusal
start_refusal g c =
    if nat_le c g.last_start then Some (refusal.NotRising g.last_start)
    else if nat_le 1024 g.live then Some refusal.TooManyConsumers
    else None

-- of an event that a live consumer may have
abbrev pub consumer_refusal : Gate → ℕ → Option Refusal
consumer_refusal g c =
    if nat_lt g.last_start c then Some refusal.NoConsumer
    else if not g.is_live then Some refusal.Finished
    else None

abbrev pub poll_refusal : Gate → ℕ → ℕ → Option Refusal
poll_refusal g c want =
    if nat_lt g.last_start c then Some refusal.NoConsumer
    else if not g.is_live then Some refusal.Finished
    else if want == 0 then Some refusal.WantZero
    else None

abbrev pub head_refusal : Option OpenExchange → Option Refusal
head_refusal None = Some refusal.NoExchange
head_refusal (Some x) = if x.headed then Some refusal.HeadTwice else None

-- with so many bytes more than came would pass the promise
abbrev pub overlong : Option ℕ → ℕ → Option Refusal
overlong None n = None
overlong (Some promised) n = if nat_lt promised n then Some (refusal.Overlong promised) else None

abbrev pub piece_refusal : Option OpenExchange → ℕ → Option Refusal
piece_refusal None n = Some refusal.NoExchange
piece_refusal (Some x) n =
    if not x.headed then Some refusal.NoHeadYet
    else if not x.asked then Some refusal.NotAsked
    else if n == 0 then Some refusal.EmptyPiece
    else overlong x.promised (x.delivered + n)

abbrev pub end_refusal : Option OpenExchange → Option Refusal
end_refusal None = Some refusal.NoExchange
end_refusal (Some x) = if not x.headed then Some refusal.NoHeadYet else None

abbrev pub fault_refusal : Option OpenExchange → Option Refusal
fault_refusal None = Some refusal.NoExchange
fault_refusal (Some x) = None

-- of an event of this exchange, which is none where it isn't open
abbrev pub exchange_refusal : Option OpenExchange → Event → Option Refusal
exchange_refusal x (event.Start c request) = None
exchange_refusal x (event.Poll c want) = None
exchange_refusal x (event.Head y response) = head_refusal x
exchange_refusal x (event.Piece y bytes) = piece_refusal x (length bytes)
exchange_refusal x (event.End y) = end_refusal x
exchange_refusal x (event.Fault y) = fault_refusal x
exchange_refusal x (event.Cancel c) = None
exchange_refusal x (event.Doom key) = None

-- the first refusal that applies
unfoldable pub refusal_of : Gate → Event → Option Refusal
refusal_of g (event.Start c request) = start_refusal g c
refusal_of g (event.Poll c want) = poll_refusal g c want
refusal_of g (event.Head x response) = head_refusal g.exchange
refusal_of g (event.Piece x bytes) = piece_refusal g.exchange (length bytes)
refusal_of g (event.End x) = end_refusal g.exchange
refusal_of g (event.Fault x) = fault_refusal g.exchange
refusal_of g (event.Cancel c) = consumer_refusal g c
refusal_of g (event.Doom key) = None
