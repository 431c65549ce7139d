-- What the generator learns from how an event was answered.
use Rattle.std.specs.Prelude.{ℕ, ◌==◌, not, Bool, false, List, filter, Option, Some, None, option_map}
use Rattle.hc_event.specs.declared.act.Act.{Act}
use Rattle.hc_event.specs.declared.act.Act.TheVariants as act
use Rattle.hc_event.specs.Filters.{Opening, opening_in, closes_in, leaves_in}
use Rattle.hc_text.specs.Sorted.{with_item, without}
use Rattle.hc_generate.specs.declared.exchange.Exchange.{Exchange}
use Rattle.hc_generate.specs.declared.exchange.Owed.TheVariants.{Answer}
use Rattle.hc_generate.specs.Sending.{number_of}
use Rattle.hc_generate.specs.States.{State}
use Rattle.hc_generate.specs.Summary.{counts_with_event}

-- ONE ACT

abbrev pub closes : ℕ → Act → Bool
closes x (act.Close y) = y == x
closes x _ = false

abbrev pub leaves : ℕ → Act → Bool
leaves c (act.Ended d) = d == c
leaves c (act.Failed d cause) = d == c
leaves c _ = false

-- ALL OF THEM

-- an exchange that was opened is owed the answer to its request
abbrev pub owing_exchange : Opening → Exchange
owing_exchange o = record { x = o.x; owed = Answer o.request }

abbrev pub with_begun : Option Exchange → List Exchange → List Exchange
with_begun None exchanges = exchanges
with_begun (Some e) exchanges = with_item number_of e (without number_of e.x exchanges)

-- an opened one
abbrev pub begun_in : List Act → Option Exchange
begun_in acts = option_map owing_exchange (opening_in acts)

-- those that are not closed
abbrev pub still_open : List Act → List Exchange → List Exchange
still_open acts exchanges = filter (λ (e : Exchange). not (closes_in e.x acts)) exchanges

-- those that neither ended nor failed
abbrev pub still_live : List Act → List ℕ → List ℕ
still_live acts live = filter (λ c. not (leaves_in c acts)) live

-- the state once these acts were heard
abbrev pub state_after : List Act → State → State
state_after acts s = record s {
  live = still_live acts s.live;
  exchanges = still_open acts (with_begun (begun_in acts) s.exchanges);
  counts = counts_with_event acts s.counts;
}
