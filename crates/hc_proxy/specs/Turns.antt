-- The turns of the serving loop: the tables behind each, and the record.
use Rattle.std.specs.Prelude.{ℕ, List, [], ◌∷◌, ◌++◌, map, reverse, take, Option}
use Rattle.hc_sched.specs.declared.schedule.Timed.{Timed}
use Rattle.hc_sched.specs.Schedule.{timed_text}
use Rattle.hc_wire.specs.Logs.{Called, Log}
use Rattle.hc_rules.specs.declared.room.Limits.{Limits}
use Rattle.hc_model.specs.Entries.{Entry}
use Rattle.hc_proxy.specs.Carrying.{carried}
use Rattle.hc_proxy.specs.Connections.{dials_from}
use Rattle.hc_proxy.specs.Handling.{begun, handled}
use Rattle.hc_proxy.specs.Network.{heard}
use Rattle.hc_proxy.specs.Polls.{polled_all}
use Rattle.hc_proxy.specs.Rows.{Proxy, Setting, unused}
use Rattle.hc_proxy.specs.Starts.{started_all}

-- of all connections that are dialled, those of the exchanges so far: the dials before the next call
abbrev pub so_far : Proxy → List (Option ℕ) → List (Option ℕ)
so_far p dialled = take p.tables.opened dialled

-- what happens in a turn that has begun
abbrev pub happened : Limits → List (Option ℕ) → Called → Proxy → Proxy
happened limits dialled call p =
    polled_all limits call (started_all limits call (heard limits (handled limits dialled call p)))

-- what a call of `next` makes of the tables
unfoldable pub turned : Limits → List (Option ℕ) → Called → Proxy → Proxy
turned limits dialled call p = carried (happened limits (so_far p dialled) call (begun call p))

abbrev pub turned_by : Limits → List (Option ℕ) → List Called → Proxy → Proxy
turned_by limits dialled [] p = p
turned_by limits dialled (call ∷ calls) p =
    turned_by limits dialled calls (turned limits dialled call p)

-- the tables behind all calls of a log, and behind the first n, where the store begins with these contents
abbrev pub behind_all : Limits → Setting → Log → Proxy
behind_all limits setting log =
    turned_by limits (dials_from setting log.dialled) log.calls (unused setting)

abbrev pub behind_calls : Limits → Setting → Log → ℕ → Proxy
behind_calls limits setting log n =
    turned_by limits (dials_from setting log.dialled) (take n log.calls) (unused setting)

-- THE PARTS AND THE RECORD

abbrev pub timed_of : Entry → Timed
timed_of e = record { now = e.now; event = e.event }

-- the events of the last turn
abbrev pub part_of : Proxy → List Timed
part_of p = map timed_of (reverse p.part)

-- those of all turns
abbrev pub events_of : Proxy → List Timed
events_of p = map timed_of (reverse p.history)

-- the events as text, behind a moment
abbrev pub text_behind : ℕ → List Timed → List ℕ
text_behind last [] = []
text_behind last (timed ∷ events) = timed_text last timed ++ text_behind timed.now events

-- the record, which goes on from the moment of the contents
abbrev pub record_of : Proxy → List ℕ
record_of p = text_behind p.setting.contents.now (events_of p)

-- the part of turn n, from 1
abbrev pub due_events : Limits → Setting → Log → ℕ → List Timed
due_events limits setting log n = part_of (behind_calls limits setting log n)
