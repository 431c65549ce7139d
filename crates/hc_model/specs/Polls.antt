-- What an accepted poll does.
use Rattle.std.specs.Prelude.{ℕ, Bool, false, Option, Some, None, is_some, if◌then◌else◌, ◌&&◌}
use Rattle.std.specs.Option.{option_and_then}
use Rattle.hc_event.specs.declared.event.Response.{Response}
use Rattle.hc_event.specs.declared.act.Wait.TheVariants as wait
use Rattle.hc_event.specs.declared.act.Why.TheVariants as why
use Rattle.hc_event.specs.declared.place.Place.{Place}
use Rattle.hc_event.specs.declared.place.Place.TheVariants as place
use Rattle.hc_event.specs.declared.place.BoundBy.{BoundBy}
use Rattle.hc_event.specs.declared.place.BoundBy.TheVariants as by
use Rattle.hc_rules.specs.Statuses.{brings_part}
use Rattle.hc_model.specs.Rows.{Tables, Exchange, Consumer}
use Rattle.hc_model.specs.Exchanges.{base, is_headless}
use Rattle.hc_model.specs.Reading.{hi_of, own_open}
use Rattle.hc_model.specs.Writers.{status_in}
use Rattle.hc_model.specs.Moves.{Move, Nothing, Waits, Shows, Fails, shows_stored}
use Rattle.hc_model.specs.Planning.{planned_move, is_ranged}
use Rattle.hc_model.specs.Steps.{reading}

-- A HEAD THAT IS THERE

abbrev pub shows_answer : Tables → ℕ → Exchange → Option Response → Option Move
shows_answer t x w None = None
shows_answer t x w (Some response) =
    Some (Shows x (why.Fetched x) response (base w) (hi_of t (place.Direct x)))

-- of an answer past the store, as it came
abbrev pub shows_direct : Tables → ℕ → Option Exchange → Option Move
shows_direct t x None = None
shows_direct t x (Some w) = shows_answer t x w w.head

abbrev pub has_joined : Option Exchange → Bool
has_joined None = false
has_joined (Some w) = is_some w.joined

-- to the founder: a part, where it founded with one; to whoever filled the first hole, once that joined
abbrev pub shows_bound : Tables → Consumer → ℕ → ℕ → Option ℕ → BoundBy → Option Move
shows_bound t k r lo hi by.Founding =
    Some (shows_stored r (why.Fetched r)
    (is_ranged k && brings_part (status_in (t.representation r))) lo hi (t.representation r))
shows_bound t k r lo hi (by.FirstHole y) =
    if has_joined (t.exchange y)
    then Some (shows_stored r (why.Validated y) (is_ranged k) lo hi (t.representation r)) else None
shows_bound t k r lo hi by.Plan = None

abbrev pub shows_at : Tables → Consumer → Place → Option Move
shows_at t k (place.Direct x) = shows_direct t x (t.exchange x)
shows_at t k (place.Bound r lo hi by) = shows_bound t k r lo (hi_of t k.place) by
shows_at t k _ = None

-- the head that a consumer is to be shown, where it is there and wasn't shown
abbrev pub shows_head : Tables → Consumer → Option Move
shows_head t k = if k.shown then None else shows_at t k k.place

-- A HEAD THAT ISN'T

abbrev pub if_headless : Tables → ℕ → Option ℕ
if_headless t x = if is_headless (t.exchange x) then Some x else None

abbrev pub waits_for_head : Option ℕ → Option Move
waits_for_head None = None
waits_for_head (Some x) = Some (Waits (wait.Head x))

-- ALL CASES

abbrev pub or_else : Option Move → Move → Move
or_else None other = other
or_else (Some move) other = move

abbrev pub by_place : Tables → ℕ → ℕ → ℕ → Consumer → Place → Move
by_place t now want c k (place.Down cause) = Fails cause
by_place t now want c k place.Over = Nothing
by_place t now want c k _ = if k.shown then reading t want c k else planned_move t now c k

-- the first that applies: it is shown a head, it waits for one, it fails, it reads, or its plan is carried out
abbrev pub move_of : Tables → ℕ → ℕ → ℕ → Consumer → Move
move_of t now want c k =
    or_else (shows_head t k)
    (or_else (waits_for_head (option_and_then (if_headless t) (own_open t k)))
    (by_place t now want c k k.place))

abbrev pub poll_move : Tables → ℕ → ℕ → ℕ → Option Consumer → Move
poll_move t now want c None = Nothing
poll_move t now want c (Some k) = move_of t now want c k
