-- The row of a consumer after an entry.
use Rattle.std.specs.Prelude.{ℕ, ◌+◌, length, Bool, true, false, Option, Some, None, is_none, if◌then◌else◌, ◌==◌, ◌||◌, ◌&&◌, not}
use Rattle.std.specs.Option.{option_or}
use Rattle.hc_event.specs.Filters.{Opening, opening_in, shows_in, given_in, leaves_in}
use Rattle.hc_event.specs.declared.event.Event.{Event}
use Rattle.hc_event.specs.declared.event.Event.TheVariants as event
use Rattle.hc_event.specs.declared.event.Request.{Request}
use Rattle.hc_event.specs.declared.event.Response.{Response}
use Rattle.hc_event.specs.declared.act.Wait.{Wait}
use Rattle.hc_event.specs.declared.act.Wait.TheVariants as wait
use Rattle.hc_event.specs.declared.act.Cause.TheVariants as cause
use Rattle.hc_rules.specs.declared.need.Route.{Route}
use Rattle.hc_rules.specs.declared.need.Route.TheVariants as route
use Rattle.hc_rules.specs.declared.heads.HeadCase.{HeadCase}
use Rattle.hc_rules.specs.declared.heads.HeadCase.TheVariants as case
use Rattle.hc_rules.specs.declared.request.Wanted.{Wanted}
use Rattle.hc_rules.specs.declared.request.Wanted.TheVariants as wanted
use Rattle.hc_rules.specs.Needs.{route_of}
use Rattle.hc_rules.specs.Requests.{range_of, wanted_of}
use Rattle.hc_event.specs.declared.place.Place.{Place}
use Rattle.hc_event.specs.declared.place.Place.TheVariants as place
use Rattle.hc_event.specs.declared.place.BoundBy.{BoundBy}
use Rattle.hc_event.specs.declared.place.BoundBy.TheVariants as by
use Rattle.hc_model.specs.Entries.{Entry}
use Rattle.hc_model.specs.ActFilters.{has_loss, wait_in, Showing, showing_in}
use Rattle.hc_model.specs.Rows.{Tables, Exchange, Representation, Consumer}
use Rattle.hc_model.specs.Currents.{current, row_of, is_number}
use Rattle.hc_model.specs.Cases.{case_at}
use Rattle.hc_model.specs.Reading.{bound_to, reads}
use Rattle.hc_model.specs.Writers.{loses_group, survivor}
use Rattle.hc_model.specs.StartingOver.{starts_over}
use Rattle.hc_model.specs.Failures.{becomes_due}
use Rattle.hc_model.specs.ExchangeRows.{promise_in}
use Rattle.hc_model.specs.Heads.{founded_total}
use Rattle.hc_model.specs.RepresentationRows.{resumes}

-- BOUND

-- reads this interval of r, where it is one
abbrev pub bound_to_wanted : ℕ → BoundBy → Place → Wanted → Place
bound_to_wanted r by other (wanted.Interval span) = place.Bound r span.lo (Some span.hi) by
bound_to_wanted r by other _ = other

-- reads what the request wants of r, whose length is this
abbrev pub bound_by_total : ℕ → BoundBy → Request → Place → Option ℕ → Place
bound_by_total r by request other total =
    bound_to_wanted r by other (wanted_of (range_of request) total)

-- HEARD

abbrev pub passed_on : ℕ → Option ℕ → Place
passed_on x None = place.Line
passed_on x (Some r) = place.Passed r (Some x)

-- the place that a head gives to the consumer of its exchange
abbrev pub place_by_case : ℕ → Response → Exchange → Consumer → Option HeadCase → Place
place_by_case x response w k (Some case.DirectBad) = place.Down (cause.BadHead x)
place_by_case x response w k (Some case.TurnBad) = place.Down (cause.BadHead x)
place_by_case x response w k (Some case.FirstBad) = place.Down (cause.BadHead x)
place_by_case x response w k (Some case.Validated) = passed_on x w.aim
place_by_case x response w k (Some case.FoundsWhole) =
    place.Bound x 0 (promise_in w response) by.Founding
place_by_case x response w k (Some case.FirstReplaced) =
    place.Bound x 0 (promise_in w response) by.Founding
place_by_case x response w k (Some case.FoundsRange) =
    bound_by_total x by.Founding k.request (place.Direct x) (founded_total w response)
place_by_case x response w k (Some case.TurnServerError) = place.Direct x
place_by_case x response w k (Some case.PassesBy) = place.Direct x
place_by_case x response w k (Some case.FirstServerError) = place.Direct x
place_by_case x response w k (Some case.FirstPassesBy) = place.Direct x
place_by_case x response w k _ = k.place

-- this answer is written together from now on
abbrev pub is_resumed : Tables → Entry → Response → Exchange → Option Representation → Bool
is_resumed t e response w None = false
is_resumed t e response w (Some v) = resumes t response w v && not (v.is_lost || has_loss e.acts)

-- the exchange isn't the consumer's own any more: its writing is shared
abbrev pub becomes_shared : Tables → Entry → Response → Exchange → Option HeadCase → Bool
becomes_shared t e response w (Some case.FoundsWhole) = true
becomes_shared t e response w (Some case.FirstReplaced) = true
becomes_shared t e response w (Some case.FirstJoins) =
    is_resumed t e response w (row_of t w.aim)
becomes_shared t e response w (Some case.LaterJoins) =
    is_resumed t e response w (row_of t w.aim)
becomes_shared t e response w _ = false

abbrev pub with_head : Tables → Entry → ℕ → Response → Exchange → Consumer → Consumer
with_head t e x response w k = record k {
  place = place_by_case x response w k (case_at t e);
  own = if becomes_shared t e response w (case_at t e) then None else k.own;
}

abbrev pub by_head : Tables → Entry → ℕ → ℕ → Response → Option Exchange → Consumer → Consumer
by_head t e c x response None k = k
by_head t e c x response (Some w) k = if w.c == c then with_head t e x response w k else k

-- a fault before the head puts a consumer down that was shown nothing
abbrev pub by_fault : ℕ → ℕ → Option Exchange → Consumer → Consumer
by_fault c x None k = k
by_fault c x (Some w) k =
    if w.c == c && is_none w.head && not k.shown
    then record k { place = place.Down (cause.Net x) } else k

-- what an accepted entry's event says of the consumer c; t is before it
abbrev pub consumer_heard : Tables → Entry → ℕ → Event → Consumer → Consumer
consumer_heard t e c (event.Start d request) k = k
consumer_heard t e c (event.Poll d want) k = k
consumer_heard t e c (event.Head x response) k = by_head t e c x response (t.exchange x) k
consumer_heard t e c (event.Piece x bytes) k = k
consumer_heard t e c (event.End x) k = k
consumer_heard t e c (event.Fault x) k = by_fault c x (t.exchange x) k
consumer_heard t e c (event.Cancel d) k = if d == c then record k { place = place.Over } else k
consumer_heard t e c (event.Doom key) k = k

-- ACTED

-- the 304 that a consumer keeps
abbrev pub kept_by : Place → Option ℕ
kept_by (place.Passed r kept) = kept
kept_by _ = None

abbrev pub passed_by : Option ℕ → Option ℕ → Place
passed_by kept None = place.Line
passed_by kept (Some r) = place.Passed r kept

-- where it stands that is to wait
abbrev pub waiting_place : Tables → Consumer → Option Wait → Place
waiting_place t k None = k.place
waiting_place t k (Some (wait.Turn d)) = place.Line
waiting_place t k (Some (wait.Busy d)) = passed_by (kept_by k.place) (current t k.request.key)
waiting_place t k (Some (wait.Head x)) = k.place
waiting_place t k (Some (wait.Body x)) = k.place

abbrev pub place_for_hole : ℕ → Request → Option ℕ → Option Representation → Place
place_for_hole x request (Some r) (Some v) =
    bound_by_total r (by.FirstHole x) request place.Line v.head.total
place_for_hole x request r v = place.Line

-- where it stands for whom an exchange is opened
abbrev pub opened_place : Tables → ℕ → Consumer → Route → Place
opened_place t x k route.Direct = place.Direct x
opened_place t x k route.Turn = place.Turn x
opened_place t x k route.Hole =
    place_for_hole x k.request (current t k.request.key) (row_of t (current t k.request.key))

abbrev pub unless_bound : Option ℕ → Place → Place → Place
unless_bound None old new = new
unless_bound (Some r) old new = old

-- the exchange is its own; who is bound already stays so
abbrev pub with_opening : Tables → Opening → Consumer → Consumer
with_opening t o k = record k {
  own = Some o.x;
  place = unless_bound (bound_to k.place) k.place (opened_place t o.x k (route_of o.need));
}

abbrev pub by_opening : Tables → ℕ → Option Opening → Consumer → Consumer
by_opening t c None k = k
by_opening t c (Some o) k = if o.c == c then with_opening t o k else k

-- who is shown a head by its plan reads what it is shown
abbrev pub shown_place : ℕ → Option Showing → Place → Place
shown_place c None old = old
shown_place c (Some s) old =
    if s.c == c && not (reads old) then place.Bound s.r s.lo s.hi by.Plan else old

abbrev pub left_to : Tables → Entry → ℕ → ℕ → Option Representation → Option ℕ → Option ℕ
left_to t e c r None own = own
left_to t e c r (Some v) own =
    if loses_group t e r v && is_number (survivor t r v) c then v.writer else own

-- the exchange of a lost writing is now the survivor's own
abbrev pub own_after : Tables → Entry → ℕ → Place → Option ℕ → Option ℕ
own_after t e c (place.Bound r lo hi by) own = left_to t e c r (t.representation r) own
own_after t e c _ own = own

abbrev pub waiting : Tables → Entry → ℕ → Consumer → Consumer
waiting t e c k = record k { place = waiting_place t k (wait_in c e.acts) }

-- what the acts say of it
abbrev pub consumer_acted : Tables → Entry → ℕ → Consumer → Consumer
consumer_acted t e c k =
    let q = by_opening t c (opening_in e.acts) (waiting t e c k) in
    record q {
      place = if leaves_in c e.acts then place.Over else shown_place c (showing_in e.acts) q.place;
      own = own_after t e c k.place q.own;
      shown = shows_in c e.acts || q.shown;
      given = q.given + length (given_in c e.acts);
    }

-- AFTER AN ENTRY

-- what was due first stays due
abbrev pub due_after : Tables → Entry → ℕ → Consumer → Consumer → Consumer
due_after t e c k q =
    record q { due = if reads q.place then option_or k.due (becomes_due t e c k) else None }

abbrev pub back_in_line : ℕ → Consumer → Consumer
back_in_line now q = record q { place = place.Line; since = now; own = None; due = None }

-- what becomes of it: k is as it was before, and q as event and acts left it
abbrev pub consumer_settled : Tables → Entry → ℕ → Consumer → Consumer → Consumer
consumer_settled t e c k q =
    if starts_over t e c k then back_in_line e.now q else due_after t e c k q

abbrev pub new_consumer : ℕ → Request → Consumer
new_consumer now request = record {
  request = request;
  since = now;
  place = place.Line;
  own = None;
  shown = false;
  given = 0;
  due = None;
}

abbrev pub consumer_made : ℕ → ℕ → Event → Option Consumer
consumer_made c now (event.Start d request) = if d == c then Some (new_consumer now request) else None
consumer_made c now _ = None

unfoldable pub consumer_after : Tables → Entry → ℕ → Option Consumer → Option Consumer
consumer_after t e c (Some k) =
    Some (consumer_settled t e c k (consumer_acted t e c (consumer_heard t e c e.event k)))
consumer_after t e c None = consumer_made c e.now e.event
