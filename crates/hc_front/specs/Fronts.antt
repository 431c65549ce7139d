-- What the front does: what it hands to the cache, what it tells of the answer, and what it keeps.
use Rattle.std.specs.Prelude.{ℕ, List, [], ◌∷◌, ◌++◌, ◌==◌, ◌&&◌, ◌||◌, not, nat_lt, Bool, false, is_some, map, if◌then◌else◌, Option, Some, None}
use Rattle.std.specs.List.{list_any}
use Rattle.hc_event.specs.Filters.{is_denied}
use Rattle.hc_event.specs.declared.act.Act.{Act}
use Rattle.hc_event.specs.declared.act.Act.TheVariants as act
use Rattle.hc_event.specs.declared.event.Event.{Event}
use Rattle.hc_event.specs.declared.event.Event.TheVariants as event
use Rattle.hc_event.specs.declared.event.Request.{Request}
use Rattle.hc_model.specs.Currents.{current}
use Rattle.hc_model.specs.Denials.{is_live}
use Rattle.hc_model.specs.Entries.{Entry, Contents}
use Rattle.hc_model.specs.Rows.{Tables, Consumer}
use Rattle.hc_model.specs.Tables.{first_tables, after}
use Rattle.hc_front.specs.declared.watches.Watched.{Watched}
use Rattle.hc_condition.specs.External.{is_external}
use Rattle.hc_condition.specs.NotModified.{unconditioned}
use Rattle.hc_condition.specs.ShownActs.{act_shown, is_satisfying}
use Rattle.hc_front.specs.Watching.{newly}

-- What the past says: the tables of the cache; and of each consumer under watch its own request, and whether it was told
-- that its copy holds.
pub record Fronted : Type 0 where
  pub core : Tables
  pub watched : ℕ → Option Watched

-- an event that comes to the front, and how the cache answered what was handed on
pub record FrontEntry : Type 0 where
  pub now : ℕ
  pub event : Event
  pub acts : List Act

-- WHAT IS HANDED ON

-- it is on condition of a copy, and something is current for its key (RFC 9111 section 4.3.2)
unfoldable pub is_watched : Tables → Request → Bool
is_watched t request = is_external request && is_some (current t request.key)

-- a poll for so many bytes ends who was told that its copy holds
unfoldable pub is_ending : Option Watched → ℕ → Bool
is_ending None want = false
is_ending (Some w) want = w.satisfied && nat_lt 0 want

-- what the cache is asked
abbrev pub handed : Fronted → Event → Event
handed t (event.Start c request) =
    if is_watched t.core request then event.Start c (unconditioned request)
    else event.Start c request
handed t (event.Poll c want) =
    if is_ending (t.watched c) want then event.Cancel c else event.Poll c want
handed t other = other

-- WHAT IS TOLD

abbrev pub answered_by : Option Watched → List Act → List Act
answered_by None acts = acts
answered_by (Some w) acts = map (act_shown w.request) acts

-- what the front answers
abbrev pub reported : Fronted → Event → List Act → List Act
reported t (event.Poll c want) acts =
    if is_ending (t.watched c) want then acts ++ act.Ended c ∷ []
    else answered_by (t.watched c) acts
reported t other acts = acts

-- WHAT IS KEPT

-- after a poll of its own
abbrev pub watched_polled : List Act → Option Watched → Option Watched
watched_polled acts None = None
watched_polled acts (Some w) =
    Some (record w { satisfied = w.satisfied || list_any (is_satisfying w.request) acts })

-- what the event and its answer make of what is kept of a consumer
abbrev pub watched_by : Tables → List Act → ℕ → Event → Option Watched → Option Watched
watched_by t acts c (event.Start d request) before =
    if d == c && (not (is_denied acts) && is_watched t request) then Some (newly request) else before
watched_by t acts c (event.Poll d want) before =
    if d == c then watched_polled acts before else before
watched_by t acts c other before = before

abbrev pub while_live : Option Consumer → Option Watched → Option Watched
while_live consumer watched = if is_live consumer then watched else None

-- the entry of the cache
abbrev pub core_entry : Fronted → FrontEntry → Entry
core_entry t e = record { now = e.now; event = handed t e.event; acts = e.acts }

-- what the past says behind an event
unfoldable pub front_after : Fronted → FrontEntry → Fronted
front_after t e =
    let core = after t.core (core_entry t e) in
    record {
      core = core;
      watched = λ c. while_live (core.consumer c) (watched_by t.core e.acts c e.event (t.watched c));
    }

-- at the beginning
abbrev pub front_begun : Contents → Fronted
front_begun contents = record { core = first_tables contents; watched = λ c. None }
