-- A round: from the state and the exchanges that are wanted to an event or none, and the state after it.
use Rattle.std.specs.Prelude.{◌≡◌, ℕ, ◌+◌, ◌≤◌, nat_lt, List, length, Option, Some, None, if◌then◌else◌}
use Rattle.hc_event.specs.declared.event.Event.{Event}
use Rattle.hc_event.specs.declared.event.Event.TheVariants as event
use Rattle.hc_event.specs.WithinLimits.{IsEventWithinLimits}
use Rattle.hc_text.specs.Sorted.{with_item, without, item_with, itself}
use Rattle.hc_generate.specs.declared.action.Action.{Action}
use Rattle.hc_generate.specs.declared.action.Action.TheVariants as action
use Rattle.hc_generate.specs.declared.exchange.Brought.{Brought}
use Rattle.hc_generate.specs.declared.exchange.Exchange.{Exchange}
use Rattle.hc_generate.specs.declared.exchange.Owed.{Owed}
use Rattle.hc_generate.specs.Actions.{action_of}
use Rattle.hc_generate.specs.Draws.{state_after_draw, draw_below, choice_of}
use Rattle.hc_generate.specs.Requests.{drawn_request, past_request, key_of}
use Rattle.hc_generate.specs.Sending.{Brings, number_of, owed_then}
use Rattle.hc_generate.specs.States.{State}

-- what a round does, and the state with which it does
pub data Move : Type 0 where
  Nothing : State → Move
  Makes : Event → State → Move
  -- the origin brings an exchange what it is owed
  Answers : ℕ → Owed → State → Move

-- the state after a draw
abbrev pub onward : State → State
onward s = record s { draws = state_after_draw s.draws }

-- THE ACTIONS

-- a consumer starts, where fewer than 64 are live
abbrev pub start_move : State → Move
start_move s =
    if nat_lt (length s.live) 64
    then Makes (event.Start (s.last + 1) (drawn_request s.draws))
    (record s { draws = past_request s.draws; last = s.last + 1; live = with_item itself (s.last + 1) s.live })
    else Nothing s

abbrev pub polled_by : Option ℕ → State → Move
polled_by None s = Nothing s
polled_by (Some c) s = Makes (event.Poll c 4096) (onward s)

-- one that is live asks for 4,096 bytes
abbrev pub poll_of_round : State → Move
poll_of_round s = polled_by (choice_of s.live s.draws) s

abbrev pub answered_to : ℕ → Option Exchange → State → Move
answered_to x None s = Nothing s
answered_to x (Some e) s = Answers x e.owed s

abbrev pub answered_by : Option ℕ → State → Move
answered_by None s = Nothing s
answered_by (Some x) s = answered_to x (item_with number_of x s.exchanges) (onward s)

-- one that is wanted gets its head, or its next bytes. Nothing is owed to one that isn't known
abbrev pub answer_move : List ℕ → State → Move
answer_move wanted s = answered_by (choice_of wanted s.draws) s

abbrev pub cancelled_by : Option ℕ → State → Move
cancelled_by None s = Nothing s
cancelled_by (Some c) s = Makes (event.Cancel c) (record (onward s) { live = without itself c s.live })

-- one that is live leaves
abbrev pub cancel_move : State → Move
cancel_move s = cancelled_by (choice_of s.live s.draws) s

-- from one to thirty seconds pass
abbrev pub wait_move : State → Move
wait_move s = Nothing (record (onward s) { moment = s.moment + (draw_below 30 s.draws + 1) })

abbrev pub faulted_by : Option ℕ → State → Move
faulted_by None s = Nothing s
faulted_by (Some x) s = Makes (event.Fault x) (record (onward s) { exchanges = without number_of x s.exchanges })

-- one that is wanted breaks
abbrev pub fault_move : List ℕ → State → Move
fault_move wanted s = faulted_by (choice_of wanted s.draws) s

-- what is stored for a key is not to be used any more
abbrev pub doom_move : State → Move
doom_move s = Makes (event.Doom (key_of (draw_below 8 s.draws))) (onward s)

-- THE ROUND

abbrev pub by_action : Action → List ℕ → State → Move
by_action action.Start wanted s = start_move s
by_action action.Poll wanted s = poll_of_round s
by_action action.Bring wanted s = answer_move wanted s
by_action action.Cancel wanted s = cancel_move s
by_action action.Wait wanted s = wait_move s
by_action action.Fault wanted s = fault_move wanted s
by_action action.Doom wanted s = doom_move s

-- a round, where the cache wants these exchanges
abbrev pub round : List ℕ → State → Move
round wanted s = by_action (action_of (draw_below 100 s.draws)) wanted (onward s)

-- the move makes this event or none, and leaves this state
abbrev pub IsMade : Move → Option Event → State → Type 0
IsMade (Nothing s) made after = (made ≡ None) × (after ≡ s)
IsMade (Makes e s) made after = (made ≡ Some e) × (after ≡ s)
IsMade (Answers x owed s) made after =
    (b : Brought) × Brings x owed b × (made ≡ Some b.event)
    × (after ≡ record s { exchanges = owed_then x b.at b.hi s.exchanges })

-- a round makes this event or none, and takes the state before to that after
abbrev pub IsRound : List ℕ → State → Option Event → State → Type 0
IsRound wanted before made after = IsMade (round wanted before) made after

-- a piece has at most 512 bytes
abbrev pub IsShort : Event → Type 0
IsShort (event.Piece x bytes) = length bytes ≤ 512
IsShort _ = Unit {0}

-- what is made, if anything, has no longer piece
abbrev pub IsShortIfMade : Option Event → Type 0
IsShortIfMade None = Unit {0}
IsShortIfMade (Some made) = IsShort made

-- what is made, if anything, is no larger than what a schedule can spell
abbrev pub IsWithinLimitsIfMade : Option Event → Type 0
IsWithinLimitsIfMade None = Unit {0}
IsWithinLimitsIfMade (Some made) = IsEventWithinLimits made

-- the draws alone went on
abbrev pub IsBesidesDraws : State → State → Type 0
IsBesidesDraws before after = after ≡ record before { draws = after.draws }
