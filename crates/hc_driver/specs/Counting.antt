-- How much there is to answer: events, the bytes of their pieces, and until when.
use Rattle.std.specs.Prelude.{ℕ, ◌+◌, List, [], ◌∷◌}
use Rattle.hc_event.specs.Counting.{received_in}
use Rattle.hc_sched.specs.declared.schedule.Timed.{Timed}

-- one for each event, and one for each byte of a piece
abbrev pub size_of : List Timed → ℕ
size_of [] = 0
size_of (timed ∷ events) = 1 + received_in timed.event + size_of events

-- the moment of the last event, or this one where there is none
abbrev pub last_moment : ℕ → List Timed → ℕ
last_moment moment [] = moment
last_moment moment (timed ∷ events) = last_moment timed.now events
