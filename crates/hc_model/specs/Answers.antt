-- The acts that are owed to an event.
use Rattle.std.specs.Prelude.{ℕ, List, [], ◌∷◌, ◌++◌, Bool, true, false, Option, Some, None, if◌then◌else◌, map}
use Rattle.hc_event.specs.declared.event.Event.{Event}
use Rattle.hc_event.specs.declared.event.Event.TheVariants as event
use Rattle.hc_event.specs.declared.act.Act.{Act}
use Rattle.hc_event.specs.declared.act.Act.TheVariants as act
use Rattle.hc_event.specs.declared.act.Cause.TheVariants as cause
use Rattle.hc_event.specs.declared.act.Refusal.{Refusal}
use Rattle.hc_rules.specs.declared.room.Limits.{Limits}
use Rattle.hc_model.specs.Flaws.{Flaw, NoFlaw, Loses, Misreads}
use Rattle.hc_model.specs.Rows.{Tables}
use Rattle.hc_model.specs.Denials.{denial}
use Rattle.hc_model.specs.Moves.{acts_of}
use Rattle.hc_model.specs.Polls.{poll_move}
use Rattle.hc_model.specs.Closings.{closing}
use Rattle.hc_model.specs.Weights.{evicted}

-- a read that fails is told in place of what the poll would have done
abbrev pub poll_acts : Tables → ℕ → ℕ → ℕ → Flaw → List Act
poll_acts t now want c (Misreads r) = act.Failed c (cause.StoreRead r) ∷ []
poll_acts t now want c _ = acts_of c (poll_move t now want c (t.consumer c))

-- what is said to the consumer of a poll
abbrev pub answer_acts : Tables → ℕ → Event → Flaw → List Act
answer_acts t now (event.Poll c want) flaw = poll_acts t now want c flaw
answer_acts t now _ flaw = []

abbrev pub loss_acts : Flaw → List Act
loss_acts NoFlaw = []
loss_acts (Loses r kind) = act.Lost r kind ∷ []
loss_acts (Misreads r) = []

-- what is closed, which sees what is said and lost
abbrev pub close_acts : Tables → ℕ → Event → Flaw → List Act
close_acts t now event flaw =
    map act.Close
    (closing t (record { now = now; event = event; acts = answer_acts t now event flaw ++ loss_acts flaw }))

-- a consumer's own event is answered before it changes the store, and one from outside after
abbrev pub is_asked : Event → Bool
is_asked (event.Poll c want) = true
is_asked (event.Cancel c) = true
is_asked _ = false

abbrev pub accepted_acts : Limits → Tables → ℕ → Event → Flaw → List Act
accepted_acts limits t now event flaw =
    if is_asked event
    then answer_acts t now event flaw ++ (close_acts t now event flaw ++ loss_acts flaw)
    else map act.Evicted (evicted limits t now event) ++ (loss_acts flaw ++ close_acts t now event flaw)

abbrev pub denied_or : Option Refusal → List Act → List Act
denied_or None acts = acts
denied_or (Some refusal) acts = act.Denied refusal ∷ []

-- the acts that are owed, where the store fails in this way
unfoldable pub answer : Limits → Tables → ℕ → Event → Flaw → List Act
answer limits t now event flaw =
    denied_or (denial t event) (accepted_acts limits t now event flaw)
