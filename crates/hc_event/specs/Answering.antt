-- How one event is answered.
use Rattle.std.specs.Prelude.{◌≡◌, ℕ, List, ◌++◌}
use Rattle.hc_event.specs.declared.event.Event.{Event}
use Rattle.hc_event.specs.declared.act.Act.{Act}

-- the event was answered by the acts that were appended
pub record Appends {A : Type 0} (answers : A → ℕ → Event → List Act → A → Type 0) (s u : A) (now : ℕ) (event : Event) (before after : List Act) : Type 0 where
  pub acts : List Act
  pub reported : after ≡ before ++ acts
  pub answered : answers s now event acts u
