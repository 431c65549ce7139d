-- How a cache answers of which no report is written.
use Rattle.std.specs.Prelude.{◌≡◌, ℕ, List, [], true}
use Rattle.hc_event.specs.declared.act.Act.{Act}
use Rattle.hc_event.specs.declared.event.Event.{Event}
use Rattle.hc_core.specs.Steps.{Answers, has_failed}
use Rattle.hc_saving.specs.declared.silent.Silent.{Silent}

-- some acts answered the event, and the text is empty
pub record AnswersSilently (s : Silent) (number now : ℕ) (event : Event) (text : List ℕ) (u : Silent) : Type 0 where
  pub acts : List Act
  pub answered : Answers s.cache u.cache now event acts
  pub nothing : text ≡ []

-- each later step is refused memory
abbrev pub IsSpent : Silent → Silent → Type 0
IsSpent s u = has_failed u.cache ≡ true
