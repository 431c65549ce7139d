-- What a run leaves once all who are live have left.
use Rattle.std.specs.Prelude.{◌≡◌, ℕ, ◌∷◌}
use Rattle.hc_event.specs.declared.event.Event.TheVariants as event
use Rattle.hc_rules.specs.declared.room.Limits.{Limits}
use Rattle.hc_model.specs.Denials.{live, IsLeastLive}
use Rattle.hc_model.specs.Entries.{Entry, History, Contents}
use Rattle.hc_model.specs.Rows.{Tables}
use Rattle.hc_model.specs.Runs.{owed}
use Rattle.hc_model.specs.Tables.{tables}

-- a consumer is cancelled at the moment of the last event, over a store that never fails
abbrev pub leaving : Limits → Tables → ℕ → Entry
leaving limits t c = owed limits t t.moment (event.Cancel c)

-- Nobody is live, or the lowest of the live leaves, and then the others.
pub data AllLeave (limits : Limits) (contents : Contents) : History → History → Type 0 where
  nobody : (h : History) → live (tables contents h) ≡ 0 → AllLeave limits contents h h
  lowest : (h left : History) (c : ℕ) → IsLeastLive (tables contents h) c →
      AllLeave limits contents (leaving limits (tables contents h) c ∷ h) left →
      AllLeave limits contents h left
