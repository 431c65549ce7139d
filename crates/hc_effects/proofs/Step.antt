-- An event that is accepted after sound tables: the context in which what a step does, and what it keeps, is looked at.
use Rattle.std.proofs.Common.{◌≡◌, ℕ, None}
use Rattle.hc_effects.proofs.Vocabulary.{Event, Limits, Flaw, denial, Owners, Sound, Tables}

pub record Step : Type 0 where
  pub limits : Limits
  pub tables : Tables
  pub now : ℕ
  pub flaw : Flaw
  pub sound : Sound tables
  pub owners : Owners tables
  pub event : Event
  pub accepted : denial tables event ≡ None

abbrev pub step_of : (limits : Limits) (t : Tables) → ℕ → Flaw → Sound t → Owners t → (event : Event) → denial t event ≡ None → Step
step_of limits t now flaw s o event goes = record {
  limits = limits;
  tables = t;
  now = now;
  flaw = flaw;
  sound = s;
  owners = o;
  event = event;
  accepted = goes;
}
