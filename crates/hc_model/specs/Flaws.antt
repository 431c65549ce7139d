-- What makes a store less than it should be, as the acts show it.
use Rattle.std.specs.Prelude.{ℕ, List, [], ◌∷◌, Bool, true, false, if◌then◌else◌}
use Rattle.hc_event.specs.declared.act.Act.{Act}
use Rattle.hc_event.specs.declared.act.Act.TheVariants as act
use Rattle.hc_event.specs.declared.act.Cause.{Cause}
use Rattle.hc_event.specs.declared.act.Cause.TheVariants as cause
use Rattle.hc_event.specs.declared.act.LostKind.{LostKind}
use Rattle.hc_event.specs.declared.act.LostKind.TheVariants as kind

-- nothing, a write that is refused, or a read that fails
pub data Flaw : Type 0 where
  NoFlaw : Flaw
  Loses : (r : ℕ) (kind : LostKind) → Flaw
  Misreads : (r : ℕ) → Flaw

abbrev pub flaw_by : Cause → Flaw → Flaw
flaw_by (cause.StoreRead r) other = Misreads r
flaw_by _ other = other

-- the flaw that the acts show
abbrev pub flaw_in : List Act → Flaw
flaw_in [] = NoFlaw
flaw_in (act.Lost r kind ∷ acts) = Loses r kind
flaw_in (act.Failed c cause ∷ acts) = flaw_by cause (flaw_in acts)
flaw_in (_ ∷ acts) = flaw_in acts

-- the store failed
abbrev pub is_fault : Flaw → Bool
is_fault NoFlaw = false
is_fault (Loses r kind.Fault) = true
is_fault (Loses r _) = false
is_fault (Misreads r) = true

-- one, where these acts tell that the store failed
abbrev pub failures_in : List Act → ℕ
failures_in acts = if is_fault (flaw_in acts) then 1 else 0
