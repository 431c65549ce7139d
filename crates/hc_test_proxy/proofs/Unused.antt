-- A wire that tells no call has handed out no number.
use Rattle.std.proofs.Common.{◌≡◌, ℕ, ap, sym, subst, List, [], Option, None, Some, IfSome, refl}
use Rattle.hc_wire.specs.{declared.script.ScriptWire.{ScriptWire}, Events.{Unseen}, Logs.{Log, Taker, empty_log, stage_in}, Plays.{reported}}
use Rattle.hc_proxy.specs.Endings.{IsFresh}

-- the connections of a log, if there is one
abbrev pub takers_of : Option Log → List Taker
takers_of None = []
takers_of (Some log) = log.takers

pub is_unseen : (w : ScriptWire) → reported w ≡ Some empty_log → (k : ℕ) → stage_in w.connections.items k ≡ Unseen
is_unseen w reports k = ap (λ log. stage_in (takers_of log) k) reports

pub is_fresh : (log : Option Log) → log ≡ Some empty_log → IfSome log IsFresh
is_fresh log reports =
    subst (λ (l : Option Log). IfSome l IsFresh) (sym reports) (record { calls = refl; dialled = refl; takers = refl })
