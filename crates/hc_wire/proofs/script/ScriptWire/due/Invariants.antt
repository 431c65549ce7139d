use Rattle.std.proofs.Common.{◌≡◌, ◌-◌, length, drop}
use Rattle.hc_wire.specs.Following.{behind_past}
use Rattle.hc_wire.proofs.script.ScriptWire.due.Given as goal

abbrev pub invariant-loop-at : goal.invariant-loop-at
invariant-loop-at l = record {
  room : length l.into ≡ length l.fn.into;
  left : behind_past l.self.connections.items (drop l.at l.self.script.items) l.off
      ≡ behind_past l.self.connections.items (drop l.self.at l.self.script.items) l.self.off;
}

abbrev pub decreases-loop-at : goal.decreases-loop-at
decreases-loop-at l = length l.self.script.items - l.at
