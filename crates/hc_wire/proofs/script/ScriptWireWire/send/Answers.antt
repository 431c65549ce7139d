use Rattle.std.proofs.Common.{◌+◌, ◌-◌, List, refl, ap, ◌∙◌}
use Rattle.hc_wire.specs.{declared.script.{ScriptWire.{ScriptWire}, Stall.{Stall}}, Logs.{Taker, stage_in}, Following.{room_in}, Stalls.{room_of}}
use Rattle.hc_wire.proofs.{StallLemmas.{used_own, used_other}, LogLemmas.{stages-same}}
use Rattle.hc_wire.proofs.script.ScriptWireWire.send.Goals as goal

pub returns-clause-stages : goal.returns-clause-stages
returns-clause-stages c = λ j.
    ap (λ (cs : List Taker). stage_in cs j) c.in_ok-take_in.ensures.ok
    ∙ (stages-same c.args.k _ (λ d. refl) (λ d. refl) c.is_failing.new.self.connections.items j
    ∙ ap (λ (w : ScriptWire). stage_in w.connections.items j) c.is_failing.ensures.kept)

pub returns-clause-uses_up : goal.returns-clause-uses_up
returns-clause-uses_up c =
    let n = c.room_in-n.result in
    let counted = c.is_failing.ensures.kept in
    record {
      stall = λ len. ap (λ (xs : List Stall). room_in xs c.args.k len) c.use_up.ensures
          ∙ (used_own c.args.k n c.is_failing.new.self.stalls.items len
          ∙ ap (λ (w : ScriptWire). room_of w c.args.k (n + len) - n) counted);
      others = λ j len apart. ap (λ (xs : List Stall). room_in xs j len) c.use_up.ensures
          ∙ (used_other c.args.k n c.is_failing.new.self.stalls.items j len apart
          ∙ ap (λ (w : ScriptWire). room_of w j len) counted);
    }
