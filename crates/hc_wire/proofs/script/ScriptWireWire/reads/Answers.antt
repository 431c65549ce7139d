use Rattle.std.proofs.Common.{List, refl, ap, ◌∙◌}
use Rattle.hc_wire.specs.{Events.{reading_of}, Logs.{Taker, stage_in, reading}}
use Rattle.hc_wire.proofs.LogLemmas.{stages-changed, stage_read}
use Rattle.hc_wire.proofs.script.ScriptWireWire.reads.Goals as goal

pub returns-clause-stages : goal.returns-clause-stages
returns-clause-stages c = λ j.
    ap (λ (cs : List Taker). stage_in cs j) c.read_in.ensures
    ∙ stages-changed c.args.k (reading c.args.on) (λ d. refl) (reading_of c.args.on) refl (stage_read c.args.on) c.args.self.now.connections.items j
