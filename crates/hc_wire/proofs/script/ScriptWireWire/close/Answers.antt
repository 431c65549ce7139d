use Rattle.std.proofs.Common.{List, refl, ap, ◌∙◌}
use Rattle.hc_wire.specs.{Events.{closed_of}, Logs.{Taker, stage_in, shut}}
use Rattle.hc_wire.proofs.LogLemmas.{stages-changed, stage_shut}
use Rattle.hc_wire.proofs.script.ScriptWireWire.close.Goals as goal

pub returns-clause-stages : goal.returns-clause-stages
returns-clause-stages c = λ j. ap (λ (cs : List Taker). stage_in cs j) c.shut_in.ensures ∙
    stages-changed c.args.k shut (λ d. refl) closed_of refl stage_shut c.args.self.now.connections.items j
