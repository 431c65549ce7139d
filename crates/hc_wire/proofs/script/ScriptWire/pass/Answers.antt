use Rattle.std.proofs.Common.{rules}
use Rattle.hc_wire.proofs.FollowLemmas.{behind_one}
use Rattle.hc_wire.proofs.script.ScriptWire.pass.Goals as goal

pub returns-then-self-len-clause-left : goal.returns-then-self-len-clause-left
returns-then-self-len-clause-left c = behind_one c.args.self.now.script.items c.args.self.now.at c.args.self.now.off (search rules)
