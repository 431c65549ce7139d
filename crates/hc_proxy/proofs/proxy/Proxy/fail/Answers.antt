use Rattle.std.proofs.Common.{arith}
use Rattle.hc_proxy.proofs.HeardOne.{few_bytes}
use Rattle.hc_proxy.proofs.proxy.Proxy.fail.Goals as goal

pub happen-requires-clause-small : goal.happen-requires-clause-small
happen-requires-clause-small g c = few_bytes c.args.self.now c.requires.stands 0 (omega arith)
