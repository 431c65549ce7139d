use Rattle.std.proofs.Common.{sym, rules}
use Rattle.hc_head.proofs.Keys.{target_key}
use Rattle.hc_head.proofs.request.key_of.Goals as goal

pub returns-then-own : goal.returns-then-own
returns-then-own c = sym (target_key c.args.text.items (search rules) (search rules))
