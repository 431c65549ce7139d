use Rattle.std.proofs.Common.{◌∙◌, ap}
use Rattle.hc_text.specs.Sorted.{has}
use Rattle.hc_generate.specs.Sending.{number_of}
use Rattle.hc_generate.proofs.OrderLemmas.{has-left_out}
use Rattle.hc_generate.proofs.exchange.put_begun.Goals as goal

pub put_reserved-requires-clause-absent : goal.put_reserved-requires-clause-absent
put_reserved-requires-clause-absent c = ap (has number_of c.in-Some.exchange.x) c.leave_out.ensures.items ∙
    has-left_out c.in-Some.exchange.x c.args.exchanges.now.items
