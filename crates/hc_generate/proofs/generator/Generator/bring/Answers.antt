use Rattle.std.proofs.Common.{ap, sym, ◌∙◌}
use Rattle.hc_text.specs.Sorted.{item_with}
use Rattle.hc_generate.specs.Sending.{number_of}
use Rattle.hc_generate.proofs.OrderLemmas.{has-is_found}
use Rattle.hc_generate.proofs.generator.Generator.bring.Goals as goal

pub owe-requires-clause-there : goal.owe-requires-clause-there
owe-requires-clause-there c =
    has-is_found c.in-Some.x c.in-Some-item_at.exchange.now c.self.inside.exchanges.items
    (ap (item_with number_of c.in-Some.x) (sym c.as_slice.ensures.value) ∙ sym c.in-Some-item_at.ensures)
