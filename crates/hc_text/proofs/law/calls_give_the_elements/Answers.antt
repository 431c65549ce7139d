use Rattle.hc_text.proofs.LawLemmas.{items_are_elements}
use Rattle.hc_text.proofs.law.calls_give_the_elements.Goals as goal

pub returns : goal.returns
returns c = items_are_elements c.args._text.now 0
