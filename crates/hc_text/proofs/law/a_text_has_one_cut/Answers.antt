use Rattle.hc_text.specs.Elements.{Outside}
use Rattle.hc_text.proofs.LawLemmas.{join-cut, pieces-cut, only_cut}
use Rattle.hc_text.proofs.law.a_text_has_one_cut.Goals as goal

pub returns : goal.returns
returns c =
    let text = c.args._text.now in
    record { joined = join-cut Outside text; pieces = pieces-cut Outside text; only = only_cut text }
