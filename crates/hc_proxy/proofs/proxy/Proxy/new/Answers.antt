use Rattle.std.proofs.Common.{refl, ◌∙◌}
use Rattle.hc_proxy.proofs.FromContents.{rests_first, moment_is}
use Rattle.hc_proxy.proofs.proxy.Proxy.new.Goals as goal

pub returns-clause-rests : goal.returns-clause-rests
returns-clause-rests g c f log unused last front fresh =
    let now = c.last_moment-now.ensures ∙ moment_is f c.args.cache unused in
    rests_first f _ log unused fresh now last front refl c.new.ensures.text (c.new.ensures.last ∙ now) c.new-2.ensures c.new-3.ensures c.new-4.ensures.none
    c.new-5.ensures.items
