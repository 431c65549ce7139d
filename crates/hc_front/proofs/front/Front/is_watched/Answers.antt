use Rattle.std.proofs.Common.{true, false, ◌∙◌}
use Rattle.hc_effects.proofs.Vocabulary.{tables}
use Rattle.hc_front.proofs.FrontPaths.{if_ok_by, none_so, watched_none, watched_some}
use Rattle.hc_front.proofs.front.Front.is_watched.Goals as goal

pub returns-then-is_none : goal.returns-then-is_none
returns-then-is_none g c =
    λ contents h stands. watched_none (tables contents h) c.args.request.now c.kind_of.result (c.kind_of.ensures contents h stands)
    (none_so c.kind_of.result c.is_none.result true c.is_none.ensures c.if-is_none.true)

pub returns : goal.returns
returns g c =
    if_ok_by c.is_external.result c.is_external.ensures
    (λ answer is contents h stands. is ∙
    watched_some (tables contents h) c.args.request.now c.kind_of.result (c.kind_of.ensures contents h stands)
    (none_so c.kind_of.result c.is_none.result false c.is_none.ensures c.if-is_none.false))
