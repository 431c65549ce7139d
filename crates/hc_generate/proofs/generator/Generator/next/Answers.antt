use Rattle.std.proofs.Common.{sym, ◌∙◌}
use Rattle.hc_generate.proofs.Going.{short_made, within_limits_made, later_made}
use Rattle.hc_generate.proofs.generator.Generator.next.Goals as goal

pub returns-else-is_err-clause-short : goal.returns-else-is_err-clause-short
returns-else-is_err-clause-short c = short_made _ _ _ c.round-made.result c.requires.last c.round-made.ensures.ok

pub returns-else-is_err-clause-later : goal.returns-else-is_err-clause-later
returns-else-is_err-clause-later c =
    later_made _ _ _ c.round-made.result c.requires.last (sym c.is_err.ensures.value ∙ c.if-is_err.false) c.round-made.ensures.ok

pub returns-else-is_err-clause-within_limits : goal.returns-else-is_err-clause-within_limits
returns-else-is_err-clause-within_limits c = within_limits_made _ _ _ c.round-made.result c.requires.last c.round-made.ensures.ok
