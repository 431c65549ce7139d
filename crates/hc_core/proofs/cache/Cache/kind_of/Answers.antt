use Rattle.std.proofs.Common.{◌∙◌, sym}
use Rattle.hc_core.proofs.KeyViews.{never_unkept, kind_reported}
use Rattle.hc_core.proofs.cache.Cache.kind_of.Goals as goal

pub returns-in_err-entry : goal.returns-in_err-entry
returns-in_err-entry g c =
    λ contents h stands. absurd
    (never_unkept c.args.self.now c.args.key.now contents h stands c.in_ok-r.r (sym c.current.ensures ∙ c.in_ok-r.was)
    (sym c.entry.ensures ∙ c.in_err-entry.was))

pub returns : goal.returns
returns g c = λ contents h stands. kind_reported c.args.self.now c.args.key.now contents h stands c.in_ok-r.r (sym c.current.ensures ∙ c.in_ok-r.was)
    c.in_ok-entry.field-0 (sym c.entry.ensures ∙ c.in_ok-entry.was)
