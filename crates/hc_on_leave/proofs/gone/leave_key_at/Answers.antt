use Rattle.std.proofs.Common.{refl, sym, ◌∙◌}
use Rattle.hc_on_leave.proofs.gone.leave_key_at.Goals as goal

pub returns-else-may_wait : goal.returns-else-may_wait
returns-else-may_wait c = rw (c.requires (sym c.may_wait.ensures ∙ c.if-may_wait.false)) (λ key. refl)
