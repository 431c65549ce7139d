use Rattle.std.proofs.Common.{inl, inr, ap, sym, ◌∙◌}
use Rattle.hc_peers.specs.Renderings.{empty_answer, failure_status}
use Rattle.hc_peers.proofs.Texts.{says_500, says_502, says_504, other_cause}
use Rattle.hc_peers.proofs.status.failure_answer.Goals as goal

pub returns-in-Miss : goal.returns-in-Miss
returns-in-Miss c = says_504 ∙ ap (λ e. empty_answer (failure_status e)) (sym c.in-Miss.is)

pub returns-in-Net : goal.returns-in-Net
returns-in-Net c = elim c.in-Net.is [
  | inl is ↦ says_502 ∙ ap (λ e. empty_answer (failure_status e)) (sym is.1)
  | inr is ↦ says_502 ∙ ap (λ e. empty_answer (failure_status e)) (sym is.1)
]

pub returns-in_default : goal.returns-in_default
returns-in_default c =
    says_500 ∙ ap empty_answer (sym (other_cause c.args.cause c.in_default.not-Miss c.in_default.not-Net c.in_default.not-BadHead))
