use Rattle.std.proofs.Common.{inl, inr, ap, sym, ◌∙◌}
use Rattle.hc_peers.specs.Renderings.{empty_answer, error_status}
use Rattle.hc_peers.proofs.Texts.{says_400, says_431, says_501, other_error}
use Rattle.hc_peers.proofs.status.error_answer.Goals as goal

pub returns-in-HeadTooLong : goal.returns-in-HeadTooLong
returns-in-HeadTooLong c = says_431 ∙ ap (λ e. empty_answer (error_status e)) (sym c.in-HeadTooLong.is)

pub returns-in-BadLength : goal.returns-in-BadLength
returns-in-BadLength c = elim c.in-BadLength.is [
  | inl is ↦ says_501 ∙ ap (λ e. empty_answer (error_status e)) (sym is)
  | inr is ↦ says_501 ∙ ap (λ e. empty_answer (error_status e)) (sym is)
]

pub returns-in_default : goal.returns-in_default
returns-in_default c =
    says_400 ∙ ap empty_answer (sym (other_error c.args.e c.in_default.not-HeadTooLong c.in_default.not-BadLength c.in_default.not-UnsupportedMethod))
