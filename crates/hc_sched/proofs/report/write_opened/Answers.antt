use Rattle.std.proofs.{Common.{◌∙◌, append_assoc}, lemmas.Result.{on_ok_weaker}}
use Rattle.hc_sched.proofs.report.write_opened.Goals as goal

pub returns-clause-ok : goal.returns-clause-ok
returns-clause-ok c =
    on_ok_weaker c.write_request.result
    (λ is. is ∙ simp (c.in_ok-write_need.ensures.ok, c.in_ok-write_parts.ensures.ok, append_assoc))
    c.write_request.ensures.ok
