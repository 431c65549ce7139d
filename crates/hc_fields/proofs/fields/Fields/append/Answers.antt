use Rattle.std.proofs.lemmas.Result.{on_ok_weaker}
use Rattle.http_header.specs.Token.{lowercase}
use Rattle.hc_fields.proofs.Edits.{values_of-put_same, values_of-put_other}
use Rattle.hc_fields.proofs.fields.Fields.append.Goals as goal

pub returns-clause-values : goal.returns-clause-values
returns-clause-values c =
    on_ok_weaker c.append_checked.result
    (λ is. rw is (values_of-put_same (lowercase c.args.name.now) c.args.value.now c.args.self.now c.append_checked.ensures.list)) c.append_checked.ensures.ok

pub returns-clause-others : goal.returns-clause-others
returns-clause-others c =
    on_ok_weaker c.append_checked.result
    (λ is other differ. rw is (values_of-put_other (lowercase c.args.name.now) c.args.value.now other c.args.self.now differ)) c.append_checked.ensures.ok
