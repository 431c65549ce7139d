use Rattle.std.proofs.{Common.{ℕ, List, [], ◌∷◌, ◌++◌, ap, ◌∙◌}, lemmas.Result.{on_ok_weaker}}
use Rattle.http_header.specs.Token.{lowercase}
use Rattle.hc_fields.specs.FieldList.{without}
use Rattle.hc_fields.proofs.Edits.{sorted-without, values_of-put_same, values_of-put_other, values_of-without_same, values_of-without_other}
use Rattle.hc_fields.proofs.fields.Fields.set.Goals as goal

pub returns-clause-values : goal.returns-clause-values
returns-clause-values c =
    let name = lowercase c.args.name.now in
    let fs = c.args.self.now in
    on_ok_weaker c.set_checked.result
    (λ is. rw is (values_of-put_same name c.args.value.now (without name fs) (sorted-without name fs c.set_checked.ensures.list)
    ∙ ap (λ (l : List (List ℕ)). l ++ c.args.value.now ∷ []) (values_of-without_same name fs))) c.set_checked.ensures.ok

pub returns-clause-others : goal.returns-clause-others
returns-clause-others c =
    let name = lowercase c.args.name.now in
    let fs = c.args.self.now in
    on_ok_weaker c.set_checked.result
    (λ is other differ. rw is (values_of-put_other name c.args.value.now other (without name fs) differ ∙ values_of-without_other name other fs differ))
    c.set_checked.ensures.ok
