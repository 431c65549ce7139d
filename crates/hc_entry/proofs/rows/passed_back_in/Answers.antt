use Rattle.std.proofs.Common.{refl, ◌∙◌, rules}
use Rattle.hc_entry.specs.Lines.{passed_back}
use Rattle.hc_entry.proofs.KeyLemmas.{line-changes}
use Rattle.hc_entry.proofs.rows.passed_back_in.Goals as goal

pub returns-in-Some-clause-changes : goal.returns-in-Some-clause-changes
returns-in-Some-clause-changes c =
    let same = c.as_slice.ensures.value ∙ c.key.view_is in
    line-changes c.as_slice.result.now c.args.key.now c.args.rows.now _ c.in-Some.row.now c.passed_back.new.self (passed_back) same
    c.in-Some.ensures.value c.passed_back.ensures refl ((c.get_mut.follows.holds _).3 (search rules))
