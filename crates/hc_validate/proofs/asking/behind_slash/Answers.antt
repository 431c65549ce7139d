use Rattle.std.{proofs.{Common.{◌+◌, arith, sym}, lemmas.List.{drop_all}}, specs.List.{prefix_len}}
use Rattle.hc_validate.specs.Origin.{is_other}
use Rattle.hc_validate.proofs.asking.behind_slash.Goals as goal

pub returns-else-before-text : goal.returns-else-before-text
returns-else-before-text c =
    let text = c.args.text.now in
    sym (drop_all (prefix_len (is_other 47) text + 1) text (omega (arith, c.len_before-before.ensures, c.if-before-text.false)))
