use Rattle.std.proofs.Common.{sym, rules}
use Rattle.hc_target.proofs.{TargetLemmas.{is_target-not_utf8, is_target-own}, PlainTargets.{plain_word, plain_target}}
use Rattle.hc_target.proofs.target.is_target.Goals as goal

pub returns-in_default-clause-value : goal.returns-in_default-clause-value
returns-in_default-clause-value c = sym (is_target-not_utf8 c.args.text.now c.in_default.ensures.cases.0)

pub returns-in-Ok-parse-clause-value : goal.returns-in-Ok-parse-clause-value
returns-in-Ok-parse-clause-value c =
    let reported = c.in-Ok.ensures.cases in
    is_target-own c.args.text.now c.in-Ok.text.now c.in-Ok-parse.url c.has_own_text.result (search rules) reported.0 reported.1 c.in-Ok-parse.ensures
    c.has_own_text.ensures

pub returns-then-is_plain_target-clause-value : goal.returns-then-is_plain_target-clause-value
returns-then-is_plain_target-clause-value c =
    let text = c.args.text.now in
    sym (plain_target text (plain_word text (search rules) (search rules)) (search rules)).0

pub returns-then-is_plain_target-clause-read : goal.returns-then-is_plain_target-clause-read
returns-then-is_plain_target-clause-read c =
    let text = c.args.text.now in
    λ is. (plain_target text (plain_word text (search rules) (search rules)) (search rules)).1
