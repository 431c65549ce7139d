use Rattle.std.proofs.lemmas.Bool.{both_ways}
use Rattle.hc_range.proofs.ReadLemmas.{content_range_at}
use Rattle.hc_range.proofs.read.read_content_range.Goals as goal

pub returns-then-not-eq_ignore_ascii_case-clause-spelled : goal.returns-then-not-eq_ignore_ascii_case-clause-spelled
returns-then-not-eq_ignore_ascii_case-clause-spelled c = λ range h.
    let at = content_range_at c.args.text.now c.in_ok-unit.unit.now c.in_ok-unit.response.now c.in_ok-unit.ensures.cases.1 c.in_ok-unit.ensures.cases.2
    range h in
    absurd (both_ways c.eq_ignore_ascii_case.result c.if-not-eq_ignore_ascii_case.true (c.eq_ignore_ascii_case.ensures.test.1 at.0))

pub returns-clause-spelled : goal.returns-clause-spelled
returns-clause-spelled c = λ range h.
    let at = content_range_at c.args.text.now c.in_ok-unit.unit.now c.in_ok-unit.response.now c.in_ok-unit.ensures.cases.1 c.in_ok-unit.ensures.cases.2
    range h in
    c.read_response.ensures.spelled range at.1
