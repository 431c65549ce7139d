use Rattle.std.proofs.Common.{sym}
use Rattle.hc_sparse.proofs.spans.Spans.begin_of.Goals as goal

pub returns-in-Some-clause-reported : goal.returns-in-Some-clause-reported
returns-in-Some-clause-reported c = λ f had o ge lt. had c.in-Some.begin.now c.args.at (sym c.in-Some.ensures.value) o ge lt
