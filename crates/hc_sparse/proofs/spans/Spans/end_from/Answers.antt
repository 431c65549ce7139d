use Rattle.std.proofs.Common.{arith}
use Rattle.hc_sparse.proofs.spans.Spans.end_from.Goals as goal

pub returns-then-begin-p : goal.returns-then-begin-p
returns-then-begin-p c =
    let span = c.in_ok-begin.ensures in
    (span.0, λ f had o ge lt. had c.in_ok-begin.begin c.in_ok-begin.end span.1 o (omega arith) lt)
