use Rattle.std.proofs.Common.{arith}
use Rattle.hc_sparse.proofs.SpanLemmas.{joined, all-between, had-joined, had-same}
use Rattle.hc_sparse.proofs.spans.Spans.add.Goals as goal

pub returns-in_err-insert-clause-had : goal.returns-in_err-insert-clause-had
returns-in_err-insert-clause-had c = λ f had own. had-same c.args.self.now.begins c.insert.new.self f c.in_err-insert.ensures.err had

pub returns-clause-had : goal.returns-clause-had
returns-clause-had c = λ f had own.
    let is = joined c.args.self.now.begins c.insert.new.self c.remove.new.self c.args.at c.begin_of-begin.result c.end_of-last.result
    c.in_ok-insert.ensures.updates c.remove.ensures.updates in
    had-joined c.args.self.now.begins c.remove.new.self f c.args.at c.begin_of-begin.result c.end_of-last.result is had
    (all-between f c.begin_of-begin.result c.args.at c.args.end c.end_of-last.result (c.begin_of-begin.ensures.reported f had) own
    (c.end_of-last.ensures.reported f had))

pub returns-clause-reported : goal.returns-clause-reported
returns-clause-reported c = λ f had o ge lt.
    let by = c.begin_of-begin.ensures.by in
    let from = c.end_of-last.ensures.from in
    let some = c.requires.some in
    let is = joined c.args.self.now.begins c.insert.new.self c.remove.new.self c.args.at c.begin_of-begin.result c.end_of-last.result
    c.in_ok-insert.ensures.updates c.remove.ensures.updates in
    had c.begin_of-begin.result c.end_of-last.result (is.put (λ same. absurd (omega arith))) o (omega arith) (omega arith)
