use Rattle.std.{proofs.Common.{List, ℕ, Some, subst}, specs.{Ordering.{nat_cmp}, BTreeMap.{Updates}}}
use Rattle.hc_fetch.proofs.Aheads.{kept_new, kept_old}
use Rattle.hc_fetch.proofs.gathering.Gathered.keep.Goals as goal

pub returns-then-has_longer-clause-keeps : goal.returns-then-has_longer-clause-keeps
returns-then-has_longer-clause-keeps c = λ f x k fit later.
    let longer = c.has_longer.ensures.yes c.if-has_longer.true in
    kept_old f c.args.at x c.args.bytes.now fit c.args.self.now.ahead c.args.self.now.ahead c.args.self.now.written later k longer.0 longer.1 longer.2

pub returns-clause-keeps : goal.returns-clause-keeps
returns-clause-keeps c = λ f x k fit later.
    kept_new f c.args.at x c.args.bytes.now fit c.args.self.now.ahead c.insert.new.self c.args.self.now.written later k
    (subst (λ (b : List ℕ). Updates nat_cmp c.args.self.now.ahead c.insert.new.self c.args.at (Some b)) c.in_ok-copy.ensures c.in_ok-insert.ensures.updates)
    (c.has_longer.ensures.no c.if-has_longer.false)
