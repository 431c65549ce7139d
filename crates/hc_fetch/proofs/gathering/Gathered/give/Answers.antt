use Rattle.std.proofs.Common.{◌≡◌, sym, arith}
use Rattle.hc_sparse.specs.Cells.{cells_with}
use Rattle.hc_fetch.proofs.Aheads.{given_seen, appends_more, on_map}
use Rattle.hc_fetch.proofs.gathering.Gathered.give.Goals as goal

pub returns-then-at-self-clause-keeps : goal.returns-then-at-self-clause-keeps
returns-then-at-self-clause-keeps c =
    let later = c.if-at-self.true in
    on_map c.keep.result (λ all f x k fit. all f x k fit (omega arith)) c.keep.ensures.keeps

pub returns-clause-keeps : goal.returns-clause-keeps
returns-clause-keeps c =
    let same : c.args.bytes.now ≡ c.as_slice.result.now = sym c.as_slice.ensures in
    on_map c.write_ahead.result
    (λ all f x k fit. all (cells_with c.args.at x c.args.bytes.now f) (c.in_ok-write.ensures.keeps (cells_with c.args.at x c.args.bytes.now f)
    (given_seen f c.args.at x c.args.bytes.now fit c.args.self.now.ahead c.args.self.now.written c.if-at-self.false k c.as_slice.result.now same)))
    c.write_ahead.ensures.keeps

pub returns-clause-text : goal.returns-clause-text
returns-clause-text c =
    let same : c.args.bytes.now ≡ c.as_slice.result.now = sym c.as_slice.ensures in
    on_map c.write_ahead.result
    (λ all f x k fit.
    let here = given_seen f c.args.at x c.args.bytes.now fit c.args.self.now.ahead c.args.self.now.written c.if-at-self.false k c.as_slice.result.now same in
    appends_more (cells_with c.args.at x c.args.bytes.now f) _ _ _ _ _ _ (c.in_ok-write.ensures.text (cells_with c.args.at x c.args.bytes.now f) here)
    (all (cells_with c.args.at x c.args.bytes.now f) (c.in_ok-write.ensures.keeps (cells_with c.args.at x c.args.bytes.now f) here)))
    c.write_ahead.ensures.text
