use Rattle.std.proofs.Common.{sym, ◌∙◌}
use Rattle.hc_sparse.proofs.OpLemmas.{on_err}
use Rattle.hc_store.specs.Slots.{puts}
use Rattle.hc_store.proofs.Weights.{cells-at, changed-entry, same-entry}
use Rattle.hc_store.proofs.entries.put_in.Goals as goal

pub put-requires-clause-absent : goal.put-requires-clause-absent
put-requires-clause-absent c = λ p le lt. sym (cells-at c.args.entries.now c.args.n c.in-Some.entry.now (sym c.in-Some.ensures.value) p) ∙
    c.requires.absent p le lt

pub returns-in_err-put-clause-err : goal.returns-in_err-put-clause-err
returns-in_err-put-clause-err c =
    on_err c.from_residual.result
    (same-entry c.args.entries.now c.args.n c.in-Some.entry.now c.put.new.self (sym c.in-Some.ensures.value) c.in_err-put.ensures.err)

pub returns-in_ok-put-clause-ok : goal.returns-in_ok-put-clause-ok
returns-in_ok-put-clause-ok c =
    changed-entry c.args.entries.now c.args.n c.in-Some.entry.now c.put.new.self (puts c.args.at c.args.x c.args.bytes.now c.args.last)
    (sym c.in-Some.ensures.value) c.in_ok-put.ensures.ok
