use Rattle.std.proofs.Common.{sym}
use Rattle.hc_sparse.proofs.OpLemmas.{on_err}
use Rattle.hc_record.specs.Plain.{plain}
use Rattle.hc_store.specs.Slots.{rewrites}
use Rattle.hc_store.proofs.Weights.{changed-entry, same-entry}
use Rattle.hc_store.proofs.entries.rewrite_in.Goals as goal

pub returns-in_err-rewrite-clause-err : goal.returns-in_err-rewrite-clause-err
returns-in_err-rewrite-clause-err c =
    on_err c.from_residual.result
    (same-entry c.args.entries.now c.args.n c.in-Some.entry.now c.rewrite.new.self (sym c.in-Some.ensures.value) c.in_err-rewrite.ensures.err)

pub returns-in_ok-rewrite-clause-ok : goal.returns-in_ok-rewrite-clause-ok
returns-in_ok-rewrite-clause-ok c =
    changed-entry c.args.entries.now c.args.n c.in-Some.entry.now c.rewrite.new.self (rewrites (plain c.args.head.now)) (sym c.in-Some.ensures.value)
    c.in_ok-rewrite.ensures.ok
