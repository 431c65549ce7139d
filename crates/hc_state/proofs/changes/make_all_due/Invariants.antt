use Rattle.hc_txn.specs.Transactions.{with_due}
use Rattle.hc_state.proofs.ListLoops.{ChangedFirst}
use Rattle.hc_state.proofs.changes.make_all_due.Given as goal

abbrev pub invariant-loop-c : goal.invariant-loop-c
invariant-loop-c l = ChangedFirst l.c-index l.cs (with_due l.cause) l.initial.consumers l.consumers
