use Rattle.hc_txn.specs.Transactions.{with_end}
use Rattle.hc_state.proofs.ListLoops.{ChangedFirst}
use Rattle.hc_state.proofs.changes.know_ends.Given as goal

abbrev pub invariant-loop-c : goal.invariant-loop-c
invariant-loop-c l = ChangedFirst l.c-index l.cs (with_end l.hi) l.initial.consumers l.consumers
