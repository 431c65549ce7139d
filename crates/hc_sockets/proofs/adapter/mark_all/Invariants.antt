use Rattle.std.proofs.Common.{◌≡◌, ℕ}
use Rattle.hc_sockets.specs.Sockets.{life}
use Rattle.hc_sockets.proofs.adapter.mark_all.Given as goal

abbrev pub invariant-loop-event : goal.invariant-loop-event
invariant-loop-event l = (j : ℕ) → life l.table.sockets j ≡ life l.fn.table.sockets j
