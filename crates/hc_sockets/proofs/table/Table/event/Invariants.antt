use Rattle.std.proofs.Common.{◌≡◌, ℕ, length}
use Rattle.hc_sockets.specs.Sockets.{life}
use Rattle.hc_sockets.proofs.table.Table.event.Given as goal

abbrev pub invariant-loop : goal.invariant-loop
invariant-loop l = (length l.into ≡ length l.fn.into) × ((j : ℕ) → life l.self.sockets j ≡ life l.fn.self.sockets j)
