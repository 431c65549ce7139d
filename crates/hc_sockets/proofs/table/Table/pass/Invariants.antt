use Rattle.std.specs.Prelude.{◌≡◌, ℕ}
use Rattle.hc_sockets.specs.Sockets.{life}
use Rattle.hc_sockets.proofs.table.Table.pass.Given as goal

abbrev pub invariant-loop : goal.invariant-loop
invariant-loop l = (j : ℕ) → life l.self.sockets j ≡ life l.fn.self.sockets j
