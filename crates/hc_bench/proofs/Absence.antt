-- Nothing is yet at the places of the pieces that are to come.
use Rattle.std.proofs.Common.{◌≡◌, ℕ, ◌+◌, ◌*◌, ◌<◌, ◌≤◌, ◌∙◌}
use Rattle.hc_sparse.specs.Cells.{Cells, AreAbsent}
use Rattle.hc_bench.specs.{declared.order.Order.{Order}, Places.{place_of}}

-- nothing is at the places of all pieces but the first k that come
abbrev pub AwaitsRest : Order → ℕ → ℕ → Cells → Type 0
AwaitsRest order count k cells = (j : ℕ) → k ≤ j → j < count → AreAbsent cells (1460 * place_of order j count) (1460 * place_of order j count + 1460)
