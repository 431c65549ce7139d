-- The places of things that come in an order.
use Rattle.std.specs.Prelude.{ℕ, ◌+◌, ◌-◌, ◌*◌, ◌/◌, nat_lt, if◌then◌else◌}
use Rattle.hc_bench.specs.declared.order.Order.{Order}
use Rattle.hc_bench.specs.declared.order.Order.TheVariants.{Forward, Backward, Alternate}

-- how many of so many places are even
abbrev pub even_count : ℕ → ℕ
even_count count = (count + 1) / 2

-- the place of the k-th of so many
abbrev pub place_of : Order → ℕ → ℕ → ℕ
place_of Forward k count = k
place_of Backward k count = count - 1 - k
place_of Alternate k count = if nat_lt k (even_count count) then 2 * k else 2 * (k - even_count count) + 1
