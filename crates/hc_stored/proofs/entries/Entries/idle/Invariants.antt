use Rattle.std.{proofs.Common.{◌≡◌, ◌++◌}, specs.{Prelude.{filter, reverse}, Map.{keys_of}}}
use Rattle.hc_stored.specs.{Entries.{shelf_of}, Shelf.{is_unused, idle}}
use Rattle.hc_stored.proofs.entries.Entries.idle.Given as goal

abbrev pub invariant-loop-r : goal.invariant-loop-r
invariant-loop-r g l = l.idle.items ++ filter (λ r. is_unused ((shelf_of l.self).kept r)) (reverse (keys_of l.r-iterator.iter)) ≡ idle (shelf_of l.self)
