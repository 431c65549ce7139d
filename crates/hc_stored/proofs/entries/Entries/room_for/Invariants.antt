use Rattle.std.{proofs.Common.{◌≡◌, ◌+◌, ◌≤◌, ℕ, length}, specs.{Prelude.{option_map, map, filter, reverse}, Map.{keys_of}}}
use Rattle.hc_rules.specs.Rooms.{gives_way}
use Rattle.hc_stored.specs.{Entries.{shelf_of}, Shelf.{weight_at, is_unused, idle}}
use Rattle.hc_stored.proofs.entries.Entries.room_for.Given as goal

abbrev pub invariant-loop-r : goal.invariant-loop-r
invariant-loop-r g l =
    record {
      sum : option_map (λ (n : ℕ). l.count + n)
          (gives_way l.most l.left (map (weight_at (shelf_of l.self)) (filter (λ r. is_unused ((shelf_of l.self).kept r)) (reverse (keys_of l.r-iterator.iter)))))
          ≡ gives_way l.most l.initial.left (map (weight_at (shelf_of l.self)) (idle (shelf_of l.self)));
      few : l.count + length l.r-iterator.iter ≤ l.total;
    }
