-- Where the members of a writer group stand, as their transactions say.
use Rattle.std.specs.Prelude.{ℕ, ◌+◌, ◌-◌, ◌^◌, min, List, map, Option, Some, None, if◌then◌else◌, nat_eq}
use Rattle.std.specs.HashMap.{get}
use Rattle.hc_rules.specs.declared.survivor.Member.{Member}
use Rattle.hc_text.specs.Sorted.{has, itself}
use Rattle.hc_state.specs.Changes.{Numbered}
use Rattle.hc_txn.specs.declared.transaction.Transaction.{Transaction}
use Rattle.hc_writers.specs.Group.{Group, standing_at}

-- where its transaction stands, if it is live
abbrev pub placed : Member → Option Transaction → Member
placed m None = m
placed m (Some k) = standing_at m.c (min (k.lo + k.given) (2 ^ 64 - 1))

-- the same, if it is one of these
abbrev pub placed_among : Numbered Transaction → List ℕ → Member → Member
placed_among consumers cs m = if has itself m.c cs then placed m (get nat_eq consumers m.c) else m

-- the group, once these were told
abbrev pub reported_among : Numbered Transaction → List ℕ → Group → Group
reported_among consumers cs w = record w { members = map (placed_among consumers cs) w.members }
