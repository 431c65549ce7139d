-- A writer group: the exchange that brings a representation for several, who reads along, and what becomes of them.
use Rattle.std.specs.Prelude.{◌≡◌, ℕ, ◌+◌, ◌≤◌, List, [], ◌∷◌, length, map, Bool, true, false, Option, Some, None, if◌then◌else◌}
use Rattle.hc_text.specs.Sorted.{is_sorted, has, with_item, without, with_replacement}
use Rattle.hc_rules.specs.declared.survivor.Member.{Member}
use Rattle.hc_rules.specs.Admissions.{survivor_at}
use Rattle.hc_writers.specs.declared.writers.Left.{Left}
use Rattle.hc_writers.specs.declared.writers.Left.TheVariants as left

-- The exchange, the members by number, each with the position at which it stands, where what is stored ends, and whether
-- nothing more is stored: then one member at most goes on with what comes.
pub record Group : Type 0 where
  pub exchange : ℕ
  pub members : List Member
  pub end : ℕ
  pub alone : Bool

abbrev pub consumer_of : Member → ℕ
consumer_of m = m.c

abbrev pub standing_at : ℕ → ℕ → Member
standing_at c offset = record { c = c; offset = offset }

-- one reads along, from the beginning
abbrev pub begun : ℕ → ℕ → ℕ → Group
begun x c end = record { exchange = x; members = standing_at c 0 ∷ []; end = end; alone = false }

abbrev pub at_first : ℕ → Member
at_first c = standing_at c 0

-- these read along, from the beginning
abbrev pub resumed : ℕ → List ℕ → ℕ → Group
resumed x cs end =
    record { exchange = x; members = map at_first cs; end = end; alone = false }

-- their numbers
abbrev pub numbers : Group → List ℕ
numbers w = map consumer_of w.members

abbrev pub is_member : ℕ → Group → Bool
is_member c w = has consumer_of c w.members

abbrev pub joined_by : ℕ → Group → Group
joined_by c w = record w { members = with_item consumer_of (standing_at c 0) w.members }

abbrev pub moved_to : ℕ → ℕ → Group → Group
moved_to c offset w = record w { members = with_replacement consumer_of (standing_at c offset) w.members }

abbrev pub grown_by : ℕ → Group → Group
grown_by n w = record w { end = w.end + n }

abbrev pub without_member : ℕ → Group → Group
without_member c w = record w { members = without consumer_of c w.members }

-- WHO GOES ON

-- the least member that stands where what is stored ends
abbrev pub survivor : Group → Option ℕ
survivor w = survivor_at w.end w.members

abbrev pub only : Option ℕ → ℕ → List Member
only None end = []
only (Some c) end = standing_at c end ∷ []

-- a write was refused: it alone stays
abbrev pub after_loss : Group → Group
after_loss w = record w { members = only (survivor w) w.end; alone = true }

-- WHO LEAVES

abbrev pub is_nobody : List Member → Bool
is_nobody [] = true
is_nobody (m ∷ ms) = false

-- what the group is once one has left
abbrev pub left_as : Bool → Group → Left
left_as keepable w =
    if is_nobody w.members then (if keepable then left.LastKeep else left.LastDoom)
    else left.Others

-- The numbers rise, and once nothing more is stored one is left at most.
pub record IsGroup (alone : Bool) (members : List Member) : Type 0 where
  pub ascending : is_sorted consumer_of members ≡ true
  pub few : alone ≡ true → length members ≤ 1
