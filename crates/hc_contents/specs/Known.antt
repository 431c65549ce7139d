-- What is known of the items before one, and behind it.
use Rattle.std.specs.Prelude.{◌≡◌, ℕ, ◌+◌, ◌≤◌, List, length, drop, bytes_eq, nat_eq, nat_le, nat_lt, Bool, false, not, ◌&&◌, Option, Some, None, ◌==◌, ◌||◌}
use Rattle.std.specs.List.{list_any}
use Rattle.std.specs.HashMap.{get}
use Rattle.std.specs.HashSet.{contains, contains_by}
use Rattle.hc_sparse.specs.declared.run.Run.{Run}
use Rattle.hc_model.specs.Beginnings.{says}
use Rattle.hc_model.specs.Entries.{Content}
use Rattle.hc_contents.specs.declared.seen.Seen.{Seen}

-- the last place isn't before this one
abbrev pub is_from : ℕ → Option ℕ → Bool
is_from i None = false
is_from i (Some last) = nat_le i last

-- which numbers are representations' of those from a place on
abbrev pub KnowsLast : (ℕ → Option ℕ) → List Content → Type 0
KnowsLast last items =
    (x i : ℕ) → i ≤ length items → is_from i (last x)
    ≡ list_any (λ (other : Content). other.r == x) (drop i items)

-- the keys and numbers of the earlier ones of some items, and the last places of representations
pub record Knows (s : Seen) (earlier items : List Content) : Type 0 where
  pub keys : (key : List ℕ) → contains_by (λ stored. bytes_eq key stored.items) s.keys
      ≡ list_any (λ (other : Content). bytes_eq other.key key) earlier
  pub said : (x : ℕ) → contains nat_eq s.said x ≡ list_any (says x) earlier
  pub last : KnowsLast (get nat_eq s.last) items

-- the number of a run's exchange is below the end, wasn't said, and is this one's or isn't that of one behind
abbrev pub is_own_in : Seen → ℕ → ℕ → ℕ → Run → Bool
is_own_in s i r end run =
    nat_lt 0 run.x && nat_lt run.x end && not (contains nat_eq s.said run.x)
    && (r == run.x || not (is_from (i + 1) (get nat_eq s.last run.x)))
