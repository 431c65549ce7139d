-- What is kept of consumers under watch.
use Rattle.std.specs.Prelude.{◌≡◌, ℕ, Option, Some, None, nat_eq, Bool, true, false}
use Rattle.std.specs.Ordering.{nat_cmp}
use Rattle.std.specs.BTreeMap.{get}
use Rattle.hc_event.specs.declared.event.Request.{Request}
use Rattle.hc_front.specs.declared.watches.Watched.{Watched}
use Rattle.hc_front.specs.declared.watches.Watches.{Watches}

-- what is kept of a consumer
abbrev pub watched_in : Watches → ℕ → Option Watched
watched_in w c = get nat_cmp w.map c

-- of who starts with this request
abbrev pub newly : Request → Watched
newly request = record { request = request; satisfied = false }

-- of who was told that its copy holds
abbrev pub satisfied_now : Option Watched → Option Watched
satisfied_now None = None
satisfied_now (Some w) = Some (record w { satisfied = true })

-- of who was polled and is under watch: whether it leaves, and whether it was told that its copy holds
abbrev pub settled : Bool → Bool → Option Watched → Option Watched
settled true reported before = None
settled false true before = satisfied_now before
settled false false before = before

-- c has this now, and all others have what they had
pub record ChangesAt (c : ℕ) (value : Option Watched) (old new : Watches) : Type 0 where
  pub at : watched_in new c ≡ value
  pub others : (d : ℕ) → nat_eq d c ≡ false → watched_in new d ≡ watched_in old d
