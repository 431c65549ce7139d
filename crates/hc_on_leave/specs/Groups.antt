-- What a writer group is once a consumer has left, and what nobody reads any more then.
use Rattle.std.specs.Prelude.{◌≡◌, ℕ, Bool, false, Option, Some, None, option_map, IfSome}
use Rattle.hc_event.specs.declared.place.Place.{Place}
use Rattle.hc_event.specs.declared.place.Place.TheVariants as place
use Rattle.hc_exch.specs.Known.{Table}
use Rattle.hc_store.specs.declared.backend.Backend.{Ghosts}
use Rattle.hc_stored.specs.declared.entries.Entries.{Entries}
use Rattle.hc_stored.specs.Entries.{shelf_of}
use Rattle.hc_stored.specs.Grouped.{group_of}
use Rattle.hc_entry.specs.Used.{left_answer}
use Rattle.hc_stored.specs.Groups.{IsGroupOf}
use Rattle.hc_stored.specs.Kept.{Kept}
use Rattle.hc_stored.specs.Shelf.{Shelf}
use Rattle.hc_stored.specs.Views.{view_of}
use Rattle.hc_state.specs.Leaving.{writer_group_of}
use Rattle.hc_state.specs.Stops.{may_complete}
use Rattle.hc_writers.specs.declared.writers.Left.{Left}
use Rattle.hc_writers.specs.declared.writers.Left.TheVariants as left

-- the exchange of the writer group of what whoever stands there is bound to, as long as that is on
abbrev pub writer_group_at : Table → Shelf → Place → Option ℕ
writer_group_at table s (place.Bound r lo hi by) = writer_group_of table (s.kept r)
writer_group_at table s _ = None

-- ONCE IT HAS LEFT

abbrev pub is_keepable_at : Option Kept → Bool
is_keepable_at None = false
is_keepable_at (Some k) = may_complete (view_of k)

abbrev pub left_at : {B : Type 0} {g : Ghosts B} → Place → ℕ → Entries B g → Option Left
left_at (place.Bound r lo hi by) c e =
    option_map (left_answer (is_keepable_at ((shelf_of e).kept r)) c) (group_of e r)
left_at _ c e = None

-- this, unless others read along still
abbrev pub unless_others : Option Left → Option ℕ → Option ℕ
unless_others (Some left.Others) x = None
unless_others _ x = x

abbrev pub IsGroupAt : {B : Type 0} {g : Ghosts B} → Place → Entries B g → Type 0
IsGroupAt (place.Bound r lo hi by) e = IfSome ((shelf_of e).kept r) (IsGroupOf (group_of e r))
IsGroupAt _ e = Unit {0}

-- what the group answers, of which whoever is bound is a member
pub record LeavesGroup {B : Type 0} {g : Ghosts B} (p : Place) (c : ℕ) (e : Entries B g) (answer : Option Left) : Type 0 where
  pub answer_is : answer ≡ left_at p c e
  pub group : IsGroupAt p e
