-- What is kept of a representation names its writer group.
use Rattle.std.{proofs.Common.{◌≡◌, ℕ, List, true, false, Option, Some, None, refl}, specs.{Prelude.{IfSome, option_map, nat_eq}, Option.{option_and_then}, HashMap.{get}}}
use Rattle.hc_entry.specs.{Used.{AreMembers, group_in, is_lost_in, writer_in}, declared.way.Way.{Way}}
use Rattle.hc_entry.specs.declared.way.Way.TheVariants as way
use Rattle.hc_store.specs.Slots.{Held, Slots}
use Rattle.hc_stored.specs.{declared.entry.Entry.{Entry}, Groups.{EndsAt, HasMembers, IsGroupOf, exchange_of}, Grouped.{group_at}, Rows.{EntryMap, row_of, rows_of, kept_of, kept_by}}

named : (w : Way) → is_lost_in w ≡ false → exchange_of (group_in w) ≡ writer_in w
named way.Readers fresh = refl
named (way.Writers g) fresh = refl
named (way.Lost alone writer) fresh = absurd (let never : true ≡ false = fresh in cc)

members : (bound : List ℕ) (reach : ℕ) (w : Way) → IfSome (group_in w) (AreMembers bound) → EndsAt reach (group_in w) →
    IfSome (group_in w) (HasMembers bound reach)
members bound reach way.Readers are ends = tt
members bound reach (way.Writers g) are ends = record { shared = are.shared; members = are.members; end = ends }
members bound reach (way.Lost alone writer) are ends = tt

held_group : (e : Entry) (h : Option Held) → IfSome (option_map (kept_of (row_of e)) h) (IsGroupOf (group_in e.users.way))
held_group e None = tt
held_group e (Some h) = record {
  exchange = named e.users.way;
  members = members e.users.bound.items e.reach e.users.way e.users.used.group e.stored;
  within = e.within;
}

entry_group : (slots : Slots) (o : Option Entry) →
    IfSome (kept_by slots (option_map row_of o)) (IsGroupOf (option_and_then (λ (e : Entry). group_in e.users.way) o))
entry_group slots None = tt
entry_group slots (Some e) = held_group e (slots e.slot.n)

pub group_is : (slots : Slots) (entries : EntryMap) (r : ℕ) → IfSome (kept_by slots (rows_of entries r)) (IsGroupOf (group_at entries r))
group_is slots entries r = entry_group slots (get nat_eq entries r)
