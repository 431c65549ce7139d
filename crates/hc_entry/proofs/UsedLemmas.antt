-- All who are bound are members of the writer group, where there is one, whoever comes or goes.
use Rattle.std.{proofs.{Common.{◌≡◌, ℕ, List, true, false, refl, ap, ◌∙◌, inl, inr}, lemmas.Bool.{cases_Bool}}, specs.Prelude.{IfSome}}
use Rattle.hc_text.specs.Sorted.{has, with_item, without, itself}
use Rattle.hc_writers.specs.Group.{Group, is_member, resumed, standing_at}
use Rattle.hc_writers.proofs.NumberLemmas.{has_numbers, with_numbers, without_numbers, first_numbers, moved_numbers}
use Rattle.hc_entry.specs.{declared.way.Way.{Way}, Used.{AreMembers, MayJoin, MayLeave, group_in, grown_way, joined_way, left_way, moved_if_member, moved_way}}
use Rattle.hc_entry.specs.declared.way.Way.TheVariants as way

pub may_join : (c : ℕ) (bound : List ℕ) (w : Way) → has itself c bound ≡ false → IfSome (group_in w) (AreMembers bound) → IfSome (group_in w) (MayJoin c)
may_join c bound (way.Writers g) off h = record { new = has_numbers c g.members ∙ (ap (has itself c) h.members ∙ off); shared = h.shared }
may_join c bound way.Readers off h = tt
may_join c bound (way.Lost alone writer) off h = tt

pub may_leave : (c : ℕ) (bound : List ℕ) (w : Way) → has itself c bound ≡ true → IfSome (group_in w) (AreMembers bound) → IfSome (group_in w) (MayLeave c)
may_leave c bound (way.Writers g) on h = has_numbers c g.members ∙ (ap (has itself c) h.members ∙ on)
may_leave c bound way.Readers on h = tt
may_leave c bound (way.Lost alone writer) on h = tt

pub joined_group : (c : ℕ) (bound : List ℕ) (w : Way) → IfSome (group_in w) (AreMembers bound) →
    IfSome (group_in (joined_way c w)) (AreMembers (with_item itself c bound))
joined_group c bound (way.Writers g) h =
    record { shared = h.shared; members = with_numbers (standing_at c 0) g.members ∙ ap (with_item itself c) h.members }
joined_group c bound way.Readers h = tt
joined_group c bound (way.Lost alone writer) h = tt

pub left_group : (c : ℕ) (bound : List ℕ) (w : Way) → IfSome (group_in w) (AreMembers bound) →
    IfSome (group_in (left_way c w)) (AreMembers (without itself c bound))
left_group c bound (way.Writers g) h = record { shared = h.shared; members = without_numbers c g.members ∙ ap (without itself c) h.members }
left_group c bound way.Readers h = tt
left_group c bound (way.Lost alone writer) h = tt

moved_members : (c p : ℕ) (bound : List ℕ) (g : Group) → AreMembers bound g → AreMembers bound (moved_if_member c p g)
moved_members c p bound g h = elim (cases_Bool (is_member c g)) [
  | inl is ↦ rw is (record { shared = h.shared; members = moved_numbers c p g.members ∙ h.members })
  | inr off ↦ rw off h
]

pub moved_group : (c p : ℕ) (bound : List ℕ) (w : Way) → IfSome (group_in w) (AreMembers bound) → IfSome (group_in (moved_way c p w)) (AreMembers bound)
moved_group c p bound (way.Writers g) h = moved_members c p bound g h
moved_group c p bound way.Readers h = tt
moved_group c p bound (way.Lost alone writer) h = tt

pub grown_group : (n : ℕ) (bound : List ℕ) (w : Way) → IfSome (group_in w) (AreMembers bound) → IfSome (group_in (grown_way n w)) (AreMembers bound)
grown_group n bound (way.Writers g) h = record { shared = h.shared; members = h.members }
grown_group n bound way.Readers h = tt
grown_group n bound (way.Lost alone writer) h = tt

pub resumed_group : (x end : ℕ) (bound : List ℕ) → AreMembers bound (resumed x bound end)
resumed_group x end bound = record { shared = refl; members = first_numbers bound }
