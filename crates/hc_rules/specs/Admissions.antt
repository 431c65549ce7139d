-- How a consumer may be bound to a representation beside those that are.
use Rattle.std.specs.Prelude.{ℕ, Bool, true, false, List, map, filter, if◌then◌else◌, Option, Some, None, ◌==◌, min, [], ◌∷◌}
use Rattle.hc_rules.specs.declared.admission.Bound.{Bound}
use Rattle.hc_rules.specs.declared.admission.BoundKind.{BoundKind}
use Rattle.hc_rules.specs.declared.admission.BoundKind.TheVariants as kind
use Rattle.hc_rules.specs.declared.admission.Admission.{Admission}
use Rattle.hc_rules.specs.declared.admission.Admission.TheVariants as admission
use Rattle.hc_rules.specs.declared.survivor.Member.{Member}

-- The least of some numbers.

-- the lesser of the two, or the one that there is
abbrev pub lesser : Option ℕ → ℕ → Option ℕ
lesser None b = Some b
lesser (Some a) b = Some (min a b)

-- the least of the list, if it isn't empty
abbrev pub least : List ℕ → Option ℕ
least [] = None
least (n ∷ ns) = lesser (least ns) n

-- The detached reader of a representation that is lost while several write it together.

abbrev pub stands_at : ℕ → Member → Bool
stands_at end m = m.offset == end

-- the least member that stands at this position
abbrev pub survivor_at : ℕ → List Member → Option ℕ
survivor_at end members = least (map (λ (m : Member). m.c) (filter (stands_at end) members))

abbrev pub is_same_kind : BoundKind → BoundKind → Bool
is_same_kind kind.Shared kind.Shared = true
is_same_kind kind.Exclusive kind.Exclusive = true
is_same_kind kind.Reader kind.Reader = true
is_same_kind _ _ = false

abbrev pub is_of : BoundKind → Bound → Bool
is_of kind b = is_same_kind b.kind kind

abbrev pub numbers : List Bound → List ℕ
numbers bound = map (λ (b : Bound). b.c) bound

-- the least consumer that is bound in this way
abbrev pub least_of : BoundKind → List Bound → Option ℕ
least_of kind bound = least (numbers (filter (is_of kind) bound))

abbrev pub least_bound : List Bound → Option ℕ
least_bound bound = least (numbers bound)

-- where there are holes, none may be bound already
abbrev pub with_holes : Option ℕ → Admission
with_holes None = admission.Exclusive
with_holes (Some d) = admission.Behind d

-- beside an exclusive writer nobody is bound
abbrev pub beside_exclusive : Option ℕ → Admission → Admission
beside_exclusive None other = other
beside_exclusive (Some d) other = admission.Behind d

-- of a writer group one is a member, but for who wants a range
abbrev pub beside_group : Option ℕ → Bool → Admission → Admission
beside_group None ranged other = other
beside_group (Some d) ranged other = if ranged then admission.Behind d else admission.Shared

unfoldable pub admission_of : List Bound → Bool → Bool → Admission
admission_of bound ranged holes =
    beside_group (least_of kind.Shared bound) ranged
    (beside_exclusive (least_of kind.Exclusive bound)
    (if holes then with_holes (least_bound bound) else admission.Reader))
