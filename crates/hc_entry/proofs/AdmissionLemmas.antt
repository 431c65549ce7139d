-- How one more may be bound, where all are bound in one way.
use Rattle.std.{proofs.{Common.{◌≡◌, ℕ, List, [], ◌∷◌, map, Bool, true, false, ltb, Some, None, refl, ap, ◌∙◌, arith}, lemmas.Bool.{and_parts, ltb-true}}, specs.Prelude.{filter, min}}
use Rattle.hc_text.specs.Sorted.{above, is_sorted, itself}
use Rattle.hc_rules.specs.{declared.admission.{Bound.{Bound}, BoundKind.{BoundKind}}, Admissions.{is_same_kind, is_of, numbers, least_of, least_bound, admission_of, lesser, least}}
use Rattle.hc_rules.specs.declared.admission.BoundKind.TheVariants as kind
use Rattle.hc_entry.specs.Used.{bound_as, first_of, admission_by}

module _ (way : BoundKind) where
  numbers-map : (cs : List ℕ) → numbers (map (bound_as way) cs) ≡ cs
  numbers-map [] = refl
  numbers-map (c ∷ cs) = ap (λ (l : List ℕ). c ∷ l) (numbers-map cs)

  -- all are of the way, or none is
  filter-same : (other : BoundKind) (cs : List ℕ) → is_same_kind way other ≡ true → filter (is_of other) (map (bound_as way) cs) ≡ map (bound_as way) cs
  filter-same other [] same = refl
  filter-same other (c ∷ cs) same = rw same (ap (λ (l : List Bound). bound_as way c ∷ l) (filter-same other cs same))

  filter-other : (other : BoundKind) (cs : List ℕ) → is_same_kind way other ≡ false → filter (is_of other) (map (bound_as way) cs) ≡ []
  filter-other other [] off = refl
  filter-other other (c ∷ cs) off = rw off (filter-other other cs off)

least-above : (m : ℕ) (cs : List ℕ) → above itself m cs ≡ true → lesser (least cs) m ≡ Some m
least-above m [] up = refl
least-above m (c ∷ cs) up =
    let (first, rest) = and_parts (ltb m c) (above itself c cs) up in
    let h = ltb-true m c first in
    let here = least-above c cs rest in
    rw here (ap Some (let e : min c m ≡ m = omega arith in e))

-- the least of those whose numbers rise is the first
pub least-ascending : (cs : List ℕ) → is_sorted itself cs ≡ true → least cs ≡ first_of cs
least-ascending [] up = refl
least-ascending (c ∷ cs) up = least-above c cs up

pub least_bound-map : (way : BoundKind) (cs : List ℕ) → is_sorted itself cs ≡ true → least_bound (map (bound_as way) cs) ≡ first_of cs
least_bound-map way cs up = ap least (numbers-map way cs) ∙ least-ascending cs up

pub least_of-same : (way other : BoundKind) (cs : List ℕ) → is_same_kind way other ≡ true → is_sorted itself cs ≡ true →
    least_of other (map (bound_as way) cs) ≡ first_of cs
least_of-same way other cs same up = ap (λ (l : List Bound). least (numbers l)) (filter-same way other cs same) ∙ least_bound-map way cs up

pub least_of-other : (way other : BoundKind) (cs : List ℕ) → is_same_kind way other ≡ false → least_of other (map (bound_as way) cs) ≡ None
least_of-other way other cs off = ap (λ (l : List Bound). least (numbers l)) (filter-other way other cs off)

-- how one more may be bound
pub admission-map : (way : BoundKind) (cs : List ℕ) (ranged holes : Bool) → is_sorted itself cs ≡ true →
    admission_by way (first_of cs) ranged holes ≡ admission_of (map (bound_as way) cs) ranged holes
unfolding admission_of
admission-map way [] ranged true up = refl
admission-map way [] ranged false up = refl
admission-map kind.Shared (c ∷ cs) ranged holes up = rw (least_of-same kind.Shared kind.Shared (c ∷ cs) refl up) refl
admission-map kind.Exclusive (c ∷ cs) ranged holes up =
    rw (least_of-other kind.Exclusive kind.Shared (c ∷ cs) refl, least_of-same kind.Exclusive kind.Exclusive (c ∷ cs) refl up) refl
admission-map kind.Reader (c ∷ cs) ranged true up =
    rw (
      least_of-other kind.Reader kind.Shared (c ∷ cs) refl,
      least_of-other kind.Reader kind.Exclusive (c ∷ cs) refl,
      least_bound-map kind.Reader (c ∷ cs) up,
    ) refl
admission-map kind.Reader (c ∷ cs) ranged false up =
    rw (least_of-other kind.Reader kind.Shared (c ∷ cs) refl, least_of-other kind.Reader kind.Exclusive (c ∷ cs) refl) refl
