-- The least of a list is one of it, and none is less.
use Rattle.std.{proofs.{lemmas.{Bool.{cases_Bool, cases_lt, Decides.{nat_tests}}, List.Elements.{All-cons, All-nil}}, Common.{◌≡◌, ◌≢◌, ℕ, zero, suc, ◌≤◌, Bool, true, cond, min, List, [], ◌∷◌, map, get_or, Option, Some, None, refl, inl, inr, arith}}, specs.Prelude.{All, Contains, filter}}
use Rattle.hc_text.proofs.Basics.{either}
use Rattle.hc_rules.specs.{declared.{survivor.Member.{Member}, admission.Bound.{Bound}}, Admissions.{admission_of, beside_group, beside_exclusive, with_holes, is_of, numbers, least_of, least_bound, least, lesser, stands_at}, Laws.{IsLeastOf, SurvivorsAreLeast, IsRightAdmission, AdmissionsAreRight, those}}
use Rattle.hc_rules.specs.declared.admission.BoundKind.TheVariants as kind
use Rattle.hc_rules.specs.declared.admission.Admission.TheVariants as admission

contains-here : (n : ℕ) (ns : List ℕ) → Contains (n ∷ ns) n
contains-here n ns = (0, omega arith, refl)

contains-there : (m n : ℕ) (ns : List ℕ) → Contains ns n → Contains (m ∷ ns) n
contains-there m n ns h = let (k, within, is) = h in (suc k, omega arith, is)

less-all : (m n : ℕ) (ns : List ℕ) → m ≤ n → All (λ x. n ≤ x) ns → All (λ x. m ≤ x) ns
less-all m n ns up h k d within = let e : n ≤ get_or ns k d = h k d within in omega arith

-- the lesser of the least of the others and the first
least-cons : (n : ℕ) (ns : List ℕ) (o : Option ℕ) → IsLeastOf ns o → IsLeastOf (n ∷ ns) (lesser o n)
least-cons n ns None none = rw none (contains-here n [], All-cons (λ x. n ≤ x) n [] (omega arith) (All-nil (λ x. n ≤ x)))
least-cons n ns (Some m) h = elim (cases_lt n m) [
  | inl below ↦
      let e : min m n ≡ n = omega arith in
      rw e (contains-here n ns, All-cons (λ x. n ≤ x) n ns (omega arith) (less-all n m ns (omega arith) h.1))
  | inr above ↦
      let e : min m n ≡ m = omega arith in
      rw e (contains-there n m ns h.0, All-cons (λ x. m ≤ x) n ns above h.1)
]

pub least-is : (ns : List ℕ) → IsLeastOf ns (least ns)
least-is [] = refl
least-is (n ∷ ns) = least-cons n ns (least ns) (least-is ns)

pub survivors-least : SurvivorsAreLeast
survivors-least end members = least-is (map (λ (m : Member). m.c) (filter (stands_at end) members))

front-or : (m n : ℕ) (xs ys : List ℕ) → (Contains xs n → Contains ys n) → Contains (m ∷ xs) n → Contains (m ∷ ys) n
front-or m n xs ys later (zero, within, is) = (0, omega arith, is)
front-or m n xs ys later (suc k, within, is) = contains-there m n ys (later (k, omega arith, is))

-- who is bound in some way is bound
contains-filter : (p : Bound → Bool) (bound : List Bound) (n : ℕ) → Contains (those p bound) n → Contains (numbers bound) n
contains-filter p [] n h = h
contains-filter p (b ∷ bound) n h = elim (cases_Bool (p b)) [
  | inl passes ↦ front-or b.c n (those p bound) (numbers bound) (contains-filter p bound n) (rw passes at h)
  | inr fails ↦ contains-there b.c n (numbers bound) (contains-filter p bound n (rw fails at h))
]

not_empty : (ns : List ℕ) (n : ℕ) → Contains ns n → ns ≢ []
not_empty ns n h e = grind (arith, nat_tests)

none-bound : (bound : List Bound) → numbers bound ≡ [] → bound ≡ []
none-bound [] e = refl
none-bound (b ∷ bound) e = absurd (cc)

holes-right : (bound : List Bound) (ranged holes : Bool) (o : Option ℕ) → holes ≡ true → IsLeastOf (numbers bound) o →
    IsRightAdmission bound ranged holes (with_holes o)
holes-right bound ranged holes None there h = (there, none-bound bound h)
holes-right bound ranged holes (Some d) there h = h.0

exclusive-right : (bound : List Bound) (ranged holes : Bool) (o : Option ℕ) → those (is_of kind.Shared) bound ≡ [] →
    IsLeastOf (those (is_of kind.Exclusive) bound) o
    → IsRightAdmission bound ranged holes (beside_exclusive o (cond holes (with_holes (least_bound bound)) admission.Reader))
exclusive-right bound ranged holes None none h = grind (arith, nat_tests, either, holes-right, least-is)
exclusive-right bound ranged holes (Some d) none h = contains-filter (is_of kind.Exclusive) bound d h.0

writer_group-right : (bound : List Bound) (ranged holes : Bool) (o : Option ℕ) → IsLeastOf (those (is_of kind.Shared) bound) o
    → IsRightAdmission bound ranged holes
    (beside_group o ranged (beside_exclusive (least_of kind.Exclusive bound) (cond holes (with_holes (least_bound bound)) admission.Reader)))
writer_group-right bound ranged holes None h =
    exclusive-right bound ranged holes (least_of kind.Exclusive bound) h (least-is (those (is_of kind.Exclusive) bound))
writer_group-right bound ranged holes (Some d) h =
    either (IsRightAdmission bound ranged holes) ranged _ _
    (λ part. contains-filter (is_of kind.Shared) bound d h.0)
    (λ whole. (whole, not_empty (those (is_of kind.Shared) bound) d h.0))

pub admissions-right : AdmissionsAreRight
unfolding admission_of
admissions-right bound ranged holes = writer_group-right bound ranged holes (least_of kind.Shared bound) (least-is (those (is_of kind.Shared) bound))
