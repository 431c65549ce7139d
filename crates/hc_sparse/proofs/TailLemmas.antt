-- Extents that stand one behind another, and what stands behind one.
use Rattle.std.proofs.{lemmas.Bool.Decides.{nat_tests}, Common.{◌≡◌, ◌≢◌, inl, inr, ℕ, ◌+◌, ◌-◌, ◌<◌, ◌≤◌, Option, None, Some, arith}}
use Rattle.hc_text.proofs.Basics.{lt_or as split}
use Rattle.hc_sparse.specs.{Extents.{Mark, Marks, longer_extent, Follows, IsExtentAt, IsWhole}, declared.extents.Extent.{Extent}}

-- Extents whose positions and bytes stand one behind another are one.
pub extents-join : (f : Marks) (p : ℕ) (e next : Extent) → IsExtentAt f p e → IsExtentAt f (e.at + e.len) next → Follows e next →
    IsExtentAt f p (longer_extent e next.len)
extents-join f p e next is on follows =
    let at = is.at in
    let some = is.some in
    let end = on.end in
    let begins = on.at in
    record {
      at = at;
      some = omega arith;
      end = omega arith;
      each = λ i lt. elim (split i e.len) [
        | inl here ↦ is.each i here
        | inr past ↦
            let place : e.at + e.len + (i - e.len) ≡ p + i = omega arith in
            let byte : next.from + (i - e.len) ≡ e.from + i = (let behind = follows.2 in omega arith) in
            rw follows.0 (rw (place, byte) at (on.each (i - e.len) (omega arith)))
      ];
    }

-- Whose a position is.
abbrev mark_x : Option Mark → ℕ
mark_x None = 0
mark_x (Some own) = own.x

-- Behind an extent nothing stands.
pub ends-none : (f : Marks) (p : ℕ) (e : Extent) → e.at ≡ p → f (e.at + e.len) ≡ None → (place : ℕ) → f (p + e.len) ≢ Some (record { x = e.x; place = place })
ends-none f p e at none place there = grind (arith, nat_tests)

-- Behind an extent another exchange's stands.
pub ends-other : (f : Marks) (p : ℕ) (e next : Extent) → e.at ≡ p → IsExtentAt f (e.at + e.len) next → next.x ≢ e.x → (place : ℕ) →
    f (p + e.len) ≢ Some (record { x = e.x; place = place })
ends-other f p e next at on other place there = grind (arith, nat_tests)

-- The first positions of an extent that ends its exchange's, or all.
pub whole-of : (f : Marks) (p want n : ℕ) (e : Extent) → IsExtentAt f p e → 0 < want → n ≤ e.len → n ≤ want → (n < want → n ≡ e.len) → 0 < n →
    (e.len < want → (place : ℕ) → f (p + e.len) ≢ Some (record { x = e.x; place = place })) → IsWhole f p want (record e { len = n })
whole-of f p want n e is wanted most fits all some ends = grind (arith, nat_tests)
