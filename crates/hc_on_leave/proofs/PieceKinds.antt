-- How much is stored of a representation with a piece more.
use Rattle.std.{proofs.{Common.{◌≡◌, ℕ, ◌+◌, ◌<◌, ◌≤◌, ◌^◌, List, length, Bool, true, false, Option, Some, None, refl, ◌∙◌, subst, arith}, lemmas.Bool.Decides.{nat_tests}}, specs.Prelude.{nat_lt, nat_le, option_map, ◌&&◌, ◌↔◌, IsTrue, if◌then◌else◌}}
use Rattle.hc_text.proofs.Basics.{some_inj as some_is}
use Rattle.hc_record.specs.declared.kind.Kind.TheVariants as kind
use Rattle.hc_sparse.specs.Cells.{Covers, inside, cells_with}
use Rattle.hc_sparse.proofs.SizeLemmas.{size-le}
use Rattle.hc_stored.specs.{declared.view.EntryView.{EntryView}, Kept.{Kept}, Shelf.{Shelf, cells_in, cells_at}, Views.{view_of}}
use Rattle.hc_effects.proofs.Vocabulary.{is_complete, is_prefix, Representation}
use Rattle.hc_effects.proofs.Tests.{none_some}
use Rattle.hc_state.specs.{Pieces.{larger_view}, Stops.{IsViewOf, kind_left}}
use Rattle.hc_state.proofs.StoredKinds.{complete_as, incomplete_as, front_as}

-- behind the piece it brings nothing
pub outside_behind : (at p : ℕ) (bytes : List ℕ) → at + length bytes ≤ p → inside at (length bytes) p ≡ false
outside_behind at p bytes le = grind (arith, nat_tests)

-- WHAT IS TOLD

-- no more is stored than there are positions
pub entry_small : (o : Option Kept) (e : EntryView) → option_map view_of o ≡ Some e → e.size ≤ 2 ^ 62
entry_small None e is = none_some e is
entry_small (Some k) e is = subst (λ (z : EntryView). z.size ≤ 2 ^ 62) (some_is (view_of k) e is) (size-le k.cells)

pub none_reported : (o : Option ℕ) → ((n : ℕ) → o ≡ Some n → ⊥) → o ≡ None
none_reported o off = grind (arith, nat_tests)

-- ITS KIND

module _ (s : Shelf) (r at x count : ℕ) (bytes : List ℕ) (v : Representation) (k : Kept) (same : length bytes ≡ count) (kept : s.kept r ≡ Some k)
    (is : IsViewOf v (cells_with at x bytes k.cells) (larger_view count (view_of k))) where
  covered : (b : Bool) (end : ℕ) → ((x : ℕ) (bytes : List ℕ) → length bytes ≡ count → IsTrue b ↔ Covers (cells_with at x bytes (cells_at s r)) 0 end) →
      IsTrue b ↔ Covers (cells_with at x bytes k.cells) 0 end
  covered b end reports = subst (λ (o : Option Kept). IsTrue b ↔ Covers (cells_with at x bytes (λ p. cells_in o p)) 0 end) kept (reports x bytes same)

  pub complete_with : (b : Bool) (total : ℕ) → k.head.total ≡ Some total →
      ((x : ℕ) (bytes : List ℕ) → length bytes ≡ count → IsTrue b ↔ Covers (cells_with at x bytes (cells_at s r)) 0 total) → b ≡ is_complete v
  complete_with b total known reports = complete_as v (cells_with at x bytes k.cells) (larger_view count (view_of k)) is b total known (covered b total reports)

  pub incomplete_with : k.head.total ≡ None → false ≡ is_complete v
  incomplete_with none = incomplete_as v (cells_with at x bytes k.cells) (larger_view count (view_of k)) is none

  pub front_with : (b : Bool) (end : ℕ) → 0 < end → end ≡ (view_of k).size + count →
      ((x : ℕ) (bytes : List ℕ) → length bytes ≡ count → IsTrue b ↔ Covers (cells_with at x bytes (cells_at s r)) 0 end) → b ≡ is_prefix v
  front_with b end some grows reports =
      front_as v (cells_with at x bytes k.cells) (larger_view count (view_of k)) is b (subst (λ n. 0 < n) grows some)
      (subst (λ (n : ℕ). IsTrue b ↔ Covers (cells_with at x bytes k.cells) 0 n) grows (covered b end reports))

pub is_whole : (v : Representation) → is_complete v ≡ true → kind.Whole ≡ kind_left v
is_whole v on = rw on refl

pub is_truncated : (v : Representation) → is_complete v ≡ false → is_prefix v ≡ true → kind.Truncated ≡ kind_left v
is_truncated v off on = rw (off, on) refl

pub is_parts : (v : Representation) → is_complete v ≡ false → is_prefix v ≡ false → kind.Ranges ≡ kind_left v
is_parts v off none = rw (off, none) refl
