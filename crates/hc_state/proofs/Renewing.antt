-- A renewed head is one that can be stored.
use Rattle.std.{proofs.{Common.{◌≡◌, ℕ, ◌<◌, ◌≤◌, ◌^◌, length, true, Option, Some, refl, ap, ap₂, sym, ◌∙◌, subst, arith}, lemmas.Bool.Decides.{nat_tests}}, specs.Prelude.{codes, nat_eq, nat_le, option_map, if◌then◌else◌}}
use Rattle.hc_text.proofs.Basics.{and_left, and_right, some_inj as some_is}
use Rattle.hc_fields.specs.FieldList.{IsFieldList, IsWithinLimits, size_of}
use Rattle.hc_record.specs.Head.{Head, IsHead, one_strong_opaque}
use Rattle.hc_validate.specs.Updates.{is_within_limits, updated_fields, FieldPairs}
use Rattle.hc_effects.proofs.FieldsKeep.{values_kept, within_limits_kept}
use Rattle.hc_stored.specs.{Kept.{Kept, with_head}, Shelf.{Shelf, Becomes, Stays, head_at, same_order}}
use Rattle.hc_exch.specs.{declared.row.{Open.{Open}, Opening.{Opening}}, Known.{begins_with}, Openings.{opened_with}}
use Rattle.hc_state.specs.Renewals.{renewed_head, Renews}

within_limits_test : (fields : FieldPairs) → IsWithinLimits fields → is_within_limits fields ≡ true
within_limits_test fields is = grind (arith, nat_tests)

within_limits_reported : (fields : FieldPairs) → is_within_limits fields ≡ true → IsWithinLimits fields
within_limits_reported fields on =
    let first : nat_le (length fields) 64 ≡ true = and_left _ _ on in
    let second : nat_le (size_of fields) 32768 ≡ true = and_right (nat_le (length fields) 64) _ on in
    record { few = grind (arith, nat_tests, first); small = grind (arith, nat_tests, second) }

pub renewed_is : (head : Head) (requested answered : ℕ) (from : FieldPairs) → IsHead head → requested < 2 ^ 62 → answered < 2 ^ 62 →
    IsFieldList (updated_fields head.fields from) → IsHead (renewed_head requested answered from head)
renewed_is head requested answered from is asked came list = record {
  known_status = is.known_status;
  small_total = is.small_total;
  small_requested = asked;
  small_answered = came;
  own_joining = is.own_joining ∙ ap one_strong_opaque (sym (values_kept (codes "etag") refl head.fields from));
  vary_list = is.vary_list;
  list = list;
  within_limits = within_limits_reported (updated_fields head.fields from)
      (within_limits_kept head.fields from (within_limits_test head.fields is.within_limits));
}

-- when it was opened
pub opened_moment : (op : Opening) (running : Option Open) (o : Open) → Some (opened_with op) ≡ option_map begins_with running → running ≡ Some o →
    op.moment ≡ o.moment
opened_moment op running o is at = grind (arith, nat_tests)

-- a renewed head is what is kept then
pub renewed_by : (a b : Shelf) (r requested moment now : ℕ) (from : FieldPairs) (old new : Head) → new ≡ renewed_head requested now from old →
    requested ≡ moment → Becomes (option_map (with_head new)) same_order r a b →
    Becomes (option_map (with_head (renewed_head moment now from old))) same_order r a b
renewed_by a b r requested moment now from old new is opened becomes =
    subst (λ (h : Head). Becomes (option_map (with_head h)) same_order r a b) (is ∙ ap (λ (m : ℕ). renewed_head m now from old) opened) becomes

-- the head that is kept
pub head_is : (a : Shelf) (r : ℕ) (old : Head) (k : Kept) → head_at a r ≡ Some old → a.kept r ≡ Some k → old ≡ k.head
head_is a r old k its at = some_is old k.head (sym its ∙ ap (option_map (λ (e : Kept). e.head)) at)

-- where all stayed before
pub after_stays : (f : Option Kept → Option Kept) (a b c : Shelf) (r : ℕ) → Stays a b → Becomes f same_order r b c → Becomes f same_order r a c
after_stays f a b c r stays becomes = record {
  kept = λ q. becomes.kept q ∙ ap₂ (λ (x y : Option Kept). if nat_eq r q then f x else y) (stays.kept r) (stays.kept q);
  order = becomes.order ∙ stays.order;
  limits = becomes.limits ∙ stays.limits;
}

-- the head that was read is renewed
pub renews_read : (a b c : Shelf) (r moment now : ℕ) (from : FieldPairs) (old : Head) → head_at a r ≡ Some old → Stays a b →
    Becomes (option_map (with_head (renewed_head moment now from old))) same_order r b c → Renews moment now from r a c
renews_read a b c r moment now from old its stays becomes = λ k at.
    subst (λ (h : Head). Becomes (option_map (with_head (renewed_head moment now from h))) same_order r a c) (head_is a r old k its at)
    (after_stays (option_map (with_head (renewed_head moment now from old))) a b c r stays becomes)
