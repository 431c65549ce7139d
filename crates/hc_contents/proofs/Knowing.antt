-- Where numbers stand last, item by item.
--
-- A table tells of each number where it stands last, so whether it stands from a place on. With one more item, whose
-- number is updated, it tells so of the longer list (`reports_more`): before the end by the old table and the item, and
-- at the end of nothing, since no place is behind the last (`below`). The list of the code is that of plain items
-- (`take_reported`), so the loop keeps this (`reports_next`) up to its end (`reports_all`). A set of keys grows by one too.
use Rattle.std.{proofs.{Common.{◌≡◌, ◌⊎◌, inl, inr, ℕ, zero, suc, ◌+◌, ◌<◌, ◌≤◌, min, map, List, [], ◌∷◌, ◌++◌, length, take, drop, get_or, Bool, true, false, cond, Option, Some, None, refl, ap, sym, ◌∙◌, subst, arith, length-append, take_all}, lemmas.{Bool.Decides.{nat_tests}, List.{drop_all, length-take, length-map, Folds.{list_any-append}, Sorted.{list_any-IsPermutation}}, Cmp.{nat_list_eq_equiv}, Slice.Eq.{bytes_eq-Decides}}}, specs.{Prelude.{nat_eq, nat_le, ◌==◌, ◌||◌, Vec, bytes_eq, not}, List.{list_any}, Global.{Global}, Cmp.Lexicographic.{pointwise}, HashSet.{HashSet, contains, contains_by, PutsKey}}}
use Rattle.hc_text.proofs.Basics.{or_false as or_none}
use Rattle.hc_sparse.specs.declared.run.Run.{Run}
use Rattle.hc_model.specs.{Beginnings.{says}, Entries.{Content}}
use Rattle.hc_contents.specs.declared.contents.Content as coded
use Rattle.hc_contents.specs.{Known.{KnowsLast, is_from}, PlainContents.{plain_item}}

drop_append : {A : Type 0} (i : ℕ) (xs ys : List A) → i ≤ length xs → drop i (xs ++ ys) ≡ drop i xs ++ ys
drop_append zero xs ys le = refl
drop_append (suc i) [] ys le = absurd (let no_such : suc i ≤ 0 = le in omega arith)
drop_append (suc i) (x ∷ xs) ys le = drop_append i xs ys (omega arith)

module _ (last now : ℕ → Option ℕ) (items : List Content) (item : Content) (reports : KnowsLast last items)
    (updates : (x : ℕ) → now x ≡ cond (nat_eq item.r x) (Some (length items)) (last x)) where
  one_more : length (items ++ item ∷ []) ≡ length items + 1
  one_more = length-append items (item ∷ []) ∙ refl

  -- no place is behind the last
  below : (x : ℕ) → is_from (length items) (last x) ≡ false
  below x = let none : drop (length items) items ≡ [] = drop_all (length items) items (omega arith) in reports x (length items) (omega arith) ∙
      ap (list_any (λ (other : Content). other.r == x)) none

  still : (x : ℕ) (o : Option ℕ) → is_from (length items) o ≡ false → is_from (length items + 1) o ≡ false
  still x None off = refl
  still x (Some p) off = grind (arith, nat_tests)

  at_end : (x : ℕ) (b : Bool) → nat_eq item.r x ≡ b → is_from (length items + 1) (cond b (Some (length items)) (last x)) ≡ false
  at_end x true is = grind (arith, nat_tests)
  at_end x false is = still x (last x) (below x)

  inside : (x i : ℕ) (b : Bool) → i ≤ length items → nat_eq item.r x ≡ b →
      is_from i (cond b (Some (length items)) (last x)) ≡ (list_any (λ (other : Content). other.r == x) (drop i items) || (b || false))
  inside x i true le is = (let there : nat_le i (length items) ≡ true = grind (arith, nat_tests) in there) ∙
      or_true (list_any (λ (other : Content). other.r == x) (drop i items))
    where
      or_true : (b : Bool) → true ≡ (b || true)
      or_true true = refl
      or_true false = refl
  inside x i false le is = reports x i le ∙ sym (or_none (list_any (λ (other : Content). other.r == x) (drop i items)))

  in_or_at : (i : ℕ) → i ≤ length items + 1 → (i ≤ length items) ⊎ (i ≡ length items + 1)
  in_or_at i le = grind arith

  pub reports_more : KnowsLast now (items ++ item ∷ [])
  reports_more x i le = elim (in_or_at i (let n = one_more in omega arith)) [
    | inl before ↦
        ap (is_from i) (updates x) ∙ (inside x i (nat_eq item.r x) before refl
        ∙ (sym (list_any-append (λ (other : Content). other.r == x) (drop i items) (item ∷ []))
        ∙ ap (list_any (λ (other : Content). other.r == x)) (sym (drop_append i items (item ∷ []) before))))
    | inr end ↦
        ap (is_from i) (updates x)
        ∙ (ap (λ n. is_from n (cond (nat_eq item.r x) (Some (length items)) (last x))) end
        ∙ (at_end x (nat_eq item.r x) refl
        ∙ ap (list_any (λ (other : Content). other.r == x)) (sym (drop_all i (items ++ item ∷ []) (let n = one_more in omega arith)))))
  ]

-- AT EACH ITEM

-- as far as the next item
pub take_reported : (items : List coded.Content) (i : ℕ) (item : coded.Content) → i < length items → item ≡ get_or items i item →
    take (suc i) (map plain_item items) ≡ take i (map plain_item items) ++ plain_item item ∷ []
take_reported [] i item lt is = absurd (let none : i < 0 = lt in omega arith)
take_reported (x ∷ xs) zero item lt is = ap (λ (y : coded.Content). plain_item y ∷ []) (sym is)
take_reported (x ∷ xs) (suc i) item lt is = ap (λ (ys : List Content). plain_item x ∷ ys) (take_reported xs i item (omega arith) is)

pub reports_none : (last : ℕ → Option ℕ) → ((x : ℕ) → last x ≡ None) → KnowsLast last []
reports_none last none x i le = rw (none x) (ap (list_any (λ (other : Content). other.r == x)) (sym (drop_all i [] (omega arith))))

pub reports_next : (last now : ℕ → Option ℕ) (items : List coded.Content) (i : ℕ) (item : coded.Content) → i < length items → item ≡ get_or items i item →
    KnowsLast last (take i (map plain_item items))
    → ((x : ℕ) → now x ≡ cond (nat_eq item.r x) (Some i) (last x)) → KnowsLast now (take (i + 1) (map plain_item items))
reports_next last now items i item lt is reports updates =
    let next : i + 1 ≡ suc i = omega arith in
    let all : length (map plain_item items) ≡ length items = length-map items plain_item in
    let count : length (take i (map plain_item items)) ≡ i =
    (let some : length (take i (map plain_item items)) ≡ min i (length (map plain_item items)) = length-take i (map plain_item items) in omega arith) in
    subst (KnowsLast now) (sym (ap (λ n. take n (map plain_item items)) next ∙ take_reported items i item lt is))
    (reports_more last now (take i (map plain_item items)) (plain_item item) reports
    (λ x. updates x ∙ ap (λ n. cond (nat_eq item.r x) (Some n) (last x)) (sym count)))

pub reports_all : (last : ℕ → Option ℕ) (items : List coded.Content) (i : ℕ) → length items ≤ i → KnowsLast last (take i (map plain_item items)) →
    KnowsLast last (map plain_item items)
reports_all last items i le reports =
    subst (KnowsLast last) (take_all i (map plain_item items)
    (let all : length (map plain_item items) ≡ length items = length-map items plain_item in omega arith)) reports

-- ITS KEY

abbrev is_same : Vec ℕ Global → Vec ℕ Global → Bool
is_same x y = pointwise nat_eq x.items y.items

-- the set has the key that was put, and those that it had
pub key_added : {S : Type 0} (old new : HashSet (Vec ℕ Global) S) (put : Vec ℕ Global) (added : Bool) → added ≡ not (contains is_same old put) →
    PutsKey old new put added
    → (key : List ℕ) → contains_by (λ (stored : Vec ℕ Global). bytes_eq key stored.items)
    new ≡ (bytes_eq put.items key || contains_by (λ (stored : Vec ℕ Global). bytes_eq key stored.items) old)
key_added old new put true is puts key =
    sym (list_any-IsPermutation (λ (stored : Vec ℕ Global). bytes_eq key stored.items) (put ∷ old.keys) new.keys puts)
    ∙ ap (λ b. b || list_any (λ (stored : Vec ℕ Global). bytes_eq key stored.items) old.keys) (nat_list_eq_equiv.symm key put.items)
key_added old new put false is puts key = by_test (bytes_eq put.items key) refl
  where
    has : List ℕ → Bool
    has k = list_any (λ (stored : Vec ℕ Global). bytes_eq k stored.items) old.keys

    there : has put.items ≡ true
    there = not_false (has put.items) (sym is)
      where
        not_false : (b : Bool) → not b ≡ false → b ≡ true
        not_false true e = refl
        not_false false e = sym e

    by_test : (b : Bool) → bytes_eq put.items key ≡ b → list_any (λ (stored : Vec ℕ Global). bytes_eq key stored.items) new.keys ≡ (b || has key)
    by_test false at = ap (list_any (λ (stored : Vec ℕ Global). bytes_eq key stored.items)) puts
    by_test true at =
        ap (list_any (λ (stored : Vec ℕ Global). bytes_eq key stored.items)) puts
        ∙ subst (λ (k : List ℕ). has k ≡ true) ((bytes_eq-Decides put.items key).0 at) there

-- ITS NUMBERS

-- a number is said by the item, or by an earlier one
pub said_more : (item : Content) (earlier : List Content) (x : ℕ) (was mid now : Bool) → was ≡ list_any (says x) earlier → mid ≡ cond (nat_eq item.r x) true was
    → now ≡ (list_any (λ (run : Run). run.x == x) item.runs || mid) → now ≡ (says x item || list_any (says x) earlier)
said_more item earlier x was mid now before here runs =
    runs ∙ ap (λ b. list_any (λ (run : Run). run.x == x) item.runs || b) (here ∙ ap (cond (nat_eq item.r x) true) before)
    ∙ by_bools (nat_eq item.r x) (list_any (λ (run : Run). run.x == x) item.runs) (list_any (says x) earlier)
  where
    by_bools : (r a w : Bool) → (a || cond r true w) ≡ ((r || a) || w)
    by_bools true true w = refl
    by_bools true false w = refl
    by_bools false true w = refl
    by_bools false false w = refl
