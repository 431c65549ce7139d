-- The order of names by their bytes.
use Rattle.std.{proofs.{Common.{◌≡◌, ℕ, true, false, List, Ordering, refl, sym, ◌∙◌, inl, inr, ◌⊎◌}, lemmas.{Bool.{cases_Bool, false_from_ne_true, true_from_ne_false, both_ways}, Cmp.{nat_list_cmp_total}, List.Sorted.{ranks_by}, Map.Text.{is_eq-slice_cmp}, Slice.Eq.{bytes_eq-Decides}}}, specs.{Ordering.{nat_cmp, is_lt, is_eq, ordering_reverse}, declared.cmp.Ordering.TheVariants.{Less, Equal, Greater}, Cmp.{IsStrictWeakOrder, Lexicographic.{slice_cmp}}, Prelude.{bytes_eq}}}
use Rattle.hc_fields.specs.FieldList.{comes_before}

order : IsStrictWeakOrder comes_before
order = ranks_by nat_list_cmp_total (λ (a : List ℕ). a)

pub one_way : (a b : List ℕ) → comes_before a b ≡ true → comes_before b a ≡ false
one_way = order.one_way

pub irreflexive : (a : List ℕ) → comes_before a a ≡ false
irreflexive a = false_from_ne_true _ (λ e. both_ways _ (one_way a a e) e)

-- not before, and not before: not before
pub chain : (a b c : List ℕ) → comes_before a b ≡ false → comes_before b c ≡ false → comes_before a c ≡ false
chain = order.chain

-- a comes no later than b, and b before c
pub upto_before : (a b c : List ℕ) → comes_before b a ≡ false → comes_before b c ≡ true → comes_before a c ≡ true
upto_before a b c le lt = true_from_ne_false _ (λ e. both_ways _ (chain b a c le e) lt)

-- a comes before b, and b no later than c
pub before_upto : (a b c : List ℕ) → comes_before a b ≡ true → comes_before c b ≡ false → comes_before a c ≡ true
before_upto a b c lt le = true_from_ne_false _ (λ e. both_ways _ (chain a c b e le) lt)

is_eq-between : (o : Ordering) → is_lt o ≡ false → is_lt (ordering_reverse o) ≡ false → is_eq o ≡ true
is_eq-between Less a b = cc
is_eq-between Equal a b = refl
is_eq-between Greater a b = cc

is_eq-less : (o : Ordering) → is_lt o ≡ true → is_eq o ≡ false
is_eq-less Less a = refl
is_eq-less Equal a = cc
is_eq-less Greater a = cc

-- how two names stand to one another
pub record IsBefore (a b : List ℕ) : Type 0 where
  pub lt : comes_before a b ≡ true
  pub back : comes_before b a ≡ false
  pub differs : bytes_eq a b ≡ false

pub record IsAfter (a b : List ℕ) : Type 0 where
  pub gt : comes_before b a ≡ true
  pub not_before : comes_before a b ≡ false
  pub differs : bytes_eq a b ≡ false

pub record IsSame (a b : List ℕ) : Type 0 where
  pub same : a ≡ b
  pub not_before : comes_before a b ≡ false
  pub not_after : comes_before b a ≡ false
  pub equal : bytes_eq a b ≡ true

turned : (a b : List ℕ) → slice_cmp nat_cmp b a ≡ ordering_reverse (slice_cmp nat_cmp a b)
turned a b = nat_list_cmp_total.antisymm b a

same_from_between : (a b : List ℕ) → comes_before a b ≡ false → comes_before b a ≡ false → bytes_eq a b ≡ true
same_from_between a b x y =
    sym (is_eq-slice_cmp a b) ∙ is_eq-between (slice_cmp nat_cmp a b) x (rw (turned a b) at y)

pub differs_from_before : (a b : List ℕ) → comes_before a b ≡ true → bytes_eq a b ≡ false
differs_from_before a b x = sym (is_eq-slice_cmp a b) ∙ is_eq-less (slice_cmp nat_cmp a b) x

pub bytes_eq-swap : (a b : List ℕ) → bytes_eq a b ≡ false → bytes_eq b a ≡ false
bytes_eq-swap a b h =
    false_from_ne_true _ (λ e. both_ways _ h ((bytes_eq-Decides a b).1 (sym ((bytes_eq-Decides b a).0 e))))

pub cases_names : (a b : List ℕ) → IsBefore a b ⊎ (IsSame a b ⊎ IsAfter a b)
cases_names a b =
    elim (cases_Bool (comes_before a b)) [
      | inl lt ↦ inl (record { lt = lt; back = one_way a b lt; differs = differs_from_before a b lt })
      | inr not_before ↦
          inr
          (elim (cases_Bool (comes_before b a)) [
            | inl gt ↦
                inr (record { gt = gt; not_before = not_before; differs = bytes_eq-swap b a (differs_from_before b a gt) })
            | inr not_after ↦
                let equal = same_from_between a b not_before not_after in
                inl (record { same = (bytes_eq-Decides a b).0 equal; not_before = not_before; not_after = not_after; equal = equal })
          ])
    ]
