-- What a call of a map leaves, and what holds wherever there is some past.
use Rattle.std.{proofs.{Common.{◌≡◌, ◌≢◌, inl, inr, ℕ, ◌+◌, ◌<◌, ◌≤◌, ◌^◌, List, [], ◌∷◌, ◌++◌, Bool, true, false, Option, Some, None, Bor, refl, ap, sym, ◌∙◌, arith}, lemmas.{Bool.Decides.{nat_tests}, Grind.{not_there}, List.{append_assoc}}}, specs.{Prelude.{is_some, nat_eq, nat_lt, option_map, if◌then◌else◌, IsSomeAnd, IfSome}, Option.{option_copied}, HashMap.{get, get_by, hash_map_len, UpdatesBy}}}
use Rattle.hc_text.proofs.Basics.{eqb-other, eqb-same, same_or}
use Rattle.hc_range.specs.{declared.range.{RangeSpec.{RangeSpec, TheVariants.{the_data as asked}}, Span.{Span}}, Spans.{IsInOrder, IsWithin}}
use Rattle.hc_effects.proofs.Vocabulary.{Act}
use Rattle.hc_entry.specs.Lines.{is_held_by}
use Rattle.hc_state.specs.Changes.{Numbered, ChangesAt, BecomesAt, one}

-- MAPS

pub removed : {A : Type 0} (m n : Numbered A) (c : ℕ) (o : Option A) → UpdatesBy nat_eq (nat_eq c) m n None → o ≡ get_by (nat_eq c) m →
    hash_map_len n + one o ≡ hash_map_len m → BecomesAt m n c None
removed m n c o updates value len = record {
  places = updates.0;
  len = (let left : hash_map_len n + one (get nat_eq m c) ≡ hash_map_len m = ap (λ z. hash_map_len n + one z) (sym value) ∙ len in omega (arith, left));
}

one_more : {A : Type 0} (n m : ℕ) (v : A) (o : Option A) → n ≡ m + (if is_some o then 0 else 1) → n + one o ≡ m + one (Some v)
one_more n m v o is = grind (arith, nat_tests)

pub inserted : {A : Type 0} (m n : Numbered A) (c : ℕ) (v : A) (o : Option A) → UpdatesBy nat_eq (nat_eq c) m n (Some v) → o ≡ get nat_eq m c →
    hash_map_len n ≡ hash_map_len m + (if is_some o then 0 else 1) → BecomesAt m n c (Some v)
inserted m n c v o updates was len = record {
  places = updates.0;
  len = ap (λ z. hash_map_len n + one z) (sym was) ∙ one_more (hash_map_len n) (hash_map_len m) v o len;
}

-- what was lent is there
pub lent : {A : Type 0} (o : Option (Bor A)) (row : Option A) (b : Bor A) → option_copied o ≡ row → o ≡ Some b → row ≡ Some b.now
lent o row b value is = sym value ∙ ap option_copied is

pub known_of : {A : Type 0} (row : Option A) (k : A) (P : A → Type 0) → row ≡ Some k → IsSomeAnd row P → P k
known_of row k P is h = rw is at h

-- ACTS

pub act_and : (before mid out : List Act) (a : Act) (acts : List Act) → mid ≡ before ++ (a ∷ []) → out ≡ mid ++ acts → out ≡ before ++ (a ∷ acts)
act_and before mid out a acts first second = second ∙ (ap (λ (z : List Act). z ++ acts) first ∙ append_assoc before (a ∷ []) acts)

-- WHERE THERE IS SOME PAST

pub merely_true : {P : Type 0} (b : Bool) → ∥ P ∥₁ → (P → b ≡ true) → b ≡ true
merely_true true some h = refl
merely_true false some h = absurd (not_there some (λ p. (let never : false ≡ true = h p in absurd (cc))))

pub merely_false : {P : Type 0} (b : Bool) → ∥ P ∥₁ → (P → b ≡ false) → b ≡ false
merely_false false some h = refl
merely_false true some h = absurd (not_there some (λ p. (let never : true ≡ false = h p in absurd (cc))))

pub merely_below : {P : Type 0} (n m : ℕ) → ∥ P ∥₁ → (P → n < m) → n < m
merely_below n m some h =
    let test : nat_lt n m ≡ true = merely_true (nat_lt n m) some (λ p. (let lt : n < m = h p in grind (arith, nat_tests, lt))) in
    grind (arith, nat_tests, test)

-- a span within a length, wherever there is some past
pub merely_within : {P : Type 0} (total : Option ℕ) (span : Span) → ∥ P ∥₁ → (P → IsSomeAnd total (IsWithin span)) → IsSomeAnd total (IsWithin span)
merely_within None span some h = absurd (not_there some h)
merely_within (Some n) span some h =
    let up : span.hi < n + 1 = merely_below span.hi (n + 1) some (λ p. (let is = h p in let le = is.within in omega (arith, le))) in
    record {
      not_empty = merely_below span.lo span.hi some (λ p. (let is = h p in is.not_empty));
      within = omega (arith, up);
      small = merely_below n (2 ^ 62) some (λ p. (let is = h p in is.small));
    }

pub some_that : {A : Type 0} (row : Option A) (k : A) (P : A → Type 0) → row ≡ Some k → P k → IsSomeAnd row P
some_that row k P is p = rw is p

pub held_is : (c : ℕ) (o : Option ℕ) → is_held_by c o ≡ true → o ≡ Some c
held_is c o on = grind (arith, nat_tests)

-- a value that is there changes twice
pub becomes_then : {A : Type 0} (m n u : Numbered A) (c : ℕ) (k : A) (f h : A → A) → get nat_eq m c ≡ Some k → ChangesAt m n c f → ChangesAt n u c h →
    BecomesAt m u c (Some (h (f k)))
becomes_then m n u c k f h there first second = record {
  places = λ d. elim (same_or c d) [
    | inl e ↦ second.places d ∙ (rw (← e, eqb-same c) (ap (option_map h) mid))
    | inr ne ↦ second.places d ∙ rw (eqb-other c d ne) (first.places d ∙ rw (eqb-other c d ne) refl)
  ];
  len = rw there (ap (λ z. z + 1) (second.len ∙ first.len));
}
  where
    mid : get nat_eq n c ≡ Some (f k)
    mid = first.places c ∙ rw (eqb-same c) (ap (option_map f) there)

-- an option that is a number wherever there is some past
pub merely_number : {P : Type 0} (o : Option ℕ) (n : ℕ) → ∥ P ∥₁ → (P → o ≡ Some n) → o ≡ Some n
merely_number o n some h = held_is n o (merely_true (is_held_by n o) some (λ p. ap (is_held_by n) (h p) ∙ eqb-same n))

-- a range that is in order wherever there is some past
pub merely_ordered : {P : Type 0} (range : Option RangeSpec) → ∥ P ∥₁ → (P → (asked : RangeSpec) → range ≡ Some asked → IsInOrder asked) →
    IfSome range IsInOrder
merely_ordered (Some (asked.FromTo first last)) some h = let below : first < last + 1 =
    merely_below first (last + 1) some (λ p. let le : first ≤ last = h p (asked.FromTo first last) refl in omega arith) in omega arith
merely_ordered _ some h = tt
