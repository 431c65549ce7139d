-- Tests, options and lists: what std lacks, each once.
--
-- Lemmas about truth values and options go by their cases: in each of these both sides compute to the same. Tests of
-- numbers are turned into orders and back by what std proves of them (`leb-le`, `ltb-lt`). The cases of a comparison
-- come with both (`lt_cases`, `le_or`). Lemmas about lists go by induction or by one lemma of std. No proof here has
-- more than a few lines. All crates use them, mostly by another name.
use Rattle.std.{proofs.{Common.{Bool, List, None, Option, Some, [], arith, cond, drop, eqb, false, inl, inr, leb, length, ltb, map, refl, suc, take, true, ℕ, ◌++◌, ◌+◌, ◌-◌, ◌<◌, ◌^◌, ◌∷◌, ◌≡◌, ◌≢◌, ◌≤◌, ◌⊎◌}, Math.Seq.{drop-append_seam}, lemmas.{Bool.Decides.{eqb_tells, nat_tests}, Fmt.{decimal_is_IsNumeral}, List.{length-drop, reverse-append, take_all}, Slice.Eq.{bytes_eq-Decides}, Str.Parse.{digit_from_value}}}, specs.{BTreeMap.{is_at}, Fmt.{decimal}, Int.{IsInRange}, List.{list_all, list_any}, Map.{lookup}, Option.{option_or}, Ordering.{nat_cmp}, Prelude.{bytes_eq, filter, find, if◌then◌else◌, is_none, is_some, min, nat_eq, nat_le, nat_lt, not, option_map, reverse, ◌&&◌, ◌==◌, ◌||◌}, Str.Parse.{AllDigits}}}

pub eq_itself : (d : ℕ) → nat_eq d d ≡ true
eq_itself d = grind (arith, nat_tests)

pub some_inj : {A : Type 0} (a b : A) → Some a ≡ Some b → a ≡ b
some_inj a b h = cc

pub true_false : {A : Type 0} → true ≡ false → A
true_false h = absurd (let never : true ≡ false = h in cc)

pub not_true : (b : Bool) → not b ≡ true → b ≡ false
not_true b h = grind (arith, nat_tests)

pub or_right : (a b : Bool) → b ≡ true → (a || b) ≡ true
or_right a b h = grind (arith, nat_tests)

pub or_false : (b : Bool) → (b || false) ≡ b
or_false b = grind (arith, nat_tests)

pub none_some : {A B : Type 0} (it : B) → None ≡ Some it → A
none_some it h = absurd (let never : None ≡ Some it = h in cc)

pub leb-le : (m n : ℕ) → leb m n ≡ true → m ≤ n
leb-le m n h = grind (arith, nat_tests)

pub and_both : (a b : Bool) → (a && b) ≡ true → (a ≡ true) × (b ≡ true)
and_both a b h = grind (arith, nat_tests)

pub and_off : (a b : Bool) → b ≡ false → (a && b) ≡ false
and_off a b h = grind (arith, nat_tests)

pub eq_reports : (a b : ℕ) → nat_eq a b ≡ true → a ≡ b
eq_reports a b h = grind (arith, nat_tests)

pub and_right : (a b : Bool) → (a && b) ≡ true → b ≡ true
and_right a b h = grind (arith, nat_tests)

pub both_true : (a b : Bool) → a ≡ true → b ≡ true → (a && b) ≡ true
both_true a b x y = cc

pub false_true : {P : Type 0} → false ≡ true → P
false_true h = absurd (let never : false ≡ true = h in cc)

pub none_of : {A : Type 0} (o : Option A) → is_some o ≡ false → o ≡ None
none_of o is = grind (arith, nat_tests)

pub not_false : (b : Bool) → not b ≡ false → b ≡ true
not_false b is = grind (arith, nat_tests)

pub bool_cases : (b : Bool) → (b ≡ true) ⊎ (b ≡ false)
bool_cases true = inl refl
bool_cases false = inr refl

pub or_off_right : (a b : Bool) → (a || b) ≡ false → b ≡ false
or_off_right a b h = grind (arith, nat_tests)

pub or_cases : (a b : Bool) → (a || b) ≡ true → (a ≡ true) ⊎ (b ≡ true)
or_cases true b h = inl refl
or_cases false b h = inr h

pub both_false : (a b : Bool) → a ≡ false → b ≡ false → (a || b) ≡ false
both_false a b p q = rw (p, q) refl

pub never_true : (b : Bool) → (b ≡ true → ⊥) → b ≡ false
never_true b h = grind (arith, nat_tests)

pub and_left : (a b : Bool) → (a && b) ≡ true → a ≡ true
and_left a b h = grind (arith, nat_tests)

pub or_none : {A : Type 0} (o : Option A) → option_or o None ≡ o
or_none o = grind (arith, nat_tests)

pub le-leb : (m n : ℕ) → m ≤ n → leb m n ≡ true
le-leb m n h = grind (arith, nat_tests)

pub lt_cases : (a b : ℕ) → ((nat_lt a b ≡ true) × (a < b)) ⊎ ((nat_lt a b ≡ false) × (b ≤ a))
lt_cases a b = grind (arith, nat_tests)

pub same_some : {A : Type 0} (o : Option A) (a b : A) → o ≡ Some a → o ≡ Some b → a ≡ b
same_some o a b x y = cc

pub or_left : (a b : Bool) → a ≡ true → (a || b) ≡ true
or_left a b is = cc

pub and_none : (a : Bool) → (a && false) ≡ false
and_none a = grind (arith, nat_tests)

pub same_test : (a b : Bool) → (a ≡ true → b ≡ true) → (b ≡ true → a ≡ true) → a ≡ b
same_test a b to back = grind (arith, nat_tests)

pub plus_none : (n : ℕ) → n + 0 ≡ n
plus_none n = omega arith

pub filters_same : (f h : ℕ → Bool) → ((d : ℕ) → h d ≡ f d) → (cs : List ℕ) → filter h cs ≡ filter f cs
filters_same f h same cs = grind (arith, nat_tests)

pub ltb-lt : (m n : ℕ) → ltb m n ≡ true → m < n
ltb-lt m n h = grind (arith, nat_tests)

pub lt_or : (a b : ℕ) → (a < b) ⊎ (b ≤ a)
lt_or a b = grind (arith, nat_tests)

pub not_some : {A : Type 0} (a : A) → None ≡ Some a → ⊥
not_some a h = cc

pub all_three : (a b c : Bool) → a ≡ true → b ≡ true → c ≡ true → (a && b && c) ≡ true
all_three a b c p q r = rw (p, q, r) refl

pub eq_is : (a b : ℕ) → (a == b) ≡ true → a ≡ b
eq_is a b h = let test : nat_eq a b ≡ true = h in grind (arith, nat_tests)

pub eqb-same : (c : ℕ) → eqb c c ≡ true
eqb-same c = grind (arith, nat_tests)

pub eqb-other : (c d : ℕ) → c ≢ d → eqb c d ≡ false
eqb-other c d ne = grind (arith, nat_tests)

pub none_by : {A : Type 0} (o : Option A) → is_none o ≡ true → o ≡ None
none_by o h = grind (arith, nat_tests)

pub cond_false : {A : Type 0} (b : Bool) (x y : A) → b ≡ false → cond b x y ≡ y
cond_false b x y h = cc

pub mapped : {A : Type 0} (f : A → A) (o : Option A) → is_some (option_map f o) ≡ is_some o
mapped f o = grind (arith, nat_tests)

pub nothing_first : (xs ys : List ℕ) → xs ++ ys ≡ [] → xs ≡ []
nothing_first [] ys is = refl
nothing_first (x ∷ xs) ys is = cc

pub any_none : (f : ℕ → Bool) (ns : List ℕ) → ((n : ℕ) → f n ≡ false) → list_any f ns ≡ false
any_none f [] off = refl
any_none f (n ∷ ns) off = rw (off n, any_none f ns off) refl

pub or_off_left : (a b : Bool) → (a || b) ≡ false → a ≡ false
or_off_left a b h = grind (arith, nat_tests)

pub some_same : (v n : ℕ) → Some v ≡ Some n → v ≡ n
some_same v n is = cc

pub none_or : {A : Type 0} (q : Option A) → ((a : A) → q ≡ Some a → ⊥) → q ≡ None
none_or q off = grind (arith, nat_tests)

pub leb-lt : (m n : ℕ) → leb m n ≡ false → n < m
leb-lt m n h = grind (arith, nat_tests)

pub le_or : (a b : ℕ) → ((nat_le a b ≡ true) × (a ≤ b)) ⊎ ((nat_le a b ≡ false) × (b < a))
le_or a b = grind (arith, nat_tests)

pub mapped_from : {A B : Type 0} (f : A → B) (o : Option A) (y : B) → option_map f o ≡ Some y → (x : A) × (o ≡ Some x) × (f x ≡ y)
mapped_from f None y h = cc h
mapped_from f (Some x) y h = (x, refl, cc h)

pub same_consumer : (o : Option ℕ) (a b : ℕ) → o ≡ Some a → o ≡ Some b → a ≡ b
same_consumer o a b x y = cc

pub cond_either : (b : Bool) → (b || true) ≡ true
cond_either b = grind (arith, nat_tests)

pub map_long : (f : ℕ → ℕ) (cs : List ℕ) → length (map f cs) ≡ length cs
map_long f [] = refl
map_long f (c ∷ cs) = let rest = map_long f cs in omega (arith, rest)

pub all_false : (p q r : Bool) → p ≡ false → q ≡ false → r ≡ false → ((p || q) || r) ≡ false
all_false p q r a b d = rw (a, b, d) refl

pub or_rest : (a b : Bool) → b ≡ false → (a || b) ≡ a
or_rest a b off = grind (arith, nat_tests)

pub nil_cons : {A : Type 0} (x : A) (xs : List A) → [] ≡ x ∷ xs → ⊥
nil_cons x xs is = cc

pub eq_yes : (a b : ℕ) → a ≡ b → (a == b) ≡ true
eq_yes a b h = let test : nat_eq a b ≡ true = grind (arith, nat_tests) in test

pub drop-whole : (xs ys : List ℕ) → drop (length xs) (xs ++ ys) ≡ ys
drop-whole xs ys = drop-append_seam xs ys

pub same_or : (c d : ℕ) → (c ≡ d) ⊎ (c ≢ d)
same_or c d = elim (eqb_tells c d) [ inl e ↦ inl e.1 | inr e ↦ inr e.1 ]

pub min_few : (m n : ℕ) → min m n ≤ m
min_few m n = omega arith

pub reverse_is : (x : ℕ) (xs : List ℕ) → reverse (x ∷ xs) ≡ reverse xs ++ (x ∷ [])
reverse_is x xs = reverse-append (x ∷ []) xs

pub and_true : (b : Bool) → (b && true) ≡ b
and_true b = grind (arith, nat_tests)

pub cond_true : {A : Type 0} (b : Bool) (x y : A) → b ≡ true → cond b x y ≡ x
cond_true b x y h = cc

pub number_not : (n m : ℕ) → (n ≡ m → ⊥) → nat_eq n m ≡ false
number_not n m off = grind (arith, nat_tests)

pub and_false : (a : Bool) → a && false ≡ false
and_false a = grind (arith, nat_tests)

pub eq_by : (a b : ℕ) → eqb a b ≡ true → a ≡ b
eq_by a b on = grind (arith, nat_tests, on)

pub finds_same : (f h : ℕ → Bool) → ((q : ℕ) → h q ≡ f q) → (qs : List ℕ) → find h qs ≡ find f qs
finds_same f h alike qs = grind (arith, nat_tests)

pub both_of : (a b d : Bool) → (a && b && d) ≡ true → (a ≡ true) × (b ≡ true) × (d ≡ true)
both_of a b d is = grind (arith, nat_tests)

pub filter_same : (f h : ℕ → Bool) → ((q : ℕ) → f q ≡ h q) → (qs : List ℕ) → filter f qs ≡ filter h qs
filter_same f h same qs = grind (arith, nat_tests)

pub filter_short : (p : ℕ → Bool) (xs : List ℕ) → length (filter p xs) ≤ length xs
filter_short p [] = omega arith
filter_short p (x ∷ xs) = by_test (p x) (filter_short p xs)
  where
    by_test : (b : Bool) → length (filter p xs) ≤ length xs → length (if b then x ∷ filter p xs else filter p xs) ≤ suc (length xs)
    by_test true rest = omega (arith, rest)
    by_test false rest = omega (arith, rest)

pub list_all-digits : (p : ℕ → Bool) → ((c : ℕ) → IsInRange 48 57 c → p c ≡ true) → (ds : List ℕ) → AllDigits 10 ds → list_all p ds ≡ true
list_all-digits p each [] h = refl
list_all-digits p each (c ∷ ds) h = rw (each c (digit_from_value c h.0)) (list_all-digits p each ds h.1)

pub some-decimal : (n : ℕ) → n < 2 ^ 64 → 0 < length (decimal n)
some-decimal n h = (decimal_is_IsNumeral n (omega (arith, h))).0.0

pub same_bytes : (text : List ℕ) → bytes_eq text text ≡ true
same_bytes text = (bytes_eq-Decides text text).1 refl

pub rest_is : (i : ℕ) (xs : List ℕ) → take (length xs - i) (drop i xs) ≡ drop i xs
rest_is i xs = take_all (length xs - i) (drop i xs) (omega (arith, length-drop i xs))

pub no_entries : {X : Type 0} (es : List (ℕ × X)) (k : ℕ) → (0 < length es → ⊥) → lookup (is_at (nat_cmp k)) es ≡ None
no_entries [] k none = refl
no_entries (e ∷ es) k none = absurd (none (omega arith))

pub asked_none : {A : Type 0} (o : Option A) → is_some o ≡ true → o ≡ None → ⊥
asked_none o is none = cc

pub none_long : (xs : List ℕ) → length xs ≡ 0 → xs ≡ []
none_long [] none = refl
none_long (x ∷ xs) none = absurd (omega (arith, none))

pub falls : (a b : Bool) → (a ≡ true → b ≡ true) → b ≡ false → a ≡ false
falls a b up off = grind (arith, nat_tests)

pub either : {A : Type 0} (P : A → Type 0) (b : Bool) (x y : A) → (b ≡ true → P x) → (b ≡ false → P y) → P (cond b x y)
either P true x y on off = on refl
either P false x y on off = off refl

pub ltb-le : (m n : ℕ) → ltb m n ≡ false → n ≤ m
ltb-le m n h = grind (arith, nat_tests)

pub turned-false : (a b : Bool) → (a ≡ true → b ≡ false) → b ≡ true → a ≡ false
turned-false a b off on = grind (arith, nat_tests)

pub order : (a b : ℕ) → (a < b) ⊎ ((a ≡ b) ⊎ (b < a))
order a b = grind (arith, nat_tests)
