-- Sums over lists of numbers.
--
-- All go by induction over a list. First come bounds and sums of two functions (`sum_le`, `sum_two`, `sum_plus`), then
-- lists in which each number stands once. In such a list a number adds its weight once (`only_once`). The most work is
-- that what some of them weigh is within what all weigh (`sum_some`). `gives_enough` is for making room: without what
-- gives way the sum is within the limit.
use Rattle.std.{proofs.{Common.{◌≡◌, ◌⊎◌, inl, inr, ℕ, zero, suc, ◌+◌, ◌-◌, ◌≤◌, List, [], ◌∷◌, ◌++◌, Bool, true, Option, Some, None, refl, ap, sym, ◌∙◌, subst, arith}, lemmas.{Bool.Decides.{nat_tests}, List.Sums.{sum_by-cons, sum_by-append}}}, specs.{Prelude.{if◌then◌else◌, ◌==◌, nat_le, map, filter, take, reverse}, List.{sum_by, list_any}, Option.{option_map}}}
use Rattle.hc_text.proofs.Basics.{bool_cases, not_some as none_some, reverse_is, some_inj}
use Rattle.hc_effects.proofs.Vocabulary.{gives_way, AreOnce, Among}
use Rattle.hc_effects.proofs.{Basics.{false_true}, PieceKeeps.{eq_cases}}

pub sum_le : (f g : ℕ → ℕ) (rs : List ℕ) → ((r : ℕ) → Among r rs → f r ≤ g r) → sum_by f rs ≤ sum_by g rs
sum_le f g [] le = omega arith
sum_le f g (r ∷ rs) le =
    let a : sum_by f (r ∷ rs) ≡ f r + sum_by f rs = sum_by-cons f r rs in
    let b : sum_by g (r ∷ rs) ≡ g r + sum_by g rs = sum_by-cons g r rs in
    let here : f r ≤ g r = le r (inl refl) in
    let rest : sum_by f rs ≤ sum_by g rs = sum_le f g rs (λ q among. le q (inr among)) in
    omega arith

pub sum_two : (f g h : ℕ → ℕ) (rs : List ℕ) → ((r : ℕ) → Among r rs → f r + g r ≤ h r) → sum_by f rs + sum_by g rs ≤ sum_by h rs
sum_two f g h [] le = omega arith
sum_two f g h (r ∷ rs) le =
    let a : sum_by f (r ∷ rs) ≡ f r + sum_by f rs = sum_by-cons f r rs in
    let b : sum_by g (r ∷ rs) ≡ g r + sum_by g rs = sum_by-cons g r rs in
    let d : sum_by h (r ∷ rs) ≡ h r + sum_by h rs = sum_by-cons h r rs in
    let here : f r + g r ≤ h r = le r (inl refl) in
    let rest : sum_by f rs + sum_by g rs ≤ sum_by h rs = sum_two f g h rs (λ q among. le q (inr among)) in
    omega arith

pub sum_plus : (f g : ℕ → ℕ) (rs : List ℕ) → sum_by (λ r. f r + g r) rs ≡ sum_by f rs + sum_by g rs
sum_plus f g [] = refl
sum_plus f g (r ∷ rs) =
    let a : sum_by f (r ∷ rs) ≡ f r + sum_by f rs = sum_by-cons f r rs in
    let b : sum_by g (r ∷ rs) ≡ g r + sum_by g rs = sum_by-cons g r rs in
    let d : sum_by (λ q. f q + g q) (r ∷ rs) ≡ (f r + g r) + sum_by (λ q. f q + g q) rs = sum_by-cons (λ q. f q + g q) r rs in
    let rest : sum_by (λ q. f q + g q) rs ≡ sum_by f rs + sum_by g rs = sum_plus f g rs in
    omega arith

-- EACH ONCE

pub filter_among : (test : ℕ → Bool) (r : ℕ) (rs : List ℕ) → Among r (filter test rs) → Among r rs × (test r ≡ true)
filter_among test r [] among = absurd among
filter_among test r (q ∷ rs) among = elim (bool_cases (test q)) [
  | inr fails ↦ let more = filter_among test r rs (rw fails at among) in (inr more.0, more.1)
  | inl passes ↦
      let either : (q ≡ r) ⊎ Among r (filter test rs) = rw passes at among in
      elim either [
        | inl here ↦ (inl here, ap test (sym here) ∙ passes)
        | inr there ↦ let more = filter_among test r rs there in (inr more.0, more.1)
      ]
]

pub filter_once : (test : ℕ → Bool) (rs : List ℕ) → AreOnce rs → AreOnce (filter test rs)
filter_once test [] once = tt
filter_once test (q ∷ rs) once = elim (bool_cases (test q)) [
  | inr fails ↦ rw fails (filter_once test rs once.1)
  | inl passes ↦ rw passes ((λ among. once.0 (filter_among test q rs among).0), filter_once test rs once.1)
]

pub take_among : (n r : ℕ) (rs : List ℕ) → Among r (take n rs) → Among r rs
take_among zero r rs among = absurd among
take_among (suc n) r [] among = absurd among
take_among (suc n) r (q ∷ rs) (inl here) = inl here
take_among (suc n) r (q ∷ rs) (inr there) = inr (take_among n r rs there)

pub take_once : (n : ℕ) (rs : List ℕ) → AreOnce rs → AreOnce (take n rs)
take_once zero rs once = tt
take_once (suc n) [] once = tt
take_once (suc n) (q ∷ rs) once = ((λ among. once.0 (take_among n q rs among)), take_once n rs once.1)

append_among : (r : ℕ) (xs ys : List ℕ) → Among r (xs ++ ys) → Among r xs ⊎ Among r ys
append_among r [] ys among = inr among
append_among r (x ∷ xs) ys (inl here) = inl (inl here)
append_among r (x ∷ xs) ys (inr there) = elim (append_among r xs ys there) [ inl a ↦ inl (inr a) | inr b ↦ inr b ]

pub reverse_among : (r : ℕ) (xs : List ℕ) → Among r (reverse xs) → Among r xs
reverse_among r [] among = absurd among
reverse_among r (x ∷ xs) among = elim (append_among r (reverse xs) (x ∷ []) (subst (Among r) (reverse_is x xs) among)) [
  | inl there ↦ inr (reverse_among r xs there)
  | inr last ↦ by_last last
]
  where
    by_last : Among r (x ∷ []) → Among r (x ∷ xs)
    by_last (inl here) = inl here
    by_last (inr never) = absurd never

append_once : (xs : List ℕ) (x : ℕ) → AreOnce xs → (Among x xs → ⊥) → AreOnce (xs ++ (x ∷ []))
append_once [] x once new = ((λ never. never), tt)
append_once (y ∷ xs) x once new = ((λ among. by_side (append_among y xs (x ∷ []) among)), append_once xs x once.1 (λ among. new (inr among)))
  where
    by_side : Among y xs ⊎ Among y (x ∷ []) → ⊥
    by_side (inl there) = once.0 there
    by_side (inr (inl here)) = new (inl (sym here))
    by_side (inr (inr never)) = never

pub reverse_once : (xs : List ℕ) → AreOnce xs → AreOnce (reverse xs)
reverse_once [] once = tt
reverse_once (x ∷ xs) once =
    subst AreOnce (sym (reverse_is x xs)) (append_once (reverse xs) x (reverse_once xs once.1) (λ among. once.0 (reverse_among x xs among)))

pub reverse_sum : (f : ℕ → ℕ) (xs : List ℕ) → sum_by f (reverse xs) ≡ sum_by f xs
reverse_sum f [] = refl
reverse_sum f (x ∷ xs) =
    let a : sum_by f (reverse (x ∷ xs)) ≡ sum_by f (reverse xs ++ (x ∷ [])) = ap (sum_by f) (reverse_is x xs) in
    let b : sum_by f (reverse xs ++ (x ∷ [])) ≡ sum_by f (reverse xs) + sum_by f (x ∷ []) = sum_by-append f (reverse xs) (x ∷ []) in
    let d : sum_by f (x ∷ []) ≡ f x + sum_by f [] = sum_by-cons f x [] in
    let none : sum_by f [] ≡ 0 = refl in
    let g : sum_by f (x ∷ xs) ≡ f x + sum_by f xs = sum_by-cons f x xs in
    let rest : sum_by f (reverse xs) ≡ sum_by f xs = reverse_sum f xs in
    omega arith

-- ONE OF THEM

abbrev pub only : ℕ → ℕ → ℕ → ℕ
only q n r = if r == q then n else 0

only_not : (q n r : ℕ) → (r ≡ q → ⊥) → only q n r ≡ 0
only_not q n r other = elim (eq_cases r q) [ inl same ↦ absurd (other same.1) | inr off ↦ rw off.0 refl ]

pub only_yes : (q n r : ℕ) → r ≡ q → only q n r ≡ n
only_yes q n r same = elim (eq_cases r q) [ inl here ↦ rw here.0 refl | inr off ↦ absurd (off.1 same) ]

only_none : (q n : ℕ) (rs : List ℕ) → (Among q rs → ⊥) → sum_by (only q n) rs ≡ 0
only_none q n [] none = refl
only_none q n (r ∷ rs) none =
    let a : sum_by (only q n) (r ∷ rs) ≡ only q n r + sum_by (only q n) rs = sum_by-cons (only q n) r rs in
    let here : only q n r ≡ 0 = only_not q n r (λ same. none (inl same)) in
    let rest : sum_by (only q n) rs ≡ 0 = only_none q n rs (λ among. none (inr among)) in
    omega arith

pub only_once : (q n : ℕ) (rs : List ℕ) → AreOnce rs → sum_by (only q n) rs ≤ n
only_once q n [] once = omega arith
only_once q n (r ∷ rs) once =
    let a : sum_by (only q n) (r ∷ rs) ≡ only q n r + sum_by (only q n) rs = sum_by-cons (only q n) r rs in
    elim (eq_cases r q) [
      | inl same ↦
          let here : only q n r ≡ n = only_yes q n r same.1 in
          let rest : sum_by (only q n) rs ≡ 0 = only_none q n rs (λ among. once.0 (subst (λ z. Among z rs) (sym same.1) among)) in
          omega arith
      | inr off ↦
          let here : only q n r ≡ 0 = only_not q n r off.1 in
          let rest : sum_by (only q n) rs ≤ n = only_once q n rs once.1 in
          omega arith
    ]

only_has : (q n : ℕ) (rs : List ℕ) → Among q rs → n ≤ sum_by (only q n) rs
only_has q n [] among = absurd among
only_has q n (r ∷ rs) (inl here) =
    let a : sum_by (only q n) (r ∷ rs) ≡ only q n r + sum_by (only q n) rs = sum_by-cons (only q n) r rs in
    let yes : only q n r ≡ n = only_yes q n r here in
    omega arith
only_has q n (r ∷ rs) (inr there) =
    let a : sum_by (only q n) (r ∷ rs) ≡ only q n r + sum_by (only q n) rs = sum_by-cons (only q n) r rs in
    let rest : n ≤ sum_by (only q n) rs = only_has q n rs there in
    omega arith

-- SOME OF THEM

abbrev pub is_in : List ℕ → ℕ → Bool
is_in qs r = list_any (λ q. q == r) qs

abbrev pub among_of : (ℕ → ℕ) → List ℕ → ℕ → ℕ
among_of w qs r = if is_in qs r then w r else 0

pub in_among : (qs : List ℕ) (r : ℕ) → is_in qs r ≡ true → Among r qs
in_among [] r h = absurd (false_true h)
in_among (q ∷ qs) r h = elim (eq_cases q r) [
  | inl here ↦ inl here.1
  | inr off ↦ inr (in_among qs r (rw off.0 at h))
]

-- what some of them weigh is within what all weigh
pub sum_some : (w : ℕ → ℕ) (qs rs : List ℕ) → AreOnce qs → ((q : ℕ) → Among q qs → Among q rs) → sum_by w qs ≤ sum_by (among_of w qs) rs
sum_some w [] rs once within = omega arith
sum_some w (q ∷ qs) rs once within =
    let a : sum_by w (q ∷ qs) ≡ w q + sum_by w qs = sum_by-cons w q qs in
    let rest : sum_by w qs ≤ sum_by (among_of w qs) rs = sum_some w qs rs once.1 (λ z among. within z (inr among)) in
    let here : w q ≤ sum_by (only q (w q)) rs = only_has q (w q) rs (within q (inl refl)) in
    let both : sum_by (only q (w q)) rs + sum_by (among_of w qs) rs ≤ sum_by (among_of w (q ∷ qs)) rs =
    sum_two (only q (w q)) (among_of w qs) (among_of w (q ∷ qs)) rs (λ r among. by_test r) in
    omega arith
  where
    by_test : (r : ℕ) → only q (w q) r + among_of w qs r ≤ among_of w (q ∷ qs) r
    by_test r = elim (eq_cases q r) [
      | inl same ↦
          let first : only q (w q) r ≡ w q = only_yes q (w q) r (sym same.1) in
          let all : among_of w (q ∷ qs) r ≡ w r = rw same.0 refl in
          let weigh : w q ≡ w r = ap w same.1 in
          elim (bool_cases (is_in qs r)) [
            | inl there ↦ absurd (once.0 (in_among qs q (ap (is_in qs) same.1 ∙ there)))
            | inr off ↦ let none : among_of w qs r ≡ 0 = rw off refl in omega arith
          ]
      | inr other ↦
          let first : only q (w q) r ≡ 0 = only_not q (w q) r (λ is. other.1 (sym is)) in
          let all : among_of w (q ∷ qs) r ≡ among_of w qs r = rw other.0 refl in
          omega arith
    ]

-- WHAT GIVES WAY

more_gives : (o : Option ℕ) (n : ℕ) → option_map suc o ≡ Some n → (m : ℕ) × (o ≡ Some m) × (n ≡ suc m)
more_gives None n h = absurd (none_some n h)
more_gives (Some m) n h = (m, refl, sym (some_inj (suc m) n h))

-- without what gives way the sum is within the limit
pub gives_enough : (most sum n : ℕ) (w : ℕ → ℕ) (rs : List ℕ) → gives_way most sum (map w rs) ≡ Some n → sum ≤ most + sum_by w (take n rs)
gives_enough most sum n w [] h = elim (bool_cases (nat_le sum most)) [
  | inl fits ↦ let le : sum ≤ most = grind (arith, nat_tests) in omega arith
  | inr past ↦ absurd (none_some n (rw past at h))
]
gives_enough most sum n w (r ∷ rs) h = elim (bool_cases (nat_le sum most)) [
  | inl fits ↦ let le : sum ≤ most = grind (arith, nat_tests) in omega arith
  | inr past ↦
      let more = more_gives (gives_way most (sum - w r) (map w rs)) n (rw past at h) in
      let rest : sum - w r ≤ most + sum_by w (take more.0 rs) = gives_enough most (sum - w r) more.0 w rs more.1 in
      let cut : sum_by w (take n (r ∷ rs)) ≡ w r + sum_by w (take more.0 rs) = ap (λ k. sum_by w (take k (r ∷ rs))) more.2 ∙ sum_by-cons w r (take more.0 rs) in
      omega arith
]
