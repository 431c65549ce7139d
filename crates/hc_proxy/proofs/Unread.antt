-- How many bytes of the origin weren't read: what a change of one exchange makes of that, and one that is opened.
--
-- It is a sum over the exchanges, whose numbers fall, so each stands once. Where one row has more or less, the sum has
-- no more than so much more, or so much less. What an entry opens has a row of which nothing came. `sum_grows` and
-- `sum_falls` are of any sum, `unread_entry` of an entry.
use Rattle.std.{proofs.{Common.{◌≡◌, ◌≤◌, ◌<◌, ℕ, ◌+◌, List, [], ◌∷◌, Bool, true, false, Option, Some, None, refl, ap, sym, subst, arith}, lemmas.{Bool.Decides.{nat_tests}, List.Sums.{sum_by-cons}}}, specs.{Prelude.{nat_eq, ◌||◌, if◌then◌else◌, option_map}, List.{sum_by}}}
use Rattle.hc_effects.proofs.Vocabulary.{Opening, opening_in, is_denied, Entry, Descends, after, after_accepted, after_denied, openings_after}
use Rattle.hc_proxy.specs.{Invariants.{unread_of, unread}, Rows.{Upstream, Proxy, with_upstream}, Steps.{with_entry}}

-- SUMS, where one member changes

-- each that is other has what it had
abbrev OthersSame : ℕ → (ℕ → ℕ) → (ℕ → ℕ) → Type 0
OthersSame x f g = (y : ℕ) → nat_eq y x ≡ false → g y ≡ f y

same_below : (x n : ℕ) (f g : ℕ → ℕ) → OthersSame x f g → (xs : List ℕ) → n ≤ x → Descends n xs → sum_by g xs ≡ sum_by f xs
same_below x n f g same [] le down = refl
same_below x n f g same (y ∷ ys) le down =
    let lt : y < n = down.0 in
    let off : nat_eq y x ≡ false = grind (arith, nat_tests) in
    let first : g y ≡ f y = same y off in
    let rest : sum_by g ys ≡ sum_by f ys = same_below x y f g same ys (omega arith) down.1 in
    let a : sum_by g (y ∷ ys) ≡ g y + sum_by g ys = sum_by-cons g y ys in
    let b : sum_by f (y ∷ ys) ≡ f y + sum_by f ys = sum_by-cons f y ys in
    omega arith

-- it has no more than so much more
grows_by : (x more y n : ℕ) (f g : ℕ → ℕ) → OthersSame x f g → g x ≤ f x + more → (ys : List ℕ) → Descends n (y ∷ ys) → sum_by g ys ≤ sum_by f ys + more →
    (t : Bool) → nat_eq y x ≡ t → sum_by g (y ∷ ys) ≤ sum_by f (y ∷ ys) + more
grows_by x more y n f g same le ys down rest true is =
    let here : y ≡ x = grind (arith, nat_tests) in
    let first : g y ≤ f y + more = (let F : ℕ → Type 0 = λ z. g z ≤ f z + more in subst F (sym here) le) in
    let others : sum_by g ys ≡ sum_by f ys = same_below x y f g same ys (omega arith) down.1 in
    let a : sum_by g (y ∷ ys) ≡ g y + sum_by g ys = sum_by-cons g y ys in
    let b : sum_by f (y ∷ ys) ≡ f y + sum_by f ys = sum_by-cons f y ys in
    omega arith
grows_by x more y n f g same le ys down rest false is =
    let first : g y ≡ f y = same y is in
    let a : sum_by g (y ∷ ys) ≡ g y + sum_by g ys = sum_by-cons g y ys in
    let b : sum_by f (y ∷ ys) ≡ f y + sum_by f ys = sum_by-cons f y ys in
    omega arith

pub sum_grows : (x more : ℕ) (f g : ℕ → ℕ) → OthersSame x f g → g x ≤ f x + more → (n : ℕ) (xs : List ℕ) → Descends n xs → sum_by g xs ≤ sum_by f xs + more
sum_grows x more f g same le n [] down = omega arith
sum_grows x more f g same le n (y ∷ ys) down =
    grows_by x more y n f g same le ys down (sum_grows x more f g same le y ys down.1) (nat_eq y x) refl

-- it has so much less, where it is among them
abbrev pub among : ℕ → List ℕ → Bool
among x [] = false
among x (y ∷ ys) = nat_eq y x || among x ys

falls_by : (x less y n : ℕ) (f g : ℕ → ℕ) → OthersSame x f g → g x + less ≤ f x → (ys : List ℕ) → Descends n (y ∷ ys) →
    (among x ys ≡ true → sum_by g ys + less ≤ sum_by f ys) → (t : Bool) → nat_eq y x ≡ t → (t || among x ys) ≡ true →
    sum_by g (y ∷ ys) + less ≤ sum_by f (y ∷ ys)
falls_by x less y n f g same le ys down rest true is here =
    let at : y ≡ x = grind (arith, nat_tests) in
    let first : g y + less ≤ f y = (let F : ℕ → Type 0 = λ z. g z + less ≤ f z in subst F (sym at) le) in
    let others : sum_by g ys ≡ sum_by f ys = same_below x y f g same ys (omega arith) down.1 in
    let a : sum_by g (y ∷ ys) ≡ g y + sum_by g ys = sum_by-cons g y ys in
    let b : sum_by f (y ∷ ys) ≡ f y + sum_by f ys = sum_by-cons f y ys in
    omega arith
falls_by x less y n f g same le ys down rest false is here =
    let first : g y ≡ f y = same y is in
    let others : sum_by g ys + less ≤ sum_by f ys = rest here in
    let a : sum_by g (y ∷ ys) ≡ g y + sum_by g ys = sum_by-cons g y ys in
    let b : sum_by f (y ∷ ys) ≡ f y + sum_by f ys = sum_by-cons f y ys in
    omega arith

pub sum_falls : (x less : ℕ) (f g : ℕ → ℕ) → OthersSame x f g → g x + less ≤ f x → (n : ℕ) (xs : List ℕ) → Descends n xs → among x xs ≡ true →
    sum_by g xs + less ≤ sum_by f xs
sum_falls x less f g same le n [] down here = absurd (let never : false ≡ true = here in cc)
sum_falls x less f g same le n (y ∷ ys) down here =
    falls_by x less y n f g same le ys down (λ h. sum_falls x less f g same le y ys down.1 h) (nat_eq y x) refl here

-- OF A PROXY

module _ (p : Proxy) (n : ℕ) (down : Descends n p.tables.openings) (x : ℕ) (change : Upstream → Upstream) where
  abbrev before : ℕ → ℕ
  before y = unread_of (p.upstream y)

  abbrev behind : ℕ → ℕ
  behind y = unread_of ((with_upstream x change p).upstream y)

  others : OthersSame x before behind
  others y off = rw off refl

  itself : behind x ≡ unread_of (option_map change (p.upstream x))
  itself = let one : nat_eq x x ≡ true = grind (arith, nat_tests) in rw one refl

  -- so many bytes more came of it
  pub unread_grows : (more : ℕ) → unread_of (option_map change (p.upstream x)) ≤ unread_of (p.upstream x) + more →
      unread (with_upstream x change p) ≤ unread p + more
  unread_grows more le = sum_grows x more before behind others (let at : behind x ≡ unread_of (option_map change (p.upstream x)) = itself in omega arith)
      n p.tables.openings down

  -- so many were read of it
  pub unread_falls : (less : ℕ) → unread_of (option_map change (p.upstream x)) + less ≤ unread_of (p.upstream x) → among x p.tables.openings ≡ true →
      unread (with_upstream x change p) + less ≤ unread p
  unread_falls less le here =
      sum_falls x less before behind others (let at : behind x ≡ unread_of (option_map change (p.upstream x)) = itself in omega arith) n p.tables.openings
      down here

-- AN ENTRY, which opens an exchange of which nothing came

module _ (p : Proxy) (e : Entry) (new : (o : Opening) → opening_in e.acts ≡ Some o → p.upstream o.x ≡ None) where
  opened_by : (o : Option Opening) → opening_in e.acts ≡ o → sum_by (λ x. unread_of (p.upstream x)) (openings_after o p.tables.openings) ≡ unread p
  opened_by None is = refl
  opened_by (Some o) is =
      let f : ℕ → ℕ = λ x. unread_of (p.upstream x) in
      let none : unread_of (p.upstream o.x) ≡ 0 = ap unread_of (new o is) in
      let a : sum_by f (o.x ∷ p.tables.openings) ≡ f o.x + sum_by f p.tables.openings = sum_by-cons f o.x p.tables.openings in
      let b : f o.x ≡ 0 = none in
      omega arith

  by_denial : (b : Bool) → sum_by (λ x. unread_of (p.upstream x)) (if b then after_denied p.tables e else after_accepted p.tables e).openings ≡ unread p
  by_denial true = refl
  by_denial false = opened_by (opening_in e.acts) refl

  pub unread_entry : unread (with_entry e p) ≡ unread p
  unfolding with_entry after
  unread_entry = by_denial (is_denied e.acts)
