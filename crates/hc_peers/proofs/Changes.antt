-- What a map or a set has once one key of it changed.
use Rattle.std.{proofs.{Common.{◌≡◌, ◌≢◌, ℕ, Bool, false, Option, eqb, inl, inr, refl, sym, ap, ◌∙◌, arith}, lemmas.Bool.{ne_eqb, eqb-true, eqb-false, cases_Bool, eq-eqb, Decides.{nat_tests}}}, specs.{Prelude.{nat_eq, if◌then◌else◌}, HashMap.{HashMap}, BTreeMap.{BTreeMap, is_at}, BTreeSet.{BTreeSet}, Map.{lookup}, List.{list_any}, Ordering.{nat_cmp}}}
use Rattle.std.specs.HashMap as hash
use Rattle.std.specs.BTreeMap as tree
use Rattle.std.specs.BTreeSet as set

-- At one key it is this now.
pub record Changed {A : Type 0} (k : ℕ) (after : A) (old new : ℕ → A) : Type 0 where
  pub here : new k ≡ after
  pub apart : (q : ℕ) → q ≢ k → new q ≡ old q

pub apart-tree : (k q : ℕ) → q ≢ k → is_at (nat_cmp k) q ≡ false
apart-tree k q ne = grind (arith, nat_tests)

pub changed-hash : {X S : Type 0} (k : ℕ) (w : Option X) (m n : HashMap ℕ X S) → hash.Updates nat_eq m n k w →
    Changed k w (hash.get nat_eq m) (hash.get nat_eq n)
changed-hash k w m n h = record { here = h.1; apart = λ q ne. h.2 q (ne_eqb k q (λ e. ne (sym e))) }

pub changed-tree : {X : Type 0} (k : ℕ) (w : Option X) (m n : BTreeMap ℕ X) → tree.Updates nat_cmp m n k w →
    Changed k w (tree.get nat_cmp m) (tree.get nat_cmp n)
changed-tree k w m n h = record { here = h.1; apart = λ q ne. h.2 q (apart-tree k q ne) }

pub changed-set : (k : ℕ) (b : Bool) (s t : BTreeSet ℕ) → set.Updates nat_cmp s t k b → Changed k b (set.contains nat_cmp s) (set.contains nat_cmp t)
changed-set k b s t h = record { here = h.1; apart = λ q ne. h.2 q (apart-tree k q ne) }

pub changed-none : {A : Type 0} (k : ℕ) (after : A) (f : ℕ → A) → f k ≡ after → Changed k after f f
changed-none k after f is = record { here = is; apart = λ q ne. refl }

-- the same, from what is there at each key
pub changed-by : {A : Type 0} (k : ℕ) (after : A) (old new : ℕ → A) → ((q : ℕ) → new q ≡ (if eqb q k then after else old q)) → Changed k after old new
changed-by k after old new h =
    record {
      here = h k ∙ rw (eq-eqb k k refl) refl;
      apart = λ q ne. h q ∙ rw (ne_eqb q k ne) refl;
    }

-- and back
pub by-changed : {A : Type 0} (k : ℕ) (after : A) (old new : ℕ → A) → Changed k after old new → (q : ℕ) → new q ≡ (if eqb q k then after else old q)
by-changed k after old new h q = elim (cases_Bool (eqb q k)) [
  | inl on ↦ rw on (let e = eqb-true q k on in rw e h.here)
  | inr off ↦ rw off (h.apart q (eqb-false q k off))
]

-- where it holds at the key and of the others, it holds
pub at-each : (P : ℕ → Type 0) (k : ℕ) → P k → ((q : ℕ) → q ≢ k → P q) → (q : ℕ) → P q
at-each P k here apart q = elim (cases_Bool (eqb q k)) [
  | inl on ↦ let e = eqb-true q k on in rw e here
  | inr off ↦ apart q (eqb-false q k off)
]

pub hash-unchanged : {X S : Type 0} (m n : HashMap ℕ X S) → hash.IsUnchanged m n → (q : ℕ) → hash.get nat_eq n q ≡ hash.get nat_eq m q
hash-unchanged m n same q = ap (lookup (nat_eq q)) same

pub set-unchanged : (s t : BTreeSet ℕ) → set.IsUnchanged s t → (q : ℕ) → set.contains nat_cmp t q ≡ set.contains nat_cmp s q
set-unchanged s t same q = ap (list_any (is_at (nat_cmp q))) same

pub changed-same : {A : Type 0} (k : ℕ) (old new : ℕ → A) → ((q : ℕ) → new q ≡ old q) → Changed k (old k) old new
changed-same k old new same = record { here = same k; apart = λ q ne. same q }
