-- What all slots weigh is what those who own them weigh.
--
-- Each live slot has one owner in a list of numbers (`Owns`). By induction over that list, who owns nothing may be left
-- out (`skips`). With one owner more its slot is added, while the others own the rest (`one-more`), which has the work:
-- without it the others weigh what they did (`sums-other`). What is kept owns the slots of its rows (`owners`), so the
-- sum of all slots is that of what is kept (`weight-kept`).
use Rattle.std.{proofs.{Common.{◌≡◌, ℕ, ◌+◌, ◌<◌, ◌^◌, List, [], ◌∷◌, true, false, eqb, Option, Some, None, refl, sym, ap, ◌∙◌, inl, inr, arith}, Math.Logic.{∥∥₁_map}, lemmas.{Bool.{cases_Bool, eqb-true, Decides.{nat_tests}}, Grind.{not_there}, List.Sums.{sum_by-cons}, Map.Keys.{IsDistinct-head, IsDistinct-tail}}}, specs.{Prelude.{is_some, option_map, nat_eq, if◌then◌else◌}, List.{AllByRecursion, IsDistinct, sum_by}}}
use Rattle.hc_text.specs.Sorted.{has, itself}
use Rattle.hc_store.specs.Slots.{Held, Slots, with_slot, is_live, weigh, weight}
use Rattle.hc_store.proofs.Weights.{weight-none, weight-gone}
use Rattle.hc_stored.specs.{Rows.{Row, Rows, kept_by, kept_of, slot_at}, Shelf.{weigh_kept}, Shelved.{Owner, AreShelved}}

-- WHO OWNS SLOTS

-- the slot of each, if it has one
abbrev pub Own : Type 0
Own = ℕ → Option ℕ

record Owning (own : Own) (n : ℕ) : Type 0 where
  r : ℕ
  owns : own r ≡ Some n

-- Each live slot is owned by one of these, and by no other.
record Owns (own : Own) (slots : Slots) (rs : List ℕ) : Type 0 where
  number : (r n : ℕ) → own r ≡ Some n → n < 2 ^ 64
  one : (r q n : ℕ) → own r ≡ Some n → own q ≡ Some n → r ≡ q
  all : (n : ℕ) → is_live slots n ≡ true → ∥ Owning own n ∥₁
  listed : (r : ℕ) → is_some (own r) ≡ true → has itself r rs ≡ true

abbrev weigh_own : Slots → Option ℕ → ℕ
weigh_own slots None = 0
weigh_own slots (Some n) = weigh (slots n)

-- all but what one owns
abbrev but : ℕ → Own → Own
but r own q = if eqb r q then None else own q

no-one : (own : Own) (slots : Slots) → Owns own slots [] → (n : ℕ) → slots n ≡ None
no-one own slots owns n = none (slots n) (λ live. absurd (not_there (owns.all n live) (λ owning. unlisted owning))) where
  unlisted : Owning own n → ⊥
  unlisted owning = let e : false ≡ true = owns.listed owning.r (ap is_some owning.owns) in cc

  none : (o : Option Held) → (is_some o ≡ true → ⊥) → o ≡ None
  none None dead = refl
  none (Some h) dead = absurd (dead refl)

-- it owns nothing: the others own all
skips : (own : Own) (slots : Slots) (r : ℕ) (rs : List ℕ) → own r ≡ None → Owns own slots (r ∷ rs) → Owns own slots rs
skips own slots r rs none owns = record {
  number = owns.number;
  one = owns.one;
  all = owns.all;
  listed = λ q some. elim (cases_Bool (eqb r q)) [
    | inl same ↦ absurd (let e : false ≡ true = sym (ap is_some none) ∙ (ap (λ (k : ℕ). is_some (own k)) (eqb-true r q same) ∙ some) in cc)
    | inr off ↦ rw off at (owns.listed q some)
  ];
}

module _ (own : Own) (slots : Slots) (r n : ℕ) (rs : List ℕ) (mine : own r ≡ Some n) (owns : Owns own slots (r ∷ rs)) where
  but-other : (q : ℕ) → eqb r q ≡ false → but r own q ≡ own q
  but-other q off = rw off refl

  not-mine : (q m : ℕ) → but r own q ≡ Some m → (eqb r q ≡ false) × (own q ≡ Some m)
  not-mine q m is = elim (cases_Bool (eqb r q)) [
    | inl same ↦ absurd (let e : None ≡ Some m = rw same at is in cc)
    | inr off ↦ (off, rw off at is)
  ]

  live-other : (m : ℕ) → is_live (with_slot n None slots) m ≡ true → (eqb n m ≡ false) × (is_live slots m ≡ true)
  live-other m live = elim (cases_Bool (eqb n m)) [
    | inl same ↦ absurd (let e : false ≡ true = rw same at live in cc)
    | inr off ↦ (off, rw off at live)
  ]

  owned-other : (m : ℕ) → eqb n m ≡ false → Owning own m → Owning (but r own) m
  owned-other m off owning = elim (cases_Bool (eqb r owning.r)) [
    | inl same ↦ absurd (
        let e : Some n ≡ Some m = sym mine ∙ (ap own (eqb-true r owning.r same) ∙ owning.owns) in
        let f : n ≡ m = cc in grind (arith, nat_tests))
    | inr other ↦ record { r = owning.r; owns = but-other owning.r other ∙ owning.owns }
  ]

  listed-other : (q : ℕ) → is_some (but r own q) ≡ true → has itself q rs ≡ true
  listed-other q some = elim (cases_Bool (eqb r q)) [
    | inl same ↦ absurd (let e : false ≡ true = rw same at some in cc)
    | inr off ↦ let there : is_some (own q) ≡ true = rw off at some in rw off at (owns.listed q there)
  ]

  gives : Owns (but r own) (with_slot n None slots) rs
  gives = record {
    number = λ q m is. owns.number q m (not-mine q m is).1;
    one = λ q k m iq ik. owns.one q k m (not-mine q m iq).1 (not-mine k m ik).1;
    all = λ m live. let other = live-other m live in ∥∥₁_map (owns.all m other.1) (owned-other m other.0);
    listed = listed-other;
  }

  weighs-other : (q : ℕ) → eqb r q ≡ false → (o : Option ℕ) → own q ≡ o → weigh_own (with_slot n None slots) o ≡ weigh_own slots o
  weighs-other q off None is = refl
  weighs-other q off (Some m) is = elim (cases_Bool (eqb n m)) [
    | inl same ↦ absurd (let e : r ≡ q = owns.one r q n mine (is ∙ ap Some (sym (eqb-true n m same))) in grind (arith, nat_tests))
    | inr other ↦ rw other refl
  ]

  sums-other : (qs : List ℕ) → AllByRecursion (λ (q : ℕ). nat_eq r q ≡ false) qs
      → sum_by (λ q. weigh_own (with_slot n None slots) (but r own q)) qs ≡ sum_by (λ q. weigh_own slots (own q)) qs
  sums-other [] off = refl
  sums-other (q ∷ qs) off =
      let rest = sums-other qs off.1 in
      let first : weigh_own (with_slot n None slots) (but r own q) ≡ weigh_own slots (own q) =
      ap (weigh_own (with_slot n None slots)) (but-other q off.0) ∙ weighs-other q off.0 (own q) refl in
      sum_by-cons (λ k. weigh_own (with_slot n None slots) (but r own k)) q qs
      ∙ (ap (λ (a : ℕ). a + sum_by (λ k. weigh_own (with_slot n None slots) (but r own k)) qs) first
      ∙ (ap (λ (b : ℕ). weigh_own slots (own q) + b) rest ∙ sym (sum_by-cons (λ k. weigh_own slots (own k)) q qs)))

-- what holds of the rest holds with one more in front
one-more : (r : ℕ) (rs : List ℕ) (own : Own) (slots : Slots) → IsDistinct nat_eq (r ∷ rs) → Owns own slots (r ∷ rs)
    → ((other : Own) (left : Slots) → Owns other left rs → weight left ≡ sum_by (λ q. weigh_own left (other q)) rs)
    → (o : Option ℕ) → own r ≡ o → weight slots ≡ sum_by (λ q. weigh_own slots (own q)) (r ∷ rs)
one-more r rs own slots distinct owns rest None none =
    let others = rest own slots (skips own slots r rs none owns) in
    let first : weigh_own slots (own r) ≡ 0 = ap (weigh_own slots) none in
    let all = sum_by-cons (λ q. weigh_own slots (own q)) r rs in
    omega arith
one-more r rs own slots distinct owns rest (Some n) mine =
    let others = rest (but r own) (with_slot n None slots) (gives own slots r n rs mine owns) in
    let same = sums-other own slots r n rs mine owns rs (IsDistinct-head nat_eq r rs distinct) in
    let less = weight-gone slots (with_slot n None slots) n (owns.number r n mine) (λ m. refl) in
    let first : weigh_own slots (own r) ≡ weigh (slots n) = ap (weigh_own slots) mine in
    let all = sum_by-cons (λ q. weigh_own slots (own q)) r rs in
    omega arith

weight-owned : (rs : List ℕ) (own : Own) (slots : Slots) → IsDistinct nat_eq rs → Owns own slots rs → weight slots ≡ sum_by (λ r. weigh_own slots (own r)) rs
weight-owned [] own slots distinct owns = weight-none slots (no-one own slots owns)
weight-owned (r ∷ rs) own slots distinct owns =
    one-more r rs own slots distinct owns
    (λ other left those. weight-owned rs other left (IsDistinct-tail nat_eq r rs distinct) those) (own r) refl

-- WHAT IS KEPT

weighs-kept : (slots : Slots) (o : Option Row) → weigh_own slots (slot_at o) ≡ weigh_kept (kept_by slots o)
weighs-kept slots None = refl
weighs-kept slots (Some row) = of (slots row.slot) where
  of : (h : Option Held) → weigh h ≡ weigh_kept (option_map (kept_of row) h)
  of None = refl
  of (Some held) = refl

sums-kept : (slots : Slots) (rows : Rows) (rs : List ℕ) →
    sum_by (λ r. weigh_own slots (slot_at (rows r))) rs ≡ sum_by (λ r. weigh_kept (kept_by slots (rows r))) rs
sums-kept slots rows [] = refl
sums-kept slots rows (r ∷ rs) =
    let rest = sums-kept slots rows rs in
    let first = weighs-kept slots (rows r) in
    let a = sum_by-cons (λ q. weigh_own slots (slot_at (rows q))) r rs in
    let b = sum_by-cons (λ q. weigh_kept (kept_by slots (rows q))) r rs in
    omega arith

pub slot-there : (o : Option Row) (n : ℕ) → slot_at o ≡ Some n → (row : Row) × (o ≡ Some row) × (row.slot ≡ n)
slot-there None n is = cc
slot-there (Some row) n is = (row, refl, let e = is in cc)

module _ {rows : Rows} {order : List ℕ} {slots : Slots} (good : AreShelved rows order slots) where
  some-kept : (r : ℕ) → is_some (slot_at (rows r)) ≡ true → is_some (kept_by slots (rows r)) ≡ true
  some-kept r some = of (rows r) refl some where
    live : (row : Row) (h : Option Held) → is_some h ≡ true → is_some (option_map (kept_of row) h) ≡ true
    live row None is = is
    live row (Some held) is = refl

    of : (o : Option Row) → rows r ≡ o → is_some (slot_at o) ≡ true → is_some (kept_by slots o) ≡ true
    of None is there = there
    of (Some row) is there = live row (slots row.slot) (good.each r row is).live

  owners : (rs : List ℕ) → ((r : ℕ) → is_some (kept_by slots (rows r)) ≡ true → has itself r rs ≡ true) → Owns (λ r. slot_at (rows r)) slots rs
  owners rs listed = record {
    number = λ r n is. let there = slot-there (rows r) n is in let lt = (good.each r there.0 there.1).number in let e = there.2 in omega arith;
    one = λ r q n ir iq.
        let a = slot-there (rows r) n ir in let b = slot-there (rows q) n iq in
        good.apart r q a.0 b.0 a.1 b.1 (a.2 ∙ sym b.2);
    all = λ n live. ∥∥₁_map (good.owned n live) (λ (owner : Owner rows n). record { r = owner.r; owns = ap slot_at owner.there ∙ ap Some owner.slot });
    listed = λ r some. listed r (some-kept r some);
  }

  -- all slots weigh what is kept weighs, over any list that has each number of what is kept once
  pub weight-kept : (rs : List ℕ) → IsDistinct nat_eq rs → ((r : ℕ) → is_some (kept_by slots (rows r)) ≡ true → has itself r rs ≡ true)
      → weight slots ≡ sum_by (λ r. weigh_kept (kept_by slots (rows r))) rs
  weight-kept rs distinct listed = weight-owned rs (λ r. slot_at (rows r)) slots distinct (owners rs listed) ∙ sums-kept slots rows rs

-- what the slot of one weighs
pub weight-there : (slots : Slots) (o : Option Row) (n : ℕ) → slot_at o ≡ Some n → weigh (slots n) ≡ weigh_kept (kept_by slots o)
weight-there slots o n is = ap (weigh_own slots) (sym is) ∙ weighs-kept slots o
