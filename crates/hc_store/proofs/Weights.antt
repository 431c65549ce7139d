-- What slots hold, and what they weigh.
--
-- The sum goes over all slots by their numbers. Where one slot changes, the sums below its number are the same, and
-- from there on they differ by that slot (`below-with`, `weight-slot`). So bytes that are put weigh what they are
-- (`weight-put`), a new slot weighs 32,768 (`weight-new`), and one that goes weighs no more (`weight-gone`). What keeps
-- the bytes of a slot keeps the sum (`weight-kept`). A write to an entry changes its slot (`changed-entry`).
use Rattle.std.{proofs.{Common.{◌≡◌, ◌≢◌, inl, inr, ℕ, zero, suc, ◌+◌, ◌<◌, ◌≤◌, ◌^◌, List, length, eqb, true, false, Option, Some, None, refl, sym, ap, ◌∙◌, subst, arith}, lemmas.Bool.Decides.{nat_tests, eqb_tells}}, specs.Prelude.{is_some, option_map, Result, Ok, Err, OnOk, OnErr}}
use mathlib.Core.Path.{fun_ext}
use Rattle.slab.specs.Slab.{Slab, get, with_value, Updates}
use Rattle.slab.proofs.SlabLemmas.{Updates-with_value}
use Rattle.hc_sparse.specs.{Cells.{nothing, AreAbsent}, Sparse.{sparse_cells}}
use Rattle.hc_sparse.proofs.SizeLemmas.{size-written, size-none}
use Rattle.hc_record.specs.{declared.kind.Kind.{Kind}, Head.{Head}}
use Rattle.hc_store.specs.{declared.entry.Entry.{Entry}, Slots.{Held, Slots, with_slot, slots_after, puts, weigh, weight, weight_below, cells_held, cells_in, bare}, Entries.{entry_contents, held_at, slots_of}}

-- A sum in which one slot changes.
module _ (n : ℕ) (entry_contents : Option Held) (slots : Slots) where
  at-other : (m : ℕ) → n ≢ m → with_slot n entry_contents slots m ≡ slots m
  at-other m ne = let off : eqb n m ≡ false = grind (arith, nat_tests) in rw off refl

  at-same : with_slot n entry_contents slots n ≡ entry_contents
  at-same = let on : eqb n n ≡ true = grind (arith, nat_tests) in rw on refl

  below-other : (k : ℕ) → k ≤ n → weight_below (with_slot n entry_contents slots) k ≡ weight_below slots k
  unfolding weight_below
  below-other zero le = refl
  below-other (suc k) le = let ne : n ≢ k = omega arith in rw (at-other k ne, below-other k (omega arith)) refl

  below-with : (k : ℕ) → n < k → weight_below (with_slot n entry_contents slots) k + weigh (slots n) ≡ weight_below slots k + weigh entry_contents
  unfolding weight_below
  below-with zero lt = absurd (omega arith)
  below-with (suc k) lt =
      elim (eqb_tells n k) [
        | inl same ↦ subst (λ (j : ℕ). weight_below (with_slot n entry_contents slots) (suc j) + weigh (slots n) ≡ weight_below slots (suc j) + weigh
            entry_contents) same.1
            (rw at-same (let rest = below-other n (omega arith) in omega arith))
        | inr off ↦ rw off.0 (let rest = below-with k (let ne = off.1 in omega arith) in omega arith)
      ]

  weight-with : n < 2 ^ 64 → weight (with_slot n entry_contents slots) + weigh (slots n) ≡ weight slots + weigh entry_contents
  unfolding weight
  weight-with lt = below-with (2 ^ 64) lt

weight-same : (a b : Slots) → ((m : ℕ) → b m ≡ a m) → weight b ≡ weight a
weight-same a b h = ap weight (fun_ext h)

weight-slot : (a b : Slots) (n : ℕ) (h : Option Held) → n < 2 ^ 64 → ((m : ℕ) → b m ≡ with_slot n h a m) → weight b + weigh (a n) ≡ weight a + weigh h
weight-slot a b n h lt is = rw (weight-same (with_slot n h a) b is) (weight-with n h a lt)

below-none : (a : Slots) (k : ℕ) → ((m : ℕ) → a m ≡ None) → weight_below a k ≡ 0
unfolding weight_below
below-none a zero none = refl
below-none a (suc k) none = rw (none k, below-none a k none) refl

pub weight-none : (a : Slots) → ((m : ℕ) → a m ≡ None) → weight a ≡ 0
unfolding weight
weight-none a none = below-none a (2 ^ 64) none

weigh-puts : (from x : ℕ) (bytes : List ℕ) (last : Option Kind) (o : Option Held) → is_some o ≡ true →
    AreAbsent (λ p. cells_held o p) from (from + length bytes) → from + length bytes ≤ 2 ^ 62
    → weigh (option_map (puts from x bytes last) o) ≡ weigh o + length bytes
weigh-puts from x bytes last None is absent end = absurd (let never : false ≡ true = is in cc)
weigh-puts from x bytes last (Some h) is absent end = let more = size-written h.cells from x bytes absent end in omega arith

-- Bytes that are put weigh what they are.
pub weight-put : (a b : Slots) (n from x : ℕ) (bytes : List ℕ) (last : Option Kind) → n < 2 ^ 64 → is_some (a n) ≡ true →
    AreAbsent (cells_in a n) from (from + length bytes) → from + length bytes ≤ 2 ^ 62
    → ((m : ℕ) → b m ≡ slots_after (puts from x bytes last) n a m) → weight b ≡ weight a + length bytes
weight-put a b n from x bytes last lt live absent end is =
    let one = weight-slot a b n (option_map (puts from x bytes last) (a n)) lt is in
    let here = weigh-puts from x bytes last (a n) live absent end in
    omega arith

weigh-kept : (f : Held → Held) (o : Option Held) → ((h : Held) → (f h).cells ≡ h.cells) → weigh (option_map f o) ≡ weigh o
weigh-kept f None same = refl
weigh-kept f (Some h) same = rw (same h) refl

-- What keeps the bytes of one slot keeps the sum.
pub weight-kept : (a b : Slots) (n : ℕ) (f : Held → Held) → n < 2 ^ 64 → ((h : Held) → (f h).cells ≡ h.cells) → ((m : ℕ) → b m ≡ slots_after f n a m) →
    weight b ≡ weight a
weight-kept a b n f lt same is =
    let one = weight-slot a b n (option_map f (a n)) lt is in
    let here = weigh-kept f (a n) same in
    omega arith

-- It keeps it after a refusal too.
pub weight-tried : {T E : Type 0} (r : Result T E) (a b : Slots) (n : ℕ) (f : Held → Held) → n < 2 ^ 64 → ((h : Held) → (f h).cells ≡ h.cells)
    → OnOk r ((m : ℕ) → b m ≡ slots_after f n a m) → OnErr r ((m : ℕ) → b m ≡ a m) → weight b ≡ weight a
weight-tried (Ok x) a b n f lt same ok err = weight-kept a b n f lt same ok
weight-tried (Err e) a b n f lt same ok err = weight-same a b err

weigh-none : (o : Option Held) → is_some o ≡ false → weigh o ≡ 0
weigh-none None is = refl
weigh-none (Some h) is = absurd (let never : true ≡ false = is in cc)

-- A slot that is made weighs 32,768.
pub weight-new : (a b : Slots) (n : ℕ) (head : Head) → n < 2 ^ 64 → is_some (a n) ≡ false → ((m : ℕ) → b m ≡ with_slot n (Some (bare head)) a m) →
    weight b ≡ weight a + 32768
weight-new a b n head lt gone is =
    let one = weight-slot a b n (Some (bare head)) lt is in
    let was = weigh-none (a n) gone in
    let now = size-none nothing (λ p. refl) in
    omega arith

-- A slot that goes weighs no more.
pub weight-gone : (a b : Slots) (n : ℕ) → n < 2 ^ 64 → ((m : ℕ) → b m ≡ with_slot n None a m) → weight b + weigh (a n) ≡ weight a
weight-gone a b n lt is = let one = weight-slot a b n None lt is in omega arith

-- What a write to a live slot leaves.
written : (entries : Slab Entry) (n : ℕ) (old new : Entry) → get entries n ≡ Some old → Updates entries (with_value entries n new) n (Some new)
written entries n old new there = Updates-with_value entries n new (rw there refl)

now-at : (entries : Slab Entry) (n m : ℕ) (old new : Entry) → get entries n ≡ Some old → n ≡ m → get (with_value entries n new) m ≡ Some new
now-at entries n m old new there same = ap (get (with_value entries n new)) (sym same) ∙ (written entries n old new there).changed

pub changed-entry : (entries : Slab Entry) (n : ℕ) (old new : Entry) (f : Held → Held) → get entries n ≡ Some old →
    entry_contents new ≡ f (entry_contents old) → (m : ℕ) → slots_of (with_value entries n new) m ≡ slots_after f n (slots_of entries) m
changed-entry entries n old new f there is m = elim (eqb_tells n m) [
  | inl same ↦ rw same.0 (ap held_at (now-at entries n m old new there same.1) ∙ (ap Some is ∙ ap (λ o. option_map f (held_at o)) (sym there)))
  | inr off ↦ rw off.0 (ap held_at ((written entries n old new there).others m (λ e. off.1 (sym e))))
]

pub same-entry : (entries : Slab Entry) (n : ℕ) (old new : Entry) → get entries n ≡ Some old → entry_contents new ≡ entry_contents old → (m : ℕ) →
    slots_of (with_value entries n new) m ≡ slots_of entries m
same-entry entries n old new there is m = elim (eqb_tells n m) [
  | inl same ↦ ap held_at (now-at entries n m old new there same.1) ∙ (ap Some is ∙ ap held_at (sym (ap (get entries) (sym same.1) ∙ there)))
  | inr off ↦ ap held_at ((written entries n old new there).others m (λ e. off.1 (sym e)))
]

-- The bytes of a slot are those of its entry.
pub cells-at : (entries : Slab Entry) (n : ℕ) (e : Entry) → get entries n ≡ Some e → (p : ℕ) → cells_in (slots_of entries) n p ≡ sparse_cells e.bytes p
cells-at entries n e there p = rw there refl

pub cells-there : (entries : Slab Entry) (n : ℕ) (e : Entry) → get entries n ≡ Some e → cells_in (slots_of entries) n ≡ sparse_cells e.bytes
cells-there entries n e there = fun_ext (cells-at entries n e there)
