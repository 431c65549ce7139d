-- Rows, order and slots agree after a change of one row and its slot.
--
-- Rows agree with slots where each row has a live slot with the summary that it says. No two rows share one, and each
-- live slot has its row. Of a change, a row more and a row that goes, this is shown again: of the row itself it is
-- known, and another row is of another slot (`apart-from`, `off-new`), so it stays. `updated-shelved`,
-- `dropped-shelved` and `added-shelved` join that. Beside them stands what is kept then (`updated-kept`, `added-kept`).
use Rattle.std.{proofs.{Common.{◌≡◌, ℕ, ◌<◌, ◌^◌, List, true, false, eqb, cond, Option, Some, None, refl, sym, ap, ◌∙◌, subst, inl, inr, arith}, Math.Logic.{∥∥₁_map}, lemmas.{Bool.{cases_Bool, eqb-true, Decides.{nat_tests}}, Grind.{merely}, Iterator.Adapters.{option_map_id}}}, specs.Prelude.{is_some, option_map}}
use mathlib.Core.Path.{fun_ext}
use Rattle.hc_text.proofs.Basics.{none_of}
use Rattle.hc_text.specs.Sorted.{has, itself}
use Rattle.hc_store.specs.Slots.{Held, Slots, with_slot, slots_after, is_live, cells_held}
use Rattle.hc_stored.specs.{Heads.{summary_of}, Kept.{Kept}, Rows.{Row, Rows, with_row, Changes, kept_by, kept_of, slot_at, is_current}, Shelf.{cells_in}, Shelved.{IsShelved, Owner, AreShelved}}
use Rattle.hc_stored.proofs.WeightLemmas.{slot-there}

-- OF ONE ROW

-- what the slot of a row holds
pub record Standing (slots : Slots) (row : Row) : Type 0 where
  pub held : Held
  pub there : slots row.slot ≡ Some held
  pub summary : summary_of held.head ≡ row.summary

standing_by : (slots : Slots) (row : Row) (o : Option Held) → slots row.slot ≡ o → IsShelved o row → Standing slots row
standing_by slots row None is shelved = absurd (let never : false ≡ true = shelved.live in cc)
standing_by slots row (Some held) is shelved = record { held = held; there = is; summary = let e = shelved.summary in cc }

module _ {rows : Rows} {order : List ℕ} {slots : Slots} (good : AreShelved rows order slots) where
  pub standing : (r : ℕ) (row : Row) → rows r ≡ Some row → Standing slots row
  standing r row there = standing_by slots row (slots row.slot) refl (good.each r row there)

  pub kept-there : (r : ℕ) (row : Row) (there : rows r ≡ Some row) → kept_by slots (rows r) ≡ Some (kept_of row (standing r row there).held)
  kept-there r row there = ap (kept_by slots) there ∙ ap (option_map (kept_of row)) (standing r row there).there

-- what is kept of a row stays where its slot does
kept-still : (slots new_slots : Slots) (o : Option Row) → ((b : Row) → o ≡ Some b → new_slots b.slot ≡ slots b.slot) → kept_by new_slots o ≡ kept_by slots o
kept-still slots new_slots None same = refl
kept-still slots new_slots (Some b) same = ap (option_map (kept_of b)) (same b refl)

-- A CHANGE

module _ {rows : Rows} {order : List ℕ} {slots : Slots} (good : AreShelved rows order slots) (r : ℕ) (row : Row) (there : rows r ≡ Some row) where
  -- another row is of another slot
  apart-from : (q : ℕ) (b : Row) → eqb r q ≡ false → rows q ≡ Some b → eqb row.slot b.slot ≡ false
  apart-from q b off is = elim (cases_Bool (eqb row.slot b.slot)) [
    | inl same ↦ absurd (let e : r ≡ q = good.apart r q row b there is (eqb-true row.slot b.slot same) in grind (arith, nat_tests))
    | inr other ↦ other
  ]

  -- with another row in its place, which is of the same slot
  module _ {new_rows : Rows} {new_slots : Slots} (new : Row) (held : Held) (slot : new.slot ≡ row.slot)
      (changes : (q : ℕ) → new_rows q ≡ with_row r (Some new) rows q) (puts : (n : ℕ) → new_slots n ≡ with_slot row.slot (Some held) slots n) where
    other-held : (q : ℕ) (b : Row) → eqb r q ≡ false → rows q ≡ Some b → new_slots b.slot ≡ slots b.slot
    other-held q b off is = puts b.slot ∙ rw (apart-from q b off is) refl

    own-held : new_slots new.slot ≡ Some held
    own-held = ap new_slots slot ∙ (puts row.slot ∙ (let e : eqb row.slot row.slot ≡ true = grind (arith, nat_tests) in rw e refl))

    is-new : (q : ℕ) (b : Row) → eqb r q ≡ true → new_rows q ≡ Some b → new ≡ b
    is-new q b same is = let e : Some new ≡ Some b = sym (changes q ∙ rw same refl) ∙ is in cc

    is-old : (q : ℕ) → eqb r q ≡ false → new_rows q ≡ rows q
    is-old q off = changes q ∙ rw off refl

    now-new : (q : ℕ) → eqb r q ≡ true → new_rows q ≡ Some new
    now-new q same = changes q ∙ rw same refl

    -- what stands there was a row of the same slot
    was : (q : ℕ) (b : Row) → new_rows q ≡ Some b → (old : Row) × (rows q ≡ Some old) × (old.slot ≡ b.slot)
    was q b is = elim (cases_Bool (eqb r q)) [
      | inl same ↦ (row, ap rows (sym (eqb-true r q same)) ∙ there, sym slot ∙ ap (λ (a : Row). a.slot) (is-new q b same is))
      | inr off ↦ (b, sym (is-old q off) ∙ is, refl)
    ]

    owner-now : (n : ℕ) → Owner rows n → Owner new_rows n
    owner-now n owner = elim (cases_Bool (eqb r owner.r)) [
      | inl same ↦
          let e : rows owner.r ≡ Some row = ap rows (sym (eqb-true r owner.r same)) ∙ there in
          let is : owner.row ≡ row = let f = owner.there in cc in
          record {
            r = r;
            row = new;
            there = changes r ∙ (let t : eqb r r ≡ true = grind (arith, nat_tests) in rw t refl);
            slot = slot ∙
                (ap (λ (a : Row). a.slot) (sym is) ∙ owner.slot);
          }
      | inr off ↦ record { r = owner.r; row = owner.row; there = is-old owner.r off ∙ owner.there; slot = owner.slot }
    ]

    was-live : (n : ℕ) → is_live new_slots n ≡ true → is_live slots n ≡ true
    was-live n live = elim (cases_Bool (eqb row.slot n)) [
      | inl same ↦ ap (is_live slots) (sym (eqb-true row.slot n same)) ∙ (good.each r row there).live
      | inr off ↦ sym (ap is_some (puts n ∙ rw off refl)) ∙ live
    ]

    pub changed-shelved : {new_order : List ℕ} → IsShelved (Some held) new → ((q : ℕ) → has itself q new_order ≡ is_current (new_rows q)) →
        AreShelved new_rows new_order new_slots
    changed-shelved shelved ordered = record {
      each = λ q b is. elim (cases_Bool (eqb r q)) [
        | inl same ↦ subst (λ (a : Row). IsShelved (new_slots a.slot) a) (is-new q b same is)
            (subst (λ (o : Option Held). IsShelved o new) (sym own-held) shelved)
        | inr off ↦ let before : rows q ≡ Some b = sym (is-old q off) ∙ is in
            subst (λ (o : Option Held). IsShelved o b) (sym (other-held q b off before)) (good.each q b before)
      ];
      apart = λ q k a b ia ib same.
          let wa = was q a ia in let wb = was k b ib in
          good.apart q k wa.0 wb.0 wa.1 wb.1 (wa.2 ∙ (same ∙ sym wb.2));
      owned = λ n live. ∥∥₁_map (good.owned n (was-live n live)) (owner-now n);
      ordered = ordered;
    }

    pub changed-kept : (f : Option Kept → Option Kept) → f (Some (kept_of row (standing good r row there).held)) ≡ Some (kept_of new held)
        → (q : ℕ) → kept_by new_slots (new_rows q) ≡ cond (eqb r q) (f (kept_by slots (rows r))) (kept_by slots (rows q))
    changed-kept f is q = elim (cases_Bool (eqb r q)) [
      | inl same ↦ rw same (ap (kept_by new_slots) (now-new q same) ∙
          (ap (option_map (kept_of new)) own-held ∙ (sym is ∙ ap f (sym (kept-there good r row there)))))
      | inr off ↦ rw (off, is-old q off) (kept-still slots new_slots (rows q) (λ b is. other-held q b off is))
    ]

-- A ROW AND ITS SLOT CHANGE

module _ {rows : Rows} {order : List ℕ} {slots : Slots} (good : AreShelved rows order slots) (r n : ℕ) (slot : slot_at (rows r) ≡ Some n)
    {new_rows : Rows} {new_slots : Slots} (f : Row → Row) (h : Held → Held) (keeps : (a : Row) → (f a).slot ≡ a.slot)
    (changes : Changes f r rows new_rows) (puts : (m : ℕ) → new_slots m ≡ slots_after h n slots m) where
  abbrev found-row : (row : Row) × (rows r ≡ Some row) × (row.slot ≡ n)
  found-row = slot-there (rows r) n slot

  abbrev row-before : Row
  row-before = found-row.0

  abbrev held-before : Standing slots row-before
  held-before = standing good r row-before found-row.1

  row-changes : (q : ℕ) → new_rows q ≡ with_row r (Some (f row-before)) rows q
  row-changes q = changes q ∙ ap (λ (o : Option Row). with_row r (option_map f o) rows q) found-row.1

  slot-changes : (m : ℕ) → new_slots m ≡ with_slot row-before.slot (Some (h held-before.held)) slots m
  slot-changes m =
      puts m ∙ (ap (λ (k : ℕ). with_slot k (option_map h (slots k)) slots m) (sym found-row.2)
      ∙ ap (λ (o : Option Held). with_slot row-before.slot (option_map h o) slots m) held-before.there)

  pub updated-shelved : {new_order : List ℕ} → ((a : Row) (b : Held) → rows r ≡ Some a → IsShelved (Some b) a → IsShelved (Some (h b)) (f a))
      → ((q : ℕ) → has itself q new_order ≡ is_current (new_rows q)) → AreShelved new_rows new_order new_slots
  updated-shelved still ordered =
      let before = subst (λ (o : Option Held). IsShelved o row-before) held-before.there (good.each r row-before found-row.1) in
      changed-shelved good r row-before found-row.1 (f row-before) (h held-before.held) (keeps row-before) row-changes slot-changes
      (still row-before held-before.held found-row.1 before) ordered

  pub updated-kept : (k : Kept → Kept) → ((a : Row) (b : Held) → k (kept_of a b) ≡ kept_of (f a) (h b))
      → (q : ℕ) → kept_by new_slots (new_rows q) ≡ cond (eqb r q) (option_map k (kept_by slots (rows r))) (kept_by slots (rows q))
  updated-kept k is =
      changed-kept good r row-before found-row.1 (f row-before) (h held-before.held) (keeps row-before) row-changes slot-changes
      (option_map k) (ap Some (is row-before held-before.held))

-- the slots stay
pub kept-slots : (slots : Slots) (n m : ℕ) → slots m ≡ slots_after (λ (h : Held). h) n slots m
kept-slots slots n m = elim (cases_Bool (eqb n m)) [
  | inl same ↦ ap slots (sym (eqb-true n m same)) ∙ (sym (option_map_id (slots n)) ∙ (rw same refl))
  | inr off ↦ rw off refl
]

-- A ROW GOES

module _ {rows : Rows} {order : List ℕ} {slots : Slots} (good : AreShelved rows order slots) (r n : ℕ) (slot : slot_at (rows r) ≡ Some n)
    {new_rows : Rows} {new_slots : Slots} (drops : (q : ℕ) → new_rows q ≡ with_row r None rows q)
    (frees : (m : ℕ) → new_slots m ≡ with_slot n None slots m) where
  abbrev gone-row : (row : Row) × (rows r ≡ Some row) × (row.slot ≡ n)
  gone-row = slot-there (rows r) n slot

  left-row : (q : ℕ) (b : Row) → new_rows q ≡ Some b → (eqb r q ≡ false) × (rows q ≡ Some b)
  left-row q b is = elim (cases_Bool (eqb r q)) [
    | inl same ↦ absurd (let e : None ≡ Some b = sym (drops q ∙ rw same refl) ∙ is in cc)
    | inr off ↦ (off, sym (drops q ∙ rw off refl) ∙ is)
  ]

  left-slot : (q : ℕ) (b : Row) → eqb r q ≡ false → rows q ≡ Some b → new_slots b.slot ≡ slots b.slot
  left-slot q b off is =
      let apart : eqb n b.slot ≡ false = subst (λ (k : ℕ). eqb k b.slot ≡ false) gone-row.2 (apart-from good r gone-row.0 gone-row.1 q b off is) in
      frees b.slot ∙ rw apart refl

  freed : (m : ℕ) → eqb n m ≡ true → new_slots m ≡ None
  freed m same = frees m ∙ rw same refl

  left-live : (m : ℕ) → is_live new_slots m ≡ true → (eqb n m ≡ false) × (is_live slots m ≡ true)
  left-live m live = elim (cases_Bool (eqb n m)) [
    | inl same ↦ absurd (let e : false ≡ true = sym (ap is_some (freed m same)) ∙ live in cc)
    | inr off ↦ (off, sym (ap is_some (frees m ∙ rw off refl)) ∙ live)
  ]

  left-owner : (m : ℕ) → eqb n m ≡ false → Owner rows m → Owner new_rows m
  left-owner m off owner = elim (cases_Bool (eqb r owner.r)) [
    | inl same ↦ absurd (
        let e : Some owner.row ≡ Some gone-row.0 = sym owner.there ∙ (ap rows (sym (eqb-true r owner.r same)) ∙ gone-row.1) in
        let f : owner.row ≡ gone-row.0 = cc in
        let g : n ≡ m = sym gone-row.2 ∙ (ap (λ (a : Row). a.slot) (sym f) ∙ owner.slot) in
        grind (arith, nat_tests))
    | inr other ↦ record { r = owner.r; row = owner.row; there = drops owner.r ∙ (rw other owner.there); slot = owner.slot }
  ]

  pub dropped-shelved : {new_order : List ℕ} → ((q : ℕ) → has itself q new_order ≡ is_current (new_rows q)) → AreShelved new_rows new_order new_slots
  dropped-shelved ordered = record {
    each = λ q b is.
        let left = left-row q b is in
        subst (λ (o : Option Held). IsShelved o b) (sym (left-slot q b left.0 left.1)) (good.each q b left.1);
    apart = λ q k a b ia ib same. good.apart q k a b (left-row q a ia).1 (left-row k b ib).1 same;
    owned = λ m live. let left = left-live m live in ∥∥₁_map (good.owned m left.1) (left-owner m left.0);
    ordered = ordered;
  }

-- A ROW MORE

module _ {rows : Rows} {order : List ℕ} {slots : Slots} (good : AreShelved rows order slots) (r : ℕ) (new : Row) (held : Held) (absent : rows r ≡ None)
    (free : is_live slots new.slot ≡ false)
    {new_rows : Rows} {new_slots : Slots} (adds : (q : ℕ) → new_rows q ≡ with_row r (Some new) rows q)
    (makes : (m : ℕ) → new_slots m ≡ with_slot new.slot (Some held) slots m) where
  -- every other row is of another slot
  off-new : (q : ℕ) (b : Row) → rows q ≡ Some b → eqb new.slot b.slot ≡ false
  off-new q b is = elim (cases_Bool (eqb new.slot b.slot)) [
    | inl same ↦ absurd (let e : false ≡ true = sym free ∙ (ap (is_live slots) (eqb-true new.slot b.slot same) ∙ (good.each q b is).live) in cc)
    | inr other ↦ other
  ]

  was-there : (q : ℕ) (b : Row) → eqb r q ≡ false → new_rows q ≡ Some b → rows q ≡ Some b
  was-there q b off is = sym (adds q ∙ rw off refl) ∙ is

  is-added : (q : ℕ) (b : Row) → eqb r q ≡ true → new_rows q ≡ Some b → new ≡ b
  is-added q b same is = let e : Some new ≡ Some b = sym (adds q ∙ rw same refl) ∙ is in cc

  added-held : new_slots new.slot ≡ Some held
  added-held = makes new.slot ∙ (let e : eqb new.slot new.slot ≡ true = grind (arith, nat_tests) in rw e refl)

  each-added : IsShelved (Some held) new → (q : ℕ) (b : Row) → new_rows q ≡ Some b → IsShelved (new_slots b.slot) b
  each-added shelved q b is = elim (cases_Bool (eqb r q)) [
    | inl same ↦ subst (λ (a : Row). IsShelved (new_slots a.slot) a) (is-added q b same is)
        (subst (λ (o : Option Held). IsShelved o new) (sym added-held) shelved)
    | inr off ↦
        let before = was-there q b off is in
        let same : new_slots b.slot ≡ slots b.slot = makes b.slot ∙ rw (off-new q b before) refl in
        subst (λ (o : Option Held). IsShelved o b) (sym same) (good.each q b before)
  ]

  -- the new one is apart from another
  never-shared : (q k : ℕ) (a b : Row) → eqb r q ≡ true → eqb r k ≡ false → new_rows q ≡ Some a → new_rows k ≡ Some b → a.slot ≡ b.slot → ⊥
  never-shared q k a b here off ia ib same =
      let e : new.slot ≡ b.slot = ap (λ (x : Row). x.slot) (is-added q a here ia) ∙ same in
      let f = off-new k b (was-there k b off ib) in
      grind (arith, nat_tests)

  apart-added : (q k : ℕ) (a b : Row) → new_rows q ≡ Some a → new_rows k ≡ Some b → a.slot ≡ b.slot → q ≡ k
  apart-added q k a b ia ib same = elim (cases_Bool (eqb r q)) [
    | inl here ↦ elim (cases_Bool (eqb r k)) [
      | inl there ↦ sym (eqb-true r q here) ∙ eqb-true r k there
      | inr off ↦ absurd (never-shared q k a b here off ia ib same)
    ]
    | inr gone ↦ elim (cases_Bool (eqb r k)) [
      | inl there ↦ absurd (never-shared k q b a there gone ib ia (sym same))
      | inr off ↦ good.apart q k a b (was-there q a gone ia) (was-there k b off ib) same
    ]
  ]

  old-owner : (m : ℕ) → Owner rows m → Owner new_rows m
  old-owner m owner = elim (cases_Bool (eqb r owner.r)) [
    | inl same ↦ absurd (let e : None ≡ Some owner.row = sym absent ∙ (ap rows (eqb-true r owner.r same) ∙ owner.there) in cc)
    | inr off ↦ record { r = owner.r; row = owner.row; there = adds owner.r ∙ (rw off owner.there); slot = owner.slot }
  ]

  owned-added : (m : ℕ) → is_live new_slots m ≡ true → ∥ Owner new_rows m ∥₁
  owned-added m live = elim (cases_Bool (eqb new.slot m)) [
    | inl same ↦ merely (record {
      r = r;
      row = new;
      there = adds r ∙ (let e : eqb r r ≡ true = grind (arith, nat_tests) in rw e refl);
      slot =
          eqb-true new.slot m same;
    })
    | inr off ↦ ∥∥₁_map (good.owned m (sym (ap is_some (makes m ∙ rw off refl)) ∙ live)) (old-owner m)
  ]

  pub added-shelved : {new_order : List ℕ} → IsShelved (Some held) new → ((q : ℕ) → has itself q new_order ≡ is_current (new_rows q)) →
      AreShelved new_rows new_order new_slots
  added-shelved shelved ordered = record {
    each = each-added shelved;
    apart = apart-added;
    owned = owned-added;
    ordered = ordered;
  }

-- WHAT IS SEEN

pub same-shelved : {rows new_rows : Rows} {order : List ℕ} {slots : Slots} → AreShelved rows order slots → ((q : ℕ) → new_rows q ≡ rows q) →
    AreShelved new_rows order slots
same-shelved {rows} {new_rows} {order} {slots} good same = subst (λ (rs : Rows). AreShelved rs order slots) (sym (fun_ext same)) good

cells-of : (row : Row) (o : Option Held) (p : ℕ) → cells_held o p ≡ cells_in (option_map (kept_of row) o) p
cells-of row None p = refl
cells-of row (Some held) p = refl

-- the bytes of what is kept are those in its slot
pub cells-kept : (slots : Slots) (o : Option Row) (n : ℕ) → slot_at o ≡ Some n → (p : ℕ) → cells_held (slots n) p ≡ cells_in (kept_by slots o) p
cells-kept slots None n is p = cc
cells-kept slots (Some row) n is p =
    let e : row.slot ≡ n = cc in
    ap (λ (k : ℕ). cells_held (slots k) p) (sym e) ∙ cells-of row (slots row.slot) p

-- what is kept of the others stays where one row and one slot more are there
module _ {rows : Rows} {order : List ℕ} {slots : Slots} (good : AreShelved rows order slots) (r : ℕ) (new : Row) (held : Held)
    (free : is_live slots new.slot ≡ false)
    {new_rows : Rows} {new_slots : Slots} (adds : (q : ℕ) → new_rows q ≡ with_row r (Some new) rows q)
    (makes : (m : ℕ) → new_slots m ≡ with_slot new.slot (Some held) slots m) where
  kept-new : (q : ℕ) → eqb r q ≡ true → kept_by new_slots (new_rows q) ≡ Some (kept_of new held)
  kept-new q same =
      let here : new_rows q ≡ Some new = adds q ∙ rw same refl in
      let slot : new_slots new.slot ≡ Some held = makes new.slot ∙ (let e : eqb new.slot new.slot ≡ true = grind (arith, nat_tests) in rw e refl) in
      ap (kept_by new_slots) here ∙ ap (option_map (kept_of new)) slot

  free-of : (q : ℕ) (b : Row) → rows q ≡ Some b → eqb new.slot b.slot ≡ false
  free-of q b is = elim (cases_Bool (eqb new.slot b.slot)) [
    | inl same ↦ absurd (let e : false ≡ true = sym free ∙ (ap (is_live slots) (eqb-true new.slot b.slot same) ∙ (good.each q b is).live) in cc)
    | inr other ↦ other
  ]

  pub added-kept : (q : ℕ) → kept_by new_slots (new_rows q) ≡ cond (eqb r q) (Some (kept_of new held)) (kept_by slots (rows q))
  added-kept q = elim (cases_Bool (eqb r q)) [
    | inl same ↦ rw same (kept-new q same)
    | inr off ↦
        rw (off, adds q, off) (kept-still slots new_slots (rows q) (λ b is. makes b.slot ∙ rw (free-of q b is) refl))
  ]

-- A SLOT THAT IS MADE AND DROPPED AGAIN

pub slots-back : (n : ℕ) (o : Option Held) (slots made : Slots) → is_live slots n ≡ false → made ≡ with_slot n o slots → with_slot n None made ≡ slots
slots-back n o slots made free is = fun_ext at-each where
  at-each : (m : ℕ) → with_slot n None made m ≡ slots m
  at-each m = elim (cases_Bool (eqb n m)) [
    | inl same ↦ rw same (sym (none_of (slots n) free) ∙ ap slots (eqb-true n m same))
    | inr off ↦ rw off (ap (λ (s : Slots). s m) is ∙ rw off refl)
  ]

pub same-slots : {rows : Rows} {order new_order : List ℕ} {slots new_slots : Slots} → AreShelved rows order slots → new_order ≡ order →
    new_slots ≡ slots → AreShelved rows new_order new_slots
same-slots {rows} {order} {new_order} {slots} {new_slots} good moved same =
    subst (λ (ns : List ℕ). AreShelved rows ns new_slots) (sym moved) (subst (λ (s : Slots). AreShelved rows order s) (sym same) good)

-- the slot of a row is live
pub live-slot : {rows : Rows} {order : List ℕ} {slots : Slots} → AreShelved rows order slots → (r n : ℕ) → slot_at (rows r) ≡ Some n → is_live slots n ≡ true
live-slot {rows} {order} {slots} good r n slot =
    let row = slot-there (rows r) n slot in
    ap (is_live slots) (sym row.2) ∙ (good.each r row.0 row.1).live

-- its number is one of 64 bits
pub slot-number : {rows : Rows} {order : List ℕ} {slots : Slots} → AreShelved rows order slots → (r n : ℕ) → slot_at (rows r) ≡ Some n → n < 2 ^ 64
slot-number {rows} {order} {slots} good r n slot =
    let row = slot-there (rows r) n slot in
    let small = (good.each r row.0 row.1).number in let same = row.2 in omega arith
