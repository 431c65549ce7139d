-- The order has the rows that aren't gone, after a change of one row too.
--
-- The order has a number just where its row isn't gone. After a change of one row it is asked of that row, and of
-- another one; the others stand in it as before (`others`). So the order stays, gets the row first, or loses it
-- (`ordered-same`, `ordered-first`, `ordered-out`). Then what a row admits, and what is left where somebody leaves: a
-- row that isn't over has somebody or isn't gone (`kept-left`), and one that is over was gone (`gone-left`).
use Rattle.std.{proofs.{Common.{◌≡◌, ℕ, List, ◌∷◌, true, false, not, eqb, Option, Some, None, refl, sym, ap, ◌∙◌, inl, inr, arith}, lemmas.Bool.{cases_Bool, and_parts, eqb-true, Decides.{nat_tests}}}, specs.Prelude.{is_some, is_none, option_map, ◌&&◌}}
use Rattle.hc_text.proofs.{Basics.{not_true}, SortedLemmas.{has-without}}
use Rattle.hc_text.specs.Sorted.{has, without, itself}
use Rattle.hc_store.specs.Slots.{Held, Slots}
use Rattle.hc_stored.specs.{Kept.{Kept, is_nobody}, Rows.{Row, Rows, with_row, Changes, kept_of, kept_by, slot_at, users_at, unused_by, going, is_current, is_over}, Shelved.{IsShelved, AreShelved}, Views.{admits, admits_first, has_user}}

-- what is kept is a row, of some slot
pub slot-kept : (slots : Slots) (o : Option Row) → is_some (kept_by slots o) ≡ true → (n : ℕ) × (slot_at o ≡ Some n)
slot-kept slots None kept = absurd (let never : false ≡ true = kept in cc)
slot-kept slots (Some row) kept = (row.slot, refl)

current-same : (f : Row → Row) → ((a : Row) → (f a).is_gone ≡ a.is_gone) → (o : Option Row) → is_current (option_map f o) ≡ is_current o
current-same f same None = refl
current-same f same (Some a) = ap not (same a)

current-going : (o : Option Row) → is_current (option_map going o) ≡ false
current-going None = refl
current-going (Some a) = refl

module _ {rows : Rows} {order : List ℕ} {slots : Slots} (good : AreShelved rows order slots) (r : ℕ) where
  -- the others in the order without this one
  others : (q : ℕ) → eqb r q ≡ false → has itself q (without itself r order) ≡ is_current (rows q)
  others q off = has-without itself q r order ∙ (rw off (good.ordered q))

  not-itself : (q : ℕ) → eqb r q ≡ true → has itself q (without itself r order) ≡ false
  not-itself q same = has-without itself q r order ∙ (rw same refl)

  here : (q : ℕ) → eqb r q ≡ true → rows r ≡ rows q
  here q same = ap rows (eqb-true r q same)

  module _ {new_rows : Rows} (f : Row → Row) (changes : Changes f r rows new_rows) where
    pub ordered-same : ((a : Row) → (f a).is_gone ≡ a.is_gone) → (q : ℕ) → has itself q order ≡ is_current (new_rows q)
    ordered-same same q = good.ordered q ∙ elim (cases_Bool (eqb r q)) [
      | inl on ↦ rw (changes q, on) (ap is_current (sym (here q on)) ∙ sym (current-same f same (rows r)))
      | inr off ↦ rw (changes q, off) refl
    ]

    pub ordered-first : is_current (rows r) ≡ true → ((a : Row) → (f a).is_gone ≡ a.is_gone) → (q : ℕ) →
        has itself q (r ∷ without itself r order) ≡ is_current (new_rows q)
    ordered-first current same q = elim (cases_Bool (eqb r q)) [
      | inl on ↦ rw (changes q, on) (sym current ∙ sym (current-same f same (rows r)))
      | inr off ↦ rw (changes q, off) (others q off)
    ]

  pub ordered-going : {new_rows : Rows} → Changes going r rows new_rows → (q : ℕ) → has itself q (without itself r order) ≡ is_current (new_rows q)
  ordered-going changes q = elim (cases_Bool (eqb r q)) [
    | inl on ↦ rw (changes q, on) (not-itself q on ∙ sym (current-going (rows r)))
    | inr off ↦ rw (changes q, off) (others q off)
  ]

  module _ {new_rows : Rows} (new : Option Row) (changes : (q : ℕ) → new_rows q ≡ with_row r new rows q) where
    -- it wasn't in the order
    pub ordered-left : is_current (rows r) ≡ false → is_current new ≡ false → (q : ℕ) → has itself q order ≡ is_current (new_rows q)
    ordered-left was is q = good.ordered q ∙ elim (cases_Bool (eqb r q)) [
      | inl on ↦ rw (changes q, on) (ap is_current (sym (here q on)) ∙ (was ∙ sym is))
      | inr off ↦ rw (changes q, off) refl
    ]

    -- it is taken out of the order
    pub ordered-out : is_current new ≡ false → (q : ℕ) → has itself q (without itself r order) ≡ is_current (new_rows q)
    ordered-out is q = elim (cases_Bool (eqb r q)) [
      | inl on ↦ rw (changes q, on) (not-itself q on ∙ sym is)
      | inr off ↦ rw (changes q, off) (others q off)
    ]

    -- it is put first
    pub ordered-more : is_current new ≡ true → (q : ℕ) → has itself q (r ∷ order) ≡ is_current (new_rows q)
    ordered-more is q = elim (cases_Bool (eqb r q)) [
      | inl on ↦ rw (changes q, on) (sym is)
      | inr off ↦ rw (changes q, off) (good.ordered q)
    ]

-- WHAT A ROW ADMITS

current-kept : (c : ℕ) (row : Row) (o : Option Held) → admits c (option_map (kept_of row) o) ≡ true → (is_current (Some row) ≡ true) ×
    (has itself c row.bound ≡ false)
current-kept c row None admits = absurd (let never : false ≡ true = admits in cc)
current-kept c row (Some held) admits =
    let parts = and_parts (not row.is_gone) (not (has itself c row.bound)) admits in
    (parts.0, not_true (has itself c row.bound) parts.1)

-- it is current, and the consumer isn't bound to it
pub admits-row : (slots : Slots) (c : ℕ) (o : Option Row) → admits c (kept_by slots o) ≡ true → (n : ℕ) × (slot_at o ≡ Some n) × (is_current o ≡ true) ×
    (has itself c (users_at o) ≡ false)
admits-row slots c None admits = absurd (let never : false ≡ true = admits in cc)
admits-row slots c (Some row) admits = let is = current-kept c row (slots row.slot) admits in (row.slot, refl, is.0, is.1)

admits-too : (c : ℕ) (o : Option Kept) → admits_first c o ≡ true → admits c o ≡ true
admits-too c None first = first
admits-too c (Some k) first = (and_parts (not k.is_gone && not (has itself c k.bound)) (is_none k.first) first).0

pub admits-from_first : (slots : Slots) (c : ℕ) (o : Option Row) → admits_first c (kept_by slots o) ≡ true → admits c (kept_by slots o) ≡ true
admits-from_first slots c o first = admits-too c (kept_by slots o) first

-- one that has a user is there
pub user-slot : (slots : Slots) (c : ℕ) (o : Option Row) → has_user c (kept_by slots o) ≡ true → (n : ℕ) × (slot_at o ≡ Some n)
user-slot slots c None has = absurd (let never : false ≡ true = has in cc)
user-slot slots c (Some row) has = (row.slot, refl)

pub absent-user : (c : ℕ) (o : Option Row) (a : Row) → o ≡ Some a → has itself c (users_at o) ≡ false → has itself c a.bound ≡ false
absent-user c None a is absent = cc
absent-user c (Some row) a is absent = let e : row ≡ a = cc in ap (λ (b : Row). has itself c b.bound) (sym e) ∙ absent

-- A ROW THAT GOES

-- a row keeps its slot
pub slot-before : (f : Row → Row) → ((a : Row) → (f a).slot ≡ a.slot) → (o p : Option Row) (n : ℕ) → p ≡ option_map f o → slot_at p ≡ Some n →
    slot_at o ≡ Some n
slot-before f keeps None p n is slot = sym (ap slot_at is) ∙ slot
slot-before f keeps (Some a) p n is slot = ap Some (sym (keeps a)) ∙ (sym (ap slot_at is) ∙ slot)

module _ (rows : Rows) {new_rows : Rows} (r : ℕ) (f : Row → Row) (changes : Changes f r rows new_rows) where
  pub row-after : new_rows r ≡ option_map f (rows r)
  row-after = changes r ∙ (let e : eqb r r ≡ true = grind (arith, nat_tests) in rw e refl)

  -- it changes, and then it goes
  pub gone-after : {last : Rows} → ((q : ℕ) → last q ≡ with_row r None new_rows q) → (q : ℕ) → last q ≡ with_row r None rows q
  gone-after drops q = drops q ∙ elim (cases_Bool (eqb r q)) [
    | inl same ↦ rw same refl
    | inr off ↦ rw off (changes q ∙ rw off refl)
  ]

  over-after : (a : Row) → rows r ≡ Some a → is_over (new_rows r) ≡ is_over (Some (f a))
  over-after a is = ap is_over (row-after ∙ ap (option_map f) is)

-- it isn't over once it is gone: somebody is bound
pub used-gone : (rows : Rows) {new_rows : Rows} (r : ℕ) → Changes going r rows new_rows → is_over (new_rows r) ≡ false → (a : Row) → rows r ≡ Some a →
    is_nobody a.bound ≡ false
used-gone rows r changes over a is = sym (over-after rows r going changes a is) ∙ over

-- it isn't over once one has left
pub kept-left : (rows : Rows) {new_rows : Rows} (r c : ℕ) → Changes (unused_by c) r rows new_rows → is_over (new_rows r) ≡ false → (a : Row) → rows r ≡ Some a
    → a.is_gone && is_nobody (without itself c a.bound) ≡ false
kept-left rows r c changes over a is = sym (over-after rows r (unused_by c) changes a is) ∙ over

gone-by : (c : ℕ) (o : Option Row) → is_over (option_map (unused_by c) o) ≡ true → is_current o ≡ false
gone-by c None over = refl
gone-by c (Some a) over = ap not (and_parts a.is_gone (is_nobody (without itself c a.bound)) over).0

-- it is over once one has left: it was gone
pub gone-left : (rows : Rows) {new_rows : Rows} (r c : ℕ) → Changes (unused_by c) r rows new_rows → is_over (new_rows r) ≡ true → is_current (rows r) ≡ false
gone-left rows r c changes over = gone-by c (rows r) (sym (ap is_over (row-after rows r (unused_by c) changes)) ∙ over)

none-kept : (slots : Slots) (o : Option Row) → ((row : Row) → o ≡ Some row → IsShelved (slots row.slot) row) → kept_by slots o ≡ None → o ≡ None
none-kept slots None each none = refl
none-kept slots (Some row) each none = absurd (never (slots row.slot) (each row refl).live none) where
  never : (h : Option Held) → is_some h ≡ true → option_map (kept_of row) h ≡ None → ⊥
  never None live none = let e : false ≡ true = live in cc
  never (Some held) live none = cc

-- nothing is kept of what has no row
pub no-row : {rows : Rows} {order : List ℕ} {slots : Slots} → AreShelved rows order slots → (r : ℕ) → kept_by slots (rows r) ≡ None → rows r ≡ None
no-row {rows} {order} {slots} good r none = none-kept slots (rows r) (good.each r) none
