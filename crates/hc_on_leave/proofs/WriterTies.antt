-- Who writes what is stored alone, by what is kept, is who does by the tables.
--
-- That is who came alone, has no failure due, and has more to come. More is to come if an exchange of its own is open,
-- or a byte before its known end isn't stored (`more_own`, `more_none`, `more_ahead`). The entry keeps who came alone,
-- and the tables have that consumer (`alone_row`). What is written for several nobody writes alone
-- (`exclusive_written`). `exclusive`, `kind_of` and `has_more` use these, case by case.
use Rattle.std.{proofs.{Common.{◌≡◌, ◌⊎◌, inl, inr, ℕ, ◌+◌, ◌<◌, ◌≤◌, ◌^◌, Bool, true, false, max, Option, Some, None, refl, ap, sym, ◌∙◌, subst, arith}, lemmas.Bool.Decides.{nat_tests}}, specs.{Prelude.{is_some, nat_eq, not, ◌&&◌, ◌↔◌, IsTrue}, Option.{option_and_then, option_map}, HashMap.{get}}}
use Rattle.hc_text.proofs.Basics.{eqb-same, false_true, some_inj as some_is}
use Rattle.hc_effects.proofs.Vocabulary.{Limits, Place, BoundBy, is_number, own_open, if_open, is_written, is_bound_place, offset, lo_of, Numbers, Tables, Representation, IsFirst, IsBound, exclusive, has_more, lacks_some, came_alone, place}
use Rattle.hc_store.specs.declared.backend.Backend.{Ghosts}
use Rattle.hc_sparse.specs.Cells.{Covers}
use Rattle.hc_stored.specs.{declared.view.EntryView.{EntryView}, Entries.{shelf_of}, Kept.{Kept}, Shelf.{cells_at, cells_in, is_kept}, Views.{view_of}}
use Rattle.hc_exch.specs.{Exchanges.{table_of}, Known.{Table}}
use Rattle.hc_model.specs.Rows as rows
use Rattle.hc_model.specs.Sound as sound
use Rattle.hc_effects.proofs.Exclusives.{exclusive_parts}
use Rattle.hc_state.specs.{declared.rows.Rows.{Rows}, Facts.{Facts}, Kept.{IsKept, KeepsConsumer}, Leaving.{if_running, group_by, writer_group_of}, Stands.{RowsStand}, Stored.{IsEntry, is_first}}
use Rattle.hc_txn.specs.declared.transaction.Transaction.{Transaction as Consumer}
use Rattle.hc_state.proofs.{CurrentTies.{stored_ends, covers_as, kept_entry, viewed_entry}, LeftRows.{running_as, group_as}}

-- WHAT IS TOLD

-- by what is told of q, the exchange of its writer group is that of what is kept
pub written_by : (table : Table) (o : Option Kept) (reported : EntryView) → option_map view_of o ≡ Some reported →
    group_by table reported ≡ writer_group_of table o
written_by table o reported is =
    let (e, kept, seen) = viewed_entry o reported is in
    ap (group_by table) (sym seen) ∙ ap (writer_group_of table) (sym kept)

-- HAS MORE

module _ {B : Type 0} {g : Ghosts B} {limits : Limits} (r : Rows B g) (t : Tables) (stands : RowsStand limits r t) (k : Consumer) (v : rows.Consumer)
    (kept : IsKept t k v) (p : Representation) where
  own_as : if_running (table_of r.exchanges) k.own ≡ own_open t v
  own_as = running_as r t stands k.own ∙ ap (option_and_then (if_open t)) kept.own

  offset_as : k.lo + k.given ≡ offset t v
  offset_as = ap (λ (n : ℕ). n + k.given) kept.begins ∙ ap (λ (n : ℕ). lo_of t v.place + n) kept.given

  -- an exchange of its own is open
  pub more_own : is_some (if_running (table_of r.exchanges) k.own) ≡ true → true ≡ has_more t p v
  more_own on = rw (sym (ap (λ (o : Option ℕ). is_some o) own_as) ∙ on) refl

  -- none is, and its end isn't known
  pub more_none : is_some (if_running (table_of r.exchanges) k.own) ≡ false → k.hi ≡ None → false ≡ has_more t p v
  more_none off none = rw (sym (ap (λ (o : Option ℕ). is_some o) own_as) ∙ off, sym kept.ends ∙ none) refl

  pub more_ahead : (law : Facts limits t) (q : ℕ) → t.representation q ≡ Some p → p.is_lost ≡ false → is_kept (shelf_of r.entries) q ≡ true →
      is_some (if_running (table_of r.exchanges) k.own) ≡ false → (hi : ℕ) → k.hi ≡ Some hi
      → (b : Bool) → (IsTrue b ↔ Covers (cells_at (shelf_of r.entries) q) (k.lo + k.given) hi) → not b ≡ has_more t p v
  more_ahead facts q here stays there off hi at b reports =
      let entry = kept_entry r t stands q p here there in
      let covered = covers_as t q entry.0 p entry.2 (stored_ends t facts.law q p here stays) b (k.lo + k.given) hi
      (subst (λ (o : Option Kept). IsTrue b ↔ Covers (λ n. cells_in o n) (k.lo + k.given) hi) entry.1 reports) in
      ap not covered ∙ (ap (λ (n : ℕ). lacks_some p n (Some hi)) offset_as ∙ rw (sym (ap (λ (o : Option ℕ). is_some o) own_as) ∙ off, sym kept.ends ∙ at) refl)

-- THE EXCLUSIVE WRITER

module _ {B : Type 0} {g : Ghosts B} {limits : Limits} (r : Rows B g) (t : Tables) (facts : Facts limits t) (stands : RowsStand limits r t) (q : ℕ)
    (p : Representation) (here : t.representation q ≡ Some p) where
  none_by : (o : Option ℕ) → exclusive t q p ≡ o → ((c : ℕ) → exclusive t q p ≡ Some c → ⊥) → None ≡ exclusive t q p
  none_by o at off = grind (arith, nat_tests)

  -- nobody writes alone what is written for several
  pub exclusive_written : is_some (writer_group_of (table_of r.exchanges) ((shelf_of r.entries).kept q)) ≡ true → None ≡ exclusive t q p
  exclusive_written on = none_by (exclusive t q p) refl (λ c at. (
      let parts = exclusive_parts t q c p at in
      let off : writer_group_of (table_of r.exchanges) ((shelf_of r.entries).kept q) ≡ None = group_as r t stands facts.law q ∙
      rw (here, parts.unwritten) refl in
      (let never : false ≡ true = rw off at on in cc)))

  -- a writer group is on just where one is by what is kept
  pub written_on : is_some (writer_group_of (table_of r.exchanges) ((shelf_of r.entries).kept q)) ≡ true → is_written t p ≡ true
  written_on on = by_test (is_written t p) refl
    where
      by_test : (b : Bool) → is_written t p ≡ b → b ≡ true
      by_test true is = refl
      by_test false is =
          let off : writer_group_of (table_of r.exchanges) ((shelf_of r.entries).kept q) ≡ None = group_as r t stands facts.law q ∙ rw (here, is) refl in
          false_true (sym (ap (λ (o : Option ℕ). is_some o) off) ∙ on)

  pub written_off : is_some (writer_group_of (table_of r.exchanges) ((shelf_of r.entries).kept q)) ≡ false → is_written t p ≡ false
  unfolding is_written
  written_off off = by_test (is_written t p) refl
    where
      by_writer : (o : Option ℕ) → p.writer ≡ o → is_written t p ≡ true → is_some p.writer ≡ true
      by_writer None none on = (let never : (not p.is_lost && false) ≡ true = rw none at on in false_true (and_none (not p.is_lost) never))
        where
          and_none : (b : Bool) → (b && false) ≡ true → false ≡ true
          and_none true on = on
          and_none false on = on
      by_writer (Some x) some on = rw some refl

      by_test : (b : Bool) → is_written t p ≡ b → b ≡ false
      by_test false is = refl
      by_test true is =
          let same : writer_group_of (table_of r.exchanges) ((shelf_of r.entries).kept q) ≡ p.writer = group_as r t stands facts.law q ∙ rw (here, is) refl in
          false_true (sym off ∙ (ap (λ (o : Option ℕ). is_some o) same ∙ by_writer p.writer refl is))

  module _ (e : Kept) (is : IsEntry t q e p) where
    first_on : (c : ℕ) → IsFirst t q c → is_number e.first c ≡ true
    first_on c it1 = grind (arith, nat_tests)

    first_is : (c : ℕ) → e.first ≡ Some c → is_first t q (t.consumer c) ≡ true
    first_is c at = sym (is.first c) ∙ (ap (λ (o : Option ℕ). is_number o c) at ∙ eqb-same c)

    -- who came alone is there
    pub record IsAlone (c : ℕ) : Type 0 where
      pub v : rows.Consumer
      pub row : t.consumer c ≡ Some v
      pub lo : ℕ
      pub hi : Option ℕ
      pub by : BoundBy
      pub at : v.place ≡ place.Bound q lo hi by
      pub came : came_alone t (place.Bound q lo hi by) ≡ true

    alone_there : (c : ℕ) (o : Option rows.Consumer) → t.consumer c ≡ o → is_first t q o ≡ true → IsAlone c
    alone_there c None row on = false_true on
    alone_there c (Some v) row on = by_place v.place refl (and_parts (is_bound_place q v.place) (came_alone t v.place) on)
      where
        and_parts : (a b : Bool) → (a && b) ≡ true → (a ≡ true) × (b ≡ true)
        and_parts true b on = (refl, on)
        and_parts false b on = false_true on

        by_place : (z : Place) → v.place ≡ z → (is_bound_place q v.place ≡ true) × (came_alone t v.place ≡ true) → IsAlone c
        by_place (place.Bound a lo hi by) at both =
            let one : a ≡ q = grind (arith, nat_tests, (sym (ap (is_bound_place q) at) ∙ both.0)) in
            let here_at : v.place ≡ place.Bound q lo hi by = at ∙ ap (λ (n : ℕ). place.Bound n lo hi by) one in
            record { v = v; row = row; lo = lo; hi = hi; by = by; at = here_at; came = sym (ap (came_alone t) here_at) ∙ both.1 }
        by_place _ at both = false_true (sym (ap (is_bound_place q) at) ∙ both.0)

    pub alone_row : (c : ℕ) → e.first ≡ Some c → IsAlone c
    alone_row c at = alone_there c (t.consumer c) refl (first_is c at)

    is_the_first : (c : ℕ) (a : IsAlone c) → IsFirst t q c
    is_the_first c a = sound.first a.v a.lo a.hi a.by a.row a.at a.came

    -- who came alone, has nothing due and more to come, writes alone
    pub exclusive_some : (c : ℕ) (a : IsAlone c) → p.is_lost ≡ false →
        is_some (writer_group_of (table_of r.exchanges) ((shelf_of r.entries).kept q)) ≡ false → a.v.due ≡ None → has_more t p a.v ≡ true →
        Some c ≡ exclusive t q p
    exclusive_some c a stays off undue more = sym ((facts.law.alone.writes q c p a.v here stays (written_off off) (is_the_first c a) a.row undue).1 more)

    -- else nobody does
    pub exclusive_off : (c : ℕ) (a : IsAlone c) → ((a.v.due ≡ None) × (has_more t p a.v ≡ true) → ⊥) → None ≡ exclusive t q p
    exclusive_off c a off = none_by (exclusive t q p) refl (λ d at. (
        let parts = exclusive_parts t q d p at in
        let one : d ≡ c = facts.law.sound.writes.one_first q d c parts.first (is_the_first c a) in
        let same : parts.k ≡ a.v = by_reader d parts.k parts.reader one in
        off (ap (λ (z : rows.Consumer). z.due) (sym same) ∙ parts.none_due, ap (has_more t p) (sym same) ∙ parts.more)))
      where
        by_reader : (d : ℕ) (j : rows.Consumer) → IsBound t q d j → d ≡ c → j ≡ a.v
        by_reader d j (sound.is_bound lo hi by row at) one = some_is j a.v (sym row ∙ (ap t.consumer one ∙ a.row))

    -- where it stands is in range
    pub alone_below : (c : ℕ) (a : IsAlone c) (k : Consumer) → get nat_eq r.consumers c ≡ Some k → Numbers t → t.received < 2 ^ 62 → k.lo + k.given < 2 ^ 63
    alone_below c a k there numbers few =
        let kept : IsKept t k a.v = subst (KeepsConsumer t (Some k)) a.row (subst (λ o. KeepsConsumer t o (t.consumer c)) there (stands.consumers c)) in
        let begins : k.lo ≡ a.lo = kept.begins ∙ ap (lo_of t) a.at in
        let given = kept.given in
        let starts : a.lo ≤ max (2 ^ 62) t.received = numbers.starts c q a.lo a.hi a.by a.v a.row a.at in
        let reaches : p.reach ≤ max (2 ^ 62) t.received = numbers.reaches q p here in
        below k.lo k.given a.lo a.v.given p.reach t.received begins given starts reaches few (facts.law.given.reaches c q a.lo a.hi a.by a.v p a.row a.at here)
      where
        below : (lo given from n reach received : ℕ) → lo ≡ from → given ≡ n → from ≤ max (2 ^ 62) received → reach ≤ max (2 ^ 62) received →
            received < 2 ^ 62 → (n ≡ 0) ⊎ (from + n ≤ reach) → lo + given < 2 ^ 63
        below lo given from n reach received a b c d e (inl none) = omega arith
        below lo given from n reach received a b c d e (inr le) = omega arith
