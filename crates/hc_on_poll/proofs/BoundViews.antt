-- What the reading of who is bound looks at is what the tables have, and its step is theirs.
--
-- Item by item: where it stands, what is stored ahead, the next stored byte (`next_as`), who brings more (`source_is`),
-- and what is held. The last has the work. Something is held just for who goes on alone with what was lost, of its own
-- exchange. Where it stands before no stored byte, that is the rest of the body that came (`Holds`). By that both tell
-- alike whether something is held (`held_same`, `holds_something`). `BoundReads` joins these.
use Rattle.std.{proofs.{Common.{◌≡◌, inl, inr, ℕ, zero, suc, ◌+◌, ◌-◌, ◌<◌, ◌≤◌, List, [], ◌∷◌, length, drop, take, min, Bool, true, false, Option, Some, None, refl, ap, ap₂, sym, ◌∙◌, arith}, lemmas.Bool.{cases_Bool, Decides.{nat_tests}}}, specs.{Prelude.{is_some, is_none, nat_eq, nat_lt, option_and_then, ◌&&◌, if◌then◌else◌}, Option.{option_or}}}
use Rattle.hc_text.proofs.Basics.{and_both as both_true, eqb-same, false_true, lt_cases as lt_or, same_or, same_some as same_row, some_inj as some_is}
use Rattle.hc_effects.proofs.Vocabulary.{Limits, BoundBy, Place, is_number, row_of, base, front, family, stretch_to, next_from, first_place, absent_from, HoldsOwn, MayDeliver, offset, if_open, source, shared_exchange, bound_to, is_bound_place, Tables, Exchange, Representation, IsBound, run_held_for, held_at, stored_ahead, stored_from, next_stored, bound_row, run_of, held_of_lost, place}
use Rattle.hc_store.specs.declared.backend.Backend.{Ghosts}
use Rattle.hc_sparse.specs.{Cells.{Cells, Cell, EndsBy, IsNext, AreAbsent}, Stretch.{stretch, stretch_of}, declared.run.Run.{Run}}
use Rattle.hc_stored.specs.{Entries.{shelf_of}, Shelf.{cells_at, cells_in}}
use Rattle.hc_stored.specs.Kept as entry
use Rattle.hc_exch.specs.Exchanges.{table_of}
use Rattle.hc_model.specs.Origins as origins
use Rattle.hc_model.specs.Rows as rows
use Rattle.hc_model.specs.Sound as sound
use Rattle.hc_effects.proofs.{Basics.{same_functions, some_row, number_is as is_it}, HoleLemmas.{first_from, first_before, first_passes}, Tests.{none_some}}
use Rattle.hc_state.specs.{declared.rows.Rows.{Rows}, Facts.{Facts}, Kept.{held_for, held_of, held_alone, unread, unstored_bytes, first_lacking}, Leaving.{if_running, writer_group_of}, Reads.{goes_alone, held_own}, Stands.{RowsStand}, Stored.{IsEntry}}
use Rattle.hc_txn.specs.declared.transaction.Transaction.{Transaction as Consumer}
use Rattle.hc_state.proofs.LeftRows.{running_as, group_as}
use Rattle.hc_on_poll.proofs.{ReadLemmas.{run_some}, ShowStored.{IsBoundRow, bound_entry, bound_kept}}

-- THE NEXT BYTE

some_not : {P : Type 0} (o : Option Cell) → o ≡ None → is_some o ≡ true → P
some_not o none on = false_true (sym (ap (λ (z : Option Cell). is_some z) none) ∙ on)

module _ (f : Cells) (reach p : ℕ) (ends : EndsBy reach f) where
  abbrev a : ℕ
  a = first_place is_some f p (reach - p)

  none_next : EndsBy p f → (b : Bool) → nat_lt a reach ≡ b → None ≡ (if b then Some a else None)
  none_next all false is = refl
  none_next all true is =
      let lt : a < reach = grind (arith, nat_tests, is) in
      let low = first_from is_some f p (reach - p) in
      some_not (f a) (all a low) (first_passes is_some f p (reach - p) (omega (arith, lt, low)))

  some_next : (n : ℕ) → p ≤ n → is_some (f n) ≡ true → AreAbsent f p n → (b : Bool) → nat_lt a reach ≡ b → Some n ≡ (if b then Some a else None)
  some_next n low on absent b is =
      let inside : n < reach = elim (lt_or n reach) [
        | inl lt ↦ lt.1
        | inr past ↦ some_not (f n) (ends n past.1) on
      ] in
      let up : a ≤ n = elim (lt_or n a) [
        | inl before ↦ false_true (sym (first_before is_some f p (reach - p) n low before.1) ∙ on)
        | inr le ↦ le.1
      ] in
      let from = first_from is_some f p (reach - p) in
      let there : is_some (f a) ≡ true = first_passes is_some f p (reach - p) (omega (arith, up, inside, from)) in
      let same : a ≡ n = elim (lt_or a n) [
        | inl before ↦ some_not (f a) (absent a from before.1) there
        | inr le ↦ (let low_a = le.1 in omega (arith, up, low_a))
      ] in
      ap Some (sym same) ∙ by_test b (sym is ∙ grind (arith, nat_tests, same, inside))
    where
      by_test : (z : Bool) → z ≡ true → Some a ≡ (if z then Some a else None)
      by_test true on = refl
      by_test false on = false_true on

  -- the next stored byte is that of the tables
  pub next_is : (next : Option ℕ) → IsNext f p next → next ≡ next_from f reach p
  next_is None all = none_next all (nat_lt a reach) refl
  next_is (Some n) it = some_next n it.0 it.1 it.2 (nat_lt a reach) refl

pub next_as : (f h : Cells) (reach p : ℕ) (next : Option ℕ) → EndsBy reach f → ((q : ℕ) → h q ≡ f q) → IsNext h p next → next ≡ next_from f reach p
next_as f h reach p None ends same all = next_is f reach p ends None (λ q le. sym (same q) ∙ all q le)
next_as f h reach p (Some n) ends same it =
    next_is f reach p ends (Some n) (it.0, ap (λ (z : Option Cell). is_some z) (sym (same n)) ∙ it.1, λ q low up. sym (same q) ∙ it.2 q low up)

-- WHAT IS HELD

module _ {B : Type 0} {g : Ghosts B} {limits : Limits} (r : Rows B g) (t : Tables) (facts : Facts limits t) (stands : RowsStand limits r t) (c q : ℕ)
    (how : BoundBy) (k : Consumer) (rd : IsBoundRow t c q how k) where
  -- what is stored ends where all of it does
  pub stored_ends : EndsBy rd.p.reach rd.p.stored
  stored_ends n le = by_cell (rd.p.stored n) refl
    where
      by_cell : (o : Option Cell) → rd.p.stored n ≡ o → rd.p.stored n ≡ None
      by_cell None at = at
      by_cell (Some cell) at =
          let store = (facts.law.sound.rows q rd.p rd.there).store in
          store.some_stored n (ap (λ (z : Option Cell). is_some z) at) ∙ store.ends n le

  -- of what isn't of this body nothing is held for it
  held_else : (x : ℕ) (w : Exchange) → rd.v.own ≡ Some x → t.exchange x ≡ Some w → (family x w ≡ q → ⊥) → held_for t x (Some w) ≡ []
  held_else x w own ex apart = by_row (t.representation (family x w)) refl
    where
      by_place : (d : ℕ) (u : rows.Consumer) (z : _) → t.consumer d ≡ Some u → u.place ≡ z → unread x w (Some u) ≡ []
      by_place d u (place.Direct y) row at = by_test (nat_eq y x) refl
        where
          by_test : (b : Bool) → nat_eq y x ≡ b → unread x w (Some u) ≡ []
          by_test false off = rw (at, off) refl
          by_test true on =
              let one : y ≡ x = grind (arith, nat_tests, on) in
              let past = facts.law.places.direct d y u row at in
              let mine : d ≡ c = facts.law.owned.one d c x u rd.v row rd.row (past.own ∙ ap Some one) own in
              let same : u ≡ rd.v = same_row (t.consumer c) u rd.v (sym (ap t.consumer mine) ∙ row) rd.row in
              absurd (let never : place.Direct y ≡ place.Bound q rd.lo rd.hi how = sym at ∙ (ap (λ (z : rows.Consumer). z.place) same ∙ rd.at) in cc)
      by_place d u _ row at = rw at refl

      by_reader : (d : ℕ) (o : Option rows.Consumer) → t.consumer d ≡ o → unread x w o ≡ []
      by_reader d None row = refl
      by_reader d (Some u) row = by_place d u u.place row refl

      and_parts : (a b : Bool) → (a && b) ≡ true → (a ≡ true) × (b ≡ true)
      and_parts true b on = (refl, on)
      and_parts false b on = false_true on

      is_it : (o : Option ℕ) → is_number o x ≡ true → o ≡ Some x
      is_it None on = false_true on
      is_it (Some n) on = let one : n ≡ x = grind (arith, nat_tests, on) in ap Some one

      bound_there : (u : rows.Consumer) → is_bound_place (family x w) u.place ≡ true → u ≡ rd.v → family x w ≡ q
      bound_there u on same =
          let at : is_bound_place (family x w) (place.Bound q rd.lo rd.hi how) ≡ true =
          sym (ap (λ (z : rows.Consumer). is_bound_place (family x w) z.place) same ∙ ap (is_bound_place (family x w)) rd.at) ∙ on in
          grind (arith, nat_tests, at)

      by_owner : (p : Representation) (d : ℕ) (o : Option rows.Consumer) → t.consumer d ≡ o → unstored_bytes t x w p o ≡ []
      by_owner p d None row = refl
      by_owner p d (Some u) row = elim (cases_Bool (is_bound_place (family x w) u.place && is_number u.own x)) [
        | inl on ↦
            let parts = and_parts (is_bound_place (family x w) u.place) (is_number u.own x) on in
            let mine : d ≡ c = facts.law.owned.one d c x u rd.v row rd.row (is_it u.own parts.1) own in
            let same : u ≡ rd.v = same_row (t.consumer c) u rd.v (sym (ap t.consumer mine) ∙ row) rd.row in
            absurd (apart (bound_there u parts.0 same))
        | inr off ↦ rw off refl
      ]

      by_alone : (p : Representation) (o : Option ℕ) → held_alone t x w p o ≡ []
      by_alone p None = refl
      by_alone p (Some d) = by_owner p d (t.consumer d) refl

      by_row : (o : Option Representation) → t.representation (family x w) ≡ o → held_of t x w o ≡ []
      by_row None at = by_reader w.c (t.consumer w.c) refl
      by_row (Some p) at = by_alone p p.alone

-- what it holds is of its own exchange
pub unstored_own : (t : Tables) (x : ℕ) (w : Exchange) (p : Representation) (v : rows.Consumer) (q lo : ℕ) (hi : Option ℕ) (how : BoundBy) →
    v.place ≡ place.Bound q lo hi how → v.own ≡ Some x → family x w ≡ q → unstored_bytes t x w p (Some v) ≡ drop (first_lacking t w p v - base w) w.body
unstored_own t x w p v q lo hi how at own of_q =
    let bound : is_bound_place (family x w) v.place ≡ true = ap (is_bound_place (family x w)) at ∙ (ap (nat_eq q) of_q ∙ eqb-same q) in
    let mine : is_number v.own x ≡ true = ap (λ (o : Option ℕ). is_number o x) own ∙ eqb-same x in
    rw (bound, mine) refl

-- and none of it is past the store
pub unread_bound : (x : ℕ) (w : Exchange) (v : rows.Consumer) (q lo : ℕ) (hi : Option ℕ) (how : BoundBy) → v.place ≡ place.Bound q lo hi how →
    unread x w (Some v) ≡ []
unread_bound x w v q lo hi how at = rw at refl

-- what was lost is read from what came
pub lost_run : (c o n : ℕ) (p : Representation) → p.is_lost ≡ true → is_number p.alone c ≡ true → held_of_lost c o n (Some p) ≡ stretch_to p.body p.reach o n
lost_run c o n p lost mine = rw (lost, mine) refl

-- where nothing is, that is the first place that lacks something
first_here : (f : Cells) (p n : ℕ) → f p ≡ None → first_place is_none f p n ≡ p
first_here f p zero none = refl
first_here f p (suc n) none = rw none refl

pub absent_here : (f : Cells) (reach lo hi : ℕ) → f lo ≡ None → absent_from f reach lo hi ≡ lo
absent_here f reach lo hi none = first_here f lo (min hi reach - lo) none

-- a stretch begins with a byte of its exchange
begins_with : (f : Cells) (p n : ℕ) (run : Run) → stretch f p n ≡ Some run → (cell : Cell) × (f p ≡ Some cell) × (cell.x ≡ run.x)
unfolding stretch
begins_with f p n run is = by_cell (f p) refl
  where
    by_cell : (o : Option Cell) → f p ≡ o → (cell : Cell) × (f p ≡ Some cell) × (cell.x ≡ run.x)
    by_cell None at = none_some run (sym (ap (stretch_of f p n) at) ∙ is)
    by_cell (Some cell) at = (cell, at, ap (λ (z : Run). z.x) (some_is _ run (sym (ap (stretch_of f p n) at) ∙ is)))

run_x : (x o : ℕ) (bytes : List ℕ) (run : Run) → run_of x o bytes ≡ Some run → run.x ≡ x
run_x x o [] run is = none_some run is
run_x x o (b ∷ bytes) run is = ap (λ (z : Run). z.x) (sym (some_is _ run is))

-- what is held for the detached reader, of its own exchange
pub record Holds {B : Type 0} {g : Ghosts B} (r : Rows B g) (t : Tables) (c q : ℕ) (k : Consumer) (v : rows.Consumer) (p : Representation) : Type 0 where
  pub x : ℕ
  pub w : Exchange
  pub own : k.own ≡ Some x
  pub row : t.exchange x ≡ Some w
  pub of_q : family x w ≡ q
  pub lost : p.is_lost ≡ true
  pub alone : p.alone ≡ Some c
  pub known : (table_of r.exchanges x).held ≡ drop (k.lo + k.given - base w) w.body
  pub runs : (n : ℕ) → 0 < n → run_held_for t c v n ≡ run_of x (k.lo + k.given) (take n (drop (k.lo + k.given - base w) w.body))
  pub after_base : base w ≤ k.lo + k.given
  pub before_front : k.lo + k.given < front w
  pub lacks : (n : ℕ) → k.lo + k.given ≤ n → n < front w → p.stored n ≡ None

-- WHAT IS LOOKED AT

module _ {B : Type 0} {g : Ghosts B} {limits : Limits} (r : Rows B g) (t : Tables) (facts : Facts limits t) (stands : RowsStand limits r t) (c q : ℕ)
    (how : BoundBy) (k : Consumer) (rd : IsBoundRow t c q how k) where
  abbrev o : ℕ
  o = k.lo + k.given

  pub offset_is : o ≡ offset t rd.v
  offset_is = ap₂ (λ (a b : ℕ). a + b) rd.kept.begins rd.kept.given

  pub entry_there : (e : entry.Kept) × ((shelf_of r.entries).kept q ≡ Some e)
  entry_there = some_row ((shelf_of r.entries).kept q) (bound_kept r t facts.law c q how k stands rd)

  pub entry_is : IsEntry t q entry_there.0 rd.p
  entry_is = bound_entry r t q entry_there.0 rd.p stands entry_there.1 rd.there

  pub cells_are : cells_at (shelf_of r.entries) q ≡ rd.p.stored
  cells_are = same_functions (cells_at (shelf_of r.entries) q) rd.p.stored (λ n. ap (λ (z : Option entry.Kept). cells_in z n) entry_there.1 ∙ entry_is.cells n)

  pub ends_by : EndsBy rd.p.reach rd.p.stored
  ends_by = stored_ends r t facts stands c q how k rd

  pub bound_at : bound_row t rd.v ≡ Some rd.p
  bound_at = ap (λ (z : Place). row_of t (bound_to z)) rd.at ∙ rd.there

  pub ahead_is : (n : ℕ) → stored_ahead t rd.v n ≡ stretch_to rd.p.stored rd.p.reach o n
  ahead_is n = ap (option_and_then (stored_from (offset t rd.v) n)) bound_at ∙ ap (λ (m : ℕ). stretch_to rd.p.stored rd.p.reach m n) (sym offset_is)

  pub next_ahead : next_stored t rd.v ≡ next_from rd.p.stored rd.p.reach o
  next_ahead = ap (option_and_then (λ (z : Representation). next_from z.stored z.reach (offset t rd.v))) bound_at ∙
      ap (λ (m : ℕ). next_from rd.p.stored rd.p.reach m) (sym offset_is)

  pub held_is : (n : ℕ) → run_held_for t c rd.v n ≡ held_of_lost c o n (Some rd.p)
  held_is n = ap (held_at t c (offset t rd.v) n) rd.at ∙
      (ap (held_of_lost c (offset t rd.v) n) rd.there ∙ ap (λ (m : ℕ). held_of_lost c m n (Some rd.p)) (sym offset_is))

  pub source_is : source t rd.v ≡ option_or (if_running (table_of r.exchanges) k.own) (writer_group_of (table_of r.exchanges) ((shelf_of r.entries).kept q))
  source_is = ap₂ option_or (sym (running_as r t stands k.own ∙ ap (option_and_then (if_open t)) rd.kept.own))
      (ap (shared_exchange t) rd.at ∙ sym (group_as r t stands facts.law q))

  -- WHO HOLDS SOMETHING

  abbrev lone : Bool
  lone = rd.p.is_lost && is_number rd.p.alone c

  pub lone_is : goes_alone c ((shelf_of r.entries).kept q) ≡ lone
  lone_is = ap (goes_alone c) entry_there.1 ∙ ap₂ (λ (a : Bool) (z : Option ℕ). a && is_number z c) entry_is.is_lost entry_is.alone

  reader : IsBound t q c rd.v
  reader = sound.is_bound rd.lo rd.hi how rd.row rd.at

  module _ (on : lone ≡ true) (missing : rd.p.stored o ≡ None) where
    parts : (rd.p.is_lost ≡ true) × (is_number rd.p.alone c ≡ true)
    parts = both_true rd.p.is_lost (is_number rd.p.alone c) on

    alone_is : rd.p.alone ≡ Some c
    alone_is = is_it rd.p.alone c parts.1

    pub h : HoldsOwn t c rd.p rd.v
    h = facts.losses.alone q c rd.p rd.v rd.there alone_is reader

    here : rd.p.stored (offset t rd.v) ≡ None
    here = ap rd.p.stored (sym offset_is) ∙ missing

    abbrev left : List ℕ
    left = drop (o - base h.w) h.w.body

    own_runs : (n : ℕ) → 0 < n → run_held_for t c rd.v n ≡ run_of h.x o (take n left)
    own_runs n pos = h.next here n pos ∙ ap (λ (m : ℕ). run_of h.x m (take n (drop (m - base h.w) h.w.body))) (sym offset_is)

    held_row : (table_of r.exchanges h.x).held ≡ held_for t h.x (Some h.w)
    held_row = (stands.exchanges h.x).held ∙ ap (held_for t h.x) h.row

    own_held : family h.x h.w ≡ q → (table_of r.exchanges h.x).held ≡ left
    own_held of_q =
        let there : t.representation (family h.x h.w) ≡ Some rd.p = ap t.representation of_q ∙ rd.there in
        let all : unstored_bytes t h.x h.w rd.p (Some rd.v) ≡ drop (first_lacking t h.w rd.p rd.v - base h.w) h.w.body =
        unstored_own t h.x h.w rd.p rd.v q rd.lo rd.hi how rd.at h.own of_q in
        let first : first_lacking t h.w rd.p rd.v ≡ o = absent_here rd.p.stored rd.p.reach (offset t rd.v) (front h.w) here ∙ sym offset_is in
        held_row ∙ (ap (held_of t h.x h.w) there ∙
        (ap (held_alone t h.x h.w rd.p) alone_is ∙ (ap (unstored_bytes t h.x h.w rd.p) rd.row ∙ (all ∙ ap (λ (m : ℕ). drop (m - base h.w) h.w.body) first))))

    other_held : (family h.x h.w ≡ q → ⊥) → (table_of r.exchanges h.x).held ≡ []
    other_held apart = held_row ∙ held_else r t facts stands c q how k rd h.x h.w h.own h.row apart

    came_run : (n : ℕ) → run_held_for t c rd.v n ≡ stretch_to rd.p.body rd.p.reach o n
    came_run n = held_is n ∙ lost_run c o n rd.p parts.0 parts.1

    -- what is held came in the body, and of its own exchange
    module _ (n : ℕ) (pos : 0 < n) (run : Run) (is : run_held_for t c rd.v n ≡ Some run) where
      byte_there : (cell : Cell) × (rd.p.body o ≡ Some cell) × (cell.x ≡ h.x)
      byte_there =
          let found = begins_with rd.p.body o (min n (rd.p.reach - o)) run (sym (came_run n) ∙ is) in
          (found.0, found.1, found.2 ∙ run_x h.x o (take n left) run (sym (own_runs n pos) ∙ is))

      pub own_family : family h.x h.w ≡ q
      own_family = by_origin (facts.origins.delivered q h.x (origins.has_byte o byte_there.0 rd.p rd.there byte_there.1 byte_there.2))
        where
          by_origin : MayDeliver t q h.x → family h.x h.w ≡ q
          by_origin (origins.begun none) = none_some h.w (sym none ∙ h.row)
          by_origin (origins.came w row headed of_q) = ap (family h.x) (same_row (t.exchange h.x) h.w w h.row row) ∙ of_q

      pub within : (base h.w ≤ o) × (o < front h.w)
      within = facts.brings.only q h.x o byte_there.0 h.w rd.p rd.there byte_there.1 byte_there.2 h.row

      from_there : h.from ≤ o
      from_there = elim (lt_or o h.from) [
        | inr le ↦ le.1
        | inl before ↦
            let stays : rd.p.stored (offset t rd.v) ≡ rd.p.body (offset t rd.v) =
            h.ahead.stored (offset t rd.v) (omega (arith, h.ahead.within)) (inl (let lt = before.1 in let same = offset_is in omega (arith, lt, same))) in
            none_some byte_there.0 (sym here ∙ (stays ∙ (ap rd.p.body (sym offset_is) ∙ byte_there.1)))
      ]

      pub holds : Holds r t c q k rd.v rd.p
      holds = record {
        x = h.x;
        w = h.w;
        own = rd.kept.own ∙ h.own;
        row = h.row;
        of_q = own_family;
        lost = parts.0;
        alone = alone_is;
        known = own_held own_family;
        runs = own_runs;
        after_base = within.0;
        before_front = within.1;
        lacks = λ m low lt. (let from = from_there in let same = offset_is in let le = low in
            h.ahead.unstored m (omega (arith, same, le)) (omega (arith, from, le)) lt);
      }

    -- as many bytes are held as the tables say
    module _ (want : ℕ) (wants : 0 < want) where
      held_bytes : is_some (run_held_for t c rd.v want) ≡ nat_lt 0 (length (table_of r.exchanges h.x).held)
      held_bytes = elim (same_or (family h.x h.w) q) [
        | inl of_q ↦ ap (λ (z : Option Run). is_some z) (own_runs want wants) ∙
            (run_some h.x o want left wants ∙ ap (λ (xs : List ℕ). nat_lt 0 (length xs)) (sym (own_held of_q)))
        | inr apart ↦ by_run (run_held_for t c rd.v want) refl apart
      ]
        where
          by_run : (z : Option Run) → run_held_for t c rd.v want ≡ z → (family h.x h.w ≡ q → ⊥) →
              is_some (run_held_for t c rd.v want) ≡ nat_lt 0 (length (table_of r.exchanges h.x).held)
          by_run None is apart = ap (λ (z : Option Run). is_some z) is ∙ ap (λ (xs : List ℕ). nat_lt 0 (length xs)) (sym (other_held apart))
          by_run (Some run) is apart = absurd (apart (own_family want wants run is))

      held_known : nat_lt 0 (held_own (table_of r.exchanges) k.own) ≡ nat_lt 0 (length (table_of r.exchanges h.x).held)
      held_known = ap (λ (z : Option ℕ). nat_lt 0 (held_own (table_of r.exchanges) z)) (rd.kept.own ∙ h.own)

      pub lone_same : is_some (run_held_for t c rd.v want) ≡ nat_lt 0 (held_own (table_of r.exchanges) k.own)
      lone_same = held_bytes ∙ sym held_known

      pub lone_holds : nat_lt 0 (held_own (table_of r.exchanges) k.own) ≡ true → Holds r t c q k rd.v rd.p
      lone_holds some = by_run (run_held_for t c rd.v want) refl
        where
          by_run : (z : Option Run) → run_held_for t c rd.v want ≡ z → Holds r t c q k rd.v rd.p
          by_run None is = false_true (sym (ap (λ (z : Option Run). is_some z) is) ∙ (lone_same ∙ some))
          by_run (Some run) is = holds want wants run is

  -- of who stands where nothing is stored
  module _ (missing : rd.p.stored o ≡ None) (want : ℕ) (wants : 0 < want) where
    pub held_same : is_some (run_held_for t c rd.v want) ≡ (goes_alone c ((shelf_of r.entries).kept q) && nat_lt 0 (held_own (table_of r.exchanges) k.own))
    held_same = by_lone lone refl ∙ ap (λ (b : Bool). b && nat_lt 0 (held_own (table_of r.exchanges) k.own)) (sym lone_is)
      where
        by_lone : (b : Bool) → lone ≡ b → is_some (run_held_for t c rd.v want) ≡ (lone && nat_lt 0 (held_own (table_of r.exchanges) k.own))
        by_lone false off = ap (λ (z : Option Run). is_some z)
            (held_is want ∙ ap (λ (b : Bool). if b then stretch_to rd.p.body rd.p.reach o want else None) off) ∙
            ap (λ (b : Bool). b && nat_lt 0 (held_own (table_of r.exchanges) k.own)) (sym off)
        by_lone true on = lone_same on missing want wants ∙ ap (λ (b : Bool). b && nat_lt 0 (held_own (table_of r.exchanges) k.own)) (sym on)

    pub holds_something : (goes_alone c ((shelf_of r.entries).kept q) && nat_lt 0 (held_own (table_of r.exchanges) k.own)) ≡ true → Holds r t c q k rd.v rd.p
    holds_something both =
        let all = both_true (goes_alone c ((shelf_of r.entries).kept q)) (nat_lt 0 (held_own (table_of r.exchanges) k.own)) both in
        lone_holds (sym lone_is ∙ all.0) missing want wants all.1
