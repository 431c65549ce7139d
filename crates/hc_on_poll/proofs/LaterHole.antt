-- A bound reader opens an exchange for the hole that it stands before: what is kept represents the tables then.
--
-- It has another exchange of its own then, and all else of it stays. What is held has the work. It stands where no byte
-- is stored, no failure is due and nothing is held for it (`IsAtHole`). So its old exchange brought nothing that it
-- lacks (`nothing`), and the new one nothing yet. Keys, users and kinds are told as before. `stands_filled` joins this,
-- and `filled_answered` the effect with it, for `fill_later_hole`.
use Rattle.std.{proofs.{Common.{◌≡◌, ◌≢◌, ◌⊎◌, inl, inr, ℕ, ◌+◌, ◌-◌, ◌≤◌, ◌<◌, List, [], ◌++◌, drop, min, Bool, true, false, Option, Some, None, refl, ap, sym, ◌∙◌, subst, arith}, Math.ListN.{drop_of_length-le}, lemmas.Bool.Decides.{nat_tests}}, specs.{Prelude.{is_some, nat_eq, bytes_eq, ◌&&◌, if◌then◌else◌}, HashMap.{get}}}
use Rattle.hc_text.proofs.Basics.{and_both as both_true, eqb-other, eqb-same, false_true, same_or, same_some as same_row, some_inj as some_is}
use Rattle.hc_effects.proofs.Vocabulary.{Limits, Opening, Act, Need, Request, BoundBy, Place, current, is_number, is_live, with_consumer, with_opening, just_opened, with_event, aim_from, base, front, family, stretch_to, is_in_line, Opens, acts_of, move_of, bound, bound_to, hi_of, is_bound, is_bound_place, lo_of, offset, Tables, Exchange, Representation, IsBound, held_of_lost, event, by, need, place}
use Rattle.hc_store.specs.declared.backend.Backend.{Ghosts}
use Rattle.hc_sparse.specs.Cells.{Covers}
use Rattle.hc_sparse.proofs.StretchLemmas.{stretch-absent}
use Rattle.hc_stored.specs.Entries.{shelf_of}
use Rattle.hc_entry.specs.Keys.{kept_of}
use Rattle.hc_exch.specs.{declared.role.Role.TheVariants.{the_data as role}, Exchanges.{table_of, next_of}, Known.{with_new_exchange, exchange_at_opening, Changes}}
use Rattle.hc_model.specs.Rows as rows
use Rattle.hc_model.specs.Sound as sound
use Rattle.hc_effects.proofs.{HoleEffects.{fills_later}, OpensFrom.{opens_hole}, ExclusiveWriters.{bound_some}, PollTree.{OpensHole}, Said.{IsOpening}, Tests.{none_some}}
use Rattle.hc_effects.proofs.PollTree as tree
use Rattle.hc_effects.proofs.Said as said
use Rattle.hc_state.specs.{declared.rows.Rows.{Rows}, Changes.{ChangesAt, BecomesAt}, Facts.{Facts}, Kept.{IsKept, KeepsConsumer, KeepsExchange, answer_at, KeepsRunning, first_lacking, held_for, held_of, held_alone, unread, unstored_bytes}, Lines.{KeepsKey, has_turn, is_passed, is_away, is_away_at}, Stands.{RowsStand, Answered}, Stored.{KeepsEntries, is_first}}
use Rattle.hc_txn.specs.{declared.transaction.Transaction.{Transaction as Consumer}, Transactions.{with_own}}
use Rattle.hc_state.proofs.{Answering.{does_answered}, FallbackSteps.{length_same, live_same}, Fallbacks.{unstored_moved}, Counting.{stands_counted}, OneOfEach.{stands_then, bound_same, first_row}, QueueHandler.{becomes_by}, Ties.{entry_same, key_same, overs_opened}}
use Rattle.hc_on_poll.proofs.{BoundViews.{unstored_own, absent_here, lost_run, unread_bound}, OpenHandler.{unread_yet}, OpenKinds.{kinds_opened}, ShowStored.{IsBoundRow}}

-- where it stands before a hole
record IsAtHole (t : Tables) (c q : ℕ) (v : rows.Consumer) (p : Representation) : Type 0 where
  undue : v.due ≡ None
  missing : p.stored (offset t v) ≡ None
  n : ℕ
  none_held : held_of_lost c (offset t v) n (Some p) ≡ None

module _ {B : Type 0} {g : Ghosts B} {limits : Limits} (r u : Rows B g) (t : Tables) (facts : Facts limits t) (stands : RowsStand limits r t)
    (now want c q x from to : ℕ) (how : BoundBy) (k : Consumer) (rd : IsBoundRow t c q how k) (there : get nat_eq r.consumers c ≡ Some k)
    (shown : k.shown ≡ true) (request copied : Request)
    (moves : move_of t now want c rd.v ≡ Opens (next_of r.exchanges) (need.Hole from to) request) (is_next : x ≡ next_of r.exchanges)
    (copies : copied ≡ request)
    (last : u.last_start ≡ r.last_start) (same_keys : u.keys ≡ r.keys) (same_entries : u.entries ≡ r.entries)
    (next : next_of u.exchanges ≡ next_of r.exchanges + 1)
    (launches : Changes (with_new_exchange c (role.Hole q) (need.Hole from to) copied now) (next_of r.exchanges) (table_of r.exchanges)
    (table_of u.exchanges)) (changes : ChangesAt r.consumers u.consumers c (with_own x)) where
  abbrev v : rows.Consumer
  v = rd.v

  abbrev n : Need
  n = need.Hole from to

  abbrev w : rows.Consumer
  w = record v { own = Some x }

  abbrev z : Exchange
  z = just_opened now c n request (Some q)

  abbrev s : Tables
  s = with_consumer c (Some w) (with_opening x z t)

  x_is : x ≡ t.opened + 1
  x_is = let same = stands.next in is_next ∙ same

  free : t.exchange x ≡ None
  free = facts.law.sound.numbered.lists.new_exchanges x (let above = x_is in omega (arith, above))

  unfounded : t.representation x ≡ None
  unfounded = facts.law.sound.numbered.lists.new_representations x (let above = x_is in omega (arith, above))

  here : s.consumer c ≡ Some w
  here = rw (eqb-same c) refl

  others : (d : ℕ) → d ≢ c → s.consumer d ≡ t.consumer d
  others d ne = rw (eqb-other c d (λ e. ne (sym e))) refl

  opened_is : s.exchange x ≡ Some z
  opened_is = rw (eqb-same x) refl

  exchanges : (y : ℕ) → y ≢ x → s.exchange y ≡ t.exchange y
  exchanges y ne = rw (eqb-other x y (λ e. ne (sym e))) refl

  reader : IsBound t q c v
  reader = sound.is_bound rd.lo rd.hi how rd.row rd.at

  -- WHY IT OPENS ONE

  abbrev opening : Opening
  opening = record { x = next_of r.exchanges; c = c; need = n; request = request }

  at_hole : IsAtHole t c q v rd.p
  at_hole = by_reason (opens_hole t c v opening now want facts.law.sound rd.row (subst (IsOpening opening) (sym moves) said.opens) from to refl)
    where
      by_reason : OpensHole t c v from to → IsAtHole t c q v rd.p
      by_reason (tree.first a b span hole current_is aims a_row nobody found lo_is hi_is) =
          let one : q ≡ a = some_is q a (sym (ap (aim_from t v.request.key) rd.at) ∙ aims) in
          absurd (bound_some t q c v facts.law.sound.numbered reader (ap (bound t) one ∙ nobody))
      by_reason (tree.later a hi m b at none lo_is up) =
          let one : b ≡ rd.p = same_p a b at.is_reader at.row in
          record {
            undue = at.none_due;
            missing = ap (λ (y : Representation). y.stored (offset t v)) (sym one) ∙ at.missing;
            n = m;
            none_held = ap (λ (y : Representation). held_of_lost c (offset t v) m (Some y)) (sym one) ∙ none;
          }
        where
          same_p : (a : ℕ) (b : Representation) → IsBound t a c v → t.representation a ≡ Some b → b ≡ rd.p
          same_p a b (sound.is_bound lo hi by_it row at) a_row =
              let one : a ≡ q = some_is a q (sym (ap bound_to at) ∙ ap bound_to rd.at) in
              same_row (t.representation q) b rd.p (sym (ap t.representation one) ∙ a_row) rd.there

  -- nothing is held for it
  nothing : (y : ℕ) (e : Exchange) (b : Representation) → t.exchange y ≡ Some e → t.representation (family y e) ≡ Some b → b.alone ≡ Some c →
      unstored_bytes t y e b (Some v) ≡ []
  nothing y e b y_row founded alone = by_test (is_bound_place (family y e) v.place && is_number v.own y) refl
    where
      is_it : (o : Option ℕ) → is_number o y ≡ true → o ≡ Some y
      is_it None on = false_true on
      is_it (Some a) on = let same : a ≡ y = grind (arith, nat_tests) in ap Some same

      lost_of : (p : Representation) → t.representation q ≡ Some p → p.alone ≡ Some c → p.is_lost ≡ true
      lost_of p row is = by_lost p.is_lost refl
        where
          by_lost : (d : Bool) → p.is_lost ≡ d → d ≡ true
          by_lost true on = refl
          by_lost false off = none_some c (sym ((facts.law.sound.rows q p row).store.nobody_alone off) ∙ is)

      by_alone : rd.p.alone ≡ Some c → family y e ≡ q → v.own ≡ Some y → drop (first_lacking t e rd.p v - base e) e.body ≡ []
      by_alone is of_q own =
          let a = facts.law.sound.alone q c rd.p v rd.there is reader at_hole.undue in
          let number : a.x ≡ y = some_is a.x y (sym a.own ∙ own) in
          let one : a.w ≡ e = same_row (t.exchange y) a.w e (sym (ap t.exchange number) ∙ a.row) y_row in
          let lost = lost_of rd.p rd.there is in
          let mine : is_number rd.p.alone c ≡ true = ap (λ (o : Option ℕ). is_number o c) is ∙ eqb-same c in
          let none : stretch_to rd.p.body rd.p.reach (offset t v) at_hole.n ≡ None = sym (lost_run c (offset t v) at_hole.n rd.p lost mine) ∙
          at_hole.none_held in
          let absent : rd.p.body (offset t v) ≡ None = (stretch-absent rd.p.body (offset t v) (min at_hole.n (rd.p.reach - offset t v))).0 none in
          let past : front e ≤ offset t v = by_front e (subst (λ (f : Exchange). Covers rd.p.body (offset t v) (front f)) one a.covered) absent in
          let first : first_lacking t e rd.p v ≡ offset t v = absent_here rd.p.stored rd.p.reach (offset t v) (front e) at_hole.missing in
          drop_of_length-le e.body (omega (arith, past, first))
        where
          by_front : (e : Exchange) → Covers rd.p.body (offset t v) (front e) → rd.p.body (offset t v) ≡ None → front e ≤ offset t v
          by_front e covered absent = elim (le_or (front e) (offset t v)) [
            | inl le ↦ le
            | inr lt ↦ false_true (sym (ap (λ o. is_some o) absent) ∙ covered (offset t v) (omega arith) lt)
          ]
            where
              le_or : (a b : ℕ) → (a ≤ b) ⊎ (b < a)
              le_or a b = grind (arith, nat_tests)

      by_test : (d : Bool) → (is_bound_place (family y e) v.place && is_number v.own y) ≡ d → unstored_bytes t y e b (Some v) ≡ []
      by_test false off = rw off refl
      by_test true on =
          let parts = both_true (is_bound_place (family y e) v.place) (is_number v.own y) on in
          let same : is_bound_place (family y e) (place.Bound q rd.lo rd.hi how) ≡ true = sym (ap (is_bound_place (family y e)) rd.at) ∙ parts.0 in
          let of_q : q ≡ family y e = grind (arith, nat_tests, same) in
          let own : v.own ≡ Some y = is_it v.own parts.1 in
          let one : rd.p ≡ b = same_row (t.representation (family y e)) rd.p b (sym (ap t.representation of_q) ∙ rd.there) founded in
          let alone_p : rd.p.alone ≡ Some c = ap (λ (a : Representation). a.alone) one ∙ alone in
          ap (λ (a : Representation). unstored_bytes t y e a (Some v)) (sym one) ∙
          (unstored_own t y e rd.p v q rd.lo rd.hi how rd.at own (sym of_q) ∙ by_alone alone_p (sym of_q) own)

  -- WHAT IS HELD

  unstored_then : (y : ℕ) (e : Exchange) (b : Representation) → y ≢ x → unstored_bytes s y e b (Some w) ≡ []
  unstored_then y e b ne =
      let off : (is_bound_place (family y e) v.place && is_number (Some x) y) ≡ false =
      by_other (is_bound_place (family y e) v.place) (nat_eq x y) (eqb-other x y (λ e. ne (sym e))) in
      rw off refl
    where
      by_other : (a b : Bool) → b ≡ false → (a && b) ≡ false
      by_other true b off = off
      by_other false b off = refl

  unread_same : (y d : ℕ) (e : Exchange) → unread y e (s.consumer d) ≡ unread y e (t.consumer d)
  unread_same y d e = elim (same_or c d) [
    | inl is ↦ rw (← is, here, rd.row) refl
    | inr off ↦ ap (unread y e) (others d (λ is. off (sym is)))
  ]

  held_else : (y : ℕ) (e : Exchange) → y ≢ x → t.exchange y ≡ Some e → held_for s y (Some e) ≡ held_for t y (Some e)
  held_else y e ne row = by_row (t.representation (family y e)) refl
    where
      by_alone : (b : Representation) (o : Option ℕ) → t.representation (family y e) ≡ Some b → b.alone ≡ o → held_alone s y e b o ≡ held_alone t y e b o
      by_alone b None founded alone = refl
      by_alone b (Some d) founded alone = elim (same_or c d) [
        | inl is ↦ rw (← is, here, rd.row) (unstored_then y e b ne ∙ sym (nothing y e b row founded (alone ∙ ap Some (sym is))))
        | inr off ↦ ap (unstored_bytes s y e b) (others d (λ is. off (sym is))) ∙ unstored_moved t s y e b (t.consumer d)
      ]

      by_row : (o : Option Representation) → t.representation (family y e) ≡ o → held_of s y e o ≡ held_of t y e o
      by_row None founded = unread_same y e.c e
      by_row (Some b) founded = by_alone b b.alone founded refl

  none_held : held_for s x (Some z) ≡ []
  none_held = ap (held_of s x z) unfounded ∙ (ap (unread x z) here ∙ unread_bound x z w q rd.lo rd.hi how rd.at)

  -- KEYS

  away_else : (d : ℕ) (key : List ℕ) (o : Option rows.Consumer) → t.consumer d ≡ o → is_away s key o ≡ is_away t key o
  away_else d key None row = refl
  away_else d key (Some j) row = ap (λ (b : Bool). bytes_eq j.request.key key && b) (by_place j.place refl)
    where
      by_place : (p : Place) → j.place ≡ p → is_away_at s j.place ≡ is_away_at t j.place
      by_place (place.Bound a lo hi (by.FirstHole y)) is =
          let first = facts.law.owned.first_own d a lo y hi j row is in
          let ne : x ≢ y = λ e. none_some first.w (sym free ∙ (ap t.exchange e ∙ first.row)) in
          rw (is, eqb-other x y ne) refl
      by_place _ is = rw is refl

  -- whatever is said of it by where it stands stays
  same_of : {A : Type 0} (f : Option rows.Consumer → A) → f (Some w) ≡ f (Some v) → (d : ℕ) → f (s.consumer d) ≡ f (t.consumer d)
  same_of f same d = elim (same_or c d) [
    | inl is ↦ rw (← is, here, rd.row) same
    | inr off ↦ ap f (others d (λ is. off (sym is)))
  ]

  away_same : (key : List ℕ) (d : ℕ) → is_away s key (s.consumer d) ≡ is_away t key (t.consumer d)
  away_same key d = same_of (is_away s key) refl d ∙ away_else d key (t.consumer d) refl

  keys_then : (key : List ℕ) → KeepsKey s key (kept_of u.keys key)
  unfolding current
  keys_then key =
      rw same_keys (key_same t s key (kept_of r.keys key) (record {
        current = refl;
        in_line = same_of (is_in_line key) refl;
        passed = same_of (is_passed key) refl;
        away = away_same key;
        turn = same_of (has_turn key) refl;
      }) (stands.keys key))

  -- REPRESENTATIONS

  entries_then : KeepsEntries s (shelf_of r.entries)
  entries_then = record {
    each = λ a. entry_same t s a ((shelf_of r.entries).kept a) (t.representation a) refl (record {
      users = same_of (is_bound a) refl;
      first = λ d. first_row t s (λ b. refl) a (s.consumer d) ∙ same_of (is_first t a) refl d;
      list = bound_same t s a refl (same_of (is_bound a) refl);
      kind = λ b row. kinds_opened t s x z free unfounded opened_is exchanges refl refl a b row;
      overs = overs_opened t.exchange s.exchange x free exchanges;
    }) (stands.entries.each a);
    order = stands.entries.order;
  }

  -- ALL OF IT

  kept_then : IsKept s (with_own x k) w
  kept_then =
      let kp = rd.kept in
      assumption (
        kp,
        kp.answer ∙ no_answer v.shown (sym kp.shown ∙ shown),
        kp.begins ∙ (ap (lo_of t) rd.at ∙ sym (ap (lo_of s) rd.at)),
        kp.ends ∙ (ap (hi_of t) rd.at ∙ sym (ap (hi_of s) rd.at)),
      )
    where
      no_answer : (b : Bool) → b ≡ true → (if b then None else answer_at t v.place) ≡ (if b then None else answer_at s v.place)
      no_answer true is = refl
      no_answer false is = false_true is

  launched_is : table_of u.exchanges x ≡ with_new_exchange c (role.Hole q) n copied now (table_of r.exchanges x)
  launched_is = subst (λ (y : ℕ). Changes (with_new_exchange c (role.Hole q) n copied now) y (table_of r.exchanges) (table_of u.exchanges)) (sym is_next)
      launches x ∙ rw (eqb-same x) refl

  known_then : KeepsExchange s x (with_new_exchange c (role.Hole q) n copied now (table_of r.exchanges x))
  known_then = record {
    running = subst (KeepsRunning s x (Some (exchange_at_opening c (role.Hole q) n copied now))) (sym opened_is) (assumption (copies));
    held = sym (ap (held_for s x) opened_is ∙ none_held);
  }

  becomes : BecomesAt r.consumers u.consumers c (Some (with_own x k))
  becomes = becomes_by r.consumers u.consumers c k (with_own x) there changes

  stands_filled : RowsStand limits u s
  stands_filled =
      stands_then r u t s c x (Some (with_own x k)) stands (last ∙ stands.last_start)
      (let before = stands.next in let above = x_is in omega (arith, next, before, above))
      (length_same r u t c v (with_own x k) stands rd.row rd.kept.is_there becomes ∙ (stands.count ∙ sym (live_same t s refl (same_of is_live refl))))
      becomes (λ y ne. launches y ∙ rw (eqb-other (next_of r.exchanges) y (λ e. ne (sym e ∙ sym is_next))) refl) others exchanges (λ a. refl)
      (subst (λ o. KeepsConsumer s (Some (with_own x k)) o) (sym here) kept_then) (subst (KeepsExchange s x) (sym launched_is) known_then) keys_then
      (λ d j ne row at. unread_yet t facts.law x d j free row at)
      (λ y e ne row. held_else y e ne row)
      (rw same_entries stands.limits)
      (rw same_entries entries_then)

  pub filled_answered : (before out : List Act) → out ≡ before ++ acts_of c (Opens x n copied) →
      Answered limits (shelf_of r.entries).faults u t before out now (event.Poll c want)
  filled_answered before out reported =
      let is : move_of t now want c v ≡ Opens x n request = moves ∙ ap (λ (y : ℕ). Opens y n request) (sym is_next) in
      let v_shown : v.shown ≡ true = sym rd.kept.shown ∙ shown in
      does_answered limits (shelf_of r.entries).faults u t (with_event now (event.Poll c want) s) before out (acts_of c (Opens x n request)) now
      (event.Poll c want)
      (fills_later limits t facts.law now c want v rd.row x from to request is q rd.lo rd.hi how rd.at v_shown) refl refl
      (reported ∙ ap (λ (a : Request). before ++ acts_of c (Opens x n a)) copies) (stands_counted u s now (event.Poll c want) refl stands_filled)
