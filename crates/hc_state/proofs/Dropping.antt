-- A consumer is gone, or is to fail: what is kept represents the tables without it, or in which it is down.
--
-- Both places are treated alike (`IsNowhere`): who stands there is in no line, is bound to nothing, and reads nothing.
-- So keys and representations lose it, as `LeavesKey` and `UnbindsAt` say. What is held has the work. By the laws
-- nobody else owns its exchange, so nothing is held of that, and of every other as much. `stands_moved` joins this;
-- `stands_left` and `stands_down` are its two cases.
use Rattle.std.{proofs.{Common.{◌≡◌, ◌≢◌, inl, inr, ℕ, ◌+◌, List, [], Bool, true, false, Option, Some, None, refl, ap, sym, ◌∙◌, subst, arith}, lemmas.Bool.Decides.{nat_tests}}, specs.{Prelude.{is_some, nat_eq, bytes_eq, drop, not, ◌&&◌, if◌then◌else◌}, HashMap.{get, hash_map_len}}}
use Rattle.hc_text.proofs.Basics.{eqb-other, eqb-same, false_true, same_or, and_off as then_false}
use Rattle.hc_effects.proofs.Vocabulary.{Limits, Cause, Request, Response, is_disabled, is_only, Place, is_number, is_live, live, with_consumer, as_over, family, Lawful, is_in_line, stands_in_line, has_passed, is_bound_place, Tables, Exchange, Representation, Among, came_alone, place}
use Rattle.hc_effects.proofs.{Tests.{and_false}, Basics.{number_is as number_reports}}
use Rattle.hc_store.specs.declared.backend.Backend.{Ghosts}
use Rattle.hc_entry.specs.{declared.keys.KeyTable.{KeyTable}, Keys.{kept_of}}
use Rattle.hc_exch.specs.{Exchanges.{table_of}, Known.{Known, forgotten}}
use Rattle.hc_stored.specs.{Entries.{shelf_of}, Shelf.{Shelf}}
use Rattle.hc_model.specs.Rows as rows
use Rattle.hc_state.specs.{declared.rows.Rows.{Rows}, Changes.{ChangesAt, BecomesAt, one}, Kept.{IsKept, KeepsConsumer, KeepsExchange, answer_for, is_direct, held_for, held_of, held_alone, unread, unstored_bytes}, Leaving.{LeavesKey, Forgets, IsUserAt, UnbindsAt}, Lines.{KeepsKey, is_passed, is_away, is_away_at}, Stands.{RowsStand}, Stored.{KeepsEntries, is_first}}
use Rattle.hc_txn.specs.{declared.transaction.Transaction.{Transaction as Consumer}, Transactions.{put_down}}
use Rattle.hc_state.proofs.{Apart.{keys_apart, entries_apart, user_at}, ConsumerSteps.{all_kept_with}, Maps.{merely_true}, FallbackSteps.{live_same}, QueueHandler.{becomes_by}, Ties.{exchange_same, kept_row, runs_same}}
use Rattle.hc_state.proofs.LiveCounts as counts

-- TESTS

-- HOW MANY ARE LIVE

-- one that was live isn't
pub live_without : (t : Tables) (law : Lawful t) (c n m : ℕ) (v w : rows.Consumer) → t.consumer c ≡ Some v → is_live (Some v) ≡ true →
    is_live (Some w) ≡ false → n + 1 ≡ m + 0 → m ≡ live t → n ≡ live (with_consumer c (Some w) t)
live_without t law c n m v w row was is len count =
    let f : ℕ → Bool = λ d. is_live (t.consumer d) in
    let h : ℕ → Bool = λ d. is_live ((with_consumer c (Some w) t).consumer d) in
    let started : Among c t.starts = law.sound.numbered.lists.started c (ap (λ z. is_some z) row) in
    let moves = counts.counted_moves f h c (t.last_start + 1) t.starts law.order.starts started (λ d ne. rw (eqb-other c d (λ e. ne (sym e))) refl) in
    let before : counts.one (f c) ≡ 1 = rw (row, was) refl in
    let after : counts.one (h c) ≡ 0 = rw (eqb-same c, is) refl in
    let all : m ≡ counts.counted f t.starts = count in
    omega (arith, moves, before, after, all, len)

-- WHERE IT STANDS NOW

-- it reads nothing, and waits for nothing
pub data IsNowhere (p : Place) : Type 0 where
  over : p ≡ place.Over → IsNowhere p
  down : (why : Cause) → p ≡ place.Down why → IsNowhere p

abbrev pub moved_to : Place → rows.Consumer → rows.Consumer
moved_to p v = record v { place = p; due = None }

module _ (v : rows.Consumer) (p : Place) (nowhere : IsNowhere p) where
  by_nowhere : {A : Type 0} (f : Place → A) (a : A) → f place.Over ≡ a → ((why : Cause) → f (place.Down why) ≡ a) → f p ≡ a
  by_nowhere f a is_over is_down = grind (arith, nat_tests)

  stands_off : stands_in_line p ≡ false
  stands_off = by_nowhere stands_in_line false refl (λ why. refl)

  moved_line : (key : List ℕ) → is_in_line key (Some (moved_to p v)) ≡ false
  moved_line key = grind (arith, nat_tests)

  moved_passed : (key : List ℕ) → is_passed key (Some (moved_to p v)) ≡ false
  moved_passed key = then_false (bytes_eq v.request.key key) (has_passed p) (by_nowhere has_passed false refl (λ why. refl))

  moved_away : (t : Tables) (key : List ℕ) → is_away t key (Some (moved_to p v)) ≡ false
  moved_away t key = then_false (bytes_eq v.request.key key) (is_away_at t p) (by_nowhere (is_away_at t) false refl (λ why. refl))

  moved_bound : (q : ℕ) → is_bound_place q p ≡ false
  moved_bound q = by_nowhere (is_bound_place q) false refl (λ why. refl)

  moved_unread : (y : ℕ) (w : Exchange) → unread y w (Some (moved_to p v)) ≡ []
  moved_unread y w = ap (λ b. if b then drop v.given w.body else []) (by_nowhere (λ z. is_direct z y) false refl (λ why. refl))

  moved_unstored : (z : Tables) (y : ℕ) (w : Exchange) (u : Representation) → unstored_bytes z y w u (Some (moved_to p v)) ≡ []
  moved_unstored z y w u = rw (moved_bound (family y w)) refl

  moved_first : (z : Tables) (q : ℕ) → is_first z q (Some (moved_to p v)) ≡ false
  moved_first z q = and_false (is_bound_place q p) (came_alone z p) (moved_bound q)

module _ (t : Tables) (law : Lawful t) (c : ℕ) (v : rows.Consumer) (row : t.consumer c ≡ Some v) (at_now : Place) (nowhere : IsNowhere at_now) where
  abbrev pub moved : rows.Consumer
  moved = moved_to at_now v

  abbrev pub s : Tables
  s = with_consumer c (Some moved) t

  here : s.consumer c ≡ Some moved
  here = rw (eqb-same c) refl

  others : (d : ℕ) → d ≢ c → s.consumer d ≡ t.consumer d
  others d ne = rw (eqb-other c d (λ e. ne (sym e))) refl

  -- WHAT IS HELD

  -- whoever else reads past the store, reads its own exchange
  own_past : (d y : ℕ) (u : rows.Consumer) → d ≢ c → t.consumer d ≡ Some u → u.place ≡ place.Direct y → is_number v.own y ≡ false
  own_past d y u ne is at = by_test (is_number v.own y) refl
    where
      by_test : (b : Bool) → is_number v.own y ≡ b → b ≡ false
      by_test false off = refl
      by_test true on = absurd (ne (law.owned.one d c y u v is row (law.places.direct d y u is at).own (number_reports v.own y on)))

  not_its : (d y : ℕ) (u : rows.Consumer) → d ≢ c → t.consumer d ≡ Some u → is_number v.own y ≡ true → is_number u.own y ≡ false
  not_its d y u ne is on = grind (arith, nat_tests)

  unread_other : (y d : ℕ) (w : Exchange) (o : Option rows.Consumer) → d ≢ c → t.consumer d ≡ o → is_number v.own y ≡ true → unread y w o ≡ []
  unread_other y d w o ne is on = grind (arith, nat_tests, drop, one, own_past, unread)

  unstored_off : (z : Tables) (y : ℕ) (w : Exchange) (p : Representation) (u : rows.Consumer) → is_number u.own y ≡ false → unstored_bytes z y w p (Some u) ≡ []
  unstored_off z y w p u off = rw (then_false (is_bound_place (family y w) u.place) (is_number u.own y) off) refl

  unstored_other : (y d : ℕ) (w : Exchange) (p : Representation) (o : Option rows.Consumer) → d ≢ c → t.consumer d ≡ o → is_number v.own y ≡ true →
      unstored_bytes s y w p o ≡ []
  unstored_other y d w p None ne is on = refl
  unstored_other y d w p (Some u) ne is on = unstored_off s y w p u (not_its d y u ne is on)

  alone_gone : (y : ℕ) (w : Exchange) (p : Representation) (o : Option ℕ) → is_number v.own y ≡ true → held_alone s y w p o ≡ []
  alone_gone y w p o on = grind (arith, nat_tests, same_or, here, moved_unstored, others, unstored_other)

  of_gone : (y : ℕ) (w : Exchange) (o : Option Representation) → is_number v.own y ≡ true → held_of s y w o ≡ []
  of_gone y w o on = grind (arith, nat_tests, same_or, unread, here, moved_unread, others, unread_other, alone_gone)

  -- nothing is held of its own exchange any more
  pub held_gone : (y : ℕ) (o : Option Exchange) → is_number v.own y ≡ true → held_for s y o ≡ []
  held_gone y None on = refl
  held_gone y (Some w) on = of_gone y w (t.representation (family y w)) on

  unread_off : (y : ℕ) (w : Exchange) → is_number v.own y ≡ false → unread y w (Some v) ≡ []
  unread_off y w off = by_place v.place refl
    where
      by_test : (z : ℕ) (b : Bool) → v.place ≡ place.Direct z → nat_eq z y ≡ b → (if b then drop v.given w.body else []) ≡ []
      by_test z false at other = refl
      by_test z true at same =
          false_true (sym off ∙ (ap (λ (o : Option ℕ). is_number o y) (law.places.direct c z v row at).own ∙ same))

      by_place : (p : Place) → v.place ≡ p → unread y w (Some v) ≡ []
      by_place (place.Direct z) at = rw at (by_test z (nat_eq z y) at refl)
      by_place _ at = rw at refl

  alone_stays : (y : ℕ) (w : Exchange) (p : Representation) (o : Option ℕ) → is_number v.own y ≡ false → held_alone s y w p o ≡ held_alone t y w p o
  alone_stays y w p o off = grind (arith, nat_tests)

  of_stays : (y : ℕ) (w : Exchange) (o : Option Representation) → is_number v.own y ≡ false → held_of s y w o ≡ held_of t y w o
  of_stays y w o off = grind (arith, nat_tests, same_or, unread, here, moved_unread, unread_off, others, alone_stays)

  -- of every other all that was
  pub held_stays : (y : ℕ) (o : Option Exchange) → is_number v.own y ≡ false → held_for s y o ≡ held_for t y o
  held_stays y None off = refl
  held_stays y (Some w) off = of_stays y w (t.representation (family y w)) off

  -- KEYS

  -- what is kept by key represents it
  keys_left : (a b : KeyTable) → ((key : List ℕ) → KeepsKey t key (kept_of a key)) → LeavesKey c v.request.key a b → (key : List ℕ) →
      KeepsKey s key (kept_of b key)
  keys_left = keys_apart t law c v moved row (moved_bound v at_now nowhere) (moved_line v at_now nowhere) (moved_passed v at_now nowhere)
      (moved_away v at_now nowhere t)

  -- what is kept of representations represents it
  entries_left : (a b : Shelf) → KeepsEntries t a → UnbindsAt v.place c a b → KeepsEntries s b
  entries_left = entries_apart t law c v moved row (moved_bound v at_now nowhere)

  -- EXCHANGES

  pub exchange_left : (y : ℕ) (before after : Known) → after ≡ (if is_number v.own y then forgotten before else before) → KeepsExchange t y before →
      KeepsExchange s y after
  exchange_left y before after is kept = by_test (is_number v.own y) refl is
    where
      by_test : (b : Bool) → is_number v.own y ≡ b → after ≡ (if b then forgotten before else before) → KeepsExchange s y after
      by_test true on same = record {
        running = rw same (runs_same t s y before.running (t.exchange y) (λ w at. refl) kept.running);
        held = rw same (sym (held_gone y (t.exchange y) on));
      }
      by_test false off same = rw same (exchange_same t s y before (record { row = refl; brings = λ w at. refl; held = held_stays y (t.exchange y) off }) kept)

-- WHAT UNBINDING LEAVES

pub unbinds_limits : (p : Place) (c : ℕ) (a b : Shelf) → UnbindsAt p c a b → b.limits ≡ a.limits
unbinds_limits p c a b h = grind (arith, nat_tests)

pub merely_user : {P : Type 0} (p : Place) (c : ℕ) (a : Shelf) → ∥ P ∥₁ → (P → IsUserAt p c a) → IsUserAt p c a
merely_user (place.Bound q lo hi how) c a some h = merely_true _ some h
merely_user _ c a some h = tt

-- ALL OF IT

module _ {B : Type 0} {g : Ghosts B} {limits : Limits} (r u : Rows B g) (t : Tables) (law : Lawful t) (c : ℕ) (k : Consumer) (v : rows.Consumer)
    (row : t.consumer c ≡ Some v) (at : get nat_eq r.consumers c ≡ Some k) (stands : RowsStand limits r t)
    (last : u.last_start ≡ r.last_start)
    (line : LeavesKey c k.request.key r.keys u.keys) (forgets : Forgets k.own r.exchanges u.exchanges)
    (unbinds : UnbindsAt k.place c (shelf_of r.entries) (shelf_of u.entries)) where
  pub kept : IsKept t k v
  kept = subst (λ o. KeepsConsumer t o (Some v)) at (subst (KeepsConsumer t (get nat_eq r.consumers c)) row (stands.consumers c))

  -- it stands there now
  stands_moved : (p : Place) → IsNowhere p → (o : Option Consumer) → BecomesAt r.consumers u.consumers c o →
      hash_map_len u.consumers ≡ live (with_consumer c (Some (moved_to p v)) t) → KeepsConsumer t o (Some (moved_to p v)) →
      RowsStand limits u (with_consumer c (Some (moved_to p v)) t)
  stands_moved p nowhere o becomes count now = record {
    limits = unbinds_limits k.place c (shelf_of r.entries) (shelf_of u.entries) unbinds ∙ stands.limits;
    last_start = last ∙ stands.last_start;
    next = forgets.next ∙ stands.next;
    count = count;
    consumers = all_kept_with t c (Some (moved_to p v)) r u o becomes now stands.consumers;
    exchanges = λ y. exchange_left t law c v row p nowhere y (table_of r.exchanges y) (table_of u.exchanges y)
        (subst (λ (o : Option ℕ). table_of u.exchanges y ≡ (if is_number o y then forgotten (table_of r.exchanges y) else table_of r.exchanges y)) kept.own
        (forgets.table y)) (stands.exchanges y);
    keys = keys_left t law c v row p nowhere r.keys u.keys stands.keys (subst (λ (q : Request). LeavesKey c q.key r.keys u.keys) kept.request line);
    entries = entries_left t law c v row p nowhere (shelf_of r.entries) (shelf_of u.entries) stands.entries
        (subst (λ p. UnbindsAt p c (shelf_of r.entries) (shelf_of u.entries)) kept.place unbinds);
  }

  -- it is gone
  pub stands_left : BecomesAt r.consumers u.consumers c None → RowsStand limits u (with_consumer c (Some (as_over v)) t)
  stands_left becomes =
      stands_moved place.Over (over refl) None becomes
      (live_without t law c (hash_map_len u.consumers) (hash_map_len r.consumers) v (as_over v) row kept.is_there refl
      (ap (λ (o : Option Consumer). hash_map_len u.consumers + one o) (sym at) ∙ becomes.len) stands.count) refl

  -- it is to fail, and was shown nothing
  pub stands_down : (why : Cause) → answer_for t v ≡ None → ChangesAt r.consumers u.consumers c (put_down why) →
      RowsStand limits u (with_consumer c (Some (moved_to (place.Down why) v)) t)
  stands_down why unanswered changes =
      stands_moved (place.Down why) (down why refl) (Some (put_down why k)) (becomes_by r.consumers u.consumers c k (put_down why) at changes)
      (changes.len ∙ (stands.count ∙ sym (live_same t (with_consumer c (Some (moved_to (place.Down why) v)) t) refl lives)))
      (assumption (kept, kept.answer ∙ (unanswered ∙ sym (none_shown v.shown))))
    where
      none_given : Option Response
      none_given = None

      none_shown : (b : Bool) → (if b then none_given else none_given) ≡ none_given
      none_shown true = refl
      none_shown false = refl

      lives : (d : ℕ) → is_live ((with_consumer c (Some (moved_to (place.Down why) v)) t).consumer d) ≡ is_live (t.consumer d)
      lives d = elim (same_or c d) [
        | inl e ↦ rw (← e, eqb-same c, row) (sym kept.is_there)
        | inr ne ↦ rw (eqb-other c d ne) refl
      ]

-- where the consumer stands, it is bound
pub user_of : {B : Type 0} {g : Ghosts B} {limits : Limits} (r : Rows B g) (t : Tables) (law : Lawful t) (c : ℕ) (k : Consumer) →
    get nat_eq r.consumers c ≡ Some k → RowsStand limits r t → IsUserAt k.place c (shelf_of r.entries)
user_of r t law c k at stands =
    let found = kept_row t k (t.consumer c) (subst (λ o. KeepsConsumer t o (t.consumer c)) at (stands.consumers c)) in
    subst (λ p. IsUserAt p c (shelf_of r.entries)) (sym found.2.place) (user_at t law c found.0 found.1 (shelf_of r.entries) stands.entries)
