-- A consumer that reads is given more, or was shown its head, where it stands: what is kept represents the tables then.
--
-- Its place stays, so keys, who is bound or came alone, and who is live are told as before. What is held of exchanges
-- may change, so that is for its user: where as much is unread and unstored, as much is held (`held_same`).
-- `stands_reading` joins this. The first lemmas are for reads of the store, which change no more than the count of
-- faults. Rows stay (`stands_read`), and an answer after it is one before it (`answered_since`).
use Rattle.std.{proofs.{lemmas.Bool.Decides.{nat_tests}, Common.{◌≡◌, ◌≢◌, inl, inr, ℕ, ◌≤◌, List, arith, Bool, true, Option, Some, None, refl, ap, sym, ◌∙◌}}, specs.HashMap.{hash_map_len}}
use Rattle.hc_text.proofs.Basics.{eqb-other, eqb-same, same_or}
use Rattle.hc_store.specs.declared.backend.Backend.{Ghosts}
use Rattle.hc_effects.proofs.Vocabulary.{Event, Act, Limits, is_live, is_live_place, with_consumer, family, is_in_line, is_bound, Tables, Exchange, Representation}
use Rattle.hc_stored.specs.{Entries.{shelf_of}, Shelf.{Shelf}}
use Rattle.hc_stored.specs.Shelf as shelf
use Rattle.hc_entry.specs.Keys.{kept_of}
use Rattle.hc_exch.specs.{Exchanges.{table_of, next_of}, Known.{Known}}
use Rattle.hc_model.specs.Rows as rows
use Rattle.hc_state.specs.{declared.rows.Rows.{Rows}, Changes.{BecomesAt}, Kept.{IsKept, KeepsExchange, held_for, held_of, held_alone, unread, unstored_bytes}, Lines.{has_turn, is_passed, is_away}, Stands.{RowsStand, Stands, Answered}, Stored.{KeepsEntries, is_first}}
use Rattle.hc_txn.specs.declared.transaction.Transaction.{Transaction as Consumer}
use Rattle.hc_state.proofs.{FallbackSteps.{length_same, live_same}, Fallbacks.{unstored_moved}, ConsumerSteps.{SaysOfIt, all_kept_with, key_stays, key_with}, OneOfEach.{entries_same}, Ties.{exchange_same}}

-- what stays of the representations, over a store that was read
pub entries_read : (t : Tables) (a b : Shelf) → shelf.Stays a b → KeepsEntries t a → KeepsEntries t b
entries_read t a b stays kept = record { each = λ q. rw (stays.kept q) (kept.each q); order = stays.order ∙ kept.order }

-- what stands over a store stands after a read of it
pub stands_read : {B : Type 0} {g : Ghosts B} {limits : Limits} (r u : Rows B g) (t : Tables) → u.last_start ≡ r.last_start → u.consumers ≡ r.consumers →
    u.exchanges ≡ r.exchanges → u.keys ≡ r.keys → shelf.Stays (shelf_of r.entries) (shelf_of u.entries) → RowsStand limits r t → RowsStand limits u t
stands_read r u t last consumers exchanges same_keys read stands = record {
  limits = read.limits ∙ stands.limits;
  last_start = last ∙ stands.last_start;
  next = ap (λ z. next_of z) exchanges ∙ stands.next;
  count = ap (λ z. hash_map_len z) consumers ∙ stands.count;
  consumers = λ d. rw consumers (stands.consumers d);
  exchanges = λ y. rw exchanges (stands.exchanges y);
  keys = λ key. rw same_keys (stands.keys key);
  entries = entries_read t (shelf_of r.entries) (shelf_of u.entries) read stands.entries;
}

pub some_read : {B : Type 0} {g : Ghosts B} (r u : Rows B g) → u.last_start ≡ r.last_start → u.consumers ≡ r.consumers → u.exchanges ≡ r.exchanges →
    u.keys ≡ r.keys → shelf.Stays (shelf_of r.entries) (shelf_of u.entries) → Stands r → Stands u
some_read r u last consumers exchanges same_keys read s = record {
  limits = s.limits;
  t = s.t;
  facts = s.facts;
  numbers = s.numbers;
  within_limits = s.within_limits;
  received = s.received;
  rows = stands_read r u s.t last consumers exchanges same_keys read s.rows;
}

-- who answers after a read of the store answers before it
pub answered_since : {B : Type 0} {g : Ghosts B} (limits : Limits) (a b : ℕ) (u : Rows B g) (t : Tables) (before out : List Act) (now : ℕ)
    (event : Event) → a ≤ b → Answered limits b u t before out now event → Answered limits a u t before out now event
answered_since limits a b u t before out now event le answered = record {
  flaw = answered.flaw;
  acts = answered.acts;
  shown = answered.shown;
  may = answered.may;
  caused = λ on. let lt = answered.caused on in omega (arith, le, lt);
  rows = answered.rows;
}

module _ (t : Tables) (c : ℕ) (v : rows.Consumer) (shown : Bool) (given : ℕ) (row : t.consumer c ≡ Some v) where
  abbrev pub w : rows.Consumer
  w = record v { shown = shown; given = given }

  abbrev pub s : Tables
  s = with_consumer c (Some w) t

  here : s.consumer c ≡ Some w
  here = rw (eqb-same c) refl

  others : (d : ℕ) → d ≢ c → s.consumer d ≡ t.consumer d
  others d ne = rw (eqb-other c d (λ e. ne (sym e))) refl

  -- WHAT IS HELD

  module _ (y : ℕ) (z : Exchange) (past : z.c ≡ c → unread y z (Some w) ≡ unread y z (Some v))
      (lost : (p : Representation) → t.representation (family y z) ≡ Some p → p.alone ≡ Some c →
      unstored_bytes t y z p (Some w) ≡ unstored_bytes t y z p (Some v)) where
    past_same : (d : ℕ) → z.c ≡ d → unread y z (s.consumer d) ≡ unread y z (t.consumer d)
    past_same d opener = grind (arith, nat_tests)

    lost_same : (p : Representation) → t.representation (family y z) ≡ Some p → (d : ℕ) → p.alone ≡ Some d →
        unstored_bytes s y z p (s.consumer d) ≡ unstored_bytes t y z p (t.consumer d)
    lost_same p there d alone = grind (arith, nat_tests)

    alone_same : (p : Representation) → t.representation (family y z) ≡ Some p → (o : Option ℕ) → p.alone ≡ o → held_alone s y z p o ≡ held_alone t y z p o
    alone_same p there o alone = grind (arith, nat_tests)

    of_same : (o : Option Representation) → t.representation (family y z) ≡ o → held_of s y z o ≡ held_of t y z o
    of_same o there = grind (arith, nat_tests)

    -- as much is held of an exchange, where as much is unread of it, and as much unstored
    pub held_same : held_for s y (Some z) ≡ held_for t y (Some z)
    held_same = of_same (t.representation (family y z)) refl

  -- ALL ELSE

  says_same : (key : _) → SaysOfIt t c (Some w) key
  says_same key = record {
    in_line = sym (ap (is_in_line key) row);
    passed = sym (ap (is_passed key) row);
    away = sym (ap (is_away t key) row);
    turn = sym (ap (has_turn key) row);
  }

  users : (q d : ℕ) → is_bound q (s.consumer d) ≡ is_bound q (t.consumer d)
  users q d = grind (arith, nat_tests)

  firsts : (q d : ℕ) → is_first t q (s.consumer d) ≡ is_first t q (t.consumer d)
  firsts q d = grind (arith, nat_tests)

  live_each : (d : ℕ) → is_live (s.consumer d) ≡ is_live (t.consumer d)
  live_each d = grind (arith, nat_tests)

  -- an exchange of which as much is held
  pub exchange_reading : (y : ℕ) (known : Known) → held_for s y (t.exchange y) ≡ held_for t y (t.exchange y) → KeepsExchange t y known → KeepsExchange s y known
  exchange_reading y known same kept = exchange_same t s y known (record { row = refl; brings = λ z at. refl; held = same }) kept

  module _ {B : Type 0} {g : Ghosts B} {limits : Limits} (r u : Rows B g) (stands : RowsStand limits r t) (lived : is_live_place v.place ≡ true)
      (last : u.last_start ≡ r.last_start) (same_keys : u.keys ≡ r.keys) (next : next_of u.exchanges ≡ next_of r.exchanges)
      (read : shelf.Stays (shelf_of r.entries) (shelf_of u.entries))
      (q : Consumer) (becomes : BecomesAt r.consumers u.consumers c (Some q)) (kept : IsKept t q w)
      (exchanges : (y : ℕ) → KeepsExchange s y (table_of u.exchanges y)) where
    pub stands_reading : RowsStand limits u s
    stands_reading = record {
      limits = read.limits ∙ stands.limits;
      last_start = last ∙ stands.last_start;
      next = next ∙ stands.next;
      count = length_same r u t c v q stands row lived becomes ∙ (stands.count ∙ sym (live_same t s refl live_each));
      consumers = all_kept_with t c (Some w) r u (Some q) becomes kept stands.consumers;
      exchanges = exchanges;
      keys = λ key. rw same_keys
          (key_with t c (Some w) key (kept_of r.keys key) (kept_of r.keys key) (stands.keys key)
          (key_stays t c (Some w) key (kept_of r.keys key) (stands.keys key) (says_same key)));
      entries = entries_same t s (shelf_of u.entries) (λ n. refl) refl refl users firsts (λ n. refl) (λ y on. on)
          (entries_read t (shelf_of r.entries) (shelf_of u.entries) read stands.entries);
    }
