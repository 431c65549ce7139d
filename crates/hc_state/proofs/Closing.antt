-- An exchange is closed: what is kept represents the tables in which it is over.
--
-- What is over keeps its head and its bytes. So whoever reads it past the store sees the same, and as much is held.
-- Keys tell the same, since nobody awaits its head. Representations have the work: what the exchange brought grows no
-- more. `stands_closed` takes their entries as its user proved them, behind a seal or a loss. `stands_unstored` is for
-- an exchange that brings only what is gone.
use Rattle.std.{proofs.{Common.{◌≡◌, ◌≢◌, inl, inr, ℕ, ◌+◌, ◌-◌, List, [], length, Bool, true, false, Option, Some, None, refl, ap, sym, ◌∙◌, subst, arith}, lemmas.Bool.Decides.{nat_tests}}, specs.{Prelude.{nat_eq, bytes_eq, drop, option_map, ◌&&◌, if◌then◌else◌}, HashMap.{get, hash_map_len}}}
use Rattle.hc_text.proofs.Basics.{eqb-other, eqb-same, same_or}
use Rattle.hc_effects.proofs.Vocabulary.{Limits, Response, base_of, promise_of, Place, current, is_number, tables_after_close, over, base, promised_bytes, family, is_open, is_headless, length_by, absent_from, is_growing, brings_to, bound, offset, is_bound_place, base_in, end_in, end_of_direct, Tables, Exchange, Representation, place, by}
use Rattle.hc_store.specs.declared.backend.Backend.{Ghosts}
use Rattle.hc_stored.specs.{Entries.{shelf_of}, Kept.{Kept}, Shelf.{Shelf}}
use Rattle.hc_entry.specs.Keys.{kept_of}
use Rattle.hc_entry.specs.Kept as keyed
use Rattle.hc_exch.specs.{Exchanges.{table_of}, Known.{Known, without_exchange}}
use Rattle.hc_exch.specs.Exchanges as exch
use Rattle.hc_model.specs.Rows as rows
use Rattle.hc_state.specs.{declared.rows.Rows.{Rows}, Kept.{KeepsConsumer, head_in, KeepsExchange, KeepsRunning, held_for, held_of, held_alone, unstored_bytes}, Lines.{KeepsKey, is_away, is_away_at}, Stands.{RowsStand}, Stopped.{NobodyAwaits}, Stored.{KeepsEntry, KeepsEntries, KnowsWriter}}
use Rattle.hc_txn.specs.declared.transaction.Transaction.{Transaction as Consumer}
use Rattle.hc_state.proofs.{Fallbacks.{same, held_alike}, OneOfEach.{first_row, growing_same, kind_same}, PastRows.{consumer_alike}, Ties.{exchange_same, key_same, overs_closed, writer_then}}

-- WHAT IS OVER BROUGHT AS MUCH

pub base_over : (w : Exchange) → base (over w) ≡ base w
base_over w = grind (arith, nat_tests)

pub promise_over : (w : Exchange) → promised_bytes (over w) ≡ promised_bytes w
promise_over w = grind (arith, nat_tests)

module _ (t : Tables) (x : ℕ) where
  abbrev pub s : Tables
  s = tables_after_close x t

  unstored_over : (w : Exchange) (v : Representation) (o : Option rows.Consumer) → unstored_bytes t x (over w) v o ≡ unstored_bytes t x w v o
  unstored_over w v o = grind (arith, nat_tests)

  alone_over : (w : Exchange) (v : Representation) (o : Option ℕ) → held_alone t x (over w) v o ≡ held_alone t x w v o
  alone_over w v o = grind (arith, nat_tests)

  pub of_over : (w : Exchange) (o : Option Representation) → held_of t x (over w) o ≡ held_of t x w o
  of_over w o = grind (arith, nat_tests)

  held_same : (y : ℕ) (o : Option Exchange) → held_for s y o ≡ held_for t y o
  held_same y o = grind (arith, nat_tests)

  held_over : (o : Option Exchange) → held_for s x (option_map over o) ≡ held_for t x o
  held_over o = grind (arith, nat_tests)

  not_open : (o : Option Exchange) → is_open (option_map over o) ≡ false
  not_open o = grind (arith, nat_tests)

  here : s.exchange x ≡ option_map over (t.exchange x)
  here = rw (eqb-same x) refl

  others : (y : ℕ) → x ≢ y → s.exchange y ≡ t.exchange y
  others y ne = rw (eqb-other x y ne) refl

  pub exchange_closed : (y : ℕ) (before after : Known) → after ≡ (if nat_eq x y then without_exchange before else before) → KeepsExchange t y before →
      KeepsExchange s y after
  exchange_closed y before after is kept = elim (same_or x y) [
    | inl e ↦
        let at : after ≡ without_exchange before = is ∙ rw (e, eqb-same y) refl in
        let row : s.exchange y ≡ option_map over (t.exchange y) = rw (e, eqb-same y) refl in
        record {
          running = rw at (subst (λ (o : Option Exchange). KeepsRunning s y None o) (sym row) (not_open (t.exchange y)));
          held = rw at (kept.held ∙
              sym (ap (held_for s y) row ∙
              subst (λ (n : ℕ). held_for s n (option_map over (t.exchange n)) ≡ held_for t n (t.exchange n)) e (held_over (t.exchange x))));
        }
    | inr ne ↦
        let at : after ≡ before = is ∙ rw (eqb-other x y ne) refl in
        rw at (exchange_same t s y before (record { row = others y ne; brings = λ w there. refl; held = held_same y (t.exchange y) }) kept)
  ]

  headless_over : (o : Option Exchange) → is_headless (option_map over o) ≡ false
  headless_over o = grind (arith, nat_tests)

  away_closed : NobodyAwaits t x → (key : List ℕ) (d : ℕ) (o : Option rows.Consumer) → t.consumer d ≡ o → is_away s key o ≡ is_away t key o
  away_closed nobody key d o row = grind (arith, nat_tests)

  pub key_closed : NobodyAwaits t x → (key : List ℕ) (k : keyed.Kept) → KeepsKey t key k → KeepsKey s key k
  unfolding current
  key_closed nobody key k kept =
      key_same t s key k (record {
        current = refl;
        in_line = λ d. refl;
        passed = λ d. refl;
        away = λ d. away_closed nobody key d (t.consumer d) refl;
        turn = λ d. refl;
      }) kept

  -- REPRESENTATIONS

  -- it brings nothing of this
  abbrev pub IsApart : ℕ → Type 0
  IsApart q = brings_to q x (t.exchange x) ≡ false

  brings_over : (q : ℕ) (o : Option Exchange) → brings_to q x (option_map over o) ≡ false
  brings_over q o = grind (arith, nat_tests)

  growing_apart : (q : ℕ) → IsApart q → is_growing s q ≡ is_growing t q
  growing_apart q apart = grind (arith, nat_tests)

  -- of what isn't gone it brings nothing
  pub entry_closed : (q : ℕ) (k : Option Kept) (o : Option Representation) → ((v : Representation) → o ≡ Some v → v.is_gone ≡ false → IsApart q) →
      KeepsEntry t q k o → KeepsEntry s q k o
  unfolding bound
  entry_closed q None None apart kept = tt
  entry_closed q None (Some v) apart kept = record { gone = kept.gone; unused = kept.unused }
  entry_closed q (Some k) None apart kept = kept
  entry_closed q (Some k) (Some v) apart kept =
      let writer : KnowsWriter s.exchange k.writer v.writer =
      writer_then (λ y on. overs_closed (nat_eq x y) (t.exchange y) on) kept.writer in
      let same = λ (stays : v.is_gone ≡ false). kind_same t s q v (growing_apart q (apart v refl stays)) in
      assumption (
        kept,
        writer,
        (λ (stays : v.is_gone ≡ false). kept.kind stays ∙ sym (same stays)),
        (λ (c : ℕ). kept.first c ∙ sym (first_row t s (λ n. refl) q (t.consumer c))),
      )

  pub entries_closed : (shelf : Shelf) → ((q : ℕ) (v : Representation) → t.representation q ≡ Some v → v.is_gone ≡ false → IsApart q) →
      KeepsEntries t shelf → KeepsEntries s shelf
  entries_closed shelf apart kept = record {
    each = λ q. entry_closed q (shelf.kept q) (t.representation q) (apart q) (kept.each q);
    order = kept.order;
  }

  -- CONSUMERS

  head_over : (b : Bool) (o : Option Exchange) → head_in (if b then option_map over o else o) ≡ head_in o
  head_over b o = grind (arith, nat_tests)

  begin_over : (b : Bool) (o : Option Exchange) → base_in (if b then option_map over o else o) ≡ base_in o
  begin_over b o = grind (arith, nat_tests)

  end_over : (b : Bool) (o : Option Exchange) → end_in (if b then option_map over o else o) ≡ end_in o
  end_over b o = grind (arith, nat_tests)

  -- whoever reads it past the store sees the same
  pub consumer_over : (k : Option Consumer) (row : Option rows.Consumer) → KeepsConsumer t k row → KeepsConsumer s k row
  consumer_over = consumer_alike t s (record {
    head = λ y. head_over (nat_eq x y) (t.exchange y);
    begins = λ y. begin_over (nat_eq x y) (t.exchange y);
    ends = λ y. end_over (nat_eq x y) (t.exchange y);
    length = λ q. refl;
  })

-- ALL OF IT

module _ {B : Type 0} {g : Ghosts B} {limits : Limits} (r u : Rows B g) (t : Tables) (x : ℕ) (stands : RowsStand limits r t) (unawaited : NobodyAwaits t x)
    (last : u.last_start ≡ r.last_start) (consumers : u.consumers ≡ r.consumers) (keys : u.keys ≡ r.keys)
    (becomes : exch.Becomes without_exchange x r.exchanges u.exchanges) (bounded : (shelf_of u.entries).limits ≡ (shelf_of r.entries).limits) where
  pub stands_closed : KeepsEntries (tables_after_close x t) (shelf_of u.entries) → RowsStand limits u (tables_after_close x t)
  stands_closed entries = record {
    limits = bounded ∙ stands.limits;
    last_start = last ∙ stands.last_start;
    next = becomes.next ∙ stands.next;
    count = ap (λ z. hash_map_len z) consumers ∙ stands.count;
    consumers = λ d. rw consumers (consumer_over t x (get nat_eq r.consumers d) (t.consumer d) (stands.consumers d));
    exchanges = λ y. exchange_closed t x y (table_of r.exchanges y) (table_of u.exchanges y) (by_here y) (stands.exchanges y);
    keys = λ key. rw keys (key_closed t x unawaited key (kept_of r.keys key) (stands.keys key));
    entries = entries;
  }
    where
      by_here : (y : ℕ) → table_of u.exchanges y ≡ (if nat_eq x y then without_exchange (table_of r.exchanges y) else table_of r.exchanges y)
      by_here y = becomes.table y ∙ elim (same_or x y) [
        | inl e ↦ rw (e, eqb-same y) refl
        | inr ne ↦ rw (eqb-other x y ne) refl
      ]

-- it brings nothing of what isn't gone
pub stands_unstored : {B : Type 0} {g : Ghosts B} {limits : Limits} (r u : Rows B g) (t : Tables) (x : ℕ) → RowsStand limits r t → NobodyAwaits t x →
    ((q : ℕ) (v : Representation) → t.representation q ≡ Some v → v.is_gone ≡ false → IsApart t x q)
    → u.last_start ≡ r.last_start → u.consumers ≡ r.consumers → u.keys ≡ r.keys → u.entries ≡ r.entries →
    exch.Becomes without_exchange x r.exchanges u.exchanges → RowsStand limits u (tables_after_close x t)
stands_unstored r u t x stands unawaited apart last consumers keys same_entries becomes =
    stands_closed r u t x stands unawaited last consumers keys becomes (ap (λ z. (shelf_of z).limits) same_entries)
    (subst (λ z. KeepsEntries (tables_after_close x t) (shelf_of z)) (sym same_entries) (entries_closed t x (shelf_of r.entries) apart stands.entries))
