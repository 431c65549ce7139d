-- A start: what is kept represents the tables after it.
--
-- The consumer is new: its number is above all that started, so it wasn't there (`fresh`). It is nowhere bound and
-- reads nothing, so exchanges, what is held and entries stay as they were. Its key has the work. It stands in that line
-- unless its request bypasses the store or is for stored answers alone (`enters`). `stands_started` joins this;
-- `not_in_yet` is what the code needs to enter it in the line. `start` uses both.
use Rattle.std.{proofs.{Common.{◌≡◌, ◌≢◌, inl, inr, ℕ, ◌+◌, ◌<◌, List, [], ◌∷◌, Bool, true, false, cond, eqb, Option, Some, None, refl, ap, sym, ◌∙◌, subst, arith}, lemmas.Bool.Decides.{nat_tests}}, specs.{Prelude.{nat_eq, bytes_eq, filter, not, ◌&&◌, ◌||◌}, HashMap.{get, hash_map_len}}}
use Rattle.hc_text.proofs.{Basics.{eqb-other, eqb-same, same_or, and_off as then_false}, SortedLemmas.{has-with}}
use Rattle.hc_effects.proofs.Vocabulary.{Limits, Request, class_of, is_disabled, is_only, Place, is_in_line, new_consumer, current, is_live, live, with_consumer, with_start, with_event, kind_of, Lawful, bound, is_bound, Tables, Exchange, event, place, by}
use Rattle.hc_store.specs.declared.backend.Backend.{Ghosts}
use Rattle.hc_entry.specs.{Keys.{kept_of, line_of}, Kept.{on_line}, Lines.{is_held_by, is_in, line_with}}
use Rattle.hc_text.specs.Sorted.{is_among, itself}
use Rattle.hc_entry.specs.Kept as keyed
use Rattle.hc_rules.proofs.RangeReads.{bytes_eq-same}
use Rattle.hc_exch.specs.Exchanges.{table_of}
use Rattle.hc_stored.specs.Entries.{shelf_of}
use Rattle.hc_model.specs.Rows as rows
use Rattle.hc_state.specs.{declared.rows.Rows.{Rows}, Handlers.{IsEntered}, Changes.{BecomesAt}, Kept.{KeepsConsumer, KeepsExchange, held_for}, Lines.{KeepsKey, has_turn, is_passed, is_away}, Stands.{RowsStand}, Stored.{KeepsEntry, is_first}}
use Rattle.hc_txn.specs.{declared.transaction.Transaction.{Transaction as Consumer}, Transactions.{begun}}
use Rattle.hc_state.proofs.{Fallbacks.{IsAlike, same, fallback, held_alike, users_alike}, ConsumerSteps.{KeyAfter, SaysOfIt, key_with, key_stays, keys_with, at_it}, Ties.{kept_none, consumer_same, exchange_same, entry_same, key_same}}
use Rattle.hc_state.proofs.LiveCounts as counts

module _ {B : Type 0} {g : Ghosts B} {limits : Limits} (r u : Rows B g) (t : Tables) (law : Lawful t) (now c : ℕ) (request copied : Request)
    (k : Consumer) (stands : RowsStand limits r t) (ascending : r.last_start < c) (copies : copied ≡ request)
    (last : u.last_start ≡ c) (exchanges : u.exchanges ≡ r.exchanges) (same_entries : u.entries ≡ r.entries)
    (becomes : BecomesAt r.consumers u.consumers c (Some k))
    (is : k ≡ begun copied now) where
  abbrev s : Tables
  s = with_event now (event.Start c request) (with_start now c request t)

  fresh : t.consumer c ≡ None
  fresh = law.sound.numbered.lists.new_consumers c (let same = stands.last_start in rw same at ascending)

  others : (d : ℕ) → d ≢ c → s.consumer d ≡ t.consumer d
  others d ne = rw (eqb-other c d (λ e. ne (sym e))) refl

  here : s.consumer c ≡ Some (new_consumer now request)
  here = rw (eqb-same c) refl

  alike : (d : ℕ) → IsAlike (t.consumer d) (s.consumer d)
  alike d = elim (same_or c d) [
    | inl e ↦ fallback (rw (← e, fresh) refl) (rw (← e, here) refl)
    | inr ne ↦ same (others d (λ e. ne (sym e)))
  ]

  kept_here : KeepsConsumer s (Some k) (Some (new_consumer now request))
  kept_here = rw is (rw copies (assumption copies))

  consumers : (d : ℕ) → KeepsConsumer s (get nat_eq u.consumers d) (s.consumer d)
  consumers d = elim (same_or c d) [
    | inl e ↦ subst (λ (z : ℕ). KeepsConsumer s (get nat_eq u.consumers z) (s.consumer z)) e (rw (becomes.places c, eqb-same c) kept_here)
    | inr ne ↦ rw (becomes.places d, eqb-other c d ne)
        (consumer_same t s (get nat_eq r.consumers d) (t.consumer d) (λ v at. record { past = λ x is. refl; length = λ q lo hi by is. refl }) (stands.consumers d))
  ]

  held : (x : ℕ) (row : Option Exchange) → held_for s x row ≡ held_for t x row
  held x None = refl
  held x (Some w) = held_alike t s alike x w refl

  -- EXCHANGES

  all_exchanges : (x : ℕ) → KeepsExchange s x (table_of u.exchanges x)
  all_exchanges x = rw exchanges
      (exchange_same t s x (table_of r.exchanges x) (record { row = refl; brings = λ w at. refl; held = held x (t.exchange x) }) (stands.exchanges x))

  -- KEYS

  abbrev v : rows.Consumer
  v = new_consumer now request

  -- it waits with others
  abbrev queues : Bool
  queues = not (is_disabled request) && not (is_only request)

  line_here : (key : List ℕ) → is_in_line key (Some v) ≡ (bytes_eq request.key key && queues)
  line_here key = grind (arith, nat_tests)

  turn_here : (key : List ℕ) → has_turn key (Some v) ≡ false
  turn_here key = then_false (is_in_line key (Some v)) false refl

  passed_here : (key : List ℕ) → is_passed key (Some v) ≡ false
  passed_here key = then_false (bytes_eq request.key key) false refl

  away_here : (key : List ℕ) → is_away t key (Some v) ≡ false
  away_here key = then_false (bytes_eq request.key key) false refl

  stays_out : (key : List ℕ) → is_in_line key (Some v) ≡ false → SaysOfIt t c (Some v) key
  stays_out key off = record {
    in_line = off ∙ sym (ap (is_in_line key) fresh);
    passed = passed_here key ∙ sym (ap (is_passed key) fresh);
    away = away_here key ∙ sym (ap (is_away t key) fresh);
    turn = turn_here key ∙ sym (ap (has_turn key) fresh);
  }

  enters : (a : keyed.Kept) → KeepsKey t request.key a → is_in_line request.key (Some v) ≡ true → KeyAfter t c (Some v) request.key a (on_line (line_with c) a)
  enters a kept line = record {
    current = refl;
    in_line = λ d. has-with itself d c a.in_line ∙ (by_test (eqb c d) (is_among d a.in_line) ∙ rw line refl);
    passed = at_it t c (Some v) (λ d. is_among d a.passed) _ (kept.passed c ∙ (ap (is_passed request.key) fresh ∙ sym (passed_here request.key)));
    away = at_it t c (Some v) (λ d. is_among d a.away) _ (kept.away c ∙ (ap (is_away t request.key) fresh ∙ sym (away_here request.key)));
    holder = at_it t c (Some v) (λ d. is_held_by d a.holder) _ (kept.holder c ∙ (ap (has_turn request.key) fresh ∙ sym (turn_here request.key)));
  }
    where
      by_test : (b rest : Bool) → (b || rest) ≡ cond b true rest
      by_test true rest = refl
      by_test false rest = refl

  keys_by : (b : Bool) → queues ≡ b → IsEntered b c request.key r.keys u.keys → (key : List ℕ) → KeepsKey (with_consumer c (Some v) t) key (kept_of u.keys key)
  keys_by false is entered = λ key. rw (entered key) (key_with t c (Some v) key (kept_of r.keys key) (kept_of r.keys key) (stands.keys key)
      (key_stays t c (Some v) key (kept_of r.keys key) (stands.keys key)
      (stays_out key (line_here key ∙ (rw is (then_false (bytes_eq request.key key) false refl))))))
  keys_by true is entered =
      keys_with t c (Some v) (on_line (line_with c)) request.key r.keys u.keys stands.keys entered
      (enters (kept_of r.keys request.key) (stands.keys request.key) (line_here request.key ∙ rw (bytes_eq-same request.key request.key refl, is) refl))
      (λ other off. stays_out other (line_here other ∙ rw off refl))

  -- the other tables have the same consumers
  keys_then : (key : List ℕ) (a : keyed.Kept) → KeepsKey (with_consumer c (Some v) t) key a → KeepsKey s key a
  unfolding current
  keys_then key a kept = key_same (with_consumer c (Some v) t) s key a
      (record { current = refl; in_line = λ d. refl; passed = λ d. refl; away = λ d. refl; turn = λ d. refl }) kept

  -- REPRESENTATIONS

  firsts : (q d : ℕ) → is_first s q (s.consumer d) ≡ is_first t q (t.consumer d)
  firsts q d = elim (same_or c d) [
    | inl e ↦ rw (← e, here, fresh) refl
    | inr ne ↦ ap (is_first s q) (others d (λ e. ne (sym e))) ∙ by_row (t.consumer d)
  ]
    where
      by_row : (o : Option rows.Consumer) → is_first s q o ≡ is_first t q o
      by_row None = refl
      by_row (Some k) = by_place k.place refl
        where
          by_place : (p : Place) → k.place ≡ p → is_first s q (Some k) ≡ is_first t q (Some k)
          by_place (place.Bound a lo hi by.Founding) at = rw at refl
          by_place _ at = rw at refl

  bound_list : (q : ℕ) → bound s q ≡ bound t q
  unfolding bound
  bound_list q = rw here (filters t.starts)
    where
      filters : (cs : List ℕ) → filter (λ d. is_bound q (s.consumer d)) cs ≡ filter (λ d. is_bound q (t.consumer d)) cs
      filters [] = refl
      filters (d ∷ cs) = rw (users_alike t s alike q d, filters cs) refl

  entries : (q : ℕ) → KeepsEntry s q ((shelf_of u.entries).kept q) (s.representation q)
  unfolding kind_of
  entries q = rw same_entries (entry_same t s q ((shelf_of r.entries).kept q) (t.representation q) refl
      (record { users = λ d. users_alike t s alike q d; first = firsts q; list = bound_list q; kind = λ w at. refl; overs = λ y on. on })
      (stands.entries.each q))

  -- HOW MANY ARE LIVE

  count : hash_map_len u.consumers ≡ live s
  count =
      let f : ℕ → Bool = λ d. is_live (t.consumer d) in
      let h : ℕ → Bool = λ d. is_live (s.consumer d) in
      let above : t.last_start < c = (let same = stands.last_start in rw same at ascending) in
      let alike : counts.counted h t.starts ≡ counts.counted f t.starts =
      counts.counted_same f h c t.starts (λ among. counts.not_among (t.last_start + 1) c t.starts law.order.starts (omega (arith, above)) among)
      (λ d ne. ap is_live (others d ne)) in
      let more : counts.counted h (c ∷ t.starts) ≡ counts.counted h t.starts + counts.one (h c) = counts.counted-cons h c t.starts in
      let lives : counts.one (h c) ≡ 1 = rw here refl in
      let absent : get nat_eq r.consumers c ≡ None =
      kept_none t (get nat_eq r.consumers c) (subst (λ o. KeepsConsumer t (get nat_eq r.consumers c) o) fresh (stands.consumers c)) in
      let len : hash_map_len u.consumers + 0 ≡ hash_map_len r.consumers + 1 = rw absent at becomes.len in
      let before : hash_map_len r.consumers ≡ counts.counted f t.starts = stands.count in
      omega (arith, alike, more, lives, len, before)

  pub stands_started : IsEntered queues c request.key r.keys u.keys → RowsStand limits u s
  stands_started entered = record {
    limits = rw same_entries stands.limits;
    last_start = last;
    next = rw exchanges stands.next;
    count = count;
    consumers = consumers;
    exchanges = all_exchanges;
    keys = λ key. keys_then key (kept_of u.keys key) (keys_by queues refl entered key);
    entries = record { each = entries; order = rw same_entries stands.entries.order };
  }

-- WHAT ENTERING NEEDS

-- who hasn't started stands in no line
pub not_in_yet : {B : Type 0} {g : Ghosts B} {limits : Limits} (r : Rows B g) (t : Tables) (law : Lawful t) (c : ℕ) (key : List ℕ) →
    RowsStand limits r t → r.last_start < c → is_in c (line_of r.keys key) ≡ false
not_in_yet r t law c key stands ascending =
    let same = stands.last_start in
    let fresh : t.consumer c ≡ None = law.sound.numbered.lists.new_consumers c (rw same at ascending) in
    let kept = stands.keys key in
    let in_line : is_among c (kept_of r.keys key).in_line ≡ false = kept.in_line c ∙ rw fresh refl in
    let passed : is_among c (kept_of r.keys key).passed ≡ false = kept.passed c ∙ rw fresh refl in
    let away : is_among c (kept_of r.keys key).away ≡ false = kept.away c ∙ rw fresh refl in
    rw (in_line, passed, away) refl

-- what the class says is what the request does
pub class_queues : (request : Request) → (not (class_of request).disabled && not (class_of request).only) ≡ (not (is_disabled request) && not (is_only request))
unfolding class_of
class_queues request = refl
