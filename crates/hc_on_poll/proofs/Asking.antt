-- The next bytes of an exchange are asked for: what is kept represents the tables then.
--
-- An exchange that is asked has the same head, body, base and promised length. What looks at these alone sees no
-- difference (`looks`): what is held, consumers, keys and entries. Of the exchange itself it is kept that it was asked
-- (`exchange_bringing`). `stands_asked` joins this. Where it was asked already, neither the tables nor the rows change
-- (`stands_asked_already`). `BoundGives` and `ReadPast` use both, for who asks or waits.
use Rattle.std.{proofs.{Common.{◌≡◌, ◌≢◌, inl, inr, ℕ, ◌+◌, ◌-◌, [], length, Bool, true, false, Option, Some, None, refl, ap, sym, ◌∙◌, subst, arith}, lemmas.Bool.Decides.{nat_tests}}, specs.{Prelude.{nat_eq, bytes_eq, drop, option_map, ◌&&◌, if◌then◌else◌}, HashMap.{get, hash_map_len}}}
use Rattle.hc_text.proofs.Basics.{eqb-other, eqb-same, same_or}
use Rattle.hc_effects.proofs.Vocabulary.{Limits, Place, current, is_number, with_ask, to_bring, base, promised_bytes, family, is_headless, brings_to, absent_from, end_in, end_of_direct, base_in, lo_of, hi_of, offset, is_bound_place, Tables, Exchange, Representation, by, place}
use Rattle.hc_store.specs.declared.backend.Backend.{Ghosts}
use Rattle.hc_stored.specs.Entries.{shelf_of}
use Rattle.hc_stored.specs.Shelf as shelf
use Rattle.hc_entry.specs.Keys.{kept_of}
use Rattle.hc_exch.specs.{Exchanges.{table_of}, Known.{Known, with_asking}, declared.row.Open.{Open}}
use Rattle.hc_exch.specs.Exchanges as exch
use Rattle.hc_model.specs.Rows as rows
use Rattle.hc_state.specs.{Stored.{is_over}, declared.rows.Rows.{Rows}, Handlers.{asked_in}, Kept.{IsKept, KeepsConsumer, KeepsExchange, KeepsRunning, head_in, answer_at, held_for, held_of, held_alone, unstored_bytes}, Lines.{KeepsKey, is_away, is_away_at}, Stands.{RowsStand}}
use Rattle.hc_txn.specs.declared.transaction.Transaction.{Transaction as Consumer}
use Rattle.hc_state.proofs.{Fallbacks.{same, held_alike}, OneOfEach.{entries_same, growing_same}, ReaderSteps.{entries_read}, Ties.{exchange_same, key_same}}

-- WHAT IS ASKED FOR BRINGS AS MUCH

-- its body begins and ends where it did
base_bringing : (w : Exchange) → base (to_bring w) ≡ base w
base_bringing w = grind (arith, nat_tests)

promised_bringing : (w : Exchange) → promised_bytes (to_bring w) ≡ promised_bytes w
promised_bringing w = grind (arith, nat_tests)

module _ (t : Tables) (x : ℕ) where
  abbrev pub s : Tables
  s = with_ask x t

  here : s.exchange x ≡ option_map to_bring (t.exchange x)
  here = rw (eqb-same x) refl

  others : (y : ℕ) → x ≢ y → s.exchange y ≡ t.exchange y
  others y ne = rw (eqb-other x y ne) refl

  -- what looks at it in this way sees no difference
  looks : {A : Type 0} (f : ℕ → Option Exchange → A) → ((w : Exchange) → f x (Some (to_bring w)) ≡ f x (Some w)) → (y : ℕ) →
      f y (s.exchange y) ≡ f y (t.exchange y)
  looks f alike y = elim (same_or x y) [
    | inl e ↦ subst (λ (n : ℕ). f n (s.exchange n) ≡ f n (t.exchange n)) e (ap (f x) here ∙ by_row (t.exchange x))
    | inr ne ↦ ap (f y) (others y ne)
  ]
    where
      by_row : (o : Option Exchange) → f x (option_map to_bring o) ≡ f x o
      by_row None = refl
      by_row (Some w) = alike w

  -- EXCHANGES

  unstored_bringing : (y : ℕ) (w : Exchange) (v : Representation) (o : Option rows.Consumer) → unstored_bytes t y (to_bring w) v o ≡ unstored_bytes t y w v o
  unstored_bringing y w v None = refl
  unstored_bringing y w v (Some k) =
      ap (λ (b : ℕ). if is_bound_place (family y w) k.place && is_number k.own y then
      drop (absent_from v.stored v.reach (offset t k) (b + length w.body) - b) w.body else []) (base_bringing w)

  alone_bringing : (y : ℕ) (w : Exchange) (v : Representation) (o : Option ℕ) → held_alone t y (to_bring w) v o ≡ held_alone t y w v o
  alone_bringing y w v None = refl
  alone_bringing y w v (Some c) = unstored_bringing y w v (t.consumer c)

  of_bringing : (y : ℕ) (w : Exchange) (o : Option Representation) → held_of t y (to_bring w) o ≡ held_of t y w o
  of_bringing y w None = refl
  of_bringing y w (Some v) = alone_bringing y w v v.alone

  held_then : (y : ℕ) (o : Option Exchange) → held_for s y o ≡ held_for t y o
  held_then y None = refl
  held_then y (Some w) = held_alike t s (λ d. same refl) y w refl

  held_bringing : (y : ℕ) → held_for s y (s.exchange y) ≡ held_for t y (t.exchange y)
  held_bringing y = held_then y (s.exchange y) ∙ looks (held_for t) (λ w. of_bringing x w (t.representation (family x w))) y

  runs_bringing : (o : Option Open) (row : Option Exchange) → KeepsRunning t x o row →
      KeepsRunning s x (option_map (λ (z : Open). record z { asked = true }) o) (option_map to_bring row)
  runs_bringing None None keeps = refl
  runs_bringing None (Some w) keeps = keeps
  runs_bringing (Some o) None keeps = absurd keeps
  runs_bringing (Some o) (Some w) keeps = assumption (
    keeps,
    keeps.base_is ∙ sym (base_bringing w),
    keeps.promised_is ∙ sym (promised_bringing w),
  )

  pub exchange_bringing : (y : ℕ) (before after : Known) → after ≡ (if nat_eq x y then with_asking before else before) → KeepsExchange t y before →
      KeepsExchange s y after
  exchange_bringing y before after is kept = elim (same_or x y) [
    | inl e ↦
        let at : after ≡ with_asking before = is ∙ rw (e, eqb-same y) refl in
        record {
          running = rw at (subst (λ (n : ℕ). KeepsRunning s n (with_asking before).running (s.exchange n)) e
              (subst (KeepsRunning s x (with_asking before).running) (sym here)
              (runs_bringing before.running (t.exchange x) (subst (λ (n : ℕ). KeepsRunning t n before.running (t.exchange n)) (sym e) kept.running))));
          held = rw at (kept.held ∙ sym (held_bringing y));
        }
    | inr ne ↦
        let at : after ≡ before = is ∙ rw (eqb-other x y ne) refl in
        rw at (exchange_same t s y before (record { row = others y ne; brings = λ w there. refl; held = held_then y (t.exchange y) }) kept)
  ]

  -- CONSUMERS

  end_bringing : (w : Exchange) → end_in (Some (to_bring w)) ≡ end_in (Some w)
  end_bringing w = ap (λ (o : Option ℕ). end_of_direct o (to_bring w)) (promised_bringing w) ∙ by_promise (promised_bytes w)
    where
      by_promise : (o : Option ℕ) → end_of_direct o (to_bring w) ≡ end_of_direct o w
      by_promise None = refl
      by_promise (Some n) = ap (λ (b : ℕ). Some (b + n)) (base_bringing w)

  -- who stands there sees the same
  record SeesAlike (p : Place) : Type 0 where
    answer : answer_at t p ≡ answer_at s p
    begins : lo_of s p ≡ lo_of t p
    ends : hi_of s p ≡ hi_of t p

  kept_bringing : (k : Consumer) (v : rows.Consumer) → IsKept t k v → IsKept s k v
  kept_bringing k v kp = assumption (
    kp,
    kp.answer ∙ by_shown v.shown (at_place v.place refl).answer,
    kp.begins ∙ sym (at_place v.place refl).begins,
    kp.ends ∙ sym (at_place v.place refl).ends,
  )
    where
      by_shown : (b : Bool) → answer_at t v.place ≡ answer_at s v.place → (if b then None else answer_at t v.place) ≡ (if b then None else answer_at s v.place)
      by_shown true alike = refl
      by_shown false alike = alike

      at_place : (p : Place) → v.place ≡ p → SeesAlike v.place
      at_place (place.Direct y) at = rw at (record {
        answer = sym (looks (λ n o. head_in o) (λ w. refl) y);
        begins = looks (λ n o. base_in o) base_bringing y;
        ends = looks (λ n o. end_in o) end_bringing y;
      })
      at_place place.Line at = rw at (record { answer = refl; begins = refl; ends = refl })
      at_place _ at = rw at (record { answer = refl; begins = refl; ends = refl })

  consumer_bringing : (o : Option Consumer) (row : Option rows.Consumer) → KeepsConsumer t o row → KeepsConsumer s o row
  consumer_bringing None row kept = kept
  consumer_bringing (Some k) None kept = kept
  consumer_bringing (Some k) (Some v) kept = kept_bringing k v kept

  -- KEYS

  away_bringing : (key : _) (o : Option rows.Consumer) → is_away s key o ≡ is_away t key o
  away_bringing key None = refl
  away_bringing key (Some k) = ap (λ b. bytes_eq k.request.key key && b) (by_place k.place refl)
    where
      by_place : (p : Place) → k.place ≡ p → is_away_at s k.place ≡ is_away_at t k.place
      by_place (place.Bound q lo hi (by.FirstHole y)) at = rw at (looks (λ n o. is_headless o) (λ w. refl) y)
      by_place _ at = rw at refl

  key_bringing : (key : _) (k : _) → KeepsKey t key k → KeepsKey s key k
  unfolding current
  key_bringing key k kept =
      key_same t s key k (record {
        current = refl;
        in_line = λ d. refl;
        passed = λ d. refl;
        away = λ d. away_bringing key (t.consumer d);
        turn =
            λ d. refl;
      }) kept

-- ALL OF IT

pub stands_asked : {B : Type 0} {g : Ghosts B} {limits : Limits} (r u : Rows B g) (t : Tables) (x : ℕ) → RowsStand limits r t →
    u.last_start ≡ r.last_start → u.consumers ≡ r.consumers → u.keys ≡ r.keys
    → exch.Becomes with_asking x r.exchanges u.exchanges → shelf.Stays (shelf_of r.entries) (shelf_of u.entries) → RowsStand limits u (with_ask x t)
stands_asked r u t x stands last consumers keys becomes read = record {
  limits = read.limits ∙ stands.limits;
  last_start = last ∙ stands.last_start;
  next = becomes.next ∙ stands.next;
  count = ap (λ z. hash_map_len z) consumers ∙ stands.count;
  consumers = λ d. rw consumers (consumer_bringing t x (get nat_eq r.consumers d) (t.consumer d) (stands.consumers d));
  exchanges = λ y. exchange_bringing t x y (table_of r.exchanges y) (table_of u.exchanges y) (by_here y) (stands.exchanges y);
  keys = λ key. rw keys (key_bringing t x key (kept_of r.keys key) (stands.keys key));
  entries = entries_same t (with_ask x t) (shelf_of u.entries) (λ n. refl) refl refl (λ n d. refl) (λ n d. refl)
      (λ n. growing_same t (with_ask x t) n refl (looks t x (λ y o. brings_to n y o) (λ w. refl))) (λ y on. looks t x (λ z o. is_over o) (λ w. refl) y ∙ on)
      (entries_read t (shelf_of r.entries) (shelf_of u.entries) read stands.entries);
}
  where
    by_here : (y : ℕ) → table_of u.exchanges y ≡ (if nat_eq x y then with_asking (table_of r.exchanges y) else table_of r.exchanges y)
    by_here y = becomes.table y ∙ elim (same_or x y) [
      | inl e ↦ rw (e, eqb-same y) refl
      | inr ne ↦ rw (eqb-other x y ne) refl
    ]

-- WHERE THEY WERE ASKED FOR

asked_is : (z : Known) → asked_in z.running ≡ true → with_asking z ≡ z
asked_is z on = by_running z.running refl
  where
    by_running : (o : Option Open) → z.running ≡ o → with_asking z ≡ z
    by_running None is = rw is refl
    by_running (Some o) is = let asked : o.asked ≡ true = rw is at on in rw (is, asked) refl

-- they are asked for once
pub stands_asked_already : {B : Type 0} {g : Ghosts B} {limits : Limits} (r u : Rows B g) (t : Tables) (x : ℕ) → RowsStand limits r t → asked_in
    (table_of r.exchanges x).running ≡ true → u.last_start ≡ r.last_start → u.consumers ≡ r.consumers → u.keys ≡ r.keys
    → exch.Becomes with_asking x r.exchanges u.exchanges → shelf.Stays (shelf_of r.entries) (shelf_of u.entries) → RowsStand limits u t
stands_asked_already r u t x stands on last consumers keys becomes read = record {
  limits = read.limits ∙ stands.limits;
  last_start = last ∙ stands.last_start;
  next = becomes.next ∙ stands.next;
  count = ap (λ z. hash_map_len z) consumers ∙ stands.count;
  consumers = λ d. rw consumers (stands.consumers d);
  exchanges = λ y. subst (KeepsExchange t y) (sym (becomes.table y ∙ stays y)) (stands.exchanges y);
  keys = λ key. rw keys (stands.keys key);
  entries = entries_read t (shelf_of r.entries) (shelf_of u.entries) read stands.entries;
}
  where
    stays : (y : ℕ) → (if nat_eq x y then with_asking (table_of r.exchanges x) else table_of r.exchanges y) ≡ table_of r.exchanges y
    stays y = elim (same_or x y) [
      | inl e ↦ subst (λ (n : ℕ). (if nat_eq x n then with_asking (table_of r.exchanges x) else table_of r.exchanges n) ≡ table_of r.exchanges n) e
          (rw (eqb-same x) (asked_is (table_of r.exchanges x) on))
      | inr ne ↦ rw (eqb-other x y ne) refl
    ]
