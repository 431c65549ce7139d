-- A doom: what is kept of consumers, and of exchanges, represents the tables in which whoever waits has started over.
--
-- A consumer starts over, stands in the line already, or stays. Who waits has no answer to be shown and nothing unread,
-- so it is kept as one that just started (`kept_over`). Who stays reads an exchange that may be over now, but its head,
-- base and end are the same (`kept_on`). Nothing is held of what is closed, nor otherwise of the others: who waits for
-- a head was brought nothing. `DoomHandler` joins `all_consumers` and `exchange_shut`.
use Rattle.std.{proofs.{lemmas.Bool.Decides.{nat_tests}, Common.{arith, ◌≡◌, ℕ, zero, suc, ◌+◌, List, [], ◌∷◌, drop, Bool, true, false, eqb, Option, Some, None, refl, ap, sym, ◌∙◌, subst}}, specs.{Prelude.{nat_eq, bytes_eq, option_map, ◌&&◌, ◌||◌, if◌then◌else◌}, HashMap.{get}}}
use Rattle.hc_text.proofs.Basics.{false_true, same_some as same_row, some_inj as some_is}
use Rattle.hc_effects.proofs.Vocabulary.{Limits, Response, is_disabled, is_only, Place, back_in_line, is_number, over, woken, family, promised_bytes, is_open, Lawful, lo_of, hi_of, base_in, end_of_direct, is_bound_place, Tables, Exchange, Representation, waits_at, by, reads, place}
use Rattle.hc_store.specs.declared.backend.Backend.{Ghosts}
use Rattle.hc_entry.specs.{Keys.{line_of}, Lines.{is_in}}
use Rattle.hc_text.specs.Sorted.{is_among}
use Rattle.hc_exch.specs.Known.{Known, without_exchange}
use Rattle.hc_model.specs.Rows as rows
use Rattle.hc_effects.proofs.SameTables as tables
use Rattle.hc_effects.proofs.{SameTables.{shut}, Basics.{number_is}}
use Rattle.hc_state.specs.{declared.rows.Rows.{Rows}, Changes.{ChangesAmong}, Kept.{IsKept, KeepsConsumer, KeepsExchange, KeepsRunning, head_in, answer_at, held_for, held_of, held_alone, unread, unstored_bytes}, Stands.{RowsStand}}
use Rattle.hc_txn.specs.{declared.transaction.Transaction.{Transaction as Consumer}, Transactions.{once_over}}
use Rattle.hc_state.proofs.{Fallbacks.{unstored_moved}, Closing.{base_over, of_over, promise_over}, Ties.{kept_none, exchange_same}}
use Rattle.hc_on_head.proofs.{DoomCloses.{headless_row}, Woken.{bytes-flip, stands_for, Stood, nobody, back, beside, stays, stood, starts_over, stays_so, waiting_lives}}

-- AN EXCHANGE THAT IS OVER

-- of one list both tests tell the same
pub in_is : (xs : List ℕ) (y : ℕ) → tables.is_in xs y ≡ is_among y xs
in_is [] y = refl
in_is (x ∷ xs) y = ap (λ b. eqb x y || b) (in_is xs y)

end_over : (o : Option ℕ) (w : Exchange) → end_of_direct o (over w) ≡ end_of_direct o w
end_over o w = grind (arith, nat_tests)

module _ (b : Bool) where
  abbrev if_over : Option Exchange → Option Exchange
  if_over z = if b then option_map over z else z

-- its head, and where it begins, are the same
head_if : (b : Bool) (z : Option Exchange) → head_in (if_over b z) ≡ head_in z
head_if b z = grind (arith, nat_tests)

base_if : (b : Bool) (z : Option Exchange) → base_in (if_over b z) ≡ base_in z
base_if b z = grind (arith, nat_tests)

drop_none : (n : ℕ) → drop {A = ℕ} n [] ≡ []
drop_none n = grind (arith, nat_tests)

-- WHERE ONE WAITS

module _ (t : Tables) where
  no_answer : (p : Place) → waits_at t p ≡ true → answer_at t p ≡ None
  no_answer p waits = grind (arith, nat_tests)

  no_read : (x : ℕ) (w : Exchange) (k : rows.Consumer) (p : Place) → k.place ≡ p → waits_at t p ≡ true → unread x w (Some k) ≡ []
  no_read x w k p at waits = grind (arith, nat_tests)

module _ (t : Tables) (law : Lawful t) (now : ℕ) (key xs : List ℕ) where
  -- the tables then
  abbrev pub s : Tables
  s = shut xs (woken now key t)

  pub exchange_is : (y : ℕ) → s.exchange y ≡ (if is_among y xs then option_map over (t.exchange y) else t.exchange y)
  exchange_is y = ap (λ (b : Bool). if b then option_map over (t.exchange y) else t.exchange y) (in_is xs y)

  -- whoever starts over, as the tables then have it
  pub over_row : (d : ℕ) (k : rows.Consumer) → t.consumer d ≡ Some k → bytes_eq key k.request.key ≡ true → waits_at t k.place ≡ true →
      s.consumer d ≡ Some (back_in_line now k)
  over_row d k row same waits = starts_over t key now (t.consumer d) k row same waits

  pub line_row : (d : ℕ) (k : rows.Consumer) → t.consumer d ≡ Some k → bytes_eq key k.request.key ≡ true → k.place ≡ place.Line →
      s.consumer d ≡ Some (back_in_line now k)
  line_row d k row same at = over_row d k row same (rw at refl)

  pub same_consumer : (d : ℕ) (k : rows.Consumer) → t.consumer d ≡ Some k → (bytes_eq key k.request.key && waits_at t k.place) ≡ false →
      s.consumer d ≡ t.consumer d
  same_consumer d k row off = stays_so t key now (t.consumer d) k row off

  pub none_row : (d : ℕ) → t.consumer d ≡ None → s.consumer d ≡ None
  none_row d none = rw none refl

  -- CONSUMERS

  answer_same : (p : Place) → answer_at s p ≡ answer_at t p
  answer_same p = grind (arith, nat_tests)

  begin_same : (p : Place) → lo_of s p ≡ lo_of t p
  begin_same p = grind (arith, nat_tests)

  end_same : (p : Place) → hi_of s p ≡ hi_of t p
  end_same p = grind (arith, nat_tests)

  -- whoever stays where it is
  kept_on : (k : Consumer) (v : rows.Consumer) → IsKept t k v → IsKept s k v
  kept_on k v kp = assumption (
    kp,
    kp.answer ∙ sym (ap (λ (o : Option Response). if v.shown then None else o) (answer_same v.place)),
    kp.begins ∙ sym (begin_same v.place),
    kp.ends ∙ sym (end_same v.place),
  )

  keeps_on : (o : Option Consumer) (z : Option rows.Consumer) → KeepsConsumer t o z → KeepsConsumer s o z
  keeps_on None z kept = kept
  keeps_on (Some k) None kept = kept
  keeps_on (Some k) (Some v) kept = kept_on k v kept

  -- whoever starts over
  kept_over : (k : Consumer) (v : rows.Consumer) → waits_at t v.place ≡ true → IsKept t k v → IsKept s (once_over now k) (back_in_line now v)
  kept_over k v waits kp = assumption (
    kp,
    kp.answer ∙ ap (λ (o : Option Response). if v.shown then None else o) (no_answer t v.place waits),
  )

  -- and whoever stands in line, and isn't kept there
  kept_beside : (d : ℕ) (k : Consumer) (v : rows.Consumer) → t.consumer d ≡ Some v → bytes_eq key v.request.key ≡ true → v.place ≡ place.Line →
      stands_for t key (Some v) ≡ false → IsKept t k v → IsKept s k (back_in_line now v)
  kept_beside d k v row same at stands kp =
      let idle : reads v.place ≡ false = rw at refl in
      let since : is_disabled v.request ≡ false → is_only v.request ≡ false → k.since ≡ (back_in_line now v).since =
      λ cached plain. false_true (sym stands ∙ in_line cached plain) in
      assumption (
        kp,
        since,
        kp.place ∙ at,
        kp.own ∙ law.places.line_unowned d v row at,
        kp.answer ∙ ap (λ (o : Option Response). if v.shown then None else o) (ap (answer_at t) at),
        kp.begins ∙ ap (lo_of t) at,
        kp.ends ∙ ap (hi_of t) at,
        kp.due ∙ law.owned.idle_due d v row idle,
      )
    where
      in_line : is_disabled v.request ≡ false → is_only v.request ≡ false → stands_for t key (Some v) ≡ true
      in_line cached plain =
          let of_key : bytes_eq v.request.key key ≡ true = bytes-flip v.request.key key ∙ same in
          rw (of_key, at, cached, plain) refl

  module _ {B : Type 0} {g : Ghosts B} {limits : Limits} (r u : Rows B g) (stands : RowsStand limits r t)
      (consumers : ChangesAmong r.consumers u.consumers (λ c. is_in c (line_of r.keys key)) (once_over now)) where
    pub in_line_is : (d : ℕ) → is_in d (line_of r.keys key) ≡ stands_for t key (t.consumer d)
    in_line_is d = let line = stands.keys key in rw (line.in_line d, line.passed d, line.away d) refl

    changed : (d : ℕ) → stands_for t key (t.consumer d) ≡ true → get nat_eq u.consumers d ≡ option_map (once_over now) (get nat_eq r.consumers d)
    changed d on = consumers.places d ∙ rw (in_line_is d, on) refl

    unchanged : (d : ℕ) → stands_for t key (t.consumer d) ≡ false → get nat_eq u.consumers d ≡ get nat_eq r.consumers d
    unchanged d off = consumers.places d ∙ rw (in_line_is d, off) refl

    over_by : (k : rows.Consumer) (o : Option Consumer) → waits_at t k.place ≡ true → KeepsConsumer t o (Some k) →
        KeepsConsumer s (option_map (once_over now) o) (Some (back_in_line now k))
    over_by k None waits gone = false_true (sym gone ∙ waiting_lives t key k.place waits)
    over_by k (Some q) waits kept = kept_over q k waits kept

    beside_by : (d : ℕ) (k : rows.Consumer) (o : Option Consumer) → t.consumer d ≡ Some k → bytes_eq key k.request.key ≡ true → k.place ≡ place.Line →
        stands_for t key (Some k) ≡ false → KeepsConsumer t o (Some k) → KeepsConsumer s o (Some (back_in_line now k))
    beside_by d k None row same at stands_off gone = false_true (sym gone ∙ waiting_lives t key k.place (rw at refl))
    beside_by d k (Some q) row same at stands_off kept = kept_beside d q k row same at stands_off kept

    pub all_consumers : (d : ℕ) → KeepsConsumer s (get nat_eq u.consumers d) (s.consumer d)
    all_consumers d = by_stood (stood t key law d)
      where
        kept : (k : rows.Consumer) → t.consumer d ≡ Some k → KeepsConsumer t (get nat_eq r.consumers d) (Some k)
        kept k row = subst (KeepsConsumer t (get nat_eq r.consumers d)) row (stands.consumers d)

        by_stood : Stood t key (t.consumer d) → KeepsConsumer s (get nat_eq u.consumers d) (s.consumer d)
        by_stood (nobody none) =
            let gone : get nat_eq r.consumers d ≡ None =
            kept_none t (get nat_eq r.consumers d) (subst (KeepsConsumer t (get nat_eq r.consumers d)) none (stands.consumers d)) in
            let still : get nat_eq u.consumers d ≡ None = unchanged d (ap (stands_for t key) none) ∙ gone in
            rw (still, none_row d none) refl
        by_stood (back k row same waits on) =
            subst (λ o. KeepsConsumer s o (s.consumer d)) (sym (changed d on))
            (subst (KeepsConsumer s (option_map (once_over now) (get nat_eq r.consumers d))) (sym (over_row d k row same waits))
            (over_by k (get nat_eq r.consumers d) waits (kept k row)))
        by_stood (beside k row same at off) =
            subst (λ o. KeepsConsumer s o (s.consumer d)) (sym (unchanged d off))
            (subst (KeepsConsumer s (get nat_eq r.consumers d)) (sym (line_row d k row same at))
            (beside_by d k (get nat_eq r.consumers d) row same at (sym (ap (stands_for t key) row) ∙ off) (kept k row)))
        by_stood (stays k row off stands_off) =
            subst (λ o. KeepsConsumer s o (s.consumer d)) (sym (unchanged d stands_off))
            (subst (KeepsConsumer s (get nat_eq r.consumers d)) (sym (same_consumer d k row off))
            (keeps_on (get nat_eq r.consumers d) (t.consumer d) (stands.consumers d)))

  -- WHAT IS HELD

  unread_same : (x : ℕ) (w : Exchange) (d : ℕ) → unread x w (s.consumer d) ≡ unread x w (t.consumer d)
  unread_same x w d = grind (arith, nat_tests)

  -- whoever waits for the head of a first hole was brought nothing by its own exchange
  no_unstored : (x c : ℕ) (w : Exchange) (v : Representation) (k : rows.Consumer) (p : Place) → t.exchange x ≡ Some w → t.consumer c ≡ Some k →
      k.place ≡ p → waits_at t p ≡ true → unstored_bytes t x w v (Some k) ≡ []
  no_unstored x c w v k (place.Bound q lo hi (by.FirstHole y)) there row at waits = by_test (is_bound_place (family x w) k.place && is_number k.own x) refl
    where
      both : (a b : Bool) → (a && b) ≡ true → b ≡ true
      both true b on = on
      both false b on = false_true on

      empty : is_number k.own x ≡ true → w.body ≡ []
      empty on =
          let (e, e_row, opened, bare) = headless_row (t.exchange y) waits in
          let a = law.owned.waiting y e e_row opened bare in
          let its = law.owned.first_own c q lo y hi k row at in
          let mine : e.c ≡ c = ap (λ (z : Exchange). z.c) (same_row (t.exchange y) e its.w e_row its.row) ∙ its.for_it in
          let one : a.k ≡ k = same_row (t.consumer c) a.k k (sym (ap t.consumer mine) ∙ a.row) row in
          let one_number : y ≡ x = some_is y x (sym (ap (λ (z : rows.Consumer). z.own) (sym one) ∙ a.own) ∙ number_is k.own x on) in
          let same : e ≡ w = same_row (t.exchange x) e w (sym (ap t.exchange one_number) ∙ e_row) there in
          ap (λ (z : Exchange). z.body) (sym same) ∙ (law.sound.waits.headless y e e_row bare).0

      by_test : (b : Bool) → (is_bound_place (family x w) k.place && is_number k.own x) ≡ b → unstored_bytes t x w v (Some k) ≡ []
      by_test false off = rw off refl
      by_test true on = rw (on, empty (both (is_bound_place (family x w) k.place) (is_number k.own x) on)) (drop_none _)
  no_unstored x c w v k place.Line there row at waits = rw at refl
  no_unstored x c w v k (place.Passed q held) there row at waits = rw at refl
  no_unstored x c w v k (place.Turn y) there row at waits = rw at refl
  no_unstored x c w v k _ there row at waits = false_true waits

  unstored_same : (x c : ℕ) (w : Exchange) (v : Representation) → t.exchange x ≡ Some w →
      unstored_bytes s x w v (s.consumer c) ≡ unstored_bytes t x w v (t.consumer c)
  unstored_same x c w v there = by_stood (stood t key law c)
    where
      by_stood : Stood t key (t.consumer c) → unstored_bytes s x w v (s.consumer c) ≡ unstored_bytes t x w v (t.consumer c)
      by_stood (nobody none) = ap (unstored_bytes s x w v) (none_row c none) ∙ sym (ap (unstored_bytes t x w v) none)
      by_stood (back k row same waits on) = ap (unstored_bytes s x w v) (over_row c k row same waits) ∙
          sym (ap (unstored_bytes t x w v) row ∙ no_unstored x c w v k k.place there row refl waits)
      by_stood (beside k row same at off) = ap (unstored_bytes s x w v) (line_row c k row same at) ∙ sym (ap (unstored_bytes t x w v) row ∙ rw at refl)
      by_stood (stays k row off stands_off) = ap (unstored_bytes s x w v) (same_consumer c k row off) ∙ unstored_moved t s x w v (t.consumer c)

  alone_same : (x : ℕ) (w : Exchange) (v : Representation) (o : Option ℕ) → t.exchange x ≡ Some w → held_alone s x w v o ≡ held_alone t x w v o
  alone_same x w v None there = refl
  alone_same x w v (Some c) there = unstored_same x c w v there

  of_same : (x : ℕ) (w : Exchange) (o : Option Representation) → t.exchange x ≡ Some w → held_of s x w o ≡ held_of t x w o
  of_same x w None there = unread_same x w w.c
  of_same x w (Some v) there = alone_same x w v v.alone there

  held_same : (x : ℕ) (z : Option Exchange) → t.exchange x ≡ z → held_for s x z ≡ held_for t x z
  held_same x None there = refl
  held_same x (Some w) there = of_same x w (t.representation (family x w)) there

  held_over : (x : ℕ) (z : Option Exchange) → t.exchange x ≡ z → held_for s x (option_map over z) ≡ held_for t x z
  held_over x None there = refl
  held_over x (Some w) there = of_over s x w (t.representation (family x w)) ∙ of_same x w (t.representation (family x w)) there

  -- EXCHANGES

  not_open : (z : Option Exchange) → is_open (option_map over z) ≡ false
  not_open z = grind (arith, nat_tests)

  pub exchange_shut : (x : ℕ) (before after : Known) → after ≡ (if is_among x xs then without_exchange before else before) → KeepsExchange t x before →
      KeepsExchange s x after
  exchange_shut x before after is kept = by_test (is_among x xs) refl
    where
      by_test : (b : Bool) → is_among x xs ≡ b → KeepsExchange s x after
      by_test true on =
          let at : after ≡ without_exchange before = is ∙ rw on refl in
          let row : s.exchange x ≡ option_map over (t.exchange x) = exchange_is x ∙ rw on refl in
          record {
            running = rw at (subst (λ (o : Option Exchange). KeepsRunning s x None o) (sym row) (not_open (t.exchange x)));
            held = rw at (kept.held ∙ sym (ap (held_for s x) row ∙ held_over x (t.exchange x) refl));
          }
      by_test false off =
          let at : after ≡ before = is ∙ rw off refl in
          rw at (exchange_same t s x before
          (record { row = exchange_is x ∙ rw off refl; brings = λ w there. refl; held = held_same x (t.exchange x) refl }) kept)
