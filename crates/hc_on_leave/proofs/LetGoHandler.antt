-- A representation is let go: the rows represent the tables without it.
--
-- A consumer is of three kinds: it isn't there, it was let through to this one, or it stays (`Stood`). The second kind
-- has the work. The code looks for it in the line of the key, and puts it back as the tables do (`started_over`). Its
-- key has no current one then, and of other keys the same is said. The entry is marked as gone, or dropped where nobody
-- is bound. `stands_without` joins this; `let_go` uses the last two lemmas, for what is usable and for what isn't.
use Rattle.std.{proofs.{Common.{◌≡◌, ℕ, List, Bool, true, false, cond, Option, Some, None, refl, ap, sym, ◌∙◌, subst, arith, []}, lemmas.Bool.Decides.{nat_tests}}, specs.{Prelude.{is_some, nat_eq, bytes_eq, option_map, option_and_then, not, ◌&&◌, ◌||◌, ◌==◌, if◌then◌else◌}, HashMap.{get}}}
use Rattle.hc_text.proofs.Basics.{eqb-same, false_true, mapped, some_inj as some_is, and_off as then_false}
use Rattle.hc_effects.proofs.Vocabulary.{Limits, Place, back_in_line, current, is_usable, total_in, is_live, as_gone, let_go, unless_it, family, MayLetGo, is_in_line, holds_turn, Queues, has_passed, Tables, Exchange, Representation, bound, kind_of, place}
use Rattle.hc_store.specs.declared.backend.Backend.{Ghosts}
use Rattle.hc_stored.specs.{Entries.{shelf_of}, Kept.{Kept, is_nobody}, Views.{key_in}, Shelf.{taken_out}}
use Rattle.hc_text.specs.Sorted.{itself, is_among, without}
use Rattle.hc_stored.specs.Kept as kept
use Rattle.hc_stored.specs.Shelf as shelves
use Rattle.hc_entry.specs.{declared.keys.KeyTable.{KeyTable}, Keys.{kept_of, line_of}, Kept.{on_line, with_current}, Lines.{is_in, passed_back}}
use Rattle.hc_entry.specs.Keys as keys
use Rattle.hc_entry.proofs.OrderLemmas.{among-merged}
use Rattle.hc_exch.specs.Exchanges.{table_of, next_of}
use Rattle.hc_rules.proofs.RangeReads.{same_bytes, bytes_eq-same}
use Rattle.hc_model.specs.Effects.{waits_for}
use Rattle.hc_model.specs.Rows as rows
use Rattle.hc_effects.proofs.{CurrentKeeps.{usable_row}, IdleNow.{filter_both}, LettingGo.{current_let_go, bound_let_go, live_let_go, current_may, let_go_nothing}, PollKeeps.{find_passes}}
use Rattle.hc_state.specs.{declared.rows.Rows.{Rows}, Changes.{ChangesAmong, over_if_passed}, Kept.{KeepsConsumer, KeepsExchange, held_for}, Lines.{KeepsKey, has_turn, is_passed, is_away}, Stands.{RowsStand}, Stored.{IsEntry, KnowsLength, reported, unreported, KeepsEntry, KeepsEntries, is_first, is_usable_row, is_usable_kept}}
use Rattle.hc_txn.specs.declared.transaction.Transaction.{Transaction as Consumer}
use Rattle.hc_state.proofs.{Fallbacks.{IsAlike, same, fallback, held_gone, users_alike}, BoundLists.{bound_none, bound_some}, OneOfEach.{first_by, kind_same}, Ties.{consumer_same, key_same, entry_same, exchange_same, SaysSame, UsesSame}}

-- ROWS THAT ARE GONE

gone_total : (b : Bool) (z : Option Representation) → total_in (if b then option_map as_gone z else z) ≡ total_in z
gone_total b z = grind (arith, nat_tests)

gone_there : (b : Bool) (z : Option Representation) → is_some (if b then option_map as_gone z else z) ≡ is_some z
gone_there b z = grind (arith, nat_tests)

-- WHAT IS LET GO

module _ {B : Type 0} {g : Ghosts B} {limits : Limits} (r u : Rows B g) (t : Tables) (may : MayLetGo t) (stands : RowsStand limits r t) (now n : ℕ)
    (k : Kept) (v : Representation)
    (at : (shelf_of r.entries).kept n ≡ Some k) (row : t.representation n ≡ Some v) (entry : IsEntry t n k v) (fresh : k.is_gone ≡ false) where
  abbrev s : Tables
  s = let_go now n t

  v_fresh : v.is_gone ≡ false
  v_fresh = sym entry.is_gone ∙ fresh

  current_here : current t k.key ≡ Some n
  current_here = rw entry.key (current_may t may n v row v_fresh)

  -- WHO WAITED

  -- nobody, one that waited for it, or one that didn't
  data Stood (d : ℕ) : Type 0 where
    nobody : t.consumer d ≡ None → s.consumer d ≡ None → Stood d
    back : (w : rows.Consumer) (held : Option ℕ) → t.consumer d ≡ Some w → s.consumer d ≡ Some (back_in_line now w) → w.place ≡ place.Passed n held →
        w.request.key ≡ k.key → Queues w → Stood d
    stays : (w : rows.Consumer) → t.consumer d ≡ Some w → s.consumer d ≡ Some w → is_passed k.key (Some w) ≡ false → Stood d

  stays_by : (d : ℕ) (w : rows.Consumer) → t.consumer d ≡ Some w → has_passed w.place ≡ false → waits_for n w.place ≡ false → Stood d
  stays_by d w here off apart = stays w here (rw here (rw apart refl)) (rw off (then_false (bytes_eq w.request.key k.key) false refl))

  passed_by : (d q : ℕ) (held : Option ℕ) (w : rows.Consumer) (b : Bool) → nat_eq n q ≡ b → t.consumer d ≡ Some w → w.place ≡ place.Passed q held → Stood d
  passed_by d q held w true on here at_place =
      let one : n ≡ q = grind (arith, nat_tests, on) in
      let waits = may.waits d q held w here at_place in
      let same_v : waits.v ≡ v = some_is waits.v v (sym waits.row ∙ (ap t.representation (sym one) ∙ row)) in
      back w held here (rw here (rw (at_place, on) refl)) (at_place ∙ ap (λ z. place.Passed z held) (sym one))
      (sym waits.key_is ∙ (ap (λ (z : Representation). z.key) same_v ∙ sym entry.key)) waits.queues
  passed_by d q held w false off here at_place = stays w here (rw here (rw (at_place, off) refl)) (by_key (bytes_eq w.request.key k.key) refl)
    where
      by_key : (b : Bool) → bytes_eq w.request.key k.key ≡ b → is_passed k.key (Some w) ≡ false
      by_key false other = rw other refl
      by_key true of_it =
          let waits = may.waits d q held w here at_place in
          let keys_same : v.key ≡ waits.v.key = sym entry.key ∙ (sym (same_bytes w.request.key k.key of_it) ∙ sym waits.key_is) in
          let one : n ≡ q = may.one_current n q v waits.v row waits.row v_fresh waits.not_gone keys_same in
          false_true (sym off ∙ grind (arith, nat_tests, one))

  stood_at : (d : ℕ) (w : rows.Consumer) (p : Place) → t.consumer d ≡ Some w → w.place ≡ p → Stood d
  stood_at d w (place.Passed q held) here is = passed_by d q held w (nat_eq n q) refl here is
  stood_at d w _ here is = stays_by d w here (rw is refl) (rw is refl)

  stood_row : (d : ℕ) (z : Option rows.Consumer) → t.consumer d ≡ z → Stood d
  stood_row d None here = nobody here (rw here refl)
  stood_row d (Some w) here = stood_at d w w.place here refl

  stood : (d : ℕ) → Stood d
  stood d = stood_row d (t.consumer d) refl

  alike : (d : ℕ) → IsAlike (t.consumer d) (s.consumer d)
  alike d = elim (stood d) [
    | nobody here later ↦ same (later ∙ sym here)
    | back w held here later is key queues ↦ fallback (rw (here, is) refl) (rw later refl)
    | stays w here later off ↦ same (later ∙ sym here)
  ]

  -- CONSUMERS

  line_is : (d : ℕ) → is_in d (line_of r.keys k.key) ≡ ((is_in_line k.key (t.consumer d) || is_passed k.key (t.consumer d)) || is_away t k.key (t.consumer d))
  line_is d = let a = stands.keys k.key in rw (a.in_line d, a.passed d, a.away d) refl

  -- whoever hasn't passed for the key doesn't change
  unchanged : (d : ℕ) (w : rows.Consumer) → t.consumer d ≡ Some w → is_passed k.key (Some w) ≡ false → (o : Option Consumer) →
      KeepsConsumer t o (Some w) → cond (is_in d (line_of r.keys k.key)) (option_map (over_if_passed now) o) o ≡ o
  unchanged d w here off None kept = grind (arith, nat_tests)
  unchanged d w here off (Some c) kept = by_place (has_passed w.place) refl
    where
      no_change : (b : Bool) → has_passed c.place ≡ false → cond b (option_map (over_if_passed now) (Some c)) (Some c) ≡ Some c
      no_change true none = rw none refl
      no_change false none = refl

      out : (b : Bool) → bytes_eq w.request.key k.key ≡ b → has_passed w.place ≡ true → is_in d (line_of r.keys k.key) ≡ false
      out true of_it passes = false_true (sym off ∙ rw (of_it, passes) refl)
      out false other passes = line_is d ∙ rw (here, other) refl

      by_place : (b : Bool) → has_passed w.place ≡ b → cond (is_in d (line_of r.keys k.key)) (option_map (over_if_passed now) (Some c)) (Some c) ≡ Some c
      by_place false none = no_change (is_in d (line_of r.keys k.key)) (ap has_passed kept.place ∙ none)
      by_place true passes = rw (out (bytes_eq w.request.key k.key) refl passes) refl

  -- whoever waited stands in line as the tables have it
  started_over : (d : ℕ) (w : rows.Consumer) (held : Option ℕ) → t.consumer d ≡ Some w → w.place ≡ place.Passed n held → w.request.key ≡ k.key →
      (o : Option Consumer) → KeepsConsumer t o (Some w) →
      KeepsConsumer s (cond (is_in d (line_of r.keys k.key)) (option_map (over_if_passed now) o) o) (Some (back_in_line now w))
  started_over d w held here is key None kept = false_true (sym kept ∙ rw is refl)
  started_over d w held here is key (Some c) kept =
      let of_it : bytes_eq w.request.key k.key ≡ true = bytes_eq-same w.request.key k.key key in
      let inside : is_in d (line_of r.keys k.key) ≡ true = line_is d ∙ rw (here, is, of_it) refl in
      let passes : has_passed c.place ≡ true = ap has_passed (kept.place ∙ is) in
      rw (inside, passes) (assumption (kept, kept.answer ∙ no_answer w.shown is))
    where
      no_answer : (b : Bool) → w.place ≡ place.Passed n held → (if b then None else Rattle.hc_state.specs.Kept.answer_at t w.place) ≡ (if b then None else None)
      no_answer true is = refl
      no_answer false is = rw is refl

  module _ (consumers : ChangesAmong r.consumers u.consumers (λ c. is_in c (line_of r.keys k.key)) (over_if_passed now)) where
    all_consumers : (d : ℕ) → KeepsConsumer s (get nat_eq u.consumers d) (s.consumer d)
    all_consumers d = subst (λ o. KeepsConsumer s o (s.consumer d)) (sym (consumers.places d)) (elim (stood d) [
      | nobody here later ↦ none_kept here later (get nat_eq r.consumers d) (stands.consumers d)
      | back w held here later is key queues ↦ subst (KeepsConsumer s _) (sym later)
          (started_over d w held here is key (get nat_eq r.consumers d) (subst (KeepsConsumer t (get nat_eq r.consumers d)) here (stands.consumers d)))
      | stays w here later off ↦
          let before : KeepsConsumer t (get nat_eq r.consumers d) (Some w) = subst (KeepsConsumer t (get nat_eq r.consumers d)) here (stands.consumers d) in
          subst (λ o. KeepsConsumer s o (s.consumer d)) (sym (unchanged d w here off (get nat_eq r.consumers d) before))
          (subst (KeepsConsumer s (get nat_eq r.consumers d)) (sym later)
          (consumer_same t s (get nat_eq r.consumers d) (Some w)
          (λ z is. record { past = λ x at_place. refl; length = λ q lo hi how at_place. gone_total (n == q) (t.representation q) }) before))
    ])
      where
        none_kept : t.consumer d ≡ None → s.consumer d ≡ None → (o : Option Consumer) → KeepsConsumer t o (t.consumer d) →
            KeepsConsumer s (cond (is_in d (line_of r.keys k.key)) (option_map (over_if_passed now) o) o) (s.consumer d)
        none_kept here later None kept =
            subst (λ (o : Option Consumer). KeepsConsumer s o (s.consumer d)) (by_test (is_in d (line_of r.keys k.key))) (ap is_live later)
          where
            by_test : (b : Bool) → None ≡ cond b (option_map (over_if_passed now) None) None
            by_test true = refl
            by_test false = refl
        none_kept here later (Some c) kept = absurd (subst (KeepsConsumer t (Some c)) here kept)

  -- EXCHANGES

  held_same : (x : ℕ) (z : Option Exchange) → held_for s x z ≡ held_for t x z
  held_same x z = grind (arith, nat_tests)

  all_exchanges : (x : ℕ) → KeepsExchange s x (table_of r.exchanges x)
  all_exchanges x = exchange_same t s x (table_of r.exchanges x)
      (record { row = refl; brings = λ w is. gone_there (n == family x w) (t.representation (family x w)); held = held_same x (t.exchange x) })
      (stands.exchanges x)

  -- KEYS

  -- of another key the same is said
  says_same : (key : List ℕ) → bytes_eq k.key key ≡ false → SaysSame t s key
  unfolding current
  says_same key other = record {
    current = current_let_go now n t may.one_current key ∙ unless (current t key) refl;
    in_line = λ c. of_row c (is_in_line key) (λ w is. rw (key_off w is) refl);
    passed = λ c. of_row c (is_passed key) (λ w is. rw (key_off w is) refl);
    away = λ c. of_row c (is_away t key) (λ w is. rw (key_off w is) refl);
    turn = λ c. of_row c (has_turn key) (λ w is. rw (key_off w is) refl);
  }
    where
      unless : (o : Option ℕ) → current t key ≡ o → unless_it n o ≡ o
      unless None is = refl
      unless (Some q) is = by_number (nat_eq q n) refl
        where
          by_number : (b : Bool) → nat_eq q n ≡ b → unless_it n (Some q) ≡ Some q
          by_number false off = rw off refl
          by_number true on =
              let one : q ≡ n = grind (arith, nat_tests, on) in
              let found = usable_row t key q (t.representation q) refl (find_passes (λ m. is_usable key (t.representation m)) t.founded q is) in
              let same_v : found.v ≡ v = some_is found.v v (sym found.row ∙ (ap t.representation one ∙ row)) in
              let keys_same : k.key ≡ key = entry.key ∙ (sym (ap (λ (z : Representation). z.key) same_v) ∙ found.of_key) in
              false_true (sym other ∙ bytes_eq-same k.key key keys_same)

      key_off : (w : rows.Consumer) → w.request.key ≡ k.key → bytes_eq w.request.key key ≡ false
      key_off w is = ap (λ z. bytes_eq z key) is ∙ other

      of_row : (c : ℕ) (f : Option rows.Consumer → Bool) → ((w : rows.Consumer) → w.request.key ≡ k.key → f (Some w) ≡ false) →
          f (s.consumer c) ≡ f (t.consumer c)
      of_row c f off = elim (stood c) [
        | nobody here later ↦ ap f (later ∙ sym here)
        | back w held here later is key_is queues ↦ ap f later ∙ (off (back_in_line now w) key_is ∙ sym (ap f here ∙ off w key_is))
        | stays w here later off_key ↦ ap f (later ∙ sym here)
      ]

  -- whoever passed for its key stands in line, and none is current
  its_key : KeepsKey s k.key (with_current None (on_line passed_back (kept_of r.keys k.key)))
  its_key =
      let a = kept_of r.keys k.key in
      let was = stands.keys k.key in
      record {
        current = sym (current_let_go now n t may.one_current k.key ∙ (ap (unless_it n) current_here ∙ none_left));
        in_line = λ c. among-merged c a.passed a.in_line ∙
            (ap (λ b. b || is_among c a.in_line) (was.passed c) ∙ (ap (λ b. is_passed k.key (t.consumer c) || b) (was.in_line c) ∙ in_line_after c));
        passed = λ c. passed_after c;
        away = λ c. was.away c ∙ away_after c;
        holder = λ c. was.holder c ∙ turn_after c;
      }
    where
      none_left : unless_it n (Some n) ≡ None
      none_left = rw (eqb-same n) refl

      in_line_after : (c : ℕ) → (is_passed k.key (t.consumer c) || is_in_line k.key (t.consumer c)) ≡ is_in_line k.key (s.consumer c)
      in_line_after c = elim (stood c) [
        | nobody here later ↦ ap (λ z. is_passed k.key z || is_in_line k.key z) here ∙ sym (ap (is_in_line k.key) later)
        | back w held here later is key queues ↦ ap (λ z. is_passed k.key z || is_in_line k.key z) here ∙
            (came_back w held is (bytes_eq-same w.request.key k.key key) queues ∙ sym (ap (is_in_line k.key) later))
        | stays w here later off ↦ ap (λ z. is_passed k.key z || is_in_line k.key z) here ∙
            (ap (λ b. b || is_in_line k.key (Some w)) off ∙ sym (ap (is_in_line k.key) later))
      ]
        where
          came_back : (w : rows.Consumer) (held : Option ℕ) → w.place ≡ place.Passed n held → bytes_eq w.request.key k.key ≡ true → Queues w
              → (is_passed k.key (Some w) || is_in_line k.key (Some w)) ≡ is_in_line k.key (Some (back_in_line now w))
          came_back w held is of_it queues = rw (is, of_it, queues.cached, queues.asks) refl

      passed_after : (c : ℕ) → false ≡ is_passed k.key (s.consumer c)
      passed_after c = elim (stood c) [
        | nobody here later ↦ sym (ap (is_passed k.key) later)
        | back w held here later is key queues ↦ sym (ap (is_passed k.key) later ∙ then_false (bytes_eq w.request.key k.key) false refl)
        | stays w here later off ↦ sym (ap (is_passed k.key) later ∙ off)
      ]

      away_after : (c : ℕ) → is_away t k.key (t.consumer c) ≡ is_away t k.key (s.consumer c)
      away_after c = elim (stood c) [
        | nobody here later ↦ ap (is_away t k.key) (here ∙ sym later)
        | back w held here later is key queues ↦
            let before : is_away t k.key (Some w) ≡ false = rw is (then_false (bytes_eq w.request.key k.key) false refl) in
            ap (is_away t k.key) here ∙ (before ∙ sym (ap (is_away t k.key) later ∙ then_false (bytes_eq w.request.key k.key) false refl))
        | stays w here later off ↦ ap (is_away t k.key) (here ∙ sym later)
      ]

      turn_after : (c : ℕ) → has_turn k.key (t.consumer c) ≡ has_turn k.key (s.consumer c)
      turn_after c = elim (stood c) [
        | nobody here later ↦ ap (has_turn k.key) (here ∙ sym later)
        | back w held here later is key queues ↦
            let before : has_turn k.key (Some w) ≡ false = then_false (is_in_line k.key (Some w)) (holds_turn (Some w)) (rw is refl) in
            let after : has_turn k.key (Some (back_in_line now w)) ≡ false = then_false (is_in_line k.key (Some (back_in_line now w))) false refl in
            ap (has_turn k.key) here ∙ (before ∙ sym (ap (has_turn k.key) later ∙ after))
        | stays w here later off ↦ ap (has_turn k.key) (here ∙ sym later)
      ]

  module _ (mid : KeyTable) (line : keys.Becomes (on_line passed_back) k.key r.keys mid) (cleared : keys.Becomes (with_current None) k.key mid u.keys) where
    all_keys : (key : List ℕ) → KeepsKey s key (kept_of u.keys key)
    all_keys key = by_test (bytes_eq k.key key) refl
      where
        self : bytes_eq k.key k.key ≡ true
        self = bytes_eq-same k.key k.key refl

        by_test : (b : Bool) → bytes_eq k.key key ≡ b → KeepsKey s key (kept_of u.keys key)
        by_test true is =
            let first : kept_of mid k.key ≡ on_line passed_back (kept_of r.keys k.key) = line k.key ∙ rw self refl in
            let second : kept_of u.keys k.key ≡ with_current None (kept_of mid k.key) = cleared k.key ∙ rw self refl in
            let here : kept_of u.keys k.key ≡ with_current None (on_line passed_back (kept_of r.keys k.key)) = second ∙ ap (with_current None) first in
            subst (λ z. KeepsKey s z (kept_of u.keys z)) (same_bytes k.key key is) (subst (KeepsKey s k.key) (sym here) its_key)
        by_test false is =
            let there : kept_of u.keys key ≡ kept_of r.keys key = cleared key ∙ rw is (line key ∙ rw is refl) in
            subst (KeepsKey s key) (sym there) (key_same t s key (kept_of r.keys key) (says_same key is) (stands.keys key))

  -- REPRESENTATIONS

  firsts : (q d : ℕ) → is_first s q (s.consumer d) ≡ is_first t q (t.consumer d)
  firsts q d = grind (arith, nat_tests)

  uses : (q : ℕ) → UsesSame t s q
  uses q = record {
    users = λ d. users_alike t s alike q d;
    first = firsts q;
    list = bound_let_go now n t may.one_current q;
    kind =
        λ w is. kind_same t s q w refl;
    overs = λ y on. on;
  }

  still_reported : KnowsLength k v → KnowsLength (record k { is_gone = true }) (as_gone v)
  still_reported (reported is) = reported is
  still_reported (unreported is) =
      unreported (record { gone = refl; unreported = is.unreported; total = is.total; known = is.known; came = is.came; first = is.first })

  gone_here : (b : Bool) → is_nobody k.bound ≡ b → KeepsEntry s n (if b then None else Some (record k { is_gone = true })) (Some (as_gone v))
  gone_here true none = record { gone = refl; unused = bound_let_go now n t may.one_current n ∙ bound_none t n k v entry none }
  gone_here false some =
      let used = λ (is : true ≡ true) (empty : bound s n ≡ []).
      bound_some t may.started n k v entry some (sym (bound_let_go now n t may.one_current n) ∙ empty) in
      let kind : true ≡ false → k.head.kind ≡ kind_of s n (as_gone v) = λ no. false_true (sym no) in
      assumption (
        entry,
        used,
        still_reported entry.length,
        kind,
        (λ (c : ℕ). entry.bound c ∙ sym (users_alike t s alike n c)),
        (λ (c : ℕ). entry.first c ∙ sym (firsts n c)),
      )

  usable_is : (q : ℕ) → is_usable_row (s.representation q) ≡ (is_usable_row (t.representation q) && not (q == n))
  usable_is q = by_test (nat_eq n q) refl
    where
      by_row : (z : Option Representation) → is_usable_row (option_map as_gone z) ≡ false
      by_row None = refl
      by_row (Some w) = refl

      alone : (b : Bool) → b ≡ (b && true)
      alone true = refl
      alone false = refl

      by_test : (b : Bool) → nat_eq n q ≡ b → is_usable_row (s.representation q) ≡ (is_usable_row (t.representation q) && not (q == n))
      by_test true on =
          let flipped : nat_eq q n ≡ true = grind (arith, nat_tests, on) in
          rw (on, flipped) (by_row (t.representation q) ∙ sym (then_false (is_usable_row (t.representation q)) false refl))
      by_test false off =
          let flipped : nat_eq q n ≡ false = grind (arith, nat_tests, off) in
          rw (off, flipped) (alone (is_usable_row (t.representation q)))

  module _ (forgot : shelves.Becomes (option_and_then kept.kept_as_gone) (taken_out n) n (shelf_of r.entries) (shelf_of u.entries)) where
    each_entry : (q : ℕ) → KeepsEntry s q ((shelf_of u.entries).kept q) (s.representation q)
    each_entry q = by_test (nat_eq n q) refl
      where
        by_test : (b : Bool) → nat_eq n q ≡ b → KeepsEntry s q ((shelf_of u.entries).kept q) (s.representation q)
        by_test true on =
            let one : n ≡ q = grind (arith, nat_tests, on) in
            let here : (shelf_of u.entries).kept n ≡ kept.kept_as_gone k = forgot.kept n ∙ rw (eqb-same n) (ap (option_and_then kept.kept_as_gone) at) in
            let there : s.representation n ≡ Some (as_gone v) = rw (eqb-same n) (ap (option_map as_gone) row) in
            subst (λ z. KeepsEntry s z ((shelf_of u.entries).kept z) (s.representation z)) one
            (subst (λ o. KeepsEntry s n o (s.representation n)) (sym here)
            (subst (KeepsEntry s n (kept.kept_as_gone k)) (sym there) (gone_here (is_nobody k.bound) refl)))
        by_test false off =
            let here : (shelf_of u.entries).kept q ≡ (shelf_of r.entries).kept q = forgot.kept q ∙ rw off refl in
            let there : s.representation q ≡ t.representation q = rw off refl in
            subst (λ o. KeepsEntry s q o (s.representation q)) (sym here) (subst (KeepsEntry s q ((shelf_of r.entries).kept q)) (sym there)
            (entry_same t s q ((shelf_of r.entries).kept q) (t.representation q) refl (uses q) (stands.entries.each q)))

    all_entries : KeepsEntries s (shelf_of u.entries)
    all_entries = record {
      each = each_entry;
      order = forgot.order ∙ (ap (without itself n) stands.entries.order ∙
          sym (filter_both (λ q. is_usable_row (s.representation q)) (λ q. not (q == n)) (λ q. is_usable_row (t.representation q)) t.used usable_is));
    }

  -- ALL OF IT

  pub stands_without : (mid : KeyTable) → u.last_start ≡ r.last_start → u.exchanges ≡ r.exchanges
      → ChangesAmong r.consumers u.consumers (λ c. is_in c (line_of r.keys k.key)) (over_if_passed now)
      → keys.Becomes (on_line passed_back) k.key r.keys mid → keys.Becomes (with_current None) k.key mid u.keys
      → shelves.Becomes (option_and_then kept.kept_as_gone) (taken_out n) n (shelf_of r.entries) (shelf_of u.entries) → RowsStand limits u s
  stands_without mid last exchanges consumers line cleared forgot = record {
    limits = forgot.limits ∙ stands.limits;
    last_start = last ∙ stands.last_start;
    next = ap next_of exchanges ∙ stands.next;
    count = consumers.len ∙ (stands.count ∙ sym (live_let_go now n t may.one_current));
    consumers = all_consumers consumers;
    exchanges = λ x. subst (λ e. KeepsExchange s x (table_of e x)) (sym exchanges) (all_exchanges x);
    keys = all_keys mid line cleared;
    entries = all_entries forgot;
  }

-- what is kept has its row
entry_row : (t : Tables) (n : ℕ) (k : Kept) (z : Option Representation) → KeepsEntry t n (Some k) z → (v : Representation) × (z ≡ Some v) × IsEntry t n k v
entry_row t n k None entry = absurd entry
entry_row t n k (Some v) entry = (v, refl, entry)

-- what is current has its key
kept_key : (o : Option Kept) (key : List ℕ) → Some key ≡ option_map key_in o → is_usable_kept o ≡ true → (k : Kept) × (o ≡ Some k) × (k.key ≡ key) ×
    (k.is_gone ≡ false)
kept_key None key is usable = false_true usable
kept_key (Some k) key is usable = (k, refl, sym (some_is key k.key is), fresh k.is_gone usable)
  where
    fresh : (b : Bool) → not b ≡ true → b ≡ false
    fresh true never = sym never
    fresh false on = refl

pub lets_go : {B : Type 0} {g : Ghosts B} (r u : Rows B g) (now n : ℕ) (key : List ℕ) (mid : KeyTable) → Some key ≡ option_map key_in
    ((shelf_of r.entries).kept n) → is_usable_kept ((shelf_of r.entries).kept n) ≡ true
    → u.last_start ≡ r.last_start → u.exchanges ≡ r.exchanges
    → ChangesAmong r.consumers u.consumers (λ c. is_in c (line_of r.keys key)) (over_if_passed now)
    → keys.Becomes (on_line passed_back) key r.keys mid → keys.Becomes (with_current None) key mid u.keys
    → shelves.Becomes (option_and_then kept.kept_as_gone) (taken_out n) n (shelf_of r.entries) (shelf_of u.entries)
    → (limits : Limits) (t : Tables) → MayLetGo t → RowsStand limits r t → RowsStand limits u (let_go now n t)
lets_go r u now n key mid has_key usable last exchanges consumers line cleared forgot limits t may stands =
    let (k, at, of_key, fresh) = kept_key ((shelf_of r.entries).kept n) key has_key usable in
    let (v, row, entry) = entry_row t n k (t.representation n) (subst (λ o. KeepsEntry t n o (t.representation n)) at (stands.entries.each n)) in
    let its : key ≡ k.key = sym of_key in
    stands_without r u t may stands now n k v at row entry fresh mid last exchanges
    (subst (λ z. ChangesAmong r.consumers u.consumers (λ c. is_in c (line_of r.keys z)) (over_if_passed now)) its consumers)
    (subst (λ z. keys.Becomes (on_line passed_back) z r.keys mid) its line) (subst (λ z. keys.Becomes (with_current None) z mid u.keys) its cleared) forgot

-- what isn't kept, or is gone, isn't let go once more
pub lets_none_go : {B : Type 0} {g : Ghosts B} (r : Rows B g) (now n : ℕ) → is_usable_kept ((shelf_of r.entries).kept n) ≡ false
    → (limits : Limits) (t : Tables) → MayLetGo t → RowsStand limits r t → RowsStand limits r (let_go now n t)
lets_none_go r now n none limits t may stands =
    subst (RowsStand limits r) (sym (let_go_nothing t may now n (λ v row. by_kept ((shelf_of r.entries).kept n) refl v row))) stands
  where
    by_entry : (o : Option Kept) (v : Representation) → is_usable_kept o ≡ false → KeepsEntry t n o (Some v) → v.is_gone ≡ true
    by_entry None v off entry = entry.gone
    by_entry (Some k) v off entry = sym entry.is_gone ∙ gone_so k.is_gone off
      where
        gone_so : (b : Bool) → not b ≡ false → b ≡ true
        gone_so true is = refl
        gone_so false is = sym is

    by_kept : (o : Option Kept) → (shelf_of r.entries).kept n ≡ o → (v : Representation) → t.representation n ≡ Some v → v.is_gone ≡ true
    by_kept o at v row = by_entry o v (sym (ap is_usable_kept at) ∙ none)
        (subst (λ z. KeepsEntry t n z (Some v)) at (subst (KeepsEntry t n ((shelf_of r.entries).kept n)) row (stands.entries.each n)))
