-- A consumer that waits for the head of its exchange stands elsewhere: what is kept represents the tables then.
--
-- Before its head an exchange has brought, joined and founded nothing. So nothing of it is held for the consumer,
-- before or after, and no answer is shown. The consumer goes on past the store or is to fail: it leaves its key and
-- what it was bound to (`stands_apart`). Or it stands in line again, as its key has it then (`stands_queued`).
-- `fall_back` and `send_back` of `hc_on_head` use the last two lemmas.
use Rattle.std.{proofs.{lemmas.Bool.Decides.{nat_tests}, Common.{arith, ◌≡◌, inl, inr, ℕ, zero, suc, List, [], Bool, true, false, Some, None, refl, ap, sym, ◌∙◌, subst}}, specs.{Prelude.{nat_eq, drop, bytes_eq, ◌&&◌}, HashMap.{get}}}
use Rattle.hc_text.proofs.Basics.{eqb-other, eqb-same, false_true, same_or, same_some as same_row, and_off as then_false}
use Rattle.hc_effects.proofs.Vocabulary.{Limits, Request, Place, back_in_line, is_live_place, with_consumer, family, Lawful, is_in_line, stands_in_line, IsAwaiting, Queues, has_passed, is_bound_place, lo_of, hi_of, Tables, Exchange, Representation, awaited_exchange, place, by}
use Rattle.hc_effects.proofs.Tests.{none_some}
use Rattle.hc_store.specs.declared.backend.Backend.{Ghosts}
use Rattle.hc_stored.specs.Entries.{shelf_of}
use Rattle.hc_entry.specs.Keys as keys
use Rattle.hc_entry.specs.{Keys.{kept_of}, Kept.{on_line}, Lines.{come_back}}
use Rattle.hc_model.specs.Owners as owners
use Rattle.hc_model.specs.Rows as rows
use Rattle.hc_state.specs.{declared.rows.Rows.{Rows}, Changes.{ChangesAt}, Heads.{AwaitsHead, StandsApart}, Kept.{IsKept, answer_for, unread, unstored_bytes}, Leaving.{LeavesKey, UnbindsAt}, Lines.{is_away_at}, Stands.{RowsStand}}
use Rattle.hc_txn.specs.{declared.transaction.Transaction.{Transaction as Consumer}, Transactions.{standing_at, once_over}}
use Rattle.hc_state.proofs.{Apart.{keys_apart, entries_apart}, ConsumerSteps.{keys_with}, Dropping.{unbinds_limits}, KeySteps.{not_lined, lined, comes_back, says_elsewhere}, QueueHandler.{becomes_by}}
use Rattle.hc_on_leave.proofs.{HeardRows.{live_at, waits_as, kept_as}, OneConsumer.{HoldsAsMuch, stands_moved}, HeardExchange.{drop_none}}

-- WHERE NOTHING IS READ

abbrev none : List ℕ
none = []

-- it waits in no line, and is bound to nothing
pub record IsApartPlace (p : Place) : Type 0 where
  pub live : is_live_place p ≡ true
  pub unbound : (q : ℕ) → is_bound_place q p ≡ false
  pub unlined : stands_in_line p ≡ false
  pub unpassed : has_passed p ≡ false
  pub here : (t : Tables) → is_away_at t p ≡ false

apart_by : (x : ℕ) (p : Place) → StandsApart x p → IsApartPlace p
apart_by x (place.Direct y) is = record { live = refl; unbound = λ q. refl; unlined = refl; unpassed = refl; here = λ t. refl }
apart_by x (place.Down why) is = record { live = refl; unbound = λ q. refl; unlined = refl; unpassed = refl; here = λ t. refl }
apart_by x _ is = absurd is

module _ (t : Tables) (law : Lawful t) (x : ℕ) (w : Exchange) (row : t.exchange x ≡ Some w) (opened : w.is_open ≡ true) (bare : w.head ≡ None)
    (v : rows.Consumer) (asker : t.consumer w.c ≡ Some v) (own : v.own ≡ Some x) (at : IsAwaiting x w v.place) where
  empty : w.body ≡ []
  empty = (law.sound.waits.headless x w row bare).0

  unjoined : w.joined ≡ None
  unjoined = (law.sound.waits.headless x w row bare).1

  unfounded : t.representation x ≡ None
  unfounded = law.sound.numbered.names.unfounded x w row bare

  -- who reads x past the store has nothing of it
  past_none : (u : rows.Consumer) (y : ℕ) (z : Exchange) → u.place ≡ place.Direct x → t.exchange y ≡ Some z → unread y z (Some u) ≡ []
  past_none u y z at there = grind (arith, nat_tests)

  -- nothing of it is held for who waits for its head
  asker_past : (y : ℕ) (z : Exchange) → t.exchange y ≡ Some z → unread y z (Some v) ≡ []
  asker_past y z there = grind (arith, nat_tests)

  not_its : (y : ℕ) (z : Exchange) (b : Representation) → t.exchange y ≡ Some z → t.representation (family y z) ≡ Some b →
      (is_bound_place (family y z) v.place && (nat_eq x y)) ≡ false
  not_its y z b there founded = grind (arith, nat_tests)

  asker_lost : (y : ℕ) (z : Exchange) (b : Representation) → t.exchange y ≡ Some z → t.representation (family y z) ≡ Some b →
      unstored_bytes t y z b (Some v) ≡ []
  asker_lost y z b there founded = rw (own, not_its y z b there founded) refl

  -- it isn't shown anything past the store yet
  asker_answer : answer_for t v ≡ None
  asker_answer = grind (arith, nat_tests)

  pub unended : w.is_ended ≡ false
  unended = grind (arith, nat_tests)

  -- IT STANDS ASIDE

  module _ (p : Place) (apart : StandsApart x p) where
    abbrev z : rows.Consumer
    z = record v { place = p }

    place_is : IsApartPlace p
    place_is = apart_by x p apart

    answer_then : answer_for t z ≡ None
    answer_then = grind (arith, nat_tests)

    begins_then : (q : Place) → StandsApart x q → lo_of t q ≡ 0
    begins_then q same = grind (arith, nat_tests)

    ends_then : (q : Place) → StandsApart x q → hi_of t q ≡ None
    ends_then q same = grind (arith, nat_tests)

    kept_then : (k : Consumer) → IsKept t k v → IsKept t (standing_at p k) z
    kept_then k is = assumption (
      place_is,
      is,
      is.answer ∙ (asker_answer ∙ sym answer_then),
      sym (begins_then p apart),
      sym (ends_then p apart),
    )

    past_then : (y : ℕ) (e : Exchange) → t.exchange y ≡ Some e → unread y e (Some z) ≡ []
    past_then y e there = grind (arith, nat_tests)

    lost_then : (y : ℕ) (e : Exchange) (b : Representation) → unstored_bytes t y e b (Some z) ≡ []
    lost_then y e b = rw (place_is.unbound (family y e)) refl

    much : HoldsAsMuch t w.c v z asker
    much = record {
      past = λ y e there. past_then y e there ∙ sym (asker_past y e there);
      lost = λ y e b there founded. lost_then y e b ∙ sym (asker_lost y e b there founded);
    }

    pub stands_apart : {B : Type 0} {g : Ghosts B} {limits : Limits} (r u : Rows B g) (k : Consumer) → get nat_eq r.consumers w.c ≡ Some k →
        IsKept t k v → RowsStand limits r t
        → u.last_start ≡ r.last_start → u.exchanges ≡ r.exchanges → ChangesAt r.consumers u.consumers w.c (standing_at p)
        → LeavesKey w.c k.request.key r.keys u.keys → UnbindsAt k.place w.c (shelf_of r.entries) (shelf_of u.entries) →
        RowsStand limits u (with_consumer w.c (Some z) t)
    stands_apart r u k there is stands last exchanges changes line unbinds =
        stands_moved r u t w.c v z (standing_at p k) stands asker (live_at x w v.place at) place_is.live last exchanges
        (unbinds_limits k.place w.c (shelf_of r.entries) (shelf_of u.entries) unbinds)
        (becomes_by r.consumers u.consumers w.c k (standing_at p) there changes) (kept_then k is)
        (keys_apart t law w.c v z asker place_is.unbound (λ key. not_lined key z place_is.unlined)
        (λ key. then_false (bytes_eq v.request.key key) (has_passed p) place_is.unpassed)
        (λ key. then_false (bytes_eq v.request.key key) (is_away_at t p) (place_is.here t))
        r.keys u.keys stands.keys (subst (λ (q : Request). LeavesKey w.c q.key r.keys u.keys) is.request line))
        (entries_apart t law w.c v z asker place_is.unbound (shelf_of r.entries) (shelf_of u.entries) stands.entries
        (subst (λ q. UnbindsAt q w.c (shelf_of r.entries) (shelf_of u.entries)) is.place unbinds))
        much

  -- IT STANDS IN LINE AGAIN

  module _ (now : ℕ) (waits : awaited_exchange v.place ≡ Some x) where
    abbrev back : rows.Consumer
    back = back_in_line now v

    queues : Queues v
    queues = by_place v.place refl waits
      where
        by_place : (p : Place) → v.place ≡ p → awaited_exchange p ≡ Some x → Queues v
        by_place (place.Turn y) stood on = law.places.turn_queues w.c y v asker stood
        by_place (place.Bound q lo hi (by.FirstHole y)) stood on =
            record { cached = law.places.bound_cached w.c q lo hi (by.FirstHole y) v asker stood; asks = law.places.first_asks w.c q lo y hi v asker stood }
        by_place _ stood on = none_some x on

    answer_back : answer_for t back ≡ None
    answer_back = grind (arith, nat_tests)

    back_kept : (k : Consumer) → IsKept t k v → IsKept t (once_over now k) back
    back_kept k is = assumption (is, is.answer ∙ (asker_answer ∙ sym answer_back))

    back_much : HoldsAsMuch t w.c v back asker
    back_much = record {
      past = λ y e there. sym (asker_past y e there);
      lost = λ y e b there founded. sym (asker_lost y e b there founded);
    }

    pub stands_queued : {B : Type 0} {g : Ghosts B} {limits : Limits} (r u : Rows B g) (k : Consumer) → get nat_eq r.consumers w.c ≡ Some k →
        IsKept t k v → RowsStand limits r t
        → u.last_start ≡ r.last_start → u.exchanges ≡ r.exchanges → ChangesAt r.consumers u.consumers w.c (once_over now)
        → keys.Becomes (on_line (come_back w.c)) k.request.key r.keys u.keys → UnbindsAt k.place w.c (shelf_of r.entries) (shelf_of u.entries) →
        RowsStand limits u (with_consumer w.c (Some back) t)
    stands_queued r u k there is stands last exchanges changes line unbinds =
        stands_moved r u t w.c v back (once_over now k) stands asker (live_at x w v.place at) refl last exchanges
        (unbinds_limits k.place w.c (shelf_of r.entries) (shelf_of u.entries) unbinds)
        (becomes_by r.consumers u.consumers w.c k (once_over now) there changes) (back_kept k is)
        (keys_with t w.c (Some back) (on_line (come_back w.c)) v.request.key r.keys u.keys stands.keys
        (subst (λ (q : Request). keys.Becomes (on_line (come_back w.c)) q.key r.keys u.keys) is.request line)
        (comes_back t w.c (Some back) v.request.key (kept_of r.keys v.request.key) (lined back refl queues.cached queues.asks)
        (then_false (bytes_eq v.request.key v.request.key) false refl) (then_false (bytes_eq v.request.key v.request.key) false refl)
        (then_false (is_in_line v.request.key (Some back)) false refl))
        (λ other off. says_elsewhere t w.c v back other asker refl off))
        (entries_apart t law w.c v back asker (λ q. refl) (shelf_of r.entries) (shelf_of u.entries) stands.entries
        (subst (λ q. UnbindsAt q w.c (shelf_of r.entries) (shelf_of u.entries)) is.place unbinds))
        back_much

-- whoever it is called
pub falls_back_as : {B : Type 0} {g : Ghosts B} {limits : Limits} (r u : Rows B g) (t : Tables) (law : Lawful t) (x c : ℕ) (w : Exchange)
    (v : rows.Consumer) (k : Consumer) (p : Place) → AwaitsHead t x w v → w.c ≡ c → StandsApart x p → get nat_eq r.consumers c ≡ Some k → RowsStand limits r t
    → u.last_start ≡ r.last_start → u.exchanges ≡ r.exchanges → ChangesAt r.consumers u.consumers c (standing_at p)
    → LeavesKey c k.request.key r.keys u.keys → UnbindsAt k.place c (shelf_of r.entries) (shelf_of u.entries) →
    RowsStand limits u (with_consumer c (Some (record v { place = p })) t)
falls_back_as {limits = limits} r u t law x c w v k p awaits for_it apart there stands last exchanges changes line unbinds =
    let a = waits_as t law x w v awaits in
    let at : get nat_eq r.consumers w.c ≡ Some k = ap (get nat_eq r.consumers) for_it ∙ there in
    subst (λ (d : ℕ). RowsStand limits u (with_consumer d (Some (record v { place = p })) t)) for_it
    (stands_apart t law x w awaits.row awaits.is_open awaits.headless v awaits.asker a.own a.at p apart r u k at
    (kept_as r t w.c v k stands awaits.asker at) stands last exchanges
    (subst (λ (d : ℕ). ChangesAt r.consumers u.consumers d (standing_at p)) (sym for_it) changes)
    (subst (λ (d : ℕ). LeavesKey d k.request.key r.keys u.keys) (sym for_it) line)
    (subst (λ (d : ℕ). UnbindsAt k.place d (shelf_of r.entries) (shelf_of u.entries)) (sym for_it) unbinds))

pub stands_back_as : {B : Type 0} {g : Ghosts B} {limits : Limits} (r u : Rows B g) (t : Tables) (law : Lawful t) (now x c : ℕ) (w : Exchange)
    (v : rows.Consumer) (k : Consumer) → AwaitsHead t x w v → w.c ≡ c → awaited_exchange v.place ≡ Some x → get nat_eq r.consumers c ≡ Some k →
    RowsStand limits r t
    → u.last_start ≡ r.last_start → u.exchanges ≡ r.exchanges → ChangesAt r.consumers u.consumers c (once_over now)
    → keys.Becomes (on_line (come_back c)) k.request.key r.keys u.keys → UnbindsAt k.place c (shelf_of r.entries) (shelf_of u.entries) →
    RowsStand limits u (with_consumer c (Some (back_in_line now v)) t)
stands_back_as {limits = limits} r u t law now x c w v k awaits for_it waits there stands last exchanges changes line unbinds =
    let a = waits_as t law x w v awaits in
    let at : get nat_eq r.consumers w.c ≡ Some k = ap (get nat_eq r.consumers) for_it ∙ there in
    subst (λ (d : ℕ). RowsStand limits u (with_consumer d (Some (back_in_line now v)) t)) for_it
    (stands_queued t law x w awaits.row awaits.is_open awaits.headless v awaits.asker a.own a.at now waits r u k at
    (kept_as r t w.c v k stands awaits.asker at) stands last exchanges
    (subst (λ (d : ℕ). ChangesAt r.consumers u.consumers d (once_over now)) (sym for_it) changes)
    (subst (λ (d : ℕ). keys.Becomes (on_line (come_back d)) k.request.key r.keys u.keys) (sym for_it) line)
    (subst (λ (d : ℕ). UnbindsAt k.place d (shelf_of r.entries) (shelf_of u.entries)) (sym for_it) unbinds))
