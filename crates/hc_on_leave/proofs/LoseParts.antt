-- What several read together is lost, and they part: what is kept represents the tables then.
--
-- One of them, if any, has the exchange for its own now; to all others a failure is due. Nothing else of a consumer
-- changes, so what looks at neither is told as before (`reported_same`): keys, users, and who is live. Bytes are held for
-- nobody in this representation yet, as nobody goes on alone, and what is held for others looks at neither
-- (`held_part`). `stands_parted` joins them, and `LoseDetachedReaders` uses it.
use Rattle.std.{proofs.{lemmas.Bool.Decides.{nat_tests}, Common.{arith, ◌≡◌, ◌≢◌, inl, inr, ℕ, List, [], Bool, true, false, Option, Some, None, refl, ap, sym, ◌∙◌, subst}}, specs.{Prelude.{is_some, nat_eq, bytes_eq, option_map, ◌&&◌, if◌then◌else◌}, Option.{option_or}, HashMap.{get}}}
use Rattle.hc_text.proofs.Basics.{eqb-other, false_true, same_or, some_inj as some_is}
use Rattle.hc_effects.proofs.Vocabulary.{Limits, Cause, Request, Place, current, is_number, is_live, if_bound, left_with, group_lost, family, MayLetGo, is_in_line, Queues, is_bound, is_bound_place, Tables, Exchange, Representation, cause, place, by}
use Rattle.hc_effects.proofs.Tests.{none_some}
use Rattle.hc_store.specs.declared.backend.Backend.{Ghosts}
use Rattle.hc_stored.specs.Entries.{shelf_of}
use Rattle.hc_entry.specs.Keys.{kept_of}
use Rattle.hc_exch.specs.Exchanges.{table_of, next_of}
use Rattle.hc_model.specs.Rows as rows
use Rattle.hc_state.specs.{declared.rows.Rows.{Rows}, DetachedReaders.{ChangesEach, after_parting}, Kept.{IsKept, KeepsConsumer, held_for, held_of, held_alone, unread, unstored_bytes}, Lines.{has_turn, is_passed, is_away, is_away_at}, Stands.{RowsStand}, Stored.{is_first}}
use Rattle.hc_txn.specs.declared.transaction.Transaction.{Transaction as Consumer}
use Rattle.hc_state.proofs.{FallbackSteps.{live_same}, Fallbacks.{unstored_moved}, OneOfEach.{entries_same}, Ties.{exchange_same, key_same, kept_same}}

module _ (t : Tables) (q x : ℕ) (detached_reader : Option ℕ) where
  abbrev pub s : Tables
  s = group_lost q detached_reader (Some x) t

  -- whoever is bound has another exchange or another failure, and all else it had
  pub data IsPart (d : ℕ) (k u : rows.Consumer) : Type 0 where
    apart : is_bound_place q k.place ≡ false → u ≡ k → IsPart d k u
    bound : (own : Option ℕ) (due : Option Cause) → is_bound_place q k.place ≡ true → u ≡ record k { own = own; due = due } → IsPart d k u

  pub part_of : (d : ℕ) (k : rows.Consumer) → IsPart d k (if_bound q (left_with q detached_reader (Some x) d) k)
  part_of d k = by_test (is_bound_place q k.place) refl (is_number detached_reader d)
    where
      by_test : (b : Bool) → is_bound_place q k.place ≡ b → (h : Bool) →
          IsPart d k (if b then (if h then record k { own = Some x } else record k { due = option_or k.due (Some (cause.StoreWrite q)) }) else k)
      by_test false off h = apart off refl
      by_test true on true = bound (Some x) k.due on refl
      by_test true on false = bound k.own (option_or k.due (Some (cause.StoreWrite q))) on refl

  -- what looks neither at its exchange nor at its failure is told as before
  pub reported_same : {A : Type 0} (f : Option rows.Consumer → A) →
      ((k : rows.Consumer) (own : Option ℕ) (due : Option Cause) → f (Some (record k { own = own; due = due })) ≡ f (Some k)) → (d : ℕ) →
      f (s.consumer d) ≡ f (t.consumer d)
  reported_same f same d = grind (arith, nat_tests)

  -- whoever it is now, it was there, and stood where it stands
  pub record Stood (d : ℕ) (u : rows.Consumer) : Type 0 where
    pub k : rows.Consumer
    pub row : t.consumer d ≡ Some k
    pub place_is : u.place ≡ k.place
    pub request_is : u.request ≡ k.request

  pub stood : (d : ℕ) (u : rows.Consumer) → s.consumer d ≡ Some u → Stood d u
  stood d u is = by_row (t.consumer d) refl is
    where
      by_part : (k z : rows.Consumer) → t.consumer d ≡ Some k → IsPart d k z → Some z ≡ Some u → Stood d u
      by_part k z row (apart off at) h =
          let one : u ≡ k = sym (some_is z u h) ∙ at in
          record { k = k; row = row; place_is = ap (λ (n : rows.Consumer). n.place) one; request_is = ap (λ (n : rows.Consumer). n.request) one }
      by_part k z row (bound own due on at) h =
          let one : u ≡ record k { own = own; due = due } = sym (some_is z u h) ∙ at in
          record { k = k; row = row; place_is = ap (λ (n : rows.Consumer). n.place) one; request_is = ap (λ (n : rows.Consumer). n.request) one }

      by_row : (o : Option rows.Consumer) → t.consumer d ≡ o → option_map (if_bound q (left_with q detached_reader (Some x) d)) o ≡ Some u → Stood d u
      by_row None row h = none_some u h
      by_row (Some k) row h = by_part k _ row (part_of d k) h

  -- WHAT MAY BE LET GO

  pub may_part : MayLetGo t → MayLetGo s
  may_part may = record {
    one_current = may.one_current;
    founded = may.founded;
    started = λ d some. may.started d (sym (reported_same (λ o. is_some o) (λ k own due. refl) d) ∙ some);
    waits = λ d r kept u is at.
        let was = stood d u is in
        let w = may.waits d r kept was.k was.row (sym was.place_is ∙ at) in
        record {
          v = w.v;
          row = w.row;
          key_is = w.key_is ∙ ap (λ (n : Request). n.key) (sym was.request_is);
          not_gone = w.not_gone;
          queues = subst (λ (n : Request). Queues (record u { request = n })) (sym was.request_is) (record { cached = w.queues.cached; asks = w.queues.asks });
        };
  }

  -- CONSUMERS

  kept_part : (d : ℕ) (k : Consumer) (v : rows.Consumer) → IsKept t k v →
      IsKept s (after_parting detached_reader x (cause.StoreWrite q) d k) (left_with q detached_reader (Some x) d v)
  kept_part d k v kp = by_detached_reader (is_number detached_reader d)
    where
      now : IsKept s k v
      now = kept_same t s k v (record { past = λ y at. refl; length = λ n lo hi how at. refl }) kp

      by_detached_reader : (h : Bool) →
          IsKept s (if h then record k { own = Some x } else record k { due = option_or k.due (Some (cause.StoreWrite q)) })
          (if h then record v { own = Some x } else record v { due = option_or v.due (Some (cause.StoreWrite q)) })
      by_detached_reader true = assumption now
      by_detached_reader false = assumption (
        now,
        ap (λ (o : Option Cause). option_or o (Some (cause.StoreWrite q))) now.due,
      )

  consumer_part : (d : ℕ) (b : Bool) (o : Option Consumer) (row : Option rows.Consumer) → (is_some row ≡ true → b ≡ is_bound q row) →
      KeepsConsumer t o row → KeepsConsumer s (if b then option_map (after_parting detached_reader x (cause.StoreWrite q) d) o else o)
      (option_map (if_bound q (left_with q detached_reader (Some x) d)) row)
  consumer_part d true None None alike kept = kept
  consumer_part d false None None alike kept = kept
  consumer_part d b (Some k) None alike kept = absurd kept
  consumer_part d true None (Some v) alike kept = by_part _ (part_of d v)
    where
      by_part : (u : rows.Consumer) → IsPart d v u → is_live (Some u) ≡ false
      by_part u (apart off is) = ap (λ z. is_live (Some z)) is ∙ kept
      by_part u (bound own due on is) = ap (λ z. is_live (Some z)) is ∙ kept
  consumer_part d false None (Some v) alike kept = by_part _ (part_of d v)
    where
      by_part : (u : rows.Consumer) → IsPart d v u → is_live (Some u) ≡ false
      by_part u (apart off is) = ap (λ z. is_live (Some z)) is ∙ kept
      by_part u (bound own due on is) = ap (λ z. is_live (Some z)) is ∙ kept
  consumer_part d true (Some k) (Some v) alike kept = rw (sym (alike refl)) (kept_part d k v kept)
  consumer_part d false (Some k) (Some v) alike kept =
      rw (sym (alike refl)) (kept_same t s k v (record { past = λ y at. refl; length = λ n lo hi how at. refl }) kept)

  -- KEYS AND WHAT IS HELD

  away_as : (key : List ℕ) (o : Option rows.Consumer) → is_away s key o ≡ is_away t key o
  away_as key o = grind (arith, nat_tests)

  -- who is bound to another one isn't bound to this
  off_other : (n : ℕ) (p : Place) → n ≢ q → is_bound_place q p ≡ true → is_bound_place n p ≡ false
  off_other n p ne on = grind (arith, nat_tests)

  alone_part : (y : ℕ) (w : Exchange) (u : Representation) → family y w ≢ q → (o : Option ℕ) → held_alone s y w u o ≡ held_alone t y w u o
  alone_part y w u ne o = grind (arith, nat_tests)

  held_part : (v : Representation) → t.representation q ≡ Some v → v.alone ≡ None → (y : ℕ) (o : Option Exchange) → held_for s y o ≡ held_for t y o
  held_part v there nobody y o = grind (arith, nat_tests, same_or, held_of, reported_same, unread, alone_part)

-- ALL OF IT

pub stands_parted : {B : Type 0} {g : Ghosts B} {limits : Limits} (r u : Rows B g) (t : Tables) (q x : ℕ) (detached_reader : Option ℕ)
    (v : Representation) (among : ℕ → Bool) → RowsStand limits r t → t.representation q ≡ Some v → v.alone ≡ None
    → u.last_start ≡ r.last_start → u.exchanges ≡ r.exchanges → u.keys ≡ r.keys → u.entries ≡ r.entries
    → ((d : ℕ) → is_some (t.consumer d) ≡ true → among d ≡ is_bound q (t.consumer d)) →
    ChangesEach r.consumers u.consumers among (after_parting detached_reader x (cause.StoreWrite q)) →
    RowsStand limits u (group_lost q detached_reader (Some x) t)
unfolding current
stands_parted r u t q x detached_reader v among stands there nobody last exchanges same_keys same_entries alike changes =
    let z : Tables = group_lost q detached_reader (Some x) t in
    record {
      limits = rw same_entries stands.limits;
      last_start = last ∙ stands.last_start;
      next = ap (λ e. next_of e) exchanges ∙ stands.next;
      count = changes.len ∙ (stands.count ∙ sym (live_same t z refl (reported_same t q x detached_reader is_live (λ k own due. refl))));
      consumers = λ d. subst (λ o. KeepsConsumer z o (z.consumer d)) (sym (changes.places d))
          (consumer_part t q x detached_reader d (among d) (get nat_eq r.consumers d) (t.consumer d) (alike d) (stands.consumers d));
      exchanges = λ y. rw exchanges
          (exchange_same t z y (table_of r.exchanges y)
          (record { row = refl; brings = λ w at. refl; held = held_part t q x detached_reader v there nobody y (t.exchange y) }) (stands.exchanges y));
      keys = λ key. rw same_keys
          (key_same t z key (kept_of r.keys key)
          (record {
            current = refl;
            in_line = reported_same t q x detached_reader (is_in_line key) (λ k own due. refl);
            passed =
                reported_same t q x detached_reader (is_passed key) (λ k own due. refl);
            away =
                λ d. reported_same t q x detached_reader (is_away z key) (λ k own due. refl) d ∙ away_as t q x detached_reader key (t.consumer d);
            turn =
                reported_same t q x detached_reader (has_turn key) (λ k own due. refl);
          }) (stands.keys key));
      entries = rw same_entries
          (entries_same t z (shelf_of r.entries) (λ n. refl) refl refl (λ n. reported_same t q x detached_reader (is_bound n) (λ k own due. refl))
          (λ n. reported_same t q x detached_reader (is_first t n) (λ k own due. refl)) (λ n. refl) (λ y on. on) stands.entries);
    }
