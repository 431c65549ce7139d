-- A failure becomes due to some consumers: what is kept represents the tables in which it is.
--
-- Nothing else of them changes, so whatever doesn't look at what is due is told as before (`reported_same`). That is who is
-- live or bound, what keys say, and what is held. Each consumer is kept with the failure, unless one was due already,
-- as in the tables (`kept_due`). `stands_due` joins this. What may be let go or closed stays so (`may_due`,
-- `awaits_due`). `StopHandler` uses these for the readers of an exchange that stops.
use Rattle.std.{proofs.Common.{◌≡◌, ℕ, List, Bool, true, false, Option, Some, None, refl, ap, sym, ◌∙◌, subst}, specs.{Prelude.{is_some, nat_eq, bytes_eq, option_map, ◌&&◌, if◌then◌else◌}, Option.{option_or}, HashMap.{get}}}
use Rattle.hc_text.proofs.Basics.{some_inj as some_is}
use Rattle.hc_effects.proofs.Vocabulary.{Limits, Cause, Place, current, is_live, failing, family, MayLetGo, is_in_line, is_bound, Tables, Exchange, Representation, by, place}
use Rattle.hc_effects.proofs.Tests.{none_some}
use Rattle.hc_store.specs.declared.backend.Backend.{Ghosts}
use Rattle.hc_stored.specs.Entries.{shelf_of}
use Rattle.hc_entry.specs.Keys.{kept_of}
use Rattle.hc_exch.specs.Exchanges.{table_of, next_of}
use Rattle.hc_model.specs.Rows as rows
use Rattle.hc_state.specs.{declared.rows.Rows.{Rows}, Changes.{ChangesAmong}, Kept.{IsKept, KeepsConsumer, held_for, held_of, held_alone, unread, unstored_bytes}, Lines.{has_turn, is_passed, is_away, is_away_at}, Stands.{RowsStand}, Stopped.{with_consumers, NobodyAwaits, due_for}, Stored.{is_first}}
use Rattle.hc_txn.specs.{declared.transaction.Transaction.{Transaction as Consumer}, Transactions.{with_due}}
use Rattle.hc_state.proofs.{FallbackSteps.{live_same}, Fallbacks.{unstored_moved}, OneOfEach.{entries_same}, Ties.{consumer_same, exchange_same, key_same, kept_same}}

module _ (t : Tables) (among : ℕ → Bool) (why : Cause) where
  abbrev pub s : Tables
  s = with_consumers (due_for t among why) t

  -- what doesn't look at what is due is told as before
  pub reported_same : {A : Type 0} (f : Option rows.Consumer → A) → ((k : rows.Consumer) → f (Some (failing (Some why) k)) ≡ f (Some k)) → (d : ℕ) →
      f (s.consumer d) ≡ f (t.consumer d)
  reported_same f same d = by_test (among d) (t.consumer d)
    where
      by_test : (b : Bool) (o : Option rows.Consumer) → f (if b then option_map (failing (Some why)) o else o) ≡ f o
      by_test true None = refl
      by_test true (Some k) = same k
      by_test false o = refl

  -- whoever it is now, it was there, and stood where it stands
  pub record Stood (d : ℕ) (u : rows.Consumer) : Type 0 where
    pub k : rows.Consumer
    pub row : t.consumer d ≡ Some k
    pub place_is : u.place ≡ k.place
    pub request_is : u.request ≡ k.request
    pub own_is : u.own ≡ k.own

  pub stood : (d : ℕ) (u : rows.Consumer) → s.consumer d ≡ Some u → Stood d u
  stood d u is = by_test (among d) (t.consumer d) refl is
    where
      same : (k z : rows.Consumer) → t.consumer d ≡ Some k → z.place ≡ k.place → z.request ≡ k.request → z.own ≡ k.own → Some z ≡ Some u → Stood d u
      same k z row place request own h =
          let one : z ≡ u = some_is z u h in
          record {
            k = k;
            row = row;
            place_is = ap (λ (q : rows.Consumer). q.place) (sym one) ∙ place;
            request_is =
                ap (λ (q : rows.Consumer). q.request) (sym one) ∙ request;
            own_is = ap (λ (q : rows.Consumer). q.own) (sym one) ∙ own;
          }

      by_test : (b : Bool) (o : Option rows.Consumer) → t.consumer d ≡ o → (if b then option_map (failing (Some why)) o else o) ≡ Some u → Stood d u
      by_test true (Some k) row h = same k (failing (Some why) k) row refl refl refl h
      by_test false (Some k) row h = same k k row refl refl refl h
      by_test true None row h = none_some u h
      by_test false None row h = none_some u h

  -- WHAT MAY BE LET GO

  pub may_due : MayLetGo t → MayLetGo s
  may_due may = record {
    one_current = may.one_current;
    founded = may.founded;
    started = λ d some. may.started d (sym (reported_same (λ o. is_some o) (λ k. refl) d) ∙ some);
    waits = λ d r kept u is at.
        let was = stood d u is in
        let w = may.waits d r kept was.k was.row (sym was.place_is ∙ at) in
        record {
          v = w.v;
          row = w.row;
          key_is = w.key_is ∙ ap (λ (q : Rattle.hc_event.specs.declared.event.Request.Request). q.key) (sym was.request_is);
          not_gone = w.not_gone;
          queues = subst (λ (q : Rattle.hc_event.specs.declared.event.Request.Request). Rattle.hc_model.specs.Places.Queues (record u { request = q }))
              (sym was.request_is) (record { cached = w.queues.cached; asks = w.queues.asks });
        };
  }

  pub awaits_due : (x : ℕ) → NobodyAwaits t x → NobodyAwaits s x
  awaits_due x nobody d r lo hi u is at = (let was = stood d u is in nobody d r lo hi was.k was.row (sym was.place_is ∙ at))

  -- CONSUMERS

  kept_due : (k : Consumer) (v : rows.Consumer) → IsKept t k v → IsKept s (with_due why k) (failing (Some why) v)
  kept_due k v kp =
      let now : IsKept s k v = kept_same t s k v (record { past = λ x at. refl; length = λ q lo hi how at. refl }) kp in
      assumption (now, ap (λ (o : Option Cause). option_or o (Some why)) now.due)

  consumer_due : (b : Bool) (o : Option Consumer) (row : Option rows.Consumer) → KeepsConsumer t o row →
      KeepsConsumer s (if b then option_map (with_due why) o else o) (if b then option_map (failing (Some why)) row else row)
  consumer_due true None None kept = kept
  consumer_due true None (Some v) kept = kept
  consumer_due true (Some k) None kept = kept
  consumer_due true (Some k) (Some v) kept = kept_due k v kept
  consumer_due false o row kept = consumer_same t s o row (λ v is. record { past = λ x at. refl; length = λ q lo hi how at. refl }) kept

  -- KEYS AND WHAT IS HELD

  away_as : (key : List ℕ) (o : Option rows.Consumer) → is_away s key o ≡ is_away t key o
  away_as key None = refl
  away_as key (Some k) = ap (λ b. bytes_eq k.request.key key && b) (by_place k.place)
    where
      by_place : (p : Place) → is_away_at s p ≡ is_away_at t p
      by_place (place.Bound r lo hi (by.FirstHole y)) = refl
      by_place _ = refl

  held_due : (y : ℕ) (o : Option Exchange) → held_for s y o ≡ held_for t y o
  held_due y None = refl
  held_due y (Some w) = by_row (t.representation (family y w))
    where
      alone_due : (v : Representation) (c : Option ℕ) → held_alone s y w v c ≡ held_alone t y w v c
      alone_due v None = refl
      alone_due v (Some c) = reported_same (unstored_bytes s y w v) (λ k. refl) c ∙ unstored_moved t s y w v (t.consumer c)

      by_row : (z : Option Representation) → held_of s y w z ≡ held_of t y w z
      by_row None = reported_same (unread y w) (λ k. refl) w.c
      by_row (Some v) = alone_due v v.alone

-- ALL OF IT

pub stands_due : {B : Type 0} {g : Ghosts B} {limits : Limits} (r u : Rows B g) (t : Tables) (among : ℕ → Bool) (why : Cause) → RowsStand limits r t →
    u.last_start ≡ r.last_start → u.exchanges ≡ r.exchanges → u.keys ≡ r.keys → u.entries ≡ r.entries
    → ChangesAmong r.consumers u.consumers among (with_due why) → RowsStand limits u (with_consumers (due_for t among why) t)
unfolding current
stands_due r u t among why stands last exchanges same_keys same_entries changes =
    let z : Tables = with_consumers (due_for t among why) t in
    record {
      limits = rw same_entries stands.limits;
      last_start = last ∙ stands.last_start;
      next = ap (λ e. next_of e) exchanges ∙ stands.next;
      count = changes.len ∙ (stands.count ∙ sym (live_same t z refl (reported_same t among why is_live (λ k. refl))));
      consumers = λ d. subst (λ o. KeepsConsumer z o (z.consumer d)) (sym (changes.places d))
          (consumer_due t among why (among d) (get nat_eq r.consumers d) (t.consumer d) (stands.consumers d));
      exchanges = λ y. rw exchanges
          (exchange_same t z y (table_of r.exchanges y) (record { row = refl; brings = λ w at. refl; held = held_due t among why y (t.exchange y) })
          (stands.exchanges y));
      keys = λ key. rw same_keys
          (key_same t z key (kept_of r.keys key)
          (record {
            current = refl;
            in_line = reported_same t among why (is_in_line key) (λ k. refl);
            passed =
                reported_same t among why (is_passed key) (λ k. refl);
            away = λ d. reported_same t among why (is_away z key) (λ k. refl) d ∙
                away_as t among why key (t.consumer d);
            turn = reported_same t among why (has_turn key) (λ k. refl);
          }) (stands.keys key));
      entries = rw same_entries
          (entries_same t z (shelf_of r.entries) (λ q. refl) refl refl (λ q. reported_same t among why (is_bound q) (λ k. refl))
          (λ q. reported_same t among why (is_first t q) (λ k. refl)) (λ q. refl) (λ y on. on) stands.entries);
    }
