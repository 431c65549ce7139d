-- One consumer changes and no exchange: what is kept represents the tables then, where as much is held for it.
use Rattle.std.proofs.{lemmas.Bool.Decides.{nat_tests}, Common.{arith, ◌≡◌, ◌≢◌, inl, inr, ℕ, List, true, Option, Some, None, refl, ap, sym, ◌∙◌}}
use Rattle.hc_text.proofs.Basics.{eqb-other, eqb-same, same_or}
use Rattle.hc_effects.proofs.Vocabulary.{Limits, is_live, is_live_place, with_consumer, family, Tables, Exchange, Representation}
use Rattle.hc_store.specs.declared.backend.Backend.{Ghosts}
use Rattle.hc_stored.specs.Entries.{shelf_of}
use Rattle.hc_entry.specs.Keys.{kept_of}
use Rattle.hc_exch.specs.Exchanges.{table_of}
use Rattle.hc_model.specs.Rows as rows
use Rattle.hc_state.specs.{declared.rows.Rows.{Rows}, Changes.{BecomesAt}, Kept.{KeepsConsumer, unread, unstored_bytes, held_alone, held_of, held_for}, Lines.{KeepsKey}, Stands.{RowsStand}, Stored.{KeepsEntries}}
use Rattle.hc_txn.specs.declared.transaction.Transaction.{Transaction as Consumer}
use Rattle.hc_state.proofs.{Fallbacks.{unstored_moved}, FallbackSteps.{length_same, live_same}, ConsumerSteps.{all_kept_with}, Ties.{exchange_same}}

module _ (t : Tables) (c : ℕ) (v z : rows.Consumer) (row : t.consumer c ≡ Some v) where
  abbrev pub s : Tables
  s = with_consumer c (Some z) t

  -- as much of what it reads past the store is held for it, and of what was lost
  pub record HoldsAsMuch : Type 0 where
    pub past : (y : ℕ) (w : Exchange) → t.exchange y ≡ Some w → unread y w (Some z) ≡ unread y w (Some v)
    pub lost : (y : ℕ) (w : Exchange) (b : Representation) → t.exchange y ≡ Some w → t.representation (family y w) ≡ Some b →
        unstored_bytes t y w b (Some z) ≡ unstored_bytes t y w b (Some v)

  here : s.consumer c ≡ Some z
  here = rw (eqb-same c) refl

  others : (d : ℕ) → d ≢ c → s.consumer d ≡ t.consumer d
  others d ne = rw (eqb-other c d (λ e. ne (sym e))) refl

  module _ (much : HoldsAsMuch) where
    past_same : (y d : ℕ) (w : Exchange) → t.exchange y ≡ Some w → unread y w (s.consumer d) ≡ unread y w (t.consumer d)
    past_same y d w at = grind (arith, nat_tests)

    lost_same : (y d : ℕ) (w : Exchange) (b : Representation) → t.exchange y ≡ Some w → t.representation (family y w) ≡ Some b →
        unstored_bytes s y w b (s.consumer d) ≡ unstored_bytes t y w b (t.consumer d)
    lost_same y d w b at there = grind (arith, nat_tests)

    alone_same : (y : ℕ) (w : Exchange) (b : Representation) (o : Option ℕ) → t.exchange y ≡ Some w → t.representation (family y w) ≡ Some b →
        held_alone s y w b o ≡ held_alone t y w b o
    alone_same y w b o at there = grind (arith, nat_tests)

    of_same : (y : ℕ) (w : Exchange) (o : Option Representation) → t.exchange y ≡ Some w → t.representation (family y w) ≡ o → held_of s y w o ≡ held_of t y w o
    of_same y w o at there = grind (arith, nat_tests)

    pub held_same : (y : ℕ) (o : Option Exchange) → t.exchange y ≡ o → held_for s y o ≡ held_for t y o
    held_same y o at = grind (arith, nat_tests)

-- ALL OF IT

module _ {B : Type 0} {g : Ghosts B} {limits : Limits} (r u : Rows B g) (t : Tables) (c : ℕ) (v z : rows.Consumer) (k : Consumer)
    (stands : RowsStand limits r t) (row : t.consumer c ≡ Some v) (lived : is_live_place v.place ≡ true) (lives : is_live_place z.place ≡ true)
    (last : u.last_start ≡ r.last_start) (exchanges : u.exchanges ≡ r.exchanges) (bounded : (shelf_of u.entries).limits ≡ (shelf_of r.entries).limits)
    (becomes : BecomesAt r.consumers u.consumers c (Some k)) (kept : KeepsConsumer t (Some k) (Some z))
    (keys : (key : List ℕ) → KeepsKey (with_consumer c (Some z) t) key (kept_of u.keys key))
    (entries : KeepsEntries (with_consumer c (Some z) t) (shelf_of u.entries)) (much : HoldsAsMuch t c v z row) where
  live_each : (d : ℕ) → is_live ((with_consumer c (Some z) t).consumer d) ≡ is_live (t.consumer d)
  live_each d = grind (arith, nat_tests)

  pub stands_moved : RowsStand limits u (with_consumer c (Some z) t)
  stands_moved = record {
    limits = bounded ∙ stands.limits;
    last_start = last ∙ stands.last_start;
    next = rw exchanges stands.next;
    count = length_same r u t c v k stands row lived becomes ∙ (stands.count ∙ sym (live_same t (with_consumer c (Some z) t) refl live_each));
    consumers = all_kept_with t c (Some z) r u (Some k) becomes kept stands.consumers;
    exchanges = λ y. rw exchanges
        (exchange_same t (with_consumer c (Some z) t) y (table_of r.exchanges y)
        (record { row = refl; brings = λ w at. refl; held = held_same t c v z row much y (t.exchange y) refl }) (stands.exchanges y));
    keys = keys;
    entries = entries;
  }
