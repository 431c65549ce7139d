-- What is told of an open exchange, and of the consumer that waits for its head, is what the tables say.
--
-- What the code looks up is of an exchange that is kept as open. Its consumer, whether it has a head, how much came and
-- what was promised are those of the row (`viewed`). By the laws the consumer of one without a head waits for that. So
-- it is live and kept, and whether it was shown a head is told alike (`shown_is`, `waited`). The functions `end`,
-- `end_whole` and `fault` begin with these.
use Rattle.std.{proofs.Common.{◌≡◌, ◌⊎◌, inl, inr, ℕ, length, true, false, Option, Some, None, refl, ap, sym, ◌∙◌, subst}, specs.{Prelude.{is_some, option_map, nat_eq}, HashMap.{get}}}
use Rattle.hc_text.proofs.Basics.{false_true, none_of, same_some as same_row, some_inj as some_is}
use Rattle.hc_effects.proofs.Vocabulary.{Limits, is_live, is_live_place, promised_bytes, Lawful, Awaits, IsAwaiting, Tables, Exchange}
use Rattle.hc_effects.proofs.Tests.{none_some}
use Rattle.hc_store.specs.declared.backend.Backend.{Ghosts}
use Rattle.hc_exch.specs.{declared.row.{ExchangeView.{ExchangeView}, Open.{Open}}, Exchanges.{table_of}, Known.{view_of}}
use Rattle.hc_model.specs.Owners as owners
use Rattle.hc_model.specs.Rows as rows
use Rattle.hc_state.specs.{declared.rows.Rows.{Rows}, Kept.{KeepsRunning, KeepsConsumer}, Stands.{RowsStand}, Stopped.{IsBroken, Waited}, Stops.{is_shown}}
use Rattle.hc_txn.specs.declared.transaction.Transaction.{Transaction as Consumer}

pub record Viewed (t : Tables) (x : ℕ) (view : ExchangeView) : Type 0 where
  pub w : Exchange
  pub row : t.exchange x ≡ Some w
  pub is_open : w.is_open ≡ true
  pub c_is : view.c ≡ w.c
  pub headed : view.headed ≡ is_some w.head
  pub delivered : view.delivered ≡ length w.body
  pub promised_is : view.promised ≡ promised_bytes w

pub viewed : {B : Type 0} {g : Ghosts B} {limits : Limits} (r : Rows B g) (t : Tables) (x : ℕ) (o : Option ExchangeView) (view : ExchangeView) →
    RowsStand limits r t → o ≡ option_map (view_of x) (table_of r.exchanges x).running → o ≡ Some view → Viewed t x view
viewed r t x o view stands is some = by_open (table_of r.exchanges x).running (t.exchange x) refl (sym is ∙ some) (stands.exchanges x).running
  where
    by_open : (z : Option Open) (e : Option Exchange) → t.exchange x ≡ e → option_map (view_of x) z ≡ Some view → KeepsRunning t x z e → Viewed t x view
    by_open None e row at kept = none_some view at
    by_open (Some q) None row at kept = absurd kept
    by_open (Some q) (Some w) row at kept =
        let same : view_of x q ≡ view = some_is (view_of x q) view at in
        record {
          w = w;
          row = row;
          is_open = kept.is_open;
          c_is = ap (λ (z : ExchangeView). z.c) (sym same) ∙ kept.c;
          headed = ap (λ (z : ExchangeView). z.headed) (sym same) ∙ kept.headed;
          delivered = ap (λ (z : ExchangeView). z.delivered) (sym same) ∙ kept.delivered;
          promised_is = ap (λ (z : ExchangeView). z.promised) (sym same) ∙ kept.promised_is;
        }

-- WHO WAITS FOR ITS HEAD

module _ {B : Type 0} {g : Ghosts B} {limits : Limits} (r : Rows B g) (t : Tables) (stands : RowsStand limits r t) where
  shown_as : (c : ℕ) (k : rows.Consumer) (o : Option Consumer) → KeepsConsumer t o (Some k) → is_live (Some k) ≡ true → is_shown o ≡ k.shown
  shown_as c k None kept lives = false_true (sym kept ∙ lives)
  shown_as c k (Some q) kept lives = kept.shown

  pub shown_is : (c : ℕ) (k : rows.Consumer) → t.consumer c ≡ Some k → is_live (Some k) ≡ true → is_shown (get nat_eq r.consumers c) ≡ k.shown
  shown_is c k row lives = shown_as c k (get nat_eq r.consumers c) (subst (KeepsConsumer t (get nat_eq r.consumers c)) row (stands.consumers c)) lives

  pub lives_as : (c : ℕ) (k : rows.Consumer) → t.consumer c ≡ Some k → is_live (Some k) ≡ true → is_some (get nat_eq r.consumers c) ≡ true
  lives_as c k row lives = by_kept (get nat_eq r.consumers c) (subst (KeepsConsumer t (get nat_eq r.consumers c)) row (stands.consumers c))
    where
      by_kept : (o : Option Consumer) → KeepsConsumer t o (Some k) → is_some o ≡ true
      by_kept None kept = false_true (sym kept ∙ lives)
      by_kept (Some q) kept = refl

  awaiting_lives : (x : ℕ) (w : Exchange) (k : rows.Consumer) → IsAwaiting x w k.place → is_live (Some k) ≡ true
  awaiting_lives x w k (owners.direct way at) = ap is_live_place at
  awaiting_lives x w k (owners.turn way at) = ap is_live_place at
  awaiting_lives x w k (owners.hole q lo hi how way aim at) = ap is_live_place at

  module _ (law : Lawful t) (x : ℕ) (view : ExchangeView) (seen : Viewed t x view) where
    bare : view.headed ≡ false → seen.w.head ≡ None
    bare off = none_of seen.w.head (sym seen.headed ∙ off)

    waiting : view.headed ≡ false → Awaits t x seen.w
    waiting off = law.owned.waiting x seen.w seen.row seen.is_open (bare off)

    pub waiter_lives : view.headed ≡ false → is_some (get nat_eq r.consumers view.c) ≡ true
    waiter_lives off =
        let w = waiting off in
        subst (λ (n : ℕ). is_some (get nat_eq r.consumers n) ≡ true) (sym seen.c_is) (lives_as seen.w.c w.k w.row (awaiting_lives x seen.w w.k w.at))

    -- it was shown a head, or the exchange has its own
    pub is_broken : ((view.headed ≡ true) ⊎ (is_shown (get nat_eq r.consumers view.c) ≡ true)) → IsBroken t x seen.w
    is_broken why = record {
      row = seen.row;
      is_open = seen.is_open;
      shown = λ none k row. by_why none k row why;
    }
      where
        by_why : seen.w.head ≡ None → (k : rows.Consumer) → t.consumer seen.w.c ≡ Some k →
            ((view.headed ≡ true) ⊎ (is_shown (get nat_eq r.consumers view.c) ≡ true)) → k.shown ≡ true
        by_why none k row (inl headed) = false_true (sym (ap (λ z. is_some z) none) ∙ (sym seen.headed ∙ headed))
        by_why none k row (inr shown) =
            let w = law.owned.waiting x seen.w seen.row seen.is_open none in
            let same : w.k ≡ k = same_row (t.consumer seen.w.c) w.k k w.row row in
            let lives : is_live (Some k) ≡ true = ap (λ (z : rows.Consumer). is_live (Some z)) (sym same) ∙ awaiting_lives x seen.w w.k w.at in
            sym (shown_is seen.w.c k row lives) ∙ (ap (λ n. is_shown (get nat_eq r.consumers n)) (sym seen.c_is) ∙ shown)

    pub waited : view.headed ≡ false → is_shown (get nat_eq r.consumers view.c) ≡ false → (k : rows.Consumer) × Waited t x view.c seen.w k
    waited off unshown =
        let w = waiting off in (
          w.k,
          record {
            row = seen.row;
            is_open = seen.is_open;
            bare = bare off;
            for_it = sym seen.c_is;
            consumer = ap t.consumer seen.c_is ∙ w.row;
            unshown = sym (shown_is seen.w.c w.k w.row (awaiting_lives x seen.w w.k w.at)) ∙
                (ap (λ n. is_shown (get nat_eq r.consumers n)) (sym seen.c_is) ∙ unshown);
          },
        )
