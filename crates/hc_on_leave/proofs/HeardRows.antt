-- An open exchange without a head, and the consumer that waits for that: what is kept of both.
--
-- A head that isn't denied is of an exchange that is kept as open, without a head (`headless_of`). What is kept of it
-- represents its row (`runs_as`). By the laws a live consumer owns it, and waits for it by what it was opened for. So
-- that consumer is kept too, and both see the same of it (`asker`). Whom the code looked up is this one (`asked_by`).
-- All files on heads begin with these.
use Rattle.std.{proofs.{lemmas.Bool.Decides.{nat_tests}, Common.{arith, ◌≡◌, ℕ, Bool, true, false, Option, Some, None, refl, ap, sym, ◌∙◌, subst}}, specs.{Prelude.{is_some, nat_eq, option_map, if◌then◌else◌}, HashMap.{get}}}
use Rattle.hc_text.proofs.Basics.{false_true, same_some as same_row}
use Rattle.hc_effects.proofs.Vocabulary.{Limits, Response, route_of, head_refusal, Place, denial, is_live_place, NoFlaw, Lawful, StandsFor, IsAwaited, IsAwaiting, Awaits, Tables, Exchange, event}
use Rattle.hc_store.specs.declared.backend.Backend.{Ghosts}
use Rattle.hc_event.specs.declared.act.Refusal.TheVariants as refusal
use Rattle.hc_exch.specs.{declared.row.Open.{Open}, Exchanges.{table_of}, Known.{open_view}}
use Rattle.hc_model.specs.Owners as owners
use Rattle.hc_model.specs.Rows as rows
use Rattle.hc_effects.proofs.{FirstKeeps.{is_new}, Tests.{none_some}, EventsKeep.{no_head}}
use Rattle.hc_state.specs.{declared.rows.Rows.{Rows}, Facts.{Facts}, Heads.{AwaitsHead, IsAskedBy}, Kept.{IsKept, IsRunning, KeepsConsumer, KeepsRunning}, Stands.{RowsStand}}
use Rattle.hc_txn.specs.declared.transaction.Transaction.{Transaction as Consumer}

-- WHAT ISN'T DENIED

-- an open exchange without a head
pub record Headless (running : Option Open) : Type 0 where
  pub o : Open
  pub there : running ≡ Some o
  pub headless : o.headed ≡ false

pub headless_of : (running : Option Open) → head_refusal (option_map open_view running) ≡ None → Headless running
headless_of None accepted = none_some _ (sym accepted)
headless_of (Some o) accepted = record { o = o; there = refl; headless = by_test o.headed refl accepted }
  where
    by_test : (b : Bool) → o.headed ≡ b → (if b then Some refusal.HeadTwice else None) ≡ None → o.headed ≡ false
    by_test false at h = at
    by_test true at h = none_some _ (sym h)

-- THE EXCHANGE

-- what is kept of it
pub runs_as : {B : Type 0} {g : Ghosts B} {limits : Limits} (r : Rows B g) (t : Tables) (x : ℕ) (o : Open) (w : Exchange) → RowsStand limits r t →
    (table_of r.exchanges x).running ≡ Some o → t.exchange x ≡ Some w → IsRunning t x o w
runs_as r t x o w stands running row =
    subst (KeepsRunning t x (Some o)) row (subst (λ z. KeepsRunning t x z (t.exchange x)) running (stands.exchanges x).running)

pub record HeardRow (t : Tables) (x : ℕ) (o : Open) : Type 0 where
  pub w : Exchange
  pub row : t.exchange x ≡ Some w
  pub is : IsRunning t x o w

pub heard_row : {B : Type 0} {g : Ghosts B} {limits : Limits} (r : Rows B g) (t : Tables) (x : ℕ) (o : Open) → RowsStand limits r t →
    (table_of r.exchanges x).running ≡ Some o → HeardRow t x o
heard_row r t x o stands running = by_row (t.exchange x) refl (subst (λ z. KeepsRunning t x z (t.exchange x)) running (stands.exchanges x).running)
  where
    by_row : (z : Option Exchange) → t.exchange x ≡ z → KeepsRunning t x (Some o) (t.exchange x) → HeardRow t x o
    by_row None row keeps = absurd (subst (KeepsRunning t x (Some o)) row keeps)
    by_row (Some w) row keeps = record { w = w; row = row; is = subst (KeepsRunning t x (Some o)) row keeps }

-- ITS CONSUMER

-- where who waits for a head stands, it is live
pub live_at : (x : ℕ) (w : Exchange) (p : Place) → IsAwaiting x w p → is_live_place p ≡ true
live_at x w p it3 = grind (arith, nat_tests)

-- the exchange is its own, and it waits for that
pub record WaitsAs (x : ℕ) (w : Exchange) (v : rows.Consumer) : Type 0 where
  pub own : v.own ≡ Some x
  pub at : IsAwaiting x w v.place

pub waits_as : (t : Tables) (law : Lawful t) (x : ℕ) (w : Exchange) (v : rows.Consumer) → AwaitsHead t x w v → WaitsAs x w v
waits_as t law x w v awaits =
    let a = law.owned.waiting x w awaits.row awaits.is_open awaits.headless in
    let one = same_row (t.consumer w.c) a.k v a.row awaits.asker in
    record { own = ap (λ (u : rows.Consumer). u.own) (sym one) ∙ a.own; at = subst (λ (u : rows.Consumer). IsAwaiting x w u.place) one a.at }

-- what is kept of a consumer is what its row says
pub kept_as : {B : Type 0} {g : Ghosts B} {limits : Limits} (r : Rows B g) (t : Tables) (c : ℕ) (v : rows.Consumer) (k : Consumer) →
    RowsStand limits r t → t.consumer c ≡ Some v → get nat_eq r.consumers c ≡ Some k → IsKept t k v
kept_as r t c v k stands row there = subst (KeepsConsumer t (Some k)) row (subst (λ o. KeepsConsumer t o (t.consumer c)) there (stands.consumers c))

-- the consumer of an open exchange without a head, as both have it
pub record Asker {B : Type 0} {g : Ghosts B} (r : Rows B g) (t : Tables) (x : ℕ) (w : Exchange) : Type 0 where
  pub v : rows.Consumer
  pub awaits : AwaitsHead t x w v
  pub own : v.own ≡ Some x
  pub at : IsAwaiting x w v.place
  pub stands : StandsFor x v (route_of w.need)
  pub k : Consumer
  pub there : get nat_eq r.consumers w.c ≡ Some k
  pub is : IsKept t k v

pub asker : {B : Type 0} {g : Ghosts B} {limits : Limits} (r : Rows B g) (t : Tables) (facts : Facts limits t) (x : ℕ) (w : Exchange) →
    RowsStand limits r t → t.exchange x ≡ Some w → w.is_open ≡ true → w.head ≡ None → Asker r t x w
asker r t facts x w stands row opened bare =
    by_kept (get nat_eq r.consumers w.c) refl (subst (KeepsConsumer t (get nat_eq r.consumers w.c)) a.row (stands.consumers w.c))
  where
    a : Awaits t x w
    a = facts.law.owned.waiting x w row opened bare

    i : IsAwaited t x w
    i = facts.turns.awaited x w row (rw (opened, bare) refl)

    by_kept : (z : Option Consumer) → get nat_eq r.consumers w.c ≡ z → KeepsConsumer t z (Some a.k) → Asker r t x w
    by_kept None there kept = false_true (sym kept ∙ live_at x w a.k.place a.at)
    by_kept (Some k) there kept = record {
      v = a.k;
      awaits = record { row = row; is_open = opened; headless = bare; asker = a.row };
      own = a.own;
      at = a.at;
      stands = subst (λ (u : rows.Consumer). StandsFor x u (route_of w.need)) (same_row (t.consumer w.c) i.k a.k i.row a.row) i.stands;
      k = k;
      there = there;
      is = kept;
    }

-- of a head that isn't denied
pub asker_of : {B : Type 0} {g : Ghosts B} {limits : Limits} (r : Rows B g) (t : Tables) (facts : Facts limits t) (now x : ℕ) (response : Response)
    (w : Exchange) → RowsStand limits r t → denial t (event.Head x response) ≡ None → t.exchange x ≡ Some w → Asker r t x w
asker_of {limits = limits} r t facts now x response w stands goes row =
    let new = is_new limits t now NoFlaw facts.law.sound (event.Head x response) goes x response w refl row in
    asker r t facts x w stands row new.is_open new.bare

-- whom the code looked up
pub asked_by : {B : Type 0} {g : Ghosts B} {limits : Limits} (r : Rows B g) (t : Tables) (x c : ℕ) (w : Exchange) → RowsStand limits r t →
    head_refusal (option_map open_view (table_of r.exchanges x).running) ≡ None → IsAskedBy c (table_of r.exchanges x).running → t.exchange x ≡ Some w → w.c ≡ c
asked_by r t x c w stands accepted asks row = grind (arith, nat_tests)
