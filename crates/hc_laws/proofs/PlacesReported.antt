-- Nobody is due a failed read, and no body is longer than all that was received: at each entry.
--
-- A read that fails is told at once, so each cause that becomes due is another (`becomes_reported`). Nor does a consumer
-- come to stand where it is to be told one: the cases of a head are looked at (`case_place`), then the other events
-- (`heard_reported`) and the acts (`acted_reported`). A body grows by the bytes of a piece, which are counted as received
-- (`received_by`). `reported_kept` joins both; a denied entry is `reported_denied`.
use Rattle.std.{proofs.{lemmas.Bool.Decides.{nat_tests}, Common.{◌≡◌, ℕ, ◌+◌, ◌≤◌, length, length-append, Bool, true, false, Option, Some, None, refl, ap, sym, ◌∙◌, subst, arith}}, specs.{Prelude.{if◌then◌else◌, ◌==◌}, Option.{option_or}}}
use Rattle.hc_text.proofs.Basics.{some_inj}
use Rattle.hc_effects.proofs.Vocabulary.{Opening, Cause, Wait, Event, Response, HeadCase, Route, route_of, Place, Showing, case_at, consumer_heard, consumer_acted, consumer_made, consumer_after, by_head, by_fault, by_opening, shown_place, waiting, waiting_place, due_after, back_in_line, place_by_case, opened_place, unless_bound, Entry, becomes_due, cause_of_loss, cause_of_head, stop_cause, is_failed_read, reads, bound_to, Tables, Exchange, Consumer, starts_over, after_accepted, after_denied, received_in, place}
use Rattle.hc_effects.proofs.{ExchangeFrom.{ExchangeFrom, exchange_from}, Fills.{Brings, brings}}
use Rattle.hc_effects.proofs.ExchangeFrom as exchange

-- it is to be told a failed read
abbrev fails_read : Place → Bool
fails_read (place.Down why) = is_failed_read (Some why)
fails_read _ = false

pub record AreReported (t : Tables) : Type 0 where
  pub due : (c : ℕ) (k : Consumer) → t.consumer c ≡ Some k → is_failed_read k.due ≡ false
  pub down : (c : ℕ) (k : Consumer) → t.consumer c ≡ Some k → fails_read k.place ≡ false
  pub received : (x : ℕ) (w : Exchange) → t.exchange x ≡ Some w → length w.body ≤ t.received

abbrev Reported : Place → Type 0
Reported p = fails_read p ≡ false

cause_if : (b : Bool) (q : Option Cause) → is_failed_read q ≡ false → is_failed_read (if b then q else None) ≡ false
cause_if b q reported = grind (arith, nat_tests)

cause_or : (q z : Option Cause) → is_failed_read q ≡ false → is_failed_read z ≡ false → is_failed_read (option_or q z) ≡ false
cause_or q z a b = grind (arith, nat_tests)

place_if : (b : Bool) (p q : Place) → Reported p → Reported q → Reported (if b then p else q)
place_if b p q a b1 = grind (arith, nat_tests)

row_if : (b : Bool) (h k : Consumer) → Reported h.place → Reported k.place → Reported (if b then h else k).place
row_if b h k a b1 = grind (arith, nat_tests)

module _ (t : Tables) (e : Entry) (c : ℕ) where
  -- WHAT BECOMES DUE

  stop_reported : (v : Event) → is_failed_read (stop_cause t v) ≡ false
  stop_reported v = grind (arith, nat_tests)

  loss_reported : (p : Place) → is_failed_read (cause_of_loss t e c p) ≡ false
  loss_reported p = grind (arith, nat_tests)

  head_reported : (v : Event) → is_failed_read (cause_of_head t e c v) ≡ false
  head_reported v = grind (arith, nat_tests)

  becomes_reported : (k : Consumer) → is_failed_read (becomes_due t e c k) ≡ false
  unfolding becomes_due
  becomes_reported k = grind (arith, nat_tests, cause_or, cause_if, stop_reported, loss_reported, head_reported)

  due_reported : (b : Bool) (k q : Consumer) → is_failed_read k.due ≡ false →
      is_failed_read (if b then back_in_line e.now q else due_after t e c k q).due ≡ false
  due_reported true k q reported = refl
  due_reported false k q reported = cause_if (reads q.place) _ (cause_or k.due _ reported (becomes_reported k))

  -- WHERE IT STANDS

  case_place : (x : ℕ) (response : Response) (w : Exchange) (k : Consumer) (q : Option HeadCase) → Reported k.place → Reported (place_by_case x response w k q)
  case_place x response w k q reported = grind (arith, nat_tests)

  head_place : (x : ℕ) (response : Response) (q : Option Exchange) (k : Consumer) → Reported k.place → Reported (by_head t e c x response q k).place
  head_place x response None k reported = reported
  head_place x response (Some w) k reported = row_if (w.c == c) _ k (case_place x response w k (case_at t e) reported) reported

  fault_place : (x : ℕ) (q : Option Exchange) (k : Consumer) → Reported k.place → Reported (by_fault c x q k).place
  fault_place x q k reported = grind (arith, nat_tests)

  heard_reported : (v : Event) (k : Consumer) → Reported k.place → Reported (consumer_heard t e c v k).place
  heard_reported v k reported = grind (arith, nat_tests, head_place, fault_place, row_if)

  waits_reported : (h : Consumer) (q : Option Wait) → Reported h.place → Reported (waiting_place t h q)
  waits_reported h q reported = grind (arith, nat_tests)

  route_reported : (x : ℕ) (k : Consumer) (way : Route) → Reported (opened_place t x k way)
  route_reported x k way = grind (arith, nat_tests)

  unless_reported : (q : Option ℕ) (old new : Place) → Reported old → Reported new → Reported (unless_bound q old new)
  unless_reported q old new a b = grind (arith, nat_tests)

  opens_reported : (z : Option Opening) (h : Consumer) → Reported h.place → Reported (by_opening t c z h).place
  opens_reported None h reported = reported
  opens_reported (Some o) h reported =
      row_if (o.c == c) _ h (unless_reported (bound_to h.place) h.place _ reported (route_reported o.x h (route_of o.need))) reported

  shown_reported : (z : Option Showing) (p : Place) → Reported p → Reported (shown_place c z p)
  shown_reported z p reported = grind (arith, nat_tests)

  acted_reported : (k : Consumer) → Reported k.place → Reported (consumer_acted t e c (consumer_heard t e c e.event k)).place
  acted_reported k reported = grind (arith, nat_tests, place_if, shown_reported, opens_reported, waiting, waits_reported, heard_reported)

  settled_reported : (b : Bool) (k q : Consumer) → Reported q.place → Reported (if b then back_in_line e.now q else due_after t e c k q).place
  settled_reported b k q reported = grind (arith, nat_tests)

  record IsReceived (u : Consumer) : Type 0 where
    due : is_failed_read u.due ≡ false
    down : Reported u.place

  made : (v : Event) (u : Consumer) → consumer_made c e.now v ≡ Some u → IsReceived u
  made v u h = grind (arith, nat_tests)

  reported_after : (q : Option Consumer) (u : Consumer) → ((k : Consumer) → q ≡ Some k → IsReceived k) → consumer_after t e c q ≡ Some u → IsReceived u
  unfolding consumer_after
  reported_after None u before h = made e.event u h
  reported_after (Some k) u before h =
      let b = before k refl in
      subst IsReceived (some_inj _ u h) (record {
        due = due_reported (starts_over t e c k) k (consumer_acted t e c (consumer_heard t e c e.event k)) b.due;
        down = settled_reported (starts_over t e c k) k (consumer_acted t e c (consumer_heard t e c e.event k)) (acted_reported k b.down);
      })

module _ (t : Tables) (e : Entry) (reported : AreReported t) where
  after_by : (c : ℕ) (u : Consumer) → (after_accepted t e).consumer c ≡ Some u → IsReceived t e c u
  after_by c u after = reported_after t e c (t.consumer c) u (λ k row. record { due = reported.due c k row; down = reported.down c k row }) after

  -- WHAT WAS RECEIVED

  received_by : (x : ℕ) (w z : Exchange) → t.exchange x ≡ Some w → Brings t e x w z → length z.body ≤ t.received + received_in e.event
  received_by x w z row it4 = grind (arith, nat_tests, length, length-append)

  received_from : (x : ℕ) (z : Exchange) → (after_accepted t e).exchange x ≡ Some z → ExchangeFrom t e x z → length z.body ≤ t.received + received_in e.event
  received_from x z after (exchange.was w row same) = received_by x w z row (brings t e x w z row after)
  received_from x z after (exchange.new o none opens here made_is) = let zero : length z.body ≡ 0 = sym (ap (λ (w : Exchange). length w.body) made_is) in
      omega arith

  pub reported_kept : AreReported (after_accepted t e)
  reported_kept = record {
    due = λ c u after. (after_by c u after).due;
    down = λ c u after. (after_by c u after).down;
    received = λ x z after. received_from x z after (exchange_from t e x (t.exchange x) z refl after);
  }

  pub reported_denied : AreReported (after_denied t e)
  reported_denied = grind (arith, nat_tests)

-- the cause of who is to be told a failure
pub down_reported : (t : Tables) → AreReported t → (c : ℕ) (why : Cause) (k : Consumer) → t.consumer c ≡ Some k → k.place ≡ place.Down why →
    is_failed_read (Some why) ≡ false
down_reported t reported c why k row at = sym (ap fails_read at) ∙ reported.down c k row
