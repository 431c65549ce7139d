-- An exchange whose answer isn't used is over with its head, or closed: what is kept represents the tables then.
--
-- Nobody reads it and it brought nothing (`IsUnread`), so nothing of it is held, and by `HeardExchange` all else stays.
-- It isn't kept as open any more, and its row is over. That is by its head alone, where no byte is promised, or as it
-- is closed (`stands_shut`, `stands_refused`). The code tells the second by what is kept of its request, which is that
-- of the tables (`length_as`, `closes_as`). The files on heads of which nothing is stored use these.
use Rattle.std.{proofs.{lemmas.Bool.Decides.{nat_tests}, Common.{arith, ◌≡◌, ◌≢◌, inl, inr, ℕ, [], ◌∷◌, Bool, true, false, Option, Some, None, refl, ap, sym, ◌∙◌, subst}}, specs.{Prelude.{nat_eq, if◌then◌else◌}, HashMap.{get}}}
use Rattle.hc_text.proofs.Basics.{eqb-other, eqb-same, same_or}
use Rattle.hc_effects.proofs.Vocabulary.{Limits, Response, Length, length_of, promise_of, with_answer, with_exchange, exchange_with_head, over, tables_after_close, all_closed, unless_ended, promise_in, is_reached, Tables, Exchange, place}
use Rattle.hc_store.specs.declared.backend.Backend.{Ghosts}
use Rattle.hc_stored.specs.Entries.{shelf_of}
use Rattle.hc_exch.specs.{declared.row.Open.{Open}, Exchanges.{table_of}, Known.{Known, length_by, without_exchange}}
use Rattle.hc_exch.specs.Exchanges as exch
use Rattle.hc_model.specs.Rows as rows
use Rattle.hc_effects.proofs.Basics.{same_functions}
use Rattle.hc_state.specs.{declared.rows.Rows.{Rows}, Changes.{BecomesAt}, Heads.{IsBare, IsUnread, unless_over}, Kept.{KeepsExchange, KeepsRunning, held_for}, Stands.{RowsStand, KeepsRest}}
use Rattle.hc_on_leave.proofs.{AnswerHandler.{all_reached, known_here, known_other}, HeardExchange.{held_empty, held_else, here, others, key_heard, entries_heard}}
use Rattle.hc_state.proofs.{OneOfEach.{stands_then}, Ties.{consumer_same}}

module _ {B : Type 0} {g : Ghosts B} {limits : Limits} (r u : Rows B g) (t : Tables) (x : ℕ) (w z : Exchange) (stands : RowsStand limits r t)
    (unused : IsUnread t x w) (shut : z.is_open ≡ false) (empty : z.body ≡ []) (unjoined : z.joined ≡ None)
    (rest : KeepsRest r u) (consumers : u.consumers ≡ r.consumers) (becomes : exch.Becomes without_exchange x r.exchanges u.exchanges) where
  abbrev s : Tables
  s = with_exchange x (Some z) t

  abbrev bare : IsBare t x w
  bare = unused.bare

  s_here : s.exchange x ≡ Some z
  s_here = here t x w z bare unjoined

  s_other : (y : ℕ) → y ≢ x → s.exchange y ≡ t.exchange y
  s_other = others t x w z bare unjoined

  stays : BecomesAt r.consumers u.consumers w.c (get nat_eq r.consumers w.c)
  stays = rw consumers (record { places = by_number; len = refl })
    where
      by_number : (d : ℕ) → get nat_eq r.consumers d ≡ (if nat_eq w.c d then get nat_eq r.consumers w.c else get nat_eq r.consumers d)
      by_number d = elim (same_or w.c d) [
        | inl e ↦ rw (← e, eqb-same w.c) refl
        | inr ne ↦ rw (eqb-other w.c d ne) refl
      ]

  past_same : (d y : ℕ) (k : rows.Consumer) → t.consumer d ≡ Some k → k.place ≡ place.Direct y → s.exchange y ≡ t.exchange y
  past_same d y k row at = grind (arith, nat_tests)

  exchange_shut : KeepsExchange s x (table_of u.exchanges x)
  exchange_shut =
      let known_then = known_here without_exchange x r.exchanges u.exchanges becomes in
      record {
        running = subst (λ (k : Known). KeepsRunning s x k.running (s.exchange x)) (sym known_then) (subst (KeepsRunning s x None) (sym s_here) shut);
        held = ap (λ (k : Known). k.held) known_then
            ∙ ((stands.exchanges x).held
            ∙ (ap (held_for t x) bare.row
            ∙ (held_empty t x w bare.empty bare.unjoined bare.unfounded
            ∙ sym (ap (held_for s x) s_here ∙ held_empty s x z empty unjoined bare.unfounded))));
      }

  pub stands_shut : RowsStand limits u s
  stands_shut =
      stands_then r u t s w.c x (get nat_eq r.consumers w.c) stands (rest.last_start ∙ stands.last_start) (becomes.next ∙ stands.next)
      (rw consumers stands.count) stays (λ y ne. known_other without_exchange x y r.exchanges u.exchanges becomes ne) (λ d ne. refl) s_other (λ q. refl)
      (consumer_same t s (get nat_eq r.consumers w.c) (t.consumer w.c)
      (λ k row. record { past = λ y at. past_same w.c y k row at; length = λ q lo hi how at. refl }) (stands.consumers w.c))
      exchange_shut (let same_keys = rest.keys in λ key. rw same_keys (key_heard t x w z bare unjoined key _ (stands.keys key)))
      (λ d k ne row at. unused.unread d k row at) (λ y e ne row. held_else t x w z bare unjoined y e)
      (let same_entries = rest.entries in rw same_entries stands.limits)
      (let same_entries = rest.entries in rw same_entries (entries_heard t x w z bare unjoined (shelf_of r.entries) stands.entries))

-- IT IS OVER WITH ITS HEAD, OR CLOSED

closed_twice : (t : Tables) (x : ℕ) (a : Exchange) → tables_after_close x (with_exchange x (Some a) t) ≡ with_exchange x (Some (over a)) t
closed_twice t x a = grind (arith, nat_tests)

module _ {B : Type 0} {g : Ghosts B} {limits : Limits} (r u : Rows B g) (t : Tables) (now x : ℕ) (response : Response) (w : Exchange)
    (stands : RowsStand limits r t) (unused : IsUnread t x w)
    (rest : KeepsRest r u) (consumers : u.consumers ≡ r.consumers) (becomes : exch.Becomes without_exchange x r.exchanges u.exchanges) where
  by_test : (b : Bool) → is_reached (promise_in w response) 0 ≡ b → RowsStand limits u (all_closed (if b then [] else x ∷ []) (with_answer now x response w.joined w t))
  by_test true reached = stands_shut r u t x w (exchange_with_head now response w.joined w) stands unused (rw reached refl) unused.bare.empty unused.bare.unjoined rest consumers becomes
  by_test false reached =
      subst (RowsStand limits u) (sym (closed_twice t x (exchange_with_head now response w.joined w)))
      (stands_shut r u t x w (over (exchange_with_head now response w.joined w)) stands unused refl unused.bare.empty unused.bare.unjoined rest consumers
      becomes)

  pub stands_refused : RowsStand limits u (all_closed (unless_ended x response w) (with_answer now x response w.joined w t))
  stands_refused = by_test (is_reached (promise_in w response) 0) refl

-- WHAT IS TOLD

-- what the head says to the exchange
pub length_as : {B : Type 0} {g : Ghosts B} {limits : Limits} (r : Rows B g) (t : Tables) (x : ℕ) (w : Exchange) (response : Response) →
    RowsStand limits r t → t.exchange x ≡ Some w → w.is_open ≡ true → length_by (table_of r.exchanges x).running response ≡ length_of w.need w.request response
length_as r t x w response stands row opened = grind (arith, nat_tests)

pub closes_as : {B : Type 0} {g : Ghosts B} {limits : Limits} (r : Rows B g) (t : Tables) (x : ℕ) (w : Exchange) (response : Response) →
    RowsStand limits r t → t.exchange x ≡ Some w → w.is_open ≡ true →
    unless_over x (length_by (table_of r.exchanges x).running response) ≡ unless_ended x response w
closes_as r t x w response stands row opened = grind (arith, nat_tests)
