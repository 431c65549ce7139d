-- Who is live and neither cancelled nor told the end or a failure stays live.
--
-- The row of a consumer behind an entry is made of what the event says of it, of what the acts say, and of whether it
-- starts over. Each of these puts it at some place: where it waits, is bound, is shown what comes, or is down. It is
-- over at none but by a cancel of it, or by acts that tell it the end or a failure. Who starts over stands in the line,
-- where it is live.
use Rattle.std.{proofs.{Common.{◌≡◌, ℕ, Bool, true, false, Option, Some, None, refl, arith}, lemmas.Bool.Decides.{nat_tests}}, specs.Prelude.{nat_eq, if◌then◌else◌}}
use Rattle.hc_effects.proofs.Vocabulary.{Opening, leaves_in, Wait, Event, Response, Place, route_of, HeadCase, Route, Showing, case_at, place_by_case, by_head, by_fault, consumer_heard, waiting_place, opened_place, unless_bound, by_opening, shown_place, waiting, consumer_acted, consumer_after, consumer_settled, due_after, back_in_line, is_live, is_live_place, Entry, bound_to, Tables, Exchange, Consumer, starts_over, after, event}
use Rattle.hc_event.specs.declared.place.Place.TheVariants as place
use Rattle.hc_model.specs.ConsumerRows.{with_head, with_opening}
use Rattle.hc_laws.proofs.LiveAfter.{consumer_behind}

abbrev IsLiveAt : Place → Type 0
IsLiveAt p = is_live_place p ≡ true

-- WHAT IS HEARD

-- by its case a head puts nobody where it is over
case_live : (x : ℕ) (response : Response) (w : Exchange) (k : Consumer) (o : Option HeadCase) → IsLiveAt k.place → IsLiveAt (place_by_case x response w k o)
case_live x response w k o live = grind (arith, nat_tests)

either : (b : Bool) (u k : Consumer) → IsLiveAt u.place → IsLiveAt k.place → IsLiveAt (if b then u else k).place
either b u k new old = grind (arith, nat_tests)

head_live : (t : Tables) (e : Entry) (c x : ℕ) (response : Response) (o : Option Exchange) (k : Consumer) → IsLiveAt k.place →
    IsLiveAt (by_head t e c x response o k).place
head_live t e c x response None k live = live
head_live t e c x response (Some w) k live = either (nat_eq w.c c) (with_head t e x response w k) k (case_live x response w k (case_at t e) live) live

fault_live : (c x : ℕ) (o : Option Exchange) (k : Consumer) → IsLiveAt k.place → IsLiveAt (by_fault c x o k).place
fault_live c x o k live = grind (arith, nat_tests)

heard_live : (t : Tables) (e : Entry) (c : ℕ) (ev : Event) (k : Consumer) → (ev ≡ event.Cancel c → ⊥) → IsLiveAt k.place →
    IsLiveAt (consumer_heard t e c ev k).place
heard_live t e c (event.Head x response) k other live = head_live t e c x response (t.exchange x) k live
heard_live t e c (event.Fault x) k other live = fault_live c x (t.exchange x) k live
heard_live t e c (event.Cancel d) k other live = by_test (nat_eq d c) refl
  where
    by_test : (b : Bool) → nat_eq d c ≡ b → IsLiveAt (if b then record k { place = place.Over } else k).place
    by_test b its = grind (arith, nat_tests)
heard_live t e c _ k other live = live

-- WHAT ACTS SAY

waiting_live : (t : Tables) (k : Consumer) (o : Option Wait) → IsLiveAt k.place → IsLiveAt (waiting_place t k o)
waiting_live t k o live = grind (arith, nat_tests)

opened_live : (t : Tables) (x : ℕ) (k : Consumer) (r : Route) → IsLiveAt (opened_place t x k r)
opened_live t x k r = grind (arith, nat_tests)

unbound_live : (o : Option ℕ) (old new : Place) → IsLiveAt old → IsLiveAt new → IsLiveAt (unless_bound o old new)
unbound_live o old new a b = grind (arith, nat_tests)

opening_live : (t : Tables) (c : ℕ) (o : Option Opening) (k : Consumer) → IsLiveAt k.place → IsLiveAt (by_opening t c o k).place
opening_live t c None k live = live
opening_live t c (Some o) k live =
    either (nat_eq o.c c) (with_opening t o k) k
    (unbound_live (bound_to k.place) k.place (opened_place t o.x k (route_of o.need)) live (opened_live t o.x k (route_of o.need))) live

shown_live : (c : ℕ) (o : Option Showing) (p : Place) → IsLiveAt p → IsLiveAt (shown_place c o p)
shown_live c o p live = grind (arith, nat_tests)

acted_live : (t : Tables) (e : Entry) (c : ℕ) (k : Consumer) → leaves_in c e.acts ≡ false → IsLiveAt k.place → IsLiveAt (consumer_acted t e c k).place
acted_live t e c k stays live = grind (arith, nat_tests, shown_live, by_opening, waiting, opening_live, waiting_live)

-- THE ROW BEHIND

settled_live : (t : Tables) (e : Entry) (c : ℕ) (k q : Consumer) → IsLiveAt q.place → is_live (Some (consumer_settled t e c k q)) ≡ true
settled_live t e c k q live = by_test (starts_over t e c k)
  where
    by_test : (b : Bool) → is_live (Some (if b then back_in_line e.now q else due_after t e c k q)) ≡ true
    by_test b = grind (arith, nat_tests)

row_live : (t : Tables) (e : Entry) (c : ℕ) (o : Option Consumer) → (e.event ≡ event.Cancel c → ⊥) → leaves_in c e.acts ≡ false → is_live o ≡ true →
    is_live (consumer_after t e c o) ≡ true
unfolding consumer_after
row_live t e c None other stays live = absurd (let never : false ≡ true = live in cc)
row_live t e c (Some k) other stays live =
    settled_live t e c k (consumer_acted t e c (consumer_heard t e c e.event k))
    (acted_live t e c (consumer_heard t e c e.event k) stays (heard_live t e c e.event k other live))

-- Who is live before an entry is live behind it, unless it is cancelled, or is told the end or a failure.
pub stays_live : (t : Tables) (e : Entry) (c : ℕ) → (e.event ≡ event.Cancel c → ⊥) → leaves_in c e.acts ≡ false → is_live (t.consumer c) ≡ true →
    is_live ((after t e).consumer c) ≡ true
stays_live t e c other stays live = grind (arith, nat_tests, consumer_behind, after, row_live)
