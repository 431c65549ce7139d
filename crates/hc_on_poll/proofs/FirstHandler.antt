-- Who is bound as the only one opens an exchange for a first hole: what is kept represents the tables then.
--
-- The consumer read nothing before, so nothing is held for it, and no answer is kept for it. Its entry has it as bound,
-- and as the one that came alone: nobody was kept as that (`first_none`). Its exchange is new and brought nothing yet
-- (`known_then`). In its key it is away, since it waits for the head of that exchange (`keys_then`). `stands_filling`
-- joins this, and `filling_answered` the effect with it, for `open_first_hole`.
use Rattle.std.{proofs.{Common.{◌≡◌, ◌≢◌, inl, inr, ℕ, ◌+◌, List, [], ◌++◌, Bool, true, false, Option, Some, None, refl, ap, sym, ◌∙◌, subst, arith}, lemmas.Bool.{cases_Bool}}, specs.{Prelude.{bytes_eq, nat_eq, is_none, not, option_map, ◌&&◌}, HashMap.{get}}}
use Rattle.hc_text.proofs.Basics.{eqb-other, eqb-same, false_true, same_or, and_off as then_false}
use Rattle.hc_store.specs.declared.backend.Backend.{Ghosts}
use Rattle.hc_effects.proofs.Vocabulary.{Act, Need, Request, RequestClass, Limits, route_of, range_of, wanted_of, Place, current, total_in, is_live, with_event, used_last, with_consumer, with_opening, just_opened, kind_of, Lawful, is_in_line, Opens, acts_of, move_of, bound_to, Tables, Exchange, Representation, event, route, wanted, need, place, by}
use Rattle.hc_range.specs.declared.range.{RangeSpec.{RangeSpec}, Span.{Span}}
use Rattle.hc_text.specs.Sorted.{has, itself}
use Rattle.hc_rules.proofs.RangeReads.{bytes_eq-same}
use Rattle.hc_entry.specs.{declared.keys.KeyTable.{KeyTable}, Keys.{kept_of}, Kept.{on_line}, Lines.{gone_away}}
use Rattle.hc_entry.specs.Keys as keys
use Rattle.hc_stored.specs.{declared.entries.Entries.{Entries}, Entries.{shelf_of}, Kept.{Kept, with_first}, Shelf.{moved_first}, Views.{admits_first}}
use Rattle.hc_stored.specs.Shelf as shelf
use Rattle.hc_exch.specs.{declared.{exchanges.Exchanges.{Exchanges}, role.Role.TheVariants.{the_data as role}}, Exchanges.{table_of, next_of}, Known.{with_new_exchange, exchange_at_opening, Changes}}
use Rattle.hc_model.specs.Rows as rows
use Rattle.hc_effects.proofs.{HoleEffects.{fills_first}, Tests.{and_false}}
use Rattle.hc_state.specs.{declared.rows.Rows.{Rows}, Changes.{Numbered, ChangesAt, BecomesAt}, Kept.{IsKept, IsRunning, KeepsConsumer, KeepsExchange, KeepsRunning, answer_for, held_for}, Lines.{KeepsKey, is_away}, Plans.{is_idle_at, HasCurrent}, Stands.{Answered, RowsStand}}
use Rattle.hc_txn.specs.{declared.transaction.Transaction.{Transaction as Consumer}, Transactions.{bound_first}}
use Rattle.hc_state.proofs.{Answering.{does_answered}, Fallbacks.{answer_fallback}, FallbackSteps.{length_same, live_same}, ConsumerSteps.{keys_with}, Counting.{stands_counted}, CurrentTies.{IsNow, now_kept}, KeySteps.{not_lined, says_elsewhere, away_key}, OneOfEach.{stands_then}, QueueHandler.{becomes_by}, Ties.{key_same, overs_opened}, Classes.{class_is}}
use Rattle.hc_on_poll.proofs.{BoundHandler.{held_bound, entry_first, entries_bound}, CandidateTies.{range_of_class}, OpenHandler.{unread_yet}, OpenKeys.{key_with_opening}, OpenKinds.{kinds_opened}, PassesHandler.{current_as}, PastHandler.{idle_reads, idle_lives}}

-- nobody came to it alone
first_none : (c : ℕ) (o : Option Kept) (e : Kept) → o ≡ Some e → admits_first c o ≡ true → e.first ≡ None
first_none c o e at on = by_parts (not e.is_gone) (not (has itself c e.bound)) e.first (sym (ap (admits_first c) at) ∙ on)
  where
    by_parts : (a b : Bool) (first : Option ℕ) → (a && b && is_none first) ≡ true → first ≡ None
    by_parts true true None on = refl
    by_parts _ _ _ on = cc

idle_unbound : (p : Place) → is_idle_at p ≡ true → bound_to p ≡ None
idle_unbound place.Line on = refl
idle_unbound (place.Passed q how) on = refl
idle_unbound _ on = false_true on

module _ {B : Type 0} {g : Ghosts B} {limits : Limits} (r : Rows B g) (e : Exchanges) (a : Entries B g) (b : KeyTable) (m : Numbered Consumer)
    (t : Tables) (law : Lawful t) (now c x q : ℕ) (span : Span) (n : Need) (request : Request) (k : Consumer) (v : rows.Consumer)
    (stands : RowsStand limits r t) (there : get nat_eq r.consumers c ≡ Some k) (row : t.consumer c ≡ Some v) (idle : is_idle_at k.place ≡ true)
    (now_is : HasCurrent r.keys q k) (admits : admits_first c ((shelf_of r.entries).kept q) ≡ true) (by_hole : route_of n ≡ route.Hole)
    (x_is : x ≡ next_of r.exchanges)
    (next : next_of e ≡ next_of r.exchanges + 1)
    (launches : Changes (with_new_exchange c (role.Hole q) n request now) (next_of r.exchanges) (table_of r.exchanges) (table_of e))
    (binds : shelf.Becomes (option_map (with_first c)) (moved_first q) q (shelf_of r.entries) (shelf_of a))
    (goes : keys.Becomes (on_line (gone_away c)) k.request.key r.keys b) (changes : ChangesAt r.consumers m c (bound_first q span x)) where
  abbrev u : Rows B g
  u = record r { exchanges = e; entries = a; keys = b; consumers = m }

  kept : IsKept t k v
  kept = subst (KeepsConsumer t (Some k)) row (subst (λ o. KeepsConsumer t o (t.consumer c)) there (stands.consumers c))

  v_idle : is_idle_at v.place ≡ true
  v_idle = sym (ap is_idle_at kept.place) ∙ idle

  abbrev its : List ℕ
  its = v.request.key

  abbrev w : rows.Consumer
  w = record v { own = Some x; place = place.Bound q span.lo (Some span.hi) (by.FirstHole x) }

  abbrev z : Exchange
  z = just_opened now c n request (Some q)

  abbrev o : Tables
  o = with_opening x z t

  abbrev s : Tables
  s = used_last q (with_consumer c (Some w) o)

  is_next : x ≡ t.opened + 1
  is_next = x_is ∙ stands.next

  at_q : current t its ≡ Some q
  at_q = current_as r t k v q stands kept now_is

  at : IsNow r t stands its q
  at = now_kept r t stands its q at_q

  free : t.exchange x ≡ None
  free = law.sound.numbered.lists.new_exchanges x (omega (arith, is_next))

  unfounded : t.representation x ≡ None
  unfounded = law.sound.numbered.lists.new_representations x (omega (arith, is_next))

  here : s.consumer c ≡ Some w
  here = rw (eqb-same c) refl

  others : (d : ℕ) → d ≢ c → s.consumer d ≡ t.consumer d
  others d ne = rw (eqb-other c d (λ e. ne (sym e))) refl

  opened_is : s.exchange x ≡ Some z
  opened_is = rw (eqb-same x) refl

  exchanges : (y : ℕ) → y ≢ x → s.exchange y ≡ t.exchange y
  exchanges y ne = rw (eqb-other x y (λ e. ne (sym e))) refl

  kinds : (d : ℕ) (p : Representation) → t.representation d ≡ Some p → kind_of s d p ≡ kind_of t d p
  kinds = kinds_opened t s x z free unfounded opened_is exchanges refl refl

  live_each : (d : ℕ) → is_live (s.consumer d) ≡ is_live (t.consumer d)
  live_each d = elim (same_or c d) [
    | inl one ↦ rw (← one, here, row) (sym (idle_lives v.place v_idle))
    | inr off ↦ ap is_live (others d (λ e. off (sym e)))
  ]

  -- ITS ROW

  unanswered : answer_for s w ≡ None
  unanswered = elim (cases_Bool v.shown) [
    | inl is ↦ rw is refl
    | inr is ↦ rw is refl
  ]

  kept_then : IsKept s (bound_first q span x k) w
  kept_then = assumption (kept, kept.answer ∙ (answer_fallback t v (idle_reads v.place v_idle) ∙ sym unanswered))

  becomes : BecomesAt r.consumers m c (Some (bound_first q span x k))
  becomes = becomes_by r.consumers m c k (bound_first q span x) there changes

  -- ITS EXCHANGE

  runs : IsRunning s x (exchange_at_opening c (role.Hole q) n request now) z
  runs = record {
    is_open = refl;
    c = refl;
    need = refl;
    request = refl;
    moment = refl;
    headed = refl;
    asked = refl;
    base_is = refl;
    delivered = refl;
    promised_is = refl;
    role = rw by_hole refl;
  }

  -- nothing came of it yet
  none_held : held_for s x (Some z) ≡ []
  none_held = rw (unfounded, here) refl

  known_then : KeepsExchange s x (with_new_exchange c (role.Hole q) n request now (table_of r.exchanges x))
  known_then = record {
    running = subst (KeepsRunning s x (Some (exchange_at_opening c (role.Hole q) n request now))) (sym opened_is) runs;
    held = sym (ap (held_for s x) opened_is ∙ none_held);
  }

  launches_at : Changes (with_new_exchange c (role.Hole q) n request now) x (table_of r.exchanges) (table_of e)
  launches_at = subst (λ (y : ℕ). Changes (with_new_exchange c (role.Hole q) n request now) y (table_of r.exchanges) (table_of e)) (sym x_is) launches

  known_is : table_of e x ≡ with_new_exchange c (role.Hole q) n request now (table_of r.exchanges x)
  known_is = launches_at x ∙ rw (eqb-same x) refl

  -- ITS KEY

  off_line : is_in_line its (Some w) ≡ false
  off_line = not_lined its w refl

  away_there : is_away o its (Some w) ≡ true
  away_there = rw (bytes_eq-same its its refl, eqb-same x) refl

  keys_then : (key : List ℕ) → KeepsKey s key (kept_of b key)
  unfolding current
  keys_then key =
      key_same (with_consumer c (Some w) o) s key (kept_of b key)
      (record { current = refl; in_line = λ d. refl; passed = λ d. refl; away = λ d. refl; turn = λ d. refl })
      (keys_with o c (Some w) (on_line (gone_away c)) its r.keys b
      (λ other. key_with_opening t law x z free other (kept_of r.keys other) (stands.keys other))
      (subst (λ (y : List ℕ). keys.Becomes (on_line (gone_away c)) y r.keys b) (ap (λ (y : Request). y.key) kept.request) goes)
      (away_key o c (Some w) its (kept_of r.keys its) off_line (then_false (bytes_eq its its) false refl) away_there
      (and_false (is_in_line its (Some w)) false off_line))
      (λ other off. says_elsewhere o c v w other row refl off) key)

  -- ALL OF IT

  held_else : (y : ℕ) (f : Exchange) → held_for s y (Some f) ≡ held_for t y (Some f)
  held_else = held_bound t s law c q span.lo (Some span.hi) (by.FirstHole x) v w at.p row here others (idle_reads v.place v_idle) refl (λ d. refl) refl
      refl at.row at.stays kinds

  pub stands_filling : RowsStand limits u s
  stands_filling =
      let reads_none = idle_reads v.place v_idle in
      stands_then r u t s c x (Some (bound_first q span x k)) stands stands.last_start
      (let before = stands.next in omega (arith, next, before, is_next))
      (length_same r u t c v (bound_first q span x k) stands row (idle_lives v.place v_idle) becomes ∙ (stands.count ∙ sym (live_same t s refl live_each)))
      becomes (λ y ne. launches_at y ∙ rw (eqb-other x y (λ e. ne (sym e))) refl) others exchanges (λ d. refl)
      (subst (KeepsConsumer s (Some (bound_first q span x k))) (sym here) kept_then) (subst (KeepsExchange s x) (sym known_is) known_then) keys_then
      (λ d j ne is place_is. unread_yet t law x d j free is place_is)
      (λ y f ne is. held_else y f)
      (binds.limits ∙ stands.limits)
      (entries_bound t s law c q span.lo (Some span.hi) (by.FirstHole x) v w at.p row here others reads_none refl (λ d. refl) refl refl at.row at.stays
      kinds (overs_opened t.exchange s.exchange x free exchanges) (shelf_of r.entries) (shelf_of a) (with_first c) at.e stands.entries at.kept
      (entry_first t s law c q span.lo (Some span.hi) (by.FirstHole x) v w at.p row here others reads_none refl (λ d. refl) refl refl at.row at.stays
      kinds at.e at.is (overs_opened t.exchange s.exchange x free exchanges) x refl (first_none c ((shelf_of r.entries).kept q) at.e at.kept admits)) binds)

  pub filling_answered : (faults want : ℕ) (before out : List Act) (from to : ℕ) → n ≡ need.Hole from to → (total : Option ℕ) → total ≡ total_in
      (t.representation q) → wanted_of k.class.range total ≡ wanted.Interval span
      → move_of t now want c v ≡ Opens x n request → out ≡ before ++ acts_of c (Opens x n request) →
      Answered limits faults u t before out now (event.Poll c want)
  filling_answered faults want before out from to hole total same_total wants is reported =
      let same : Opens x n request ≡ Opens x (need.Hole from to) request = ap (λ (y : Need). Opens x y request) hole in
      let range : k.class.range ≡ range_of v.request = ap (λ (y : RequestClass). y.range) (class_is kept) ∙ range_of_class v.request in
      let wanted_is : wanted_of (range_of v.request) at.p.head.total ≡ wanted.Interval span =
      ap (λ (y : Option RangeSpec). wanted_of y at.p.head.total) (sym range) ∙ (ap (wanted_of k.class.range) (sym (same_total ∙ ap total_in at.row)) ∙ wants) in
      does_answered limits faults u t (with_event now (event.Poll c want) s) before out (acts_of c (Opens x n request)) now (event.Poll c want)
      (rw hole (fills_first limits t law now c want v row x from to request (is ∙ same) (idle_unbound v.place v_idle) q at.p span at_q at.row wanted_is))
      refl refl reported (stands_counted u s now (event.Poll c want) refl stands_filling)
