-- The consumer whose turn it is asks the origin: it waits with the turn for the head of its exchange.
--
-- The code has it stand in line first, then hold the turn, and the tables both at once. Since it is next, nobody holds
-- the turn, and it is the least in line (`turn_free`). So its key keeps it as the holder then (`keys_turned`), which
-- has the work; the exchange is new, and nothing is held of it. `stands_turned` joins this for `begin_turn`.
-- `asked_answered` and `bypassed` answer the poll, the latter once what was current is let go.
use Rattle.std.{proofs.Common.{◌≡◌, ◌≢◌, inl, inr, ℕ, ◌+◌, List, ◌++◌, true, false, Option, Some, None, refl, ap, sym, ◌∙◌, subst, arith}, specs.{Prelude.{nat_eq, bytes_eq, not}, HashMap.{get}}}
use Rattle.hc_text.proofs.Basics.{and_both as both_true, eqb-other, eqb-same, false_true, not_true as not_on, same_or, and_off as then_false}
use Rattle.hc_store.specs.declared.backend.Backend.{Ghosts}
use Rattle.hc_stored.specs.Entries.{shelf_of}
use Rattle.hc_entry.specs.{declared.keys.KeyTable.{KeyTable}, Keys.{kept_of, line_of}, Kept.{on_line, line_in}, Lines.{is_in, held_by, turn_of, turn_with}}
use Rattle.hc_text.specs.Sorted.{is_among}
use Rattle.hc_entry.specs.Keys as keys
use Rattle.hc_entry.specs.Kept as keyed
use Rattle.hc_effects.proofs.Vocabulary.{Act, Need, Request, Limits, route_of, is_disabled, is_only, Place, current, with_event, with_consumer, with_opening, just_opened, let_some_go, Lawful, MayLetGo, is_in_line, holds_place, Opens, acts_of, move_of, Tables, Exchange, need, event, route, place}
use Rattle.hc_exch.specs.{declared.{role.Role.TheVariants.{the_data as role}, exchanges.Exchanges.{Exchanges}}, Exchanges.{table_of, next_of}, Known.{with_new_exchange, Changes}}
use Rattle.hc_model.specs.Rows as rows
use Rattle.hc_effects.proofs.{LettingGo.{may_let_go}, TurnEffects.{fetches, bypasses}}
use Rattle.hc_state.specs.{declared.rows.Rows.{Rows}, Changes.{Numbered, ChangesAt}, Facts.{Facts}, Kept.{IsKept, KeepsConsumer}, Lines.{KeepsKey, has_turn, is_passed, is_away}, Plans.{is_idle_at, in_line, tables_in_turn, IsNext, StandsInLine, BeginsTurn}, Stands.{Answered, RowsStand}}
use Rattle.hc_txn.specs.{declared.transaction.Transaction.{Transaction as Consumer}, Transactions.{lined_up, with_turn}}
use Rattle.hc_state.proofs.{Answering.{does_answered}, ConsumerSteps.{keys_with}, Counting.{stands_counted}, KeySteps.{says_elsewhere, lined, holds_key}, Maps.{becomes_then}, Ties.{key_same, kept_row}, TurnTies.{turn_next}}
use Rattle.hc_on_leave.proofs.MayGo.{may_opened, may_with}
use Rattle.hc_on_poll.specs.Keeps.{HasBegun}
use Rattle.hc_on_poll.proofs.OpenHandler as waiting
use Rattle.hc_on_poll.proofs.{OpenKeys.{key_opened}, OpenStands.{stands_opened}, PastHandler.{idle_reads, idle_lives, queues_as}, PlanHandlers.{or_first}}

-- WHO IS NEXT

-- who reads nothing holds no turn
idle_turn : (key : List ℕ) (v : rows.Consumer) → is_idle_at v.place ≡ true → has_turn key (Some v) ≡ false
idle_turn key v idle = then_false (is_in_line key (Some v)) (holds_place v.place) (by_place v.place idle)
  where
    by_place : (p : Place) → is_idle_at p ≡ true → holds_place p ≡ false
    by_place (place.Turn x) on = false_true on
    by_place _ on = refl

module _ {B : Type 0} {g : Ghosts B} {limits : Limits} (r mid : Rows B g) (t : Tables) (c : ℕ) (k : Consumer) (v : rows.Consumer)
    (stands : RowsStand limits r t) (row : t.consumer c ≡ Some v) (kept : IsKept t k v) (idle : is_idle_at k.place ≡ true)
    (lined_up_too : RowsStand limits mid (with_consumer c (Some (in_line v)) t)) (next : IsNext r.keys c k) where
  abbrev its : List ℕ
  its = v.request.key

  abbrev m : Tables
  m = with_consumer c (Some (in_line v)) t

  same_key : k.request.key ≡ its
  same_key = ap (λ (z : Request). z.key) kept.request

  asks : (is_disabled v.request ≡ false) × (is_only v.request ≡ false)
  asks = let both = both_true (not (is_disabled v.request)) (not (is_only v.request)) (sym (queues_as t k v kept) ∙ next.0) in
      (not_on (is_disabled v.request) both.0, not_on (is_only v.request) both.1)

  v_idle : is_idle_at v.place ≡ true
  v_idle = sym (ap is_idle_at kept.place) ∙ idle

  here : m.consumer c ≡ Some (in_line v)
  here = rw (eqb-same c) refl

  pub line_here : is_in_line its (m.consumer c) ≡ true
  line_here = ap (is_in_line its) here ∙ lined (in_line v) refl asks.0 asks.1

  abbrev a : keyed.Kept
  a = kept_of r.keys its

  abbrev b : keyed.Kept
  b = kept_of mid.keys its

  -- nobody holds the turn, and it is next in line
  pub turn_free : (b.holder ≡ None) × (turn_of (line_in b) ≡ Some c)
  turn_free =
      turn_next c a b
      (λ d ne. (lined_up_too.keys its).in_line d ∙ (ap (is_in_line its) (others d ne) ∙ sym ((stands.keys its).in_line d)))
      (λ d. (lined_up_too.keys its).holder d ∙ (holds d ∙ sym ((stands.keys its).holder d)))
      ((stands.keys its).holder c ∙ (ap (has_turn its) row ∙ idle_turn its v v_idle))
      ((lined_up_too.keys its).in_line c ∙ line_here)
      (ap (λ (key : List ℕ). turn_with c (line_in (kept_of r.keys key))) (sym same_key) ∙ next.1)
    where
      others : (d : ℕ) → d ≢ c → m.consumer d ≡ t.consumer d
      others d ne = rw (eqb-other c d (λ e. ne (sym e))) refl

      holds : (d : ℕ) → has_turn its (m.consumer d) ≡ has_turn its (t.consumer d)
      holds d = elim (same_or c d) [
        | inl e ↦ rw (← e, here, row) (idle_turn its (in_line v) refl ∙ sym (idle_turn its v v_idle))
        | inr ne ↦ ap (has_turn its) (others d (λ e. ne (sym e)))
      ]

  pub stands_in : is_in c (line_in b) ≡ true
  stands_in = or_first (is_among c b.in_line) (is_among c b.passed) (is_among c b.away) ((lined_up_too.keys its).in_line c ∙ line_here)

  -- WHAT IS KEPT BY KEY

  module _ (x : ℕ) where
    abbrev w : rows.Consumer
    w = record v { own = Some x; place = place.Turn x }

    w_line : is_in_line its (Some w) ≡ true
    w_line = lined w refl asks.0 asks.1

    keys_mid : (after : KeyTable) → keys.Becomes (on_line (held_by c)) its mid.keys after → (key : List ℕ) →
        KeepsKey (with_consumer c (Some w) m) key (kept_of after key)
    keys_mid after becomes =
        keys_with m c (Some w) (on_line (held_by c)) its mid.keys after lined_up_too.keys becomes
        (holds_key m c (Some w) its b (lined_up_too.keys its) turn_free.0 line_here
        (ap (is_passed its) here ∙ then_false (bytes_eq its its) false refl) (ap (is_away m its) here ∙ then_false (bytes_eq its its) false refl)
        w_line (then_false (bytes_eq its its) false refl) (then_false (bytes_eq its its) false refl) (rw w_line refl))
        (λ other off. says_elsewhere m c (in_line v) w other here refl off)

    -- it holds the turn
    pub keys_turned : (after : KeyTable) → keys.Becomes (on_line (held_by c)) its mid.keys after → (key : List ℕ) →
        KeepsKey (with_consumer c (Some w) t) key (kept_of after key)
    unfolding current
    keys_turned after becomes key =
        key_same (with_consumer c (Some w) m) (with_consumer c (Some w) t) key (kept_of after key)
        (record {
          current = refl;
          in_line = λ d. ap (is_in_line key) (same d);
          passed = λ d. ap (is_passed key) (same d);
          away =
              λ d. ap (is_away t key) (same d);
          turn = λ d. ap (has_turn key) (same d);
        })
        (keys_mid after becomes key)
      where
        same : (d : ℕ) → (with_consumer c (Some w) t).consumer d ≡ (with_consumer c (Some w) m).consumer d
        same d = elim (same_or c d) [
          | inl e ↦ rw (← e, eqb-same c) refl
          | inr ne ↦ rw (eqb-other c d ne) refl
        ]

-- it may hold the turn
module _ {B : Type 0} {g : Ghosts B} {limits : Limits} (r mid : Rows B g) (t : Tables) (law : Lawful t) (c : ℕ) (request : Request) (k : Consumer)
    (stands : RowsStand limits r t) (there : get nat_eq r.consumers c ≡ Some k) (idle : is_idle_at k.place ≡ true) (next : IsNext r.keys c k)
    (key_is : request.key ≡ k.request.key) (lines_up : StandsInLine r mid c) where
  found : (v : rows.Consumer) × (t.consumer c ≡ Some v) × IsKept t k v
  found = kept_row t k (t.consumer c) (subst (λ o. KeepsConsumer t o (t.consumer c)) there (stands.consumers c))

  abbrev v : rows.Consumer
  v = found.0

  its_key : v.request.key ≡ request.key
  its_key = sym (key_is ∙ ap (λ (z : Request). z.key) found.2.request)

  queued : RowsStand limits mid (with_consumer c (Some (in_line v)) t)
  queued = lines_up _ t v law stands found.1

  pub holds_inside : is_in c (line_of mid.keys request.key) ≡ true
  holds_inside = subst (λ (key : List ℕ). is_in c (line_of mid.keys key) ≡ true) its_key (stands_in r mid t c k v stands found.1 found.2 idle queued next)

  pub holds_turn : turn_of (line_of mid.keys request.key) ≡ Some c
  holds_turn = subst (λ (key : List ℕ). turn_of (line_of mid.keys key) ≡ Some c) its_key (turn_free r mid t c k v stands found.1 found.2 idle queued next).1

-- ALL OF IT

module _ {B : Type 0} {g : Ghosts B} {limits : Limits} (r mid : Rows B g) (e : Exchanges) (b : KeyTable) (m : Numbered Consumer) (t : Tables)
    (law : Lawful t) (now c x : ℕ) (n : Need) (request : Request) (aim : Option ℕ) (k : Consumer) (v : rows.Consumer) (stands : RowsStand limits r t)
    (there : get nat_eq r.consumers c ≡ Some k) (row : t.consumer c ≡ Some v) (idle : is_idle_at k.place ≡ true)
    (next : IsNext r.keys c k) (turns : route_of n ≡ route.Turn) (key_is : request.key ≡ k.request.key) (x_is : x ≡ next_of r.exchanges)
    (aim_is : aim ≡ (kept_of r.keys request.key).current)
    (lines_up : StandsInLine r mid c) (first : ChangesAt r.consumers mid.consumers c lined_up) (last : mid.last_start ≡ r.last_start)
    (same_entries : mid.entries ≡ r.entries) (same_exchanges : mid.exchanges ≡ r.exchanges)
    (next_is : next_of e ≡ next_of mid.exchanges + 1)
    (launches : Changes (with_new_exchange c (role.Turn aim) n request now) (next_of mid.exchanges) (table_of mid.exchanges) (table_of e))
    (held : keys.Becomes (on_line (held_by c)) request.key mid.keys b) (second : ChangesAt mid.consumers m c (with_turn x)) where
  abbrev u : Rows B g
  u = record mid { exchanges = e; keys = b; consumers = m }

  kept_it : IsKept t k v
  kept_it = subst (KeepsConsumer t (Some k)) row (subst (λ o. KeepsConsumer t o (t.consumer c)) there (stands.consumers c))

  idle_it : is_idle_at v.place ≡ true
  idle_it = sym (ap is_idle_at kept_it.place) ∙ idle

  abbrev it : rows.Consumer
  it = record v { own = Some x; place = place.Turn x }

  is_next : x ≡ t.opened + 1
  is_next = let same = stands.next in x_is ∙ same

  asked_key : request.key ≡ v.request.key
  asked_key = key_is ∙ ap (λ (z : Request). z.key) kept_it.request

  aimed : aim ≡ current t v.request.key
  aimed = aim_is ∙ (ap (λ (key : List ℕ). (kept_of r.keys key).current) asked_key ∙ (stands.keys v.request.key).current)

  launched_then : Changes (with_new_exchange c (role.Turn aim) n request now) x (table_of r.exchanges) (table_of e)
  launched_then =
      subst (λ (y : ℕ). Changes (with_new_exchange c (role.Turn aim) n request now) y (table_of r.exchanges) (table_of e)) (sym x_is)
      (subst (λ (a : Exchanges). Changes (with_new_exchange c (role.Turn aim) n request now) (next_of a) (table_of a) (table_of e)) same_exchanges launches)

  pub stands_turned : RowsStand limits u (tables_in_turn now c x n request v t)
  stands_turned =
      stands_opened r u t law now c x n request request (current t v.request.key) (role.Turn aim) k v (place.Turn x) stands there row
      (idle_reads v.place idle_it) (idle_lives v.place idle_it) waiting.turned is_next
      last same_entries (next_is ∙ ap (λ (a : Exchanges). next_of a + 1) same_exchanges) launched_then
      (becomes_then r.consumers mid.consumers m c k lined_up (with_turn x) there first second) refl (rw turns (ap role.Turn aimed))
      (λ key. key_opened t law c x it (just_opened now c n request (current t v.request.key))
      (law.sound.numbered.lists.new_exchanges x (let above = is_next in omega (arith, above))) waiting.turned key (kept_of b key)
      (keys_turned r mid t c k v stands row kept_it idle (lines_up _ t v law stands row) next x b
      (subst (λ (key : List ℕ). keys.Becomes (on_line (held_by c)) key mid.keys b) asked_key held) key))

-- THE ANSWERS

module _ {B : Type 0} {g : Ghosts B} (limits : Limits) (faults : ℕ) (u : Rows B g) (t : Tables) (law : Lawful t) (now c want x : ℕ) (v : rows.Consumer)
    (row : t.consumer c ≡ Some v) (request : Request) (before out : List Act) where
  pub fetch_answered : (n : Need) → route_of n ≡ route.Turn → n ≢ need.Bypass → move_of t now want c v ≡ Opens x n request → out ≡ before ++
      acts_of c (Opens x n request) → RowsStand limits u (tables_in_turn now c x n request v t) → Answered limits faults u t before out now (event.Poll c want)
  fetch_answered n turns other is reported stands =
      does_answered limits faults u t (with_event now (event.Poll c want) (tables_in_turn now c x n request v t)) before out
      (acts_of c (Opens x n request)) now (event.Poll c want)
      (fetches limits t law now c want v row x n request is turns other) refl refl reported
      (stands_counted u (tables_in_turn now c x n request v t) now (event.Poll c want) refl stands)

  -- then what is current may go
  pub may_go : (n : Need) → MayLetGo (tables_in_turn now c x n request v t)
  may_go n =
      let z : Exchange = just_opened now c n request (current t v.request.key) in
      may_with (with_opening x z t) c v (record v { own = Some x; place = place.Turn x }) row refl (may_opened t x z (may_let_go t law))

  pub bypass_answered : move_of t now want c v ≡ Opens x need.Bypass request → out ≡ before ++ acts_of c (Opens x need.Bypass request) →
      RowsStand limits u (let_some_go now (current t v.request.key) (tables_in_turn now c x need.Bypass request v t)) →
      Answered limits faults u t before out now (event.Poll c want)
  bypass_answered is reported stands =
      let s : Tables = let_some_go now (current t v.request.key) (tables_in_turn now c x need.Bypass request v t) in
      does_answered limits faults u t (with_event now (event.Poll c want) s) before out (acts_of c (Opens x need.Bypass request)) now (event.Poll c want)
      (bypasses limits t law now c want v row x request is) refl refl reported (stands_counted u s now (event.Poll c want) refl stands)

-- what is asked in its turn is answered
pub asked_answered : {B : Type 0} {g : Ghosts B} {limits : Limits} (r u : Rows B g) (t : Tables) (facts : Facts limits t) (now c want x : ℕ)
    (v : rows.Consumer) → RowsStand limits r t → t.consumer c ≡ Some v → (n : Need) → route_of n ≡ route.Turn → n ≢ need.Bypass →
    (request asked : Request) → request ≡ asked
    → move_of t now want c v ≡ Opens (next_of r.exchanges) n asked → HasBegun r u now c n request x → (before out : List Act) → out ≡ before ++
    acts_of c (Opens x n request) → Answered limits (shelf_of r.entries).faults u t before out now (event.Poll c want)
asked_answered {limits = limits} r u t facts now c want x v stands row n turns uses request asked same moves begun before out reported =
    let is : move_of t now want c v ≡ Opens x n request = moves ∙
    (ap (λ (y : ℕ). Opens y n asked) (sym begun.number) ∙ ap (λ (z : Request). Opens x n z) (sym same)) in
    fetch_answered limits (shelf_of r.entries).faults u t facts.law now c want x v row request before out n turns uses is reported
    (begun.rows _ t v facts stands row)

-- a consumer bypasses what is stored with its own request, and what was current is let go
pub bypassed : {B : Type 0} {g : Ghosts B} {limits : Limits} (r mid u : Rows B g) (t : Tables) (facts : Facts limits t) (now c want x : ℕ) (k : Consumer)
    (v : rows.Consumer) → RowsStand limits r t → get nat_eq r.consumers c ≡ Some k → t.consumer c ≡ Some v → (copied : Request) → copied ≡ k.request →
    (now_is : Option ℕ) → now_is ≡ (kept_of r.keys copied.key).current
    → move_of t now want c v ≡ Opens (next_of r.exchanges) need.Bypass k.request → x ≡ next_of r.exchanges → BeginsTurn r mid now c need.Bypass copied x →
    ((limits : Limits) (s : Tables) → MayLetGo s → RowsStand limits mid s → RowsStand limits u (let_some_go now now_is s))
    → (before out : List Act) → out ≡ before ++ acts_of c (Opens x need.Bypass copied) →
    Answered limits (shelf_of r.entries).faults u t before out now (event.Poll c want)
bypassed {limits = limits} r mid u t facts now c want x k v stands there row copied copies now_is at moves x_is begun goes before out reported =
    let kept : IsKept t k v = subst (KeepsConsumer t (Some k)) row (subst (λ o. KeepsConsumer t o (t.consumer c)) there (stands.consumers c)) in
    let key_is : copied.key ≡ v.request.key = ap (λ (z : Request). z.key) copies ∙ ap (λ (z : Request). z.key) kept.request in
    let same : now_is ≡ current t v.request.key = at ∙ (ap (λ (key : List ℕ). (kept_of r.keys key).current) key_is ∙ (stands.keys v.request.key).current) in
    let is : move_of t now want c v ≡ Opens x need.Bypass copied = moves ∙
    (ap (λ (y : ℕ). Opens y need.Bypass k.request) (sym x_is) ∙ ap (λ (z : Request). Opens x need.Bypass z) (sym copies)) in
    bypass_answered limits (shelf_of r.entries).faults u t facts.law now c want x v row copied before out is reported
    (subst (λ (o : Option ℕ). RowsStand limits u (let_some_go now o (tables_in_turn now c x need.Bypass copied v t))) same
    (goes _ (tables_in_turn now c x need.Bypass copied v t) (may_go limits 0 u t facts.law now c want x v row copied before out need.Bypass)
    (begun _ t v facts stands row)))
