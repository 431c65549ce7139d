-- Polls of who goes past the store: what is looked at is what the tables have, and what is done is what they owe.
--
-- Its exchange is its own and has no other reader, and what is held of it is what the consumer wasn't given yet. Before
-- it was shown a head it waits for one or is shown it (`waits_answered`, `shows_answered`). Then its step is read back
-- to the move of the tables. It can't be to read the store (`no_stored`), nor to fill a hole: where no more comes, its
-- answer is at the end (`no_hole`). `await_answer` and `read_past` use these.
use Rattle.std.{proofs.{Common.{◌≡◌, ◌≢◌, inl, inr, ℕ, ◌+◌, ◌-◌, ◌≤◌, ◌<◌, ◌^◌, List, [], ◌∷◌, ◌++◌, length, drop, take, Bool, true, false, min, Option, Some, None, refl, ap, ap₂, sym, ◌∙◌, subst, arith}, lemmas.{Bool.Decides.{nat_tests}, Grind.{common_steps}, List.{length-drop, length-take}}}, specs.{Prelude.{is_some, is_none, nat_lt, nat_eq, option_and_then, if◌then◌else◌, ◌&&◌}, HashMap.{get}}}
use Rattle.hc_text.proofs.Basics.{eqb-other, eqb-same, false_true, same_or, some_inj as some_is}
use Rattle.hc_effects.proofs.Vocabulary.{Limits, Act, Cause, Event, Response, ReadStep, ReadView, read_step, is_at_end, cut_at, held_or, fails_or, waits_or, with_consumer, with_ask, with_event, base, front, Lawful, Move, Gives, Ends, Fails, Asks, Shows, acts_of, gives, waits_for, ReadsPast, planned_move, move_of, shows_head, shows_answer, shows_direct, if_headless, waits_for_head, by_place, or_else, own_open, source, offset, hi_of, lo_of, base_in, end_in, reads, Numbers, Tables, Exchange, Representation, reading, step_move, run_held_for, run_of, act, wait, event, place}
use Rattle.hc_store.specs.declared.backend.Backend.{Ghosts}
use Rattle.hc_event.specs.declared.act.Why.TheVariants as why
use Rattle.hc_range.specs.declared.range.Span.{Span}
use Rattle.hc_sparse.specs.declared.run.Run.{Run}
use Rattle.hc_rules.specs.{declared.reading.ReadStep.TheVariants.{the_data as step}, Readings.{hole_ahead}}
use Rattle.hc_stored.specs.Entries.{shelf_of}
use Rattle.hc_stored.specs.Shelf as shelf
use Rattle.hc_exch.specs.Exchanges as exch
use Rattle.hc_exch.specs.{Exchanges.{table_of, next_of}, Known.{Known}, declared.row.Open.{Open}}
use Rattle.hc_exch.specs.Known as known
use Rattle.hc_model.specs.Moves as moves
use Rattle.hc_model.specs.Rows as rows
use Rattle.hc_model.specs.Steps as steps
use Rattle.hc_effects.proofs.{AskEffects.{asks}, GiveEffects.{gives_bytes}, ShowEffects.{shows_reader}, WaitEffects.{waits_on}, Tests.{none_some}}
use Rattle.hc_state.specs.{declared.rows.Rows.{Rows}, Handlers.{IsShown, IsUnshown, past_view, source_in, most, asks_or_waits, asked_in, given_acts}, Changes.{BecomesAt, ChangesAt}, Facts.{Facts}, Kept.{IsKept, KeepsConsumer, KeepsExchange, KeepsRunning, answer_for, held_for, unread, unstored_bytes}, Stands.{RowsStand, Answered}}
use Rattle.hc_txn.specs.{declared.transaction.Transaction.{Transaction as Consumer}, Transactions.{once_answered, once_given}}
use Rattle.hc_state.proofs.{Answering.{does_answered}, Counting.{stands_counted}, QueueHandler.{becomes_by}, ReaderSteps.{held_same, exchange_reading, stands_reading}, Ties.{kept_row, runs_same}}
use Rattle.hc_on_poll.proofs.{Asking.{stands_asked, stands_asked_already}, ReadLemmas.{first_is, second_is, third_is, run_some, run_is, some_more}}

-- WHO READS PAST THE STORE

pub record IsReading (t : Tables) (c x : ℕ) (k : Consumer) : Type 0 where
  pub v : rows.Consumer
  pub row : t.consumer c ≡ Some v
  pub kept : IsKept t k v
  pub at : v.place ≡ place.Direct x
  pub reads : ReadsPast t c x v

pub reading_of : {B : Type 0} {g : Ghosts B} {limits : Limits} (r : Rows B g) (t : Tables) (law : Lawful t) (c x : ℕ) (k : Consumer) →
    RowsStand limits r t → get nat_eq r.consumers c ≡ Some k → k.place ≡ place.Direct x → IsReading t c x k
reading_of r t law c x k stands there at =
    let (v, row, kept) = kept_row t k (t.consumer c) (subst (λ o. KeepsConsumer t o (t.consumer c)) there (stands.consumers c)) in
    let here = sym kept.place ∙ at in
    record { v = v; row = row; kept = kept; at = here; reads = law.places.direct c x v row here }

-- MOVES

module _ (t : Tables) (now want c x : ℕ) (v : rows.Consumer) (w : Exchange) (at : v.place ≡ place.Direct x) (own : v.own ≡ Some x)
    (row : t.exchange x ≡ Some w) where
  own_is : w.is_open ≡ true → own_open t v ≡ Some x
  own_is opened = rw (own, row, opened) refl

  pub waits_move : v.shown ≡ false → w.head ≡ None → w.is_open ≡ true → move_of t now want c v ≡ moves.Waits (wait.Head x)
  waits_move unshown none opened =
      let shows : shows_head t v ≡ None = rw (unshown, at, row, none) refl in
      let headless : if_headless t x ≡ Some x = rw (row, opened, none) refl in
      let mine = own_is opened in
      let waits : waits_for_head (option_and_then (if_headless t) (own_open t v)) ≡ Some (moves.Waits (wait.Head x)) = rw (mine, headless) refl in
      second_is (shows_head t v) (waits_for_head (option_and_then (if_headless t) (own_open t v))) (by_place t now want c v v.place)
      (moves.Waits (wait.Head x)) shows waits

  pub shows_move : (head : Response) (lo : ℕ) (hi : Option ℕ) → v.shown ≡ false → w.head ≡ Some head → lo ≡ base w → hi ≡ end_in (Some w) →
      move_of t now want c v ≡ Shows x (why.Fetched x) head lo hi
  shows_move head lo hi unshown some from to =
      let here : shows_head t v ≡ shows_direct t x (t.exchange x) = rw (unshown, at) refl in
      let is : shows_head t v ≡ Some (Shows x (why.Fetched x) head (base w) (end_in (t.exchange x))) = here ∙
      (ap (shows_direct t x) row ∙ ap (shows_answer t x w) some) in
      first_is (shows_head t v) (or_else (waits_for_head (option_and_then (if_headless t) (own_open t v))) (by_place t now want c v v.place)) _
      (is ∙ ap₂ (λ (n : ℕ) (o : Option ℕ). Some (Shows x (why.Fetched x) head n o)) (sym from) (ap end_in row ∙ sym to))

  by_shown : v.shown ≡ true → by_place t now want c v v.place ≡ reading t want c v
  by_shown shown = ap (by_place t now want c v) at ∙ by_test v.shown shown
    where
      by_test : (b : Bool) → b ≡ true → (if b then reading t want c v else planned_move t now c v) ≡ reading t want c v
      by_test true is = refl
      by_test false is = false_true is

  no_wait : is_some w.head ≡ true → waits_for_head (option_and_then (if_headless t) (own_open t v)) ≡ None
  no_wait headed = by_open w.is_open refl
    where
      headless_not : (h : Option Response) (on : Bool) → is_some h ≡ true → (on && is_none h) ≡ false
      headless_not None on some = false_true some
      headless_not (Some a) true some = refl
      headless_not (Some a) false some = refl

      by_open : (on : Bool) → w.is_open ≡ on → waits_for_head (option_and_then (if_headless t) (own_open t v)) ≡ None
      by_open false is = let none : own_open t v ≡ None = rw (own, row, is) refl in rw none refl
      by_open true is =
          let mine = own_is is in
          let off : if_headless t x ≡ None = let not_so : (w.is_open && is_none w.head) ≡ false = headless_not w.head w.is_open headed in
          rw (row, not_so) refl in
          rw (mine, off) refl

  -- who was shown its head reads on
  pub reads_move : v.shown ≡ true → is_some w.head ≡ true → move_of t now want c v ≡ reading t want c v
  reads_move shown headed =
      let shows : shows_head t v ≡ None = rw shown refl in
      third_is (shows_head t v) (waits_for_head (option_and_then (if_headless t) (own_open t v))) (by_place t now want c v v.place) shows (no_wait headed)
      ∙ by_shown shown

-- A HEAD THAT IS TO BE SHOWN

answer_shown : (t : Tables) (x : ℕ) (v : rows.Consumer) (z : Exchange) → v.shown ≡ false → v.place ≡ place.Direct x → t.exchange x ≡ Some z →
    answer_for t v ≡ z.head
answer_shown t x v z unshown at is = rw (unshown, at, is) refl

-- what is held of its exchange
held_is : (t : Tables) (x c : ℕ) (w : Exchange) (v : rows.Consumer) → t.consumer c ≡ Some v → w.c ≡ c → v.place ≡ place.Direct x → w.joined ≡ None →
    t.representation x ≡ None → held_for t x (Some w) ≡ drop v.given w.body
held_is t x c w v row for_it at unjoined unfounded = rw (unjoined, unfounded, for_it, row, at, eqb-same x) refl

module _ {B : Type 0} {g : Ghosts B} {limits : Limits} (r u : Rows B g) (t : Tables) (facts : Facts limits t) (now want c x : ℕ) (k : Consumer)
    (before out : List Act) (stands : RowsStand limits r t) (there : get nat_eq r.consumers c ≡ Some k) (at : IsUnshown x k)
    (last : u.last_start ≡ r.last_start) (same_keys : u.keys ≡ r.keys) (same_entries : u.entries ≡ r.entries) (exchanges : u.exchanges ≡ r.exchanges)
    (changes : ChangesAt r.consumers u.consumers c once_answered) where
  rd : IsReading t c x k
  rd = reading_of r t facts.law c x k stands there at.0

  -- its answer begins and ends there
  from : k.lo ≡ base rd.reads.w
  from = rd.kept.begins ∙ (ap (lo_of t) rd.at ∙ ap base_in rd.reads.row)

  to : k.hi ≡ end_in (Some rd.reads.w)
  to = rd.kept.ends ∙ (ap (hi_of t) rd.at ∙ ap end_in rd.reads.row)

  unshown : rd.v.shown ≡ false
  unshown = sym rd.kept.shown ∙ at.1

  -- what is to be shown is its head
  answer_is : k.answer ≡ rd.reads.w.head
  answer_is = rd.kept.answer ∙ answer_shown t x rd.v rd.reads.w unshown rd.at rd.reads.row

  pub waits_answered : k.answer ≡ None → out ≡ before ++ (act.Pending c (wait.Head x) ∷ []) →
      Answered limits (shelf_of r.entries).faults u t before out now (event.Poll c want)
  waits_answered none acts =
      let ev = event.Poll c want in
      let m : Move = moves.Waits (wait.Head x) in
      let same : once_answered k ≡ k = rw none refl in
      let becomes = becomes_by r.consumers u.consumers c k once_answered there changes in
      does_answered limits (shelf_of r.entries).faults u t (with_event now ev t) before out (acts_of c m) now ev
      (waits_on limits t facts.law now c want rd.v rd.row (wait.Head x)
      (let bare = sym answer_is ∙ none in
      waits_move t now want c x rd.v rd.reads.w rd.at rd.reads.own rd.reads.row unshown bare (rd.reads.unheard bare).is_open) refl) refl refl acts
      (stands_counted u t now ev refl (record {
        limits = rw same_entries stands.limits;
        last_start = last ∙ stands.last_start;
        next = rw exchanges stands.next;
        count = changes.len ∙ stands.count;
        consumers = λ d. rw (becomes.places d) (still d same);
        exchanges = rw exchanges stands.exchanges;
        keys = rw same_keys stands.keys;
        entries = rw same_entries stands.entries;
      }))
    where
      still : (d : ℕ) → once_answered k ≡ k → KeepsConsumer t (if nat_eq c d then Some (once_answered k) else get nat_eq r.consumers d) (t.consumer d)
      still d same = elim (same_or c d) [
        | inl e ↦
            subst (λ (n : ℕ). KeepsConsumer t (if nat_eq c n then Some (once_answered k) else get nat_eq r.consumers n) (t.consumer n)) e
            (rw (eqb-same c) (subst (λ (z : Consumer). KeepsConsumer t (Some z) (t.consumer c)) (sym same)
            (subst (λ o. KeepsConsumer t o (t.consumer c)) there (stands.consumers c))))
        | inr ne ↦ rw (eqb-other c d ne) (stands.consumers d)
      ]

  pub shows_answered : (head : Response) → k.answer ≡ Some head → out ≡ before ++ (act.Shown c x (why.Fetched x) head.status head.fields k.lo k.hi ∷ []) →
      Answered limits (shelf_of r.entries).faults u t before out now (event.Poll c want)
  shows_answered head some acts =
      let ev = event.Poll c want in
      let m : Move = Shows x (why.Fetched x) head k.lo k.hi in
      let v = rd.v in
      let s : Tables = with_consumer c (Some (record v { shown = true })) t in
      let q : Consumer = record k { shown = true; answer = None } in
      let change : once_answered k ≡ q = rw some refl in
      let kp = rd.kept in
      does_answered limits (shelf_of r.entries).faults u t (with_event now ev s) before out (acts_of c m) now ev
      (shows_reader limits t facts.law now c want v rd.row x (why.Fetched x) head k.lo k.hi
      (shows_move t now want c x v rd.reads.w rd.at rd.reads.own rd.reads.row head k.lo k.hi unshown (sym answer_is ∙ some) from to) (ap reads rd.at))
      refl refl acts
      (stands_counted u s now ev refl
      (stands_reading t c v true v.given rd.row r u stands kp.is_there last same_keys (ap (λ z. next_of z) exchanges)
      (subst (λ z. shelf.Stays (shelf_of r.entries) (shelf_of z)) (sym same_entries) (record { kept = λ n. refl; order = refl; used = refl; limits = refl }))
      q (subst (λ z. BecomesAt r.consumers u.consumers c (Some z)) change (becomes_by r.consumers u.consumers c k once_answered there changes))
      (assumption kp)
      (λ y. subst (λ z. KeepsExchange s y (table_of z y)) (sym exchanges)
      (exchange_reading t c v true v.given rd.row y (table_of r.exchanges y) (held_shown y (t.exchange y)) (stands.exchanges y)))))
    where
      held_shown : (y : ℕ) (o : Option Exchange) → held_for (with_consumer c (Some (record rd.v { shown = true })) t) y o ≡ held_for t y o
      held_shown y None = refl
      held_shown y (Some z) = held_same t c rd.v true rd.v.given rd.row y z (λ mine. refl) (λ p here alone. refl)

-- THE STEP, BY ITS PARTS

-- of what nothing is stored
abbrev by_parts : Bool → Bool → Option Cause → Option ℕ → Span → ReadStep
by_parts at_end is_held due from hole = if at_end then step.Ended else held_or is_held (fails_or due (waits_or from (step.Hole hole)))

step_parts : (known : Known) (x o : ℕ) (k : Consumer) →
    read_step (past_view known x o k) ≡ by_parts (is_at_end k.hi o) (nat_lt 0 (length known.held)) k.due (source_in known x)
    (hole_ahead (past_view known x o k))
unfolding read_step
step_parts known x o k = refl

waits_from : (a h : Bool) (d : Option Cause) (s : Option ℕ) (hole : Span) (y : ℕ) → by_parts a h d s hole ≡ step.Waits y → s ≡ Some y
waits_from false false None (Some z) hole y is = let both : step.Waits z ≡ step.Waits y = is in let same : z ≡ y = cc in ap Some same
waits_from _ _ _ _ hole y is = cc

held_from : (a h : Bool) (d : Option Cause) (s : Option ℕ) (hole : Span) → by_parts a h d s hole ≡ step.Held → (a ≡ false) × (h ≡ true)
held_from false true d s hole is = (refl, refl)
held_from false false None (Some z) hole is = cc
held_from _ _ _ _ hole is = cc

stored_from : (a h : Bool) (d : Option Cause) (s : Option ℕ) (hole : Span) (n : ℕ) → by_parts a h d s hole ≡ step.Stored n → ⊥
stored_from false false None (Some z) hole n is = cc
stored_from _ _ _ _ hole n is = cc

-- a hole is left where nothing else is
record IsHole (a h : Bool) (d : Option Cause) (s : Option ℕ) : Type 0 where
  not_end : a ≡ false
  not_held : h ≡ false
  undue : d ≡ None
  closed : s ≡ None

hole_from : (a h : Bool) (d : Option Cause) (s : Option ℕ) (hole other : Span) → by_parts a h d s hole ≡ step.Hole other → IsHole a h d s
hole_from false false None None hole other is = record { not_end = refl; not_held = refl; undue = refl; closed = refl }
hole_from _ _ _ _ hole other is = cc

-- THE VIEW

abbrev the_view : ℕ → Option ℕ → Bool → Option Cause → Option ℕ → ReadView
the_view o hi h d s = record { offset = o; hi = hi; stored = None; held = h; due = d; source = s; next_stored = None }

-- nothing is stored of an answer past the store
view_at : (t : Tables) (want c x : ℕ) (v : rows.Consumer) → v.place ≡ place.Direct x →
    steps.read_view t want c v ≡ the_view (offset t v) (hi_of t v.place) (is_some (run_held_for t c v want)) v.due (source t v)
view_at t want c x v at = rw at refl

view_is : (o p : ℕ) (hi z : Option ℕ) (h g : Bool) (d e : Option Cause) (s q : Option ℕ) → o ≡ p → hi ≡ z → h ≡ g → d ≡ e → s ≡ q →
    the_view o hi h d s ≡ the_view p z g e q
view_is o p hi z h g d e s q a b c f i = rw (a, b, c, f, i) refl

held_place : (t : Tables) (c x n : ℕ) (v : rows.Consumer) (w : Exchange) → v.place ≡ place.Direct x → t.exchange x ≡ Some w →
    run_held_for t c v n ≡ run_of x (offset t v) (take n (drop (offset t v - base w) w.body))
held_place t c x n v w at row = rw (at, row) refl

sources_are : (t : Tables) (x : ℕ) (on : Option Open) (w : Exchange) (v : rows.Consumer) → KeepsRunning t x on (Some w) → v.own ≡ Some x →
    v.place ≡ place.Direct x → t.exchange x ≡ Some w → source t v ≡ (if is_some on then Some x else None)
sources_are t x None w v keeps own at row = rw (own, at, row, keeps) refl
sources_are t x (Some o) w v keeps own at row = let opened = keeps.is_open in rw (own, at, row, opened) refl

-- WHAT IS READ

module _ {B : Type 0} {g : Ghosts B} {limits : Limits} (r : Rows B g) (t : Tables) (facts : Facts limits t) (want c x : ℕ) (k : Consumer)
    (stands : RowsStand limits r t) (rd : IsReading t c x k) (shown : k.shown ≡ true) (wants : 0 < want) where
  abbrev v : rows.Consumer
  v = rd.v

  abbrev w : Exchange
  w = rd.reads.w

  abbrev known_here : Known
  known_here = table_of r.exchanges x

  abbrev at_offset : ℕ
  at_offset = k.lo + k.given

  shown_v : v.shown ≡ true
  shown_v = sym rd.kept.shown ∙ shown

  has_head : is_some w.head ≡ true
  has_head = by_head w.head refl
    where
      by_head : (h : Option Response) → w.head ≡ h → is_some h ≡ true
      by_head None none = false_true (sym (rd.reads.unheard none).unshown ∙ shown_v)
      by_head (Some a) is = refl

  begins_at : lo_of t v.place ≡ base w
  begins_at = ap (lo_of t) rd.at ∙ ap base_in rd.reads.row

  lo_is : k.lo ≡ base w
  lo_is = rd.kept.begins ∙ begins_at

  offset_is : at_offset ≡ offset t v
  offset_is = ap₂ (λ (a b : ℕ). a + b) rd.kept.begins rd.kept.given

  pub held_before : known_here.held ≡ drop v.given w.body
  held_before = ((stands.exchanges x).held ∙ ap (held_for t x) rd.reads.row) ∙
      held_is t x c w v rd.row rd.reads.for_it rd.at rd.reads.unjoined rd.reads.unfounded

  running : KeepsRunning t x known_here.running (Some w)
  running = subst (KeepsRunning t x known_here.running) rd.reads.row (stands.exchanges x).running

  -- what is held of an exchange from the offset on
  held_run : (n : ℕ) → run_held_for t c v n ≡ run_of x (offset t v) (take n (drop v.given w.body))
  held_run n =
      let skips : offset t v - base w ≡ v.given = omega (arith, begins_at) in
      held_place t c x n v w rd.at rd.reads.row ∙ ap (λ (m : ℕ). run_of x (offset t v) (take n (drop m w.body))) skips

  views_are : steps.read_view t want c v ≡ past_view known_here x at_offset k
  views_are =
      view_at t want c x v rd.at ∙ view_is _ _ _ _ _ _ _ _ _ _ (sym offset_is) (sym rd.kept.ends)
      (ap is_some (held_run want) ∙ (run_some x (offset t v) want (drop v.given w.body) wants ∙ ap (λ (zs : List ℕ). nat_lt 0 (length zs)) (sym held_before)))
      (sym rd.kept.due) (sources_are t x known_here.running w v running rd.reads.own rd.at rd.reads.row)

  -- it is shown already, and waits for no head: what it does is what it reads
  reads_as : (now : ℕ) → move_of t now want c v ≡ step_move t want c v (read_step (past_view known_here x at_offset k))
  reads_as now = reads_move t now want c x v w rd.at rd.reads.own rd.reads.row shown_v has_head ∙
      ap (λ (z : ReadView). step_move t want c v (read_step z)) views_are

  abbrev hole_here : Span
  hole_here = hole_ahead (past_view known_here x at_offset k)

  parts : read_step (past_view known_here x at_offset k) ≡ by_parts (is_at_end k.hi at_offset) (nat_lt 0 (length known_here.held)) k.due
      (source_in known_here x) hole_here
  parts = step_parts known_here x at_offset k

  -- EACH STEP

  module _ (now : ℕ) where
    pub ends_move : read_step (past_view known_here x at_offset k) ≡ step.Ended → move_of t now want c v ≡ Ends
    ends_move is = reads_as now ∙ ap (step_move t want c v) is

    pub fails_move : (why : Cause) → read_step (past_view known_here x at_offset k) ≡ step.Failed why → move_of t now want c v ≡ Fails why
    fails_move why is = reads_as now ∙ ap (step_move t want c v) is

    source_some : (on : Option Open) (y : ℕ) → (if is_some on then Some x else None) ≡ Some y → (x ≡ y) × (is_some on ≡ true)
    source_some None y is = none_some y is
    source_some (Some o) y is = (some_is x y is, refl)

    asked_is : (on : Option Open) → is_some on ≡ true → KeepsRunning t x on (Some w) → asked_in on ≡ w.asked
    asked_is None some keeps = false_true some
    asked_is (Some o) some keeps = keeps.asked

    pub waits_open : (y : ℕ) → read_step (past_view known_here x at_offset k) ≡ step.Waits y → is_some known_here.running ≡ true
    waits_open y is = (source_some known_here.running y (waits_from _ _ k.due _ hole_here y (sym parts ∙ is))).1

    pub asks_move : (y : ℕ) → read_step (past_view known_here x at_offset k) ≡ step.Waits y →
        move_of t now want c v ≡ asks_or_waits (asked_in known_here.running) x
    asks_move y is =
        let open_x = source_some known_here.running y (waits_from _ _ k.due _ hole_here y (sym parts ∙ is)) in
        let asked = asked_is known_here.running open_x.1 running in
        (reads_as now ∙ ap (step_move t want c v) is)
        ∙ (ap (λ (n : ℕ). waits_for n (t.exchange n)) (sym open_x.0) ∙ (ap (waits_for x) rd.reads.row ∙ ap (λ (b : Bool). asks_or_waits b x) (sym asked)))

    most_is : steps.most t want v ≡ most k.hi at_offset want
    most_is = ap₂ (λ (hi : Option ℕ) (o : ℕ). cut_at hi (o + want) - o) (sym rd.kept.ends) (sym offset_is)

    some_given : (bytes : List ℕ) → read_step (past_view known_here x at_offset k) ≡ step.Held → bytes ≡ take (most k.hi at_offset want) known_here.held →
        0 < length bytes
    some_given bytes is bytes_are =
        let both = held_from _ _ k.due (source_in known_here x) hole_here (sym parts ∙ is) in
        let there : 0 < length known_here.held = grind (arith, nat_tests, both.1) in
        let more : 0 < most k.hi at_offset want = some_more want wants k.hi at_offset both.0 in
        let len : length bytes ≡ min (most k.hi at_offset want) (length known_here.held) = ap length bytes_are ∙
        length-take (most k.hi at_offset want) known_here.held in
        omega (arith, there, more, len)

    pub gives_move : (bytes : List ℕ) → read_step (past_view known_here x at_offset k) ≡ step.Held → bytes ≡ take (most k.hi at_offset want) known_here.held
        → move_of t now want c v ≡ Gives (record { x = x; at = at_offset; bytes = bytes })
    gives_move bytes is bytes_are =
        let run : run_held_for t c v (steps.most t want v) ≡ run_of x at_offset bytes =
        ap (run_held_for t c v) most_is
        ∙ (held_run (most k.hi at_offset want)
        ∙ ap₂ (λ (o : ℕ) (zs : List ℕ). run_of x o zs) (sym offset_is) (ap (take (most k.hi at_offset want)) (sym held_before) ∙ sym bytes_are)) in
        (reads_as now ∙ ap (step_move t want c v) is) ∙ (ap gives run ∙ ap gives (run_is x at_offset bytes (some_given bytes is bytes_are)))

  -- WHAT FITS

  module _ (numbers : Numbers t) (few : t.received < 2 ^ 62) where
    fits : front w ≤ 2 ^ 62
    fits =
        let most = numbers.fronts x w rd.reads.row in
        omega (arith, most, few)

    pub offset_small : k.lo + k.given < 2 ^ 62 + 1
    offset_small =
        let all = fits in
        let few = rd.reads.given in
        let same_given = rd.kept.given in
        omega (arith, all, few, same_given, lo_is)

    pub more_fits : (n : ℕ) (bytes : List ℕ) → bytes ≡ take n known_here.held → k.given + length bytes < 2 ^ 62 + 1
    more_fits n bytes bytes_are =
        let all = fits in
        let few = rd.reads.given in
        let same_given = rd.kept.given in
        let len : length bytes ≡ min n (length known_here.held) = ap length bytes_are ∙ length-take n known_here.held in
        let left : length known_here.held ≡ length w.body - v.given = ap length held_before ∙ length-drop v.given w.body in
        omega (arith, all, few, same_given, len, left)

  -- WHAT DOESN'T COME

  pub no_stored : (n : ℕ) → read_step (past_view known_here x at_offset k) ≡ step.Stored n → ⊥
  no_stored n is = stored_from _ _ k.due (source_in known_here x) hole_here n (sym parts ∙ is)

  closed_of : (on : Option Open) → (if is_some on then Some x else None) ≡ None → KeepsRunning t x on (Some w) → w.is_open ≡ false
  closed_of None none keeps = keeps
  closed_of (Some o) none keeps = none_some x (sym none)

  at_the_end : (hi : Option ℕ) (o n : ℕ) → hi ≡ Some n → o ≡ n → is_at_end hi o ≡ true
  at_the_end hi o n is same = rw (is, same) (grind (arith, nat_tests))

  pub no_hole : (hole : Span) → read_step (past_view known_here x at_offset k) ≡ step.Hole hole → ⊥
  no_hole hole is =
      let left = hole_from _ _ k.due (source_in known_here x) hole_here hole (sym parts ∙ is) in
      let over : w.is_open ≡ false = closed_of known_here.running left.closed running in
      let none : v.due ≡ None = sym rd.kept.due ∙ left.undue in
      let ends : k.hi ≡ Some (front w) = rd.kept.ends ∙ facts.law.endings.past c x v w rd.row rd.at rd.reads.row over none in
      let empty : length known_here.held ≡ 0 = let off = left.not_held in grind (arith, nat_tests, off) in
      let left_len : length known_here.held ≡ length w.body - v.given = ap length held_before ∙ length-drop v.given w.body in
      let few = rd.reads.given in
      let same_given = rd.kept.given in
      let all : at_offset ≡ front w = omega (arith, empty, left_len, few, same_given, lo_is) in
      false_true (sym left.not_end ∙ at_the_end k.hi at_offset (front w) ends all)

-- WHAT IS DONE

unread_else : (x y : ℕ) (z : Exchange) (v : rows.Consumer) (n : ℕ) → v.place ≡ place.Direct x → x ≢ y →
    unread y z (Some (record v { given = n })) ≡ unread y z (Some v)
unread_else x y z v n at ne = rw (at, eqb-other x y ne) refl

-- who reads past the store is bound to nothing
unstored_past : (t : Tables) (x y : ℕ) (z : Exchange) (p : Representation) (v : rows.Consumer) (n : ℕ) → v.place ≡ place.Direct x →
    unstored_bytes t y z p (Some (record v { given = n })) ≡ unstored_bytes t y z p (Some v)
unstored_past t x y z p v n at = rw at refl

pub itself : (t : Tables) (c : ℕ) (row : Option rows.Consumer) → (with_consumer c row t).consumer c ≡ row
itself t c row = rw (eqb-same c) refl

module _ {B : Type 0} {g : Ghosts B} {limits : Limits} (r u : Rows B g) (t : Tables) (facts : Facts limits t) (now want c x : ℕ) (k : Consumer)
    (before out : List Act) (stands : RowsStand limits r t) (there : get nat_eq r.consumers c ≡ Some k) (at : IsShown x k) (wants : 0 < want)
    (last : u.last_start ≡ r.last_start) (same_keys : u.keys ≡ r.keys) (same_entries : u.entries ≡ r.entries) where
  abbrev ev : Event
  ev = event.Poll c want

  shown_rd : IsReading t c x k
  shown_rd = reading_of r t facts.law c x k stands there at.0

  unread_store : shelf.Stays (shelf_of r.entries) (shelf_of u.entries)
  unread_store = subst (λ z. shelf.Stays (shelf_of r.entries) (shelf_of z)) (sym same_entries)
      (record { kept = λ n. refl; order = refl; used = refl; limits = refl })

  -- it is given what is held

  given_drop : (n m : ℕ) (body bytes : List ℕ) → bytes ≡ take n (drop m body) → drop n (drop m body) ≡ drop (m + length bytes) body
  given_drop n m body bytes is = taken n m body ∙ ap (λ (xs : List ℕ). drop (m + length xs) body) (sym is)
    where
      taken : (n m : ℕ) (xs : List ℕ) → drop n (drop m xs) ≡ drop (m + length (take n (drop m xs))) xs
      taken n m xs = grind (arith, common_steps)

  pub given_answered : (n : ℕ) (bytes : List ℕ) → read_step (past_view (table_of r.exchanges x) x (k.lo + k.given) k) ≡ step.Held →
      n ≡ most k.hi (k.lo + k.given) want → bytes ≡ take n (table_of r.exchanges x).held → out ≡ before ++ given_acts c x (k.lo + k.given) bytes
      → exch.Becomes (known.without_first n) x r.exchanges u.exchanges → ChangesAt r.consumers u.consumers c (once_given (length bytes)) →
      Answered limits (shelf_of r.entries).faults u t before out now ev
  given_answered n bytes is n_is bytes_are acts becomes changes =
      let run : Run = record { x = x; at = k.lo + k.given; bytes = bytes } in
      let most_are = bytes_are ∙ ap (λ (z : ℕ). take z (table_of r.exchanges x).held) n_is in
      let v = shown_rd.v in
      let kp = shown_rd.kept in
      let more : ℕ = v.given + length bytes in
      let s : Tables = with_consumer c (Some (record v { given = more })) t in
      does_answered limits (shelf_of r.entries).faults u t (with_event now ev s) before out (acts_of c (Gives run)) now ev
      (gives_bytes limits t facts.law now c want v shown_rd.row run (gives_move r t facts want c x k stands shown_rd at.1 wants now bytes is most_are))
      refl refl acts
      (stands_counted u s now ev refl
      (stands_reading t c v v.shown more shown_rd.row r u stands kp.is_there last same_keys becomes.next unread_store
      (once_given (length bytes) k) (becomes_by r.consumers u.consumers c k (once_given (length bytes)) there changes)
      (assumption (kp, ap (λ (z : ℕ). z + length bytes) kp.given))
      each_exchange))
    where
      here : table_of u.exchanges x ≡ known.without_first n (table_of r.exchanges x)
      here = becomes.table x ∙ rw (eqb-same x) refl

      left : (table_of u.exchanges x).held ≡ drop (shown_rd.v.given + length bytes) shown_rd.reads.w.body
      left =
          let was = held_before r t facts want c x k stands shown_rd at.1 wants in
          ap (λ (z : Known). z.held) here ∙ (ap (drop n) was ∙ given_drop n shown_rd.v.given shown_rd.reads.w.body bytes (bytes_are ∙ ap (take n) was))

      held_here : held_for (with_consumer c (Some (record shown_rd.v { given = shown_rd.v.given + length bytes })) t) x (t.exchange x) ≡ drop
          (shown_rd.v.given + length bytes) shown_rd.reads.w.body
      held_here =
          let reads = shown_rd.reads in
          let s : Tables = with_consumer c (Some (record shown_rd.v { given = shown_rd.v.given + length bytes })) t in
          ap (held_for s x) reads.row ∙
          held_is s x c reads.w (record shown_rd.v { given = shown_rd.v.given + length bytes })
          (itself t c (Some (record shown_rd.v { given = shown_rd.v.given + length bytes }))) reads.for_it shown_rd.at reads.unjoined reads.unfounded

      elsewhere : (y : ℕ) (o : Option Exchange) → x ≢ y →
          held_for (with_consumer c (Some (record shown_rd.v { given = shown_rd.v.given + length bytes })) t) y o ≡ held_for t y o
      elsewhere y None ne = refl
      elsewhere y (Some z) ne =
          held_same t c shown_rd.v shown_rd.v.shown (shown_rd.v.given + length bytes) shown_rd.row y z
          (λ mine. unread_else x y z shown_rd.v (shown_rd.v.given + length bytes) shown_rd.at ne)
          (λ p founded alone. unstored_past t x y z p shown_rd.v (shown_rd.v.given + length bytes) shown_rd.at)

      each_exchange : (y : ℕ) →
          KeepsExchange (with_consumer c (Some (record shown_rd.v { given = shown_rd.v.given + length bytes })) t) y (table_of u.exchanges y)
      each_exchange y = elim (same_or x y) [
        | inl e ↦ subst (λ (m : ℕ). KeepsExchange (with_consumer c (Some (record shown_rd.v { given = shown_rd.v.given + length bytes })) t) m
            (table_of u.exchanges m)) e (record {
              running = runs_same t (with_consumer c (Some (record shown_rd.v { given = shown_rd.v.given + length bytes })) t) x
                  (table_of u.exchanges x).running (t.exchange x) (λ z is. refl)
                  (subst (λ o. KeepsRunning t x o (t.exchange x)) (sym (ap (λ (z : Known). z.running) here)) (stands.exchanges x).running);
              held = left ∙ sym held_here;
            })
        | inr ne ↦
            subst (KeepsExchange (with_consumer c (Some (record shown_rd.v { given = shown_rd.v.given + length bytes })) t) y)
            (sym (becomes.table y ∙ rw (eqb-other x y ne) refl))
            (exchange_reading t c shown_rd.v shown_rd.v.shown (shown_rd.v.given + length bytes) shown_rd.row y (table_of r.exchanges y)
            (elsewhere y (t.exchange y) ne) (stands.exchanges y))
      ]

  -- it asks for more, or waits for that

  module _ (consumers : u.consumers ≡ r.consumers) (becomes : exch.Becomes known.with_asking x r.exchanges u.exchanges) where
    waits_by : (b : Bool) → asked_in (table_of r.exchanges x).running ≡ b → move_of t now want c shown_rd.v ≡ asks_or_waits b x → out ≡ before ++
        acts_of c (asks_or_waits b x) → Answered limits (shelf_of r.entries).faults u t before out now ev
    waits_by false is move acts =
        does_answered limits (shelf_of r.entries).faults u t (with_event now ev (with_ask x t)) before out (acts_of c (Asks x)) now ev
        (asks limits t facts.law now c want shown_rd.v shown_rd.row x move) refl refl acts
        (stands_counted u (with_ask x t) now ev refl (stands_asked r u t x stands last consumers same_keys becomes unread_store))
    waits_by true is move acts =
        does_answered limits (shelf_of r.entries).faults u t (with_event now ev t) before out (acts_of c (moves.Waits (wait.Body x))) now ev
        (waits_on limits t facts.law now c want shown_rd.v shown_rd.row (wait.Body x) move refl) refl refl acts
        (stands_counted u t now ev refl (stands_asked_already r u t x stands is last consumers same_keys becomes unread_store))

    pub asks_answered : (y : ℕ) → read_step (past_view (table_of r.exchanges x) x (k.lo + k.given) k) ≡ step.Waits y → out ≡ before ++
        acts_of c (asks_or_waits (asked_in (table_of r.exchanges x).running) x) → Answered limits (shelf_of r.entries).faults u t before out now ev
    asks_answered y is acts =
        waits_by (asked_in (table_of r.exchanges x).running) refl (asks_move r t facts want c x k stands shown_rd at.1 wants now y is) acts
