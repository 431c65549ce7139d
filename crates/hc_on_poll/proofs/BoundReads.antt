-- Polls of who is bound and was shown its head: the step of what is looked at is the move of the tables.
--
-- `BoundViews` says that both look at the same, but for how far they read ahead, which makes no other step
-- (`SeesAhead`). Each step is then read back to what was seen, and gives its move. A hole has the work. Its reader
-- writes alone or goes on alone, so it ends somewhere, and its entry tells a length that the hole is within
-- (`hole_move`). The last module bounds the numbers. `ReadOn` uses these for `read_on`.
use Rattle.std.{proofs.{Common.{◌≡◌, ◌⊎◌, inl, inr, ℕ, ◌+◌, ◌-◌, ◌<◌, ◌≤◌, ◌^◌, min, Bool, true, false, Option, Some, None, refl, ap, ap₂, sym, ◌∙◌, subst, arith}, lemmas.{Bool.Decides.{nat_tests}, List.{length-drop, length-take}}}, specs.{Prelude.{List, length, take, unwrap_or, is_some, is_none, nat_eq, nat_lt, option_and_then, option_map, ◌==◌, ◌&&◌, if◌then◌else◌}, Option.{option_or}}}
use Rattle.hc_text.proofs.Basics.{eqb-same, false_true, none_of, same_or, same_some as same_row, some_inj as some_is}
use Rattle.hc_effects.proofs.Vocabulary.{Limits, Cause, Request, ReadStep, ReadView, read_step, is_at_end, cut_at, stored_or, held_or, fails_or, waits_or, hole_end, BoundBy, Place, is_number, total_in, base, is_headless, is_open, stretch_to, Move, Opens, Gives, Ends, Fails, gives, waits_for, opens_hole, hole_request, planned_move, move_of, shows_head, shows_at, if_headless, waits_for_head, by_place, or_else, own_open, shared_exchange, source, offset, hi_of, lo_of, if_open, is_written, group_in, Numbers, Tables, Exchange, Representation, IsBound, IsFirst, IsExclusiveWriter, IsServed, came_alone, reading, step_move, later_hole, run_held_for, stored_ahead, next_stored, run_of, need, wait, place}
use Rattle.hc_store.specs.declared.backend.Backend.{Ghosts}
use Rattle.hc_range.specs.{Spans.{IsWithin}, declared.range.Span.{Span}}
use Rattle.hc_record.specs.Head.{Head}
use Rattle.hc_sparse.specs.{Cells.{Cells, Cell, Covers, IsNext}, Runs.{end_of}, Stretch.{stretch}, declared.run.Run.{Run}}
use Rattle.hc_sparse.proofs.StretchLemmas.{stretch-absent}
use Rattle.hc_rules.specs.declared.reading.ReadStep.TheVariants as step
use Rattle.hc_stored.specs.{Entries.{shelf_of}, Shelf.{cells_at, head_at}}
use Rattle.hc_stored.specs.Kept as entry
use Rattle.hc_exch.specs.{Exchanges.{table_of, next_of}, Known.{Table}, declared.row.Open.{Open}}
use Rattle.hc_exch.specs.Known as known
use Rattle.hc_model.specs.Moves as moves
use Rattle.hc_model.specs.Rows as rows
use Rattle.hc_model.specs.Sound as sound
use Rattle.hc_effects.proofs.{ExclusiveWriters.{writer_some}, Tests.{none_some}}
use Rattle.hc_model.specs.Steps as steps
use Rattle.hc_state.specs.{declared.rows.Rows.{Rows}, Handlers.{most, asks_or_waits, asked_in}, Facts.{Facts}, Kept.{KeepsRunning}, Leaving.{if_running, writer_group_of}, Reads.{goes_alone, held_own, bound_view, headless_own, is_headless_open, WaitsForNoHead, IsRunAhead, ReadViewIs}, Stands.{RowsStand}, Stored.{IsEntry, KnowsLength, reported, unreported}}
use Rattle.hc_txn.specs.declared.transaction.Transaction.{Transaction as Consumer}
use Rattle.hc_on_poll.proofs.{Ahead.{IsAhead, ahead, none_ahead}, BoundViews.{Holds, next_as, offset_is, entry_there, entry_is, cells_are, ends_by, bound_at, ahead_is, next_ahead, source_is, held_is, held_same, holds_something, lost_run}, ReadLemmas.{third_is, some_more}, ShowStored.{IsBoundRow, headless_as}}
use Rattle.hc_on_poll.proofs.ReadLemmas as lemmas

-- THE STEP, BY ITS PARTS

abbrev by_parts : Bool → Option ℕ → Option ℕ → Bool → Option Cause → Option ℕ → Span → ReadStep
by_parts at_end hi stored is_held due from hole = if at_end then step.Ended else
    stored_or hi stored (held_or is_held (fails_or due (waits_or from (step.Hole hole))))

abbrev by_view : ℕ → Option ℕ → Option ℕ → Bool → Option Cause → Option ℕ → Option ℕ → ReadStep
by_view o hi stored is_held due from next = by_parts (is_at_end hi o) hi stored is_held due from (record { lo = o; hi = hole_end hi o next })

step_parts : (v : ReadView) → read_step v ≡ by_view v.offset v.hi v.stored v.held v.due v.source v.next_stored
unfolding read_step
step_parts v = refl

view_same : (o p : ℕ) (hi z s : Option ℕ) (h : Bool) (d e : Option Cause) (f l next n : Option ℕ) → o ≡ p → hi ≡ z → d ≡ e → f ≡ l → next ≡ n →
    by_view o hi s h d f next ≡ by_view p z s h e l n
view_same o p hi z s h d e f l next n a b m i j = rw (a, b, m, i, j) refl

-- what two look at makes the same step
data SeesAhead (hi : Option ℕ) : Bool → Option ℕ → Option ℕ → Bool → Bool → Type 0 where
  ended : (s z : Option ℕ) (h g : Bool) → SeesAhead hi true s z h g
  stored : (a : Bool) (m n : ℕ) (h g : Bool) → cut_at hi m ≡ cut_at hi n → SeesAhead hi a (Some m) (Some n) h g
  missing : (a h g : Bool) → h ≡ g → SeesAhead hi a None None h g

same_step : (hi : Option ℕ) (a : Bool) (s z : Option ℕ) (h g : Bool) (d : Option Cause) (f : Option ℕ) (hole : Span) → SeesAhead hi a s z h g →
    by_parts a hi s h d f hole ≡ by_parts a hi z g d f hole
same_step hi _ _ _ _ _ d f hole (ended s z h g) = refl
same_step hi _ _ _ _ _ d f hole (stored a m n h g same) = ap (λ (i : ℕ). if a then step.Ended else step.Stored i) same
same_step hi _ _ _ _ _ d f hole (missing a h g same) = ap (λ (b : Bool). if a then step.Ended else held_or b (fails_or d (waits_or f (step.Hole hole)))) same

sees_missing : (hi : Option ℕ) (s z : Option Run) (h g : Bool) → s ≡ None → z ≡ None → h ≡ g →
    SeesAhead hi false (option_map end_of s) (option_map end_of z) h g
sees_missing hi s z h g a b same = rw (a, b) (missing false h g same)

sees_stored : (hi : Option ℕ) (s z : Option Run) (m n : Run) (h g : Bool) → s ≡ Some m → z ≡ Some n → cut_at hi (end_of m) ≡ cut_at hi (end_of n) →
    SeesAhead hi false (option_map end_of s) (option_map end_of z) h g
sees_stored hi s z m n h g a b same = rw (a, b) (stored false (end_of m) (end_of n) h g same)

-- WHICH STEP IT IS

-- neither of the first two, before the end where nothing is stored
not_ended : (hi : Option ℕ) (h : Bool) (d : Option Cause) (f : Option ℕ) (hole : Span) → by_parts false hi None h d f hole ≡ step.Ended → ⊥
not_ended hi true d f hole is = let never : step.Held ≡ step.Ended = is in cc
not_ended hi false (Some why) f hole is = let never : step.Failed why ≡ step.Ended = is in cc
not_ended hi false None (Some x) hole is = let never : step.Waits x ≡ step.Ended = is in cc
not_ended hi false None None hole is = let never : step.Hole hole ≡ step.Ended = is in cc

not_stored : (hi : Option ℕ) (h : Bool) (d : Option Cause) (f : Option ℕ) (hole : Span) (n : ℕ) → by_parts false hi None h d f hole ≡ step.Stored n → ⊥
not_stored hi true d f hole n is = let never : step.Held ≡ step.Stored n = is in cc
not_stored hi false (Some why) f hole n is = let never : step.Failed why ≡ step.Stored n = is in cc
not_stored hi false None (Some x) hole n is = let never : step.Waits x ≡ step.Stored n = is in cc
not_stored hi false None None hole n is = let never : step.Hole hole ≡ step.Stored n = is in cc

held_from : (a : Bool) (hi s : Option ℕ) (h : Bool) (d : Option Cause) (f : Option ℕ) (hole : Span) → by_parts a hi s h d f hole ≡ step.Held →
    (a ≡ false) × (s ≡ None) × (h ≡ true)
held_from true hi s h d f hole is = absurd (let never : step.Ended ≡ step.Held = is in cc)
held_from false hi (Some m) h d f hole is = absurd (let never : step.Stored (cut_at hi m) ≡ step.Held = is in cc)
held_from false hi None true d f hole is = (refl, refl, refl)
held_from false hi None false (Some why) f hole is = absurd (let never : step.Failed why ≡ step.Held = is in cc)
held_from false hi None false None (Some x) hole is = absurd (let never : step.Waits x ≡ step.Held = is in cc)
held_from false hi None false None None hole is = absurd (let never : step.Hole hole ≡ step.Held = is in cc)

waits_from : (a : Bool) (hi s : Option ℕ) (h : Bool) (d : Option Cause) (f : Option ℕ) (hole : Span) (y : ℕ) → by_parts a hi s h d f hole ≡ step.Waits y →
    f ≡ Some y
waits_from true hi s h d f hole y is = absurd (let never : step.Ended ≡ step.Waits y = is in cc)
waits_from false hi (Some m) h d f hole y is = absurd (let never : step.Stored (cut_at hi m) ≡ step.Waits y = is in cc)
waits_from false hi None true d f hole y is = absurd (let never : step.Held ≡ step.Waits y = is in cc)
waits_from false hi None false (Some why) f hole y is = absurd (let never : step.Failed why ≡ step.Waits y = is in cc)
waits_from false hi None false None (Some x) hole y is = (let both : step.Waits x ≡ step.Waits y = is in let same : x ≡ y = cc in ap Some same)
waits_from false hi None false None None hole y is = absurd (let never : step.Hole hole ≡ step.Waits y = is in cc)

-- nothing else is left
record IsHole (a : Bool) (s : Option ℕ) (h : Bool) (d : Option Cause) (f : Option ℕ) (hole other : Span) : Type 0 where
  not_end : a ≡ false
  none_stored : s ≡ None
  not_held : h ≡ false
  undue : d ≡ None
  closed : f ≡ None
  same : hole ≡ other

hole_from : (a : Bool) (hi s : Option ℕ) (h : Bool) (d : Option Cause) (f : Option ℕ) (hole other : Span) → by_parts a hi s h d f hole ≡ step.Hole other →
    IsHole a s h d f hole other
hole_from true hi s h d f hole other is = absurd (let never : step.Ended ≡ step.Hole other = is in cc)
hole_from false hi (Some m) h d f hole other is = absurd (let never : step.Stored (cut_at hi m) ≡ step.Hole other = is in cc)
hole_from false hi None true d f hole other is = absurd (let never : step.Held ≡ step.Hole other = is in cc)
hole_from false hi None false (Some why) f hole other is = absurd (let never : step.Failed why ≡ step.Hole other = is in cc)
hole_from false hi None false None (Some x) hole other is = absurd (let never : step.Waits x ≡ step.Hole other = is in cc)
hole_from false hi None false None None hole other is =
    record { not_end = refl; none_stored = refl; not_held = refl; undue = refl; closed = refl; same = (let both : step.Hole hole ≡ step.Hole other = is in cc) }

end_none : (run : Option Run) → option_map end_of run ≡ None → run ≡ None
end_none None is = refl
end_none (Some z) is = none_some (end_of z) (sym is)

-- WHO WAITS FOR A HEAD

-- no head that is awaited is still to come
waits_none : (t : Tables) (table : Table) (v : rows.Consumer) → ((x : ℕ) → is_headless_open (table x).running ≡ is_headless (t.exchange x)) →
    headless_own table v.own ≡ None → waits_for_head (option_and_then (if_headless t) (own_open t v)) ≡ None
waits_none t table v same none = by_own v.own refl none
  where
    by_open : (x : ℕ) (b d : Bool) → is_open (t.exchange x) ≡ b → is_headless (t.exchange x) ≡ d → d ≡ false →
        waits_for_head (option_and_then (if_headless t) (if b then Some x else None)) ≡ None
    by_open x false d open_is head_is off = refl
    by_open x true d open_is head_is off = ap (λ (z : Bool). waits_for_head (if z then Some x else None)) (head_is ∙ off)

    off_of : (x : ℕ) (b : Bool) → (if b then Some x else None) ≡ None → b ≡ false
    off_of x false is = refl
    off_of x true is = none_some x (sym is)

    by_own : (o : Option ℕ) → v.own ≡ o → headless_own table o ≡ None → waits_for_head (option_and_then (if_headless t) (own_open t v)) ≡ None
    by_own None own is = ap (λ (z : Option ℕ). waits_for_head (option_and_then (if_headless t) (option_and_then (if_open t) z))) own
    by_own (Some x) own is =
        ap (λ (z : Option ℕ). waits_for_head (option_and_then (if_headless t) (option_and_then (if_open t) z))) own
        ∙ by_open x (is_open (t.exchange x)) (is_headless (t.exchange x)) refl refl (sym (same x) ∙ off_of x (is_headless_open (table x).running) is)

-- or is
waits_some : (t : Tables) (table : Table) (v : rows.Consumer) (x : ℕ) → ((y : ℕ) → is_headless_open (table y).running ≡ is_headless (t.exchange y)) →
    headless_own table v.own ≡ Some x → waits_for_head (option_and_then (if_headless t) (own_open t v)) ≡ Some (moves.Waits (wait.Head x))
waits_some t table v x same some = by_own v.own refl some
  where
    open_of : (o : Option Exchange) → is_headless o ≡ true → is_open o ≡ true
    open_of None on = false_true on
    open_of (Some w) on = both w.is_open (is_none w.head) on
      where
        both : (a b : Bool) → (a && b) ≡ true → a ≡ true
        both true b h = refl
        both false b h = false_true h

    on_of : (y : ℕ) (b : Bool) → (if b then Some y else None) ≡ Some x → (b ≡ true) × (y ≡ x)
    on_of y false is = none_some x is
    on_of y true is = (refl, some_is y x is)

    by_own : (o : Option ℕ) → v.own ≡ o → headless_own table o ≡ Some x →
        waits_for_head (option_and_then (if_headless t) (own_open t v)) ≡ Some (moves.Waits (wait.Head x))
    by_own None own is = none_some x is
    by_own (Some y) own is =
        let on = on_of y (is_headless_open (table y).running) is in
        let bare : is_headless (t.exchange y) ≡ true = sym (same y) ∙ on.0 in
        let opened : own_open t v ≡ Some y = ap (option_and_then (if_open t)) own ∙
        ap (λ (b : Bool). if b then Some y else None) (open_of (t.exchange y) bare) in
        ap (λ (z : Option ℕ). waits_for_head (option_and_then (if_headless t) z)) opened
        ∙ (ap (λ (b : Bool). waits_for_head (if b then Some y else None)) bare ∙ ap (λ (n : ℕ). Some (moves.Waits (wait.Head n))) on.1)

-- WHO READS ON

module _ {B : Type 0} {g : Ghosts B} {limits : Limits} (r : Rows B g) (t : Tables) (facts : Facts limits t) (stands : RowsStand limits r t) (c q : ℕ)
    (how : BoundBy) (k : Consumer) (rd : IsBoundRow t c q how k) (now want : ℕ) (shown : k.shown ≡ true) where
  abbrev o : ℕ
  o = k.lo + k.given

  abbrev table : Table
  table = table_of r.exchanges

  shows_none : shows_head t rd.v ≡ None
  shows_none = by_shown rd.v.shown (sym rd.kept.shown ∙ shown)
    where
      by_shown : (b : Bool) → b ≡ true → (if b then None else shows_at t rd.v rd.v.place) ≡ None
      by_shown true is = refl
      by_shown false is = false_true is

  heads_as : (x : ℕ) → is_headless_open (table x).running ≡ is_headless (t.exchange x)
  heads_as x = headless_as t x (table x).running (t.exchange x) (stands.exchanges x).running

  -- it waits for the head of its own
  pub head_move : (x : ℕ) → headless_own table k.own ≡ Some x → move_of t now want c rd.v ≡ moves.Waits (wait.Head x)
  head_move x is =
      let waits = waits_some t table rd.v x heads_as (ap (headless_own table) (sym rd.kept.own) ∙ is) in
      ap (λ (m : Option Move). or_else
      m (or_else (waits_for_head (option_and_then (if_headless t) (own_open t rd.v))) (by_place t now want c rd.v rd.v.place))) shows_none
      ∙ ap (λ (m : Option Move). or_else m (by_place t now want c rd.v rd.v.place)) waits

  module _ (heard : WaitsForNoHead table k) where
    by_reading : by_place t now want c rd.v rd.v.place ≡ reading t want c rd.v
    by_reading = ap (by_place t now want c rd.v) rd.at ∙ by_shown rd.v.shown (sym rd.kept.shown ∙ shown)
      where
        by_shown : (b : Bool) → b ≡ true → (if b then reading t want c rd.v else planned_move t now c rd.v) ≡ reading t want c rd.v
        by_shown true is = refl
        by_shown false is = false_true is

    reads_on : move_of t now want c rd.v ≡ reading t want c rd.v
    reads_on = third_is (shows_head t rd.v) (waits_for_head (option_and_then (if_headless t) (own_open t rd.v))) (by_place t now want c rd.v rd.v.place)
        shows_none (waits_none t table rd.v heads_as (ap (headless_own table) (sym rd.kept.own) ∙ heard)) ∙ by_reading

    -- WHAT IT LOOKS AT

    module _ (wants : 0 < want) (run : Option Run) (run_is : IsRunAhead (shelf_of r.entries) q want run k) where
      abbrev count : ℕ
      count = most k.hi o want

      abbrev f : Cells
      f = rd.p.stored

      abbrev from : Option ℕ
      from = option_or (if_running table k.own) (writer_group_of table ((shelf_of r.entries).kept q))

      abbrev is_held : Bool
      is_held = goes_alone c ((shelf_of r.entries).kept q) && nat_lt 0 (held_own table k.own)

      abbrev hole_reported : Span
      hole_reported = record { lo = o; hi = hole_end k.hi o (next_stored t rd.v) }

      model_step : read_step (steps.read_view t want c rd.v) ≡ by_parts (is_at_end k.hi o) k.hi (option_map end_of (stored_ahead t rd.v want))
          (is_some (run_held_for t c rd.v want)) k.due from hole_reported
      model_step = step_parts (steps.read_view t want c rd.v) ∙
          view_same _ _ _ _ (option_map end_of (stored_ahead t rd.v want)) (is_some (run_held_for t c rd.v want)) _ _ _ _ _ _
          (sym (offset_is r t facts stands c q how k rd)) (sym rd.kept.ends) (sym rd.kept.due) (source_is r t facts stands c q how k rd) refl

      -- what was read of the store, where it isn't at the end
      read_run : is_at_end k.hi o ≡ false → run ≡ stretch f o count
      read_run off = run_is ∙ (by_count (count == 0) refl ∙ ap (λ (z : Cells). stretch z o count) (cells_are r t facts stands c q how k rd))
        where
          by_count : (b : Bool) → nat_eq count 0 ≡ b →
              (if b then None else stretch (cells_at (shelf_of r.entries) q) o count) ≡ stretch (cells_at (shelf_of r.entries) q) o count
          by_count false is = refl
          by_count true is = absurd (let more : 0 < count = some_more want wants k.hi o off in let none : count ≡ 0 = grind (arith, nat_tests, is) in
              omega (arith, more, none))

      sees : SeesAhead k.hi (is_at_end k.hi o) (option_map end_of (stored_ahead t rd.v want)) (option_map end_of run)
          (is_some (run_held_for t c rd.v want)) is_held
      sees = by_end (is_at_end k.hi o) refl
        where
          by_cell : is_at_end k.hi o ≡ false → (z : Option Cell) → f o ≡ z →
              SeesAhead k.hi false (option_map end_of (stored_ahead t rd.v want)) (option_map end_of run) (is_some (run_held_for t c rd.v want)) is_held
          by_cell off None none =
              let both = none_ahead f rd.p.reach o want k.hi (ends_by r t facts stands c q how k rd) wants off none in
              let seen : stored_ahead t rd.v want ≡ None = ahead_is r t facts stands c q how k rd want ∙ both.1 in
              let was_read : run ≡ None = read_run off ∙ both.0 in
              sees_missing k.hi (stored_ahead t rd.v want) run (is_some (run_held_for t c rd.v want)) is_held seen was_read
              (held_same r t facts stands c q how k rd none want wants)
          by_cell off (Some cell) some =
              let on : is_some (f o) ≡ true = ap (λ (z : Option Cell). is_some z) some in
              by_run run refl on
            where
              by_run : (z : Option Run) → run ≡ z → is_some (f o) ≡ true →
                  SeesAhead k.hi false (option_map end_of (stored_ahead t rd.v want)) (option_map end_of run) (is_some (run_held_for t c rd.v want)) is_held
              by_run None none on = absurd
                  (let absent : f o ≡ None = (stretch-absent f o count).0 (sym (read_run off) ∙ none) in
                  false_true (sym (ap (λ (z : Option Cell). is_some z) absent) ∙ on))
              by_run (Some z) is on =
                  let a = ahead f rd.p.reach o want k.hi (ends_by r t facts stands c q how k rd) wants off on z (sym (read_run off) ∙ is) in
                  let seen : stored_ahead t rd.v want ≡ Some a.m = ahead_is r t facts stands c q how k rd want ∙ a.reported in
                  sees_stored k.hi (stored_ahead t rd.v want) run a.m z (is_some (run_held_for t c rd.v want)) is_held seen is (a.upto ∙ sym a.cut)

          by_end : (b : Bool) → is_at_end k.hi o ≡ b →
              SeesAhead k.hi b (option_map end_of (stored_ahead t rd.v want)) (option_map end_of run) (is_some (run_held_for t c rd.v want)) is_held
          by_end true is = ended (option_map end_of (stored_ahead t rd.v want)) (option_map end_of run) (is_some (run_held_for t c rd.v want)) is_held
          by_end false is = by_cell is (f o) refl

      -- what it does is the step of its parts
      reads_parts : move_of t now want c rd.v ≡ step_move t want c rd.v
          (by_parts (is_at_end k.hi o) k.hi (option_map end_of run) is_held k.due from hole_reported)
      reads_parts =
          reads_on ∙ ap (step_move t want c rd.v)
          (model_step ∙ same_step k.hi (is_at_end k.hi o) (option_map end_of (stored_ahead t rd.v want)) (option_map end_of run)
          (is_some (run_held_for t c rd.v want)) is_held k.due from hole_reported sees)

      -- EACH STEP

      pub ends_move : is_at_end k.hi o ≡ true → move_of t now want c rd.v ≡ Ends
      ends_move on = reads_parts ∙ ap (λ (b : Bool). step_move t want c rd.v (by_parts b k.hi (option_map end_of run) is_held k.due from hole_reported)) on

      -- what is stored ahead of it is read
      pub record Reads (z : Run) : Type 0 where
        pub read_is : run ≡ Some z
        pub ahead_of : IsAhead f rd.p.reach o want k.hi z
        pub move_is : move_of t now want c rd.v ≡ Gives z

      there_of : (z : Run) → stretch f o count ≡ Some z → is_some (f o) ≡ true
      there_of z is = by_cell (f o) refl
        where
          by_cell : (y : Option Cell) → f o ≡ y → is_some (f o) ≡ true
          by_cell None none = none_some z (sym ((stretch-absent f o count).1 none) ∙ is)
          by_cell (Some cell) some = ap (λ (y : Option Cell). is_some y) some

      pub stored_move : is_at_end k.hi o ≡ false → (z : Run) → run ≡ Some z → Reads z
      stored_move off z is =
          let stretched : stretch f o count ≡ Some z = sym (read_run off) ∙ is in
          let a = ahead f rd.p.reach o want k.hi (ends_by r t facts stands c q how k rd) wants off (there_of z stretched) z stretched in
          let upto : by_parts (is_at_end k.hi o) k.hi (option_map end_of run) is_held k.due from hole_reported ≡ step.Stored (cut_at k.hi (end_of z)) =
          ap (λ (b : Bool). by_parts b k.hi (option_map end_of run) is_held k.due from hole_reported) off ∙
          ap (λ (y : Option Run). by_parts false k.hi (option_map end_of y) is_held k.due from hole_reported) is in
          let less : cut_at k.hi (end_of z) - offset t rd.v ≡ end_of z - o = ap₂ (λ (m i : ℕ). m - i) a.cut (sym (offset_is r t facts stands c q how k rd)) in
          let given : stored_ahead t rd.v (cut_at k.hi (end_of z) - offset t rd.v) ≡ Some z = ap (stored_ahead t rd.v) less ∙
          (ahead_is r t facts stands c q how k rd (end_of z - o) ∙ a.given) in
          record { read_is = is; ahead_of = a; move_is = (reads_parts ∙ ap (step_move t want c rd.v) upto) ∙ ap gives given }

      module _ (view : ReadView) (view_is : ReadViewIs r q c (option_map end_of run) view k) where
        abbrev next : Option ℕ
        next = view_is.next

        abbrev hole : Span
        hole = record { lo = o; hi = hole_end k.hi o next }

        next_same : next ≡ next_stored t rd.v
        next_same = next_as f (cells_at (shelf_of r.entries) q) rd.p.reach o next (ends_by r t facts stands c q how k rd)
            (λ n. ap (λ (z : Cells). z n) (cells_are r t facts stands c q how k rd)) view_is.next_is ∙ sym (next_ahead r t facts stands c q how k rd)

        code_step : read_step view ≡ by_parts (is_at_end k.hi o) k.hi (option_map end_of run) is_held k.due from hole
        code_step = ap read_step view_is.is ∙ step_parts (bound_view table ((shelf_of r.entries).kept q) c (option_map end_of run) next k)

        -- what it does is the step of what it looks at
        pub reads_as : move_of t now want c rd.v ≡ step_move t want c rd.v (read_step view)
        reads_as =
            reads_parts ∙ ap (step_move t want c rd.v)
            (ap (λ (z : Option ℕ). by_parts (is_at_end k.hi o) k.hi (option_map end_of run) is_held k.due from
            (record { lo = o; hi = hole_end k.hi o z })) (sym next_same) ∙ sym code_step)

        -- where nothing is stored it neither ends nor is given that
        module _ (off : is_at_end k.hi o ≡ false) (none : run ≡ None) where
          unstored : read_step view ≡ by_parts false k.hi None is_held k.due from hole
          unstored =
              code_step ∙ (ap (λ (b : Bool). by_parts b k.hi (option_map end_of run) is_held k.due from hole) off
              ∙ ap (λ (z : Option Run). by_parts false k.hi (option_map end_of z) is_held k.due from hole) none)

          pub never_ends : read_step view ≡ step.Ended → ⊥
          never_ends is = not_ended k.hi is_held k.due from hole (sym unstored ∙ is)

          pub never_stored : (n : ℕ) → read_step view ≡ step.Stored n → ⊥
          never_stored n is = not_stored k.hi is_held k.due from hole n (sym unstored ∙ is)

        pub fails_move : (why : Cause) → read_step view ≡ step.Failed why → move_of t now want c rd.v ≡ Fails why
        fails_move why is = reads_as ∙ ap (step_move t want c rd.v) is

        -- what is held for it is given
        most_is : steps.most t want rd.v ≡ count
        most_is = ap₂ (λ (hi : Option ℕ) (m : ℕ). cut_at hi (m + want) - m) (sym rd.kept.ends) (sym (offset_is r t facts stands c q how k rd))

        missing_at : is_at_end k.hi o ≡ false → run ≡ None → f o ≡ None
        missing_at off none = (stretch-absent f o count).0 (sym (read_run off) ∙ none)

        pub record GivesHeld (h : Holds r t c q k rd.v rd.p) : Type 0 where
          pub some : 0 < count
          pub there : 0 < length (take count (table h.x).held)
          pub move_is : move_of t now want c rd.v ≡ Gives (record { x = h.x; at = o; bytes = take count (table h.x).held })

        pub held_move : read_step view ≡ step.Held → (h : Holds r t c q k rd.v rd.p) × GivesHeld h
        held_move is =
            let all = held_from (is_at_end k.hi o) k.hi (option_map end_of run) is_held k.due from hole (sym code_step ∙ is) in
            let h = holds_something r t facts stands c q how k rd (missing_at all.0 (end_none run all.1)) want wants all.2 in
            let more : 0 < count = some_more want wants k.hi o all.0 in
            let long = some_held h in
            let there = some_taken count (table h.x).held more long in
            let given : run_held_for t c rd.v (steps.most t want rd.v) ≡ Some (record { x = h.x; at = o; bytes = take count (table h.x).held }) =
            ap (run_held_for t c rd.v) most_is ∙
            (h.runs count more ∙ (ap (λ (xs : List ℕ). run_of h.x o (take count xs)) (sym h.known) ∙ run_is_one h.x (take count (table h.x).held) there)) in
            (h, record { some = more; there = there; move_is = (reads_as ∙ ap (step_move t want c rd.v) is) ∙ ap gives given })
          where
            run_is_one : (x : ℕ) (bytes : List ℕ) → 0 < length bytes → run_of x o bytes ≡ Some (record { x = x; at = o; bytes = bytes })
            run_is_one x bytes some = lemmas.run_is x o bytes some

            some_taken : (n : ℕ) (xs : List ℕ) → 0 < n → 0 < length xs → 0 < length (take n xs)
            some_taken n xs a b = let len = length-take n xs in omega (arith, a, b, len)

            some_held : (h : Holds r t c q k rd.v rd.p) → 0 < length (table h.x).held
            some_held h =
                let len : length (table h.x).held ≡ length h.w.body - (o - base h.w) = ap length h.known ∙ length-drop (o - base h.w) h.w.body in
                let low = h.after_base in
                let high = h.before_front in
                omega (arith, len, low, high)

        -- it asks for more, or waits
        pub record WaitsFor (x : ℕ) : Type 0 where
          pub is_open : known.is_open x table ≡ true
          pub move_is : move_of t now want c rd.v ≡ asks_or_waits (asked_in (table x).running) x

        open_of : (own : Option ℕ) (x : ℕ) → if_running table own ≡ Some x → known.is_open x table ≡ true
        open_of None x is = none_some x is
        open_of (Some y) x is = by_test (known.is_open y table) refl is
          where
            by_test : (b : Bool) → known.is_open y table ≡ b → (if b then Some y else None) ≡ Some x → known.is_open x table ≡ true
            by_test true on same = ap (λ (n : ℕ). known.is_open n table) (sym (some_is y x same)) ∙ on
            by_test false off same = none_some x same

        group_open : (e : Option entry.Kept) (x : ℕ) → writer_group_of table e ≡ Some x → known.is_open x table ≡ true
        group_open None x is = none_some x is
        group_open (Some e) x is = by_lost e.is_lost is
          where
            by_lost : (b : Bool) → (if b then None else if_running table e.writer) ≡ Some x → known.is_open x table ≡ true
            by_lost true is = none_some x is
            by_lost false is = open_of e.writer x is

        source_open : (x : ℕ) → from ≡ Some x → known.is_open x table ≡ true
        source_open x is = by_own (if_running table k.own) refl is
          where
            by_own : (own : Option ℕ) → if_running table k.own ≡ own → option_or own (writer_group_of table ((shelf_of r.entries).kept q)) ≡ Some x →
                known.is_open x table ≡ true
            by_own None none is = group_open ((shelf_of r.entries).kept q) x is
            by_own (Some y) some is = open_of k.own x (some ∙ is)

        asked_same : (x : ℕ) (on : Option Open) (row : Option Exchange) → is_some on ≡ true → KeepsRunning t x on row →
            waits_for x row ≡ asks_or_waits (asked_in on) x
        asked_same x None row some keeps = false_true some
        asked_same x (Some a) None some keeps = absurd keeps
        asked_same x (Some a) (Some w) some keeps = ap (λ (b : Bool). asks_or_waits b x) (sym keeps.asked)

        pub waits_move : (x : ℕ) → read_step view ≡ step.Waits x → WaitsFor x
        waits_move x is =
            let on = source_open x (waits_from (is_at_end k.hi o) k.hi (option_map end_of run) is_held k.due from hole x (sym code_step ∙ is)) in
            record {
              is_open = on;
              move_is = (reads_as ∙ ap (step_move t want c rd.v) is) ∙
                  asked_same x (table x).running (t.exchange x) on (stands.exchanges x).running;
            }

        -- IT STANDS BEFORE A HOLE

        reader : IsBound t q c rd.v
        reader = sound.is_bound rd.lo rd.hi how rd.row rd.at

        pub record FillsHole (other : Span) : Type 0 where
          pub head : Head
          pub head_is : head_at (shelf_of r.entries) q ≡ Some head
          pub total : ℕ
          pub known : head.total ≡ Some total
          pub within : Numbers t → t.received < 2 ^ 62 → IsWithin other total
          pub move_is : move_of t now want c rd.v ≡ Opens (next_of r.exchanges) (need.Hole other.lo other.hi)
              (hole_request head k.request other (unwrap_or head.total 0))

        module _ (other : Span) (is : read_step view ≡ step.Hole other) where
          all : IsHole (is_at_end k.hi o) (option_map end_of run) is_held k.due from hole other
          all = hole_from (is_at_end k.hi o) k.hi (option_map end_of run) is_held k.due from hole other (sym code_step ∙ is)

          bare : f o ≡ None
          bare = missing_at all.not_end (end_none run all.none_stored)

          undue : rd.v.due ≡ None
          undue = sym rd.kept.due ∙ all.undue

          no_source : source t rd.v ≡ None
          no_source = source_is r t facts stands c q how k rd ∙ all.closed

          parts_none : (a b : Option ℕ) → option_or a b ≡ None → (a ≡ None) × (b ≡ None)
          parts_none None b none = (refl, none)
          parts_none (Some a) b none = none_some a (sym none)

          none_own : own_open t rd.v ≡ None
          none_own = (parts_none (own_open t rd.v) (shared_exchange t rd.v.place) no_source).0

          not_written : is_written t rd.p ≡ true → ⊥
          not_written on =
              let none : shared_exchange t rd.v.place ≡ None = (parts_none (own_open t rd.v) (shared_exchange t rd.v.place) no_source).1 in
              let writer : rd.p.writer ≡ None = sym (ap (λ (b : Bool). if b then rd.p.writer else None) on) ∙
              (sym (ap (group_in t) rd.there) ∙ (sym (ap (shared_exchange t) rd.at) ∙ none)) in
              writer_some t rd.p on writer

          not_covered : (n : ℕ) → hi_of t rd.v.place ≡ Some n → Covers f (offset t rd.v) n → ⊥
          not_covered n end covered =
              let lt = before_end n end in
              let same = offset_is r t facts stands c q how k rd in
              false_true (sym (ap (λ (z : Option Cell). is_some z) bare) ∙ covered o (omega (arith, same)) lt)
            where
              before_end : (n : ℕ) → hi_of t rd.v.place ≡ Some n → o < n
              before_end n end = not_at k.hi n all.not_end (rd.kept.ends ∙ end)
                where
                  not_at : (hi : Option ℕ) (n : ℕ) → is_at_end hi o ≡ false → hi ≡ Some n → o < n
                  not_at None n off at = none_some n at
                  not_at (Some m) n off at = let same : m ≡ n = some_is m n at in let lt : o < m = grind (arith, nat_tests) in omega (arith, same, lt)

          -- who writes alone, of what isn't lost, or goes on alone
          data IsAlong : Type 0 where
            first : rd.p.is_lost ≡ false → IsFirst t q c → IsAlong
            alone : rd.p.is_lost ≡ true → rd.p.alone ≡ Some c → IsAlong

          along : IsAlong
          along = by_served (facts.law.sound.writes.served q c rd.p rd.v rd.there reader undue)
            where
              by_exclusive_writer : IsExclusiveWriter t q rd.p c → IsAlong
              by_exclusive_writer (sound.first fresh is_first) = first fresh is_first
              by_exclusive_writer (sound.alone lost is_alone) = alone lost is_alone

              by_served : IsServed t q rd.p c rd.v → IsAlong
              by_served (sound.shares on) = absurd (not_written on)
              by_served (sound.writes exclusive_writer) = by_exclusive_writer exclusive_writer
              by_served (sound.reads n end covered) = absurd (not_covered n end covered)

          end_at : hi_of t rd.v.place ≡ option_or rd.hi rd.p.head.total
          end_at = ap (hi_of t) rd.at ∙ ap (λ (z : Option Representation). option_or rd.hi (total_in z)) rd.there

          -- where it ends is known
          ends_somewhere : (n : ℕ) × (hi_of t rd.v.place ≡ Some n)
          ends_somewhere = by_end (hi_of t rd.v.place) refl
            where
              known_end : IsFirst t q c → rd.hi ≡ None → ⊥
              known_end (sound.first z a b d z_row z_at came) none =
                  let one : z ≡ rd.v = same_row (t.consumer c) z rd.v z_row rd.row in
                  let came_v : came_alone t (place.Bound q rd.lo rd.hi how) ≡ true =
                  subst (λ (y : Place). came_alone t y ≡ true) (sym z_at ∙ (ap (λ (y : rows.Consumer). y.place) one ∙ rd.at)) came in
                  false_true (sym (ap (λ (y : Option ℕ). is_some y) none) ∙ facts.law.sound.writes.known_end q c rd.lo rd.hi how rd.v rd.row rd.at came_v)

              by_along : IsAlong → rd.hi ≡ None → rd.p.head.total ≡ None → ⊥
              by_along (first fresh is_first) none unknown = known_end is_first none
              by_along (alone lost is_alone) none unknown =
                  none_some q (sym none_own ∙
                  facts.unended.alone q c rd.lo how rd.p rd.v rd.there is_alone rd.row (rd.at ∙ ap (λ (y : Option ℕ). place.Bound q rd.lo y how) none)
                  unknown undue)

              by_end : (z : Option ℕ) → hi_of t rd.v.place ≡ z → (n : ℕ) × (hi_of t rd.v.place ≡ Some n)
              by_end (Some n) at = (n, at)
              by_end None at = let both = parts_none rd.hi rd.p.head.total (sym end_at ∙ at) in absurd (by_along along both.0 both.1)

          abbrev h : ℕ
          h = ends_somewhere.0

          code_end : k.hi ≡ Some h
          code_end = rd.kept.ends ∙ ends_somewhere.1

          before : o < h
          before = not_at k.hi h all.not_end code_end
            where
              not_at : (hi : Option ℕ) (n : ℕ) → is_at_end hi o ≡ false → hi ≡ Some n → o < n
              not_at None n off at = none_some n at
              not_at (Some m) n off at = let same : m ≡ n = some_is m n at in let lt : o < m = grind (arith, nat_tests) in omega (arith, same, lt)

          -- and within the length
          length_is : (n : ℕ) × (rd.p.head.total ≡ Some n) × (h ≤ n)
          length_is = by_hi rd.hi refl (sym end_at ∙ ends_somewhere.1)
            where
              by_hi : (z : Option ℕ) → rd.hi ≡ z → option_or z rd.p.head.total ≡ Some h → (n : ℕ) × (rd.p.head.total ≡ Some n) × (h ≤ n)
              by_hi None at is_h = (h, is_h, omega arith)
              by_hi (Some m) at is_h =
                  let ends = facts.measures.ends q c rd.lo m how rd.v rd.p rd.row (rd.at ∙ ap (λ (y : Option ℕ). place.Bound q rd.lo y how) at) rd.there in
                  let same : m ≡ h = some_is m h is_h in
                  let le = ends.ends in
                  (ends.total, ends.known, omega (arith, same, le))

          abbrev e : entry.Kept
          e = (entry_there r t facts stands c q how k rd).0

          in_entry : IsEntry t q e rd.p
          in_entry = entry_is r t facts stands c q how k rd

          none_held : rd.p.is_lost ≡ true → rd.p.alone ≡ Some c → rd.p.body o ≡ None
          none_held lost is_alone =
              let model : is_some (run_held_for t c rd.v want) ≡ false = held_same r t facts stands c q how k rd bare want wants ∙ all.not_held in
              let mine : is_number rd.p.alone c ≡ true = ap (λ (z : Option ℕ). is_number z c) is_alone ∙ eqb-same c in
              let run_is_none : stretch_to rd.p.body rd.p.reach o want ≡ None =
              none_of _ (sym (ap (λ (z : Option Run). is_some z) (held_is r t facts stands c q how k rd want ∙ lost_run c o want rd.p lost mine)) ∙ model) in
              (stretch-absent rd.p.body o (min want (rd.p.reach - o))).0 run_is_none

          -- it is told
          reported_length : e.head.total ≡ rd.p.head.total
          reported_length = by_length in_entry.length
            where
              by_along : (n : ℕ) → rd.p.head.total ≡ Some n → Covers rd.p.body 0 n → IsAlong → ⊥
              by_along n known came (first fresh is_first) =
                  let lt = before in
                  let le = length_is.2 in
                  let same : length_is.0 ≡ n = some_is length_is.0 n (sym length_is.1 ∙ known) in
                  false_true (sym (ap (λ (z : Option Cell). is_some z) (sym ((facts.law.sound.rows q rd.p rd.there).store.all_stored fresh o) ∙ bare)) ∙
                  came o (omega arith) (omega (arith, lt, le, same)))
              by_along n known came (alone lost is_alone) =
                  let lt = before in
                  let le = length_is.2 in
                  let same : length_is.0 ≡ n = some_is length_is.0 n (sym length_is.1 ∙ known) in
                  false_true (sym (ap (λ (z : Option Cell). is_some z) (none_held lost is_alone)) ∙ came o (omega arith) (omega (arith, lt, le, same)))

              by_length : KnowsLength e rd.p → e.head.total ≡ rd.p.head.total
              by_length (reported same) = same
              by_length (unreported u) = absurd (by_along u.total u.known u.came along)

          total_known : e.head.total ≡ Some length_is.0
          total_known = reported_length ∙ length_is.1

          -- the hole ends where something is, or the reader does
          more_ahead : (z : Option ℕ) → IsNext (cells_at (shelf_of r.entries) q) o z → (o < hole_end (Some h) o z) × (hole_end (Some h) o z ≤ h)
          more_ahead None it = (before, omega arith)
          more_ahead (Some n) it =
              let lt = before in
              let low = it.0 in
              let far : o < n = elim (same_or o n) [
                | inl same ↦ false_true (sym
                    (ap (λ (y : Option Cell). is_some y) (ap (λ (y : Cells). y o) (cells_are r t facts stands c q how k rd) ∙ bare)) ∙
                    (ap (λ (m : ℕ). is_some (cells_at (shelf_of r.entries) q m)) same ∙ it.1))
                | inr ne ↦ omega (arith, low, ne)
              ] in
              (omega (arith, lt, far), omega arith)

          hole_fits : Numbers t → t.received < 2 ^ 62 → IsWithin other length_is.0
          hole_fits numbers few =
              let total = numbers.totals q length_is.0 rd.p rd.there length_is.1 in
              let ends = more_ahead next view_is.next_is in
              let le = length_is.2 in
              let to : hole_end k.hi o next ≡ hole_end (Some h) o next = ap (λ (z : Option ℕ). hole_end z o next) code_end in
              subst (λ (z : Span). IsWithin z length_is.0) all.same (record {
                not_empty = (let more = ends.0 in omega (arith, more, to));
                within = (let less = ends.1 in omega (arith, less, to, le));
                small = omega (arith, total, few);
              })

          opens_as : move_of t now want c rd.v ≡ Opens (next_of r.exchanges) (need.Hole other.lo other.hi)
              (hole_request e.head k.request other (unwrap_or e.head.total 0))
          opens_as =
              (reads_as ∙ ap (step_move t want c rd.v) is)
              ∙ (ap (later_hole t rd.v other) ends_somewhere.1
              ∙ (ap (λ (z : Option Representation). opens_hole t rd.v.request z other) (bound_at r t facts stands c q how k rd)
              ∙ (ap (λ (n : ℕ). Opens n (need.Hole other.lo other.hi) (hole_request rd.p.head rd.v.request other (unwrap_or rd.p.head.total 0)))
              (sym stands.next)
              ∙ ap (λ (z : Request). Opens (next_of r.exchanges) (need.Hole other.lo other.hi) z) requests)))
            where
              requests : hole_request rd.p.head rd.v.request other (unwrap_or rd.p.head.total 0) ≡ hole_request e.head k.request other
                  (unwrap_or e.head.total 0)
              requests =
                  ap (λ (z : Head). hole_request z rd.v.request other (unwrap_or rd.p.head.total 0)) (sym in_entry.head)
                  ∙ (ap (λ (z : Request). hole_request e.head z other (unwrap_or rd.p.head.total 0)) (sym rd.kept.request)
                  ∙ ap (λ (z : Option ℕ). hole_request e.head k.request other (unwrap_or z 0)) (sym reported_length))

          pub hole_move : FillsHole other
          hole_move = record {
            head = e.head;
            head_is = ap (λ (z : Option entry.Kept). option_map (λ (y : entry.Kept). y.head) z) (entry_there r t facts stands c q how k rd).1;
            total = length_is.0;
            known = total_known;
            within = hole_fits;
            move_is = opens_as;
          }

-- WHAT FITS

module _ {B : Type 0} {g : Ghosts B} {limits : Limits} (r : Rows B g) (t : Tables) (facts : Facts limits t) (stands : RowsStand limits r t) (c q : ℕ)
    (how : BoundBy) (k : Consumer) (rd : IsBoundRow t c q how k) (numbers : Numbers t) (few : t.received < 2 ^ 62) where
  begins : k.lo ≡ rd.lo
  begins = rd.kept.begins ∙ ap (lo_of t) rd.at

  reach_small : rd.p.reach ≤ 2 ^ 62
  reach_small =
      let most = numbers.reaches q rd.p rd.there in
      omega (arith, most, few)

  -- where it stands
  pub offset_small : k.lo + k.given < 2 ^ 62 + 1
  offset_small = by_given (facts.law.given.reaches c q rd.lo rd.hi how rd.v rd.p rd.row rd.at rd.there)
    where
      by_given : (rd.v.given ≡ 0) ⊎ (rd.lo + rd.v.given ≤ rd.p.reach) → k.lo + k.given < 2 ^ 62 + 1
      by_given (inl none) =
          let from = numbers.starts c q rd.lo rd.hi how rd.v rd.row rd.at in
          let given = rd.kept.given in
          let at = begins in
          omega (arith, none, from, few, given, at)
      by_given (inr within) =
          let given = rd.kept.given in
          let at = begins in
          let reach = reach_small in
          omega (arith, within, given, at, reach)

  module _ (want : ℕ) (wants : 0 < want) (run : Option Run) (run_is : IsRunAhead (shelf_of r.entries) q want run k) (z : Run) (is : run ≡ Some z) where
    abbrev at_offset : ℕ
    at_offset = k.lo + k.given

    abbrev as_many : ℕ
    as_many = most k.hi at_offset want

    stretched : stretch rd.p.stored at_offset as_many ≡ Some z
    stretched = by_count (as_many == 0) refl (sym run_is ∙ is)
      where
        by_count : (b : Bool) → nat_eq as_many 0 ≡ b → (if b then None else stretch (cells_at (shelf_of r.entries) q) at_offset as_many) ≡ Some z →
            stretch rd.p.stored at_offset as_many ≡ Some z
        by_count false off at = ap (λ (f : Cells). stretch f at_offset as_many) (sym (cells_are r t facts stands c q how k rd)) ∙ at
        by_count true on at = none_some z at

    none_count : (hi : Option ℕ) → is_at_end hi at_offset ≡ true → most hi at_offset want ≡ 0
    none_count None on = false_true on
    none_count (Some h) on = let le : h ≤ at_offset = grind (arith, nat_tests) in omega (arith, le)

    never : as_many ≡ 0 → ⊥
    never none = none_some z
        (sym (ap (λ (b : Bool). if b then None else stretch (cells_at (shelf_of r.entries) q) at_offset as_many)
        (let test : nat_eq as_many 0 ≡ true = grind (arith, nat_tests, none) in test)) ∙ (sym run_is ∙ is))

    is_there_now : is_some (rd.p.stored at_offset) ≡ true
    is_there_now = by_cell (rd.p.stored at_offset) refl
      where
        by_cell : (y : Option Cell) → rd.p.stored at_offset ≡ y → is_some (rd.p.stored at_offset) ≡ true
        by_cell None none = none_some z (sym ((stretch-absent rd.p.stored at_offset as_many).1 none) ∙ stretched)
        by_cell (Some cell) some = ap (λ (y : Option Cell). is_some y) some

    -- what is read
    pub run_small : k.given + length z.bytes < 2 ^ 62 + 1
    run_small = by_end (is_at_end k.hi at_offset) refl
      where
        by_end : (b : Bool) → is_at_end k.hi at_offset ≡ b → k.given + length z.bytes < 2 ^ 62 + 1
        by_end true on = absurd (never (none_count k.hi on))
        by_end false off =
            let a = ahead rd.p.stored rd.p.reach at_offset want k.hi (ends_by r t facts stands c q how k rd) wants off is_there_now z stretched in
            let within = a.within in
            let reach = reach_small in
            let at = a.at in
            omega (arith, within, reach, at)

  -- what is held
  pub held_small : (h : Holds r t c q k rd.v rd.p) (n : ℕ) → k.given + length (take n (table_of r.exchanges h.x).held) < 2 ^ 62 + 1
  held_small h n =
      let most = numbers.fronts h.x h.w h.row in
      let low = h.after_base in
      let high = h.before_front in
      let len : length (table_of r.exchanges h.x).held ≡ length h.w.body - (k.lo + k.given - base h.w) = ap length h.known ∙
      length-drop (k.lo + k.given - base h.w) h.w.body in
      let less = length-take n (table_of r.exchanges h.x).held in
      omega (arith, most, few, low, high, len, less)
