-- Who is told the end was given all up to it.
--
-- Only a poll tells the end, and to who reads up to it (`ender`, `at_end`). So its reader is at least as far as the end
-- that it knows. It isn't further: what is stored lies within its length, and what came past the store within what its
-- exchange promised (`direct_end`). So it was given just as much as there is (`is_end`). `by_ender` says that of a run.
use Rattle.std.{proofs.{Common.{◌≡◌, inl, inr, ℕ, ◌+◌, ◌-◌, ◌<◌, ◌≤◌, List, [], ◌∷◌, length, Bool, true, false, Option, Some, None, refl, ap, sym, ◌∙◌, subst, arith}, lemmas.Bool.Decides.{nat_tests}}, specs.Prelude.{is_some, if◌then◌else◌}}
use Rattle.hc_text.proofs.Basics.{bool_cases, not_some as none_some, some_inj}
use Rattle.hc_sparse.specs.{Cells.{Cell}, declared.run.Run.{Run}}
use Rattle.hc_effects.proofs.Vocabulary.{is_denied, Event, Act, Cause, Length, Plan, ReadView, Limits, base_of, promise_of, plan_of, read_step, is_at_end, stored_or, held_or, fails_or, waits_or, opens, Place, accepted_acts, answer_acts, may_begin, total_in, Entry, History, Contents, base, promised_bytes, Flaw, flaw_in, Shown, shown_of, given_of, OfRuns, Measures, Move, Nothing, Asks, Opens, Ends, Fails, acts_of, gives, plan_move, plan_view, move_of, shows_at, reads, hi_of, offset, end_in, end_of_direct, ReadsAct, Says, Holds, IsEnd, body_of, answer_cell, Tables, Exchange, Representation, Consumer, IsRun, Sound, step_move, reading, read_view, tables, act, cause, wait, place}
use Rattle.hc_model.specs.Exchanges as exchanges
use Rattle.hc_model.specs.Reads.{EndsWell}
use Rattle.hc_effects.proofs.{ActParts.{silent, misreads, does, IsSaid, said_is}, Basics.{append_none}, Bounded.{IsBounded, bounded_begun, bounded_denied, bounded_kept}, MoveBy.{MoveBy, move_by}, Owed.{IsDenied, is_denial, acts_are}, ShownStays.{IsFallback}, Step.{step_of}}
use Rattle.hc_laws.proofs.{ReadAs.{IsRead}, ReadJoined.{joined_in_runs, is_reported, fallback}, ReadNext.{by_said, shown_one}, RunFacts.{in_runs_with}, SoundRuns.{carried}}
use Rattle.hc_effects.proofs.MoveBy as by_move
use Rattle.hc_laws.proofs.ReadNext as next

-- BOUNDED IN RUNS

pub bounded : OfRuns IsBounded
bounded = in_runs_with (λ limits t. IsBounded t) (λ limits t. IsFallback t) fallback
    (λ limits contents may. bounded_begun contents)
    (λ limits t e later b. bounded_denied t e b)
    (λ limits t now flaw ev s a b. bounded_kept (step_of limits t now flaw s.before.is_sound s.before.is_owned ev s.going) b a)

-- A POLL THAT ENDS

-- what promises nothing begins at the first position
pub no_base : (l : Length) → promise_of l ≡ None → base_of l ≡ 0
no_base l is = grind (arith, nat_tests)

module _ (t : Tables) (now c want : ℕ) (k : Consumer) where
  at_ends : (p : Place) → shows_at t k p ≡ Some Ends → ⊥
  at_ends p is = grind (arith, nat_tests)

  plan_ends : (p : Plan) → plan_move t k p ≡ Ends → ⊥
  plan_ends p is = grind (arith, nat_tests)

  record IsEnding : Type 0 where
    shown : k.shown ≡ true
    ends : reading t want c k ≡ Ends

  ending_by : (m : Move) → MoveBy t now want c k m → m ≡ Ends → IsEnding
  ending_by m (by_move.shows _ unshown at) is = absurd (at_ends k.place (at ∙ ap Some is))
  ending_by _ (by_move.reads on heard) is = record { shown = on; ends = is }
  ending_by _ (by_move.plans unshown free none heard) is = absurd (plan_ends (plan_of (plan_view t now c k)) is)
  ending_by _ _ is = cc

  -- THE STEP

  gives_ends : (o : Option Run) → gives o ≡ Ends → ⊥
  gives_ends o is = grind (arith, nat_tests)

  abbrev view : ReadView
  view = read_view t want c k

  by_source : (o : Option ℕ) → step_move t want c k (waits_or o (opens view)) ≡ Ends → ⊥
  by_source o is = grind (arith, nat_tests)

  by_due : (o : Option Cause) → step_move t want c k (fails_or o (waits_or view.source (opens view))) ≡ Ends → ⊥
  by_due None is = by_source view.source is
  by_due (Some why) is = let never : Fails why ≡ Ends = is in cc

  by_held : (b : Bool) → step_move t want c k (held_or b (fails_or view.due (waits_or view.source (opens view)))) ≡ Ends → ⊥
  by_held true is = gives_ends _ is
  by_held false is = by_due view.due is

  by_stored : (o : Option ℕ) →
      step_move t want c k (stored_or (hi_of t k.place) o (held_or view.held (fails_or view.due (waits_or view.source (opens view))))) ≡ Ends → ⊥
  by_stored None is = by_held view.held is
  by_stored (Some end) is = gives_ends _ is

  at_end : reading t want c k ≡ Ends → is_at_end (hi_of t k.place) (offset t k) ≡ true
  unfolding read_step
  at_end is = grind (arith, nat_tests, bool_cases, by_stored)

  known_end : (o : Option ℕ) (n : ℕ) → is_at_end o n ≡ true → (hi : ℕ) × (o ≡ Some hi) × (hi ≤ n)
  known_end o n is = grind (arith, nat_tests)

-- WHERE IT STANDS

module _ (t : Tables) (c : ℕ) (k : Consumer) (s : Sound t) (m : Measures t) (b : IsBounded t) (row : t.consumer c ≡ Some k)
    (apart : (y : ℕ) → k.place ≡ place.Direct y → t.representation y ≡ None) (z : Shown) (given : List ℕ) (count : k.given ≡ length given)
    (holds : Holds t z.r z.lo given) (read : IsRead t k z) where
  -- the last byte that it was given is there
  last_there : 0 < k.given → is_some (body_of t z.r (z.lo + (k.given - 1))) ≡ true
  last_there some = ap (λ p. is_some (body_of t z.r p)) (sym (omega arith)) ∙
      ap (λ (q : Option Cell). is_some q) ((holds (k.given - 1) (omega arith)).1 0 (omega arith))

  below_reach : (r n p : ℕ) (v : Representation) → t.representation r ≡ Some v → v.head.total ≡ Some n → is_some (body_of t r p) ≡ true → p < n
  below_reach r n p v there known some = grind (arith, nat_tests)

  bound_by : (r n : ℕ) (q : Option Representation) → z.r ≡ r → z.lo ≡ 0 → t.representation r ≡ q → total_in q ≡ Some n → k.given ≤ n
  bound_by r n q same first there known = grind (arith, nat_tests, none_some, bool_cases, last_there, below_reach)

  cell_below : (y p : ℕ) (w : Exchange) → is_some (answer_cell y p w) ≡ true → p < exchanges.front w
  cell_below y p w some = grind (arith, nat_tests)

  came_of : (y : ℕ) (w : Exchange) → z.r ≡ y → z.lo ≡ base w → t.representation y ≡ None → t.exchange y ≡ Some w → k.given ≤ length w.body
  came_of y w same first none there = grind (arith, nat_tests, bool_cases, last_there, cell_below)

  direct_end : (y n : ℕ) (w : Exchange) (q : Option ℕ) → t.exchange y ≡ Some w → promised_bytes w ≡ q → k.given ≤ length w.body →
      end_of_direct q w ≡ Some n → base w + k.given ≤ n
  direct_end y n w q there promise few is = grind (arith, nat_tests)

  direct_by : (y n : ℕ) (q : Option Exchange) → k.place ≡ place.Direct y → t.exchange y ≡ q → end_in q ≡ Some n → offset t k ≤ n
  direct_by y n q at there is = grind (arith, nat_tests, none_some, length, came_of, some_inj, direct_end)

  offset_by : (p : Place) (n : ℕ) → k.place ≡ p → hi_of t p ≡ Some n → offset t k ≤ n
  offset_by p n at is = grind (arith, nat_tests, some_inj, bound_by, direct_by, none_some)

  -- THE END

  end_from : (q : Option ℕ) (n : ℕ) → z.hi ≡ q → hi_of t k.place ≡ Some n → IsEnd t z.r q n
  end_from q n none is = grind (arith, nat_tests)

  is_end : is_at_end (hi_of t k.place) (offset t k) ≡ true → IsEnd t z.r z.hi (z.lo + length given)
  is_end past = grind (arith, nat_tests, known_end, offset_by, end_from)

hi_reads : (t : Tables) (p : Place) (n : ℕ) → hi_of t p ≡ Some n → reads p ≡ true
hi_reads t p n is = grind (arith, nat_tests)

-- WHO IS TOLD

module _ (t : Tables) (now c : ℕ) where
  abbrev it : Act
  it = act.Ended c

  record IsEnder (ev : Event) : Type 0 where
    want : ℕ
    k : Consumer
    row : t.consumer c ≡ Some k
    move_is : move_of t now want c k ≡ Ends

  data EndsAs (d : ℕ) : Move → Type 0 where
    ends_it : d ≡ c → EndsAs d Ends

  of_move : (d : ℕ) (m : Move) → Says it (acts_of d m) → EndsAs d m
  of_move d Nothing h = absurd h
  of_move d (Asks y) (inr (inl is)) = absurd (let no : act.Pending d (wait.Body y) ≡ it = is in cc)
  of_move d (Asks y) (inr (inr h)) = absurd h
  of_move d (Opens y n request) (inr (inl is)) = absurd (let no : act.Pending d (wait.Head y) ≡ it = is in cc)
  of_move d (Opens y n request) (inr (inr h)) = absurd h
  of_move d Ends (inl is) = ends_it cc
  of_move d _ (inl is) = cc
  of_move d _ (inr h) = absurd h

  ender_by : (ev : Event) (d want : ℕ) (k : Consumer) (m : Move) → t.consumer d ≡ Some k → m ≡ move_of t now want d k → EndsAs d m → IsEnder ev
  ender_by ev d want k _ row is (ends_it same) = record {
    want = want;
    k = k;
    row = sym (ap t.consumer same) ∙ row;
    move_is = sym (ap (λ n. move_of t now want n k) same) ∙ sym is;
  }

  ender_of : (ev : Event) (flaw : Flaw) (acts : List Act) → IsSaid t now ev flaw acts → Says it acts → IsEnder ev
  ender_of ev flaw _ (silent) h = absurd h
  ender_of ev flaw _ (does d want k m here row is near) h = ender_by ev d want k m row is (of_move d m h)
  ender_of ev flaw _ (misreads d want q here is) (inl same) = absurd (let no : act.Failed d (cause.StoreRead q) ≡ it = same in cc)
  ender_of ev flaw _ (misreads d want q here is) (inr h) = absurd h

  ender : (limits : Limits) (ev : Event) (flaw : Flaw) → Says it (accepted_acts limits t now ev flaw) → IsEnder ev
  ender limits ev flaw h = ender_of ev flaw (answer_acts t now ev flaw) (said_is t now ev flaw) (by_said limits t now ev flaw it (next.ends c) h)

module _ (limits : Limits) (contents : Contents) (h : History) (e : Entry) (may : may_begin limits contents ≡ true) (run : IsRun limits contents (e ∷ h))
    (c : ℕ) where
  abbrev t : Tables
  t = tables contents h

  by_ender : IsEnder t e.now c e.event → ReadsAct contents h e.now [] (act.Ended c)
  by_ender g =
      let all = carried limits contents h may run.0 in
      let its = ending_by t e.now c g.want g.k (move_of t e.now g.want c g.k) (move_by t e.now g.want c g.k all.is_sound g.row) g.move_is in
      let past = at_end t e.now c g.want g.k its.ends in
      let known = known_end t 0 c 0 g.k (hi_of t g.k.place) (offset t g.k) past in
      let one = shown_one limits contents h run.0 c g.k g.row its.shown in
      let j = joined_in_runs limits contents h may run.0 in
      let reports = is_reported limits contents h run.0 in
      let read = j.read c g.k one.0 g.row one.1 (hi_reads t g.k.place known.0 known.1) in
      let there = is_end t c g.k all.is_sound all.is_measured (bounded limits contents h may run.0) g.row
      (λ y at. (fallback limits contents h may run.0).apart.unfounded c y g.k g.row at) one.0 (given_of c h) (reports.count c g.k g.row)
      (j.held c one.0 one.1) read past in (
        one.0,
        append_none (shown_of c h) ∙ one.1,
        subst (λ (xs : List ℕ). IsEnd t one.0.r one.0.hi (one.0.lo + length xs)) (sym (append_none (given_of c h))) there,
      )

  denied_not : (acts : List Act) → IsDenied acts → Says (act.Ended c) acts → ⊥
  denied_not acts it1 it2 = grind (arith, nat_tests)

  by_taken : (b : Bool) → is_denied e.acts ≡ b → Says (act.Ended c) e.acts → ReadsAct contents h e.now [] (act.Ended c)
  by_taken true denied says = absurd (denied_not e.acts (is_denial e.acts denied) says)
  by_taken false taken says = by_ender (ender t e.now c limits e.event (flaw_in e.acts) (subst (Says (act.Ended c)) (acts_are limits t e run.1 taken) says))

-- Who is told the end was given all up to it.
pub ends_well : EndsWell
ends_well limits contents h e may run c says = by_taken limits contents h e may run c (is_denied e.acts) refl says
