-- Who was shown a head, and whose next byte is stored, is given some of it by a poll, in every run.
--
-- It waits for no head: the hole for which its exchange asks is where it stands, and there nothing is stored. So it
-- reads, and what is stored comes first. `asks_not` has the work of the first, `reading_is` is the second, and
-- `by_poll` takes both to the acts of a poll.
use Rattle.std.{proofs.{Common.{◌≡◌, ℕ, ◌+◌, ◌-◌, ◌<◌, [], ◌∷◌, ◌++◌, length, true, false, Option, Some, None, refl, ap, sym, ◌∙◌, arith, length-append}, lemmas.Bool.Decides.{nat_tests}}, specs.{Prelude.{is_some, IfSome}, Option.{option_and_then}}}
use Rattle.hc_text.proofs.Basics.{bool_cases, not_some as none_some}
use Rattle.hc_sparse.specs.{Cells.{Cells, Cell}, Runs.{end_of}, Stretch.{stretch}, declared.run.Run.{Run}}
use Rattle.hc_effects.proofs.Vocabulary.{given_in, read_step, cut_at, held_or, fails_or, waits_or, ReadStep, Limits, Place, BoundBy, row_of, Entry, is_headless, failures_in, OfHistories, Turns, Gives, acts_of, Owners, move_of, if_headless, by_place, bound_to, offset, hi_of, own_open, source, Tables, Exchange, Representation, Consumer, Sound, IsAbout, InHole, bound_row, stored_from, stored_ahead, read_view, reading, tables, event, place}
use Rattle.hc_rules.specs.Readings as readings
use Rattle.hc_model.specs.Reads.{GivesStored}
use Rattle.hc_model.specs.Sound as sound
use Rattle.hc_effects.proofs.{AboutKeeps.{own_open_of}, Basics.{some_row}, GivenNext.{given_next}, Givers.{some_want}, Owed.{goes}}
use Rattle.hc_laws.proofs.{AtHoles.{AreAtHoles, at_holes_in_runs}, InRuns.{turned_in_runs}, SoundRuns.{carried}, TurnFacts.{moves_on, misreads, IsTaken, AtPoll, at_poll, behind}}

module _ (t : Tables) (s : Sound t) (o : Owners t) (turns : Turns t) (are : AreAtHoles t) (c r lo : ℕ) (hi : Option ℕ) (how : BoundBy) (k : Consumer)
    (v : Representation) (row : t.consumer c ≡ Some k) (shown : k.shown ≡ true) (at : k.place ≡ place.Bound r lo hi how)
    (there : t.representation r ≡ Some v) (stored : is_some (v.stored (offset t k)) ≡ true) where
  -- IT WAITS FOR NO HEAD

  -- nothing has come of the hole for which its exchange asks
  asks_not : (x : ℕ) (w : Exchange) → t.exchange x ≡ Some w → is_headless (Some w) ≡ true → k.own ≡ Some x → IsAbout t r x → ⊥
  asks_not x w w_row bare own (sound.headed q q_row on headed family_is is) = grind (arith, nat_tests)
  asks_not x w w_row bare own (sound.asks q from to q_row on none need_is aim_is) =
      let it = turns.awaited x w w_row bare in
      let c_is : w.c ≡ c = o.one w.c c x it.k k it.row row it.own own in
      let inside : InHole w.need (lo + k.given) =
      are.stand x r lo w k (record { row = w_row; headless = bare; its = ap t.consumer c_is ∙ row; shown = shown; hi = hi; how = how; at = at }) in
      grind (arith, nat_tests)

  unwaited : (x : ℕ) → own_open t k ≡ Some x → is_headless (t.exchange x) ≡ true → ⊥
  unwaited x own bare =
      let is = own_open_of t k x own in
      asks_not x is.w is.row (sym (ap (λ (z : Option Exchange). is_headless z) is.row) ∙ bare) is.own
      (s.writes.own_about r c x k (sound.is_bound lo hi how row at) own)

  no_head : (q : Option ℕ) → own_open t k ≡ q → option_and_then (if_headless t) q ≡ None
  no_head q own = grind (arith, nat_tests, bool_cases, unwaited)

  -- WHAT IS STORED COMES FIRST

  stretch_some : (f : Cells) (p n : ℕ) (q : Option Cell) → f p ≡ q → is_some q ≡ true → is_some (stretch f p n) ≡ true
  unfolding stretch
  stretch_some f p n q is some = grind (arith, nat_tests)

  reads : bound_row t k ≡ Some v
  reads = ap (λ p. row_of t (bound_to p)) at ∙ there

  ahead_some : (n : ℕ) → is_some (stored_ahead t k n) ≡ true
  ahead_some n = ap (λ z. is_some (option_and_then (stored_from (offset t k) n) z)) reads ∙
      stretch_some v.stored (offset t k) _ (v.stored (offset t k)) refl stored

  module _ (now want : ℕ) (many : 0 < want) (before : IfSome (hi_of t k.place) (λ end. offset t k < end)) where
    abbrev rest : ReadStep
    rest = held_or (read_view t want c k).held (fails_or k.due (waits_or (source t k) (readings.opens (read_view t want c k))))

    abbrev next : ℕ → ℕ
    next end = cut_at (hi_of t k.place) end - offset t k

    reading_is : (first run : Run) → stored_ahead t k want ≡ Some first → stored_ahead t k (next (end_of first)) ≡ Some run → reading t want c k ≡ Gives run
    unfolding read_step
    reading_is first run is also = grind (arith, nat_tests)

    move_is : move_of t now want c k ≡ reading t want c k
    move_is = grind (arith, nat_tests, by_place, no_head, reading)

    -- it is given some of it
    record IsGiven : Type 0 where
      run : Run
      move : move_of t now want c k ≡ Gives run
      some : 0 < length run.bytes

    past_not : (x : ℕ) → k.place ≡ place.Direct x → t.representation x ≡ None
    past_not x direct = absurd (let no_one : place.Bound r lo hi how ≡ place.Direct x = sym at ∙ direct in cc)

    is_given : IsGiven
    is_given =
        let first = some_row (stored_ahead t k want) (ahead_some want) in
        let run = some_row (stored_ahead t k (next (end_of first.0))) (ahead_some (next (end_of first.0))) in
        let move : reading t want c k ≡ Gives run.0 = reading_is first.0 run.0 first.1 run.1 in
        record { run = run.0; move = move_is ∙ move; some = (given_next t want c k run.0 s many past_not move).1.some }

-- THE ACTS

module _ (limits : Limits) (t : Tables) (e : Entry) (taken : IsTaken limits t e) (s : Sound t) (o : Owners t) (turns : Turns t) (are : AreAtHoles t)
    (c want : ℕ) (polls : e.event ≡ event.Poll c want) (faultless : failures_in e.acts ≡ 0) (k : Consumer) (row : t.consumer c ≡ Some k) where
  given_one : (run : Run) → 0 < length run.bytes → e.acts ≡ acts_of c (Gives run) ++ behind limits t e taken → 0 < length (given_in c e.acts)
  given_one run some all = grind (arith, nat_tests, behind, length, length-append)

  by_poll : (v : Representation) (r lo : ℕ) (hi : Option ℕ) (how : BoundBy) → k.shown ≡ true → k.place ≡ place.Bound r lo hi how →
      t.representation r ≡ Some v → is_some (v.stored (offset t k)) ≡ true → IfSome (hi_of t k.place) (λ end. offset t k < end) →
      AtPoll limits t e taken c k → 0 < length (given_in c e.acts)
  by_poll v r lo hi how shown at there stored before (moves_on more m also m_is does all saw) =
      let many : 0 < more = some_want t c more e.event (goes limits t e taken.owed taken.not_denied) also in
      let given = is_given t s o turns are c r lo hi how k v row shown at there stored e.now more many before in
      given_one given.run given.some (all ∙ ap (λ z. acts_of c z ++ behind limits t e taken) (m_is ∙ given.move))
  by_poll v r lo hi how shown at there stored before (misreads more q also all saw) = grind (arith, nat_tests)

  by_place_of : (v : Representation) (p : Place) → k.place ≡ p → k.shown ≡ true → row_of t (bound_to p) ≡ Some v →
      is_some (v.stored (offset t k)) ≡ true → IfSome (hi_of t k.place) (λ end. offset t k < end) → 0 < length (given_in c e.acts)
  by_place_of v (place.Bound r lo hi how) at shown there stored before =
      by_poll v r lo hi how shown at there stored before (at_poll limits t e taken c want k s turns row polls)
  by_place_of v _ at shown there stored before = absurd (none_some v there)

-- Who has its next byte stored is given some by a poll, in every run.
pub gives_stored_in_runs : OfHistories GivesStored
gives_stored_in_runs limits contents [] may run = tt
gives_stored_in_runs limits contents (e ∷ h) may run = λ c want polls accepted faultless has.
    let t = tables contents h in
    let kept = carried limits contents h may run.0 in
    let turned = turned_in_runs limits contents h may run.0 in
    by_place_of limits t e (record { owed = run.1; not_denied = accepted }) kept.is_sound kept.is_owned turned.turns
    (at_holes_in_runs limits contents h may run.0) c want polls faultless has.k has.row
    has.v has.k.place refl has.shown has.reads has.stored has.before
