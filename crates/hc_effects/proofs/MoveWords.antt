-- What the words of a move come to: a property of the moves that a word may give, and of nothing, is one of the word. A
-- head is shown where it is there (`at_as`); a read comes to bytes, an end, a failure that is due, a wait for its
-- source or a later hole (`reading_as`); and a poll to a head, a wait for one, or what its place says (`move_as`).
use Rattle.std.{proofs.{lemmas.Bool.Decides.{nat_tests}, Common.{arith, ◌≡◌, ℕ, true, false, Option, Some, None, refl, ap, sym, ◌∙◌}}, specs.Option.{option_and_then}}
use Rattle.hc_text.proofs.Basics.{cond_false, none_some}
use Rattle.hc_range.specs.declared.range.Span.{Span}
use Rattle.hc_sparse.specs.declared.run.Run.{Run}
use Rattle.hc_effects.proofs.Vocabulary.{Cause, Request, Response, Why, ReadStep, ReadView, read_step, is_at_end, stored_or, held_or, fails_or, waits_or, Place, BoundBy, Move, Nothing, Asks, Shows, Gives, Ends, Fails, gives, waits_for, opens_hole, binds_current, shows_at, shows_head, has_joined, if_headless, by_place, move_of, reads, own_open, source, hi_of, Tables, Exchange, Representation, Consumer, IsToBeShown, read_view, run_held_for, most, step_move, later_hole, reading, wait, place, by}
use Rattle.hc_rules.specs.declared.reading.ReadStep.TheVariants as step
use Rattle.hc_rules.specs.Readings as readings
use Rattle.hc_model.specs.Moves as moves
use Rattle.hc_model.specs.Sound as sound
use Rattle.hc_effects.proofs.Joining.{mix}

-- where a head is shown: its consumer reads, and a first hole that it waits for has joined
pub record IsShownAt (t : Tables) (p : Place) : Type 0 where
  pub reading : reads p ≡ true
  pub joined : (r lo y : ℕ) (hi : Option ℕ) → p ≡ place.Bound r lo hi (by.FirstHole y) → has_joined (t.exchange y) ≡ true

module _ (P : Move → Type 0) (nothing : P Nothing) where
  -- HEADS

  pub binds_as : (t : Tables) (k : Consumer) (why : Why) (span : Option Span) (o : Option ℕ) →
      ((r : ℕ) (head : Response) (lo : ℕ) (hi : Option ℕ) → o ≡ Some r → P (Shows r why head lo hi)) → P (binds_current t k why span o)
  binds_as t k why span o each = grind (arith, nat_tests)

  pub at_as : (t : Tables) (k : Consumer) (p : Place) (m : Move) → shows_at t k p ≡ Some m →
      ((r : ℕ) (why : Why) (head : Response) (lo : ℕ) (hi : Option ℕ) → IsShownAt t p → P (Shows r why head lo hi)) → P m
  at_as t k p m is each = grind (arith, nat_tests)

  -- READING

  pub gives_as : ((run : Run) → P (Gives run)) → (o : Option Run) → P (gives o)
  gives_as each None = nothing
  gives_as each (Some run) = each run

  pub waits_as : (x : ℕ) → P (moves.Waits (wait.Body x)) → P (Asks x) → (o : Option Exchange) → P (waits_for x o)
  waits_as x waits asks None = nothing
  waits_as x waits asks (Some w) = mix P w.asked _ _ waits asks

  pub hole_as : (t : Tables) (request : Request) (hole : Span) (o : Option Representation) →
      ((v : Representation) → o ≡ Some v → P (opens_hole t request (Some v) hole)) → P (opens_hole t request o hole)
  hole_as t request hole None each = nothing
  hole_as t request hole (Some v) each = each v refl

  module _ (t : Tables) (want c : ℕ) (k : Consumer) (ends : P Ends) (given : (run : Run) → P (Gives run)) where
    -- any step
    pub step_as : (s : ReadStep) → ((cause : Cause) → P (Fails cause)) → ((x : ℕ) → P (waits_for x (t.exchange x))) →
        ((hole : Span) → s ≡ step.Hole hole → P (later_hole t k hole (hi_of t k.place))) → P (step_move t want c k s)
    step_as s fails waits later = grind (arith, nat_tests)

    -- the step that it takes
    module _ (fails : (cause : Cause) → k.due ≡ Some cause → P (Fails cause)) (waits : (x : ℕ) → source t k ≡ Some x → P (waits_for x (t.exchange x)))
        (later : (hole : Span) → P (later_hole t k hole (hi_of t k.place))) where
      abbrev AsStep : ReadStep → Type 0
      AsStep s = P (step_move t want c k s)

      abbrev v : ReadView
      v = read_view t want c k

      abbrev by_waits : ReadStep
      by_waits = waits_or (source t k) (readings.opens v)

      waits_by : (o : Option ℕ) → source t k ≡ o → AsStep (waits_or o (readings.opens v))
      waits_by None from = later _
      waits_by (Some x) from = waits x from

      fails_by : (o : Option Cause) → k.due ≡ o → AsStep (fails_or o by_waits)
      fails_by None due = waits_by (source t k) refl
      fails_by (Some cause) due = fails cause due

      stored_by : (hi o : Option ℕ) (other : ReadStep) → AsStep other → AsStep (stored_or hi o other)
      stored_by hi None other rest = rest
      stored_by hi (Some end) other rest = gives_as given _

      pub reading_as : P (reading t want c k)
      unfolding read_step
      reading_as =
          mix AsStep (is_at_end v.hi v.offset) step.Ended (stored_or v.hi v.stored (held_or v.held (fails_or v.due by_waits))) ends
          (stored_by v.hi v.stored (held_or v.held (fails_or v.due by_waits))
          (mix AsStep v.held step.Held (fails_or v.due by_waits) (gives_as given (run_held_for t c k (most t want k))) (fails_by v.due refl)))

  -- A POLL

  module _ (t : Tables) (now want c : ℕ) (k : Consumer) where
    pub move_as : ((m : Move) → k.shown ≡ false → shows_at t k k.place ≡ Some m → P m) → ((x : ℕ) → P (moves.Waits (wait.Head x))) →
        (shows_head t k ≡ None → option_and_then (if_headless t) (own_open t k) ≡ None → P (by_place t now want c k k.place)) → P (move_of t now want c k)
    move_as shows waits other = grind (arith, nat_tests)

-- who is bound and wasn't shown a head is shown it now, or waits for it
pub never_plans : (t : Tables) (k : Consumer) (r lo : ℕ) (hi : Option ℕ) (how : BoundBy) → k.place ≡ place.Bound r lo hi how → k.shown ≡ false →
    IsToBeShown t k how → shows_head t k ≡ None → option_and_then (if_headless t) (own_open t k) ≡ None → ⊥
never_plans t k r lo hi how at shown shows none heard =
    by_how how (sym (sym (cond_false k.shown None (shows_at t k k.place) shown ∙ ap (shows_at t k) at) ∙ none)) shows
  where
    by_how : (how : BoundBy) → None ≡ shows_at t k (place.Bound r lo hi how) → IsToBeShown t k how → ⊥
    by_how _ none sound.founded = none_some _ none
    by_how _ none (sound.joined y joined) = none_some _ (rw joined at none)
    by_how _ none (sound.waits y own headless) = let never : Some y ≡ None = rw (own, headless) at heard in cc
