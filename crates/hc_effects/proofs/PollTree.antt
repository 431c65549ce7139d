-- What a poll may open: a first hole where nobody reads, or a later hole where it is the exclusive writer.
--
-- A poll shows a head, waits for one, reads or plans (`move_as`); only reading and planning open an exchange for a
-- hole. Who reads opens a later hole where nothing is stored or held there, nothing is due and it has no source
-- (`later_by`). Who plans opens a first hole of what is current, which nobody reads (`fine_first_hole`). Who is bound
-- and was shown no head does not plan (`never_plans`).
use Rattle.std.{proofs.{Common.{◌≡◌, ◌≢◌, ℕ, ◌+◌, ◌<◌, List, [], ◌∷◌, Bool, true, false, cond, Option, Some, None, refl, ap, sym, ◌∙◌, subst, arith}, lemmas.Bool.Decides.{nat_tests}}, specs.{Prelude.{if◌then◌else◌, is_some}, Option.{option_and_then, option_map}}}
use Rattle.hc_text.proofs.Basics.{none_of as not_some, some_inj}
use Rattle.hc_range.specs.declared.range.Span.{Span}
use Rattle.hc_sparse.specs.{Cells.{Cells, Cell}, Runs.{end_of}, Stretch.{stretch}, declared.run.Run.{Run}}
use Rattle.hc_effects.proofs.Vocabulary.{Request, Response, Need, Wait, Why, Cause, Plan, Candidate, ReadStep, ReadView, least, lesser, read_step, is_at_end, hole_end, stored_or, held_or, fails_or, waits_or, Place, BoundBy, Tables, Representation, Consumer, current, row_of, first_hole, hole_at, next_from, bound, bound_to, offset, hi_of, own_open, source, aim_from, Move, Nothing, Asks, Opens, Shows, Gives, Ends, Fails, opens_hole, gives, plan_view, plan_move, planned_move, candidate, candidate_at, hole_of, bound_row, stored_ahead, stored_from, run_held_for, held_at, held_of_lost, read_view, later_hole, step_move, reading, most, shows_head, if_headless, by_place, poll_move, Sound, need}
use Rattle.hc_rules.specs.declared.reading.ReadStep.TheVariants as step
use Rattle.hc_rules.specs.Readings as readings
use Rattle.hc_event.specs.declared.place.Place.TheVariants as place
use Rattle.hc_model.specs.Holes.{end_by}
use Rattle.hc_model.specs.Moves as moves
use Rattle.hc_model.specs.Sound as sound
use Rattle.hc_effects.proofs.{Joining.{mix}, ExclusiveWriters.{IsAtHole}, MoveWords.{at_as, binds_as, gives_as, move_as, never_plans, waits_as}, PlanTree.{IsFree, Fine, fine_plan}}
use Rattle.hc_effects.proofs.PlanTree as plans

-- why a poll of c may open an exchange for a hole
pub data OpensHole (t : Tables) (c : ℕ) (k : Consumer) (from to : ℕ) : Type 0 where
  first : (r : ℕ) (v : Representation) (span hole : Span) → current t k.request.key ≡ Some r → aim_from t k.request.key k.place ≡ Some r →
      t.representation r ≡ Some v → bound t r ≡ [] → first_hole v.stored v.reach span ≡ Some hole → from ≡ hole.lo → to ≡ hole.hi → OpensHole t c k from to
  later : (r hi n : ℕ) (v : Representation) → IsAtHole t r c hi v k → held_of_lost c (offset t k) n (Some v) ≡ None → from ≡ offset t k →
      to ≡ (hole_at v.stored v.reach (offset t k) hi).hi → OpensHole t c k from to

-- a move that opens no hole, or one for such a reason
pub data FineMove (t : Tables) (c : ℕ) (k : Consumer) : Move → Type 0 where
  nothing : FineMove t c k Nothing
  waits : (wait : Wait) → FineMove t c k (moves.Waits wait)
  asks : (x : ℕ) → FineMove t c k (Asks x)
  opens : (x : ℕ) (n : Need) (request : Request) → x ≡ t.opened + 1 → ((from to : ℕ) → n ≡ need.Hole from to → OpensHole t c k from to) →
      FineMove t c k (Opens x n request)
  shows : (r : ℕ) (why : Why) (head : Response) (lo : ℕ) (hi : Option ℕ) → FineMove t c k (Shows r why head lo hi)
  given : (run : Run) → FineMove t c k (Gives run)
  ends : FineMove t c k Ends
  fails : (cause : Cause) → FineMove t c k (Fails cause)

abbrev from_in : Need → ℕ
from_in (need.Hole from to) = from
from_in _ = 0

abbrev to_in : Need → ℕ
to_in (need.Hole from to) = to
to_in _ = 0

pub hole-inj : (a b c d : ℕ) → need.Hole a b ≡ need.Hole c d → (a ≡ c) × (b ≡ d)
hole-inj a b c d same = (ap from_in same, ap to_in same)

-- the hole ahead, where the end is known
ahead_is : (hi o : ℕ) (next : Option ℕ) → hole_end (Some hi) o next ≡ end_by hi next
ahead_is hi o next = grind (arith, nat_tests)

module _ (t : Tables) (c : ℕ) (k : Consumer) where
  -- a need that isn't a hole
  opens_other : (n : Need) (request : Request) → ((from to : ℕ) → n ≢ need.Hole from to) → FineMove t c k (Opens (t.opened + 1) n request)
  opens_other n request other = opens (t.opened + 1) n request refl (λ from to is. absurd (other from to is))

  opens_span : (span : Span) (request : Request) → OpensHole t c k span.lo span.hi → FineMove t c k (Opens (t.opened + 1) (need.Hole span.lo span.hi) request)
  opens_span span request why =
      opens (t.opened + 1) (need.Hole span.lo span.hi) request refl
      (λ from to is. let parts = hole-inj span.lo span.hi from to is in rw (sym parts.0, sym parts.1) why)

  -- READING

  fine_gives : (o : Option Run) → FineMove t c k (gives o)
  fine_gives = gives_as (FineMove t c k) nothing given

  -- nothing stands where no stretch begins
  no_cell : (f : Cells) (p n : ℕ) (o : Option Cell) → f p ≡ o → stretch f p n ≡ None → f p ≡ None
  unfolding stretch
  no_cell f p n o is none = grind (arith, nat_tests)

  -- the consumer reads r from its row, nothing of what it wants is stored or held, and nothing is due
  module _ (is_row : t.consumer c ≡ Some k) (n : ℕ) (none_due : k.due ≡ None) (before : (hi : ℕ) → hi_of t k.place ≡ Some hi → offset t k < hi)
      (no_source : source t k ≡ None) where
    abbrev ahead : Option ℕ → Option ℕ → Span
    ahead hi next = record { lo = offset t k; hi = hole_end hi (offset t k) next }

    later_by : (place : Place) (o : Option Representation) (e : Option ℕ) → k.place ≡ place → row_of t (bound_to place) ≡ o → hi_of t k.place ≡ e →
        option_and_then (stored_from (offset t k) n) o ≡ None → held_at t c (offset t k) n place ≡ None →
        FineMove t c k (later_hole t k (ahead e (option_and_then (λ (v : Representation). next_from v.stored v.reach (offset t k)) o)) e)
    later_by place o None at row end missing none_held = nothing
    later_by place None (Some hi) at row end missing none_held = let none : bound_row t k ≡ None = ap (λ (p : Place). row_of t (bound_to p)) at ∙ row in
        rw none nothing
    later_by (place.Bound r lo till by) (Some v) (Some hi) at row end missing none_held =
        let at_hole : IsAtHole t r c hi v k = record {
          row = row;
          is_reader = sound.is_bound lo till by is_row at;
          none_due = none_due;
          no_source = no_source;
          end = end;
          before = before hi end;
          missing = no_cell v.stored (offset t k) _ (v.stored (offset t k)) refl missing;
        } in
        let held_none : held_of_lost c (offset t k) n (Some v) ≡ None = rw row at none_held in
        let there : bound_row t k ≡ Some v = ap (λ (p : Place). row_of t (bound_to p)) at ∙ row in
        rw there (opens_span (ahead (Some hi) (next_from v.stored v.reach (offset t k))) _
        (later r hi n v at_hole held_none refl (ahead_is hi (offset t k) (next_from v.stored v.reach (offset t k)))))
    later_by _ (Some v) (Some hi) at row end missing none_held = absurd (let never : None ≡ Some v = row in cc)

  not_at : (o : Option ℕ) (p hi : ℕ) → is_at_end o p ≡ false → o ≡ Some hi → p < hi
  not_at None p hi off is = absurd (let never : None ≡ Some hi = is in cc)
  not_at (Some n) p hi off is = let same : n ≡ hi = cc in let less : p < n = grind (arith, nat_tests) in omega arith

  module _ (is_row : t.consumer c ≡ Some k) (want : ℕ) where
    abbrev v : ReadView
    v = read_view t want c k

    abbrev FineStep : ReadStep → Type 0
    FineStep step = FineMove t c k (step_move t want c k step)

    no_run : (o : Option Run) → option_map end_of o ≡ None → o ≡ None
    no_run o h = grind (arith, nat_tests)

    step_waits : (o : Option ℕ) → source t k ≡ o → k.due ≡ None → is_at_end (hi_of t k.place) (offset t k) ≡ false → stored_ahead t k want ≡ None →
        run_held_for t c k want ≡ None → FineStep (waits_or o (readings.opens v))
    step_waits (Some x) from none_due off missing none_held = waits_as (FineMove t c k) nothing x (waits _) (asks x) (t.exchange x)
    step_waits None from none_due off missing none_held =
        later_by is_row want none_due (λ hi is. not_at (hi_of t k.place) (offset t k) hi off is) from k.place (bound_row t k) (hi_of t k.place) refl refl
        refl missing none_held

    step_fails : (o : Option Cause) → k.due ≡ o → is_at_end (hi_of t k.place) (offset t k) ≡ false → stored_ahead t k want ≡ None →
        run_held_for t c k want ≡ None → FineStep (fails_or o (waits_or (source t k) (readings.opens v)))
    step_fails (Some cause) due off missing none_held = fails cause
    step_fails None due off missing none_held = step_waits (source t k) refl due off missing none_held

    step_held : (b : Bool) → is_some (run_held_for t c k want) ≡ b → is_at_end (hi_of t k.place) (offset t k) ≡ false → stored_ahead t k want ≡ None →
        FineStep (held_or b (fails_or k.due (waits_or (source t k) (readings.opens v))))
    step_held true is off missing = fine_gives (run_held_for t c k (most t want k))
    step_held false is off missing = step_fails k.due refl off missing (not_some (run_held_for t c k want) is)

    step_stored : (o : Option ℕ) → option_map end_of (stored_ahead t k want) ≡ o → is_at_end (hi_of t k.place) (offset t k) ≡ false →
        FineStep (stored_or (hi_of t k.place) o (held_or (is_some (run_held_for t c k want)) (fails_or k.due (waits_or (source t k) (readings.opens v)))))
    step_stored (Some end) is off = fine_gives _
    step_stored None is off = step_held (is_some (run_held_for t c k want)) refl off (no_run (stored_ahead t k want) is)

    step_end : (b : Bool) → is_at_end (hi_of t k.place) (offset t k) ≡ b →
        FineStep (cond b step.Ended
        (stored_or (hi_of t k.place) (option_map end_of (stored_ahead t k want))
        (held_or (is_some (run_held_for t c k want)) (fails_or k.due (waits_or (source t k) (readings.opens v))))))
    step_end true is = ends
    step_end false is = step_stored (option_map end_of (stored_ahead t k want)) refl is

    fine_reading : FineMove t c k (reading t want c k)
    unfolding read_step
    fine_reading = step_end (is_at_end (hi_of t k.place) (offset t k)) refl

  -- PLANS

  lesser_some : (o : Option ℕ) (n : ℕ) → lesser o n ≢ None
  lesser_some None n = λ e. cc
  lesser_some (Some m) n = λ e. cc

  least_none : (cs : List ℕ) → least cs ≡ None → cs ≡ []
  least_none [] is = refl
  least_none (d ∷ ds) is = absurd (lesser_some (least ds) d is)

  record IsCandidate (r : ℕ) (s : Candidate) : Type 0 where
    v : Representation
    row : t.representation r ≡ Some v
    hole_is : s.hole ≡ hole_of v s.span
    least_is : s.least_bound ≡ least (bound t r)

  candidate_row : (now r : ℕ) (o : Option Representation) (s : Candidate) → t.representation r ≡ o →
      option_map (λ v. candidate t now r k.request v) o ≡ Some s → IsCandidate r s
  candidate_row now r None s row is = absurd (let never : None ≡ Some s = is in cc)
  candidate_row now r (Some v) s row is = subst (IsCandidate r) (some_inj _ s is) (record { v = v; row = row; hole_is = refl; least_is = refl })

  fine_first_hole : (now : ℕ) (hole : Span) → aim_from t k.request.key k.place ≡ current t k.request.key → IsFree (plan_view t now c k) hole →
      (o : Option ℕ) → current t k.request.key ≡ o → FineMove t c k (opens_hole t k.request (row_of t o) hole)
  fine_first_hole now hole aims free None is = absurd (let never : None ≡ Some free.s = rw is at free.current in cc)
  fine_first_hole now hole aims free (Some r) is =
      let found : candidate_at t now k.request r ≡ Some free.s = rw is at free.current in
      let row = candidate_row now r (t.representation r) free.s refl found in
      let nobody : bound t r ≡ [] = least_none (bound t r) (sym row.least_is ∙ free.nobody) in
      let hole_is : first_hole row.v.stored row.v.reach free.span ≡ Some hole = sym (row.hole_is ∙ ap (hole_of row.v) free.wanted) ∙ free.first in
      rw row.row (opens_span hole _ (first r row.v free.span hole is (aims ∙ is) row.row nobody hole_is refl refl))

  fine_plan_move : aim_from t k.request.key k.place ≡ current t k.request.key → (now : ℕ) → (p : Plan) → Fine (plan_view t now c k) p →
      FineMove t c k (plan_move t k p)
  fine_plan_move aims now _ plans.fails = fails _
  fine_plan_move aims now _ (plans.passes_by n other) = opens_other n _ other
  fine_plan_move aims now _ (plans.fetches n other) = opens_other n _ other
  fine_plan_move aims now _ (plans.binds why span) =
      binds_as (FineMove t c k) nothing t k why span (current t k.request.key) (λ r head lo hi now. shows r why head lo hi)
  fine_plan_move aims now _ (plans.opens span hole free) = fine_first_hole now hole aims free (current t k.request.key) refl
  fine_plan_move aims now _ _ = waits _

  fine_unbound : t.consumer c ≡ Some k → aim_from t k.request.key k.place ≡ current t k.request.key → (now want : ℕ) →
      FineMove t c k (if k.shown then reading t want c k else planned_move t now c k)
  fine_unbound is_row aims now want = mix (FineMove t c k) k.shown _ _ (fine_reading is_row want) (fine_plan_move aims now _ (fine_plan (plan_view t now c k)))

  fine_bound : Sound t → t.consumer c ≡ Some k → (now want r lo : ℕ) (hi : Option ℕ) (how : BoundBy) (b : Bool) → k.place ≡ place.Bound r lo hi how →
      k.shown ≡ b → shows_head t k ≡ None → option_and_then (if_headless t) (own_open t k) ≡ None →
      FineMove t c k (if b then reading t want c k else planned_move t now c k)
  fine_bound s is_row now want r lo hi how true at shown none not_waiting = fine_reading is_row want
  fine_bound s is_row now want r lo hi how false at shown none not_waiting =
      absurd (never_plans t k r lo hi how at shown (s.unshown c r lo hi how k is_row at shown) none not_waiting)

  fine_by_place : Sound t → t.consumer c ≡ Some k → (now want : ℕ) (place : Place) → k.place ≡ place → shows_head t k ≡ None → option_and_then
      (if_headless t) (own_open t k) ≡ None → FineMove t c k (by_place t now want c k place)
  fine_by_place s is_row now want (place.Bound r lo hi how) at none not_waiting = fine_bound s is_row now want r lo hi how k.shown at refl none not_waiting
  fine_by_place s is_row now want (place.Down cause) at none not_waiting = fails cause
  fine_by_place s is_row now want place.Over at none not_waiting = nothing
  fine_by_place s is_row now want _ at none not_waiting = fine_unbound is_row (rw at refl) now want

  -- every move of a poll is fine
  pub fine_polled : Sound t → t.consumer c ≡ Some k → (now want : ℕ) → FineMove t c k (poll_move t now want c (Some k))
  fine_polled s is_row now want =
      move_as (FineMove t c k) nothing t now want c k
      (λ m shown is. at_as (FineMove t c k) nothing t k k.place m is (λ r why head lo hi at. shows r why head lo hi))
      (λ x. waits _) (fine_by_place s is_row now want k.place refl)
