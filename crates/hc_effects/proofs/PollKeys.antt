-- What a poll asks for and opens is of its consumer's key.
use Rattle.std.{proofs.{lemmas.Bool.Decides.{nat_tests}, Common.{arith, ◌≡◌, ℕ, true, false, Option, Some, None, refl, ap, sym, ◌∙◌}}, specs.Prelude.{if◌then◌else◌}}
use Rattle.hc_range.specs.declared.range.Span.{Span}
use Rattle.hc_sparse.specs.declared.run.Run.{Run}
use Rattle.hc_effects.proofs.Vocabulary.{Request, Response, Need, Wait, Why, Cause, Plan, plan_of, Place, Tables, Representation, Consumer, current, reads, hi_of, source, Move, Nothing, Asks, Opens, Shows, Gives, Ends, Fails, opens_hole, plan_view, plan_move, planned_move, origin_request, conditional_on, current_row, bound_row, later_hole, reading, by_place, poll_move, need, plan}
use Rattle.hc_event.specs.declared.place.Place.TheVariants as place
use Rattle.hc_model.specs.Moves as moves
use Rattle.hc_effects.proofs.{Joining.{mix}, MoveWords.{at_as, binds_as, move_as, reading_as, waits_as}}

-- a move that asks for what its consumer reads from, or opens for its key
pub data IsNear (t : Tables) (k : Consumer) : Move → Type 0 where
  nothing : IsNear t k Nothing
  waits : (wait : Wait) → IsNear t k (moves.Waits wait)
  asks : (x : ℕ) → source t k ≡ Some x → IsNear t k (Asks x)
  opens : (x : ℕ) (n : Need) (request : Request) → request.key ≡ k.request.key → IsNear t k (Opens x n request)
  shows : (r : ℕ) (why : Why) (head : Response) (lo : ℕ) (hi : Option ℕ) → (reads k.place ≡ false → current t k.request.key ≡ Some r) →
      IsNear t k (Shows r why head lo hi)
  given : (run : Run) → IsNear t k (Gives run)
  ends : IsNear t k Ends
  fails : (cause : Cause) → IsNear t k (Fails cause)

module _ (t : Tables) (c : ℕ) (k : Consumer) where
  -- who reads already
  reading_already : {A : Type 0} (place : Place) → k.place ≡ place → reads place ≡ true → reads k.place ≡ false → A
  reading_already place at there none = absurd (let never : true ≡ false = sym there ∙ (ap reads (sym at) ∙ none) in cc)

  near_hole : (o : Option Representation) (hole : Span) → IsNear t k (opens_hole t k.request o hole)
  near_hole None hole = nothing
  near_hole (Some v) hole = opens _ _ _ refl

  near_later : (hole : Span) (o : Option ℕ) → IsNear t k (later_hole t k hole o)
  near_later hole None = nothing
  near_later hole (Some hi) = near_hole (bound_row t k) hole

  near_reading : (want : ℕ) → IsNear t k (reading t want c k)
  near_reading want = reading_as (IsNear t k) nothing t want c k ends given (λ cause due. fails cause)
      (λ x from. waits_as (IsNear t k) nothing x (waits _) (asks x from) (t.exchange x)) (λ hole. near_later hole (hi_of t k.place))

  -- PLANS

  conditional_key : (o : Option Representation) (request : Request) → (conditional_on o request).key ≡ request.key
  conditional_key o request = grind (arith, nat_tests)

  fetched_key : (n : Need) → (origin_request t k n).key ≡ k.request.key
  fetched_key need.Validate = conditional_key (current_row t k) k.request
  fetched_key _ = refl

  near_plan : (p : Plan) → IsNear t k (plan_move t k p)
  near_plan (plan.Direct n) = opens _ n _ refl
  near_plan (plan.Fetch n) = opens _ n _ (fetched_key n)
  near_plan (plan.Bind why span) = binds_as (IsNear t k) nothing t k why span (current t k.request.key) (λ r head lo hi now. shows r why head lo hi (λ _. now))
  near_plan (plan.FirstHole span hole) = near_hole (current_row t k) hole
  near_plan plan.Miss = fails _
  near_plan _ = waits _

  -- ALL MOVES

  near_other : (now want : ℕ) → IsNear t k (if k.shown then reading t want c k else planned_move t now c k)
  near_other now want = mix (IsNear t k) k.shown _ _ (near_reading want) (near_plan (plan_of (plan_view t now c k)))

  near_place : (now want : ℕ) (place : Place) → IsNear t k (by_place t now want c k place)
  near_place now want (place.Down cause) = fails cause
  near_place now want place.Over = nothing
  near_place now want _ = near_other now want

  pub near_polled : (now want : ℕ) → IsNear t k (poll_move t now want c (Some k))
  near_polled now want =
      move_as (IsNear t k) nothing t now want c k
      (λ m shown is. at_as (IsNear t k) nothing t k k.place m is (λ r why head lo hi at. shows r why head lo hi (reading_already k.place refl at.reading)))
      (λ x. waits _) (λ none bare. near_place now want k.place)
