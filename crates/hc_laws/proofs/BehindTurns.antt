-- Behind whom a plan waits for its turn: behind another who has it.
--
-- Of plans only that of a wait names somebody, and that is another who has the turn (`bare_fine`, `behind_turn`).
-- Who has the turn is who holds it, or the least in line, so it stands in the line of its key
-- (`turn_stands`). With one more in the line the least may be that one; if it isn't, it was the least without it
-- (`another`, `turn_without`). ChainRuns follows waits by these.
use Rattle.std.{proofs.{lemmas.Bool.Decides.{nat_tests}, Common.{◌≡◌, ℕ, List, Bool, true, false, Option, Some, None, refl, ap, sym, ◌∙◌, arith}}, specs.{Prelude.{is_none, nat_eq, not, unwrap_or, ◌&&◌}, Option.{option_or}}}
use Rattle.hc_text.proofs.Basics.{and_left, and_right, either, not_true}
use Rattle.hc_effects.proofs.Vocabulary.{need, plan, Why, Candidate, Plan, PlanView, Wanted, least, lesser, plan_of, bare_plan, in_time, from_store, queues, by_current, by_why, by_wanted, why_by, Place, is_live_place, turn, turn_with, holder, holds_turn, line, is_in_line, stands_in_line, Tables, Consumer, Among}
use Rattle.hc_rules.proofs.RangeReads.{same_bytes}
use Rattle.hc_effects.proofs.{Basics.{false_true}, HadKeeps.{among_least}, Joining.{mix}, Sums.{filter_among}}
use Rattle.hc_laws.proofs.FitsRuns.{find_among}

-- PLANS

-- another has the turn
pub record IsBehind (v : PlanView) (d : ℕ) : Type 0 where
  pub turn_is : v.turn ≡ d
  pub other : nat_eq v.turn v.c ≡ false

abbrev is_turn : Plan → Bool
is_turn (plan.Turn d) = true
is_turn _ = false

module _ (v : PlanView) where
  abbrev Fine : Plan → Type 0
  Fine p = (d : ℕ) → p ≡ plan.Turn d → IsBehind v d

  other_fine : (p : Plan) → is_turn p ≡ false → Fine p
  other_fine p off d is = absurd (false_true (sym off ∙ ap is_turn is))

  module _ (s : Candidate) (why : Why) where
    wanted_fine : (w : Wanted) → Fine (by_wanted v s why w)
    wanted_fine w = grind (arith, nat_tests)

  why_fine : (s : Candidate) (o : Option Why) → Fine (by_why v s o)
  why_fine s None = other_fine _ refl
  why_fine s (Some why) = mix Fine (is_none v.class.range && s.writer_group) (plan.Bind why None) _ (other_fine (plan.Bind why None) refl)
      (wanted_fine s why s.span)

  current_fine : (o : Option Candidate) → Fine (by_current v o)
  current_fine None = other_fine _ refl
  current_fine (Some s) = mix Fine s.vary _ _ (why_fine s (why_by v.kept s.allowed)) (other_fine _ refl)

  bare_fine : Fine (bare_plan v)
  bare_fine =
      mix Fine v.class.disabled _ _ (other_fine _ refl)
      (either Fine (queues v) _ _
      (λ waits d is. record { turn_is = cc; other = not_true (nat_eq v.turn v.c) (and_right _ (not (nat_eq v.turn v.c)) (and_left _ _ waits)) })
      (λ goes. mix Fine v.class.bypassing _ _ (other_fine _ refl) (current_fine v.current)))

  abbrev past : Plan
  past = plan.Direct need.TimedOut

  in_time_fine : (p : Plan) → Fine p → Fine (in_time v p)
  in_time_fine p fine = grind (arith, nat_tests)

  from_store_fine : (p : Plan) → Fine (from_store p)
  from_store_fine p = grind (arith, nat_tests)

  pub behind_turn : (d : ℕ) → plan_of v ≡ plan.Turn d → IsBehind v d
  unfolding plan_of
  behind_turn = mix Fine v.class.only _ _ (from_store_fine (bare_plan v)) (in_time_fine (bare_plan v) bare_fine)

-- WHO HAS THE TURN

-- it stands in the line of the key
pub record StandsInLine (t : Tables) (key : List ℕ) (d : ℕ) : Type 0 where
  pub k : Consumer
  pub row : t.consumer d ≡ Some k
  pub of_key : k.request.key ≡ key
  pub live : is_live_place k.place ≡ true

live_there : (p : Place) → stands_in_line p ≡ true → is_live_place p ≡ true
live_there p stands = grind (arith, nat_tests)

stands_at : (t : Tables) (key : List ℕ) (d : ℕ) (o : Option Consumer) → t.consumer d ≡ o → is_in_line key o ≡ true → StandsInLine t key d
stands_at t key d o row stands = grind (arith, nat_tests, and_left, same_bytes, live_there, and_right)

in_line : (t : Tables) (key : List ℕ) (d : ℕ) → Among d (line t key) → StandsInLine t key d
unfolding line
in_line t key d there = stands_at t key d (t.consumer d) refl (filter_among (λ c. is_in_line key (t.consumer c)) d t.starts there).1

turn_by : (t : Tables) (key : List ℕ) (d : ℕ) (o : Option ℕ) → holder t key ≡ o → option_or o (least (line t key)) ≡ Some d → Among d (line t key)
turn_by t key d None none is = among_least (line t key) d is
turn_by t key d (Some h) held is = find_among (λ c. holds_turn (t.consumer c)) (line t key) d (held ∙ is)

-- who has the turn stands in the line
pub turn_stands : (t : Tables) (key : List ℕ) (d : ℕ) → turn t key ≡ Some d → StandsInLine t key d
unfolding turn
turn_stands t key d is = in_line t key d (turn_by t key d (holder t key) refl is)

another : (held least_one : Option ℕ) (c d : ℕ) → unwrap_or (option_or held (lesser least_one c)) c ≡ d → nat_eq d c ≡ false → option_or held least_one ≡ Some d
another (Some h) least_one c d is other = ap Some is
another None None c d is other = absurd (same_not c d is other)
  where
    same_not : (a b : ℕ) → a ≡ b → nat_eq b a ≡ false → ⊥
    same_not a b is other = grind (arith, nat_tests)
another None (Some m) c d is other = grind (arith, nat_tests)

-- if it isn't one's own with one in the line, it is another's without
pub turn_without : (t : Tables) (key : List ℕ) (c d : ℕ) → turn_with t key c ≡ d → nat_eq d c ≡ false → turn t key ≡ Some d
unfolding turn
turn_without t key c d is other = another (holder t key) (least (line t key)) c d is other
