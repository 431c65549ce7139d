-- Where its poll doesn't misread, nobody fails for a failed read of the store.
use Rattle.std.proofs.Common.{◌≡◌, ℕ, false, Option, Some, None, ap, sym, ◌∙◌}
use Rattle.hc_range.specs.declared.range.Span.{Span}
use Rattle.hc_effects.proofs.Vocabulary.{Request, Cause, Plan, plan_of, current, Move, Nothing, Ends, Fails, Gives, opens_hole, Places, is_failed_read, plan_view, plan_move, current_row, move_of, hi_of, Tables, Representation, Consumer, Sound, later_hole, bound_row, reading, cause, wait, plan}
use Rattle.hc_model.specs.Moves as moves
use Rattle.hc_effects.proofs.{MoveBy.{MoveBy, move_by}, MoveWords.{at_as, binds_as, hole_as, reading_as, waits_as}}
use Rattle.hc_effects.proofs.MoveBy as by

module _ (t : Tables) (now want c : ℕ) (k : Consumer) (why : Cause) where
  cause_is : (other : Cause) → Fails other ≡ Fails why → other ≡ why
  cause_is other is = cc

  hole_fails : (request : Request) (hole : Span) (o : Option Representation) → opens_hole t request o hole ≡ Fails why → ⊥
  hole_fails request hole o = hole_as (λ m. m ≡ Fails why → ⊥) (λ is. cc) t request hole o (λ v row is. cc)

  later_fails : (hole : Span) (hi : Option ℕ) → later_hole t k hole hi ≡ Fails why → ⊥
  later_fails hole None is = cc
  later_fails hole (Some hi) is = hole_fails k.request hole (bound_row t k) is

  -- a step that fails is told what is due
  reported_reading : reading t want c k ≡ Fails why → k.due ≡ Some why
  reported_reading =
      reading_as (λ m. m ≡ Fails why → k.due ≡ Some why) (λ is. absurd (let no : Nothing ≡ Fails why = is in cc)) t want c k
      (λ is. absurd (let no : Ends ≡ Fails why = is in cc)) (λ run is. absurd (let no : Gives run ≡ Fails why = is in cc))
      (λ z due is. due ∙ ap Some (cause_is z is))
      (λ x from is. absurd (waits_as (λ m. m ≡ Fails why → ⊥) (λ is. cc) x (λ is. cc) (λ is. cc) (t.exchange x) is))
      (λ hole is. absurd (later_fails hole (hi_of t k.place) is))

  reported_plan : (p : Plan) → plan_move t k p ≡ Fails why → cause.Miss ≡ why
  reported_plan (plan.Bind reason span) is =
      absurd (binds_as (λ m. m ≡ Fails why → ⊥) (λ is. cc) t k reason span (current t k.request.key) (λ r head lo hi now is. cc) is)
  reported_plan (plan.FirstHole span hole) is = absurd (hole_fails k.request hole (current_row t k) is)
  reported_plan plan.Miss is = cause_is cause.Miss is
  reported_plan p is = absurd (let never : plan_move t k p ≡ Fails why = is in cc)

  by_move : (m : Move) → Places t → t.consumer c ≡ Some k → MoveBy t now want c k m → m ≡ Fails why → is_failed_read (Some why) ≡ false
  by_move m p row (by.shows _ shown at) is = absurd (at_as (λ n. n ≡ Fails why → ⊥) (λ is. cc) t k k.place m at (λ r reason head lo hi there is. cc) is)
  by_move _ p row (by.waits x own bare) is = absurd (let never : moves.Waits (wait.Head x) ≡ Fails why = is in cc)
  by_move _ p row (by.down other at) is = ap (λ z. is_failed_read (Some z)) (sym (cause_is other is)) ∙ p.down_reported c other k row at
  by_move _ p row (by.over at) is = absurd (let never : Nothing ≡ Fails why = is in cc)
  by_move _ p row (by.reads shown heard) is = ap is_failed_read (sym (reported_reading is)) ∙ p.reported c k row
  by_move _ p row (by.plans shown free none heard) is = ap (λ z. is_failed_read (Some z)) (sym (reported_plan (plan_of (plan_view t now c k)) is))

  pub fails_reported : Sound t → Places t → t.consumer c ≡ Some k → move_of t now want c k ≡ Fails why → is_failed_read (Some why) ≡ false
  fails_reported s p row is = by_move (move_of t now want c k) p row (move_by t now want c k s row) is
