-- A poll that gives is one of a reader, and wants something.
use Rattle.std.proofs.{lemmas.Bool.Decides.{nat_tests}, Common.{◌≡◌, ℕ, zero, suc, ◌<◌, true, None, ap, sym, ◌∙◌, arith}}
use Rattle.hc_sparse.specs.declared.run.Run.{Run}
use Rattle.hc_effects.proofs.Vocabulary.{wait, event, Event, denial, Move, Nothing, Gives, Fails, Tables, Consumer, reading}
use Rattle.hc_rules.specs.Refusals as refusals
use Rattle.hc_model.specs.Moves as moves
use Rattle.hc_effects.proofs.{Basics.{false_true}, MoveBy.{MoveBy}}
use Rattle.hc_effects.proofs.MoveBy as by_move

module _ (t : Tables) (c : ℕ) where
  zero_refused : denial t (event.Poll c 0) ≡ None → ⊥
  unfolding refusals.refusal_of
  zero_refused h = grind (arith, nat_tests)

  pub some_want : (want : ℕ) (ev : Event) → denial t ev ≡ None → ev ≡ event.Poll c want → 0 < want
  some_want zero ev goes at = absurd (zero_refused (sym (ap (denial t) at) ∙ goes))
  some_want (suc n) ev goes at = omega arith

pub gives_of : (t : Tables) (now c want : ℕ) (k : Consumer) (run : Run) (m : Move) → MoveBy t now want c k m → m ≡ Gives run → k.shown ≡ true →
    reading t want c k ≡ Gives run
gives_of t now c want k run m (by_move.shows _ unshown at) is on = absurd (false_true (sym unshown ∙ on))
gives_of t now c want k run _ (by_move.waits x own bare) is on = absurd (let no : moves.Waits (wait.Head x) ≡ Gives run = is in cc)
gives_of t now c want k run _ (by_move.down why_down at) is on = absurd (let no : Fails why_down ≡ Gives run = is in cc)
gives_of t now c want k run _ (by_move.over at) is on = absurd (let no : Nothing ≡ Gives run = is in cc)
gives_of t now c want k run _ (by_move.reads shown_on heard) is on = is
gives_of t now c want k run _ (by_move.plans unshown free none heard) is on = absurd (false_true (sym unshown ∙ on))
