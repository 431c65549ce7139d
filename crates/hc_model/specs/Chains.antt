-- That waits end: from a wait for the turn, or for one who reads, a chain goes on to what that one is answered.
use Rattle.std.specs.Prelude.{◌≡◌, ℕ, zero, suc, ◌<◌, true}
use Rattle.hc_event.specs.declared.act.Wait.{Wait}
use Rattle.hc_event.specs.declared.act.Wait.TheVariants as wait
use Rattle.hc_model.specs.Rows.{Tables}
use Rattle.hc_model.specs.Denials.{is_live}
use Rattle.hc_model.specs.Exchanges.{is_wanted}
use Rattle.hc_model.specs.Moves.{Move, Nothing, Waits}
use Rattle.hc_model.specs.Polls.{poll_move}

-- a wait for an exchange ends there, if that is open and has no head or was asked; from a wait for a
-- consumer the chain goes on
abbrev pub WaitEnds : (ℕ → Type 0) → Tables → Wait → Type 0
WaitEnds GoesOn t (wait.Head x) = is_wanted (t.exchange x) ≡ true
WaitEnds GoesOn t (wait.Body x) = is_wanted (t.exchange x) ≡ true
WaitEnds GoesOn t (wait.Turn d) = GoesOn d
WaitEnds GoesOn t (wait.Busy d) = GoesOn d

-- who does anything but wait has ended it
abbrev pub MoveEnds : (ℕ → Type 0) → Tables → Move → Type 0
MoveEnds GoesOn t Nothing = ⊥
MoveEnds GoesOn t (Waits z) = WaitEnds GoesOn t z
MoveEnds GoesOn t _ = Unit {0}

-- a live consumer, of which each poll at this moment ends it
pub record PollsEnd (ends : Move → Type 0) (t : Tables) (now d : ℕ) : Type 0 where
  pub live : is_live (t.consumer d) ≡ true
  pub polls : (want : ℕ) → 0 < want → ends (poll_move t now want d (t.consumer d))

-- the chain ends behind so many more consumers at most
abbrev pub ChainEnds : ℕ → Tables → ℕ → Move → Type 0
ChainEnds zero t now move = MoveEnds (λ d. ⊥) t move
ChainEnds (suc n) t now move = MoveEnds (λ d. PollsEnd (ChainEnds n t now) t now d) t move

-- Whatever a live consumer is answered at any moment, it does something, or waits: for an exchange,
-- or behind one or two consumers that do something or wait for one.
abbrev pub ChainsEnd : Tables → Type 0
ChainsEnd t =
    (now c want : ℕ) → is_live (t.consumer c) ≡ true → 0 < want →
    ChainEnds 2 t now (poll_move t now want c (t.consumer c))
