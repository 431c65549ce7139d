-- What one list of acts says of a representation or a consumer.
use Rattle.std.specs.Prelude.{ℕ, List, [], ◌∷◌, Bool, true, false, Option, Some, None, if◌then◌else◌, ◌==◌, ◌||◌}
use Rattle.hc_event.specs.declared.act.Act.{Act}
use Rattle.hc_event.specs.declared.act.Act.TheVariants as act
use Rattle.hc_event.specs.declared.act.Cause.{Cause}
use Rattle.hc_event.specs.declared.act.Cause.TheVariants as cause
use Rattle.hc_event.specs.declared.act.Wait.{Wait}

-- r is lost among these acts
abbrev pub loses_in : ℕ → List Act → Bool
loses_in r [] = false
loses_in r (act.Lost q kind ∷ acts) = q == r || loses_in r acts
loses_in r (_ ∷ acts) = loses_in r acts

-- something is lost among these acts
abbrev pub has_loss : List Act → Bool
has_loss [] = false
has_loss (act.Lost q kind ∷ acts) = true
has_loss (_ ∷ acts) = has_loss acts

-- the acts but for what is lost
abbrev pub without_losses : List Act → List Act
without_losses [] = []
without_losses (act.Lost r kind ∷ acts) = without_losses acts
without_losses (act ∷ acts) = act ∷ without_losses acts

abbrev pub is_misread : ℕ → Cause → Bool
is_misread r (cause.StoreRead q) = q == r
is_misread r _ = false

-- a read of r fails among these acts
abbrev pub misreads_in : ℕ → List Act → Bool
misreads_in r [] = false
misreads_in r (act.Failed c cause ∷ acts) = is_misread r cause || misreads_in r acts
misreads_in r (_ ∷ acts) = misreads_in r acts

-- c fails among these acts
abbrev pub fails_in : ℕ → List Act → Bool
fails_in c [] = false
fails_in c (act.Failed d cause ∷ acts) = d == c || fails_in c acts
fails_in c (_ ∷ acts) = fails_in c acts

-- who ends or fails among these acts. There is one at most
abbrev pub leaver_in : List Act → Option ℕ
leaver_in [] = None
leaver_in (act.Ended c ∷ acts) = Some c
leaver_in (act.Failed c cause ∷ acts) = Some c
leaver_in (_ ∷ acts) = leaver_in acts

-- what c is to wait for
abbrev pub wait_in : ℕ → List Act → Option Wait
wait_in c [] = None
wait_in c (act.Pending d wait ∷ acts) = if d == c then Some wait else wait_in c acts
wait_in c (_ ∷ acts) = wait_in c acts

-- a head that is shown: to whom, of which representation, and of which of its bytes
pub record Showing : Type 0 where
  pub c : ℕ
  pub r : ℕ
  pub lo : ℕ
  pub hi : Option ℕ

-- the head that is shown among these acts. There is one at most
abbrev pub showing_in : List Act → Option Showing
showing_in [] = None
showing_in (act.Shown c r why status fields lo hi ∷ acts) =
    Some (record { c = c; r = r; lo = lo; hi = hi })
showing_in (_ ∷ acts) = showing_in acts
