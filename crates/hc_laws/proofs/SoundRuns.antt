-- Runs are sound, their owners are known and their bodies measured: the induction over a run.
use Rattle.std.proofs.Common.{◌≡◌, List, Bool, true, false, refl, ap, sym, ◌∙◌, subst}
use Rattle.hc_effects.proofs.Vocabulary.{is_denied, Act, Limits, Entry, flaw_in, entry_of, OfRuns, Measures, Owners, Tables, IsOwed, may_stand, Sound, tables, after, after_accepted}
use Rattle.hc_model.specs.Sound.{RunsAreSound}
use Rattle.hc_laws.proofs.{Begins.{begun_sound}, BesideKeeps.{beside_begun, beside_denied, beside_kept}, DeniedKeeps.{denied_sound, denied_owners, denied_measures}, GoAlone.{go_alone}, MeasuresBegin.{measures_begin}, OwnersKept.{owners_begun, owners_kept}, SoundKept.{sound_kept}, Starts.{starts}}
use Rattle.hc_effects.proofs.{Beside.{IsBeside}, EndsKeep.{measures_kept}, LossBy.{IsReal}, Owed.{acts_are, goes}, Runs.{by_entries}, Step.{step_of}}

-- what is carried along a run
pub record IsCarried (t : Tables) : Type 0 where
  pub is_sound : Sound t
  pub is_owned : Owners t
  pub is_measured : Measures t
  pub beside : IsBeside t

accepted_carried : (limits : Limits) (t : Tables) (e : Entry) → IsCarried t → IsOwed limits t e → is_denied e.acts ≡ false → IsCarried (after_accepted t e)
accepted_carried limits t e c owed not_denied =
    let acts = acts_are limits t e owed not_denied in
    let going = goes limits t e owed not_denied in
    let same : entry_of limits t e.now e.event (flaw_in e.acts) ≡ e = ap (λ (acts : List Act). record e { acts = acts }) (sym acts) in
    let stand : may_stand limits t (entry_of limits t e.now e.event (flaw_in e.acts)) ≡ true = ap (may_stand limits t) same ∙ owed.flaw in
    let real : IsReal limits t e.now e.event (flaw_in e.acts) =
    record { stand = stand; shown = ap flaw_in (sym acts); taken = ap is_denied (sym acts) ∙ not_denied } in
    subst (λ (z : Entry). IsCarried (after_accepted t z)) same (record {
      is_sound = sound_kept limits t e.now (flaw_in e.acts) c.is_sound c.is_owned c.is_measured e.event going real
          (go_alone (step_of limits t e.now (flaw_in e.acts) c.is_sound c.is_owned e.event going) c.is_measured c.beside real);
      is_owned = owners_kept limits t e.now (flaw_in e.acts) c.is_sound c.is_owned e.event going stand;
      is_measured = measures_kept (step_of limits t e.now (flaw_in e.acts) c.is_sound c.is_owned e.event going) c.is_measured;
      beside = beside_kept limits t e.now (flaw_in e.acts) c.is_sound c.is_owned c.is_measured c.beside e.event going real;
    })

step : (limits : Limits) (t : Tables) (e : Entry) (b : Bool) → is_denied e.acts ≡ b → IsCarried t → IsOwed limits t e → IsCarried (after t e)
unfolding after
step limits t e true denied c owed =
    rw denied (record {
      is_sound = denied_sound t e c.is_sound;
      is_owned = denied_owners t e c.is_owned;
      is_measured = denied_measures t e c.is_measured;
      beside = beside_denied t e c.beside;
    })
step limits t e false denied c owed = rw denied (accepted_carried limits t e c owed denied)

pub carried : OfRuns IsCarried
unfolding tables
carried limits contents h may run =
    by_entries limits contents (λ h. IsCarried (tables contents h))
    (record {
      is_sound = begun_sound contents (starts limits contents may);
      is_owned = owners_begun contents;
      is_measured = measures_begin
          limits contents may;
      beside = beside_begun contents;
    })
    (λ h e run before. step limits (tables contents h) e (is_denied e.acts) refl before run.1) h run

-- Every run is sound.
pub runs_are_sound : RunsAreSound
runs_are_sound limits contents h may run = (carried limits contents h may run).is_sound

pub owners_in_runs : OfRuns Owners
owners_in_runs limits contents h may run = (carried limits contents h may run).is_owned

pub measures_in_runs : OfRuns Measures
measures_in_runs limits contents h may run = (carried limits contents h may run).is_measured
