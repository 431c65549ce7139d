-- What is kept by each real entry is kept by each owed one.
use Rattle.std.proofs.Common.{◌≡◌, false, ℕ, List, None, ap, sym, ◌∙◌, subst}
use Rattle.hc_effects.proofs.Vocabulary.{is_denied, Event, Act, Limits, denial, Entry, Flaw, flaw_in, entry_of, Measures, Owners, Tables, IsOwed, may_stand, Sound, after_accepted}
use Rattle.hc_model.specs.Laws.{KeptByEntries}
use Rattle.hc_effects.proofs.{LossBy.{IsReal}, Owed.{acts_are, goes}}

abbrev pub KeptByReal : (Tables → Type 0) → Type 0
KeptByReal P = (limits : Limits) (t : Tables) (now : ℕ) (flaw : Flaw) → Sound t → Owners t → Measures t → (ev : Event) → denial t ev ≡ None →
    IsReal limits t now ev flaw → P (after_accepted t (entry_of limits t now ev flaw))

pub of_entries : (P : Tables → Type 0) → KeptByReal P → KeptByEntries P
of_entries P keeps limits t e s o m owed not_denied =
    let acts = acts_are limits t e owed not_denied in
    let same : entry_of limits t e.now e.event (flaw_in e.acts) ≡ e = ap (λ (acts : List Act). record e { acts = acts }) (sym acts) in
    let real : IsReal limits t e.now e.event (flaw_in e.acts) = record {
      stand = ap (may_stand limits t) same ∙ owed.flaw;
      shown = ap flaw_in (sym acts);
      taken = ap is_denied (sym acts) ∙ not_denied;
    } in
    subst (λ (z : Entry). P (after_accepted t z)) same (keeps limits t e.now (flaw_in e.acts) s o m e.event (goes limits t e owed not_denied) real)

-- what holds of each real entry holds of each owed one
pub of_real : (limits : Limits) (t : Tables) (e : Entry) (Q : Entry → Type 0) → IsOwed limits t e → is_denied e.acts ≡ false →
    (denial t e.event ≡ None → IsReal limits t e.now e.event (flaw_in e.acts) → Q (entry_of limits t e.now e.event (flaw_in e.acts))) → Q e
of_real limits t e Q owed not_denied holds =
    let acts = acts_are limits t e owed not_denied in
    let same : entry_of limits t e.now e.event (flaw_in e.acts) ≡ e = ap (λ (acts : List Act). record e { acts = acts }) (sym acts) in
    let real : IsReal limits t e.now e.event (flaw_in e.acts) = record {
      stand = ap (may_stand limits t) same ∙ owed.flaw;
      shown = ap flaw_in (sym acts);
      taken = ap is_denied (sym acts) ∙ not_denied;
    } in
    subst Q same (holds (goes limits t e owed not_denied) real)
